-- Where a rank has seen the end, nothing waits.
use Rattle.circle_run.proofs.Prelude.{◌≡◌, ℕ, ◌<◌, ⊎_elim, refl, sym, subst, ap, ◌∙◌, arith, true, false, IsTrue, List, [], ◌∷◌, length, None, cases_lt}
use Rattle.circle_run.proofs.Prelude.{nil_from_length, get_or_past, get_or-le-sum_by, RankState, Event, Seen, fresh, rank_of, started, held, queued_in}
use Rattle.circle_run.proofs.Prelude.{on_way_in, refused, after, after_all, IsRun, HoldsSome, NoEmptyBatch, Strings, Mail, vacant, asked, full, empty, Place}
use Rattle.circle_run.proofs.Prelude.{no_place, place, is_full, Move, RankSide, Stage, no_side, rank_side, Plays, events_of_all, begun, desk_of, NothingWaits}
use Rattle.circle_run.proofs.Prelude.{Options}
use Rattle.circle_run.proofs.Deeds.{Shape}
use Rattle.circle_run.proofs.Runs.{queues, FromStart, from_start}

some_kept : (kept : (world : Seen) (event : Event) → refused world event ≡ None → NoEmptyBatch world.0 → NoEmptyBatch (after world event).0)
    → (events : List Event) (w : Seen) → IsRun w events → NoEmptyBatch w.0 → NoEmptyBatch (after_all w events).0
some_kept kept [] w run some = some
some_kept kept (event ∷ events) w (legal, run) some = some_kept kept events (after w event) run (kept w event legal some)

-- a mailbox that would hold some strings, and holds none, is not full
holds_none : (m : Mail) → HoldsSome (desk_of m) → held (desk_of m) ≡ 0 → is_full m ≡ false
holds_none vacant some none = refl
holds_none (asked r) some none = refl
holds_none (full r b) some none = absurd (omega arith)
holds_none (empty r) some none = refl

pub nothing_waits_at_end :
    (early : (n starts : ℕ) (events : List Event) (r : ℕ) → IsRun (started n starts) events
    → IsTrue (rank_of (after_all (started n starts) events).0 r).ended
    → (queued_in (after_all (started n starts) events).0 ≡ 0) × (on_way_in (after_all (started n starts) events).0 ≡ 0))
    → (start : (n starts : ℕ) → NoEmptyBatch (started n starts).0)
    → (kept : (world : Seen) (event : Event) → refused world event ≡ None → NoEmptyBatch world.0 → NoEmptyBatch (after world event).0)
    → (o : Options) (starts : Strings) (moves : List (ℕ × Move)) (stage : Stage) (r : ℕ) → o.stop_after ≡ None
    → Plays o moves (begun o starts) stage → (place stage.told r).ended ≡ true → NothingWaits stage
nothing_waits_at_end early start kept o starts moves stage r endless plays ended =
    let f : FromStart o starts moves stage = from_start o starts moves stage endless plays in
    let end : Seen = after_all (started o.ranks (length starts)) (events_of_all moves) in
    let shape : Shape stage.told (queues stage.ranks) end.0 = f.reaches.shows.shape in
    let inside : r < length end.0 = ⊎_elim (λ h. h)
    (λ past. (let e : true ≡ false = sym ended
    ∙ ap (λ (x : Place). x.ended) (get_or_past stage.told.places r no_place (let s = shape.sized in omega arith)) in cc))
    (cases_lt r (length end.0)) in
    let none = early o.ranks (length starts) (events_of_all moves) r f.reaches.run (ap (λ (x : RankState). x.ended) (shape.states r inside) ∙ ended) in
    let some : NoEmptyBatch end.0 = some_kept kept (events_of_all moves) (started o.ranks (length starts)) f.reaches.run (start o.ranks (length starts)) in
    record {
      queues = λ k. ⊎_elim
          (λ below. nil_from_length (rank_side stage k).queue
          (let e : (rank_of end.0 k).queued ≡ length (rank_side stage k).queue = ap (λ (x : RankState). x.queued) (shape.states k below) in
          let few = get_or-le-sum_by (λ (x : RankState). x.queued) end.0 k (fresh 0) below in omega (arith, none.0)))
          (λ past. ap (λ (x : RankSide). x.queue) (get_or_past stage.ranks k no_side (let s = f.as_many in omega arith))) (cases_lt k (length end.0));
      mailboxes = λ k. ⊎_elim
          (λ below. holds_none (place stage.told k).mail
          (subst (λ (x : RankState). HoldsSome x.desk) (shape.states k below) (some k))
          (let e : held (rank_of end.0 k).desk ≡ held (desk_of (place stage.told k).mail) = ap (λ (x : RankState). held x.desk) (shape.states k below) in
          let few = get_or-le-sum_by (λ (x : RankState). held x.desk) end.0 k (fresh 0) below in omega (arith, none.1)))
          (λ past. ap (λ (x : Place). is_full x.mail) (get_or_past stage.told.places k no_place (let s = shape.sized in omega arith)))
          (cases_lt k (length end.0));
    }
