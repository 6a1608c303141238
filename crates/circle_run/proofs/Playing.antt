-- The turns of ranks in rounds are played, one behind the other.
use Rattle.circle_run.proofs.Prelude.{◌≡◌, ℕ, suc, ◌+◌, ◌*◌, ◌%◌, ◌<◌, refl, sym, subst, ap, ◌∙◌, arith, Bool, true, false, cond, List, [], ◌∷◌, ◌++◌, length}
use Rattle.circle_run.proofs.Prelude.{length-set, set, get_or, append_assoc, append-nil, mul-suc, mul-zero, Option, Some, None, mul-add-mod_self_left}
use Rattle.circle_run.proofs.Prelude.{mod-eq_of_lt, get_or-map, map-set, length-map, length_push, get_or_read, get_or_default, flat_map, Event, Shown, Told}
use Rattle.circle_run.proofs.Prelude.{Log, Move, Side, events_of, RankSide, Stage, no_side, rank_side, side, Plays, events_of_all, counted, moves_in}
use Rattle.circle_run.proofs.Prelude.{moves_of_turns, DoesAll, events_by, AreAll, MayIdleIfTold, Turning, stage_of, Ran, KeptByEach, KeptInOrder, Share}
use Rattle.circle_run.proofs.Prelude.{Options, Rank}
use Rattle.circle_run.specs.Hosts.{rank_of}
use Rattle.circle_run.specs.Ranks.{side as own_side}
use Rattle.circle_run.proofs.Stepped.{counted_then, kept_then}
use Rattle.circle_run.proofs.Staged.{bare, all_bare, stage, Staged, staged, turns_more, moves_more, events_by_own, events_by_other, events_of_turn}
use Rattle.circle_run.proofs.Staged.{events_of_all-append}
use Rattle.circle_run.proofs.Rounds.{moved_on, each-set}

abbrev told_side : RankSide → Option Told → Side
told_side x u = record { queue = x.queue; log = x.log; draws = x.draws; batches = None; told = u }

abbrev rank_in : Side → RankSide
rank_in s = record { queue = s.queue; log = s.log; draws = s.draws }

pub nothing : (b : Bool) (xs : List Event) → xs ≡ xs ++ cond b [] []
nothing true xs = sym (append-nil xs)
nothing false xs = sym (append-nil xs)

-- all events stand in one list
pub order_first : (o : Options) (events : List Event) → events ≡ [] → KeptInOrder o events []
order_first o events none = none ∙ nothing o.trace []

module _ {J S T P D : Type 0} (log : J → Log) (plain : J → D) (shows : S → Shown) (tells : P → Option Told) (seats : P → S → Type 0) where
  -- the moves of a rank's turn are played from the stage of all ranks
  pub record Next (o : Options) (k : ℕ) (turn : List Move) (ranks : List (Rank J S T)) (told : Told) (r2 : Rank J S T) (p' : P) : Type 0 where
    pub told' : Told
    pub after : tells p' ≡ Some told'
    pub plays : Plays o (moves_in k turn) (stage_of log tells ranks told) (stage_of log tells (set ranks k r2) told')

  next : (o : Options) (k : ℕ) (ranks : List (Rank J S T)) (told : Told) (r : Rank J S T) (p : P) (r1 : Rank J S T) (p' : P)
      (r2 : Rank J S T) → k < length ranks → r ≡ get_or ranks k r → r.me ≡ k → r.options ≡ o → tells p ≡ Some told
      → (w : Turning log plain shows tells seats r p r1 p') → moved_on r1 r2 → Next o k w.turn ranks told r2 p'
  next o k ranks told r p r1 p' r2 inside is me options after w moved =
      let from : Stage = stage_of log tells ranks told in
      let at : rank_side from k ≡ rank_of log tells r = get_or-map (rank_of log tells) ranks k r no_side inside ∙ ap (rank_of log tells) (sym is) in
      let first : bare (own_side log plain shows tells seats r p) ≡ side (rank_side from k) told =
      ap (told_side (rank_of log tells r)) after ∙ ap (λ (z : RankSide). side z told) (sym at) in
      let last : Side = bare (own_side log plain shows tells seats r1 p') in
      let does : DoesAll r.options r.me w.turn (bare (own_side log plain shows tells seats r p)) last =
      all_bare r.options r.me w.turn (own_side log plain shows tells seats r p) (own_side log plain shows tells seats r1 p') w.does in
      let does' : DoesAll o k w.turn (side (rank_side from k) told) last =
      subst (λ (s : Side). DoesAll o k w.turn s last) first (subst (λ (n : ℕ). DoesAll o n w.turn (bare (own_side log plain shows tells seats r p)) last) me
      (subst (λ (q : Options). DoesAll q r.me w.turn (bare (own_side log plain shows tells seats r p)) last) options does)) in
      let s : Staged o k w.turn from last = staged o k w.turn from last (let l = length-map ranks (rank_of log tells) in omega arith) does' in
      let rank_is : s.rank ≡ rank_of log tells r2 = sym (ap (rank_of log tells) moved ∙ ap rank_in s.is) in
      record {
        told' = s.told;
        after = ap (λ (z : Side). z.told) s.is;
        plays = subst (Plays o (moves_in k w.turn) from)
            (ap (λ (xs : List RankSide). stage xs s.told) (ap (set from.ranks k) rank_is ∙ sym (map-set (rank_of log tells) ranks k r2))) s.plays;
      }

  -- the turns so far, of which so many are of the round that goes on
  pub record Going (Kept : List (ℕ × Move) → Type 0) (o : Options) (t : Told) (ranks0 ranks : List (Rank J S T)) (p : P) (k : ℕ) : Type 0 where
    pub ran : Ran log tells Kept o t ranks0 ranks p
    pub rounds : ℕ
    pub long : length ran.turns ≡ o.ranks * rounds + k

  pub going_first : (Kept : List (ℕ × Move) → Type 0) (o : Options) (t : Told) (ranks : List (Rank J S T)) (p : P) → tells p ≡ Some t
      → Kept [] → Going Kept o t ranks ranks p 0
  going_first Kept o t ranks p after kept = record {
    ran = record { turns = []; told = t; after = after; plays = refl; shares = λ k d h. refl; kept = kept };
    rounds = 0;
    long = (let z = mul-zero o.ranks in omega arith);
  }

  pub going_round : (Kept : List (ℕ × Move) → Type 0) (o : Options) (t : Told) (ranks0 ranks : List (Rank J S T)) (p : P) (k : ℕ)
      → k ≡ o.ranks → Going Kept o t ranks0 ranks p k → Going Kept o t ranks0 ranks p 0
  going_round Kept o t ranks0 ranks p k all old = record {
    ran = old.ran;
    rounds = suc old.rounds;
    long = (let l = old.long in let m = mul-suc o.ranks old.rounds in omega arith);
  }

  share_more : (o : Options) (k : ℕ) (r : Rank J S T) (p : P) (r1 : Rank J S T) (p' : P) (r2 : Rank J S T) (moves moves' : List (ℕ × Move))
      (s : Share) → r.me ≡ k → (w : Turning log plain shows tells seats r p r1 p') → moved_on r1 r2
      → moves' ≡ moves ++ moves_in k w.turn → r.book.share ≡ counted (events_by k moves) s → r2.book.share ≡ counted (events_by k moves') s
  share_more o k r p r1 p' r2 moves moves' s me w moved more old =
      ap (λ (x : Rank J S T). x.book.share) moved ∙ w.share ∙ ap (λ (n : ℕ). counted (flat_map (events_of n) w.turn) r.book.share) me
      ∙ ap (counted (flat_map (events_of k) w.turn)) old ∙ sym (counted_then (events_by k moves) (flat_map (events_of k) w.turn) s)
      ∙ ap (λ (es : List Event). counted es s) (sym (ap (events_by k) more ∙ events_by_own k moves w.turn))

  pub going_more : (Kept Kept' : List (ℕ × Move) → Type 0) (o : Options) (t : Told) (ranks0 ranks : List (Rank J S T)) (p p' : P) (k : ℕ)
      (r r1 r2 : Rank J S T) → AreAll o ranks → length ranks ≡ length ranks0 → k < length ranks → r ≡ get_or ranks k r
      → (w : Turning log plain shows tells seats r p r1 p') → moved_on r1 r2
      → ((moves : List (ℕ × Move)) → Kept moves → Kept' (moves ++ moves_in k w.turn)) → Going Kept o t ranks0 ranks p k
      → Going Kept' o t ranks0 (set ranks k r2) p' (k + 1)
  going_more Kept Kept' o t ranks0 ranks p p' k r r1 r2 all count inside is w moved keeps old =
      let was : (d : Rank J S T) → get_or ranks k d ≡ r = λ d. sym (get_or_read ranks k r inside is d) in
      let me : r.me ≡ k = ap (λ (x : Rank J S T). x.me) is ∙ (all.each k r inside).0 in
      let options : r.options ≡ o = ap (λ (x : Rank J S T). x.options) is ∙ (all.each k r inside).1 in
      let below : k < o.ranks = (let c = all.count in omega arith) in
      let ran = old.ran in
      let new : Next o k w.turn ranks ran.told r2 p' = next o k ranks ran.told r p r1 p' r2 inside is me options ran.after w moved in
      let own : (0 + length ran.turns) % o.ranks ≡ k =
      ap (λ (q : ℕ). q % o.ranks) (let l = old.long in let z : 0 + length ran.turns ≡ o.ranks * old.rounds + k = omega arith in z)
      ∙ mul-add-mod_self_left o.ranks old.rounds k ∙ mod-eq_of_lt below in
      let moves : List (ℕ × Move) = moves_of_turns o.ranks 0 ran.turns in
      let moves' : List (ℕ × Move) = moves_of_turns o.ranks 0 (ran.turns ++ w.turn ∷ []) in
      let more : moves' ≡ moves ++ moves_in k w.turn = moves_more o.ranks 0 ran.turns w.turn k own in
      record {
        ran = record {
          turns = ran.turns ++ w.turn ∷ [];
          told = new.told';
          after = new.after;
          plays = turns_more o 0 ran.turns w.turn k (stage_of log tells ranks0 t) (stage_of log tells ranks ran.told)
              (stage_of log tells (set ranks k r2) new.told') own ran.plays w.last new.plays
              (λ none. subst (λ (u : Option Told). MayIdleIfTold k u (Some new.told')) ran.after
              (subst (λ (u : Option Told). MayIdleIfTold k (tells p) u) new.after (subst (λ (q : ℕ). MayIdleIfTold q (tells p) (tells p')) me
              (w.idle (ap (λ (q : ℕ). flat_map (events_of q) w.turn) me ∙ sym (events_of_turn k w.turn) ∙ none)))));
          shares = λ j d h. each-set (λ (i : ℕ) (x : Rank J S T). x.book.share ≡ counted (events_by i moves') (get_or ranks0 i d).book.share) ranks k r2
              (share_more o k r p r1 p' r2 moves moves' (get_or ranks0 k d).book.share me w moved more
              (ap (λ (x : Rank J S T). x.book.share) (sym (was d)) ∙ ran.shares k d (omega (arith, count, inside))))
              (λ i e b ne. ap (λ (x : Rank J S T). x.book.share) (get_or_default ranks i e d b) ∙ ran.shares i d (omega (arith, count, b))
              ∙ ap (λ (es : List Event). counted es (get_or ranks0 i d).book.share)
              (sym (ap (events_by i) more ∙ events_by_other k i moves w.turn (λ x. ne (sym x)))))
              j d (let l = length-set ranks k r2 in omega (arith, count, h, l));
          kept = subst Kept' (sym more) (keeps moves ran.kept);
        };
        rounds = old.rounds;
        long = (let l = old.long in let q = length_push ran.turns w.turn in omega arith);
      }

  -- each rank keeps its events
  pub each_first : (o : Options) (ranks : List (Rank J S T)) → KeptByEach o ranks ranks []
  each_first o ranks k d inside = nothing o.trace (get_or ranks k d).book.events.items

  pub each_more : (o : Options) (ranks0 ranks : List (Rank J S T)) (p p' : P) (k : ℕ) (r r1 : Rank J S T) → AreAll o ranks
      → length ranks ≡ length ranks0 → k < length ranks → r ≡ get_or ranks k r
      → (w : Turning log plain shows tells seats r p r1 p') → (moves : List (ℕ × Move)) → KeptByEach o ranks0 ranks moves
      → KeptByEach o ranks0 (set ranks k r1) (moves ++ moves_in k w.turn)
  each_more o ranks0 ranks p p' k r r1 all count inside is w moves old j d h =
      let me : r.me ≡ k = ap (λ (x : Rank J S T). x.me) is ∙ (all.each k r inside).0 in
      let options : r.options ≡ o = ap (λ (x : Rank J S T). x.options) is ∙ (all.each k r inside).1 in
      let evs : Rank J S T → List Event = λ x. x.book.events.items in
      let turn : List Event = flat_map (events_of k) w.turn in
      let wrote : evs r1 ≡ evs r ++ cond o.trace turn [] =
      w.kept ∙ ap (λ (q : Options). evs r ++ cond q.trace (flat_map (events_of r.me) w.turn) []) options
      ∙ ap (λ (n : ℕ). evs r ++ cond o.trace (flat_map (events_of n) w.turn) []) me in
      let had : evs r ≡ evs (get_or ranks0 k d) ++ cond o.trace (events_by k moves) [] =
      ap evs (get_or_read ranks k r inside is d) ∙ old k d (omega (arith, count, inside)) in
      each-set (λ (i : ℕ) (x : Rank J S T). evs x ≡ evs (get_or ranks0 i d) ++ cond o.trace (events_by i (moves ++ moves_in k w.turn)) []) ranks k r1
      (wrote ∙ ap (λ (es : List Event). es ++ cond o.trace turn []) had
      ∙ append_assoc (evs (get_or ranks0 k d)) (cond o.trace (events_by k moves) []) (cond o.trace turn [])
      ∙ ap (λ (es : List Event). evs (get_or ranks0 k d) ++ es) (sym (kept_then o.trace (events_by k moves) turn))
      ∙ ap (λ (es : List Event). evs (get_or ranks0 k d) ++ cond o.trace es []) (sym (events_by_own k moves w.turn)))
      (λ i e b ne. ap evs (get_or_default ranks i e d b) ∙ old i d (omega (arith, count, b))
      ∙ ap (λ (es : List Event). evs (get_or ranks0 i d) ++ cond o.trace es []) (sym (events_by_other k i moves w.turn (λ x. ne (sym x)))))
      j d (let l = length-set ranks k r1 in omega (arith, count, h, l))

  pub order_more : (o : Options) (ranks : List (Rank J S T)) (p p' : P) (k : ℕ) (r r1 : Rank J S T) (events events' : List Event)
      → AreAll o ranks → k < length ranks → r ≡ get_or ranks k r
      → r.book.events.items ≡ [] → (w : Turning log plain shows tells seats r p r1 p') → events' ≡ events ++ r1.book.events.items
      → (moves : List (ℕ × Move)) → KeptInOrder o events moves → KeptInOrder o events' (moves ++ moves_in k w.turn)
  order_more o ranks p p' k r r1 events events' all inside is none w joined moves old =
      let me : r.me ≡ k = ap (λ (x : Rank J S T). x.me) is ∙ (all.each k r inside).0 in
      let options : r.options ≡ o = ap (λ (x : Rank J S T). x.options) is ∙ (all.each k r inside).1 in
      let turn : List Event = flat_map (events_of k) w.turn in
      let wrote : r1.book.events.items ≡ cond o.trace turn [] =
      w.kept ∙ ap (λ (es : List Event). es ++ cond r.options.trace (flat_map (events_of r.me) w.turn) []) none
      ∙ ap (λ (q : Options). cond q.trace (flat_map (events_of r.me) w.turn) []) options ∙ ap (λ (n : ℕ). cond o.trace (flat_map (events_of n) w.turn) []) me in
      joined ∙ ap (λ (es : List Event). es ++ r1.book.events.items) old ∙ ap (λ (es : List Event). cond o.trace (events_of_all moves) [] ++ es) wrote
      ∙ sym (kept_then o.trace (events_of_all moves) turn)
      ∙ ap (λ (es : List Event). cond o.trace es [])
      (sym (events_of_all-append moves (moves_in k w.turn)
      ∙ ap (λ (es : List Event). events_of_all moves ++ es) (events_of_turn k w.turn)))
