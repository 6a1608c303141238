-- A rank's moves over a board that tells nothing.
use Rattle.circle_run.proofs.Prelude.{◌≡◌, ℕ, ◌<◌, false, refl, sym, subst, ap, ◌∙◌, arith, List, [], ◌∷◌, ◌++◌, map, length, length-set, set, get_or, Option}
use Rattle.circle_run.proofs.Prelude.{None, get_or_read, get_or_default, flat_map, flat_map-append, Event, Shown, Told, Deed, Tells, Late, TellsLate, Log, Move}
use Rattle.circle_run.proofs.Prelude.{handled, served, did, noted, Side, answer_of, TellsAll, Does, events_of, counted, DoesAll, Same, Turning, Took, lone_side}
use Rattle.circle_run.proofs.Prelude.{Alone, AllAlone, Options, Share, Rank}
use Rattle.circle_run.specs.Ranks.{side}
use Rattle.circle_run.proofs.Stepped.{does_then, counted_then}
use Rattle.circle_run.proofs.Rounds.{each-set}

tells_still : (me : ℕ) (deed : Deed) (before after : Option Told) → Tells me deed before after → before ≡ None → after ≡ None
tells_still me deed before after h e = subst (λ b. Tells me deed b after) e h

all_still : (me : ℕ) (deeds : List Deed) (before after : Option Told) → TellsAll me deeds before after → before ≡ None → after ≡ None
all_still me [] before after h e = h ∙ e
all_still me (deed ∷ deeds) before after (mid, one, rest) e = all_still me deeds mid after rest (tells_still me deed before mid one e)

late_still : (me : ℕ) (late : Late) (before after : Option Told) → TellsLate me late before after → before ≡ None → after ≡ None
late_still me late before after h e = subst (λ b. TellsLate me late b after) e h

does_still : (o : Options) (me : ℕ) (m : Move) (s s' : Side) → Does o me m s s' → s.told ≡ None → s'.told ≡ None
does_still o me (handled path kids) s s' does e = ap (λ (x : Side). x.told) does.after ∙ e
does_still o me (served answers) s s' does e = all_still me (map answer_of answers) s.told s'.told does.told e
does_still o me (did deed) s s' does e = tells_still me deed s.told s'.told does.told e
does_still o me (noted late) s s' does e = late_still me late s.told s'.told does.told e

told_still : (o : Options) (me : ℕ) (moves : List Move) (s s' : Side) → DoesAll o me moves s s' → s.told ≡ None → s'.told ≡ None
told_still o me [] s s' does e = ap (λ (x : Side). x.told) does ∙ e
told_still o me (m ∷ moves) s s' (mid, one, rest) e = told_still o me moves mid s' rest (does_still o me m s mid one e)

module _ {J S T P D : Type 0} (log : J → Log) (plain : J → D) (shows : S → Shown) (tells : P → Option Told) (seats : P → S → Type 0) where
  lone_is : (r : Rank J S T) (p : P) → tells p ≡ None → side log plain shows tells seats r p ≡ lone_side log shows r
  lone_is r p e = λ i. record { queue = r.queue; log = log r.job; draws = r.draws; batches = (shows r.seat).batches; told = e i }

  untold_after : (r r' : Rank J S T) (p p' : P) → Turning log plain shows tells seats r p r' p' → tells p ≡ None → tells p' ≡ None
  untold_after r r' p p' w e = told_still r.options r.me w.turn (side log plain shows tells seats r p) (side log plain shows tells seats r' p') w.does e

  alone_more : (r0 r r' : Rank J S T) (p p' : P) → r.me ≡ r0.me → r.options ≡ r0.options → Alone log shows r0 r
      → Turning log plain shows tells seats r p r' p' → tells p ≡ None → Alone log shows r0 r'
  alone_more r0 r r' p p' me options a w e =
      let turn : DoesAll r.options r.me w.turn (lone_side log shows r) (lone_side log shows r') =
      subst (λ (s : Side). DoesAll r.options r.me w.turn (lone_side log shows r) s) (lone_is r' p' (untold_after r r' p p' w e))
      (subst (λ (s : Side). DoesAll r.options r.me w.turn s (side log plain shows tells seats r' p')) (lone_is r p e) w.does)
      in
      let own : DoesAll r0.options r0.me w.turn (lone_side log shows r) (lone_side log shows r') =
      subst (λ (o : Options). DoesAll o r0.me w.turn (lone_side log shows r) (lone_side log shows r')) options
      (subst (λ (n : ℕ). DoesAll r.options n w.turn (lone_side log shows r) (lone_side log shows r')) me turn)
      in
      record {
        moves = a.moves ++ w.turn;
        does = does_then r0.options r0.me a.moves w.turn (lone_side log shows r0) (lone_side log shows r) (lone_side log shows r') a.does own;
        share =
            w.share
            ∙ ap (λ (n : ℕ). counted (flat_map (events_of n) w.turn) r.book.share) me
            ∙ ap (λ (x : Share). counted (flat_map (events_of r0.me) w.turn) x) a.share
            ∙ sym (counted_then (flat_map (events_of r0.me) a.moves) (flat_map (events_of r0.me) w.turn) r0.book.share)
            ∙ ap (λ (es : List Event). counted es r0.book.share) (sym (flat_map-append (events_of r0.me) a.moves w.turn));
      }

  pub alone_first : (ranks : List (Rank J S T)) → AllAlone log shows ranks ranks
  alone_first ranks k d h found = record { moves = []; does = refl; share = refl }

  pub alone_step : (ranks0 ranks : List (Rank J S T)) (p p' : P) (k : ℕ) (r r' : Rank J S T) → k < length ranks → r ≡ get_or ranks k r
      → Same plain ranks0 ranks → Took log plain shows tells seats r p r' p' →
      (tells p ≡ None) × AllAlone log shows ranks0 ranks → (tells p' ≡ None) × AllAlone log shows ranks0 (set ranks k r')
  alone_step ranks0 ranks p p' k r r' inside is same took (e, all) = (
    ap tells (took.still e) ∙ e,
    λ j d h.
        let n = same.count in
        let long = length-set ranks k r' in
        let was : get_or ranks k d ≡ r = sym (get_or_read ranks k r inside is d) in
        let here : r.book.lost ≡ false
        → Alone log shows (get_or ranks0 k d) r =
        subst (λ (x : Rank J S T). x.book.lost ≡ false → Alone log shows (get_or ranks0 k d) x) was (all k d (omega arith)) in
        let me : r.me ≡ (get_or ranks0 k d).me = ap (λ (x : Rank J S T). x.me) (sym was) ∙ same.me k d (omega arith) in
        let options : r.options ≡ (get_or ranks0 k d).options = ap (λ (x : Rank J S T). x.options) (sym was) ∙ same.options k d (omega arith) in
        each-set (λ (i : ℕ) (x : Rank J S T). x.book.lost ≡ false → Alone log shows (get_or ranks0 i d) x) ranks k r'
        (λ found. (let w = took.went found in alone_more (get_or ranks0 k d) r r' p p' me options (here w.had) w e))
        (λ i d' b ne. subst (λ (x : Rank J S T). x.book.lost ≡ false → Alone log shows (get_or ranks0 i d) x) (get_or_default ranks i d d' b)
        (all i d (omega arith))) j d (omega (arith, long)),
  )
