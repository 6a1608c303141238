-- A move over a board that tells its places, by a seat that keeps no batches, leaves such a side again, so the moves of a rank are played in a stage.
use Rattle.circle_run.proofs.Prelude.{◌≡◌, ℕ, refl, subst, ap, ◌∙◌, List, [], ◌∷◌, map, Option, Some, None, Lcg, Strings, Batches, Told, Deed, ask, give}
use Rattle.circle_run.proofs.Prelude.{refuse, take, take_none, pass, restart, conclude, see_over, told_after, told_late, Log, Move, handled, served, did, noted}
use Rattle.circle_run.proofs.Prelude.{Side, answer_of, TellsAll, batches_after, batches_after_all, Does, RankSide, side, Options}

-- the side of a rank in a stage
pub record IsTold (s : Side) : Type 0 where
  pub rank : RankSide
  pub told : Told
  pub is : s ≡ side rank told

abbrev side_of : Strings → Log → Lcg → Option Batches → Option Told → Side
side_of queue log draws batches told = record { queue = queue; log = log; draws = draws; batches = batches; told = told }

is_told : (s : Side) (t : Told) → s.batches ≡ None → s.told ≡ Some t → IsTold s
is_told s t batches told = record {
  rank = record { queue = s.queue; log = s.log; draws = s.draws };
  told = t;
  is = ap (λ (b : Option Batches). side_of s.queue s.log s.draws b s.told) batches ∙ ap (λ (u : Option Told). side_of s.queue s.log s.draws None u) told;
}

pub no_batches : (d : Deed) → batches_after d None ≡ None
no_batches (ask v) = refl
no_batches (give to b) = refl
no_batches (refuse to) = refl
no_batches (take from b) = refl
no_batches (take_none from) = refl
no_batches (pass c) = refl
no_batches restart = refl
no_batches conclude = refl
no_batches see_over = refl

pub no_batches_of_all : (deeds : List Deed) → batches_after_all deeds None ≡ None
no_batches_of_all [] = refl
no_batches_of_all (d ∷ deeds) = ap (batches_after_all deeds) (no_batches d) ∙ no_batches_of_all deeds

record Tells (u : Option Told) : Type 0 where
  told : Told
  is : u ≡ Some told

all_tell : (deeds : List Deed) (me : ℕ) (t : Told) (u : Option Told) → TellsAll me deeds (Some t) u → Tells u
all_tell [] me t u same = record { told = t; is = same }
all_tell (d ∷ deeds) me t u (mid, (legal, same), rest) = all_tell deeds me (told_after me d t) u (subst (λ (m : Option Told). TellsAll me deeds m u) same rest)

pub move_leaves_told : (o : Options) (me : ℕ) (m : Move) (x : RankSide) (t : Told) (s : Side) → Does o me m (side x t) s → IsTold s
move_leaves_told o me (handled path kids) x t s does = is_told s t (ap (λ (z : Side). z.batches) does.after) (ap (λ (z : Side). z.told) does.after)
move_leaves_told o me (served answers) x t s does =
    let u : Tells s.told = all_tell (map answer_of answers) me t s.told does.told in
    is_told s u.told (does.batches ∙ no_batches_of_all (map answer_of answers)) u.is
move_leaves_told o me (did d) x t s does = is_told s (told_after me d t) (does.batches ∙ no_batches d) does.told.1
move_leaves_told o me (noted late) x t s does = is_told s (told_late me late t) (ap (λ (z : Side). z.batches) does.after) does.told.1
