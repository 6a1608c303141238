-- What is told in a run is sound, so all is over once a rank has seen the end.
use Rattle.circle_run.proofs.Prelude.{◌≡◌, ℕ, ◌≤◌, inr, ⊎_elim, refl, sym, subst, ap, arith, true, false, List, [], ◌∷◌, map, set, replicate, Option, Some}
use Rattle.circle_run.proofs.Prelude.{cases_lt, get_or-replicate, length-replicate, get_or_past, Colour, Black, At, Over, Place, Told, no_place, place, Sound}
use Rattle.circle_run.proofs.Prelude.{Deed, told_after, told_late, DeedsKeepSound, LateKeepsSound, Move, handled, served, did, noted, Side, answer_of, TellsAll}
use Rattle.circle_run.proofs.Prelude.{Does, RankSide, Stage, rank_side, side, Plays, new_place, new_told, Options}
use Rattle.circle_run.proofs.Deeds.{some_is}

module _ (keeps : DeedsKeepSound) (late_keeps : LateKeepsSound) where
  all_sound : (deeds : List Deed) (me : ℕ) (t u : Told) → TellsAll me deeds (Some t) (Some u) → Sound t → Sound u
  all_sound [] me t u same sound = subst Sound (sym (some_is u t same)) sound
  all_sound (d ∷ deeds) me t u (mid, (legal, same), rest) sound =
      all_sound deeds me (told_after me d t) u (subst (λ (m : Option Told). TellsAll me deeds m (Some u)) same rest) (keeps me d t legal sound)

  move_sound : (o : Options) (me : ℕ) (m : Move) (x y : RankSide) (t u : Told) → Does o me m (side x t) (side y u) → Sound t → Sound u
  move_sound o me (handled path kids) x y t u does sound = subst Sound (sym (some_is u t (ap (λ (z : Side). z.told) does.after))) sound
  move_sound o me (served answers) x y t u does sound = all_sound (map answer_of answers) me t u does.told sound
  move_sound o me (did d) x y t u does sound = subst Sound (sym (some_is u (told_after me d t) does.told.1)) (keeps me d t does.told.0 sound)
  move_sound o me (noted late) x y t u does sound = subst Sound (sym (some_is u (told_late me late t) does.told.1)) (late_keeps me late t does.told.0 sound)

  pub plays_sound : (o : Options) (moves : List (ℕ × Move)) (from to : Stage) → Plays o moves from to → Sound from.told → Sound to.told
  plays_sound o [] from to same sound = subst (λ (s : Stage). Sound s.told) (sym same) sound
  plays_sound o (m ∷ moves) from to (x, t, does, plays) sound =
      plays_sound o moves (record { ranks = set from.ranks m.0 x; told = t }) to plays (move_sound o m.0 m.1 (rank_side from m.0) x from.told t does sound)

place_begun : (X : Place → Type 0) (n r : ℕ) → X new_place → X no_place → X (place (new_told n) r)
place_begun X n r new none = ⊎_elim
    (λ below. subst X (sym (get_or-replicate n r new_place no_place below)) new)
    (λ past. subst X (sym (get_or_past (replicate n new_place) r no_place (let l = length-replicate n new_place in omega arith))) none)
    (cases_lt r n)

token_place : (p : ℕ) (c : Colour) → At 0 Black ≡ At p c → 0 ≡ p
token_place p c e = cc

pub begun_sound : (n : ℕ) → 1 ≤ n → Sound (new_told n)
begun_sound n some = record {
  token = inr (inr refl);
  sane = record {
    alone = λ one same. cc;
    tried = λ r. place_begun (λ x. x.tried ≡ true → x.busy ≡ false) n r (λ e. cc) (λ e. cc);
    waits = λ r. place_begun (λ x. (x.mail ≡ no_place.mail → ⊥) → x.busy ≡ false) n r (λ ne. absurd (ne refl)) (λ ne. refl);
    over = λ r. place_begun (λ x. x.ended ≡ true → At 0 Black ≡ Over) n r (λ e. cc) (λ e. cc);
    within = λ p c same. (let z = token_place p c same in let l = length-replicate n new_place in omega arith);
  };
}
