-- What a rank reads of the ring, how it moves the token on, and whether it is to halt.
use Rattle.circle_run.proofs.Prelude.{◌≡◌, ◌≢◌, ℕ, zero, suc, ◌<◌, refl, sym, subst, inl, ap, ◌∙◌, arith, Bool, true, false, [], ◌∷◌, ◌||◌, ◌&&◌, Option, Some}
use Rattle.circle_run.proofs.Prelude.{None, not, darker, Colour, White, Black, Shown, Told, Deed, pass, restart, conclude, RingTold, hearing, Ring, Elsewhere}
use Rattle.circle_run.proofs.Prelude.{Here, did, IsHalted, to_move, moved_on, is_halt, tells_first, has_done_all, is_to_halt, Follows, Acted, Rank, or_parts}
use Rattle.post_board.specs.declared.answers.Ring.TheVariants.{Over as HeardOver, Halted as HeardHalted}
use Rattle.circle_run.proofs.Asked.{true_not_false}

-- where it read that all are to halt, they are
pub halt_read : (ring : Ring) (s : Shown) (t t' : Option Told) → ring ≡ HeardHalted → RingTold s ring t t' → IsHalted t'
halt_read HeardHalted s None t' is told = subst IsHalted (sym told) tt
halt_read HeardHalted s (Some t) t' is told = subst IsHalted (sym told.1) told.0.1
halt_read Elsewhere s t t' is told = absurd (true_not_false (is_halt HeardHalted) refl (ap is_halt (sym is)))
halt_read (Here colour) s t t' is told = absurd (true_not_false (is_halt HeardHalted) refl (ap is_halt (sym is)))
halt_read HeardOver s t t' is told = absurd (true_not_false (is_halt HeardHalted) refl (ap is_halt (sym is)))

pub knows_read : (ring : Ring) (s s' : Shown) → ring ≡ HeardHalted → s' ≡ hearing s ring → s'.knows_halt ≡ true
knows_read ring s s' is shown = ap (λ (x : Shown). x.knows_halt) shown ∙ ap (λ (r : Ring). (hearing s r).knows_halt) is

-- how the token is moved on
pub moved_above : (me : ℕ) (colour : Colour) → 0 < me → moved_on me colour ≡ pass colour
moved_above zero colour above = absurd (omega arith)
moved_above (suc r) colour above = refl

pub moved_black : (me : ℕ) (colour : Colour) → me ≡ 0 → colour ≡ Black → moved_on me colour ≡ restart
moved_black me colour first black = ap (λ (k : ℕ). moved_on k colour) first ∙ ap (moved_on 0) black

pub moved_white : (me : ℕ) (colour : Colour) → me ≡ 0 → colour ≡ White → moved_on me colour ≡ conclude
moved_white me colour first white = ap (λ (k : ℕ). moved_on k colour) first ∙ ap (moved_on 0) white

pub follows_moved : (me : ℕ) (own held colour : Colour) (deed : Deed) → colour ≡ darker own held → moved_on me colour ≡ deed
    → Follows Acted me (to_move held) (did deed ∷ [])
follows_moved me own held colour deed mixed is = record {
  acts = (did deed, inl (deed, refl), refl);
  chosen = (own, ap (λ (d : Deed). did d ∷ []) (sym is ∙ ap (moved_on me) mixed));
}

-- whether it is to halt
pub halts_is : {J S T : Type 0} (ring : Ring) (r : Rank J S T) (due halts b : Bool) → due ≡ has_done_all r → halts ≡ (due || is_halt ring) → halts ≡ b
    → is_to_halt ring r ≡ b
halts_is ring r due halts b done is value = sym (is ∙ ap (λ (d : Bool). d || is_halt ring) done) ∙ value

pub goes_neither : (due halts : Bool) (ring : Ring) → halts ≡ (due || is_halt ring) → halts ≡ false → (due ≡ false) × (is_halt ring ≡ false)
goes_neither due halts ring is goes = or_parts due (is_halt ring) (sym is ∙ goes)

halted_ring : (ring : Ring) → is_halt ring ≡ true → ring ≡ HeardHalted
halted_ring HeardHalted e = refl
halted_ring Elsewhere e = absurd (true_not_false false e refl)
halted_ring (Here colour) e = absurd (true_not_false false e refl)
halted_ring HeardOver e = absurd (true_not_false false e refl)

-- a rank that is to halt and tells nobody so has read it
told_before : (due read : Bool) → (due || read) ≡ true → (due && not read) ≡ false → read ≡ true
told_before due true halts none = refl
told_before true false halts none = absurd (true_not_false true refl none)
told_before false false halts none = halts

pub halt_unless_first : (due halts first : Bool) (ring : Ring) → halts ≡ (due || is_halt ring) → halts ≡ true → first ≡ (due && not (is_halt ring))
    → first ≡ false → ring ≡ HeardHalted
halt_unless_first due halts first ring is value tells none = halted_ring ring (told_before due (is_halt ring) (sym is ∙ value) (sym tells ∙ none))

pub both_first : (a b : Bool) → (a && b) ≡ true → a ≡ true
both_first true b e = refl
both_first false b e = e

-- who tells all to halt first has handled all that it may
pub due_first : (due first : Bool) (ring : Ring) → first ≡ (due && not (is_halt ring)) → first ≡ true → due ≡ true
due_first due first ring tells is = both_first due (not (is_halt ring)) (sym tells ∙ is)

pub first_is : {J S T : Type 0} (ring : Ring) (r : Rank J S T) (due first : Bool) → due ≡ has_done_all r → first ≡ (due && not (is_halt ring))
    → first ≡ tells_first ring r
first_is ring r due first done tells = tells ∙ ap (λ (d : Bool). d && not (is_halt ring)) done

pub not_halted_ring : (ring : Ring) → is_halt ring ≡ false → ring ≢ HeardHalted
not_halted_ring ring e is = true_not_false (is_halt ring) (ap is_halt is) e
