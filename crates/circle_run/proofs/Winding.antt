-- What a rank does that is to halt.
use Rattle.circle_run.proofs.Prelude.{◌≡◌, ◌≢◌, ℕ, ◌⊎◌, inl, inr, refl, sym, subst, ap, ◌∙◌, Bool, true, false, List, map, Option, Some, None, is_some, not}
use Rattle.circle_run.proofs.Prelude.{Shown, Told, halt, TellsLate, Log, Move, answer_of, Side, TellsAll, IsHalted, to_look, Closes, DoesAll, Went, Came}
use Rattle.circle_run.proofs.Prelude.{Served, Halts, Follows, Ends, WoundUp, with_service, Did, Handled, Rank}
use Rattle.circle_run.specs.Ranks.{side}
use Rattle.circle_run.proofs.Choosing.{Opened, opened, wound}
use Rattle.circle_run.proofs.Stepped.{came_then, came_as}
use Rattle.circle_run.proofs.Stopping.{halted_on}

-- a rank refuses where the run is to stop after some number
pub refuses_all : (s : Option ℕ) (gives : Bool) → is_some s ≡ not gives → s ≢ None → gives ≡ false
refuses_all None gives is ne = absurd (ne refl)
refuses_all (Some k) true is ne = is
refuses_all (Some k) false is ne = refl

pub gives_none : (s : Option ℕ) (gives : Bool) → is_some s ≡ not gives → gives ≡ false → s ≢ None
gives_none s gives is refuses none = (let f : false ≡ true = sym (ap is_some none) ∙ is ∙ ap not refuses in cc)

pub halt_told : (me : ℕ) (a b : Option Told) → TellsLate me halt a b → IsHalted b
halt_told me None b tells = subst IsHalted (sym tells) tt
halt_told me (Some t) b tells = subst IsHalted (sym tells.1) refl

-- all are to halt, whether they were told now or before
pub halted_now : (first : Bool) (a b : Option Told) → (first ≡ true → IsHalted b) → (first ≡ false → b ≡ a) → (first ≡ false → IsHalted a) → IsHalted b
halted_now true a b told still before = told refl
halted_now false a b told still before = subst IsHalted (sym (still refl)) (before refl)

-- a rank that winds up told all to halt, or knows that one did
pub knows_now : (first : Bool) (s s1 s2 : Shown) → (first ≡ true → s1.halted ≡ true) → (first ≡ false → s1 ≡ s) → (first ≡ false → s.knows_halt ≡ true)
    → s2.halted ≡ s1.halted → s2.knows_halt ≡ s1.knows_halt → (s2.halted ≡ true) ⊎ (s2.knows_halt ≡ true)
knows_now true s s1 s2 told still before halted knows = inl (halted ∙ told refl)
knows_now false s s1 s2 told still before halted knows = inr (knows ∙ ap (λ (x : Shown). x.knows_halt) (still refl) ∙ before refl)

module _ {J S T P Q : Type 0} (log : J → Log) (plain : J → Q) (shows : S → Shown) (tells : P → Option Told) (seats : P → S → Type 0) where
  -- a service leaves the halt
  pub halted_served : (gives some : Bool) (r : Rank J S T) (p : P) (r1 : Rank J S T) (p1 : P)
      → Went log plain shows tells seats (Served gives some) r p r1 p1 → IsHalted (tells p) → IsHalted (tells p1)
  halted_served gives some r p r1 p1 w halted =
      let from : Side = side log plain shows tells seats r p in
      let to : Side = side log plain shows tells seats r1 p1 in
      let one = subst (λ (m : List Move). DoesAll r.options r.me m from to) w.are.are w.does in
      halted_on (map answer_of w.are.answers) r.me (tells p) (tells p1)
      (subst (λ (z : Side). TellsAll r.me (map answer_of w.are.answers) (tells p) z.told) (sym one.2) one.1.told) halted

  -- the answer to a request was looked for
  pub came_looked : (done : Did) (v : ℕ) (r : Rank J S T) (p : P) (r1 : Rank J S T) (p1 : P) → r.asked ≡ Some v
      → Came log plain shows tells seats (Follows done r.me (to_look v)) r p r1 p1 → Came log plain shows tells seats (Ends done r.me r.asked) r p r1 p1
  came_looked done v r p r1 p1 asks a =
      came_as log plain shows tells seats (Follows done r.me (to_look v)) (Ends done r.me r.asked) r p r1 p1
      (λ moves found f does. record { acts = f.acts; closes = subst (λ (o : Option ℕ). Closes r.me o moves) (sym asks) f.chosen }) a

  -- a halt, a service and the last
  pub came_closed : (gives some due : Bool) (done : Did) (r : Rank J S T) (p : P) (r1 : Rank J S T) (p1 : P) (r2 : Rank J S T) (p2 : P)
      (r3 : Rank J S T) (p3 : P) → (r.options.stop_after ≢ None → gives ≡ false) → with_service some done ≢ Handled → r2.asked ≡ r.asked
      → Came log plain shows tells seats (Halts due) r p r1 p1 → Came log plain shows tells seats (Served gives some) r1 p1 r2 p2
      → Came log plain shows tells seats (Ends done r2.me r2.asked) r2 p2 r3 p3
      → Came log plain shows tells seats (WoundUp (with_service some done) r.options r.me due r.asked) r p r3 p3
  came_closed gives some due done r p r1 p1 r2 p2 r3 p3 refuses other asked a b d =
      let opening = came_then log plain shows tells seats (Halts due) (Served gives some) (Opened gives some due) r p r1 p1 r2 p2
      (opened gives some due) a b in
      came_then log plain shows tells seats (Opened gives some due) (Ends done r2.me r2.asked) (WoundUp (with_service some done) r.options r.me due r.asked)
      r p r2 p2 r3 p3
      (λ x y o e. wound gives some due done r.options r.me r.asked x y refuses other o
      (subst (λ (v : Option ℕ). Ends done r.me v y) asked (subst (λ (i : ℕ). Ends done i r2.asked y) opening.me e))) opening d
