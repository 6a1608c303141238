-- The outcome of all fillers is that of the first whose work has not come to `Done`.
use Rattle.range_copy.proofs.Prelude.{◌≡◌, List, [], ◌∷◌, refl, AllByRecursion, AreDone, first_of, outcome_of, Filler, Filled}
use Rattle.range_copy.specs.declared.filled.Filled.TheVariants as filled

first_by : (P : Filled → Type 0) (f rest : Filled) → P f → P rest → P (first_of f rest)
first_by P filled.Done rest a b = b
first_by P filled.Failed rest a b = a
first_by P filled.Changed rest a b = a
first_by P filled.Lost rest a b = a

-- what is so of `Done` and of each is so of the outcome
pub outcome_by : {T S : Type 0} (P : Filled → Type 0) (fillers : List (Filler T S)) → P filled.Done → AllByRecursion (λ one. P one.filled) fillers →
    P (outcome_of fillers)
outcome_by P [] d h = d
outcome_by P (one ∷ rest) d h = first_by P one.filled (outcome_of rest) h.0 (outcome_by P rest d h.1)

first_done : (f rest : Filled) → first_of f rest ≡ filled.Done → (f ≡ filled.Done) × (rest ≡ filled.Done)
first_done filled.Done rest e = (refl, e)
first_done filled.Failed rest e = cc
first_done filled.Changed rest e = cc
first_done filled.Lost rest e = cc

pub outcome_done : {T S : Type 0} (fillers : List (Filler T S)) → outcome_of fillers ≡ filled.Done → AreDone fillers
outcome_done [] e = tt
outcome_done (one ∷ rest) e = let r = first_done one.filled (outcome_of rest) e in (r.0, outcome_done rest r.1)

-- the outcome is that of the rest, if the first is done
pub outcome_rest : {T S : Type 0} (one : Filler T S) (rest : List (Filler T S)) → one.filled ≡ filled.Done → outcome_of (one ∷ rest) ≡ outcome_of rest
outcome_rest one rest e = cc
