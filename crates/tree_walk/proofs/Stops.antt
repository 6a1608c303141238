-- What a stop tells of the shares.
use Rattle.tree_walk.proofs.Prelude.{◌≡◌, ◌⊎◌, ⊎_elim, ℕ, ◌-◌, ◌^◌, ◌<◌, ◌≤◌, min, List, [], ◌∷◌, map, length, get_or, drop, refl, ap, arith, zero, suc, Option}
use Rattle.tree_walk.proofs.Prelude.{Some, None, IfSome, Vec, unwrap_or, AllByRecursion, All, Any, Global, recursion_from_All, All-from_recursion, all_left}
use Rattle.tree_walk.proofs.Prelude.{Share, Walked, Held, log_of, IfCut}
use Rattle.tree_walk.specs.declared.reports.Walked.TheVariants as walked

-- the shares tell how many strings the jobs handled, as far as a count goes
abbrev pub Counted : {R : Type 0} → List (R × List Held) → List Share → Type 0
Counted jobs shares = map (λ s. s.handled) shares ≡ map (λ j. min (length (log_of j.1)) (2 ^ 64 - 1)) jobs

first_is : {R : Type 0} (job : R × List Held) (jobs : List (R × List Held)) (share : Share) (shares : List Share) → Counted (job ∷ jobs) (share ∷ shares) →
    share.handled ≡ min (length (log_of job.1)) (2 ^ 64 - 1)
first_is job jobs share shares e = ap (λ numbers. get_or numbers 0 0) e

others_are : {R : Type 0} (job : R × List Held) (jobs : List (R × List Held)) (share : Share) (shares : List Share) → Counted (job ∷ jobs) (share ∷ shares) →
    Counted jobs shares
others_are job jobs share shares e = ap (drop 1) e

each_bound : {R : Type 0} (k : ℕ) (jobs : List (R × List Held)) (shares : List Share) → Counted jobs shares →
    AllByRecursion (λ job. length (log_of job.1) ≤ k) jobs → AllByRecursion (λ s. s.handled ≤ k) shares
each_bound k jobs [] e h = tt
each_bound k [] (share ∷ shares) e h = absurd (omega (arith, ap length e))
each_bound k (job ∷ jobs) (share ∷ shares) e h =
    (omega (arith, first_is job jobs share shares e, h.0), each_bound k jobs shares (others_are job jobs share shares e) h.1)

pub bound : {R : Type 0} (stop : Option ℕ) (jobs : List (R × List Held)) (shares : List Share) → Counted jobs shares →
    IfSome stop (λ k. All (λ job. length (log_of job.1) ≤ k) jobs) → IfSome stop (λ k. All (λ s. s.handled ≤ k) shares)
bound None jobs shares e h = tt
bound {R = R} (Some k) jobs shares e h =
    All-from_recursion (λ (s : Share). s.handled ≤ k) shares
    (each_bound k jobs shares e (recursion_from_All (λ (job : R × List Held). length (log_of job.1) ≤ k) jobs h))

some_reached : {R : Type 0} (k i : ℕ) (job : R × List Held) (jobs : List (R × List Held)) (shares : List Share) → Counted jobs shares → k < 2 ^ 64 →
    i < length jobs → get_or jobs i job ≡ job → length (log_of job.1) ≡ k → Any (λ s. s.handled ≡ k) shares
some_reached k i job [] shares e few l is h = absurd (omega (arith, l))
some_reached k i job (first ∷ jobs) [] e few l is h = absurd (omega (arith, ap length e))
some_reached k zero job (first ∷ jobs) (share ∷ shares) e few l is h =
    (0, share, omega arith, refl, omega (arith, first_is first jobs share shares e, ap (λ j. length (log_of j.1)) is, h, few))
some_reached k (suc i) job (first ∷ jobs) (share ∷ shares) e few l is h =
    let found = some_reached k i job jobs shares (others_are first jobs share shares e) few (omega (arith, l)) is h in
    (suc found.0, found.1, omega (arith, found.2), found.3, found.4)

-- the number of a stop is one of 64 bits
pub fits : (stop : Option ℕ) (other : ℕ) → unwrap_or stop other < 2 ^ 64 → IfSome stop (λ k. k < 2 ^ 64)
fits None other h = tt
fits (Some k) other h = h

-- where a string is left some rank handled as many as the stop says
pub reached : {R : Type 0} (w : Walked) (left : Vec (Vec (List ℕ) Global) Global) (stop : Option ℕ) (jobs : List (R × List Held)) (shares : List Share) →
    Counted jobs shares → IfSome stop (λ k. k < 2 ^ 64) →
    IfSome stop (λ k. (all_left left.items ≡ []) ⊎ Any (λ job. length (log_of job.1) ≡ k) jobs) →
    IfCut w (λ cut. (cut.left ≡ left) × (0 < length (all_left left.items))) → IfCut w (λ cut. IfSome stop (λ k. Any (λ s. s.handled ≡ k) shares))
reached walked.Whole left stop jobs shares e few h c = tt
reached (walked.Cut cut) left None jobs shares e few h c = tt
reached (walked.Cut cut) left (Some k) jobs shares e few h c =
    ⊎_elim
    (λ none. absurd (omega (arith, c.1, ap length none)))
    (λ some. some_reached k some.0 some.1 jobs shares e few some.2 some.3 some.4) h
