-- What a walk of one path lists is a side, and has the stats that the tree tells.
use Rattle.run_entries.proofs.Prelude.{◌≡◌, ℕ, ◌<◌, zero, suc, true, false, ◌||◌, List, [], ◌∷◌, Option, Some, None, IfSome, refl, ap, ◌∙◌, sym, subst, arith}
use Rattle.run_entries.proofs.Prelude.{IsTrue, All, AllByRecursion, Contains, flat_map, IsStrictlySortedBy, get, option_map, get_or, false≢true}
use Rattle.run_entries.proofs.Prelude.{recursion_from_All, All-from_recursion, refusal, fronts_within, path_cmp, is_within, Files, Node, stat_of, Stat, Entry}
use Rattle.run_entries.proofs.Prelude.{Mark, paths, is_in, is_in_some, stat_by, IsTold, EntriesAreTold, walk, answers_in, StatsTold, side, IsSide, Side, Walked}
use Rattle.entry_pages.specs.declared.entries.Mark.TheVariants as mark

-- ---- what is in a root of one path is in that path

-- one root is the path that was given
first_one : (top root : List ℕ) (k : ℕ) → k < 1 → get_or (top ∷ []) k root ≡ root → top ≡ root
first_one top root zero l e = e
first_one top root (suc k) l e = absurd (omega (arith, l))

all_in : (roots : List (List ℕ)) (top x : List ℕ) → AllByRecursion (Contains (top ∷ [])) roots → is_in_some roots x ≡ true → is_in x top ≡ true
all_in [] top x h e = absurd (false≢true e)
all_in (root ∷ roots) top x h e = elim (is_in x root) as (λ b. is_in x root ≡ b → (b || is_in_some roots x) ≡ true → is_in x top ≡ true) [
  | true ↦ λ here e. ap (is_in x) (first_one top root h.0.0 h.0.1 h.0.2) ∙ here
  | false ↦ λ off e. all_in roots top x h.1 e
] refl e

-- ---- a side

entries_within : (roots : List (List ℕ)) (top : List ℕ) (es : List Entry) → refusal top ≡ None → AllByRecursion (Contains (top ∷ [])) roots →
    AllByRecursion (λ e. refusal e.path ≡ None) es → AllByRecursion (λ e. is_in_some roots e.path ≡ true) es →
    AllByRecursion (λ e. IsTrue (is_within e.path top)) es
entries_within roots top [] v among valid h = tt
entries_within roots top (e ∷ es) v among valid h =
    (fronts_within e.path top valid.0 v (all_in roots top e.path among h.0), entries_within roots top es v among valid.1 h.1)

pub is_side : (top : List ℕ) (es : List Entry) (before after : Side) → refusal top ≡ None → Walked (top ∷ []) es before after →
    All (λ e. refusal e.path ≡ None) es →
    IsStrictlySortedBy path_cmp (paths es) → IsSide (side top es)
is_side top es before after v w valid ascend = record {
  ascends = ascend;
  within =
      All-from_recursion (λ (e : Entry). IsTrue (is_within e.path top)) es
      (entries_within w.roots top es v (recursion_from_All (Contains (top ∷ [])) w.roots w.are.among)
      (recursion_from_All (λ (e : Entry). refusal e.path ≡ None) es valid) (recursion_from_All (λ (e : Entry). is_in_some w.roots e.path ≡ true) es w.within));
}

pub stat_told : (m : Mark) (found : Option Node) (told : Option Stat) → told ≡ stat_by m found → IfSome told (λ stat. option_map stat_of found ≡ Some stat)
stat_told m found None e = tt
stat_told mark.StatFailed found (Some stat) e = absurd (cc)
stat_told mark.Gone found (Some stat) e = sym e
stat_told mark.Fine found (Some stat) e = sym e
stat_told mark.ListFailed found (Some stat) e = sym e
stat_told mark.Changed found (Some stat) e = sym e

of_told : EntriesAreTold → (tree : Option Files) (starts : List (List ℕ)) (es : List Entry) →
    IfSome tree (λ files. es ≡ flat_map (walk files (answers_in es)) starts) → IfSome tree (λ files. StatsTold files es)
of_told law None starts es told = tt
of_told law (Some files) starts es told =
    let all = subst (All (IsTold files (answers_in es))) (sym told) (law.of_all files (answers_in es) starts) in
    λ k d l. let e = get_or es k d in stat_told e.mark (get files e.path) e.stat (all k d l).stat

pub stats_told : EntriesAreTold → (given : List (List ℕ)) (es : List Entry) (before after : Side) → Walked given es before after →
    IfSome before.tree (λ files. StatsTold files es)
stats_told law given es before after w = of_told law before.tree w.roots es w.told
