-- What is walked of placed sources can be copied to their targets.
use Rattle.copy_report.proofs.Prelude.{◌≡◌, ◌⊎◌, inl, inr, ⊎_elim, ℕ, ◌<◌, true, false, List, [], ◌∷◌, map, length, get_or, Option, Some, None, IfSome, refl}
use Rattle.copy_report.proofs.Prelude.{ap, ◌∙◌, sym, subst, arith, false≢true, All-filter, All-from_recursion, recursion_from_All, is_some, nat_eq, get, All}
use Rattle.copy_report.proofs.Prelude.{AllByRecursion, Contains, flat_map, list_any, IsStrictlySortedBy, pointwise, path_cmp, is_within, refusal, parent_of}
use Rattle.copy_report.proofs.Prelude.{Files, Node, IsTree, is_dir, link_at, all_weaker, Entry, Mark, paths, CanCopy, FitsTree, ends_of, is_target, target_of}
use Rattle.copy_report.proofs.Prelude.{IsPair, overlap, Pair, is_in_some, EntriesAreTold, EntriesHaveParents, IsTold, has_dir, target_by, answers_in, walk}
use Rattle.copy_report.proofs.Prelude.{both, In, above, in_list, of_all, Side, Walked, stat_told, ArePlaced}
use Rattle.std.specs.Prelude.{◌||◌}
use Rattle.entry_pages.specs.declared.entries.Mark.TheVariants as mark
use Rattle.copy_report.proofs.Apart.{in_front, none_under, AreValid, goes}
use Rattle.copy_report.proofs.Inside.{within_source}
use Rattle.copy_report.proofs.Listed.{comes, has_target}

abbrev pub sources_of : List Pair → List (List ℕ)
sources_of pairs = map (λ pair. pair.source) pairs

-- what is known of the pairs, and of the roots of their sources
pub record AreReady (pairs : List Pair) (roots : List (List ℕ)) : Type 0 where
  pub valid : AllByRecursion AreValid pairs
  pub apart : overlap (ends_of pairs) ≡ false
  pub among : All (Contains (sources_of pairs)) roots

in_sources : (pairs : List Pair) (roots : List (List ℕ)) → All (Contains (sources_of pairs)) roots → (x : List ℕ) → In x roots → In x (sources_of pairs)
in_sources pairs roots among x i =
    of_all (λ r. In r (sources_of pairs)) roots x
    (all_weaker (Contains (sources_of pairs)) (λ r. In r (sources_of pairs)) (λ r c. in_list (sources_of pairs) r c) roots
    (recursion_from_All (Contains (sources_of pairs)) roots among)) i

-- ---- each entry is within a source

abbrev IsSourced : List Pair → Entry → Type 0
IsSourced pairs e = list_any (λ pair. is_within e.path pair.source) pairs ≡ true

sourced : (pairs : List Pair) (roots : List (List ℕ)) → AreReady pairs roots → (es : List Entry) → AllByRecursion (λ e. refusal e.path ≡ None) es →
    AllByRecursion (λ e. is_in_some roots e.path ≡ true) es → AllByRecursion (IsSourced pairs) es
sourced pairs roots r [] valid h = tt
sourced pairs roots r (e ∷ es) valid h =
    let root = above e.path roots h.0 in (
      within_source e.path root.path pairs valid.0 (all_weaker AreValid (λ pair. refusal pair.source ≡ None) (λ pair v. v.0) pairs r.valid)
          (in_sources pairs roots r.among root.path root.stands) root.is,
      sourced pairs roots r es valid.1 h.1,
    )

can_copy : (pairs : List Pair) (roots : List (List ℕ)) (list : List Entry) → AreReady pairs roots → All (λ e. refusal e.path ≡ None) list →
    All (λ e. is_in_some roots e.path ≡ true) list → IsStrictlySortedBy path_cmp (paths list) → CanCopy list pairs
can_copy pairs roots list r valid within ascend = record {
  ascend = ascend;
  in_source = All-from_recursion (IsSourced pairs) list
      (sourced pairs roots r list (recursion_from_All (λ (e : Entry). refusal e.path ≡ None) list valid)
      (recursion_from_All (λ (e : Entry). is_in_some roots e.path ≡ true) list within));
  apart = r.apart;
}

-- ---- each entry tells what stands there

text_told : (m : Mark) (found : Option Node) (target : Option (List ℕ)) → target ≡ target_by m found → IfSome target (λ text. link_at found ≡ Some text)
text_told m found None e = tt
text_told mark.Fine found (Some text) e = sym e
text_told mark.StatFailed found (Some text) e = absurd (cc)
text_told mark.Gone found (Some text) e = absurd (cc)
text_told mark.ListFailed found (Some text) e = absurd (cc)
text_told mark.Changed found (Some text) e = absurd (cc)

-- ---- each target stands in a directory, or in the target of an entry

-- a target stands in a directory, and its source is an end
abbrev Stands : Files → List Pair → Pair → Type 0
Stands files pairs pair = (is_dir (get files (parent_of pair.target)) ≡ true) × In pair.source (ends_of pairs)

own_sources : (pairs : List Pair) → AllByRecursion (λ pair. In pair.source (sources_of pairs)) pairs
own_sources [] = tt
own_sources (pair ∷ pairs) = (
  inl refl,
  all_weaker (λ p. In p.source (sources_of pairs)) (λ p. In p.source (sources_of (pair ∷ pairs))) (λ p i. inr i) pairs
      (own_sources pairs),
)

abbrev StandsIn : Files → List Pair → List Entry → Entry → Type 0
StandsIn files pairs list e =
    is_target pairs list (parent_of (target_of pairs e.path)) ≡ false → is_dir (get files (parent_of (target_of pairs e.path))) ≡ true

module _ (files : Files) (pairs : List Pair) (roots : List (List ℕ)) (r : AreReady pairs roots) (list : List Entry)
    (stand : AllByRecursion (λ pair. is_dir (get files (parent_of pair.target)) ≡ true) pairs) where
  ends : AllByRecursion (Stands files pairs) pairs
  ends =
      both (λ pair. is_dir (get files (parent_of pair.target)) ≡ true) (λ pair. In pair.source (ends_of pairs)) pairs stand
      (all_weaker (λ pair. In pair.source (sources_of pairs)) (λ pair. In pair.source (ends_of pairs))
      (λ pair i. in_front pair.source (sources_of pairs) (map (λ p. p.target) pairs) i) pairs
      (own_sources pairs))

  one : (e : Entry) → refusal e.path ≡ None → IsSourced pairs e → In e.path roots ⊎ (has_dir list (parent_of e.path) ≡ true) → StandsIn files pairs list e
  one e v s stands off =
      ⊎_elim
      (λ f. ap (λ q. is_dir (get files (parent_of q))) f.goes ∙ f.holds.0)
      (λ d. ⊎_elim
      (λ i. absurd (none_under e.path d.pair.source (ends_of pairs) r.apart
      (in_front e.path (sources_of pairs) (map (λ p. p.target) pairs) (in_sources pairs roots r.among e.path i)) d.holds.1 d.under))
      (λ has. absurd (false≢true (sym off ∙ ap (is_target pairs list) d.goes ∙ has_target pairs list (parent_of e.path) has)))
      stands)
      (goes (Stands files pairs) pairs e.path v r.valid ends s)

  all : (es : List Entry) → AllByRecursion (λ e. refusal e.path ≡ None) es → AllByRecursion (IsSourced pairs) es →
      AllByRecursion (λ e. In e.path roots ⊎ (has_dir list (parent_of e.path) ≡ true)) es → AllByRecursion (StandsIn files pairs list) es
  all [] v s c = tt
  all (e ∷ es) v s c = (one e v.0 s.0 c.0, all es v.1 s.1 c.1)

no_walks : (files : Files) (es : List Entry) (roots : List (List ℕ)) → es ≡ flat_map (walk files (answers_in es)) roots → length roots ≡ 0 → es ≡ []
no_walks files es [] is e = is
no_walks files es (r ∷ rs) is e = absurd (omega (arith, e))

fits_tree : EntriesHaveParents → EntriesAreTold → (files : Files) (pairs : List Pair) (roots : List (List ℕ)) (list : List Entry) → AreReady pairs roots →
    CanCopy list pairs →
    All (λ e. refusal e.path ≡ None) list → All (λ pair. is_dir (get files (parent_of pair.target)) ≡ true) pairs →
    list ≡ flat_map (walk files (answers_in list)) roots →
    (0 < length roots → IsTree files) → FitsTree list pairs files
fits_tree law told files pairs roots list r can valid stand is tree = record {
  told = λ k d l. let e = get_or list k d in stat_told e.mark (get files e.path) e.stat (tells k d l).stat;
  targets = λ k d l. let e = get_or list k d in text_told e.mark (get files e.path) e.target (tells k d l).target;
  stand = All-filter (λ (e : Entry). is_some e.stat) (StandsIn files pairs list) list (All-from_recursion (StandsIn files pairs list) list every);
}
  where
    tells : All (IsTold files (answers_in list)) list
    tells = subst (All (IsTold files (answers_in list))) (sym is) (told.of_all files (answers_in list) roots)

    parents : (rs : List (List ℕ)) → rs ≡ roots → AllByRecursion (λ e. In e.path roots ⊎ (has_dir list (parent_of e.path) ≡ true)) list
    parents [] e =
        subst (AllByRecursion (λ e. In e.path roots ⊎ (has_dir list (parent_of e.path) ≡ true))) (sym (no_walks files list roots is (ap length (sym e)))) tt
    parents (x ∷ rs) e =
        let HasParent : List Entry → Entry → Type 0 = λ es e. (list_any (pointwise nat_eq e.path) roots || has_dir es (parent_of e.path)) ≡ true in
        let all = subst (λ es. All (HasParent es) es) (sym is) (law files (answers_in list) roots (tree (omega (arith, ap length e)))) in
        all_weaker (HasParent list) (λ e. In e.path roots ⊎ (has_dir list (parent_of e.path) ≡ true)) (λ e h. comes roots list e.path (parent_of e.path) h) list
        (recursion_from_All (HasParent list) list all)

    every : AllByRecursion (StandsIn files pairs list) list
    every =
        all files pairs roots r list (recursion_from_All (λ pair. is_dir (get files (parent_of pair.target)) ≡ true) pairs stand) list
        (recursion_from_All (λ (e : Entry). refusal e.path ≡ None) list valid) (recursion_from_All (IsSourced pairs) list can.in_source) (parents roots refl)

-- ---- what a walk of placed sources gives

ready_by : (given : List (List ℕ)) (pairs : List Pair) (list : List Entry) (before after : Side) → ArePlaced given before.tree pairs →
    (w : Walked given list before after) → AreReady pairs w.roots
ready_by given pairs list before after p w = record {
  valid = all_weaker IsPair AreValid (λ pair h. (h.source, h.target)) pairs (recursion_from_All IsPair pairs p.valid);
  apart = p.apart;
  among = subst (λ ss. All (Contains ss) w.roots) (sym p.sources) w.are.among;
}

pub walk_can : (given : List (List ℕ)) (pairs : List Pair) (list : List Entry) (before after : Side) → ArePlaced given before.tree pairs →
    Walked given list before after →
    All (λ e. refusal e.path ≡ None) list → IsStrictlySortedBy path_cmp (paths list) → CanCopy list pairs
walk_can given pairs list before after p w valid ascend = can_copy pairs w.roots list (ready_by given pairs list before after p w) valid w.within ascend

pub walk_fits : EntriesHaveParents → EntriesAreTold → (given : List (List ℕ)) (pairs : List Pair) (list : List Entry) (before after : Side) →
    ArePlaced given before.tree pairs →
    Walked given list before after → All (λ e. refusal e.path ≡ None) list → IsStrictlySortedBy path_cmp (paths list) → IfSome before.tree (FitsTree list pairs)
walk_fits law told given pairs list before after p w valid ascend = by before.tree p.stand w.told w.valid
  where
    by : (t : Option Files) → IfSome t (λ files. All (λ pair. is_dir (get files (parent_of pair.target)) ≡ true) pairs) →
        IfSome t (λ files. list ≡ flat_map (walk files (answers_in list)) w.roots) → (0 < length w.roots → IfSome t IsTree) → IfSome t (FitsTree list pairs)
    by None stand is tree = tt
    by (Some files) stand is tree =
        fits_tree law told files pairs w.roots list (ready_by given pairs list before after p w) (walk_can given pairs list before after p w valid ascend)
        valid stand is tree
