-- A removal, seen at and under its path.
use Rattle.tree_remove.proofs.Prelude.{◌≡◌, ◌≢◌, inl, inr, ℕ, ◌<◌, Bool, true, false, cond, not, ◌||◌, ◌&&◌, List, [], ◌∷◌, length, Option, Some, None, IfSome}
use Rattle.tree_remove.proofs.Prelude.{IfOk, refl, ap, ◌∙◌, sym, subst, arith, is_some, is_none, ◌==◌, Result, Ok, Err, IsTrue, false≢true, nat_tests}
use Rattle.tree_remove.proofs.Prelude.{filter_map, list_any, cons_option, get, remove, keys, get-remove, contains_key-keys, same_map, eq_by_cmp, bytes_decides}
use Rattle.tree_remove.proofs.Prelude.{OutOfMemory, path_cmp, is_within, path_cmp_total, path_cmp_ties, path_cmp_same, Files, Node, is_dir, far_at, names_in}
use Rattle.tree_remove.proofs.Prelude.{name_below, Answers, SameBut, may_empty, remove_dir_refusal, remove_file_refusal, WriteError, Entry, is_of, IsDone}
use Rattle.tree_remove.proofs.Prelude.{at_and_under, Fate, Removal, removal_refusal, told_fate, get_at, get_here}
use Rattle.outside.specs.declared.plots.WriteError.TheVariants as write
use Rattle.outside.specs.declared.trees.Kind.TheVariants as kind
use Rattle.level_work.specs.declared.items.Fate.TheVariants as fate
use Rattle.tree_remove.proofs.Names.{some_named, named_under, under_within}

-- a refusal sees no more than what is at and under its path

has_name : (p q : List ℕ) (qs : List (List ℕ)) → list_any (eq_by_cmp path_cmp q) qs ≡ true → is_some (name_below p q) ≡ true →
    0 < length (filter_map (name_below p) qs)
has_name p q [] e s = absurd (false≢true e)
has_name p q (x ∷ qs) e s =
    let names = filter_map (name_below p) qs in
    elim (eq_by_cmp path_cmp q x) as
    (λ b. eq_by_cmp path_cmp q x ≡ b → (b || list_any (eq_by_cmp path_cmp q) qs) ≡ true → 0 < length (cons_option (name_below p x) names)) [
      | true ↦ λ is h. first (name_below p x) names (ap (λ y. is_some (name_below p y)) (sym ((bytes_decides q x).0 (path_cmp_ties q x ∙ is))) ∙ s)
      | false ↦ λ is h. later (name_below p x) names (has_name p q qs h s)
    ] refl e
  where
    first : (o : Option (List ℕ)) (names : List (List ℕ)) → is_some o ≡ true → 0 < length (cons_option o names)
    first None names h = absurd (false≢true h)
    first (Some n) names h = omega arith

    later : (o : Option (List ℕ)) (names : List (List ℕ)) → 0 < length names → 0 < length (cons_option o names)
    later None names h = h
    later (Some n) names h = omega arith

-- one map has a name where the other has one
more : (p : List ℕ) (a b : Files) → ((q : List ℕ) → is_within q p ≡ true → get b q ≡ get a q) → 0 < length (names_in a p) → 0 < length (names_in b p)
more p a b same l =
    let k = some_named p (keys a) l in
    let within = under_within k.path p (named_under p k.path k.named) in
    has_name p k.path (keys b) (sym (contains_key-keys b k.path) ∙ ap is_some (same k.path within) ∙ contains_key-keys a k.path ∙ k.among) k.named

same_emptiness : (m n : ℕ) → (0 < m → 0 < n) → (0 < n → 0 < m) → (m == 0) ≡ (n == 0)
same_emptiness m n f g = by (m == 0) (n == 0) refl refl
  where
    some : (k : ℕ) → (k == 0) ≡ false → 0 < k
    some k e = grind (arith, nat_tests)

    none : (k : ℕ) → (k == 0) ≡ true → k ≡ 0
    none k e = grind (arith, nat_tests)

    by : (a b : Bool) → (m == 0) ≡ a → (n == 0) ≡ b → a ≡ b
    by true true d e = refl
    by false false d e = refl
    by true false d e = absurd (let h = g (some n e) in omega (arith, h, none m d))
    by false true d e = absurd (let h = f (some m d) in omega (arith, h, none n e))

seen_at : (p : List ℕ) (files : Files) (q : List ℕ) → is_within q p ≡ true → get (at_and_under p files) q ≡ get files q
seen_at p files q on = get_at p files q ∙ ap (λ b. cond b (get files q) None) on

same_names : (p : List ℕ) (files : Files) → (length (names_in (at_and_under p files) p) == 0) ≡ (length (names_in files p) == 0)
same_names p files =
    same_emptiness _ _ (more p (at_and_under p files) files (λ q on. sym (seen_at p files q on))) (more p files (at_and_under p files) (seen_at p files))

dir_refusal_by : Option Node → Bool → Option WriteError
dir_refusal_by o empty =
    cond (is_none o) (Some write.Absent) (cond (not (is_dir o)) (Some write.WrongKind) (cond (empty && (far_at o == 0)) None (Some write.NotEmpty)))

same_refusal : (entry : Entry) (p : List ℕ) (files : Files) → removal_refusal entry (at_and_under p files) p ≡ removal_refusal entry files p
unfolding dir_refusal_by
same_refusal entry p files =
    let part = at_and_under p files in
    elim (is_of kind.Dir entry.stat) as
    (λ b. cond b (remove_dir_refusal part p) (remove_file_refusal (get part p)) ≡ cond b (remove_dir_refusal files p) (remove_file_refusal (get files p))) [
      | true ↦ λ i. dir_refusal_by (get_here p files i) (same_names p files i)
      | false ↦ ap remove_file_refusal (get_here p files)
    ]

same_removed : (p : List ℕ) (files : Files) → at_and_under p (remove files p) ≡ remove (at_and_under p files) p
same_removed p files = same_map path_cmp_total path_cmp_same _ _ (λ q.
    get_at p (remove files p) q ∙ ap (λ o. cond (is_within q p) o None) (get-remove path_cmp_total files p q)
    ∙ turned (is_within q p) (eq_by_cmp path_cmp q p) (get files q)
    ∙ sym (get-remove path_cmp_total (at_and_under p files) p q ∙ ap (λ o. cond (eq_by_cmp path_cmp q p) None o) (get_at p files q)))
  where
    turned : (a b : Bool) (o : Option Node) → cond a (cond b None o) None ≡ cond b None (cond a o None)
    turned true true o = refl
    turned true false o = refl
    turned false true o = refl
    turned false false o = refl

removed_others : (p : List ℕ) (files : Files) → SameBut p files (remove files p)
removed_others p files q off = get-remove path_cmp_total files p q ∙ ap (λ b. cond b None (get files q)) (sym (path_cmp_ties q p) ∙ off)

-- what the deed is, by the answer

pub done : (p : List ℕ) (entry : Entry) (t t' : Option Files) → IfSome t (λ files. (removal_refusal entry files p ≡ None) × (t' ≡ Some (remove files p))) →
    IfSome t (λ files. IfSome t' (IsDone Removal p entry (Ok fate.Done) files))
done p entry None t' h = tt
done p entry (Some files) t' h =
    subst (λ o. IfSome o (IsDone Removal p entry (Ok fate.Done) files)) (sym h.1)
    (record { others = removed_others p files; answers = (same_refusal entry p files ∙ h.0, same_removed p files) })

-- the fate of a refusal, if it is one
abbrev TellsFate : WriteError → Result Fate OutOfMemory → Type 0
TellsFate x r = IfOk r (λ f. (f ≡ told_fate x) × (x ≢ write.OutOfMemory))

abbrev MayBe : List ℕ → Entry → Fate → Files → Type 0
MayBe p entry f files = Removal p entry f (at_and_under p files) (at_and_under p files)

-- a refusal that leaves the files
kept : (p : List ℕ) (entry : Entry) (x : WriteError) (files : Files) (t' : Option Files) (r : Result Fate OutOfMemory) → TellsFate x r
    → MayBe p entry (told_fate x) files →
    t' ≡ Some files → IfSome t' (IsDone Removal p entry r files)
kept p entry x files t' (Ok g) f is same =
    subst (λ o. IfSome o (IsDone Removal p entry (Ok g) files)) (sym same)
    (record { others = λ q off. refl; answers = subst (λ g. MayBe p entry g files) (sym f.0) is })
kept p entry x files t' (Err e) f is same =
    subst (λ o. IfSome o (IsDone Removal p entry (Err e) files)) (sym same) (record { others = λ q off. refl; answers = tt })

failed : (p : List ℕ) (entry : Entry) (files : Files) (t' : Option Files) (r : Result Fate OutOfMemory) → TellsFate write.Failed r
    → IfSome t' (SameBut p files) →
    IfSome t' (IsDone Removal p entry r files)
failed p entry files None r f a = tt
failed p entry files (Some after) (Ok g) f a =
    record { others = a; answers = subst (λ g. Removal p entry g (at_and_under p files) (at_and_under p after)) (sym f.0) tt }
failed p entry files (Some after) (Err e) f a = record { others = a; answers = tt }

no_memory : (p : List ℕ) (entry : Entry) (files : Files) (t' : Option Files) (r : Result Fate OutOfMemory) → TellsFate write.OutOfMemory r → t' ≡ Some files →
    IfSome t' (IsDone Removal p entry r files)
no_memory p entry files t' (Ok g) f a = absurd (f.1 refl)
no_memory p entry files t' (Err e) f a = subst (λ o. IfSome o (IsDone Removal p entry (Err e) files)) (sym a) (record { others = λ q off. refl; answers = tt })

refused_by : (p : List ℕ) (entry : Entry) (x : WriteError) (files : Files) (t' : Option Files) (r : Result Fate OutOfMemory)
    → IsTrue (may_empty x) → TellsFate x r →
    Answers p (removal_refusal entry files p) files (remove files p) (Err x) t' → IfSome t' (IsDone Removal p entry r files)
refused_by p entry write.Failed files t' r m f a = failed p entry files t' r f a
refused_by p entry write.OutOfMemory files t' r m f a = no_memory p entry files t' r f a
refused_by p entry write.Exists files t' r m f a = absurd (false≢true m)
refused_by p entry write.NoParent files t' r m f a = absurd (false≢true m)
refused_by p entry write.Absent files t' r m f a = kept p entry write.Absent files t' r f (inl (same_refusal entry p files ∙ a.0), refl) a.1
refused_by p entry write.WrongKind files t' r m f a = kept p entry write.WrongKind files t' r f (inr (same_refusal entry p files ∙ a.0), refl) a.1
refused_by p entry write.NotEmpty files t' r m f a = kept p entry write.NotEmpty files t' r f (same_refusal entry p files ∙ a.0, refl) a.1

pub refused : (p : List ℕ) (entry : Entry) (x : WriteError) (t t' : Option Files) (r : Result Fate OutOfMemory) → IsTrue (may_empty x) → TellsFate x r →
    IfSome t (λ files. Answers p (removal_refusal entry files p) files (remove files p) (Err x) t')
    → IfSome t (λ files. IfSome t' (IsDone Removal p entry r files))
refused p entry x None t' r m f a = tt
refused p entry x (Some files) t' r m f a = refused_by p entry x files t' r m f a
