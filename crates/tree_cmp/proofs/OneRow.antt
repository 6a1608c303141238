-- One row of a comparison: the entries at its path, its two files, its content, and the file of it that was missed.
use Rattle.tree_cmp.proofs.Prelude.{◌≡◌, ℕ, ◌+◌, Bool, true, false, not, ◌&&◌, ◌||◌, List, [], ◌∷◌, length, refl, sym, subst, ap, ◌∙◌, arith, cond, eqb, Option}
use Rattle.tree_cmp.proofs.Prelude.{Some, None, is_some, IfSome, IsTrue, ◌==◌, AllByRecursion, filter_map, cons_option, find, get, option_map, pointwise}
use Rattle.tree_cmp.proofs.Prelude.{bytes_decides, false≢true, nat_tests, recursion_from_All, sum_by-cons, is_within, below_of, grafted, GraftUndoesBelow}
use Rattle.tree_cmp.proofs.Prelude.{Files, Node, Body, stat_of, kind_of, size_of, is_file_body, bytes_of, Stat, Entry, is_kind, size_by, Draft, Missing}
use Rattle.tree_cmp.proofs.Prelude.{Outcome, Missed, Side, IsSide, is_gone, entry_at, stat_at, is_read, are_files, unread, two_of, has_value, same_bytes}
use Rattle.tree_cmp.proofs.Prelude.{IsContent, StatsTold, at, to_read, IsFileOf, some_counts, blames, content_by, side_missed, missed_at, missed_by, both}
use Rattle.outside.specs.declared.trees.Kind.TheVariants as kind
use Rattle.tree_cmp.specs.declared.reading.Missing.TheVariants as missing
use Rattle.tree_cmp.specs.declared.reading.Outcome.TheVariants as outcome

-- ---- an entry that is found

found_entry : (p : Entry → Bool) (es : List Entry) (e : Entry) → find p es ≡ Some e
    → (p e ≡ true) × ((P : Entry → Type 0) → AllByRecursion P es → P e)
found_entry p [] e h = absurd cc
found_entry p (x ∷ es) e h =
    elim (p x) as (λ b. p x ≡ b → cond b (Some x) (find p es) ≡ Some e
    → (p e ≡ true) × ((P : Entry → Type 0) → AllByRecursion P (x ∷ es) → P e)) [
      | true ↦ λ t g. let s : x ≡ e = cc in (subst (λ y. p y ≡ true) s t, λ P all. subst P s all.0)
      | false ↦ λ t g. let r = found_entry p es e g in (r.0, λ P all. r.1 P all.1)
    ] refl h

-- an entry at a path below the top of a side
pub record Stands (s : Side) (p : List ℕ) (e : Entry) : Type 0 where
  pub path : below_of e.path s.top ≡ p
  pub whole : grafted s.top p ≡ e.path

pub stands : GraftUndoesBelow → (s : Side) → IsSide s → (p : List ℕ) (e : Entry) → entry_at s p ≡ Some e → Stands s p e
stands law s is p e h =
    let f = found_entry (λ e. not (is_gone e.mark) && pointwise eqb (below_of e.path s.top) p) s.entries e h in
    let path = (bytes_decides (below_of e.path s.top) p).0 (both (not (is_gone e.mark)) (pointwise eqb (below_of e.path s.top) p) f.0).1 in
    record {
      path = path;
      whole = ap (grafted s.top) (sym path)
          ∙ law e.path s.top (f.1 (λ e. IsTrue (is_within e.path s.top))
          (recursion_from_All (λ (e : Entry). IsTrue (is_within e.path s.top)) s.entries is.within));
    }

stat_told : (files : Files) (s : Side) → StatsTold files s.entries → (p : List ℕ) (e : Entry) → entry_at s p ≡ Some e
    → IfSome e.stat (λ stat. option_map stat_of (get files e.path) ≡ Some stat)
stat_told files s told p e h =
    (found_entry (λ e. not (is_gone e.mark) && pointwise eqb (below_of e.path s.top) p) s.entries e h).1
    (λ e. IfSome e.stat (λ stat. option_map stat_of (get files e.path) ≡ Some stat))
    (recursion_from_All (λ (e : Entry). IfSome e.stat (λ stat. option_map stat_of (get files e.path) ≡ Some stat)) s.entries told)

-- ---- files as they were told

file_body : (b : Body) → is_kind kind.File (kind_of b) ≡ true → (is_file_body b ≡ true) × (length (bytes_of b) ≡ size_of b)
file_body (Body.file bytes) e = (refl, refl)
file_body _ e = absurd (false≢true e)

pub file_of : (node : Option Node) (s : Stat) → option_map stat_of node ≡ Some s → is_kind kind.File s.kind ≡ true → IsFileOf node s.size
file_of None s e h = absurd cc
file_of (Some n) s e h =
    let same : stat_of n ≡ s = cc in
    let f = file_body n.body (subst (λ (t : Stat). is_kind kind.File t.kind ≡ true) (sym same) h) in
    record { is_file = f.0; size = f.1 ∙ ap (λ (t : Stat). t.size) same }

-- ---- two files that are to be read

pub record AreRead (s t : Option Stat) : Type 0 where
  pub one : Stat
  pub other : Stat
  pub one_is : s ≡ Some one
  pub other_is : t ≡ Some other
  pub one_file : is_kind kind.File one.kind ≡ true
  pub other_file : is_kind kind.File other.kind ≡ true
  pub same : one.size ≡ other.size

pub same_number : (m n : ℕ) → (m == n) ≡ true → m ≡ n
same_number m n e = grind (arith, nat_tests)

pub are_read : (s t : Option Stat) → is_read s t ≡ true → AreRead s t
are_read None t h = absurd (false≢true h)
are_read (Some s) None h = absurd (false≢true h)
are_read (Some s) (Some t) h =
    let a = both (are_files s t) (s.size == t.size && not (s.size == 0)) h in
    let f = both (is_kind kind.File s.kind) (is_kind kind.File t.kind) a.0 in
    let n = both (s.size == t.size) (not (s.size == 0)) a.1 in
    record { one = s; other = t; one_is = refl; other_is = refl; one_file = f.0; other_file = f.1; same = same_number s.size t.size n.0 }

pub record AreEntries (a b : Option Entry) : Type 0 where
  pub one : Entry
  pub other : Entry
  pub one_is : a ≡ Some one
  pub other_is : b ≡ Some other

pub are_entries : (a b : Option Entry) → is_read (stat_at a) (stat_at b) ≡ true → AreEntries a b
are_entries None b h = absurd (false≢true h)
are_entries (Some d) None h = absurd (never d.stat h)
  where
    never : (s : Option Stat) → is_read s None ≡ true → ⊥
    never None h = false≢true h
    never (Some s) h = false≢true h
are_entries (Some d) (Some e) h = record { one = d; other = e; one_is = refl; other_is = refl }

pub file_at : GraftUndoesBelow → (files : Files) (s : Side) → IsSide s → StatsTold files s.entries → (p : List ℕ) (e : Entry)
    → entry_at s p ≡ Some e → (stat : Stat) → e.stat ≡ Some stat → is_kind kind.File stat.kind ≡ true
    → IsFileOf (get files (grafted s.top p)) stat.size
file_at law files s is told p e at stat has file =
    subst (λ q. IsFileOf (get files q) stat.size) (sym (Stands.whole (stands law s is p e at)))
    (file_of (get files e.path) stat
    (subst (λ o. IfSome o (λ stat. option_map stat_of (get files e.path) ≡ Some stat)) has (stat_told files s told p e at)) file)

-- ---- a row

abbrev pub gave_nothing : Option Outcome → Bool
gave_nothing (Some (outcome.Missed dest why)) = true
gave_nothing _ = false

value_of_two : (b : Bool) → has_value (two_of b) ≡ true
value_of_two true = refl
value_of_two false = refl

read_some : (s t : Option Stat) → is_read s t ≡ true → is_some (to_read s t) ≡ true
read_some s t e = λ i. is_some (cond (e i) (Some (size_by s)) None)

pub unread_none : (s t : Option Stat) → is_read s t ≡ false → is_some (to_read s t) ≡ false
unread_none s t e = λ i. is_some (cond (e i) (Some (size_by s)) None)

pub true_not_false : true ≡ false → ⊥
true_not_false e = false≢true (sym e)

pub content_row : (tree : Option Files) (a b : Option Entry) (o : Option Outcome) (c : Rattle.tree_cmp.specs.declared.rows.Two.Two) (m : Bool)
    → c ≡ unread a b → is_some (to_read (stat_at a) (stat_at b)) ≡ is_some o → m ≡ gave_nothing o →
    ((x : Bool) → o ≡ Some (outcome.Same x) → IfSome tree (λ files. x ≡ same_bytes files a b)) → IsContent tree m a b (content_by c o)
content_row tree a b None c m e u g t =
    let never : is_read (stat_at a) (stat_at b) ≡ true → ⊥ = λ r. true_not_false (sym (read_some (stat_at a) (stat_at b) r) ∙ u) in
    record { not_read = λ r. e; unknown = λ r x. absurd (never r); known = λ r x. absurd (never r); told = λ r x. absurd (never r) }
content_row tree a b (Some (outcome.Same x)) c m e u g t =
    record {
      not_read = λ r. absurd (true_not_false (sym u ∙ unread_none (stat_at a) (stat_at b) r));
      unknown = λ r y. absurd (true_not_false (sym y ∙ g));
      known = λ r y. value_of_two x;
      told = λ r y. same_two tree (t x refl);
    }
  where
    same_two : (tree : Option Files) → IfSome tree (λ files. x ≡ same_bytes files a b)
        → IfSome tree (λ files. two_of x ≡ two_of (same_bytes files a b))
    same_two None h = tt
    same_two (Some files) h = ap two_of h
content_row tree a b (Some (outcome.Missed dest why)) c m e u g t =
    record {
      not_read = λ r. absurd (true_not_false (sym u ∙ unread_none (stat_at a) (stat_at b) r));
      unknown = λ r y. refl;
      known = λ r y. absurd (true_not_false (sym g ∙ y));
      told = λ r y. absurd (true_not_false (sym g ∙ y));
    }

-- ---- sides that were missed

pub of_map : (f : Bool → Missed) (o : Option Bool) (m : Missed) → option_map f o ≡ Some m → (dest : Bool) × (o ≡ Some dest) × (m ≡ f dest)
of_map f None m e = absurd cc
of_map f (Some dest) m e = let s : f dest ≡ m = cc in (dest, refl, sym s)

pub side_is : (why : Missing) (o : Option Outcome) (dest : Bool) → side_missed why o ≡ Some dest → o ≡ Some (outcome.Missed dest why)
side_is why None dest e = absurd cc
side_is why (Some (outcome.Same x)) dest e = absurd cc
side_is missing.Failed (Some (outcome.Missed d missing.Failed)) dest e = let s : d ≡ dest = cc in ap (λ b. Some (outcome.Missed b missing.Failed)) s
side_is missing.Failed (Some (outcome.Missed d missing.Changed)) dest e = absurd cc
side_is missing.Changed (Some (outcome.Missed d missing.Failed)) dest e = absurd cc
side_is missing.Changed (Some (outcome.Missed d missing.Changed)) dest e = let s : d ≡ dest = cc in ap (λ b. Some (outcome.Missed b missing.Changed)) s

pub not_both_missed : (f : Bool → Missed) (o : Option Outcome) (m : Missed) → option_map f (side_missed missing.Failed o) ≡ Some m
    → is_some (option_map f (side_missed missing.Changed o)) ≡ false
not_both_missed f (Some (outcome.Missed d missing.Changed)) m e = absurd cc
not_both_missed f _ m e = refl

pub one_or_other : (f : Bool → Missed) (o : Option Outcome)
    → (is_some (option_map f (side_missed missing.Failed o)) || is_some (option_map f (side_missed missing.Changed o))) ≡ gave_nothing o
one_or_other f (Some (outcome.Missed d missing.Changed)) = refl
one_or_other f _ = refl

one_failed : (f : Bool → Missed) (o : Option Outcome) (rest : List Missed)
    → length (cons_option (option_map f (side_missed missing.Failed o)) rest) ≡ some_counts o + length rest
one_failed f (Some (outcome.Missed d missing.Changed)) rest = omega arith
one_failed f _ rest = omega arith

-- as many reads failed as faults were told
pub failed_count : (left right : List ℕ) (drafts : List Draft) → length (filter_map (missed_by missing.Failed left right) drafts) ≡ blames drafts
failed_count left right [] = refl
failed_count left right (d ∷ drafts) =
    let one = one_failed (missed_at left right d.row.path) d.outcome (filter_map (missed_by missing.Failed left right) drafts) in
    let h = failed_count left right drafts in
    one ∙ ap (λ n. some_counts d.outcome + n) h ∙ sym (sum_by-cons (λ (x : Draft). some_counts x.outcome) d drafts)
