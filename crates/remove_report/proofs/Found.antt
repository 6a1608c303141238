-- What is chosen of a walk of paths below `/` can be removed.
use Rattle.remove_report.proofs.Prelude.{◌≡◌, ◌≢◌, ℕ, ◌≤◌, true, false, cond, ◌||◌, List, [], ◌∷◌, length, take, min, Option, Some, None, IfSome, refl, ap, ◌∙◌}
use Rattle.remove_report.proofs.Prelude.{sym, subst, arith, nat_eq, is_some, get_or, length-append, length-take, false≢true, All-filter, All-from_recursion}
use Rattle.remove_report.proofs.Prelude.{recursion_from_All, get, All, AllByRecursion, Contains, filter, flat_map, starts_with, IsStrictlySortedBy}
use Rattle.remove_report.proofs.Prelude.{bytes_decides, option_map, path_cmp, front, Files, Node, is_root, kind_of, stat_of, Stat, Entry, Mark, paths, Test}
use Rattle.remove_report.proofs.Prelude.{is_selected, meets_all, is_in, is_in_some, EntriesAreTold, stat_by, answers_in, walk, AreChosen, AreThere, Note}
use Rattle.remove_report.proofs.Prelude.{Choice, roots, Lower, Common, Side, Account, Finds, some_bytes, front_other}
use Rattle.entry_pages.specs.declared.entries.Mark.TheVariants as mark

-- what is chosen by tests has a stat

has_stat : (tests : List Test) (now : ℕ) (path : List ℕ) (stat : Option Stat) → meets_all tests now path stat ≡ true → is_some stat ≡ true
has_stat tests now path None e = absurd (false≢true e)
has_stat tests now path (Some stat) e = refl

stats : (tests : List Test) (now : ℕ) (es : List Entry) → AllByRecursion (λ e. is_some e.stat ≡ true) (filter (is_selected tests now) es)
stats tests now [] = tt
stats tests now (e ∷ es) =
    let rest = stats tests now es in
    let more = filter (is_selected tests now) es in
    elim (is_selected tests now e) as (λ b. is_selected tests now e ≡ b → AllByRecursion (λ e. is_some e.stat ≡ true) (cond b (e ∷ more) more)) [
      | true ↦ λ s. (has_stat tests now e.path e.stat s, rest)
      | false ↦ λ _. rest
    ] refl

-- what is below paths other than `/` is not `/`

no_longer : (n k m : ℕ) → k ≡ min n m → k ≡ n → n ≤ m
no_longer n k m e f = omega (arith, e, f)

begins_short : (xs needle : List ℕ) → starts_with nat_eq xs needle ≡ true → length needle ≤ length xs
begins_short xs needle e =
    let same : needle ≡ take (length needle) xs = (bytes_decides needle (take (length needle) xs)).0 e in
    no_longer (length needle) (length (take (length needle) xs)) (length xs) (length-take (length needle) xs) (ap length (sym same))

lower_in : (r p : List ℕ) → Lower r → is_in p r ≡ true → is_root p ≡ false
lower_in r p low on = elim (is_root p) as (λ b. is_root p ≡ b → b ≡ false) [
  | true ↦ λ is. absurd (
      let root : p ≡ 47 ∷ [] = (bytes_decides p (47 ∷ [])).0 is in
      let one : length (front p) ≡ 1 = ap (λ x. length (front x)) root in
      let short = begins_short (front p) (front r) on in
      omega (arith, one, short, ap length (front_other r low.1), length-append r (47 ∷ []), some_bytes r low.0))
  | false ↦ λ _. refl
] refl

in_lower : (rs : List (List ℕ)) (p : List ℕ) → AllByRecursion Lower rs → is_in_some rs p ≡ true → is_root p ≡ false
in_lower [] p low e = absurd (false≢true e)
in_lower (r ∷ rs) p low e = elim (is_in p r) as (λ b. is_in p r ≡ b → (b || is_in_some rs p) ≡ true → is_root p ≡ false) [
  | true ↦ λ on _. lower_in r p low.0 on
  | false ↦ λ _ more. in_lower rs p low.1 more
] refl e

roots_lower : (given rs : List (List ℕ)) → All Lower given → All (Contains given) rs → AllByRecursion Lower rs
roots_lower given rs low among = recursion_from_All Lower rs (λ k d l. let c = among k d l in subst Lower c.2 (low c.0 (get_or rs k d) c.1))

-- an entry of a walk with a stat tells the kind of what is there

same_kind : (o : Option Node) → option_map (λ (s : Stat). s.kind) (option_map stat_of o) ≡ option_map (λ (n : Node). kind_of n.body) o
same_kind None = refl
same_kind (Some n) = refl

kind_by : (m : Mark) (o : Option Node) (stat : Option Stat) → stat ≡ stat_by m o → is_some stat ≡ true →
    option_map (λ (n : Node). kind_of n.body) o ≡ option_map (λ (s : Stat). s.kind) stat
kind_by mark.StatFailed o stat e some = absurd (false≢true (ap is_some (sym e) ∙ some))
kind_by mark.Gone o stat e some = sym (ap (option_map (λ (s : Stat). s.kind)) e ∙ same_kind o)
kind_by mark.Fine o stat e some = sym (ap (option_map (λ (s : Stat). s.kind)) e ∙ same_kind o)
kind_by mark.ListFailed o stat e some = sym (ap (option_map (λ (s : Stat). s.kind)) e ∙ same_kind o)
kind_by mark.Changed o stat e some = sym (ap (option_map (λ (s : Stat). s.kind)) e ∙ same_kind o)

abbrev Told : Files → Entry → Type 0
Told files e = is_some e.stat ≡ true → option_map (λ n. kind_of n.body) (get files e.path) ≡ option_map (λ stat. stat.kind) e.stat

told : EntriesAreTold → (files : Files) (es : List Entry) (rs : List (List ℕ)) → es ≡ flat_map (walk files (answers_in es)) rs → All (Told files) es
told law files es rs is =
    let all = law.of_all files (answers_in es) rs in
    subst (λ xs. All (Told files) xs) (sym is)
    (λ k d l some. let t = all k d l in kind_by (get_or (flat_map (walk files (answers_in es)) rs) k d).mark _ _ t.stat some)

-- what is found

pub can_be_removed : (common : Common) (given : List (List ℕ)) (choice : Choice) (now : ℕ) (before after : Side) (chosen : List Entry)
    (notes : List Note) (account : Account) →
    All Lower given → Finds common (roots given) (Some choice) now before after chosen notes account
    → IsStrictlySortedBy path_cmp (paths chosen) → AreChosen chosen
can_be_removed common given choice now before after chosen notes account low f ascend =
    let w = f.survey.listed in
    let roots = roots_lower given w.roots low w.are.among in
    let lower : All (λ e. is_root e.path ≡ false) f.entries = λ k d l. in_lower w.roots (get_or f.entries k d).path roots (w.within k d l) in
    let is = sym f.chooses in
    record {
      ascend = ascend;
      stats = subst (λ es. All (λ e. is_some e.stat ≡ true) es) is (All-from_recursion (λ e. is_some e.stat ≡ true) _ (stats _ now f.entries));
      lower = subst (λ es. All (λ e. is_root e.path ≡ false) es) is (All-filter _ (λ e. is_root e.path ≡ false) f.entries lower);
    }

pub are_there : (common : Common) (given : List (List ℕ)) (choice : Choice) (now : ℕ) (before after : Side) (chosen : List Entry)
    (notes : List Note) (account : Account) →
    EntriesAreTold → AreChosen chosen → Finds common (roots given) (Some choice) now before after chosen notes account → IfSome before.tree (AreThere chosen)
are_there common given choice now before after chosen notes account law can f = by before.tree f.survey.listed.told
  where
    by : (t : Option Files) → IfSome t (λ files. f.entries ≡ flat_map (walk files (answers_in f.entries)) f.survey.listed.roots) → IfSome t (AreThere chosen)
    by None h = tt
    by (Some files) h =
        let all = told law files f.entries f.survey.listed.roots h in
        let some = subst (λ es. All (Told files) es) (sym f.chooses) (All-filter _ (Told files) f.entries all) in
        λ k d l. some k d l (can.stats k d l)
