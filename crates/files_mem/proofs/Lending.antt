-- What is out can come back, whatever a ground does meanwhile.
use Rattle.files_mem.proofs.Prelude.{◌≡◌, ℕ, zero, suc, Bool, true, false, cond, not, ◌&&◌, ◌||◌, List, [], ◌∷◌, ◌++◌, Some, None, is_some, refl, ap, ◌∙◌, sym}
use Rattle.files_mem.proofs.Prelude.{subst, map, nat_eq, slice_get, append_assoc, false≢true, IsTrue, Result, Ok, Err, OnOk, OnErr, list_any, list_all}
use Rattle.files_mem.proofs.Prelude.{AllByRecursion, get, insert, remove, eq_by_cmp, pointwise, bytes_decides, path_cmp, is_within, refusal, parent_of, Files}
use Rattle.files_mem.proofs.Prelude.{Node, IsTree, is_dir, is_root, Area, Cut, all_but, all_out, is_open, is_apart, written, write_refusal, remove_file_refusal}
use Rattle.files_mem.proofs.Prelude.{remove_dir_refusal, in_tops, leased, kept, HaveParents, CanLease, same_tops, without_tops, AreTops, IsPart, cuts_at}
use Rattle.files_mem.proofs.Prelude.{without_cut, laid, get_laid, not_in_up, over_top, a_top, get_rest, parent_under, within_up, leases_keep_trees, Lending}
use Rattle.files_mem.proofs.Prelude.{IsLent, IsClear, AreClear, Lends, IsGround, put_refusal_at, both}
use Rattle.files_mem.proofs.Treed.{keeps_dir, same_path, put_tree, write_tree, take_file, take_dir, not_root, file_there, refused_not}
use Rattle.files_mem.proofs.Treed.{off_here, can_write}

-- a write

lends_dirs : (old new : Files) (out : List (List (List ℕ))) → ((x : List ℕ) → is_dir (get old x) ≡ true → is_dir (get new x) ≡ true)
    → Lends old out → Lends new out
lends_dirs old new [] k l = tt
lends_dirs old new (tops ∷ out) k l =
    (record { are = l.0.are; parents = λ i x at. k (parent_of x) (l.0.parents i x at) }, (l.1.0, lends_dirs old new out k l.1.1))

all_at : (test : List ℕ → Bool) (xs : List (List ℕ)) (i : ℕ) (x : List ℕ) → slice_get xs i ≡ Some x → list_all test xs ≡ true → test x ≡ true
all_at test [] i x at e = cc
all_at test (y ∷ xs) zero x at e = subst (λ z. test z ≡ true) (some_is y x at) (both (test y) (list_all test xs) e).0
  where
    some_is : (a b : List ℕ) → Some a ≡ Some b → a ≡ b
    some_is a b e = cc
all_at test (y ∷ xs) (suc i) x at e = all_at test xs i x at (both (test y) (list_all test xs) e).1

-- neither of two paths that are apart is within the other
apart_parts : (a b : Bool) → not (a || b) ≡ true → (a ≡ false) × (b ≡ false)
apart_parts true b e = absurd (false≢true e)
apart_parts false true e = absurd (false≢true e)
apart_parts false false e = (refl, refl)

parent_within : (x : List ℕ) → refusal x ≡ None → is_root x ≡ false → is_within x (parent_of x) ≡ true
parent_within x fine off = ap (λ b. pointwise nat_eq x (parent_of x) || b) (parent_under x fine off) ∙ or_true (pointwise nat_eq x (parent_of x))
  where
    or_true : (b : Bool) → (b || true) ≡ true
    or_true true = refl
    or_true false = refl

lends_apart : (old new : Files) (p : List ℕ) (out : List (List (List ℕ))) → list_all (is_apart p) out ≡ true
    → ((x : List ℕ) → eq_by_cmp path_cmp x p ≡ false → get new x ≡ get old x) → Lends old out → Lends new out
lends_apart old new p [] a k l = tt
lends_apart old new p (tops ∷ out) a k l =
    let s = both (is_apart p tops) (list_all (is_apart p) out) a in (
      record { are = l.0.are; parents = λ i x at. ap is_dir (k (parent_of x) (other i x at s.0)) ∙ l.0.parents i x at },
      (l.1.0, lends_apart old new p out s.1 k l.1.1),
    )
  where
    other : (i : ℕ) (x : List ℕ) → slice_get tops i ≡ Some x → is_apart p tops ≡ true → eq_by_cmp path_cmp (parent_of x) p ≡ false
    other i x at c = elim (eq_by_cmp path_cmp (parent_of x) p) as (λ b. eq_by_cmp path_cmp (parent_of x) p ≡ b → b ≡ false) [
      | true ↦ λ is. absurd (false≢true
          (sym (apart_parts (is_within p x) (is_within x p) (all_at (λ top. not (is_within p top || is_within top p)) tops i x at c)).1
          ∙ ap (is_within x) (sym (same_path (parent_of x) p is)) ∙ parent_within x (l.0.are.valid i x at) (l.0.are.no_root i x at)))
      | false ↦ λ _. refl
    ] refl

in_area_of : (lent : List (List (List ℕ))) (cut : List Cut) (p : List ℕ) → IsTrue (is_open (all_but lent cut) p)
    → list_all (is_apart p) (all_out lent cut) ≡ true
in_area_of lent cut p o = (both (list_all (is_apart p) (all_out lent cut)) (not (is_root p)) o).0

pub put_ground : {B : Type 0} (r : Result (Unit {0}) B) (old new : Lending) (p : List ℕ) (n : Node) → IsGround old
    → put_refusal_at false old.files p ≡ None → refusal p ≡ None →
    OnOk r (new ≡ record old { files = insert old.files p n }) → OnErr r (new ≡ old) → IsGround new
put_ground (Ok x) old new p n g free fine done same = subst IsGround (sym done) (record {
  tree = put_tree {B = ⊥} (Ok x) old.files (insert old.files p n) p n g.tree free fine refl tt;
  lends = lends_dirs old.files (insert old.files p n) (all_out old.out old.cut)
      (λ x. keeps_dir old.files p x n (ap is_dir (refused_not (get old.files p) (is_dir (get old.files (parent_of p))) free).0)) g.lends;
})
put_ground (Err x) old new p n g free fine done same = subst IsGround (sym same) g

pub write_ground : {B : Type 0} (r : Result (Unit {0}) B) (old new : Lending) (p : List ℕ) (at : ℕ) (bytes : List ℕ) → IsGround old
    → OnOk r (write_refusal (get old.files p) ≡ None) →
    OnOk r (new ≡ record old { files = written old.files p at bytes }) → OnErr r (new ≡ old) → IsGround new
write_ground (Ok x) old new p at bytes g free done same = subst IsGround (sym done) (record {
  tree = write_tree {B = ⊥} (Ok x) old.files (written old.files p at bytes) p at bytes g.tree (can_write (get old.files p) free) refl tt;
  lends = lends_dirs old.files (written old.files p at bytes) (all_out old.out old.cut)
      (λ x. keeps_dir old.files p x _ (file_there (get old.files p) (can_write (get old.files p) free)).1) g.lends;
})
write_ground (Err x) old new p at bytes g free done same = subst IsGround (sym same) g

pub remove_file_ground : {B : Type 0} (r : Result (Unit {0}) B) (old new : Lending) (p : List ℕ) → IsGround old
    → IsTrue (is_open (all_but old.out old.cut) p) → OnOk r (remove_file_refusal (get old.files p) ≡ None) →
    OnOk r (new ≡ record old { files = remove old.files p }) → OnErr r (new ≡ old) → IsGround new
remove_file_ground (Ok x) old new p g o free done same = subst IsGround (sym done) (record {
  tree = take_file {B = ⊥} (Ok x) old.files (remove old.files p) p g.tree (not_root (all_but old.out old.cut) p o) free refl tt;
  lends = lends_apart old.files (remove old.files p) p (all_out old.out old.cut) (in_area_of old.out old.cut p o) (off_here old.files p) g.lends;
})
remove_file_ground (Err x) old new p g o free done same = subst IsGround (sym same) g

pub remove_dir_ground : {B : Type 0} (r : Result (Unit {0}) B) (old new : Lending) (p : List ℕ) → IsGround old
    → IsTrue (is_open (all_but old.out old.cut) p) → OnOk r (remove_dir_refusal old.files p ≡ None) →
    OnOk r (new ≡ record old { files = remove old.files p }) → OnErr r (new ≡ old) → IsGround new
remove_dir_ground (Ok x) old new p g o free done same = subst IsGround (sym done) (record {
  tree = take_dir {B = ⊥} (Ok x) old.files (remove old.files p) p g.tree (not_root (all_but old.out old.cut) p o) free refl tt;
  lends = lends_apart old.files (remove old.files p) p (all_out old.out old.cut) (in_area_of old.out old.cut p o) (off_here old.files p) g.lends;
})
remove_dir_ground (Err x) old new p g o free done same = subst IsGround (sym same) g

-- a lease

pub are_tops : (area : Area) (tops : List (List ℕ)) → CanLease area tops → ((i : ℕ) (x : List ℕ) → slice_get tops i ≡ Some x → refusal x ≡ None)
    → AreTops tops
are_tops area tops can valid = record { valid = valid; no_root = λ i x at. not_root area x (can.are_open i x at); one_level = can.one_level }

all_more : (P : List (List ℕ) → Type 0) (xs : List (List (List ℕ))) (x : List (List ℕ)) → AllByRecursion P xs → P x → AllByRecursion P (xs ++ x ∷ [])
all_more P [] x a p = (p, tt)
all_more P (y ∷ xs) x a p = (a.0, all_more P xs x a.1 p)

kept_off : (tops : List (List ℕ)) (files : Files) (q : List ℕ) → in_tops tops q ≡ false → get (kept tops files) q ≡ get files q
kept_off tops files q off = get_rest tops files q ∙ ap (λ b. cond (not b) (get files q) None) off

not_in : (tops : List (List ℕ)) (x : List ℕ) → is_apart x tops ≡ true → in_tops tops x ≡ false
not_in [] x a = refl
not_in (t ∷ tops) x a =
    let s = both (not (is_within x t || is_within t x)) (is_apart x tops) a in
    ap (λ b. b || in_tops tops x) (apart_parts (is_within x t) (is_within t x) s.0).0 ∙ not_in tops x s.1

lends_lease : (files : Files) (tops : List (List ℕ)) (out : List (List (List ℕ))) → AreTops tops → HaveParents tops files
    → ((i : ℕ) (x : List ℕ) → slice_get tops i ≡ Some x → list_all (is_apart x) out ≡ true) →
    Lends files out → Lends (kept tops files) (out ++ tops ∷ [])
lends_lease files tops [] t dirs apart l =
    (record { are = t; parents = λ i x at. ap is_dir (kept_off tops files (parent_of x) (over_top tops t x i at)) ∙ dirs i x at }, (tt, tt))
lends_lease files tops (one ∷ out) t dirs apart l = (
  record { are = l.0.are; parents = λ i y at. ap is_dir (kept_off tops files (parent_of y) (clear i y at)) ∙ l.0.parents i y at },
  (
    all_more (AreClear one) out tops l.1.0 (
      λ i x at. not_in_up one x (parent_of x) (parent_under x (t.valid i x at) (t.no_root i x at)) (not_in one x (split i x at).0),
      clear,
    ),
    lends_lease files tops out t dirs (λ i x at. (split i x at).1) l.1.1,
  ),
)
  where
    split : (i : ℕ) (x : List ℕ) → slice_get tops i ≡ Some x → (is_apart x one ≡ true) × (list_all (is_apart x) out ≡ true)
    split i x at = both (is_apart x one) (list_all (is_apart x) out) (apart i x at)

    clear : IsClear tops one
    clear i y at = elim (in_tops tops (parent_of y)) as (λ b. in_tops tops (parent_of y) ≡ b → b ≡ false) [
      | true ↦ λ on. absurd (let s = a_top tops (parent_of y) on in
          false≢true (sym (apart_parts (is_within s.top y) (is_within y s.top)
          (all_at (λ top. not (is_within s.top top || is_within top s.top)) one i y at (split s.place s.top s.at).0)).1
          ∙ within_up y (parent_of y) s.top (parent_under y (l.0.are.valid i y at) (l.0.are.no_root i y at)) s.on))
      | false ↦ λ _. refl
    ] refl

-- what is kept once the tops are lent is a tree, all that is out can come back to it, and what is lent is a part
pub record Leased (h : Lending) (tops : List (List ℕ)) : Type 0 where
  pub tree : IsTree (kept tops h.files)
  pub lends : Lends (kept tops h.files) (all_out h.out h.cut ++ tops ∷ [])
  pub part : IsPart tops (leased tops h.files)

pub lease_all : (h : Lending) (tops : List (List ℕ)) → IsGround h → CanLease (all_but h.out h.cut) tops → HaveParents tops h.files
    → ((i : ℕ) (x : List ℕ) → slice_get tops i ≡ Some x → refusal x ≡ None) → Leased h tops
lease_all h tops g can dirs valid =
    let t = are_tops (all_but h.out h.cut) tops can valid in record {
      tree = leases_keep_trees.rest tops h.files t g.tree;
      lends = lends_lease h.files tops (all_out h.out h.cut) t dirs (λ i x at. in_area_of h.out h.cut x (can.are_open i x at)) g.lends;
      part = leases_keep_trees.part tops h.files t g.tree;
    }

pub lease_ground : (old : Lending) (tops : List (List ℕ)) → IsGround old → CanLease (all_but old.out old.cut) tops → HaveParents tops old.files
    → ((i : ℕ) (x : List ℕ) → slice_get tops i ≡ Some x → refusal x ≡ None) →
    IsGround (record old { files = kept tops old.files; out = old.out ++ tops ∷ [] }) × IsPart tops (leased tops old.files)
lease_ground old tops g can dirs valid =
    let all = lease_all old tops g can dirs valid in (
      record {
        tree = all.tree;
        lends = subst (Lends (kept tops old.files)) (append_assoc (map (λ (c : Cut). c.path ∷ []) old.cut) old.out (tops ∷ [])) all.lends;
      },
      all.part,
    )

-- a part comes back

same_is : (xs ys : List (List ℕ)) → same_tops xs ys ≡ true → xs ≡ ys
same_is [] [] e = refl
same_is [] (y ∷ ys) e = absurd (false≢true e)
same_is (x ∷ xs) [] e = absurd (false≢true e)
same_is (x ∷ xs) (y ∷ ys) e = let s = both (pointwise nat_eq x y) (same_tops xs ys) e in λ i. (bytes_decides x y).0 s.0 i ∷ same_is xs ys s.1 i

among : (P : List (List ℕ) → Type 0) (tops : List (List ℕ)) (out : List (List (List ℕ))) → AllByRecursion P out
    → list_any (λ one. same_tops one tops) out ≡ true → P tops
among P tops [] a e = absurd (false≢true e)
among P tops (one ∷ out) a e = elim (same_tops one tops) as (λ b. same_tops one tops ≡ b → (b || list_any (λ one. same_tops one tops) out) ≡ true → P tops) [
  | true ↦ λ is _. subst P (same_is one tops is) a.0
  | false ↦ λ _ e. among P tops out a.1 e
] refl e

all_without : (P : List (List ℕ) → Type 0) (tops : List (List ℕ)) (out : List (List (List ℕ))) → AllByRecursion P out → AllByRecursion P (without_tops tops out)
all_without P tops [] a = tt
all_without P tops (one ∷ out) a =
    elim (same_tops one tops) as
    (λ b. AllByRecursion P (cond b out (one ∷ without_tops tops out))) [ true ↦ a.1 | false ↦ (a.0, all_without P tops out a.1) ]

all_mapped : (P Q : List (List ℕ) → Type 0) (xs : List (List (List ℕ))) → ((x : List (List ℕ)) → P x → Q x) → AllByRecursion P xs → AllByRecursion Q xs
all_mapped P Q [] f a = tt
all_mapped P Q (x ∷ xs) f a = (f x a.0, all_mapped P Q xs f a.1)

its_tops : (files : Files) (tops : List (List ℕ)) (out : List (List (List ℕ))) → Lends files out
    → list_any (λ one. same_tops one tops) out ≡ true → IsLent files tops
its_tops files tops [] l e = absurd (false≢true e)
its_tops files tops (one ∷ out) l e =
    elim (same_tops one tops) as
    (λ b. same_tops one tops ≡ b → (b || list_any (λ one. same_tops one tops) out) ≡ true → IsLent files tops) [
      | true ↦ λ is _. subst (IsLent files) (same_is one tops is) l.0
      | false ↦ λ _ e. its_tops files tops out l.1.1 e
    ] refl e

others_clear : (files : Files) (tops : List (List ℕ)) (out : List (List (List ℕ))) → Lends files out
    → list_any (λ one. same_tops one tops) out ≡ true → AllByRecursion (IsClear tops) (without_tops tops out)
others_clear files tops [] l e = absurd (false≢true e)
others_clear files tops (one ∷ out) l e =
    elim (same_tops one tops) as
    (λ b. same_tops one tops ≡ b → (b || list_any (λ one. same_tops one tops) out) ≡ true
    → AllByRecursion (IsClear tops) (cond b out (one ∷ without_tops tops out))) [
      | true ↦ λ is _. all_mapped (AreClear one) (IsClear tops) out (λ u c. subst (λ t. IsClear t u) (same_is one tops is) c.0) l.1.0
      | false ↦ λ _ e. ((among (AreClear one) tops out l.1.0 e).1, others_clear files tops out l.1.1 e)
    ] refl e

lends_without : (files : Files) (tops : List (List ℕ)) (out : List (List (List ℕ))) → Lends files out → Lends files (without_tops tops out)
lends_without files tops [] l = tt
lends_without files tops (one ∷ out) l = elim (same_tops one tops) as (λ b. Lends files (cond b out (one ∷ without_tops tops out))) [
  | true ↦ l.1.1
  | false ↦ (l.0, (all_without (AreClear one) tops out l.1.0, lends_without files tops out l.1.1))
]

-- the same of tops that stand behind others

is_behind : (tops : List (List ℕ)) (front out : List (List (List ℕ))) → list_any (λ one. same_tops one tops) out ≡ true
    → list_any (λ one. same_tops one tops) (front ++ out) ≡ true
is_behind tops [] out e = e
is_behind tops (one ∷ front) out e = ap (λ b. same_tops one tops || b) (is_behind tops front out e) ∙ or_true (same_tops one tops)
  where
    or_true : (b : Bool) → (b || true) ≡ true
    or_true true = refl
    or_true false = refl

all_behind : (P : List (List ℕ) → Type 0) (tops : List (List ℕ)) (front out : List (List (List ℕ))) → AllByRecursion P (front ++ out)
    → AllByRecursion P (front ++ without_tops tops out)
all_behind P tops [] out a = all_without P tops out a
all_behind P tops (one ∷ front) out a = (a.0, all_behind P tops front out a.1)

clear_behind : (files : Files) (tops : List (List ℕ)) (front out : List (List (List ℕ))) → Lends files (front ++ out)
    → list_any (λ one. same_tops one tops) out ≡ true → AllByRecursion (IsClear tops) (front ++ without_tops tops out)
clear_behind files tops [] out l e = others_clear files tops out l e
clear_behind files tops (one ∷ front) out l e = (
  (among (AreClear one) tops (front ++ out) l.1.0 (is_behind tops front out e)).1,
  clear_behind files tops front out l.1.1 e,
)

lends_behind : (files : Files) (tops : List (List ℕ)) (front out : List (List (List ℕ))) → Lends files (front ++ out)
    → Lends files (front ++ without_tops tops out)
lends_behind files tops [] out l = lends_without files tops out l
lends_behind files tops (one ∷ front) out l = (l.0, (all_behind (AreClear one) tops front out l.1.0, lends_behind files tops front out l.1.1))

lends_joined : (tops : List (List ℕ)) (rest after : Files) (out : List (List (List ℕ)))
    → ((q : List ℕ) → in_tops tops q ≡ false → get after q ≡ get rest q) → AllByRecursion (IsClear tops) out → Lends rest out
    → Lends after out
lends_joined tops rest after [] h c l = tt
lends_joined tops rest after (one ∷ out) h c l = (
  record { are = l.0.are; parents = λ i x at. ap is_dir (h (parent_of x) (c.0 i x at)) ∙ l.0.parents i x at },
  (l.1.0, lends_joined tops rest after out h c.1 l.1.1),
)

-- the tree once a part is back, to which all that is still out can come back
record IsBack (tops : List (List ℕ)) (own rest : Files) (out : List (List (List ℕ))) : Type 0 where
  pub tree : IsTree (laid tops own rest)
  pub lends : Lends (laid tops own rest) out

is_back : (tops : List (List ℕ)) (own rest : Files) (out : List (List (List ℕ))) → IsTree rest → IsLent rest tops → IsPart tops own
    → AllByRecursion (IsClear tops) out → Lends rest out → IsBack tops own rest out
is_back tops own rest out tree mine part clear lends = record {
  tree = leases_keep_trees.back tops own rest (laid tops own rest) mine.are part tree mine.parents (get_laid tops own rest);
  lends = lends_joined tops rest (laid tops own rest) out
      (λ q off. get_laid tops own rest q ∙ ap (λ b. cond b (get own q) (get rest q)) off) clear lends;
}

pub back_ground : (old : Lending) (tops : List (List ℕ)) (own : Files) → IsGround old → IsPart tops own
    → list_any (λ one. same_tops one tops) old.out ≡ true
    → IsGround (record old { files = laid tops own old.files; out = without_tops tops old.out })
back_ground old tops own g part out =
    let front = map (λ (c : Cut). c.path ∷ []) old.cut in
    let back = is_back tops own old.files (front ++ without_tops tops old.out) g.tree
    (its_tops old.files tops (front ++ old.out) g.lends (is_behind tops front old.out out)) part
    (clear_behind old.files tops front old.out g.lends out)
    (lends_behind old.files tops front old.out g.lends) in
    record { tree = back.tree; lends = back.lends }

-- a file in spans, which stands before the parts

all_parts : (P : List (List ℕ) → Type 0) (xs ys : List (List (List ℕ))) (x : List (List ℕ)) → AllByRecursion P ((xs ++ ys) ++ x ∷ [])
    → AllByRecursion P ((xs ++ x ∷ []) ++ ys)
all_parts P [] ys x a = first ys a
  where
    first : (ys : List (List (List ℕ))) → AllByRecursion P (ys ++ x ∷ []) → AllByRecursion P (x ∷ ys)
    first [] a = a
    first (y ∷ ys) a = let rest = first ys a.1 in (rest.0, (a.0, rest.1))
all_parts P (y ∷ xs) ys x a = (a.0, all_parts P xs ys x a.1)

lends_first : (files : Files) (x : List (List ℕ)) (out : List (List (List ℕ))) → Lends files (out ++ x ∷ []) → Lends files (x ∷ out)
lends_first files x [] l = l
lends_first files x (y ∷ out) l =
    let rest = lends_first files x out l.1.1 in
    let clear = all_parts (AreClear y) [] out x l.1.0 in
    (rest.0, (((clear.0.1, clear.0.0), rest.1.0), (l.0, (clear.1, rest.1.1))))

lends_moved : (files : Files) (xs ys : List (List (List ℕ))) (x : List (List ℕ)) → Lends files ((xs ++ ys) ++ x ∷ [])
    → Lends files ((xs ++ x ∷ []) ++ ys)
lends_moved files [] ys x l = lends_first files x ys l
lends_moved files (y ∷ xs) ys x l = (l.0, (all_parts (AreClear y) xs ys x l.1.0, lends_moved files xs ys x l.1.1))

cut_more : (cut : List Cut) (c : Cut) → map (λ (d : Cut). d.path ∷ []) (cut ++ c ∷ []) ≡ map (λ (d : Cut). d.path ∷ []) cut ++ (c.path ∷ []) ∷ []
cut_more [] c = refl
cut_more (d ∷ cut) c = ap (λ r. (d.path ∷ []) ∷ r) (cut_more cut c)

-- what a ground is once the file is out in spans
pub cut_ground : (h : Lending) (c : Cut) → Leased h (c.path ∷ []) → IsGround (record h { files = kept (c.path ∷ []) h.files; cut = h.cut ++ c ∷ [] })
cut_ground h c all = record {
  tree = all.tree;
  lends = subst (λ front. Lends (kept (c.path ∷ []) h.files) (front ++ h.out)) (sym (cut_more h.cut c))
      (lends_moved (kept (c.path ∷ []) h.files) (map (λ (d : Cut). d.path ∷ []) h.cut) h.out (c.path ∷ []) all.lends);
}

and_true : (b : Bool) → (b && true) ≡ b
and_true true = refl
and_true false = refl

cut_less : (p : List ℕ) (cut : List Cut) (out : List (List (List ℕ))) → is_some (cuts_at p cut) ≡ true
    → without_tops (p ∷ []) (all_out out cut) ≡ all_out out (without_cut p cut)
cut_less p [] out e = absurd (false≢true e)
cut_less p (c ∷ cut) out e =
    ap (λ b. cond b (all_out out cut) ((c.path ∷ []) ∷ without_tops (p ∷ []) (all_out out cut))) (and_true (pointwise nat_eq c.path p))
    ∙ elim (pointwise nat_eq c.path p) as
    (λ b. is_some (cond b (Some c.cuts) (cuts_at p cut)) ≡ true
    → cond b (all_out out cut) ((c.path ∷ []) ∷ without_tops (p ∷ []) (all_out out cut)) ≡ all_out out (cond b cut (c ∷ without_cut p cut))) [
      | true ↦ λ _. refl
      | false ↦ λ e. ap (λ r. (c.path ∷ []) ∷ r) (cut_less p cut out e)
    ] e

cut_there : (p : List ℕ) (cut : List Cut) (out : List (List (List ℕ))) → is_some (cuts_at p cut) ≡ true
    → list_any (λ one. same_tops one (p ∷ [])) (all_out out cut) ≡ true
cut_there p [] out e = absurd (false≢true e)
cut_there p (c ∷ cut) out e =
    ap (λ b. b || list_any (λ one. same_tops one (p ∷ [])) (all_out out cut)) (and_true (pointwise nat_eq c.path p))
    ∙ elim (pointwise nat_eq c.path p) as
    (λ b. is_some (cond b (Some c.cuts) (cuts_at p cut)) ≡ true → (b || list_any (λ one. same_tops one (p ∷ [])) (all_out out cut)) ≡ true) [
      | true ↦ λ _. refl
      | false ↦ λ e. cut_there p cut out e
    ] e

-- and once it is back
pub whole_ground : (old : Lending) (p : List ℕ) (own : Files) → IsGround old → IsPart (p ∷ []) own → is_some (cuts_at p old.cut) ≡ true
    → IsGround (record old { files = laid (p ∷ []) own old.files; cut = without_cut p old.cut })
whole_ground old p own g part there =
    let all = all_out old.out old.cut in
    let out = cut_there p old.cut old.out there in
    let back = is_back (p ∷ []) own old.files (without_tops (p ∷ []) all) g.tree (its_tops old.files (p ∷ []) all g.lends out) part
    (others_clear old.files (p ∷ []) all g.lends out) (lends_without old.files (p ∷ []) all g.lends) in
    record { tree = back.tree; lends = subst (Lends (laid (p ∷ []) own old.files)) (cut_less p old.cut old.out there) back.lends }
