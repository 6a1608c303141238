-- What stands at and under a path, as a loop over the entries from that path on finds it.
use Rattle.files_mem.proofs.Prelude.{◌≡◌, ℕ, Bool, true, false, cond, ◌||◌, List, [], ◌∷◌, ◌++◌, map, Option, Some, None, refl, ap, ◌∙◌, sym, subst, nat_eq}
use Rattle.files_mem.proofs.Prelude.{is_some, length, arith, false≢true, Result, Ok, Err, OnErr, AllByRecursion, keys_of, get, find, insert, remove, get-insert}
use Rattle.files_mem.proofs.Prelude.{get-remove, get-from_entries, eq_by_cmp, is_le, Ordering, Less, Equal, Greater, pointwise, bytes_decides, sorted_head}
use Rattle.files_mem.proofs.Prelude.{sorted_tail, path_cmp, is_within, is_under, refusal, path_cmp_total, path_cmp_ties, path_cmp_same, contiguous, preorder}
use Rattle.files_mem.proofs.Prelude.{Files, Node, node_of, files_of, AllValid, copied, equal}
use Rattle.std.specs.List.Sorted.{IsStrictlySortedBy}
use Rattle.files_mem.specs.declared.nodes.Node as stored
use Rattle.files_mem.proofs.Listed.{Entries, told, from, reach, reach_is, IsSorted, AllAfter, AllReady, ready_from, from_end, sorted_end, all_end}
use Rattle.files_mem.proofs.Treed.{same_path}

-- what the entries have at a path
abbrev pub has : List ℕ → Entries → Option Node
has q es = find path_cmp q (map told es)

pub has_is : (q : List ℕ) (es : Entries) → get (files_of es) q ≡ has q es
has_is q es = get-from_entries path_cmp_total (map told es) q

-- the node at a path once these entries were put, the last last
abbrev pub over : Entries → List ℕ → Option Node → Option Node
over [] q o = o
over (e ∷ es) q o = over es q (cond (eq_by_cmp path_cmp q e.0) (Some (node_of e.1)) o)

over_more : (es : Entries) (e : List ℕ × stored.Node) (q : List ℕ) (o : Option Node)
    → over (es ++ e ∷ []) q o ≡ cond (eq_by_cmp path_cmp q e.0) (Some (node_of e.1)) (over es q o)
over_more [] e q o = refl
over_more (x ∷ es) e q o = over_more es e q (cond (eq_by_cmp path_cmp q x.0) (Some (node_of x.1)) o)

-- the loop: what is done is the front of what is from the top on, all within it, and was put
pub record Copying (top : List ℕ) (from_files : Files) (es : Entries) (old new : Files) : Type 0 where
  pub all : Entries
  pub view : files_of all ≡ from_files
  pub sorted : IsSorted all
  pub valid : AllValid all
  pub done : Entries
  pub is : from top all ≡ done ++ es
  pub within : AllByRecursion (λ e. is_within e.0 top ≡ true) done
  pub put : (q : List ℕ) → get new q ≡ over done q (get old q)

pub copying_begins : (top : List ℕ) (all es : Entries) (files old : Files) → files_of all ≡ files → IsSorted all → AllValid all
    → es ≡ from top all → Copying top files es old old
copying_begins top all es files old view s v e = record { all = all; view = view; sorted = s; valid = v; done = []; is = sym e; within = tt; put = λ q. refl }

all_more : (P : List ℕ × stored.Node → Type 0) (es : Entries) (e : List ℕ × stored.Node) → AllByRecursion P es → P e → AllByRecursion P (es ++ e ∷ [])
all_more P [] e a p = (p, tt)
all_more P (x ∷ es) e a p = (a.0, all_more P es e a.1 p)

append_one : (xs : Entries) (e : List ℕ × stored.Node) (ys : Entries) → xs ++ (e ∷ ys) ≡ (xs ++ e ∷ []) ++ ys
append_one [] e ys = refl
append_one (x ∷ xs) e ys = ap (λ r. x ∷ r) (append_one xs e ys)

pub copying_step : (top : List ℕ) (files : Files) (es rest : Entries) (k : List ℕ) (n m : stored.Node) (old new next : Files)
    → Copying top files es old new → es ≡ (k, n) ∷ rest → is_within k top ≡ true →
    node_of m ≡ node_of n → next ≡ insert new k (node_of m) → Copying top files rest old next
copying_step top files es rest k n m old new next c e on same is = record {
  all = c.all;
  view = c.view;
  sorted = c.sorted;
  valid = c.valid;
  done = c.done ++ (k, n) ∷ [];
  is = c.is ∙ ap (λ r. c.done ++ r) e ∙ append_one c.done (k, n) rest;
  within = all_more (λ x. is_within x.0 top ≡ true) c.done (k, n) c.within on;
  put = λ q. ap (λ f. get f q) is ∙ get-insert path_cmp_total new k (node_of m) q ∙ ap (λ x. cond (eq_by_cmp path_cmp q k) (Some x) (get new q)) same
      ∙ ap (cond (eq_by_cmp path_cmp q k) (Some (node_of n))) (c.put q) ∙ sym (over_more c.done (k, n) q (get old q));
}

-- what is not within the top was not put
over_off : (top : List ℕ) (es : Entries) (q : List ℕ) (o : Option Node) → AllByRecursion (λ e. is_within e.0 top ≡ true) es
    → is_within q top ≡ false → over es q o ≡ o
over_off top [] q o a off = refl
over_off top (e ∷ es) q o a off = ap (λ b. over es q (cond b (Some (node_of e.1)) o)) other ∙ over_off top es q o a.1 off
  where
    other : eq_by_cmp path_cmp q e.0 ≡ false
    other = elim (eq_by_cmp path_cmp q e.0) as (λ b. eq_by_cmp path_cmp q e.0 ≡ b → b ≡ false) [
      | true ↦ λ is. absurd (false≢true (sym off ∙ ap (λ x. is_within x top) (same_path q e.0 is) ∙ a.0))
      | false ↦ λ _. refl
    ] refl

pub copying_off : (top : List ℕ) (files : Files) (es : Entries) (old new : Files) → Copying top files es old new → (q : List ℕ)
    → is_within q top ≡ false → get new q ≡ get old q
copying_off top files es old new c q off = c.put q ∙ over_off top c.done q (get old q) c.within off

-- of distinct keys the first is the last
less_other : (q k : List ℕ) → path_cmp k q ≡ Less → eq_by_cmp path_cmp q k ≡ false
less_other q k l = elim (eq_by_cmp path_cmp q k) as (λ b. eq_by_cmp path_cmp q k ≡ b → b ≡ false) [
  | true ↦ λ is. absurd (by (sym (ap (λ x. path_cmp k x) (same_path q k is)) ∙ l))
  | false ↦ λ _. refl
] refl
  where
    by : path_cmp k k ≡ Less → ⊥
    by e = clash (sym e ∙ equal k)
      where
        clash : Less ≡ Equal → ⊥
        clash e = cc

over_after : (k q : List ℕ) (es : Entries) (o : Option Node) → q ≡ k → AllAfter k es → over es q o ≡ o
over_after k q [] o e a = refl
over_after k q (x ∷ es) o e a = ap (λ b. over es q (cond b (Some (node_of x.1)) o)) (turned (less_other x.0 k a.0)) ∙ over_after k q es o e a.1
  where
    turned : eq_by_cmp path_cmp x.0 k ≡ false → eq_by_cmp path_cmp q x.0 ≡ false
    turned off = elim (eq_by_cmp path_cmp q x.0) as (λ b. eq_by_cmp path_cmp q x.0 ≡ b → b ≡ false) [
      | true ↦ λ is. absurd (false≢true (sym off ∙ sym (path_cmp_ties x.0 k) ∙ (bytes_decides x.0 k).1 (sym (same_path q x.0 is) ∙ e)))
      | false ↦ λ _. refl
    ] refl

over_has : (es : Entries) (q : List ℕ) (o : Option Node) → IsSorted es → over es q o ≡ cond (is_some (has q es)) (has q es) o
over_has [] q o s = refl
over_has (e ∷ es) q o s =
    elim (eq_by_cmp path_cmp q e.0) as
    (λ b. eq_by_cmp path_cmp q e.0 ≡ b
    → over es q (cond b (Some (node_of e.1)) o)
    ≡ cond (is_some (cond b (Some (node_of e.1)) (has q es))) (cond b (Some (node_of e.1)) (has q es)) o) [
      | true ↦ λ is. over_after e.0 q es (Some (node_of e.1)) (same_path q e.0 is) (sorted_head path_cmp e.0 (keys_of es) s)
      | false ↦ λ _. over_has es q o (sorted_tail path_cmp e.0 (keys_of es) s)
    ] refl

has_front : (done es : Entries) (q : List ℕ) → has q es ≡ None → has q (done ++ es) ≡ has q done
has_front [] es q e = e
has_front (x ∷ done) es q e = ap (cond (eq_by_cmp path_cmp q x.0) (Some (node_of x.1))) (has_front done es q e)

has_from : (top q : List ℕ) (es : Entries) → is_le (path_cmp top q) ≡ true → has q (from top es) ≡ has q es
has_from top q [] l = refl
has_from top q (e ∷ es) l = elim (reach top e.0) as (λ b. reach top e.0 ≡ b → has q (cond b (e ∷ from top es) (from top es)) ≡ has q (e ∷ es)) [
  | true ↦ λ _. ap (cond (eq_by_cmp path_cmp q e.0) (Some (node_of e.1))) (has_from top q es l)
  | false ↦ λ off. has_from top q es l ∙ sym (ap (λ b. cond b (Some (node_of e.1)) (has q es)) (other off))
] refl
  where
    other : reach top e.0 ≡ false → eq_by_cmp path_cmp q e.0 ≡ false
    other off = elim (eq_by_cmp path_cmp q e.0) as (λ b. eq_by_cmp path_cmp q e.0 ≡ b → b ≡ false) [
      | true ↦ λ is. absurd (false≢true (sym off ∙ reach_is top e.0 ∙ ap (λ x. is_le (path_cmp top x)) (sym (same_path q e.0 is)) ∙ l))
      | false ↦ λ _. refl
    ] refl

-- what comes after one that is not within the top is not within it either
after_off : (top x q : List ℕ) → refusal top ≡ None → refusal x ≡ None → path_cmp top x ≡ Less → is_within x top ≡ false
    → is_within q top ≡ true → path_cmp x q ≡ Less → ⊥
after_off top x q ft fx l off on m =
    elim (pointwise nat_eq q top) as (λ b. pointwise nat_eq q top ≡ b → (b || is_under q top) ≡ true → ⊥) [
      | true ↦ λ is _. clash (sym (path_cmp_total.trans top x top l (ap (path_cmp x) (sym ((bytes_decides q top).0 is)) ∙ m)) ∙ equal top)
      | false ↦ λ _ u. false≢true (sym off ∙ ap (λ b. pointwise nat_eq x top || b) (contiguous.between top x q ft fx l m u) ∙ or_true (pointwise nat_eq x top))
    ] refl on
  where
    clash : Less ≡ Equal → ⊥
    clash e = cc

    or_true : (b : Bool) → (b || true) ≡ true
    or_true true = refl
    or_true false = refl

not_here : (top x q : List ℕ) → is_within x top ≡ false → is_within q top ≡ true → eq_by_cmp path_cmp q x ≡ false
not_here top x q off on = elim (eq_by_cmp path_cmp q x) as (λ b. eq_by_cmp path_cmp q x ≡ b → b ≡ false) [
  | true ↦ λ is. absurd (false≢true (sym off ∙ ap (λ y. is_within y top) (sym (same_path q x is)) ∙ on))
  | false ↦ λ _. refl
] refl

none_after : (top x q : List ℕ) (es : Entries) → refusal top ≡ None → refusal x ≡ None → path_cmp top x ≡ Less → is_within x top ≡ false
    → is_within q top ≡ true → AllAfter x es → has q es ≡ None
none_after top x q [] ft fx l off on a = refl
none_after top x q (e ∷ es) ft fx l off on a =
    elim (eq_by_cmp path_cmp q e.0) as (λ b. eq_by_cmp path_cmp q e.0 ≡ b → cond b (Some (node_of e.1)) (has q es) ≡ None) [
      | true ↦ λ is. absurd (after_off top x q ft fx l off on (ap (path_cmp x) (same_path q e.0 is) ∙ a.0))
      | false ↦ λ _. none_after top x q es ft fx l off on a.1
    ] refl

pub stops : (top k q : List ℕ) (n : stored.Node) (rest : Entries) → refusal top ≡ None → refusal k ≡ None → is_le (path_cmp top k) ≡ true
    → is_within k top ≡ false → is_within q top ≡ true →
    IsSorted ((k, n) ∷ rest) → has q ((k, n) ∷ rest) ≡ None
stops top k q n rest ft fk le off on s =
    ap (λ b. cond b (Some (node_of n)) (has q rest)) (not_here top k q off on)
    ∙ none_after top k q rest ft fk (strict (path_cmp top k) refl le) off on (sorted_head path_cmp k (keys_of rest) s)
  where
    within_itself : is_within top top ≡ true
    within_itself = ap (λ b. b || is_under top top) ((bytes_decides top top).1 refl)

    strict : (r : Ordering) → path_cmp top k ≡ r → is_le r ≡ true → path_cmp top k ≡ Less
    strict Less e h = e
    strict Equal e h = absurd (false≢true (sym off ∙ ap (λ x. is_within x top) (sym (path_cmp_same top k e)) ∙ within_itself))
    strict Greater e h = absurd (false≢true h)

-- what is at or under a path does not come before it
within_after : (top q : List ℕ) → is_within q top ≡ true → is_le (path_cmp top q) ≡ true
within_after top q on = elim (pointwise nat_eq q top) as (λ b. pointwise nat_eq q top ≡ b → (b || is_under q top) ≡ true → is_le (path_cmp top q) ≡ true) [
  | true ↦ λ is _. ap is_le (ap (path_cmp top) ((bytes_decides q top).0 is) ∙ equal top)
  | false ↦ λ _ u. ap is_le (top_down top q u)
] refl on
  where
    top_down : (y x : List ℕ) → is_under x y ≡ true → path_cmp y x ≡ Less
    top_down y x u = preorder.top_down x y u

front_sorted : (xs ys : Entries) → IsSorted (xs ++ ys) → IsSorted xs
unfolding IsStrictlySortedBy
front_sorted [] ys s = tt
front_sorted (x ∷ xs) ys s = (front_after xs ys s.0, front_sorted xs ys s.1)
  where
    front_after : (es fs : Entries) → AllAfter x.0 (es ++ fs) → AllAfter x.0 es
    front_after [] fs a = tt
    front_after (e ∷ es) fs a = (a.0, front_after es fs a.1)

-- at an entry that is not within the top nothing more is
stop_none : (top : List ℕ) (files : Files) (es rest : Entries) (k : List ℕ) (n : stored.Node) (old new : Files) → refusal top ≡ None
    → Copying top files es old new → es ≡ (k, n) ∷ rest →
    is_within k top ≡ false → (q : List ℕ) → is_within q top ≡ true → has q es ≡ None
stop_none top files es rest k n old new ft c e off q on =
    let r = from_end top c.all c.sorted in
    let tail : from top c.all ≡ c.done ++ ((k, n) ∷ rest) = c.is ∙ ap (λ x. c.done ++ x) e in
    let sorted = sorted_end c.done ((k, n) ∷ rest) (subst IsSorted tail (sorted_end r.0 (from top c.all) (subst IsSorted r.1 c.sorted))) in
    let valid = all_end (λ x. refusal x.0 ≡ None) c.done ((k, n) ∷ rest)
    (subst AllValid tail (all_end (λ x. refusal x.0 ≡ None) r.0 (from top c.all) (subst AllValid r.1 c.valid))) in
    let ready = all_end (λ x. is_le (path_cmp top x.0) ≡ true) c.done ((k, n) ∷ rest) (subst (AllReady top) tail (ready_from top c.all)) in
    ap (has q) e ∙ stops top k q n rest ft valid.0 ready.0 off on sorted

copying_ends : (top : List ℕ) (files : Files) (es : Entries) (old new : Files) → Copying top files es old new
    → ((q : List ℕ) → is_within q top ≡ true → has q es ≡ None) →
    (q : List ℕ) → get new q ≡ copied (is_within q top) (get files q) (get old q)
copying_ends top files es old new c none q = elim (is_within q top) as (λ b. is_within q top ≡ b → get new q ≡ copied b (get files q) (get old q)) [
  | false ↦ λ off. copying_off top files es old new c q off
  | true ↦ λ on. c.put q ∙ over_has c.done q (get old q) done_sorted
      ∙ ap (λ o. cond (is_some o) o (get old q))
      (sym (has_front c.done es q (none q on)) ∙ ap (has q) (sym c.is) ∙ has_from top q c.all (within_after top q on)
      ∙ sym (has_is q c.all) ∙ ap (λ f. get f q) c.view)
] refl
  where
    done_sorted : IsSorted c.done
    done_sorted = front_sorted c.done es
        (subst IsSorted c.is (let r = from_end top c.all c.sorted in sorted_end r.0 (from top c.all) (subst IsSorted r.1 c.sorted)))

pub copying_stops : (top : List ℕ) (files : Files) (es rest : Entries) (k : List ℕ) (n : stored.Node) (old new : Files) → refusal top ≡ None
    → Copying top files es old new → es ≡ (k, n) ∷ rest →
    is_within k top ≡ false → (q : List ℕ) → get new q ≡ copied (is_within q top) (get files q) (get old q)
copying_stops top files es rest k n old new ft c e off = copying_ends top files es old new c (stop_none top files es rest k n old new ft c e off)

pub copying_done : (top : List ℕ) (files : Files) (es : Entries) (old new : Files) → Copying top files es old new → length es ≡ 0
    → (q : List ℕ) → get new q ≡ copied (is_within q top) (get files q) (get old q)
copying_done top files es old new c z = copying_ends top files es old new c (λ q on. nothing es z q)
  where
    nothing : (es : Entries) → length es ≡ 0 → (q : List ℕ) → has q es ≡ None
    nothing [] z q = refl
    nothing (e ∷ es) z q = absurd (omega arith)

-- without the keys of these entries
abbrev pub gone : Entries → List ℕ → Option Node → Option Node
gone [] q o = o
gone (e ∷ es) q o = gone es q (cond (eq_by_cmp path_cmp q e.0) None o)

gone_none : (es : Entries) (q : List ℕ) → gone es q None ≡ None
gone_none [] q = refl
gone_none (e ∷ es) q = elim (eq_by_cmp path_cmp q e.0) as (λ b. gone es q (cond b None None) ≡ None) [ true ↦ gone_none es q | false ↦ gone_none es q ]

pub gone_is : (es : Entries) (q : List ℕ) (o : Option Node) → gone es q o ≡ cond (is_some (get (files_of es) q)) None o
gone_is es q o = by es o ∙ ap (λ x. cond (is_some x) None o) (sym (has_is q es))
  where
    by : (es : Entries) (o : Option Node) → gone es q o ≡ cond (is_some (has q es)) None o
    by [] o = refl
    by (e ∷ es) o = elim (eq_by_cmp path_cmp q e.0) as
        (λ b. gone es q (cond b None o) ≡ cond (is_some (cond b (Some (node_of e.1)) (has q es))) None o) [
          | true ↦ gone_none es q
          | false ↦ by es o
        ]

pub gone_step : (es rest : Entries) (k : List ℕ) (n : stored.Node) (now next : Files) (q : List ℕ) → es ≡ (k, n) ∷ rest
    → next ≡ remove now k → gone rest q (get next q) ≡ gone es q (get now q)
gone_step es rest k n now next q e is = ap (gone rest q) (ap (λ f. get f q) is ∙ get-remove path_cmp_total now k q) ∙ sym (ap (λ x. gone x q (get now q)) e)

pub gone_end : (es : Entries) (q : List ℕ) (o : Option Node) → length es ≡ 0 → gone es q o ≡ o
gone_end [] q o z = refl
gone_end (e ∷ es) q o z = absurd (omega arith)

pub copying_lost : {B : Type 0} (r : Result (Unit {0}) B) (P : Type 0) → P → OnErr r P
copying_lost (Ok x) P p = tt
copying_lost (Err x) P p = p

pub after_put : (old new : Files) (k key : List ℕ) (n : Node) → new ≡ insert old key n → key ≡ k → new ≡ insert old k n
after_put old new k key n e is = e ∙ ap (λ x. insert old x n) is
