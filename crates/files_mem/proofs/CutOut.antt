-- A file that is cut out of a ground, and that is back.
use Rattle.files_mem.proofs.Prelude.{◌≡◌, ℕ, zero, suc, Bool, true, false, cond, ◌||◌, List, [], ◌∷◌, ◌++◌, Option, Some, None, refl, ap, ◌∙◌, sym, subst}
use Rattle.files_mem.proofs.Prelude.{is_some, slice_get, append-nil, arith, false≢true, drop_all, IsTrue, Ok, get, insert, get-insert, bytes_decides, is_under}
use Rattle.files_mem.proofs.Prelude.{refusal, parent_of, level_of, path_cmp_total, path_cmp_ties, Files, Node, file, is_file, is_dir, content, WrongKind, Area}
use Rattle.files_mem.proofs.Prelude.{all_but, is_open, write_refusal, spliced, time_of, CanLease, in_tops, leased, laid, get_laid, IsPart, IsRejoined, at_tree}
use Rattle.files_mem.proofs.Prelude.{get_part, Memory, answered, Lending, IsGround, IsCutOut}
use Rattle.std.specs.Prelude.{◌+◌, length}
use Rattle.files_mem.proofs.Lending.{Leased, lease_all}
use Rattle.files_mem.proofs.Parted.{write_part}
use Rattle.files_mem.proofs.Treed.{not_root}

got : (files : Files) (p : List ℕ) (n : Node) → get (insert files p n) p ≡ Some n
got files p n =
    get-insert path_cmp_total files p n p ∙ ap (λ b. cond b (Some n) (get files p)) (sym (path_cmp_ties p p) ∙ (bytes_decides p p).1 refl)

pub within_self : (p : List ℕ) → in_tops (p ∷ []) p ≡ true
within_self p = ap (λ b. (b || is_under p p) || false) ((bytes_decides p p).1 refl)

only : (p : List ℕ) (i : ℕ) (x : List ℕ) → slice_get (p ∷ []) i ≡ Some x → (i ≡ 0) × (p ≡ x)
only p zero x e = (refl, cc)
only p (suc i) x e = cc

can_lend : (area : Area) (p : List ℕ) → IsTrue (is_open area p) → CanLease area (p ∷ [])
can_lend area p o = record {
  distinct = λ i j x a b. (only p i x a).0 ∙ sym (only p j x b).0;
  one_level = λ i j x y a b. ap level_of (sym (only p i x a).1 ∙ (only p j y b).1);
  are_open = λ i x a. subst (λ q. IsTrue (is_open area q)) (only p i x a).1 o;
}

some_file : (o : Option Node) → is_file o ≡ true → is_some o ≡ true
some_file None e = absurd (false≢true e)
some_file (Some n) e = refl

may_write : (o : Option Node) → is_file o ≡ true → write_refusal o ≡ None
may_write None e = absurd (false≢true e)
may_write (Some n) e = ap (λ b. cond b None (Some WrongKind)) e

-- a file that is cut out is lent as the one top of a part
pub cut_all : (h : Lending) (p : List ℕ) → IsGround h → IsTrue (is_open (all_but h.out h.cut) p) → is_file (get h.files p) ≡ true
    → Leased h (p ∷ [])
cut_all h p g o f =
    let there = some_file (get h.files p) f in
    let at = at_tree h.files g.tree p in
    let off = not_root (all_but h.out h.cut) p o in
    lease_all h (p ∷ []) g (can_lend (all_but h.out h.cut) p o)
    (λ i x a. subst (λ q. is_dir (get h.files (parent_of q)) ≡ true) (only p i x a).1 (at.in_dir off there))
    (λ i x a. subst (λ q. refusal q ≡ None) (only p i x a).1 (at.fine off there))

pub cut_node : (files : Files) (p : List ℕ) → get (leased (p ∷ []) files) p ≡ get files p
cut_node files p = get_part (p ∷ []) files p ∙ ap (λ b. cond b (get files p) None) (within_self p)

-- the file with its bytes is a part still

pub set_part : (p : List ℕ) (own : List (List ℕ)) (store new : Files) (bytes : List ℕ) → IsCutOut p own store
    → new ≡ insert store p (record { body = file bytes; mtime = time_of (get store p) }) → IsPart (p ∷ []) new
set_part p own store new bytes out done =
    write_part {B = ⊥} (Ok tt) (p ∷ []) store new p 0 bytes out.part (may_write (get store p) out.is_file)
    (done ∙ ap (λ b. insert store p (record { body = file b; mtime = time_of (get store p) })) (sym same)) tt
  where
    same : spliced (content (get store p)) 0 bytes ≡ bytes
    same = ap (λ old. spliced old 0 bytes) out.empty ∙ ap (λ r. bytes ++ r) (drop_all (0 + length bytes) [] (omega arith)) ∙ append-nil bytes

pub set_node : (p : List ℕ) (store new : Files) (n : Node) → new ≡ insert store p n → get new p ≡ Some n
set_node p store new n done = ap (λ f. get f p) done ∙ got store p n

-- it is back

pub rejoined : (p : List ℕ) (own rest : Files) (bytes : List ℕ) → is_file (get own p) ≡ true → content (get own p) ≡ bytes
    → IsRejoined p bytes rest (laid (p ∷ []) own rest)
rejoined p own rest bytes f b =
    let here = get_laid (p ∷ []) own rest p ∙ ap (λ t. cond t (get own p) (get rest p)) (within_self p) in
    record {
      is_file = ap is_file here ∙ f;
      same = ap content here ∙ b;
      rest = λ q off. get_laid (p ∷ []) own rest q ∙ ap (λ t. cond t (get own q) (get rest q)) off;
    }

pub answered_same : (b : Bool) (m : Memory) → ((answered b m).files ≡ m.files) × ((answered b m).area ≡ m.area)
answered_same true m = (refl, refl)
answered_same false m = (refl, refl)
