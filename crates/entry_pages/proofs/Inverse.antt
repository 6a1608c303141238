-- Packing and unpacking are inverse, and packing goes on behind.
use Rattle.entry_pages.proofs.Prelude.{◌≡◌, ℕ, zero, suc, ◌+◌, ◌≤◌, ◌%◌, true, false, cond, List, [], ◌∷◌, ◌++◌, length, take, drop, refl, ap, sym, Result, Ok}
use Rattle.entry_pages.proofs.Prelude.{Err, ◌∙◌, arith, append_assoc, nat_eq, ◌==◌, ◌&&◌, common_prefix_len, list_all, sum_by, take-append-drop, take-append-le}
use Rattle.entry_pages.proofs.Prelude.{take_all, length-append, length-drop, drop-drop, take-append_seam, drop-append_seam, append-nil, common_prefix_len-le}
use Rattle.entry_pages.proofs.Prelude.{sum_by-cons, nat_tests, refusal, Entry, Head, head_from, shared_by, rest_by, head_by, heads_from, rests_from, entry_by}
use Rattle.entry_pages.proofs.Prelude.{unpacked, last_path, starts_by, path_len, IsKept, AreStarts, is_path, rest_sum, Some, None, slice_get, OnOk, OnErr, inl}
use Rattle.entry_pages.proofs.Prelude.{inr, cases_lt, OutOfMemory, IsUtf8, is_utf8-from_IsUtf8, is_utf8, exact_unsigned_eq}
use Rattle.std.specs.Prelude.{◌<◌, ◌*◌}

cons_same : (x y : ℕ) (s t : List ℕ) → x ≡ y → s ≡ t → x ∷ s ≡ y ∷ t
cons_same x y s t e f = cc

take_suc : (n x : ℕ) (xs : List ℕ) → take (1 + n) (x ∷ xs) ≡ x ∷ take n xs
take_suc n x xs = let one : 1 + n ≡ suc n = omega arith in ap (λ (k : ℕ). take k (x ∷ xs)) one

pub prefix_same : (a b : List ℕ) → take (common_prefix_len nat_eq a b) a ≡ take (common_prefix_len nat_eq a b) b
prefix_same [] b = refl
prefix_same (x ∷ xs) [] = refl
prefix_same (x ∷ xs) (y ∷ ys) =
    elim (nat_eq x y) as (λ t. nat_eq x y ≡ t
    → take (cond t (1 + common_prefix_len nat_eq xs ys) 0) (x ∷ xs) ≡ take (cond t (1 + common_prefix_len nat_eq xs ys) 0) (y ∷ ys)) [
      | true ↦ λ e. take_suc (common_prefix_len nat_eq xs ys) x xs
          ∙ (cons_same x y (take (common_prefix_len nat_eq xs ys) xs) (take (common_prefix_len nat_eq xs ys) ys) (exact_unsigned_eq x y e)
          (prefix_same xs ys)) ∙ sym (take_suc (common_prefix_len nat_eq xs ys) y ys)
      | false ↦ λ e. refl
    ] refl

pub shared_same : (place : ℕ) (before path : List ℕ) → take (shared_by place before path) before ≡ take (shared_by place before path) path
shared_same place before path =
    elim (place % 256 == 0) as
    (λ t. take (cond t 0 (common_prefix_len nat_eq before path)) before ≡ take (cond t 0 (common_prefix_len nat_eq before path)) path) [
      | true ↦ refl
      | false ↦ prefix_same before path
    ]

pub shared_front : (place : ℕ) (before path : List ℕ) → shared_by place before path ≤ length before
shared_front place before path =
    elim (place % 256 == 0) as (λ t. cond t 0 (common_prefix_len nat_eq before path) ≤ length before) [
      | true ↦ omega arith
      | false ↦ (common_prefix_len-le nat_eq before path).0
    ]

pub shared_short : (place : ℕ) (before path : List ℕ) → shared_by place before path ≤ length path
shared_short place before path =
    elim (place % 256 == 0) as (λ t. cond t 0 (common_prefix_len nat_eq before path) ≤ length path) [
      | true ↦ omega arith
      | false ↦ (common_prefix_len-le nat_eq before path).1
    ]

pub path_back : (place : ℕ) (before path more : List ℕ)
    → take (shared_by place before path) before ++ take (length (rest_by place before path)) (rest_by place before path ++ more) ≡ path
path_back place before path more =
    ap (λ (xs : List ℕ). take (shared_by place before path) before ++ xs) (take-append_seam (rest_by place before path) more)
    ∙ ap (λ (xs : List ℕ). xs ++ rest_by place before path) (shared_same place before path)
    ∙ take-append-drop (shared_by place before path) path

pub inverse : (place : ℕ) (before : List ℕ) (entries : List Entry)
    → unpacked before (heads_from place before entries) (rests_from place before entries) ≡ entries
inverse place before [] = refl
inverse place before (e ∷ es) =
    let path = path_back place before e.path (rests_from (place + 1) e.path es) in
    let rests = drop-append_seam (rest_by place before e.path) (rests_from (place + 1) e.path es) in
    ap (λ (p : List ℕ). entry_by (head_by place before e) p ∷ unpacked p (heads_from (place + 1) e.path es)
    (drop (length (rest_by place before e.path)) (rest_by place before e.path ++ rests_from (place + 1) e.path es))) path
    ∙ ap (λ (bytes : List ℕ). e ∷ unpacked e.path (heads_from (place + 1) e.path es) bytes) rests
    ∙ ap (λ (rest : List Entry). e ∷ rest) (inverse (place + 1) e.path es)

pub heads_more : (place : ℕ) (before : List ℕ) (es : List Entry) (e : Entry)
    → heads_from place before (es ++ e ∷ []) ≡ heads_from place before es ++ head_by (place + length es) (last_path before es) e ∷ []
heads_more place before [] e = let at : place + 0 ≡ place = omega arith in ap (λ (n : ℕ). head_by n before e ∷ []) (sym at)
heads_more place before (x ∷ es) e =
    let rest = heads_more (place + 1) x.path es e in
    let at : place + 1 + length es ≡ place + length (x ∷ es) = omega arith in
    cc

pub rests_more : (place : ℕ) (before : List ℕ) (es : List Entry) (e : Entry)
    → rests_from place before (es ++ e ∷ []) ≡ rests_from place before es ++ rest_by (place + length es) (last_path before es) e.path
rests_more place before [] e = let at : place + 0 ≡ place = omega arith in
    append-nil (rest_by place before e.path) ∙ ap (λ (n : ℕ). rest_by n before e.path) (sym at)
rests_more place before (x ∷ es) e =
    let rest = rests_more (place + 1) x.path es e in
    let at : place + 1 + length es ≡ place + length (x ∷ es) = omega arith in
    ap (λ (bytes : List ℕ). rest_by place before x.path ++ bytes) rest
    ∙ ap (λ (n : ℕ). rest_by place before x.path ++ (rests_from (place + 1) x.path es ++ rest_by n (last_path x.path es) e.path)) at
    ∙ sym (append_assoc (rest_by place before x.path) (rests_from (place + 1) x.path es) (rest_by (place + length (x ∷ es)) (last_path x.path es) e.path))

pub last_more : (before : List ℕ) (es : List Entry) (e : Entry) → last_path before (es ++ e ∷ []) ≡ e.path
last_more before [] e = refl
last_more before (x ∷ es) e = last_more x.path es e

pub heads_many : (place : ℕ) (before : List ℕ) (es : List Entry) → length (heads_from place before es) ≡ length es
heads_many place before [] = refl
heads_many place before (e ∷ es) = let rest = heads_many (place + 1) e.path es in omega (arith, rest)

pub kept_many : {hs : List Head} {starts bytes path : List ℕ} {entries : List Entry} → IsKept hs starts bytes path entries → length hs ≡ length entries
kept_many k = sym (ap length k.heads) ∙ heads_many 0 [] _

all_more : (es : List Entry) (e : Entry) → list_all (λ e. is_path e.path) es ≡ true → is_path e.path ≡ true
    → list_all (λ e. is_path e.path) (es ++ e ∷ []) ≡ true
all_more [] e h p = grind (arith, p)
all_more (x ∷ es) e h p =
    elim (is_path x.path) as (λ t. (t && list_all (λ e. is_path e.path) es) ≡ true → (t && list_all (λ e. is_path e.path) (es ++ e ∷ [])) ≡ true) [
      | true ↦ λ h. all_more es e h p
      | false ↦ λ h. h
    ] h

path_many : (place : ℕ) (before : List ℕ) (e : Entry) → path_len (head_by place before e) ≡ length e.path
path_many place before e = omega (arith, shared_short place before e.path, length-drop (shared_by place before e.path) e.path)

-- as many bytes in all paths as the heads say
pub paths_many : (place : ℕ) (before : List ℕ) (xs : List Entry) → sum_by path_len (heads_from place before xs) ≡ sum_by (λ e. length e.path) xs
paths_many place before [] = refl
paths_many place before (x ∷ xs) =
    sum_by-cons path_len (head_by place before x) (heads_from (place + 1) x.path xs)
    ∙ ap (λ (n : ℕ). n + sum_by path_len (heads_from (place + 1) x.path xs)) (path_many place before x)
    ∙ ap (λ (n : ℕ). length x.path + n) (paths_many (place + 1) x.path xs)
    ∙ sym (sum_by-cons (λ (e : Entry). length e.path) x xs)

-- as many bytes as the heads say
pub rests_many : (place : ℕ) (before : List ℕ) (xs : List Entry) (n : ℕ) →
    length (rests_from place before (take n xs)) ≡ rest_sum (take n (heads_from place before xs))
rests_many place before [] zero = refl
rests_many place before [] (suc n) = refl
rests_many place before (x ∷ xs) zero = refl
rests_many place before (x ∷ xs) (suc n) =
    let rest = rests_many (place + 1) x.path xs n in
    let both = length-append (rest_by place before x.path) (rests_from (place + 1) x.path (take n xs)) in
    both ∙ ap (λ (m : ℕ). length (rest_by place before x.path) + m) rest
    ∙ sym (sum_by-cons (λ (h : Head). h.rest) (head_by place before x) (take n (heads_from (place + 1) x.path xs)))

pub rests_all : (place : ℕ) (before : List ℕ) (xs : List Entry) → length (rests_from place before xs) ≡ rest_sum (heads_from place before xs)
rests_all place before [] = refl
rests_all place before (x ∷ xs) =
    let rest = rests_all (place + 1) x.path xs in
    length-append (rest_by place before x.path) (rests_from (place + 1) x.path xs)
    ∙ ap (λ (m : ℕ). length (rest_by place before x.path) + m) rest
    ∙ sym (sum_by-cons (λ (h : Head). h.rest) (head_by place before x) (heads_from (place + 1) x.path xs))

pub all_rests : {hs : List Head} {starts bytes path : List ℕ} {entries : List Entry} → IsKept hs starts bytes path entries → length bytes ≡ rest_sum hs
all_rests {entries = entries} k = ap length (sym k.rests) ∙ rests_all 0 [] entries ∙ ap rest_sum k.heads

pub slice_left : {X : Type 0} (xs ys : List X) (k : ℕ) → k < length xs → slice_get (xs ++ ys) k ≡ slice_get xs k
slice_left [] ys k lt = absurd (omega (arith, lt))
slice_left (x ∷ xs) ys zero lt = refl
slice_left (x ∷ xs) ys (suc k) lt = slice_left xs ys k (omega (arith, lt))

pub slice_end : {X : Type 0} (xs : List X) (y : X) → slice_get (xs ++ y ∷ []) (length xs) ≡ Some y
slice_end [] y = refl
slice_end (x ∷ xs) y = slice_end xs y

-- where pages begin, with one head more
starts_same : (f : Head → ℕ) (hs : List Head) (h : Head) (starts : List ℕ) → AreStarts f starts hs → length hs < 256 * length starts
    → AreStarts f starts (hs ++ h ∷ [])
starts_same f hs h starts a room = record {
  enough = omega (arith, length-append hs (h ∷ []));
  some = omega (arith, a.some, length-append hs (h ∷ []));
  each = λ k lt. a.each k lt ∙ ap (λ (xs : List Head). Some (sum_by f xs)) (sym (take-append-le (256 * k) hs (h ∷ []) (omega (arith, a.some, lt))));
}

starts_new : (f : Head → ℕ) (hs : List Head) (h : Head) (starts : List ℕ) (at : ℕ) → AreStarts f starts hs → length hs ≡ 256 * length starts
    → at ≡ sum_by f hs →
    AreStarts f (starts ++ at ∷ []) (hs ++ h ∷ [])
starts_new f hs h starts at a full is = record {
  enough = omega (arith, full, length-append hs (h ∷ []), length-append starts (at ∷ []));
  some = omega (arith, full, length-append hs (h ∷ []), length-append starts (at ∷ []));
  each = λ k lt. elim (cases_lt k (length starts)) [
    | inl old ↦ slice_left starts (at ∷ []) k old ∙ a.each k old
        ∙ ap (λ (xs : List Head). Some (sum_by f xs)) (sym (take-append-le (256 * k) hs (h ∷ []) (omega (arith, full, old))))
    | inr new ↦
        let here : k ≡ length starts = omega (arith, lt, new, length-append starts (at ∷ [])) in
        let whole : take (256 * k) (hs ++ h ∷ []) ≡ hs = take-append-le (256 * k) hs (h ∷ []) (omega (arith, here, full))
        ∙ take_all (256 * k) hs (omega (arith, here, full)) in
        ap (slice_get (starts ++ at ∷ [])) here ∙ slice_end starts at ∙ ap Some is ∙ ap (λ (xs : List Head). Some (sum_by f xs)) (sym whole)
  ];
}

pub starts_more : (f : Head → ℕ) (hs : List Head) (h : Head) (starts : List ℕ) (at : ℕ) → AreStarts f starts hs → at ≡ sum_by f hs
    → AreStarts f (starts_by (length hs) at starts) (hs ++ h ∷ [])
starts_more f hs h starts at a is =
    elim (length hs % 256 == 0) as (λ t. (length hs % 256 == 0) ≡ t → AreStarts f (cond t (starts ++ at ∷ []) starts) (hs ++ h ∷ [])) [
      | true ↦ λ e. let zero : length hs % 256 ≡ 0 = grind (arith, nat_tests, e) in
          starts_new f hs h starts at a (omega (arith, a.enough, a.some, zero)) is
      | false ↦ λ e. let some : (length hs % 256 ≡ 0 → ⊥) = grind (arith, nat_tests, e) in
          starts_same f hs h starts a (omega (arith, a.enough, a.some, some))
    ] refl

pub kept_more : (hs : List Head) (starts bytes path : List ℕ) (entries : List Entry) (e : Entry) → IsKept hs starts bytes path entries →
    is_path e.path ≡ true →
    IsKept (hs ++ head_by (length hs) path e ∷ []) (starts_by (length hs) (length bytes) starts)
    (bytes ++ rest_by (length hs) path e.path) e.path (entries ++ e ∷ [])
kept_more hs starts bytes path entries e k p =
    let same = kept_many k in
    let many : 0 + length entries ≡ length hs = omega (arith, same) in
    record {
      paths = all_more entries e k.paths p;
      heads = heads_more 0 [] entries e ∙ grind (arith, many, k.heads, k.last);
      rests = rests_more 0 [] entries e ∙ grind (arith, many, k.rests, k.last);
      last = last_more [] entries e;
      begins = starts_more (λ h. h.rest) hs (head_by (length hs) path e) starts (length bytes) k.begins (all_rests k);
    }

pub told_more : (hs : List Head) (starts bytes path : List ℕ) (entries : List Entry) (e : Entry) → IsKept hs starts bytes path entries →
    is_path e.path ≡ true →
    unpacked [] (hs ++ head_by (length hs) path e ∷ []) (bytes ++ rest_by (length hs) path e.path) ≡ entries ++ e ∷ []
told_more hs starts bytes path entries e k p =
    let more = kept_more hs starts bytes path entries e k p in
    let back = inverse 0 [] (entries ++ e ∷ []) in
    grind (arith, more.heads, more.rests, back)

pub path_is : (p t : List ℕ) → t ≡ p → refusal p ≡ None → IsUtf8 t → is_path p ≡ true
path_is p t e h u =
    let text : is_utf8 p ≡ true = ap is_utf8 (sym e) ∙ is_utf8-from_IsUtf8 t u in
    grind (arith, text, h)

pub put_same : (h : Head) (e : Entry) (s place : ℕ) (last bytes : List ℕ) → h ≡ head_from e s → s ≡ shared_by place last bytes →
    take h.shared last ≡ take h.shared bytes
put_same h e s place last bytes eh es =
    let eq : h.shared ≡ shared_by place last bytes = ap (λ (h : Head). h.shared) eh ∙ es in
    rw eq (shared_same place last bytes)

-- what is put: an entry, the bytes of its path, and its head
pub record IsPut (hs : List Head) (last path : List ℕ) (e : Entry) (h : Head) : Type 0 where
  pub same : path ≡ e.path
  pub valid : is_path e.path ≡ true
  pub head : h ≡ head_by (length hs) last e

pub is_put : (hs : List Head) (last path : List ℕ) (e : Entry) (h : Head) (s n : ℕ) → path ≡ e.path → is_path e.path ≡ true → n ≡ length hs →
    s ≡ shared_by n last path → h ≡ head_from e s → IsPut hs last path e h
is_put hs last path e h s n ep p en es eh = record {
  same = ep;
  valid = p;
  head =
      eh ∙ ap (λ (s : ℕ). head_from e s) (es ∙ ap (λ (n : ℕ). shared_by n last path) en ∙ ap (λ (p : List ℕ). shared_by (length hs) last p) ep);
}

rest_is : {hs : List Head} {last path : List ℕ} {e : Entry} {h : Head} → IsPut hs last path e h → drop h.shared path ≡ rest_by (length hs) last e.path
rest_is {hs} {last} {path} {e} {h} p =
    ap (λ (h : Head). drop h.shared path) p.head ∙ ap (λ (p : List ℕ). drop (shared_by (length hs) last e.path) p) p.same

pub put_kept : (r : Result Unit OutOfMemory) (hs hs' : List Head) (starts starts' bytes bytes' last last' path : List ℕ) (e : Entry) (h : Head) →
    IsKept hs starts bytes last (unpacked [] hs bytes) → IsPut hs last path e h →
    OnOk r (hs' ≡ hs ++ h ∷ []) → OnOk r (starts' ≡ starts_by (length hs) (length bytes) starts)
    → OnOk r (bytes' ≡ bytes ++ drop h.shared path) → OnOk r (last' ≡ path) →
    OnErr r (hs' ≡ hs) → OnErr r (starts' ≡ starts) → OnErr r (bytes' ≡ bytes) → OnErr r (last' ≡ last) →
    IsKept hs' starts' bytes' last' (unpacked [] hs' bytes')
put_kept (Ok u) hs hs' starts starts' bytes bytes' last last' path e h k p a s b c x w y z =
    let ah : hs' ≡ hs ++ head_by (length hs) last e ∷ [] = a ∙ ap (λ (h : Head). hs ++ h ∷ []) p.head in
    let ab : bytes' ≡ bytes ++ rest_by (length hs) last e.path = b ∙ ap (λ (t : List ℕ). bytes ++ t) (rest_is p) in
    rw ah (rw ab (rw s (rw (c ∙ p.same) (rw (told_more hs starts bytes last (unpacked [] hs bytes) e k p.valid)
    (kept_more hs starts bytes last (unpacked [] hs bytes) e k p.valid)))))
put_kept (Err u) hs hs' starts starts' bytes bytes' last last' path e h k p a s b c x w y z = rw x (rw w (rw y (rw z k)))

pub put_told : (r : Result Unit OutOfMemory) (hs hs' : List Head) (starts bytes bytes' last path : List ℕ) (e : Entry) (h : Head) →
    IsKept hs starts bytes last (unpacked [] hs bytes) → IsPut hs last path e h →
    OnOk r (hs' ≡ hs ++ h ∷ []) → OnOk r (bytes' ≡ bytes ++ drop h.shared path) →
    OnOk r (unpacked [] hs' bytes' ≡ unpacked [] hs bytes ++ e ∷ [])
put_told (Ok u) hs hs' starts bytes bytes' last path e h k p a b =
    let ah : hs' ≡ hs ++ head_by (length hs) last e ∷ [] = a ∙ ap (λ (h : Head). hs ++ h ∷ []) p.head in
    let ab : bytes' ≡ bytes ++ rest_by (length hs) last e.path = b ∙ ap (λ (t : List ℕ). bytes ++ t) (rest_is p) in
    rw ah (rw ab (told_more hs starts bytes last (unpacked [] hs bytes) e k p.valid))
put_told (Err u) hs hs' starts bytes bytes' last path e h k p a b = tt

-- the rests of the entries behind one, from where the bytes of its own rest end
pub rests_behind : (bytes : List ℕ) (at n k : ℕ) (before last path : List ℕ) (xs : List Entry) → last ≡ path → n ≡ length (rest_by k before path)
    → rest_by k before path ++ rests_from (k + 1) path xs ≡ drop at bytes → rests_from (k + 1) last xs ≡ drop (at + n) bytes
rests_behind bytes at n k before last path xs is long rests = ap (λ (p : List ℕ). rests_from (k + 1) p xs) is
    ∙ sym (drop-append_seam (rest_by k before path) (rests_from (k + 1) path xs))
    ∙ ap (λ (b : List ℕ). drop (length (rest_by k before path)) b) rests
    ∙ ap (λ (n : ℕ). drop n (drop at bytes)) (sym long)
    ∙ drop-drop n at bytes
