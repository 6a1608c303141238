-- A page is a part of the rests, and one may begin before it.
use Rattle.entry_pages.proofs.Prelude.{◌≡◌, ℕ, zero, suc, ◌+◌, ◌-◌, ◌*◌, ◌<◌, ◌≤◌, ◌%◌, inl, inr, cond, List, [], ◌∷◌, ◌++◌, length, take, drop, get_or, refl}
use Rattle.entry_pages.proofs.Prelude.{ap, sym, ◌∙◌, arith, append_assoc, nat_eq, ◌==◌, common_prefix_len, cases_lt, take-append-drop, take_all, drop-drop}
use Rattle.entry_pages.proofs.Prelude.{length-append, length-take-le, sum_by-take-drop, slice_get_past, unwrap_or-slice_get, get_or_from_slice_get, unwrap_or}
use Rattle.entry_pages.proofs.Prelude.{take-append_seam, drop-append_seam, Entry, Head, rest_by, head_by, head_from, heads_from, rests_from, last_path, page_of}
use Rattle.entry_pages.proofs.Prelude.{unpacked, IsKept, IsBefore, AreStarts, rest_sum}
use Rattle.entry_pages.proofs.Inverse.{kept_many, rests_many, all_rests}
use Rattle.entry_pages.proofs.Passed.{any_front, any_rests}

pub rests_split : (place : ℕ) (before : List ℕ) (xs ys : List Entry)
    → rests_from place before (xs ++ ys) ≡ rests_from place before xs ++ rests_from (place + length xs) (last_path before xs) ys
rests_split place before [] ys = let at : place + 0 ≡ place = omega arith in ap (λ (n : ℕ). rests_from n before ys) (sym at)
rests_split place before (x ∷ xs) ys =
    let at : place + 1 + length xs ≡ place + length (x ∷ xs) = omega arith in
    ap (λ (b : List ℕ). rest_by place before x.path ++ b) (rests_split (place + 1) x.path xs ys)
    ∙ ap (λ (n : ℕ). rest_by place before x.path ++ (rests_from (place + 1) x.path xs ++ rests_from n (last_path x.path xs) ys)) at
    ∙ sym (append_assoc (rest_by place before x.path) (rests_from (place + 1) x.path xs) (rests_from (place + length (x ∷ xs)) (last_path x.path xs) ys))

heads_drop : (place : ℕ) (before : List ℕ) (xs : List Entry) (n : ℕ)
    → drop n (heads_from place before xs) ≡ heads_from (place + n) (last_path before (take n xs)) (drop n xs)
heads_drop place before xs zero = let at : place + 0 ≡ place = omega arith in ap (λ (n : ℕ). heads_from n before xs) (sym at)
heads_drop place before [] (suc n) = refl
heads_drop place before (x ∷ xs) (suc n) =
    let at : place + 1 + n ≡ place + suc n = omega arith in
    heads_drop (place + 1) x.path xs n ∙ ap (λ (m : ℕ). heads_from m (last_path x.path (take n xs)) (drop n xs)) at

-- a page's rests are the same wherever the page stands
next_mod : (a b : ℕ) → a % 256 ≡ b % 256 → (a + 1) % 256 ≡ (b + 1) % 256
next_mod a b e = omega (arith, e)

pub rests_shift : (a b : ℕ) (before : List ℕ) (xs : List Entry) → a % 256 ≡ b % 256 → rests_from a before xs ≡ rests_from b before xs
rests_shift a b before [] e = refl
rests_shift a b before (x ∷ xs) e =
    let one : rest_by a before x.path ≡ rest_by b before x.path =
    ap (λ (m : ℕ). drop (cond (m == 0) 0 (common_prefix_len nat_eq before x.path)) x.path) e in
    let more = rests_shift (a + 1) (b + 1) x.path xs (next_mod a b e) in
    ap (λ (r : List ℕ). r ++ rests_from (a + 1) x.path xs) one ∙ ap (λ (r : List ℕ). rest_by b before x.path ++ r) more

page_is : (k : ℕ) (before : List ℕ) (xs : List Entry) → rests_from (256 * k) before xs ≡ rests_from 0 [] xs
page_is k before xs = rests_shift (256 * k) 0 before xs (omega arith) ∙ any_rests before xs

pub heads_shift : (a b : ℕ) (before : List ℕ) (xs : List Entry) → a % 256 ≡ b % 256 → heads_from a before xs ≡ heads_from b before xs
heads_shift a b before [] e = refl
heads_shift a b before (x ∷ xs) e =
    let one : head_by a before x ≡ head_by b before x =
    ap (λ (m : ℕ). head_from x (cond (m == 0) 0 (common_prefix_len nat_eq before x.path))) e in
    let more = heads_shift (a + 1) (b + 1) x.path xs (next_mod a b e) in
    ap (λ (h : Head). h ∷ heads_from (a + 1) x.path xs) one ∙ ap (λ (hs : List Head). head_by b before x ∷ hs) more

heads_at : (k : ℕ) (before : List ℕ) (xs : List Entry) → heads_from (256 * k) before xs ≡ heads_from 0 [] xs
heads_at k before xs = heads_shift (256 * k) 0 before xs (omega arith) ∙ any_front before xs

-- what is kept behind so many entries
pub record IsBehind (hs : List Head) (bytes : List ℕ) (entries : List Entry) (n : ℕ) : Type 0 where
  pub inside : rest_sum (take n hs) ≤ length bytes
  pub heads : heads_from n (last_path [] (take n entries)) (drop n entries) ≡ drop n hs
  pub rests : rests_from n (last_path [] (take n entries)) (drop n entries) ≡ drop (rest_sum (take n hs)) bytes

pub behind : {hs : List Head} {starts bytes path : List ℕ} {entries : List Entry} (n : ℕ) → IsKept hs starts bytes path entries
    → n ≤ length hs → IsBehind hs bytes entries n
behind {hs} {starts} {bytes} {path} {entries} n kept le =
    let front : List ℕ = rests_from 0 [] (take n entries) in
    let before : List ℕ = last_path [] (take n entries) in
    let tail : List Entry = drop n entries in
    let long : 0 + length (take n entries) ≡ n = omega (arith, length-take-le n entries (omega (arith, le, kept_many kept))) in
    let first : length front ≡ rest_sum (take n hs) = rests_many 0 [] entries n ∙ ap (λ (hs : List Head). rest_sum (take n hs)) kept.heads in
    let whole : front ++ rests_from n before tail ≡ bytes =
    ap (λ (m : ℕ). front ++ rests_from m before tail) (sym long) ∙ sym (rests_split 0 [] (take n entries) tail)
    ∙ ap (rests_from 0 []) (take-append-drop n entries) ∙ kept.rests in
    record {
      inside = omega (arith, first, ap length whole, length-append front (rests_from n before tail));
      heads = ap (λ (m : ℕ). heads_from m before tail) (omega arith) ∙ sym (heads_drop 0 [] entries n) ∙ ap (drop n) kept.heads;
      rests = sym (drop-append_seam front (rests_from n before tail)) ∙ ap (λ (m : ℕ). drop m (front ++ rests_from n before tail)) first
          ∙ ap (drop (rest_sum (take n hs))) whole;
    }

-- one may begin before a page
pub before_page : {hs : List Head} {starts bytes path : List ℕ} (k at : ℕ) → IsKept hs starts bytes path (unpacked [] hs bytes) →
    256 * k ≤ length hs →
    at ≡ rest_sum (take (256 * k) hs) → IsBefore hs bytes (256 * k) at
before_page {hs} {starts} {bytes} {path} k at kept le is held =
    let entries : List Entry = unpacked [] hs bytes in
    let before : List ℕ = last_path [] (take (256 * k) entries) in
    let tail : List Entry = drop (256 * k) entries in
    let b = behind (256 * k) kept le in
    record {
      paths = kept.paths;
      many = sym (kept_many kept);
      heads = heads_at k held tail ∙ sym (heads_at k before tail) ∙ b.heads;
      rests = page_is k held tail ∙ sym (page_is k before tail) ∙ b.rests ∙ ap (λ (n : ℕ). drop n bytes) (sym is);
      within = le;
      inside = omega (arith, is, b.inside);
    }

-- where a page begins and ends
pub page_begins : {hs : List Head} {starts : List ℕ} (k start : ℕ) → AreStarts (λ h. h.rest) starts hs → 256 * k < length hs
    → start ≡ get_or starts k start → start ≡ rest_sum (take (256 * k) hs)
page_begins {hs} {starts} k start a lt is = is ∙ get_or_from_slice_get starts k _ start (a.each k (omega (arith, a.enough)))

past_end : (xs : List ℕ) (i d : ℕ) → length xs ≤ i → get_or xs i d ≡ d
past_end xs i d le = sym (unwrap_or-slice_get xs i d) ∙ ap (λ o. unwrap_or o d) (slice_get_past xs i le)

pub page_ends : {hs : List Head} {starts : List ℕ} (k end count : ℕ) → AreStarts (λ h. h.rest) starts hs → 256 * k < length hs →
    count ≡ rest_sum hs
    → end ≡ get_or starts (k + 1) count →
    end ≡ rest_sum (take (256 * k + 256) hs)
page_ends {hs} {starts} k end count a lt all is = elim (cases_lt (k + 1) (length starts)) [
  | inl more ↦
      let same : 256 * (k + 1) ≡ 256 * k + 256 = omega arith in
      is ∙ get_or_from_slice_get starts (k + 1) _ count (a.each (k + 1) more) ∙ ap (λ (n : ℕ). rest_sum (take n hs)) same
  | inr over ↦
      let whole : take (256 * k + 256) hs ≡ hs = take_all (256 * k + 256) hs (omega (arith, a.enough, over)) in
      is ∙ past_end starts (k + 1) count over ∙ all ∙ ap rest_sum (sym whole)
]

pub page_at : {hs : List Head} {starts bytes path : List ℕ} {entries : List Entry} (k start end : ℕ) → IsKept hs starts bytes path entries
    → 256 * k < length hs →
    start ≡ rest_sum (take (256 * k) hs) → end ≡ rest_sum (take (256 * k + 256) hs) → (start ≤ end)
    × (take (end - start) (drop start bytes) ≡ page_of k entries)
page_at {hs} {starts} {bytes} {path} {entries} k start end kept lt es ee =
    let n : ℕ = 256 * k in
    let before : List ℕ = last_path [] (take n entries) in
    let tail : List Entry = drop n entries in
    let here : List Entry = take 256 tail in
    let b = behind n kept (omega arith) in
    let there : drop start bytes ≡ rests_from 0 [] tail = ap (λ (m : ℕ). drop m bytes) es ∙ sym b.rests ∙ page_is k before tail in
    let parts : rests_from 0 [] here ++ rests_from (0 + length here) (last_path [] here) (drop 256 tail) ≡ rests_from 0 [] tail =
    sym (rests_split 0 [] here (drop 256 tail)) ∙ ap (rests_from 0 []) (take-append-drop 256 tail) in
    let all = sum_by-take-drop (λ (h : Head). h.rest) hs n in
    let more = sum_by-take-drop (λ (h : Head). h.rest) (drop n hs) 256 in
    let most = sum_by-take-drop (λ (h : Head). h.rest) hs (n + 256) in
    let left : drop 256 (drop n hs) ≡ drop (n + 256) hs = drop-drop 256 n hs in
    let sums : start + rest_sum (take 256 (drop n hs)) ≡ end = omega (arith, all, more, most, ap rest_sum left, es, ee) in
    let many : length (rests_from n before here) ≡ rest_sum (take 256 (drop n hs)) =
    rests_many n before tail 256 ∙ ap (λ (hs : List Head). rest_sum (take 256 hs)) b.heads in
    let count_is : length (rests_from 0 [] here) ≡ end - start = omega (arith, ap length (sym (page_is k before here)) ∙ many, sums) in (
      omega (arith, sums),
      ap (take (end - start)) (there ∙ sym parts)
          ∙ ap (λ (m : ℕ). take m (rests_from 0 [] here ++ rests_from (0 + length here) (last_path [] here) (drop 256 tail))) (sym count_is)
          ∙ take-append_seam (rests_from 0 [] here) (rests_from (0 + length here) (last_path [] here) (drop 256 tail)),
    )

-- a page's rests are between its start and its end
pub record IsPage (bytes : List ℕ) (entries : List Entry) (k start end : ℕ) : Type 0 where
  pub in_order : start ≤ end
  pub inside : end ≤ length bytes
  pub is : take (end - start) (drop start bytes) ≡ page_of k entries

pub has_page : {hs : List Head} {starts bytes path : List ℕ} {entries : List Entry} (k : ℕ) → IsKept hs starts bytes path entries →
    256 * k < length entries →
    k < length starts
has_page k kept lt = omega (arith, kept.begins.enough, kept_many kept)

pub page_told : {hs : List Head} {starts bytes path : List ℕ} {entries : List Entry} (k start end count : ℕ) → IsKept hs starts bytes path entries →
    256 * k < length entries → start ≡ get_or starts k start → count ≡ length bytes → end ≡ get_or starts (k + 1) count →
    IsPage bytes entries k start end
page_told {hs} {starts} {bytes} {path} {entries} k start end count kept lt is all ends =
    let lh : 256 * k < length hs = omega (arith, lt, kept_many kept) in
    let sum : count ≡ rest_sum hs = all ∙ all_rests kept in
    let begin = page_begins k start kept.begins lh is in
    let end_is = page_ends k end count kept.begins lh sum ends in
    let told = page_at k start end kept lh begin end_is in
    let parts = sum_by-take-drop (λ (h : Head). h.rest) hs (256 * k + 256) in
    record { in_order = told.0; inside = omega (arith, parts, end_is, all_rests kept); is = told.1 }

-- one may begin before the page of an entry
pub before_entry : {hs : List Head} {starts bytes path : List ℕ} (k at : ℕ) → IsKept hs starts bytes path (unpacked [] hs bytes) →
    256 * k < length (unpacked [] hs bytes) → at ≡ get_or starts k at → IsBefore hs bytes (256 * k) at
before_entry {hs} {starts} {bytes} {path} k at kept lt is =
    let lh : 256 * k < length hs = omega (arith, lt, kept_many kept) in
    before_page k at kept (omega arith) (page_begins k at kept.begins lh is)
