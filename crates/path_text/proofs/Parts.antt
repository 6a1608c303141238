-- The parts of a path: what stands before its last slash and behind it, how many names it has, what stands behind the front of another.
use Rattle.path_text.proofs.Prelude.{◌≡◌, ◌≢◌, ℕ, ◌+◌, ◌-◌, ◌<◌, ◌≤◌, true, false, not, ◌&&◌, ◌||◌, ◌⊎◌, ⊎_elim, List, [], ◌∷◌, ◌++◌, length, take, drop}
use Rattle.path_text.proofs.Prelude.{get_or, refl, ap, ◌∙◌, sym, subst, arith, Option, Some, None, cond, eqb, suc, append_assoc, length-append, length-drop}
use Rattle.path_text.proofs.Prelude.{drop_of_length-le, get_or-drop, inl, inr, slice_index, nat_eq, nat_lt, ◌==◌, MatchOption, OnSome, is_none, slice_split}
use Rattle.path_text.proofs.Prelude.{list_any, before_last, after_last, suffix_len, starts_with, count_by, RFindsChar, SplitsAroundMatch, FindsTextPrefix}
use Rattle.path_text.proofs.Prelude.{StripsPrefix, Bor, cases_Bool, false≢true, nat_tests, Decides-eqb, suffix_len_is, sum_by-cons, append_cancel_left}
use Rattle.path_text.proofs.Prelude.{drop-append_seam, NoCharPasses, IsUtf8, lead_after_ascii, length-slice_split, starts_is, NoCharPasses-char, drop_at_char}
use Rattle.path_text.proofs.Prelude.{first_so, second_so, pointwise, bytes_decides, is_slash, first_fault, refusal, level_of, name_fault, joined, is_name}
use Rattle.path_text.proofs.Prelude.{base_of, front, is_under, is_within, below_of, grafted, GraftUndoesBelow}
use Rattle.std.proofs.Common.{take-append-drop}
use Rattle.std.specs.Prelude.{IfSome, IfNone}
use Rattle.std.specs.Bool.{IsTrue}
use Rattle.path_text.proofs.Preorder.{front-joined}
use Rattle.path_text.proofs.Joined.{split_more, split_name, behind, first_slash, names_fine}

pub no_slash : (b : ℕ) → b ≢ 47 → not (is_slash b) ≡ true
no_slash b h = grind (arith, nat_tests)

a_slash : (b : ℕ) → b ≡ 47 → not (is_slash b) ≡ false
a_slash b e = grind (arith, nat_tests)

-- the last slash parts a text
last_at : (s : List ℕ) (i : ℕ) → i < length s → get_or s i 0 ≡ 47 → ((k : ℕ) → i + 1 ≤ k → k < length s → get_or s k 0 ≢ 47) →
    (take i s ≡ before_last is_slash s) × (drop (i + 1) s ≡ after_last is_slash s)
last_at s i h e none =
    let n : suffix_len (λ b. not (is_slash b)) s ≡ length s - (i + 1) = suffix_len_is (λ b. not (is_slash b)) s (i + 1) 0 (omega arith)
    (λ k l m. no_slash (get_or s k 0) (none k l m)) (λ z. a_slash (get_or s (i + 1 - 1) 0) (ap (λ k. get_or s k 0) (omega arith) ∙ e)) in
    let end : i + 1 ≡ length s - suffix_len (λ b. not (is_slash b)) s = omega (arith, n) in
    let before : i ≡ length s - suffix_len (λ b. not (is_slash b)) s - 1 = omega (arith, n) in
    (ap (λ k. take k s) before, ap (λ k. drop k s) end)

other : (b : ℕ) → b ≢ 47 → is_slash b ≡ false
other b h = grind (arith, nat_tests)

none_any : (y : List ℕ) → ((k : ℕ) → k < length y → get_or y k 0 ≢ 47) → list_any is_slash y ≡ false
none_any [] h = refl
none_any (b ∷ y) h = ap (λ t. t || list_any is_slash y) (other b (h 0 (omega arith))) ∙ none_any y (λ k l. h (suc k) (omega arith))

-- what stands behind the last slash holds none
after_none : (s y : List ℕ) (j : ℕ) → y ≡ drop j s → NoCharPasses (λ d. eqb d 47) (drop j s) → list_any is_slash y ≡ false
after_none s y j e none = none_any y (λ k l. NoCharPasses-char 47 y k (subst (NoCharPasses (λ d. eqb d 47)) (sym e) none) (omega arith) l)

no_last : (s : List ℕ) → ((k : ℕ) → k < length s → get_or s k 0 ≢ 47) →
    (before_last is_slash s ≡ []) × (after_last is_slash s ≡ s) × (list_any is_slash s ≡ false)
no_last s none =
    let n : suffix_len (λ b. not (is_slash b)) s ≡ length s - 0 = suffix_len_is (λ b. not (is_slash b)) s 0 0 (omega arith)
    (λ k l m. no_slash (get_or s k 0) (none k m)) (λ z. absurd (omega arith)) in
    let none_left : 0 ≡ length s - suffix_len (λ b. not (is_slash b)) s = omega (arith, n) in
    let before : 0 ≡ length s - suffix_len (λ b. not (is_slash b)) s - 1 = omega (arith, n) in
    (sym (ap (λ k. take k s) before), sym (ap (λ k. drop k s) none_left), none_any s none)

behind_it : (s : List ℕ) (i : ℕ) → ((k : ℕ) → k < length (drop (i + 1) s) → get_or (drop (i + 1) s) k 0 ≢ 47) → (k : ℕ) → i + 1 ≤ k → k < length s →
    get_or s k 0 ≢ 47
behind_it s i none k l m e = none (k - (i + 1)) (omega (arith, length-drop (i + 1) s))
    (get_or-drop (i + 1) s (k - (i + 1)) 0 ∙ ap (λ q. get_or s q 0) (omega arith) ∙ e)

at_last : (s x y : List ℕ) (i j : ℕ) → j ≡ i + 1 → NoCharPasses (λ d. eqb d 47) (drop j s) → get_or s i 0 ≡ 47 → drop i s ≡ 47 ∷ drop j s →
    x ≡ take i s → y ≡ drop j s → length y + j ≡ length s →
    (x ≡ before_last is_slash s) × (y ≡ after_last is_slash s) × (s ≡ x ++ 47 ∷ y) × (list_any is_slash y ≡ false)
at_last s x y i j e none at d p q l =
    let inside : i < length s = omega (arith, e, l) in
    let clean : NoCharPasses (λ d. eqb d 47) (drop (i + 1) s) = subst (λ j. NoCharPasses (λ d. eqb d 47) (drop j s)) e none in
    let both = last_at s i inside at (behind_it s i (λ k m. NoCharPasses-char 47 (drop (i + 1) s) k clean (omega arith) m)) in (
      p ∙ both.0,
      q ∙ ap (λ j. drop j s) e ∙ both.1,
      sym (take-append-drop i s) ∙ ap (λ r. take i s ++ r) d
          ∙ (λ k. sym p k ++ 47 ∷ sym q k),
      after_none s y j q none,
    )

-- what the search for the last slash says
pub by_last : (s : List ℕ) (r : Option (Bor (List ℕ) × Bor (List ℕ))) →
    MatchOption r (RFindsChar 47 s None) (λ x. SplitsAroundMatch (RFindsChar 47) s x.0.now x.1.now) →
    IfSome r (λ x. (x.0.now ≡ before_last is_slash s) × (x.1.now ≡ after_last is_slash s) × (s ≡ x.0.now ++ 47 ∷ x.1.now)
    × (list_any is_slash x.1.now ≡ false)) × IfNone r ((before_last is_slash s ≡ []) × (after_last is_slash s ≡ s) × (list_any is_slash s ≡ false))
by_last s None h = (tt, no_last s (λ k l. NoCharPasses-char 47 s k h (omega arith) l))
by_last s (Some x) h = (
  at_last s x.0.now x.1.now h.0 h.1 h.2.1.ends h.2.0 (h.2.1.byte (omega arith))
      (drop_at_char 47 s h.0 h.1 h.2.1 (omega arith)) h.3 h.4 h.7,
  tt,
)

first_of : (as' bs : List (List ℕ)) → first_fault (as' ++ bs) ≡ None → first_fault as' ≡ None
first_of [] bs h = refl
first_of (n ∷ as') bs h =
    elim (name_fault n) as (λ f. cond (is_none f) (first_fault (as' ++ bs)) f ≡ None → cond (is_none f) (first_fault as') f ≡ None) [
      | None ↦ λ e. first_of as' bs e
      | Some x ↦ λ e. e
    ] h

pub rest_of : (as' bs : List (List ℕ)) → first_fault (as' ++ bs) ≡ None → first_fault bs ≡ None
rest_of [] bs h = h
rest_of (n ∷ as') bs h =
    elim (name_fault n) as (λ f. cond (is_none f) (first_fault (as' ++ bs)) f ≡ None → first_fault bs ≡ None) [
      | None ↦ λ e. rest_of as' bs e
      | Some x ↦ λ e. cc
    ] h

pub short : (p : List ℕ) → refusal p ≡ None → length p ≤ 4095
short [] h = omega arith
short (b ∷ bytes) h = grind (arith, nat_tests)

pub both_sides : (b : ℕ) (xs ys : List ℕ) → refusal (b ∷ (xs ++ 47 ∷ ys)) ≡ None → first_fault (slice_split is_slash xs ++ slice_split is_slash ys) ≡ None
both_sides b xs ys h = ap first_fault (sym (split_more xs ys)) ∙ names_fine b (xs ++ 47 ∷ ys) h (omega (arith, length-append xs (47 ∷ ys)))

-- what stands before the last slash of a path is one, if it is not empty
pub before_made : (x before base : List ℕ) → x ≡ before ++ 47 ∷ base → 0 < length before → refusal x ≡ None → refusal before ≡ None
before_made x [] base e l h = absurd (omega arith)
before_made x (b ∷ bytes) base e l h =
    let whole : refusal (b ∷ (bytes ++ 47 ∷ base)) ≡ None = ap refusal (sym e) ∙ h in
    ap (λ b. refusal (b ∷ bytes)) (first_slash b (bytes ++ 47 ∷ base) whole)
    ∙ behind bytes (omega (arith, short (b ∷ (bytes ++ 47 ∷ base)) whole, length-append bytes (47 ∷ base)))
    (first_of (slice_split is_slash bytes) (slice_split is_slash base) (both_sides b bytes base whole))

one_fault : (n : List ℕ) → first_fault (n ∷ []) ≡ None → name_fault n ≡ None
one_fault n =
    elim (name_fault n) as (λ f. cond (is_none f) None f ≡ None → f ≡ None) [ None ↦ λ e. refl | Some x ↦ λ e. e ]

-- the base of a path other than `/` is a name
pub base_named : (x before base : List ℕ) → x ≡ before ++ 47 ∷ base → list_any is_slash base ≡ false → refusal x ≡ None → length x ≢ 1 → IsTrue (is_name base)
base_named x before base e none h l =
    (λ i. not (none i) && is_none (one_fault base (ap first_fault (sym (split_name base none)) ∙ fine before e) i))
  where
    fine : (before : List ℕ) → x ≡ before ++ 47 ∷ base → first_fault (slice_split is_slash base) ≡ None
    fine [] e = names_fine 47 base (ap refusal (sym e) ∙ h) (some base (λ m. l (ap length e ∙ m)))
      where
        some : (base : List ℕ) → length (47 ∷ base) ≢ 1 → 0 < length base
        some [] h = absurd (h refl)
        some (b ∷ base) h = omega arith
    fine (b ∷ bytes) e = rest_of (slice_split is_slash bytes) (slice_split is_slash base) (both_sides b bytes base (ap refusal (sym e) ∙ h))

-- a path has a slash
pub never_bare : (p : List ℕ) → refusal p ≡ None → list_any is_slash p ≡ false → IsTrue (is_name (base_of p))
never_bare [] h e = cc
never_bare (b ∷ bytes) h e = absurd (false≢true (sym e ∙ ap (λ b. is_slash b || list_any is_slash bytes) (first_slash b bytes h)))

split_count : (bytes : List ℕ) → count_by is_slash (47 ∷ bytes) ≡ length (slice_split is_slash bytes)
split_count bytes = sum_by-cons (λ b. cond (is_slash b) 1 0) 47 bytes ∙ omega (arith, length-slice_split is_slash bytes)

pub level_is : (p : List ℕ) → length p ≢ 1 → level_of p ≡ length (slice_split is_slash (drop 1 p))
level_is p l = grind (arith, nat_tests)

-- a path other than `/` has a slash for each name
pub slashes_are_names : (p : List ℕ) → refusal p ≡ None → length p ≢ 1 → count_by is_slash p ≡ level_of p
slashes_are_names [] h l = cc
slashes_are_names (b ∷ bytes) h l = ap (λ b. count_by is_slash (b ∷ bytes)) (first_slash b bytes h) ∙ split_count bytes ∙ sym (level_is (b ∷ bytes) l)

front_root : (p : List ℕ) → length p ≡ 1 → front p ≡ p
front_root p e = grind (arith, nat_tests)

pub front_other : (p : List ℕ) → length p ≢ 1 → front p ≡ p ++ 47 ∷ []
front_other p e = grind (arith, nat_tests)

pub front_long : (a b : ℕ) (p : List ℕ) → front (a ∷ b ∷ p) ≡ (a ∷ b ∷ p) ++ 47 ∷ []
front_long a b p = front_other (a ∷ b ∷ p) (λ l. absurd (omega arith))

pub begins : (s f r : List ℕ) → s ≡ f ++ r → (r ≡ drop (length f) s) × (starts_with nat_eq s f ≡ true)
begins s f r e = (sym (drop-append_seam f r) ∙ ap (drop (length f)) (sym e), (starts_is Decides-eqb s f _ refl).1 r e)

begins_not : (s f : List ℕ) → ((r : List ℕ) → s ≢ f ++ r) → starts_with nat_eq s f ≡ false
begins_not s f h = ⊎_elim (λ e. absurd (h _ ((starts_is Decides-eqb s f _ refl).0 e))) (λ e. e) (cases_Bool (starts_with nat_eq s f))

-- what `strip_prefix` says of a text
pub by_prefix : (s p : List ℕ) (r : Option (Bor (List ℕ))) → MatchOption r (FindsTextPrefix p s None) (λ x. StripsPrefix (FindsTextPrefix p) s x.now) →
    IfSome r (λ x. s ≡ p ++ x.now) × IfNone r (starts_with nat_eq s (front p) ≡ false)
by_prefix s p None h = (tt, begins_not s (front p) (not_front s p (λ r e. h r e)))
  where
    not_front : (s p : List ℕ) → ((r : List ℕ) → s ≢ p ++ r) → (r : List ℕ) → s ≢ front p ++ r
    not_front s p h r e =
        elim (length p == 1) as (λ b. s ≡ cond b p (p ++ 47 ∷ []) ++ r → ⊥) [ true ↦ h r | false ↦ λ e. h (47 ∷ r) (e ∙ append_assoc p (47 ∷ []) r) ] e
by_prefix s p (Some x) h = (h.1.1 ∙ ap (λ t. p ++ t) (sym h.2), tt)

-- what stands behind the front of `/`
pub behind_root : (s p r : List ℕ) → s ≡ p ++ r → length p ≡ 1 → (r ≡ drop (length (front p)) s) × (starts_with nat_eq s (front p) ≡ true)
behind_root s p r e l = begins s (front p) r (e ∙ ap (λ f. f ++ r) (sym (front_root p l)))

-- and behind that of another path
pub behind_slash : (s p t r : List ℕ) → s ≡ p ++ t → t ≡ 47 ∷ r → length p ≢ 1 → (r ≡ drop (length (front p)) s) × (starts_with nat_eq s (front p) ≡ true)
behind_slash s p t r e d l = begins s (front p) r (e ∙ ap (λ t. p ++ t) d ∙ sym (append_assoc p (47 ∷ []) r) ∙ ap (λ f. f ++ r) (sym (front_other p l)))

pub no_slash_behind : (s p t : List ℕ) → s ≡ p ++ t → ((r : List ℕ) → t ≢ 47 ∷ r) → length p ≢ 1 → starts_with nat_eq s (front p) ≡ false
no_slash_behind s p t e h l =
    begins_not s (front p) (λ r d. h r (append_cancel_left p t (47 ∷ r) (sym e ∙ d ∙ ap (λ f. f ++ r) (front_other p l) ∙ append_assoc p (47 ∷ []) r)))

-- what the search for a slash behind that path says
pub by_slash : (s p t : List ℕ) (r : Option (Bor (List ℕ))) → s ≡ p ++ t → length p ≢ 1 →
    MatchOption r ((rest : List ℕ) → t ≢ 47 ∷ rest) (λ x. t ≡ 47 ∷ x.now) →
    OnSome r (starts_with nat_eq s (front p) ≡ true) × IfNone r (starts_with nat_eq s (front p) ≡ false)
by_slash s p t None e l h = (tt, no_slash_behind s p t e h l)
by_slash s p t (Some x) e l h = ((behind_slash s p t x.now e h l).1, tt)

pub front_longer : (p : List ℕ) → length p ≤ length (front p)
front_longer p = elim (length p == 1) as (λ b. length p ≤ length (cond b p (p ++ 47 ∷ []))) [
  | true ↦ omega arith
  | false ↦ omega
      (arith, length-append p (47 ∷ []))
]

pub nothing_left : (p : List ℕ) → [] ≡ drop (length (front p)) p
nothing_left p = sym (drop_of_length-le p (front_longer p))

-- where a path is within another, it is that one, or stands behind its front
pub within : (x p : List ℕ) → IsTrue (is_within x p) → (x ≡ p) ⊎ ((x ≡ front p ++ drop (length (front p)) x) × (0 < length (drop (length (front p)) x)))
within x p h =
    elim (pointwise nat_eq x p) as (λ b. pointwise nat_eq x p ≡ b → (b || is_under x p) ≡ true →
    (x ≡ p) ⊎ ((x ≡ front p ++ drop (length (front p)) x) × (0 < length (drop (length (front p)) x)))) [
      | true ↦ λ same h. inl ((bytes_decides x p).0 same)
      | false ↦ λ same h. inr (
        (starts_is Decides-eqb x (front p) _ refl).0 (first_so (starts_with nat_eq x (front p)) _ h),
        omega (arith, longer (length (front p)) (length x) (second_so (starts_with nat_eq x (front p)) _ h), length-drop (length (front p)) x),
      )
    ] refl h
  where
    longer : (m n : ℕ) → nat_lt m n ≡ true → m < n
    longer m n e = grind (arith, nat_tests)

-- where it does not begin with that front, it is the other
pub none_below : (x p : List ℕ) → IsTrue (is_within x p) → starts_with nat_eq x (front p) ≡ false → [] ≡ drop (length (front p)) x
none_below x p h e =
    ⊎_elim (λ same. nothing_left p ∙ ap (drop (length (front p))) (sym same)) (λ d. absurd (false≢true (sym e ∙ (begins x (front p) _ d.0).1))) (within x p h)

root_fine : refusal (47 ∷ []) ≡ None
root_fine = refl

tail_made : (p r : List ℕ) → refusal (front p ++ r) ≡ None → refusal (47 ∷ r) ≡ None
tail_made [] r h = h
tail_made (b ∷ []) r h = ap (λ b. refusal (b ∷ r)) (sym (first_slash b r h)) ∙ h
tail_made (b ∷ c ∷ bytes) r h =
    let e : front (b ∷ c ∷ bytes) ++ r ≡ b ∷ (c ∷ bytes ++ 47 ∷ r) = ap (λ f. f ++ r) (front_other (b ∷ c ∷ bytes) (λ l. absurd (omega arith)))
    ∙ append_assoc (b ∷ c ∷ bytes) (47 ∷ []) r in
    let whole : refusal (b ∷ (c ∷ bytes ++ 47 ∷ r)) ≡ None = ap refusal (sym e) ∙ h in
    behind r (omega (arith, short (b ∷ (c ∷ bytes ++ 47 ∷ r)) whole, length-append (c ∷ bytes) (47 ∷ r)))
    (rest_of (slice_split is_slash (c ∷ bytes)) (slice_split is_slash r) (both_sides b (c ∷ bytes) r whole))

-- what `below` makes is a path
pub below_made : (x p t : List ℕ) → t ≡ below_of x p → refusal x ≡ None → IsTrue (is_within x p) → refusal t ≡ None
below_made x p t e h w =
    ap refusal e ∙ ⊎_elim (λ same. ap (λ r. refusal (47 ∷ r)) (ap (drop (length (front p))) same ∙ sym (nothing_left p)) ∙ root_fine)
    (λ d. tail_made p (drop (length (front p)) x) (ap refusal (sym d.0) ∙ h)) (within x p w)

more : (n : ℕ) → 0 < n → (n + 1 == 1) ≡ false
more n h = grind (arith, nat_tests)

pub grafted_names : (p r : List ℕ) → 0 < length r → grafted p (47 ∷ r) ≡ joined p r
grafted_names p r h = ap (λ b. cond b p (joined p r)) (ap (λ n. n == 1) (omega arith) ∙ more (length r) h)

pub graft_undoes_below : GraftUndoesBelow
graft_undoes_below x p w =
    ⊎_elim (λ same. ap (λ r. grafted p (47 ∷ r)) (ap (drop (length (front p))) same ∙ sym (nothing_left p)) ∙ sym same)
    (λ d. grafted_names p (drop (length (front p)) x) d.1 ∙ sym (front-joined p (drop (length (front p)) x)) ∙ sym d.0) (within x p w)

-- the text of a path may be cut behind its first slash
pub first_cut : (p : List ℕ) → refusal p ≡ None → IsUtf8 p → (1 ≤ length p) × (1 < length p → 128 ≤ slice_index p 1 → 192 ≤ slice_index p 1)
first_cut [] h u = cc
first_cut (b ∷ bytes) h u = (omega arith, lead_after_ascii (b ∷ bytes) 0 u (omega (arith, first_slash b bytes h)))
