-- A path that has all but its last name from the path before it.
use Rattle.flat_list.proofs.Prelude.{◌≡◌, ℕ, zero, suc, ◌+◌, ◌-◌, ◌/◌, ◌%◌, ◌<◌, ◌≤◌, ◌⊎◌, inl, inr, true, false, cond, ◌&&◌, eqb, List, [], ◌∷◌, ◌++◌, length}
use Rattle.flat_list.proofs.Prelude.{get_or, take, drop, Some, None, refl, ap, sym, ◌∙◌, subst, arith, add-one, get_or-drop, nat_eq, nat_le, ◌==◌, list_all}
use Rattle.flat_list.proofs.Prelude.{list_any, common_prefix_len, is_lt, Ordering, IsAscii, is_utf8, and_parts, and_right, cases_lt, false_from_ne_true}
use Rattle.flat_list.proofs.Prelude.{nat_tests, take-append-drop, take_all, length-take-le, length-drop, list_all-append, IsUtf8-from_ascii}
use Rattle.flat_list.proofs.Prelude.{is_utf8-from_IsUtf8, drop-cons, IsLastByte, is_byte, is_slash, name_fault, refusal, first_fault, joined, path_cmp}
use Rattle.flat_list.proofs.Prelude.{ReadingUndoesWriting, escape, is_escaped, hex_digit, reading, one_name, refusal_joined, split_name, before_made, behind}
use Rattle.flat_list.proofs.Prelude.{rest_of, is_plain, IsFront, IsPlainName, IsNear, if_behind, ok_of, ◌>>=◌, prefix_same}
use Rattle.std.proofs.Common.{◌||◌}
use Rattle.flat_list.specs.Private.Reading.{path_behind}
use Rattle.whole_lines.specs.Words.{path_from}

-- ---- bytes that stand for themselves

not_escaped : (b : ℕ) → is_plain b ≡ true → is_escaped b ≡ false
not_escaped b e = grind (arith, nat_tests)

escape_plain : (word : List ℕ) → list_all is_plain word ≡ true → escape word ≡ word
escape_plain [] e = refl
escape_plain (b ∷ word) e =
    let parts = and_parts _ _ e in
    ap (λ t. cond t (92 ∷ 120 ∷ hex_digit (b / 16) ∷ hex_digit (b % 16) ∷ []) (b ∷ []) ++ escape word) (not_escaped b parts.0)
    ∙ ap (λ w. b ∷ w) (escape_plain word parts.1)

low : (b : ℕ) → is_plain b ≡ true → b < 128
low b e = grind (arith, nat_tests)

plain_ascii : (word : List ℕ) → list_all is_plain word ≡ true → IsAscii word
plain_ascii [] e i = omega arith
plain_ascii (b ∷ word) e zero = low b (and_parts _ _ e).0
plain_ascii (b ∷ word) e (suc i) = plain_ascii word (and_parts _ _ e).1 i

pub near_utf8 : (before word : List ℕ) (at : ℕ) → IsNear before word at → is_utf8 word ≡ true
near_utf8 before word at near = is_utf8-from_IsUtf8 word (IsUtf8-from_ascii word (plain_ascii word near.plain))

near_read : (before word : List ℕ) (at : ℕ) → ReadingUndoesWriting → IsNear before word at → path_from word ≡ Some word
unfolding path_from
near_read before word at undoes near =
    ap (λ b. cond b (ok_of (reading word)) None) (near_utf8 before word at near)
    ∙ ap (λ w. ok_of (reading w)) (sym (escape_plain word near.plain))
    ∙ ap ok_of (undoes.back word near.path)

-- ---- the path before and what the word tells

near_text : (before word : List ℕ) (at : ℕ) → IsNear before word at → take at before ++ drop at word ≡ word
near_text before word at near = ap (λ front. front ++ drop at word) near.shared ∙ take-append-drop at word

-- what the path before is rewritten to
pub near_rewritten : (before word : List ℕ) (at : ℕ) → IsNear before word at → take at before ++ take (length word - at) (drop at word) ≡ word
near_rewritten before word at near = ap (λ rest. take at before ++ rest) (rest_of word at) ∙ near_text before word at near

near_order : (before word : List ℕ) (at : ℕ) → IsNear before word at → path_cmp (drop at before) (drop at word) ≡ path_cmp before word
near_order before word at near =
    sym (behind (take at before) (drop at before) (drop at word))
    ∙ ap (λ b. path_cmp b (take at before ++ drop at word)) (take-append-drop at before)
    ∙ ap (path_cmp before) (near_text before word at near)

near_behind : (before word : List ℕ) (at : ℕ) → ReadingUndoesWriting → IsNear before word at →
    path_behind before word ≡ cond (is_lt (path_cmp (drop at before) (drop at word))) (Some word) None
unfolding path_behind
near_behind before word at undoes near =
    ap (λ o. o >>= if_behind before) (near_read before word at undoes near)
    ∙ ap (λ o. cond (is_lt o) (Some word) None) (sym (near_order before word at near))

-- how the two stand to one another is told by what stands behind the place
near_told : (before word x : List ℕ) (at : ℕ) (o : Ordering) → ReadingUndoesWriting → IsNear before word at → x ≡ before →
    o ≡ path_cmp (take (length x - at) (drop at x)) (take (length word - at) (drop at word)) → path_behind before word ≡ cond (is_lt o) (Some word) None
near_told before word x at o undoes near same is =
    near_behind before word at undoes near
    ∙ ap (λ o. cond (is_lt o) (Some word) None)
    (sym (is ∙ ap (λ x. path_cmp (take (length x - at) (drop at x)) (take (length word - at) (drop at word))) same
    ∙ ap (λ b. path_cmp b (take (length word - at) (drop at word))) (rest_of before at) ∙ ap (path_cmp (drop at before)) (rest_of word at)))

pub near_yes : (before word x : List ℕ) (at : ℕ) (o : Ordering) → ReadingUndoesWriting → IsNear before word at → x ≡ before →
    o ≡ path_cmp (take (length x - at) (drop at x)) (take (length word - at) (drop at word)) → is_lt o ≡ true → path_behind before word ≡ Some word
near_yes before word x at o undoes near same is lt = near_told before word x at o undoes near same is ∙ ap (λ b. cond b (Some word) None) lt

pub near_no : (before word x : List ℕ) (at : ℕ) (o : Ordering) → ReadingUndoesWriting → IsNear before word at → x ≡ before →
    o ≡ path_cmp (take (length x - at) (drop at x)) (take (length word - at) (drop at word)) → is_lt o ≡ false → path_behind before word ≡ None
near_no before word x at o undoes near same is off = near_told before word x at o undoes near same is ∙ ap (λ b. cond b (Some word) None) off

-- ---- some of a path's names

pub front : (path names : List ℕ) → 1 < length names → common_prefix_len nat_eq names path ≡ length names →
    (length path ≡ length names) ⊎ (get_or path (length names) 0 ≡ 47) → IsFront path names
front path names some shared ends = record {
  some = some;
  same = ap (λ n. take n path) (sym shared) ∙ sym (prefix_same names path) ∙ take_all (common_prefix_len nat_eq names path) names (omega (arith, shared));
  ends = ends;
}

front_whole : (path names : List ℕ) → IsFront path names → length path ≡ length names → path ≡ names
front_whole path names f e = sym (take_all (length names) path (omega (arith, e))) ∙ f.same

-- text cut at a slash
cut_slash : (text : List ℕ) (at : ℕ) → get_or text at 0 ≡ 47 → text ≡ take at text ++ 47 ∷ drop (at + 1) text
cut_slash text at e = elim (cases_lt at (length text)) [
  | inl lt ↦ sym (take-append-drop at text)
      ∙ ap (λ l. take at text ++ l) (rw (add-one) (drop-cons text at 0 lt) ∙ ap (λ b. b ∷ drop (at + 1) text) e)
  | inr past ↦ absurd (past_end text at past e)
]
  where
    past_end : (text : List ℕ) (at : ℕ) → length text ≤ at → get_or text at 0 ≡ 47 → ⊥
    past_end [] at le e = cc
    past_end (b ∷ text) zero le e = omega arith
    past_end (b ∷ text) (suc at) le e = past_end text at (omega arith) e

front_path : (path names : List ℕ) → refusal path ≡ None → IsFront path names → refusal names ≡ None
front_path path names is f = elim f.ends [
  | inl e ↦ subst (λ p. refusal p ≡ None) (front_whole path names f e) is
  | inr e ↦ before_made path names (drop (length names + 1) path)
      (cut_slash path (length names) e ∙ ap (λ n. n ++ 47 ∷ drop (length names + 1) path) f.same) (omega (arith, f.some)) is
]

front_within : (path names : List ℕ) → IsFront path names → length names ≤ length path
front_within path names f = by_len (cases_lt (length path) (length names))
  where
    by_len : (length path < length names) ⊎ (length names ≤ length path) → length names ≤ length path
    by_len (inl lt) = let whole = take_all (length names) path (omega arith) in omega (arith, ap length (sym whole ∙ f.same))
    by_len (inr le) = le

-- ---- the last name

no_slash : (name : List ℕ) → ((j : ℕ) → j < length name → eqb (get_or name j 0) 47 ≡ false) → list_any is_slash name ≡ false
no_slash [] h = refl
no_slash (b ∷ name) h =
    ap (λ t. t || list_any is_slash name) (h 0 (omega arith)) ∙ no_slash name (λ j lt. h (suc j) (omega arith))

no_nul : (name : List ℕ) → list_all is_plain name ≡ true → list_any (λ b. b == 0) name ≡ false
no_nul [] e = refl
no_nul (b ∷ name) e =
    let parts = and_parts _ _ e in
    ap (λ t. t || list_any (λ b. b == 0) name) (not_nul b parts.0) ∙ no_nul name parts.1
  where
    not_nul : (b : ℕ) → is_plain b ≡ true → (b == 0) ≡ false
    not_nul b e = grind (arith, nat_tests)

not_dots : (name : List ℕ) → IsPlainName name → (nat_le (length name) 2 && list_all (λ b. b == 46) name) ≡ false
not_dots [] (inl long) = absurd (omega arith)
not_dots [] (inr h) = absurd (omega (arith, h.0))
not_dots (b ∷ name) (inl long) = let more : nat_le (length (b ∷ name)) 2 ≡ false = grind (arith, nat_tests) in
    ap (λ t. t && list_all (λ b. b == 46) (b ∷ name)) more
not_dots (b ∷ name) (inr h) = let other : (b == 46) ≡ false = grind (arith, nat_tests, h.1) in
    and_right (nat_le (length (b ∷ name)) 2) _ (ap (λ t. t && list_all (λ b. b == 46) name) other)

some_name : (name : List ℕ) → IsPlainName name → (length name == 0) ≡ false
some_name name (inl long) = grind (arith, nat_tests)
some_name name (inr h) = let some = h.0 in grind (arith, nat_tests, some)

plain_name : (name : List ℕ) → IsPlainName name → list_all is_plain name ≡ true → name_fault name ≡ None
plain_name name is plain = rw (some_name name is, not_dots name is, no_nul name plain) refl

-- ---- all of it

pub near : (before word : List ℕ) (at : ℕ) → refusal before ≡ None → IsLastByte (is_byte 47) word (Some at) → length word ≤ 4095 →
    list_all is_plain word ≡ true → IsPlainName (drop (at + 1) word) → IsFront before (take at word) → IsNear before word at
near before word at is last short plain named f =
    let len : length (take at word) ≡ at = length-take-le at word (omega arith) in
    let some : 1 < at = omega (arith, len, f.some) in
    let parts : word ≡ dir ++ 47 ∷ name = cut_slash word at slash in
    let whole : joined dir name ≡ word = ap (λ t. cond t (dir ++ name) (dir ++ 47 ∷ name)) not_root ∙ sym parts in
    record {
      inside = omega (arith, len, front_within before dir f);
      within = omega arith;
      shared = ap (λ n. take n before) (sym len) ∙ f.same;
      path = ap refusal (sym whole)
          ∙ refusal_joined dir name (front_path before dir is f) (ap first_fault (split_name name bare) ∙ one_name name (plain_name name named name_plain))
          (omega (arith, ap length whole));
      plain = plain;
    }
  where
    lt : at < length word
    lt = last.0.high

    dir : List ℕ
    dir = take at word

    name : List ℕ
    name = drop (at + 1) word

    slash : get_or word at 0 ≡ 47
    slash = let e = last.1 in grind (arith, nat_tests, e)

    not_root : (length dir == 1) ≡ false
    not_root = let some = f.some in grind (arith, nat_tests, some)

    name_plain : list_all is_plain name ≡ true
    name_plain = (and_parts (list_all is_plain (take (at + 1) word)) (list_all is_plain name)
        (sym (list_all-append is_plain (take (at + 1) word) name) ∙ ap (list_all is_plain) (take-append-drop (at + 1) word) ∙ plain)).1

    bare : list_any is_slash name ≡ false
    bare = no_slash name (λ j below. ap (λ b. eqb b 47) (get_or-drop (at + 1) word j 0)
        ∙ false_from_ne_true (eqb (get_or word (at + 1 + j) 0) 47)
        (last.0.after (at + 1 + j) (omega arith) (omega (arith, below, length-drop (at + 1) word))))
