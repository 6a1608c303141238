-- The content of a row of two entries, by their kind.
use Rattle.tree_sync.proofs.Prelude.{◌≡◌, ℕ, Bool, true, false, not, cond, ◌&&◌, List, [], ◌∷◌, length, Option, Some, None, refl, ap, ◌∙◌, sym, arith, nat_eq}
use Rattle.tree_sync.proofs.Prelude.{◌==◌, get, pointwise, bytes_decides, false≢true, Files, content, Kind, Stat, Entry, is_kind, Two, IsContent, are_files}
use Rattle.tree_sync.proofs.Prelude.{are_links, is_read, same_bytes, sizes, texts, two_of, is_common, same_number, no_far}
use Rattle.outside.specs.declared.trees.Kind.TheVariants as kind
use Rattle.tree_cmp.specs.declared.rows.Two.TheVariants as two

common_of : (b : Bool) → is_common (two_of b) ≡ true → b ≡ true
common_of true e = refl
common_of false e = absurd (false≢true e)

empty : (bytes : List ℕ) → length bytes ≡ 0 → bytes ≡ []
empty [] e = refl
empty (b ∷ bytes) e = absurd (omega (arith, e))

-- two entries with the stats of two kinds, and the content that a row has for them
pub record Pairs (files : Files) (missed : Bool) (x y : Entry) (j k : Kind) (c : Two) : Type 0 where
  pub one : Stat
  pub two : Stat
  pub first : x.stat ≡ Some one
  pub second : y.stat ≡ Some two
  pub kind_one : one.kind ≡ j
  pub kind_two : two.kind ≡ k
  pub says : IsContent (Some files) missed (Some x) (Some y) c

-- two links with one text
pub record OneText (x y : Entry) : Type 0 where
  pub text : List ℕ
  pub first : x.target ≡ Some text
  pub second : y.target ≡ Some text

module _ (files : Files) (missed : Bool) (x y : Entry) (c : Two) where
  files_is : (j k : Kind) (p : Pairs files missed x y j k c) → are_files p.one p.two ≡ (is_kind kind.File j && is_kind kind.File k)
  files_is j k p = λ i. is_kind kind.File (p.kind_one i) && is_kind kind.File (p.kind_two i)

  read_is : (j k : Kind) (p : Pairs files missed x y j k c) → is_read x.stat y.stat ≡
      ((is_kind kind.File j && is_kind kind.File k) && (p.one.size == p.two.size && not (p.one.size == 0)))
  read_is j k p = (λ i. is_read (p.first i) (p.second i)) ∙ ap (λ b. b && (p.one.size == p.two.size && not (p.one.size == 0))) (files_is j k p)

  links_is : (j k : Kind) (p : Pairs files missed x y j k c) → are_links x.stat y.stat ≡ (is_kind kind.Link j && is_kind kind.Link k)
  links_is j k p = (λ i. are_links (p.first i) (p.second i)) ∙ (λ i. is_kind kind.Link (p.kind_one i) && is_kind kind.Link (p.kind_two i))

  sizes_is : (j k : Kind) (p : Pairs files missed x y j k c) → sizes x.stat y.stat ≡
      cond (is_kind kind.File j && is_kind kind.File k) (two_of (p.one.size == p.two.size)) two.NoValue
  sizes_is j k p =
      (λ i. sizes (p.first i) (p.second i)) ∙ ap (λ b. cond b (two_of (p.one.size == p.two.size)) two.NoValue) (files_is j k p)

  -- files of one content have the same bytes, where each has as many as its stat tells
  pub files_same : (p : Pairs files missed x y kind.File kind.File c) → p.one.size ≡ length (content (get files x.path)) →
      p.two.size ≡ length (content (get files y.path)) → is_common c ≡ true → content (get files x.path) ≡ content (get files y.path)
  files_same p size_one size_two common = by (p.one.size == p.two.size) (p.one.size == 0) refl refl
    where
      equal : missed ≡ false → is_read x.stat y.stat ≡ true → content (get files x.path) ≡ content (get files y.path)
      equal m r = (bytes_decides (content (get files x.path)) (content (get files y.path))).0
          (common_of (same_bytes files (Some x) (Some y)) (ap is_common (sym (p.says.told r m)) ∙ common))

      read : is_read x.stat y.stat ≡ true → (b : Bool) → missed ≡ b → content (get files x.path) ≡ content (get files y.path)
      read r true m = absurd (false≢true (sym (ap is_common (p.says.unknown r m)) ∙ common))
      read r false m = equal m r

      sized : is_read x.stat y.stat ≡ false → (p.one.size == p.two.size) ≡ true
      sized r = common_of (p.one.size == p.two.size) (ap is_common (sym (p.says.not_read r
          ∙ ap (λ b. cond b (texts x.target y.target) (sizes x.stat y.stat)) (links_is kind.File kind.File p) ∙ sizes_is kind.File kind.File p)) ∙ common)

      by : (e z : Bool) → (p.one.size == p.two.size) ≡ e → (p.one.size == 0) ≡ z → content (get files x.path) ≡ content (get files y.path)
      by true false e z = read (read_is kind.File kind.File p ∙ (λ i. e i && not (z i))) missed refl
      by true true e z =
          let none : p.one.size ≡ 0 = no_far p.one.size z in
          empty (content (get files x.path)) (sym size_one ∙ none)
          ∙ sym (empty (content (get files y.path)) (sym size_two ∙ sym (same_number p.one.size p.two.size e) ∙ none))
      by false z e f = absurd (false≢true (sym e ∙ sized (read_is kind.File kind.File p ∙ ap (λ b. b && not (p.one.size == 0)) e)))

  -- the content of two links is that of their texts
  links_say : (p : Pairs files missed x y kind.Link kind.Link c) → c ≡ texts x.target y.target
  links_say p = p.says.not_read (read_is kind.Link kind.Link p)
      ∙ ap (λ b. cond b (texts x.target y.target) (sizes x.stat y.stat)) (links_is kind.Link kind.Link p)

  -- so where it is one, both have the same text
  pub links_same : (p : Pairs files missed x y kind.Link kind.Link c) → is_common c ≡ true → OneText x y
  links_same p common = by x.target y.target refl refl (ap is_common (sym (links_say p)) ∙ common)
    where
      by : (t u : Option (List ℕ)) → x.target ≡ t → y.target ≡ u → is_common (texts t u) ≡ true → OneText x y
      by None u e f s = absurd (false≢true s)
      by (Some t) None e f s = absurd (false≢true s)
      by (Some t) (Some u) e f s =
          let same : t ≡ u = (bytes_decides t u).0 (common_of (pointwise nat_eq t u) s) in
          record { text = t; first = e; second = f ∙ ap Some (sym same) }

  -- of others nothing is said
  pub others_say : (k : Kind) (p : Pairs files missed x y kind.Other k c) → c ≡ two.NoValue
  others_say k p = p.says.not_read (read_is kind.Other k p)
      ∙ ap (λ b. cond b (texts x.target y.target) (sizes x.stat y.stat)) (links_is kind.Other k p) ∙ sizes_is kind.Other k p
