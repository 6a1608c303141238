-- The fate that each entry comes to by that of its item.
use Rattle.tree_copy.proofs.Prelude.{◌≡◌, ◌≢◌, inl, inr, ℕ, zero, suc, ◌<◌, ◌≤◌, Bool, true, false, not, cond, ◌||◌, ◌&&◌, List, [], ◌∷◌, map, length, Option}
use Rattle.tree_copy.proofs.Prelude.{Some, None, refl, ap, ◌∙◌, sym, arith, nat_eq, nat_lt, slice_get, false≢true, or_parts, or_left, or_right, nat_tests}
use Rattle.tree_copy.proofs.Prelude.{All-from_recursion, All, AllByRecursion, filter, list_any, zip, pointwise, bytes_decides, parent_of, Entry, paths}
use Rattle.tree_copy.proofs.Prelude.{ParentsFail, Item, Fate, Pair, is_done, IsEarly, early, is_tried, is_untold, parent_failed, target_of, any_odd, fates_of}
use Rattle.tree_copy.proofs.Prelude.{has_room, is_odd, is_other, item_of, settled, settled_by, same_some}
use Rattle.level_work.specs.declared.items.Fate.TheVariants as fate
use Rattle.level_work.specs.declared.items.Order.TheVariants as order
use Rattle.tree_copy.proofs.Fits.{no_room_of, other_path, room_of}

-- the items by marks that say which entries have one
abbrev pub items_by : List Pair → List Bool → List Entry → List Item
items_by pairs [] es = []
items_by pairs (m ∷ marks) [] = []
items_by pairs (true ∷ marks) (e ∷ es) = item_of pairs e ∷ items_by pairs marks es
items_by pairs (false ∷ marks) (e ∷ es) = items_by pairs marks es

pub items_are : (pairs : List Pair) (es : List Entry) → items_by pairs (map (has_room pairs) es) es ≡ map (item_of pairs) (filter (has_room pairs) es)
items_are pairs [] = refl
items_are pairs (e ∷ es) =
    elim (has_room pairs e) as (λ b. items_by pairs (b ∷ map (has_room pairs) es) (e ∷ es) ≡ map (item_of pairs)
    (cond b (e ∷ filter (has_room pairs) es) (filter (has_room pairs) es))) [
      | true ↦ ap (λ r. item_of pairs e ∷ r) (items_are pairs es)
      | false ↦ items_are pairs es
    ]

-- the marks are those of the entries
abbrev pub AreMarks : List Pair → List Bool → List Entry → Type 0
AreMarks pairs [] [] = Unit {0}
AreMarks pairs [] (e ∷ es) = ⊥
AreMarks pairs (m ∷ marks) [] = ⊥
AreMarks pairs (m ∷ marks) (e ∷ es) = (has_room pairs e ≡ m) × AreMarks pairs marks es

pub are_marks : (pairs : List Pair) (es : List Entry) → AreMarks pairs (map (has_room pairs) es) es
are_marks pairs [] = tt
are_marks pairs (e ∷ es) = (refl, are_marks pairs es)

abbrev pub rows_by : List Bool → List Entry → List Fate → List (List ℕ × Fate)
rows_by marks es outs = zip (paths es) (fates_of marks es outs)

-- an entry is too long, or has an item with a fate
pub data Settles (pairs : List Pair) (items : List Item) (outs : List Fate) (e : Entry) (f : Fate) : Type 0 where
  far : has_room pairs e ≡ false → f ≡ fate.TooLong → Settles pairs items outs e f
  placed : (k : ℕ) (g : Fate) → slice_get items k ≡ Some (item_of pairs e) → slice_get outs k ≡ Some g → has_room pairs e ≡ true → is_odd e g ≡ false →
      f ≡ settled e g → Settles pairs items outs e f

settles_more : (pairs : List Pair) (items : List Item) (outs : List Fate) (x : Item) (g : Fate) (e : Entry) (f : Fate) → Settles pairs items outs e f →
    Settles pairs (x ∷ items) (g ∷ outs) e f
settles_more pairs items outs x g e f (far room is) = far room is
settles_more pairs items outs x g e f (placed k h at has room even is) = placed (suc k) h at has room even is

pub weaker : {X : Type 0} (P Q : X → Type 0) (xs : List X) → ((x : X) → P x → Q x) → AllByRecursion P xs → AllByRecursion Q xs
weaker P Q [] h p = tt
weaker P Q (x ∷ xs) h p = (h x p.0, weaker P Q xs h p.1)

abbrev pub Row : Type 0
Row = Entry × (List ℕ × Fate)

settle_rows : (pairs : List Pair) (marks : List Bool) (es : List Entry) (outs : List Fate) → AreMarks pairs marks es →
    length outs ≡ length (items_by pairs marks es) → any_odd marks es outs ≡ false →
    AllByRecursion (λ (one : Row). Settles pairs (items_by pairs marks es) outs one.0 one.1.1) (zip es (rows_by marks es outs))
settle_rows pairs [] [] outs m l odd = tt
settle_rows pairs [] (e ∷ es) outs m l odd = absurd m
settle_rows pairs (b ∷ marks) [] outs m l odd = absurd m
settle_rows pairs (true ∷ marks) (e ∷ es) [] m l odd = absurd (omega (arith, l))
settle_rows pairs (true ∷ marks) (e ∷ es) (g ∷ outs) m l odd = (
  placed 0 g refl refl m.0 (or_parts (is_odd e g) (any_odd marks es outs) odd).0 refl,
  weaker (λ (one : Row). Settles pairs (items_by pairs marks es) outs one.0 one.1.1)
      (λ (one : Row). Settles pairs (item_of pairs e ∷ items_by pairs marks es) (g ∷ outs) one.0 one.1.1)
      (zip es (rows_by marks es outs)) (λ one h. settles_more pairs (items_by pairs marks es) outs (item_of pairs e) g one.0 one.1.1 h)
      (settle_rows pairs marks es outs m.1 (omega (arith, l)) (or_parts (is_odd e g) (any_odd marks es outs) odd).1),
)
settle_rows pairs (false ∷ marks) (e ∷ es) outs m l odd = (far m.0 refl, settle_rows pairs marks es outs m.1 l odd)

-- an item at a path that did not come to `Done`
record Fails (items : List Item) (outs : List Fate) (q : List ℕ) : Type 0 where
  place : ℕ
  item : Item
  out : Fate
  at : slice_get items place ≡ Some item
  has : slice_get outs place ≡ Some out
  is : item.path ≡ q
  not_done : out ≢ fate.Done

fails_more : (items : List Item) (outs : List Fate) (q : List ℕ) (x : Item) (g : Fate) → Fails items outs q → Fails (x ∷ items) (g ∷ outs) q
fails_more items outs q x g f = record { place = suc f.place; item = f.item; out = f.out; at = f.at; has = f.has; is = f.is; not_done = f.not_done }

done_by : (b : Bool) (g : Fate) → g ≢ fate.Done → is_done (settled_by b g) ≡ false
done_by b fate.Done off = absurd (off refl)
done_by true fate.Failed off = refl
done_by true fate.Conflict off = refl
done_by true fate.Skipped off = refl
done_by true fate.ParentFailed off = refl
done_by true fate.Changed off = refl
done_by true fate.NotEmpty off = refl
done_by true fate.TooLong off = refl
done_by false fate.Failed off = refl
done_by false fate.Conflict off = refl
done_by false fate.Skipped off = refl
done_by false fate.ParentFailed off = refl
done_by false fate.Changed off = refl
done_by false fate.NotEmpty off = refl
done_by false fate.TooLong off = refl

-- where no other is said to be copied, what is done stays done
still_done : (other untold : Bool) (g : Fate) → (is_done g && (other || untold)) ≡ false → is_done (settled_by other g) ≡ false → g ≢ fate.Done
still_done false untold g odd off is = false≢true (sym off ∙ ap (λ h. is_done (settled_by false h)) is)
still_done true untold g odd off is = false≢true (sym odd ∙ ap (λ h. is_done h && true) is)

both : (a b : Bool) → (a && not b) ≡ true → (a ≡ true) × (b ≡ false)
both true true e = absurd (false≢true e)
both true false e = (refl, refl)
both false b e = absurd (false≢true e)

abbrev failed_at : List Pair → List ℕ → List (List ℕ × Fate) → Bool
failed_at pairs q rows = list_any (λ (row : List ℕ × Fate). pointwise nat_eq (target_of pairs row.0) q && not (is_done row.1)) rows

fails_by : (pairs : List Pair) (q : List ℕ) → length q ≤ 4095 → (marks : List Bool) (es : List Entry) (outs : List Fate) → AreMarks pairs marks es →
    length outs ≡ length (items_by pairs marks es) →
    any_odd marks es outs ≡ false → failed_at pairs q (rows_by marks es outs) ≡ true → Fails (items_by pairs marks es) outs q
fails_by pairs q s [] [] outs m l odd h = absurd (false≢true h)
fails_by pairs q s [] (e ∷ es) outs m l odd h = absurd m
fails_by pairs q s (b ∷ marks) [] outs m l odd h = absurd m
fails_by pairs q s (true ∷ marks) (e ∷ es) [] m l odd h = absurd (omega (arith, l))
fails_by pairs q s (true ∷ marks) (e ∷ es) (g ∷ outs) m l odd h =
    let o = or_parts (is_odd e g) (any_odd marks es outs) odd in
    by o.0 (λ h. fails_by pairs q s marks es outs m.1 (omega (arith, l)) o.1 h) (pointwise nat_eq (target_of pairs e.path) q && not (is_done (settled e g)))
    refl h
  where
    by : is_odd e g ≡ false → (failed_at pairs q (rows_by marks es outs) ≡ true → Fails (items_by pairs marks es) outs q) →
        (b : Bool) → (pointwise nat_eq (target_of pairs e.path) q && not (is_done (settled e g))) ≡ b → (b || failed_at pairs q (rows_by marks es outs)) ≡
        true →
        Fails (item_of pairs e ∷ items_by pairs marks es) (g ∷ outs) q
    by odd later true is h =
        let p = both (pointwise nat_eq (target_of pairs e.path) q) (is_done (settled e g)) is in
        record {
          place = 0;
          item = item_of pairs e;
          out = g;
          at = refl;
          has = refl;
          is = (bytes_decides (target_of pairs e.path) q).0 p.0;
          not_done =
              still_done (is_other e) (is_untold e) g odd p.1;
        }
    by odd later false is h = fails_more (items_by pairs marks es) outs q (item_of pairs e) g (later h)
fails_by pairs q s (false ∷ marks) (e ∷ es) outs m l odd h =
    fails_by pairs q s marks es outs m.1 l odd (sym (ap (λ b. (b && not false) || failed_at pairs q (rows_by marks es outs))
    (other_path (target_of pairs e.path) q (λ is. absurd (omega (arith, s, no_room_of pairs e m.0, ap length is))))) ∙ h)

failed_by : (pairs : List Pair) (q : List ℕ) (marks : List Bool) (es : List Entry) (outs : List Fate) → AreMarks pairs marks es →
    length outs ≡ length (items_by pairs marks es) →
    (place : ℕ) (x : Item) (g : Fate) → slice_get (items_by pairs marks es) place ≡ Some x → slice_get outs place ≡ Some g → x.path ≡ q → g ≢ fate.Done →
    failed_at pairs q (rows_by marks es outs) ≡ true
failed_by pairs q [] [] outs m l zero x g at has is off = cc
failed_by pairs q [] [] outs m l (suc k) x g at has is off = cc
failed_by pairs q [] (e ∷ es) outs m l k x g at has is off = absurd m
failed_by pairs q (b ∷ marks) [] outs m l k x g at has is off = absurd m
failed_by pairs q (true ∷ marks) (e ∷ es) [] m l k x g at has is off = absurd (omega (arith, l))
failed_by pairs q (true ∷ marks) (e ∷ es) (h ∷ outs) m l zero x g at has is off =
    or_left (pointwise nat_eq (target_of pairs e.path) q && not (is_done (settled e h))) (failed_at pairs q (rows_by marks es outs))
    ((λ i. there i && not (undone i)))
  where
    there : pointwise nat_eq (target_of pairs e.path) q ≡ true
    there = (bytes_decides (target_of pairs e.path) q).1 (ap (λ (y : Item). y.path) (same_some (item_of pairs e) x at) ∙ is)

    undone : is_done (settled e h) ≡ false
    undone = done_by (is_other e) h (λ d. off (sym (same_some h g has) ∙ d))
failed_by pairs q (true ∷ marks) (e ∷ es) (h ∷ outs) m l (suc k) x g at has is off =
    or_right (pointwise nat_eq (target_of pairs e.path) q && not (is_done (settled e h))) (failed_at pairs q (rows_by marks es outs))
    (failed_by pairs q marks es outs m.1 (omega (arith, l)) k x g at has is off)
failed_by pairs q (false ∷ marks) (e ∷ es) outs m l k x g at has is off =
    or_right (pointwise nat_eq (target_of pairs e.path) q && not false) (failed_at pairs q (rows_by marks es outs))
    (failed_by pairs q marks es outs m.1 l k x g at has is off)

-- the fate of an entry, as `early` has it

pub data Comes (pairs : List Pair) (rows : List (List ℕ × Fate)) (items : List Item) (outs : List Fate) (e : Entry) (f : Fate) : Type 0 where
  long : early pairs rows e ≡ Some fate.TooLong → has_room pairs e ≡ false → f ≡ fate.TooLong → Comes pairs rows items outs e f
  under : (k : ℕ) → slice_get items k ≡ Some (item_of pairs e) → slice_get outs k ≡ Some fate.ParentFailed → early pairs rows e ≡ Some fate.ParentFailed →
      f ≡ fate.ParentFailed →
      Comes pairs rows items outs e f
  tried : (k : ℕ) (g : Fate) → slice_get items k ≡ Some (item_of pairs e) → slice_get outs k ≡ Some g → g ≢ fate.ParentFailed → is_odd e g ≡ false →
      early pairs rows e ≡ cond (is_other e) (Some fate.Skipped) None → f ≡ settled e g → Comes pairs rows items outs e f

abbrev early_by : (too failed other : Bool) → Option Fate
early_by too failed other = cond too (Some fate.TooLong) (cond failed (Some fate.ParentFailed) (cond other (Some fate.Skipped) None))

over : (n : ℕ) → 4095 < n → nat_lt 4095 n ≡ true
over n l = grind (arith, nat_tests)

pub within : (n : ℕ) → n ≤ 4095 → nat_lt 4095 n ≡ false
within n l = grind (arith, nat_tests)

settled_under : (b : Bool) → settled_by b fate.ParentFailed ≡ fate.ParentFailed
settled_under true = refl
settled_under false = refl

module _ (pairs : List Pair) (marks : List Bool) (es : List Entry) (outs : List Fate) (m : AreMarks pairs marks es)
    (l : length outs ≡ length (items_by pairs marks es)) (even : any_odd marks es outs ≡ false)
    (fail : ParentsFail order.TopDown (items_by pairs marks es) outs) (short : (k : ℕ) (x : Item) → slice_get (items_by pairs marks es) k ≡ Some x →
    length (parent_of x.path) ≤ 4095) where
  comes_at : (e : Entry) (f : Fate) → Settles pairs (items_by pairs marks es) outs e f → Comes pairs (rows_by marks es outs) (items_by pairs marks es) outs e f
  comes_at e f (far room is) =
      long (ap (λ b. early_by b (parent_failed pairs (rows_by marks es outs) (target_of pairs e.path)) (is_other e))
      (over (length (target_of pairs e.path)) (no_room_of pairs e room))) room is
  comes_at e f (placed k g at has room odd is) = by (parent_failed pairs (rows_by marks es outs) (target_of pairs e.path)) refl
    where
      now : early pairs (rows_by marks es outs) e ≡ early_by false (parent_failed pairs (rows_by marks es outs) (target_of pairs e.path)) (is_other e)
      now = ap (λ b. early_by b (parent_failed pairs (rows_by marks es outs) (target_of pairs e.path)) (is_other e))
          (within (length (target_of pairs e.path)) (room_of pairs e room))

      by : (b : Bool) → parent_failed pairs (rows_by marks es outs) (target_of pairs e.path) ≡ b →
          Comes pairs (rows_by marks es outs) (items_by pairs marks es) outs e f
      by true p =
          let h = fails_by pairs (parent_of (target_of pairs e.path)) (short k (item_of pairs e) at) marks es outs m l even p in
          let u : g ≡ fate.ParentFailed =
          (fail k (item_of pairs e) g at has).1 (record {
            place = h.place;
            item = h.item;
            fate_of = h.out;
            at = h.at;
            has = h.has;
            is_parent =
                h.is;
            not_done = h.not_done;
          }) in
          under k at (has ∙ ap (λ x. Some x) u) (now ∙ ap (λ b. early_by false b (is_other e)) p) (is ∙ ap (settled e) u
          ∙ settled_under (is_other e))
      by false p =
          let off : g ≢ fate.ParentFailed = λ u.
          let h = (fail k (item_of pairs e) g at has).0 u in
          false≢true (sym p ∙ failed_by pairs (parent_of (target_of pairs e.path)) marks es outs m l h.place h.item h.fate_of h.at h.has h.is_parent h.not_done)
          in
          tried k g at has off odd (now ∙ ap (λ b. early_by false b (is_other e)) p) is

  pub all_come : AllByRecursion (λ (one : Row). Comes pairs (rows_by marks es outs) (items_by pairs marks es) outs one.0 one.1.1)
      (zip es (rows_by marks es outs))
  all_come =
      weaker (λ (one : Row). Settles pairs (items_by pairs marks es) outs one.0 one.1.1)
      (λ (one : Row). Comes pairs (rows_by marks es outs) (items_by pairs marks es) outs one.0 one.1.1)
      (zip es (rows_by marks es outs)) (λ one h. comes_at one.0 one.1.1 h) (settle_rows pairs marks es outs m l even)

-- what is so over all files

settles : (g : Fate) → g ≢ fate.ParentFailed → (is_tried (settled_by false g) ≡ true) × (settled_by true g ≡ fate.Skipped)
settles fate.ParentFailed off = absurd (off refl)
settles fate.Done off = (refl, refl)
settles fate.Failed off = (refl, refl)
settles fate.Conflict off = (refl, refl)
settles fate.Skipped off = (refl, refl)
settles fate.Changed off = (refl, refl)
settles fate.NotEmpty off = (refl, refl)
settles fate.TooLong off = (refl, refl)

tried_by : (g : Fate) → g ≢ fate.ParentFailed → is_tried (settled_by false g) ≡ true
tried_by g off = (settles g off).0

pub skipped_by : (g : Fate) → g ≢ fate.ParentFailed → settled_by true g ≡ fate.Skipped
skipped_by g off = (settles g off).1

-- a link whose text is not known is not made
unmade : (untold : Bool) (g : Fate) → (is_done g && untold) ≡ false → (untold && is_done (settled_by false g)) ≡ false
unmade false g odd = refl
unmade true fate.Done odd = odd
unmade true fate.Failed odd = refl
unmade true fate.Conflict odd = refl
unmade true fate.Skipped odd = refl
unmade true fate.ParentFailed odd = refl
unmade true fate.Changed odd = refl
unmade true fate.NotEmpty odd = refl
unmade true fate.TooLong odd = refl

is_early : (pairs : List Pair) (rows : List (List ℕ × Fate)) (items : List Item) (outs : List Fate) (e : Entry) (f : Fate) →
    Comes pairs rows items outs e f → IsEarly pairs rows e f
is_early pairs rows items outs e f (long now room is) = inl (now ∙ ap (λ x. Some x) (sym is))
is_early pairs rows items outs e f (under k at has now is) = inl (now ∙ ap (λ x. Some x) (sym is))
is_early pairs rows items outs e f (tried k g at has off odd now is) =
    elim (is_other e) as (λ b. (is_done g && (b || is_untold e)) ≡ false → early pairs rows e ≡ cond b (Some fate.Skipped) None → f ≡ settled_by b g →
    IsEarly pairs rows e f) [
      | false ↦ λ odd now is. inr (now, ap is_tried is ∙ tried_by g off, ap (λ h. is_untold e && is_done h) is ∙ unmade (is_untold e) g odd)
      | true ↦ λ odd now is. inl (now ∙ ap (λ x. Some x) (sym (is ∙ skipped_by g off)))
    ] odd now is

pub are_early : (pairs : List Pair) (rows : List (List ℕ × Fate)) (items : List Item) (outs : List Fate) (ones : List Row) →
    AllByRecursion (λ (one : Row). Comes pairs rows items outs one.0 one.1.1) ones → All (λ (one : Row). IsEarly pairs rows one.0 one.1.1) ones
are_early pairs rows items outs ones h =
    All-from_recursion (λ (one : Row). IsEarly pairs rows one.0 one.1.1) ones
    (weaker (λ (one : Row). Comes pairs rows items outs one.0 one.1.1) (λ (one : Row). IsEarly pairs rows one.0 one.1.1) ones
    (λ one c. is_early pairs rows items outs one.0 one.1.1 c) h)
