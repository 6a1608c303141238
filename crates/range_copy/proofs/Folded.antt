-- The large files, copied one after the other.
use Rattle.range_copy.proofs.Prelude.{◌≡◌, ℕ, zero, suc, ◌+◌, ◌*◌, ◌<◌, ◌≤◌, Bool, true, false, cond, ◌||◌, List, [], ◌∷◌, ◌++◌, length, take, Option, Some}
use Rattle.range_copy.proofs.Prelude.{None, IfSome, refl, ap, ◌∙◌, sym, subst, arith, nat_eq, get_or, is_some, slice_get, length-append, false≢true, or_parts}
use Rattle.range_copy.proofs.Prelude.{false_from_ne_true, all_zipped_more, list_any-append, sum_by-cons, slice_get-get_or, AllByRecursion, count_by, list_any}
use Rattle.range_copy.proofs.Prelude.{sum_by, zip, pointwise, parent_of, RoseBy, Files, content, is_dir, is_file, SameBut, Entry, is_failed, is_done, Fate}
use Rattle.range_copy.proofs.Prelude.{both_told, IsCopied, IsEarly, target_of, Pair, at_of, AreApart, AreFailed, AreRows, CanMake, IsRow, SameButFor}
use Rattle.range_copy.proofs.Prelude.{bytes_over, gain, is_target_of, mapped}
use Rattle.range_copy.proofs.Composed.{StandApart, both_copied}
use Rattle.range_copy.proofs.Rows.{Row, Told}

-- what is so at every place before one

none_below : (p : Entry → Bool) (es : List Entry) (k : ℕ) → ((j : ℕ) (l : Entry) → j < k → slice_get es j ≡ Some l → p l ≡ false) →
    list_any p (take k es) ≡ false
none_below p [] zero h = refl
none_below p [] (suc k) h = refl
none_below p (e ∷ es) zero h = refl
none_below p (e ∷ es) (suc k) h = λ i. h 0 e (omega arith) refl i || none_below p es k (λ j l less at. h (suc j) l (omega (arith, less)) at) i

all_below : (P : Entry → Type 0) (es : List Entry) (k : ℕ) → ((j : ℕ) (l : Entry) → j < k → slice_get es j ≡ Some l → P l) → AllByRecursion P (take k es)
all_below P [] zero h = tt
all_below P [] (suc k) h = tt
all_below P (e ∷ es) zero h = tt
all_below P (e ∷ es) (suc k) h = (h 0 e (omega arith) refl, all_below P es k (λ j l less at. h (suc j) l (omega (arith, less)) at))

any_taken : (p : Entry → Bool) (es : List Entry) (k : ℕ) → list_any p es ≡ false → list_any p (take k es) ≡ false
any_taken p [] zero h = refl
any_taken p [] (suc k) h = refl
any_taken p (e ∷ es) zero h = refl
any_taken p (e ∷ es) (suc k) h =
    let parts = or_parts (p e) (list_any p es) h in
    λ i. parts.0 i || any_taken p es k parts.1 i

module _ (pairs : List Pair) (large : List Entry) (apart : AreApart pairs large) (k : ℕ) (e : Entry) (at : slice_get large k ≡ Some e) where
  no_target : is_target_of pairs (take k large) (target_of pairs e.path) ≡ false
  no_target = none_below (λ l. pointwise nat_eq (target_of pairs e.path) (target_of pairs l.path)) large k
      (λ j l less there. false_from_ne_true (pointwise nat_eq (target_of pairs e.path) (target_of pairs l.path)) (λ same.
      let is = apart.distinct k j e l at there same in absurd (omega (arith, is, less))))

  no_source : is_target_of pairs (take k large) e.path ≡ false
  no_source = none_below (λ l. pointwise nat_eq e.path (target_of pairs l.path)) large k (λ j l less there. apart.sources k j e l at there)

  no_parent : is_target_of pairs (take k large) (parent_of (target_of pairs e.path)) ≡ false
  no_parent = none_below (λ l. pointwise nat_eq (parent_of (target_of pairs e.path)) (target_of pairs l.path)) large k
      (λ j l less there. apart.parents k j e l at there)

  -- the files before this one stand apart from it
  pub next_apart : StandApart pairs (take k large) (e ∷ [])
  next_apart = record {
    first = all_below (λ l. is_target_of pairs (e ∷ []) (target_of pairs l.path) ≡ false) large k
        (λ j l less there. ap (λ b. b || false) (false_from_ne_true (pointwise nat_eq (target_of pairs l.path) (target_of pairs e.path)) (λ same.
        let is = apart.distinct j k l e there at same in absurd (omega (arith, is, less)))));
    second = (no_target, tt);
    sources = (no_source, tt);
  }

  -- so it can be copied still
  makes_after : (failed : List (List ℕ)) (before now : Files) → SameButFor pairs (take k large) before now → CanMake pairs failed e before →
      CanMake pairs failed e now
  makes_after failed before now same c = record {
    source = record {
      is_file = ap is_file (same e.path no_source) ∙ c.source.is_file;
      size_is = ap (λ node. length (content node)) (same e.path no_source) ∙ c.source.size_is;
    };
    stand = λ short fine off. ap is_dir (same (parent_of (target_of pairs e.path)) no_parent) ∙ c.stand short fine off;
  }

  pub still_makes : (failed : List (List ℕ)) (t t1 : Option Files) → is_some t1 ≡ is_some t →
      IfSome t (λ before. IfSome t1 (SameButFor pairs (take k large) before)) →
      IfSome t (CanMake pairs failed e) → IfSome t1 (CanMake pairs failed e)
  still_makes failed None None s same c = tt
  still_makes failed None (Some now) s same c = absurd (false≢true (sym s))
  still_makes failed (Some before) None s same c = tt
  still_makes failed (Some before) (Some now) s same c = makes_after failed before now same c

-- what is known once some large files were copied, by their rows and the files before and after
pub record Folded (pairs : List Pair) (failed : List (List ℕ)) (es : List Entry) (own : List Row) (t t' : Option Files) : Type 0 where
  pub early : (rows : List Row) → AreFailed pairs rows failed → AreRows (IsEarly pairs rows) es own
  pub told : (rows : List Row) → AreFailed pairs rows failed → IfSome t (λ before. IfSome t' (λ after. AreRows (IsCopied before after pairs rows) es own))
  pub rest : IfSome t (λ before. IfSome t' (SameButFor pairs es before))
  pub tells : is_some t' ≡ is_some t

-- and once one more was
pub record OneMore (pairs : List Pair) (failed : List (List ℕ)) (e : Entry) (f : Fate) (t t' : Option Files) : Type 0 where
  pub early : (rows : List Row) → AreFailed pairs rows failed → IsEarly pairs rows e f
  pub told : (rows : List Row) → AreFailed pairs rows failed → IfSome t (λ before. IfSome t' (λ after. IsCopied before after pairs rows e f))
  pub others : IfSome t (λ before. IfSome t' (SameBut (target_of pairs e.path) before))
  pub tells : is_some t' ≡ is_some t

but_one : (pairs : List Pair) (e : Entry) (before after : Files) → SameBut (target_of pairs e.path) before after → SameButFor pairs (e ∷ []) before after
but_one pairs e before after h q off = h q (or_parts (pointwise nat_eq q (target_of pairs e.path)) false off).0

but_both : (pairs : List Pair) (es : List Entry) (e : Entry) (a b c : Files) → SameButFor pairs es a b → SameBut (target_of pairs e.path) b c →
    SameButFor pairs (es ++ e ∷ []) a c
but_both pairs es e a b c h g q off =
    let parts = or_parts (is_target_of pairs es q) (is_target_of pairs (e ∷ []) q)
    (sym (list_any-append (λ (l : Entry). pointwise nat_eq q (target_of pairs l.path)) es (e ∷ [])) ∙ off) in
    but_one pairs e b c g q parts.1 ∙ h q parts.0

pub rest_more : (pairs : List Pair) (es : List Entry) (e : Entry) (t t1 t2 : Option Files) → is_some t1 ≡ is_some t →
    IfSome t (λ a. IfSome t1 (SameButFor pairs es a)) → IfSome t1 (λ b. IfSome t2 (SameBut (target_of pairs e.path) b)) →
    IfSome t (λ a. IfSome t2 (SameButFor pairs (es ++ e ∷ []) a))
rest_more pairs es e t t1 t2 s = both_told (SameButFor pairs es) (SameBut (target_of pairs e.path)) (SameButFor pairs (es ++ e ∷ [])) t t1 t2 s
    (λ a b c h g. but_both pairs es e a b c h g)

pub folded_none : (pairs : List Pair) (failed : List (List ℕ)) (own : List Row) (t t1 : Option Files) → own ≡ [] → t1 ≡ t →
    Folded pairs failed [] own t t1
folded_none pairs failed own t t1 empty same = record {
  early = λ rows are. subst (AreRows (IsEarly pairs rows) []) (sym empty) tt;
  told = λ rows are. subst (λ own. IfSome t (λ before. IfSome t1 (λ after. AreRows (IsCopied before after pairs rows) [] own))) (sym empty) (by t t1);
  rest = subst (λ u. IfSome t (λ before. IfSome u (SameButFor pairs [] before))) (sym same) (alone t);
  tells = ap is_some same;
}
  where
    by : (t t1 : Option Files) → IfSome t (λ before. IfSome t1 (λ after. Unit {0}))
    by None t1 = tt
    by (Some a) None = tt
    by (Some a) (Some b) = tt

    alone : (t : Option Files) → IfSome t (λ before. IfSome t (SameButFor pairs [] before))
    alone None = tt
    alone (Some a) = λ q off. refl

one_told : (pairs : List Pair) (failed : List (List ℕ)) (es : List Entry) (own : List Row) (e : Entry) (f : Fate) (rows : List Row) (a b c : Files) →
    StandApart pairs es (e ∷ []) → AreRows (IsCopied a b pairs rows) es own → SameButFor pairs es a b → IsCopied b c pairs rows e f →
    SameBut (target_of pairs e.path) b c → AreRows (IsCopied a c pairs rows) (es ++ e ∷ []) (own ++ (e.path, f) ∷ [])
one_told pairs failed es own e f rows a b c apart each others one but =
    let both = both_copied pairs rows es (e ∷ []) own ((e.path, f) ∷ []) a b c apart (record { others = others; each = each })
    (record { others = but_one pairs e b c but; each = ((refl, one), tt) }) in
    all_zipped_more (IsRow (IsCopied a c pairs rows)) es own e (e.path, f) both.first both.second.0

pub folded_more : (pairs : List Pair) (failed : List (List ℕ)) (es : List Entry) (own : List Row) (e : Entry) (f : Fate) (t t1 t2 : Option Files) →
    StandApart pairs es (e ∷ []) → Folded pairs failed es own t t1 → OneMore pairs failed e f t1 t2 →
    Folded pairs failed (es ++ e ∷ []) (own ++ (e.path, f) ∷ []) t t2
folded_more pairs failed es own e f t t1 t2 apart h one = record {
  early = λ rows are. all_zipped_more (IsRow (IsEarly pairs rows)) es own e (e.path, f) (h.early rows are) (refl, one.early rows are);
  told = λ rows are. by rows t t1 t2 h.tells (h.told rows are) h.rest (one.told rows are) one.others;
  rest = rest_more pairs es e t t1 t2 h.tells h.rest one.others;
  tells = one.tells ∙ h.tells;
}
  where
    by : (rows : List Row) (t t1 t2 : Option Files) → is_some t1 ≡ is_some t → IfSome t (λ a. IfSome t1 (λ b. AreRows (IsCopied a b pairs rows) es own)) →
        IfSome t (λ a. IfSome t1 (SameButFor pairs es a)) → IfSome t1 (λ b. IfSome t2 (λ c. IsCopied b c pairs rows e f)) →
        IfSome t1 (λ b. IfSome t2 (SameBut (target_of pairs e.path) b)) →
        IfSome t (λ a. IfSome t2 (λ c. AreRows (IsCopied a c pairs rows) (es ++ e ∷ []) (own ++ (e.path, f) ∷ [])))
    by rows None t1 t2 s each others one but = tt
    by rows (Some a) None t2 s each others one but = absurd (false≢true s)
    by rows (Some a) (Some b) None s each others one but = tt
    by rows (Some a) (Some b) (Some c) s each others one but = one_told pairs failed es own e f rows a b c apart each others one but

-- what is so of the first files is so of all: nothing but targets has changed
pub rest_whole : (pairs : List Pair) (large : List Entry) (k : ℕ) (t t1 : Option Files) → IfSome t (λ a. IfSome t1 (SameButFor pairs (take k large) a)) →
    IfSome t (λ a. IfSome t1 (SameButFor pairs large a))
rest_whole pairs large k t t1 = mapped (SameButFor pairs (take k large)) (SameButFor pairs large) t t1
    (λ a b h q off. h q (any_taken (λ l. pointwise nat_eq q (target_of pairs l.path)) large k off))

-- the numbers

pub record Numbers (es : List Entry) (own : List Row) (copied bytes : ℕ) : Type 0 where
  pub copied_is : copied ≡ count_by (λ row. is_done row.1) own
  pub bytes_are : bytes ≡ bytes_over es own
  pub as_many : length own ≡ length es
  pub few : copied ≤ length es
  pub small : bytes ≤ length es * 18446744073709551615

pub numbers_none : (own : List Row) → own ≡ [] → Numbers [] own 0 0
numbers_none own empty = record {
  copied_is = ap (count_by (λ (row : Row). is_done row.1)) (sym empty);
  bytes_are = ap (bytes_over []) (sym empty);
  as_many = ap length empty;
  few = omega arith;
  small = omega arith;
}

sum_more : {X : Type 0} (w : X → ℕ) (xs : List X) (x : X) → sum_by w (xs ++ x ∷ []) ≡ sum_by w xs + w x
sum_more w [] x = omega (arith, sum_by-cons w x [])
sum_more w (y ∷ xs) x = let h = sum_more w xs x in omega (arith, h, sum_by-cons w y xs, sum_by-cons w y (xs ++ x ∷ []))

zip_more : (es : List Entry) (own : List Row) (e : Entry) (row : Row) → length own ≡ length es →
    zip (es ++ e ∷ []) (own ++ row ∷ []) ≡ zip es own ++ (e, row) ∷ []
zip_more [] [] e row len = refl
zip_more [] (r ∷ own) e row len = absurd (omega (arith, len))
zip_more (x ∷ es) [] e row len = absurd (omega (arith, len))
zip_more (x ∷ es) (r ∷ own) e row len = ap (λ rest. (x, r) ∷ rest) (zip_more es own e row (omega (arith, len)))

pub numbers_more : (es : List Entry) (own : List Row) (e : Entry) (f : Fate) (copied bytes copied' bytes' : ℕ) → Numbers es own copied bytes →
    copied' ≡ cond (is_done f) (copied + 1) copied → bytes' ≡ bytes + gain e f → gain e f ≤ 18446744073709551615 →
    Numbers (es ++ e ∷ []) (own ++ (e.path, f) ∷ []) copied' bytes'
numbers_more es own e f copied bytes copied' bytes' n c b s = record {
  copied_is = by (is_done f) c (sum_more (λ (row : Row). cond (is_done row.1) 1 0) own (e.path, f)) n.copied_is;
  bytes_are = b ∙ ap (λ m. m + gain e f) n.bytes_are ∙ sym (sum_more (λ (one : Told). gain one.0 one.1.1) (zip es own) (e, (e.path, f)))
      ∙ ap (sum_by (λ (one : Told). gain one.0 one.1.1)) (sym (zip_more es own e (e.path, f) n.as_many));
  as_many = omega (arith, n.as_many, length-append es (e ∷ []), length-append own ((e.path, f) ∷ []));
  few = less (is_done f) c;
  small = omega (arith, b, s, n.small, length-append es (e ∷ []));
}
  where
    by : (d : Bool) → copied' ≡ cond d (copied + 1) copied →
        count_by (λ (row : Row). is_done row.1) (own ++ (e.path, f) ∷ []) ≡ count_by (λ (row : Row). is_done row.1) own + cond d 1 0 →
        copied ≡ count_by (λ (row : Row). is_done row.1) own → copied' ≡ count_by (λ (row : Row). is_done row.1) (own ++ (e.path, f) ∷ [])
    by true c s n = omega (arith, c, s, n)
    by false c s n = omega (arith, c, s, n)

    less : (d : Bool) → copied' ≡ cond d (copied + 1) copied → copied' ≤ length (es ++ e ∷ [])
    less true c = omega (arith, c, n.few, length-append es (e ∷ []))
    less false c = omega (arith, c, n.few, length-append es (e ∷ []))

-- the counts of faults

pub rose_both : (a b x y z : ℕ) → RoseBy a x y → RoseBy b y z → RoseBy (a + b) x z
rose_both a b x y z f g = let h = f.kept in let i = g.kept in let j = f.rose in let k = g.rose in record { kept = omega arith; rose = omega arith }

pub rose_more : (own : List Row) (p : List ℕ) (f : Fate) (x y z : ℕ) → RoseBy (count_by (λ row. is_failed row.1) own) x y →
    RoseBy (cond (is_failed f) 1 0) y z → RoseBy (count_by (λ row. is_failed row.1) (own ++ (p, f) ∷ [])) x z
rose_more own p f x y z h g = subst (λ n. RoseBy n x z) (sym (sum_more (λ (row : Row). cond (is_failed row.1) 1 0) own (p, f)))
    (rose_both (count_by (λ (row : Row). is_failed row.1) own) (cond (is_failed f) 1 0) x y z h g)

pub rose_none : (own : List Row) (x : ℕ) → own ≡ [] → RoseBy (count_by (λ row. is_failed row.1) own) x x
rose_none own x empty =
    subst (λ rows. RoseBy (count_by (λ (row : Row). is_failed row.1) rows) x x) (sym empty) (record { kept = omega arith; rose = omega arith })

pub rose_any : (a x y : ℕ) → RoseBy a x y → RoseBy 0 x y
rose_any a x y h = let k = h.kept in record { kept = k; rose = omega arith }

pub rose_two : (x y z : ℕ) → RoseBy 0 x y → RoseBy 0 y z → RoseBy 0 x z
rose_two x y z f g = rose_both 0 0 x y z f g

-- an entry at its place, and what is known there

pub place_of : (es : List Entry) (k : ℕ) (e : Entry) → k < length es → e ≡ get_or es k e → slice_get es k ≡ Some e
place_of es k e l is = slice_get-get_or es k e l ∙ ap Some (sym is)

pub make_at : (pairs : List Pair) (failed : List (List ℕ)) (es : List Entry) (k : ℕ) (e : Entry) → slice_get es k ≡ Some e → (t : Option Files) →
    IfSome t (λ files. AllByRecursion (λ e. CanMake pairs failed e files) es) → IfSome t (CanMake pairs failed e)
make_at pairs failed es k e at None h = tt
make_at pairs failed es k e at (Some files) h = at_of (λ e. CanMake pairs failed e files) es h k e at
