-- The tally of the entries that were passed, and what is still to come.
use Rattle.tree_copy.proofs.Prelude.{◌≡◌, ℕ, ◌+◌, ◌-◌, ◌*◌, ◌<◌, ◌≤◌, Bool, true, false, cond, List, [], ◌∷◌, ◌++◌, length, map, drop, Some, refl, ap, ◌∙◌, sym}
use Rattle.tree_copy.proofs.Prelude.{subst, arith, is_some, slice_get, append_assoc, append-nil, length-append, length-drop, drop_of_length-le, false≢true}
use Rattle.tree_copy.proofs.Prelude.{nat_tests, length-map, map-append, sum_by-cons, count_by, zip, Entry, paths, Fate, is_done, treated, bytes_of, fates_of}
use Rattle.tree_copy.proofs.Prelude.{fitting, gain, rest_of, settled, split_drop, some_at}
use Rattle.std.specs.Prelude.{nat_lt}
use Rattle.level_work.specs.declared.items.Fate.TheVariants as fate

-- ---- the paths and the fates of rows

abbrev Row : Type 0
Row = List ℕ × Fate

abbrev pub firsts : List Row → List (List ℕ)
firsts rows = map (λ row. row.0) rows

abbrev pub seconds : List Row → List Fate
seconds rows = map (λ row. row.1) rows

pub both_parts : (rows : List Row) → rows ≡ zip (firsts rows) (seconds rows)
both_parts [] = refl
both_parts (row ∷ rows) = ap (λ rest. row ∷ rest) (both_parts rows)

-- with one row more
pub row_more : (rows now : List Row) (p : List ℕ) (f : Fate) → now ≡ rows ++ (p, f) ∷ [] →
    (firsts now ≡ firsts rows ++ p ∷ []) × (seconds now ≡ seconds rows ++ f ∷ [])
row_more rows now p f is = (ap firsts is ∙ map-append (λ (r : Row). r.0) rows ((p, f) ∷ []), ap seconds is ∙ map-append (λ (r : Row). r.1) rows ((p, f) ∷ []))

-- ---- the tally

-- what was told of the entries `all`, whose rest is `rest`, with as much of the marks and fates as is left
pub record Tallied (all : List Entry) (fits : List Bool) (outs : List Fate) (rest : List Entry) (marks : List Bool) (left : List Fate)
    (told : List (List ℕ)) (fates : List Fate) (copied bytes : ℕ) : Type 0 where
  pub paths_are : told ++ paths rest ≡ paths all
  pub fates_are : fates ++ fates_of marks rest left ≡ fates_of fits all outs
  pub marks_len : length marks ≡ length rest
  pub left_len : length left ≡ count_by (λ m. m) marks
  pub copied_is : copied ≡ count_by is_done fates
  pub bytes_are : bytes + bytes_of rest (fates_of marks rest left) ≡ bytes_of all (fates_of fits all outs)
  pub few : copied ≤ length fates
  pub small : bytes ≤ length fates * 18446744073709551615

count_more : (p : Fate → Bool) (xs : List Fate) (x : Fate) → count_by p (xs ++ x ∷ []) ≡ cond (p x) (count_by p xs + 1) (count_by p xs)
count_more p [] x = elim (p x) as (λ b. count_by p ([] ++ x ∷ []) ≡ cond (p x) 1 0 → count_by p (x ∷ []) ≡ cond b 1 0 →
    count_by p ([] ++ x ∷ []) ≡ cond b (count_by p [] + 1) (count_by p [])) [
      | true ↦ λ e f. f
      | false ↦ λ e f. f
    ] (one x) (one x)
  where
    one : (x : Fate) → count_by p (x ∷ []) ≡ cond (p x) 1 0
    one x = omega (arith, sum_by-cons (λ (y : Fate). cond (p y) 1 0) x [])
count_more p (y ∷ xs) x =
    let h = count_more p xs x in
    let a = sum_by-cons (λ (z : Fate). cond (p z) 1 0) y (xs ++ x ∷ []) in
    let b = sum_by-cons (λ (z : Fate). cond (p z) 1 0) y xs in
    elim (p x) as (λ c. count_by p (xs ++ x ∷ []) ≡ cond c (count_by p xs + 1) (count_by p xs) →
    count_by p (y ∷ (xs ++ x ∷ [])) ≡ cond c (count_by p (y ∷ xs) + 1) (count_by p (y ∷ xs))) [
      | true ↦ λ h. omega (arith, h, a, b)
      | false ↦ λ h. omega (arith, h, a, b)
    ] h

-- one entry more, with what is new of it
pub record IsNoted (e : Entry) (f : Fate) (told : List (List ℕ)) (fates : List Fate) (copied bytes : ℕ) (told' : List (List ℕ)) (fates' : List Fate)
    (copied' bytes' : ℕ) : Type 0 where
  pub told_is : told' ≡ told ++ e.path ∷ []
  pub fates_is : fates' ≡ fates ++ f ∷ []
  pub copied_is : copied' ≡ cond (is_done f) (copied + 1) copied
  pub bytes_is : bytes' ≡ bytes + gain e f
  pub gain_small : gain e f ≤ 18446744073709551615

pub few_more : (b : Bool) (c c' n n' : ℕ) → c' ≡ cond b (c + 1) c → n' ≡ n + 1 → c ≤ n → c' ≤ n'
few_more true c c' n n' e d l = omega (arith, e, d, l)
few_more false c c' n n' e d l = omega (arith, e, d, l)

module _ (all : List Entry) (fits : List Bool) (outs : List Fate) where
  -- one more entry is noted, with the fate that its mark and the fates of the items say
  passed_by : (mark : Bool) (e : Entry) (f : Fate) (rest : List Entry) (marks : List Bool) (left left' : List Fate) (told told' : List (List ℕ))
      (fates fates' : List Fate) (copied copied' bytes bytes' : ℕ) →
      Tallied all fits outs (e ∷ rest) (mark ∷ marks) left told fates copied bytes →
      fates_of (mark ∷ marks) (e ∷ rest) left ≡ f ∷ fates_of marks rest left' → length left ≡ cond mark 1 0 + length left' →
      IsNoted e f told fates copied bytes told' fates' copied' bytes' → Tallied all fits outs rest marks left' told' fates' copied' bytes'
  passed_by mark e f rest marks left left' told told' fates fates' copied copied' bytes bytes' t is one n =
      let len : length fates' ≡ length fates + 1 = ap length n.fates_is ∙ length-append fates (f ∷ []) in
      record {
        paths_are = ap (λ r. r ++ paths rest) n.told_is ∙ append_assoc told (e.path ∷ []) (paths rest) ∙ t.paths_are;
        fates_are = ap (λ r. r ++ fates_of marks rest left') n.fates_is ∙ append_assoc fates (f ∷ []) (fates_of marks rest left')
            ∙ ap (λ r. fates ++ r) (sym is) ∙ t.fates_are;
        marks_len = let l = t.marks_len in omega (arith, l);
        left_len = let l = t.left_len in omega (arith, l, one, sum_by-cons (λ (m : Bool). cond m 1 0) mark marks);
        copied_is = n.copied_is ∙ ap (λ c. cond (is_done f) (c + 1) c) t.copied_is ∙ sym (count_more is_done fates f) ∙ ap (count_by is_done) (sym n.fates_is);
        bytes_are =
            let b : bytes + (gain e f + bytes_of rest (fates_of marks rest left')) ≡ bytes_of all (fates_of fits all outs) =
            ap (λ r. bytes + bytes_of (e ∷ rest) r) (sym is) ∙ t.bytes_are in
            omega (arith, b, n.bytes_is);
        few = few_more (is_done f) copied copied' (length fates) (length fates') n.copied_is len t.few;
        small = omega (arith, n.bytes_is, n.gain_small, len, t.small);
      }

-- lists from a place on

pub next_of : (list same : List Entry) (k k' : ℕ) (e : Entry) → same ≡ list → slice_get same (k' - 1) ≡ Some e → k' ≡ k + 1 → drop k list ≡ e ∷ drop k' list
next_of list same k k' e is at one =
    let place : k' - 1 ≡ k = omega (arith, one) in
    split_drop list k e (ap (λ l. slice_get l k) (sym is) ∙ ap (slice_get same) (sym place) ∙ at) ∙ ap (λ n. e ∷ drop n list) (sym one)

pub moved_on : (s s' : List Entry × ℕ) (b : Bool) → s' ≡ (s.0, cond b (s.1 + 1) s.1) → b ≡ true → (s'.0 ≡ s.0) × (s'.1 ≡ s.1 + 1)
moved_on s s' b is more = (ap (λ (t : List Entry × ℕ). t.0) is, ap (λ (t : List Entry × ℕ). t.1) is ∙ ap (λ b. cond b (s.1 + 1) s.1) more)

treated_next : (rest now : List Entry) (e : Entry) (b : Bool) → now ≡ e ∷ rest → is_some e.stat ≡ b → treated now ≡ cond b (e ∷ treated rest) (treated rest)
treated_next rest now e b is has = ap treated is ∙ ap (λ b. cond b (e ∷ treated rest) (treated rest)) has

-- where a list goes on

goes_on : {X : Type 0} (xs : List X) (k n : ℕ) → length (drop k xs) ≡ n → 0 < n → k < length xs
goes_on xs k n e l = omega (arith, e, l, length-drop k xs)

-- what the fate of an entry is known by
pub record IsFate (e : Entry) (outs : List Fate) (place : ℕ) (fit : Bool) (f : Fate) : Type 0 where
  pub fits : fit ≡ true → (g : Fate) → slice_get outs place ≡ Some g → f ≡ settled e g
  pub long : fit ≡ false → f ≡ fate.TooLong

module _ (all : List Entry) (fits : List Bool) (outs : List Fate) where
  pub skipped : (rest now : List Entry) (e : Entry) (marks : List Bool) (left : List Fate) (told : List (List ℕ)) (fates : List Fate) (copied bytes : ℕ) →
      now ≡ e ∷ rest → is_some e.stat ≡ false →
      Tallied all fits outs (treated now) marks left told fates copied bytes → Tallied all fits outs (treated rest) marks left told fates copied bytes
  skipped rest now e marks left told fates copied bytes is none t = subst (λ es. Tallied all fits outs es marks left told fates copied bytes)
      (treated_next rest now e false is none) t

  pub has_mark : (rest now : List Entry) (e : Entry) (at place : ℕ) (told : List (List ℕ)) (fates : List Fate) (copied bytes : ℕ) → now ≡ e ∷ rest →
      is_some e.stat ≡ true →
      Tallied all fits outs (treated now) (drop at fits) (drop place outs) told fates copied bytes → at < length fits
  has_mark rest now e at place told fates copied bytes is some t =
      goes_on fits at (length (treated now)) t.marks_len (omega (arith, ap length (treated_next rest now e true is some)))

  pub passed : (rest now : List Entry) (e : Entry) (at at' place place' : ℕ) (fit : Bool) (f : Fate) (told told' : List (List ℕ)) (fates fates' : List Fate)
      (copied copied' bytes bytes' : ℕ) →
      now ≡ e ∷ rest → is_some e.stat ≡ true → slice_get fits at ≡ Some fit → IsFate e outs place fit f → place' ≡ cond fit (place + 1) place → at' ≡ at + 1 →
      IsNoted e f told fates copied bytes told' fates' copied' bytes' →
      Tallied all fits outs (treated now) (drop at fits) (drop place outs) told fates copied bytes → Tallied all fits outs (treated rest) (drop at' fits)
      (drop place' outs) told' fates' copied' bytes'
  passed rest now e at at' place place' true f told told' fates fates' copied copied' bytes bytes' is some has known next one n t =
      let marks = split_drop fits at true has ∙ ap (λ m. true ∷ drop m fits) (sym one) in
      let u : Tallied all fits outs (e ∷ treated rest) (true ∷ drop at' fits) (drop place outs) told fates copied bytes =
      subst (λ es. Tallied all fits outs es (true ∷ drop at' fits) (drop place outs) told fates copied bytes) (treated_next rest now e true is some)
      (subst (λ ms. Tallied all fits outs (treated now) ms (drop place outs) told fates copied bytes) marks t)
      in
      let g = some_at outs place (goes_on outs place _ u.left_len (omega (arith, sum_by-cons (λ (m : Bool). cond m 1 0) true (drop at' fits)))) in
      passed_by all fits outs true e f (treated rest) (drop at' fits) (g.0 ∷ drop place' outs) (drop place' outs) told told' fates fates' copied copied'
      bytes bytes'
      (subst (λ os. Tallied all fits outs (e ∷ treated rest) (true ∷ drop at' fits) os told fates copied bytes) (split_drop outs place g.0 g.1
      ∙ ap (λ m. g.0 ∷ drop m outs) (sym next)) u)
      (ap (λ h. h ∷ fates_of (drop at' fits) (treated rest) (drop place' outs)) (sym (known.fits refl g.0 g.1))) (omega arith) n
  passed rest now e at at' place place' false f told told' fates fates' copied copied' bytes bytes' is some has known next one n t =
      let marks = split_drop fits at false has ∙ ap (λ m. false ∷ drop m fits) (sym one) in
      let u : Tallied all fits outs (e ∷ treated rest) (false ∷ drop at' fits) (drop place' outs) told fates copied bytes =
      subst (λ os. Tallied all fits outs (e ∷ treated rest) (false ∷ drop at' fits) os told fates copied bytes) (ap (λ m. drop m outs) (sym next))
      (subst (λ es. Tallied all fits outs es (false ∷ drop at' fits) (drop place outs) told fates copied bytes) (treated_next rest now e true is some)
      (subst (λ ms. Tallied all fits outs (treated now) ms (drop place outs) told fates copied bytes) marks t))
      in
      passed_by all fits outs false e f (treated rest) (drop at' fits) (drop place' outs) (drop place' outs) told told' fates fates' copied copied'
      bytes bytes' u (ap (λ h. h ∷ fates_of (drop at' fits) (treated rest) (drop place' outs)) (sym (known.long refl))) (omega arith) n

-- as many fates as entries
pub fates_len : (marks : List Bool) (es : List Entry) (left : List Fate) → length marks ≡ length es → length (fates_of marks es left) ≡ length es
fates_len [] es left l = l
fates_len (m ∷ marks) [] left l = absurd (omega (arith, l))
fates_len (true ∷ marks) (e ∷ es) left l = let h = fates_len marks es (rest_of left) (omega (arith, l)) in omega (arith, h)
fates_len (false ∷ marks) (e ∷ es) left l = let h = fates_len marks es left (omega (arith, l)) in omega (arith, h)

-- at the end all is told
pub record Ended (all : List Entry) (fits : List Bool) (outs : List Fate) (told : List (List ℕ)) (fates : List Fate) (copied bytes : ℕ) : Type 0 where
  pub paths_are : told ≡ paths all
  pub fates_are : fates ≡ fates_of fits all outs
  pub copied_is : copied ≡ count_by is_done (fates_of fits all outs)
  pub bytes_are : bytes ≡ bytes_of all (fates_of fits all outs)
  pub len : length fates ≡ length told

pub ended : (all : List Entry) (fits : List Bool) (outs : List Fate) (rest : List Entry) (marks : List Bool) (left : List Fate) (told : List (List ℕ))
    (fates : List Fate) (copied bytes : ℕ) →
    length fits ≡ length all → rest ≡ [] → Tallied all fits outs rest marks left told fates copied bytes → Ended all fits outs told fates copied bytes
ended all fits outs rest marks left told fates copied bytes len none t =
    by marks (t.marks_len ∙ ap length none) (subst (λ es. Tallied all fits outs es marks left told fates copied bytes) none t)
  where
    by : (marks : List Bool) → length marks ≡ 0 → Tallied all fits outs [] marks left told fates copied bytes → Ended all fits outs told fates copied bytes
    by (m ∷ marks) l t = absurd (omega (arith, l))
    by [] l t =
        let fates_are : fates ≡ fates_of fits all outs = sym (append-nil fates) ∙ t.fates_are in
        let paths_are : told ≡ paths all = sym (append-nil told) ∙ t.paths_are in
        record {
          paths_are = paths_are;
          fates_are = fates_are;
          copied_is = t.copied_is ∙ ap (count_by is_done) fates_are;
          bytes_are = let b = t.bytes_are in omega (arith, b);
          len = ap length fates_are ∙ fates_len fits all outs len ∙ sym (ap length paths_are ∙ length-map all (λ (e : Entry). e.path));
        }

pub off_end : (list : List Entry) (s : List Entry × ℕ) (b : Bool) → s.0 ≡ list → b ≡ nat_lt s.1 (length s.0) → b ≡ false → drop s.1 list ≡ []
off_end list s b is answer off = drop_of_length-le list (far s.1 (length list) (sym (answer ∙ ap (λ l. nat_lt s.1 (length l)) is) ∙ off))
  where
    far : (k n : ℕ) → nat_lt k n ≡ false → n ≤ k
    far k n e = grind (arith, nat_tests)

-- the paths that are left, one entry on

now_fits : (fits : List Bool) (at at' : ℕ) (fit : Bool) (now rest : List Entry) (e : Entry) (before : List (List ℕ)) → now ≡ e ∷ rest → is_some e.stat ≡ true →
    slice_get fits at ≡ Some fit → at' ≡ at + 1 → before ≡ fitting (drop at fits) (paths (treated now)) →
    before ≡ fitting (fit ∷ drop at' fits) (e.path ∷ paths (treated rest))
now_fits fits at at' fit now rest e before is some has one left =
    let marks : drop at fits ≡ fit ∷ drop at' fits = split_drop fits at fit has ∙ ap (λ n. fit ∷ drop n fits) (sym one) in
    left ∙ (λ i. fitting (marks i) (paths (treated_next rest now e true is some i)))

pub path_step : (fits : List Bool) (at at' : ℕ) (fit : Bool) (now rest : List Entry) (e : Entry) (path : List ℕ) (before after : List (List ℕ)) →
    now ≡ e ∷ rest →
    is_some e.stat ≡ true → slice_get fits at ≡ Some fit → at' ≡ at + 1 → before ≡ fitting (drop at fits) (paths (treated now)) →
    (fit ≡ true → before ≡ path ∷ after) →
    (fit ≡ false → path ≡ e.path) → (fit ≡ false → after ≡ before) → (path ≡ e.path) × (after ≡ fitting (drop at' fits) (paths (treated rest)))
path_step fits at at' true now rest e path before after is some has one left taken copied kept =
    let both : path ∷ after ≡ e.path ∷ fitting (drop at' fits) (paths (treated rest)) = sym (taken refl)
    ∙ now_fits fits at at' true now rest e before is some has one left in
    (cc, cc)
path_step fits at at' false now rest e path before after is some has one left taken copied kept =
    (copied refl, kept refl ∙ now_fits fits at at' false now rest e before is some has one left)

pub some_left : (fits : List Bool) (at : ℕ) (fit : Bool) (now rest : List Entry) (e : Entry) (before : List (List ℕ)) → now ≡ e ∷ rest → is_some e.stat ≡ true →
    slice_get fits at ≡ Some fit → before ≡ fitting (drop at fits) (paths (treated now)) → fit ≡ true → 0 < length before
some_left fits at true now rest e before is some has left on = omega (arith, ap length (now_fits fits at (at + 1) true now rest e before is some has refl left))
some_left fits at false now rest e before is some has left on = absurd (false≢true on)

pub left_skipped : (marks : List Bool) (now rest : List Entry) (e : Entry) (before : List (List ℕ)) → now ≡ e ∷ rest → is_some e.stat ≡ false →
    before ≡ fitting marks (paths (treated now)) → before ≡ fitting marks (paths (treated rest))
left_skipped marks now rest e before is none left = left ∙ ap (λ es. fitting marks (paths es)) (treated_next rest now e false is none)

-- where the next entry has an item, a fate is left
pub fate_left : (all : List Entry) (fits : List Bool) (outs : List Fate) (rest now : List Entry) (e : Entry) (at place : ℕ) (told : List (List ℕ))
    (fates : List Fate) (copied bytes : ℕ) → now ≡ e ∷ rest → slice_get fits at ≡ Some true →
    Tallied all fits outs (treated now) (drop at fits) (drop place outs) told fates copied bytes → place < length outs
fate_left all fits outs rest now e at place told fates copied bytes is has t = goes_on outs place _ t.left_len
    (omega (arith, ap (count_by (λ m. m)) (split_drop fits at true has), sum_by-cons (λ (m : Bool). cond m 1 0) true (drop (at + 1) fits)))

-- at the end of the list all is told
pub at_end : (list : List Entry) (fits : List Bool) (outs : List Fate) (s : List Entry × ℕ) (more : Bool) (marks : List Bool) (left : List Fate)
    (told : List (List ℕ)) (fates : List Fate) (copied bytes : ℕ) →
    length fits ≡ length (treated list) → s.0 ≡ list → more ≡ nat_lt s.1 (length s.0) → more ≡ false →
    Tallied (treated list) fits outs (treated (drop s.1 list)) marks left told fates copied bytes → Ended (treated list) fits outs told fates copied bytes
at_end list fits outs s more marks left told fates copied bytes len is answer off t =
    ended (treated list) fits outs _ marks left told fates copied bytes len (ap treated (off_end list s more is answer off)) t
