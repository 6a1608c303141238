-- The notes of entries in path order, a sort without doubles, and the laws of the order.
use Rattle.tool_text.proofs.Prelude.{◌≡◌, ℕ, ◌<◌, Bool, true, false, cond, List, [], ◌∷◌, ◌++◌, map, length, refl, ap, ◌∙◌, arith, ◌==◌, tied_itself}
use Rattle.tool_text.proofs.Prelude.{eq_by_cmp_equiv, AllByRecursion, dedup, IsPermutation, IsSorted, ordering_then, eq_by_cmp, Less, Contains-dedup}
use Rattle.tool_text.proofs.Prelude.{Contains-from_dedup, IsStrictlySortedBy-dedup, Contains-permutation, IsPermutation-sym, path_cmp, path_cmp_total, Entry}
use Rattle.tool_text.proofs.Prelude.{Mark, Why, Note, mark_whys, whys_of, entry_notes, notes_of, why_cmp, note_cmp, AreInOrder, NotesStandInOrder}
use Rattle.tool_text.proofs.Prelude.{OrderIsUnique, NothingToOrder, all_join, all_weaker}
use Rattle.std.specs.List.Sorted.{IsStrictlySortedBy}
use Rattle.entry_pages.specs.declared.entries.Mark.TheVariants as mark
use Rattle.tool_text.specs.declared.noting.Why.TheVariants as why
use Rattle.tool_text.proofs.NotesCompared.{note_total, only_same}
use Rattle.tool_text.proofs.Ascending.{first_in, none_in, fixed_by_elements}

-- after a sort and without doubles
pub sorted_once : (given sorted notes : List Note) →
    IsPermutation given sorted → IsSorted note_cmp sorted → notes ≡ dedup (eq_by_cmp note_cmp) sorted → AreInOrder given notes
sorted_once given sorted notes moved up is = rw is record {
  ascend = IsStrictlySortedBy-dedup note_total (λ x y. refl) sorted up;
  same = λ n. (
    λ h. Contains-dedup (eq_by_cmp_equiv note_total) only_same sorted n (Contains-permutation given sorted n moved h),
    λ h. Contains-permutation sorted given n (IsPermutation-sym given sorted moved) (Contains-from_dedup (eq_by_cmp note_cmp) sorted n h),
  );
}

-- the reasons that tell a number, each where it is not left out
abbrev told : (unnamed_none far_none : Bool) → ℕ → ℕ → List Why → List Why
told unnamed_none far_none k l front = front ++ cond unnamed_none [] (why.Unnamed k ∷ []) ++ cond far_none [] (why.TooLong l ∷ [])

told_alone : (a b : Bool) (k l : ℕ) → IsStrictlySortedBy why_cmp (told a b k l [])
unfolding IsStrictlySortedBy
told_alone true true k l = tt
told_alone true false k l = (tt, tt)
told_alone false true k l = (tt, tt)
told_alone false false k l = ((refl, tt), (tt, tt))

told_behind : (w : Why) (a b : Bool) (k l : ℕ) →
    why_cmp w (why.Unnamed k) ≡ Less → why_cmp w (why.TooLong l) ≡ Less → IsStrictlySortedBy why_cmp (told a b k l (w ∷ []))
unfolding IsStrictlySortedBy
told_behind w true true k l u f = (tt, tt)
told_behind w true false k l u f = ((f, tt), (tt, tt))
told_behind w false true k l u f = ((u, tt), (tt, tt))
told_behind w false false k l u f = ((u, (f, tt)), ((refl, tt), (tt, tt)))

whys_by_mark : (m : Mark) (a b : Bool) (k l : ℕ) → IsStrictlySortedBy why_cmp (told a b k l (mark_whys m))
whys_by_mark mark.Fine a b k l = told_alone a b k l
whys_by_mark mark.StatFailed a b k l = told_behind why.FailedStat a b k l refl refl
whys_by_mark mark.ListFailed a b k l = told_behind why.FailedList a b k l refl refl
whys_by_mark mark.Gone a b k l = told_behind why.Gone a b k l refl refl
whys_by_mark mark.Changed a b k l = told_behind why.Changed a b k l refl refl

whys_ascend : (e : Entry) → IsStrictlySortedBy why_cmp (whys_of e)
whys_ascend e = whys_by_mark e.mark (e.unnamed == 0) (e.far == 0) e.unnamed e.far

abbrev note_at : List ℕ → Why → Note
note_at path w = record { path = path; why = w; dest = false }

-- of one path the reason decides, and else the path
same_path : (path : List ℕ) (v w : Why) → why_cmp v w ≡ Less → note_cmp (note_at path v) (note_at path w) ≡ Less
same_path path v w h = ap (λ o. ordering_then o (why_cmp v w)) (tied_itself path_cmp_total path) ∙ h

other_path : (m n : Note) → path_cmp m.path n.path ≡ Less → note_cmp m n ≡ Less
other_path m n h = rw h refl

abbrev AllBehind : List ℕ → List Note → Type 0
AllBehind path notes = AllByRecursion (λ n. path_cmp path n.path ≡ Less) notes

below_same : (path : List ℕ) (w : Why) (ws : List Why) →
    AllByRecursion (λ v. why_cmp w v ≡ Less) ws → AllByRecursion (λ n. note_cmp (note_at path w) n ≡ Less) (map (note_at path) ws)
below_same path w [] h = tt
below_same path w (v ∷ ws) h = (same_path path w v h.0, below_same path w ws h.1)

-- the notes of one path, with those of later paths behind them
joined_ascend : (path : List ℕ) (ws : List Why) (notes : List Note) →
    IsStrictlySortedBy why_cmp ws → AllBehind path notes → IsStrictlySortedBy note_cmp notes →
    IsStrictlySortedBy note_cmp (map (note_at path) ws ++ notes)
unfolding IsStrictlySortedBy
joined_ascend path [] notes s behind t = t
joined_ascend path (w ∷ ws) notes s behind t = (
  all_join (λ n. note_cmp (note_at path w) n ≡ Less) (map (note_at path) ws) notes
      (below_same path w ws s.0)
      (all_weaker _ _ (λ n h. other_path (note_at path w) n h) notes behind),
  joined_ascend path ws notes s.1 behind t,
)

notes_of_later : (path later : List ℕ) → path_cmp path later ≡ Less → (ws : List Why) → AllBehind path (map (note_at later) ws)
notes_of_later path later h [] = tt
notes_of_later path later h (w ∷ ws) = (h, notes_of_later path later h ws)

notes_behind : (path : List ℕ) (entries : List Entry) →
    AllByRecursion (λ p. path_cmp path p ≡ Less) (map (λ e. e.path) entries) → AllBehind path (notes_of entries)
notes_behind path [] h = tt
notes_behind path (e ∷ entries) h =
    all_join (λ n. path_cmp path n.path ≡ Less) (entry_notes e) (notes_of entries)
    (notes_of_later path e.path h.0 (whys_of e))
    (notes_behind path entries h.1)

notes_ascend : (entries : List Entry) → IsStrictlySortedBy path_cmp (map (λ e. e.path) entries) → IsStrictlySortedBy note_cmp (notes_of entries)
unfolding IsStrictlySortedBy
notes_ascend [] s = tt
notes_ascend (e ∷ entries) s = joined_ascend e.path (whys_of e) (notes_of entries) (whys_ascend e) (notes_behind e.path entries s.0) (notes_ascend entries s.1)

pub notes_stand_in_order : NotesStandInOrder
notes_stand_in_order entries s = record { ascend = notes_ascend entries s; same = λ n. (λ h. h, λ h. h) }

pub order_is_unique : OrderIsUnique
order_is_unique given a b s t = fixed_by_elements note_total a b s.ascend t.ascend (λ n h. (t.same n).0 ((s.same n).1 h)) (λ n h. (s.same n).0 ((t.same n).1 h))

none_from_none : (notes : List Note) → AreInOrder [] notes → notes ≡ []
none_from_none [] s = refl
none_from_none (n ∷ notes) s = absurd (none_in n ((s.same n).1 (first_in n notes)))

some_from_some : (given notes : List Note) → 0 < length given → AreInOrder given notes → 0 < length notes
some_from_some [] notes h s = absurd (omega arith)
some_from_some (n ∷ given) notes h s = let found = (s.same n).0 (first_in n given) in omega (arith, found.1)

pub nothing_to_order : NothingToOrder
nothing_to_order = record { none = none_from_none; some = some_from_some }
