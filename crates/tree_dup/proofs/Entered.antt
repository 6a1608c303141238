-- One more entry of a list: it is a candidate or it is none.
use Rattle.tree_dup.proofs.Prelude.{◌≡◌, ℕ, ◌+◌, ◌<◌, ◌≤◌, Bool, true, false, not, ◌&&◌, ◌==◌, List, [], ◌∷◌, ◌++◌, length, map, take, Option, Some, None}
use Rattle.tree_dup.proofs.Prelude.{IfSome, refl, sym, ap, subst, ◌∙◌, arith, eqb, count_by, nat_eq, if◌then◌else◌, nat_lt, slice_get, ◌-◌, min, get, first_so}
use Rattle.tree_dup.proofs.Prelude.{pointwise, option_map, false≢true, eq-eqb, ne_eqb, ltb-false, and_from, map-append, take_all, All-nil, All-push}
use Rattle.tree_dup.proofs.Prelude.{list_any_at, sum_by_more, slice_get_within, get_or_from_slice_get, Files, stat_of, Stat, Entry, is_of, size_by, StatsTold}
use Rattle.tree_dup.proofs.Prelude.{has, is_candidate, is_read, is_sized, File, times, IsFileOf, file_of, IsThere, paths_of, still, AreListed, IsListed}
use Rattle.tree_dup.proofs.Prelude.{candidates_in, HashMap, FoldHasher, BuildHasherDefault, candidate_size, file_size, AreCounts, at_itself}
use Rattle.outside.specs.declared.trees.Kind.TheVariants as kind
use Rattle.tree_dup.proofs.Piled.{one_if, times-cons, times-append}
use Rattle.tree_dup.proofs.Parted.{if_told}
use Rattle.tree_dup.proofs.Sifted.{path_of}

-- ---- a file of its size

entry_there : (files : Files) (path : List ℕ) (stat : Option Stat) → is_of kind.File stat ≡ true →
    IfSome stat (λ s. option_map stat_of (get files path) ≡ Some s) → IsFileOf (get files path) (size_by stat)
entry_there files path None e h = absurd (false≢true e)
entry_there files path (Some s) e h = file_of (get files path) s h e

-- ---- a candidate

candidate_if : (b : Bool) (n size : ℕ) → (if b then Some n else None) ≡ Some size → (b ≡ true) × (n ≡ size)
candidate_if true n size e = (refl, cc)
candidate_if false n size e = absurd cc

none_if : (b : Bool) (n : ℕ) → (if b then Some n else None) ≡ None → b ≡ false
none_if true n e = absurd cc
none_if false n e = refl

module _ (list : List Entry) (at : ℕ) (e : Entry) (there : slice_get list at ≡ Some e) where
  here : (test : Entry → Bool) → test e ≡ true → has test list e.path ≡ true
  here test passes =
      list_any_at (λ (x : Entry). pointwise nat_eq e.path x.path && test x) list at e (slice_get_within list at e there)
      (subst (λ (x : Entry). (pointwise nat_eq e.path x.path && test x) ≡ true) (sym (get_or_from_slice_get list at e e there))
      (and_from (pointwise nat_eq e.path e.path) (test e) (at_itself e.path) passes))

  more : (p : List ℕ) → candidates_in list (take (at + 1) list) p ≡ candidates_in list (take at list) p + one_if (pointwise eqb p e.path && is_candidate list e)
  more p =
      sum_by_more (λ (x : Entry). one_if (pointwise eqb p x.path && is_candidate list x)) list at e (slice_get_within list at e there)
      ∙ ap (λ (x : Entry). candidates_in list (take at list) p + one_if (pointwise eqb p x.path && is_candidate list x))
      (get_or_from_slice_get list at e e there)

  if_true : (a b : Bool) → b ≡ true → one_if (a && b) ≡ one_if a
  if_true true true h = refl
  if_true true false h = absurd (false≢true h)
  if_true false b h = refl

  if_false : (a b : Bool) → b ≡ false → one_if (a && b) ≡ 0
  if_false true true h = absurd (false≢true (sym h))
  if_false true false h = refl
  if_false false b h = refl

  -- no candidate
  pub passed_by : (tree : Option Files) (files : List File) → candidate_size list e ≡ None → AreListed tree list at files → AreListed tree list (at + 1) files
  passed_by tree files none h = record {
    listed = h.listed;
    all = λ p. omega (arith, h.all p, more p, if_false (pointwise eqb p e.path) (is_candidate list e) (none_if (is_candidate list e) (size_by e.stat) none));
  }

  module _ (tree : Option Files) (size : ℕ) (is : candidate_size list e ≡ Some size) (told : IfSome tree (λ files. StatsTold files list)) where
    is_one : (is_candidate list e ≡ true) × (size_by e.stat ≡ size)
    is_one = candidate_if (is_candidate list e) (size_by e.stat) size is

    is_file : is_of kind.File e.stat ≡ true
    is_file = first_so (is_of kind.File e.stat) (nat_lt 1 (count_by (is_sized (size_by e.stat)) list)) is_one.0

    there_of : IfSome tree (λ files. IsFileOf (get files e.path) size)
    there_of = if_told tree (λ files. StatsTold files list) (λ files. IsFileOf (get files e.path) size)
        (λ files stats.
        subst (IsFileOf (get files e.path)) is_one.1 (entry_there files e.path e.stat is_file
        (subst (λ (x : Entry). IfSome x.stat (λ s. option_map stat_of (get files x.path) ≡ Some s)) (get_or_from_slice_get list at e e there)
        (stats at e (slice_get_within list at e there))))) told

    not_zero : (n : ℕ) → 0 < n → not (n == 0) ≡ true
    not_zero n l = ap not (ne_eqb n 0 (λ e. omega (arith, e)))

    read : 0 < size → has (is_read list) list e.path ≡ true
    read l = here (is_read list) (and_from (is_candidate list e) (not (size_by e.stat == 0)) is_one.0 (not_zero (size_by e.stat) (omega (arith, is_one.1))))

    counts : (p : List ℕ) → candidates_in list (take (at + 1) list) p ≡ candidates_in list (take at list) p + one_if (pointwise eqb p e.path)
    counts p = more p ∙ ap (λ n. candidates_in list (take at list) p + n) (if_true (pointwise eqb p e.path) (is_candidate list e) is_one.0)

    pub entered : (files files' : List File) (f : File) → f.path ≡ e.path → f.size ≡ size → files' ≡ files ++ f ∷ [] →
        AreListed tree list at files → AreListed tree list (at + 1) files'
    entered files files' f at_path of_size added h =
        let listed : IsListed tree list f = record {
          sized = subst (λ n. has (is_sized n) list f.path ≡ true) (sym of_size)
              (subst (λ p. has (is_sized size) list p ≡ true) (sym at_path)
              (here (is_sized size) (and_from (is_of kind.File e.stat) (size_by e.stat == size) is_file (eq-eqb (size_by e.stat) size is_one.1))));
          read = λ l. subst (λ p. has (is_read list) list p ≡ true) (sym at_path) (read (omega (arith, l, of_size)));
          there = if_told tree (λ t. IsFileOf (get t e.path) size) (λ t. IsThere t f)
              (λ t k. subst (λ n. IsFileOf (get t f.path) n) (sym of_size) (subst (λ p. IsFileOf (get t p) size) (sym at_path) k)) there_of;
        } in
        subst (AreListed tree list (at + 1)) (sym added) (record {
          listed = All-push (IsListed tree list) files f h.listed listed;
          all = λ p. omega (
            arith,
            h.all p,
            counts p,
            ap (times p) (map-append path_of files (f ∷ [])),
            times-append p (paths_of files) (f.path ∷ []),
            times-cons p f.path [],
            ap (λ q. one_if (pointwise eqb p q)) at_path,
          );
        })

-- no entry was passed yet
pub first_listed : (tree : Option Files) (list : List Entry) (at : ℕ) (files : List File) → files ≡ [] → at ≡ 0 → AreListed tree list at files
first_listed tree list at files none begun = subst (AreListed tree list at) (sym none) (record {
  listed = All-nil (IsListed tree list);
  all = λ p. omega (arith, ap (λ n. candidates_in list (take n list) p) begun);
})

-- ---- the entry that a cursor passed

pub entry_at : (list : List Entry) (cursor cursor' : List Entry × ℕ) (e : Entry) (more : Bool) → cursor.0 ≡ list → more ≡ true →
    cursor' ≡ (cursor.0, if more then cursor.1 + 1 else cursor.1) → slice_get cursor'.0 (cursor'.1 - 1) ≡ Some e →
    (slice_get list cursor.1 ≡ Some e) × (cursor'.0 ≡ list) × (cursor'.1 ≡ cursor.1 + 1)
entry_at list cursor cursor' e b same so moved there =
    let first : cursor'.0 ≡ list = ap (λ (p : List Entry × ℕ). p.0) moved ∙ same in
    let second : cursor'.1 ≡ cursor.1 + 1 =
    ap (λ (p : List Entry × ℕ). p.1) moved ∙ ap (λ (b : Bool). if b then cursor.1 + 1 else cursor.1) so in
    let place : cursor'.1 - 1 ≡ cursor.1 = omega (arith, second) in
    ((λ i. slice_get (sym first i) (sym place i)) ∙ there, first, second)

-- ---- the sizes that were counted

is_counted : (list : List Entry) (at size n : ℕ) (e : Entry) → slice_get list at ≡ Some e → n ≡ count_by (is_sized size) (take at list) →
    n + one_if (is_sized size e) ≡ count_by (is_sized size) (take (at + 1) list)
is_counted list at size n e there is =
    ap (λ m. m + one_if (is_sized size e)) is
    ∙ sym (sum_by_more (λ (x : Entry). one_if (is_sized size x)) list at e (slice_get_within list at e there)
    ∙ ap (λ (x : Entry). count_by (is_sized size) (take at list) + one_if (is_sized size x)) (get_or_from_slice_get list at e e there))

pub counted_more : (list : List Entry) (at size old new : ℕ) (e : Entry) → slice_get list at ≡ Some e →
    old ≡ min (count_by (is_sized size) (take at list)) 255 →
    new ≡ (if is_sized size e then min (old + 1) 255 else old) → new ≡ min (count_by (is_sized size) (take (at + 1) list)) 255
counted_more list at size old new e there was is =
    by (is_sized size e) is (is_counted list at size (count_by (is_sized size) (take at list)) e there refl)
  where
    by : (b : Bool) → new ≡ (if b then min (old + 1) 255 else old) →
        count_by (is_sized size) (take at list) + one_if b ≡ count_by (is_sized size) (take (at + 1) list) →
        new ≡ min (count_by (is_sized size) (take (at + 1) list)) 255
    by true f g = omega (arith, was, f, g)
    by false f g = omega (arith, was, f, g)

-- an entry that is no file, and a file of a size
pub no_size : (e : Entry) (size : ℕ) → file_size e ≡ None → is_sized size e ≡ false
no_size e size none = ap (λ (b : Bool). b && (size_by e.stat == size)) (none_if (is_of kind.File e.stat) (size_by e.stat) none)

pub one_size : (e : Entry) (size n : ℕ) → file_size e ≡ Some n → is_sized size e ≡ (n == size)
one_size e size n is =
    let both = candidate_if (is_of kind.File e.stat) (size_by e.stat) n is in
    λ i. both.0 i && (both.1 i == size)

pub entry_last : (list : List Entry) (cursor : List Entry × ℕ) (more : Bool) → cursor.0 ≡ list → cursor.1 ≤ length list →
    more ≡ nat_lt cursor.1 (length cursor.0) →
    more ≡ false → cursor.1 ≡ length list
entry_last list cursor b same inside is none =
    let end : length list ≤ cursor.1 = subst (λ (l : List Entry). length l ≤ cursor.1) same (ltb-false cursor.1 (length cursor.0) (sym is ∙ none)) in
    omega arith

pub counts_all : (list : List Entry) (at : ℕ) (counts : HashMap ℕ ℕ (BuildHasherDefault FoldHasher)) → at ≡ length list → AreCounts (take at list) counts →
    AreCounts list counts
counts_all list at counts e = subst (λ part. AreCounts part counts) (ap (λ n. take n list) e ∙ take_all (length list) list (omega arith))

-- one more file that is as it was before its run is read
pub alike_more : (files files' : List File) (f : File) → files' ≡ files ++ f ∷ [] → still f ≡ f → map still files ≡ files → map still files' ≡ files'
alike_more files files' f added is e =
    ap (map still) added ∙ map-append still files (f ∷ []) ∙ (λ i. e i ++ is i ∷ []) ∙ sym added
