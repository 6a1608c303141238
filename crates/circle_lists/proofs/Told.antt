-- The steps of reading the files of a checkpoint.
use Rattle.circle_lists.proofs.Prelude.{◌≡◌, inl, inr, ℕ, ◌<◌, ◌≤◌, List, [], ◌∷◌, ◌++◌, length, get_or, map, Option, Some, None, length-append, ap, sym, ◌∙◌}
use Rattle.circle_lists.proofs.Prelude.{subst, arith, IfSome, cases_lt, get_or_append_left, map-append, get_or-append_seam, Files, ListsError, Fits, AllFit}
use Rattle.circle_lists.proofs.Prelude.{HoldsList, HoldFirst, Reached, StopsReadingAt}
use Rattle.circle_lists.specs.declared.errors.ListsError.TheVariants as error
use Rattle.circle_lists.proofs.Saved.{counted}

-- the lists that were read so far
pub record Told (dir : List ℕ) (ranks : ℕ) (lists : List (List (List ℕ))) (tree : Option Files) : Type 0 where
  pub holds : IfSome tree (HoldFirst (length lists) dir ranks lists)
  pub fit : AllFit dir (length lists)

holds_more : (dir : List ℕ) (ranks : ℕ) (lists : List (List (List ℕ))) (ps : List (List ℕ)) (files : Files) → HoldFirst (length lists) dir ranks lists files →
    HoldsList dir (length lists) ranks ps files → HoldFirst (length (lists ++ ps ∷ [])) dir ranks (lists ++ ps ∷ []) files
holds_more dir ranks lists ps files h last rank lt = elim (cases_lt rank (length lists)) [
  | inl below ↦ subst (λ qs. HoldsList dir rank ranks qs files) (sym (get_or_append_left lists (ps ∷ []) [] rank below)) (h rank below)
  | inr ge ↦
      let same : length lists ≡ rank = omega (arith, lt, ge, length-append lists (ps ∷ [])) in
      subst (λ r. HoldsList dir r ranks (get_or (lists ++ ps ∷ []) r []) files) same
      (subst (λ qs. HoldsList dir (length lists) ranks qs files) (sym (get_or-append_seam lists ps [] [])) last)
]

fit_more : (dir : List ℕ) (lists : List (List (List ℕ))) (ps : List (List ℕ)) → AllFit dir (length lists) → Fits dir (length lists) →
    AllFit dir (length (lists ++ ps ∷ []))
fit_more dir lists ps h last rank lt = elim (cases_lt rank (length lists)) [
  | inl below ↦ h rank below
  | inr ge ↦ let same : length lists ≡ rank = omega (arith, lt, ge, length-append lists (ps ∷ [])) in subst (Fits dir) same last
]

pub told_more : (dir : List ℕ) (ranks : ℕ) (lists : List (List (List ℕ))) (ps : List (List ℕ)) (tree : Option Files) → Told dir ranks lists tree →
    IfSome tree (HoldsList dir (length lists) ranks ps) → Fits dir (length lists) → Told dir ranks (lists ++ ps ∷ []) tree
told_more dir ranks lists ps None t last fits = record { holds = tt; fit = fit_more dir lists ps t.fit fits }
told_more dir ranks lists ps (Some files) t last fits =
    record { holds = holds_more dir ranks lists ps files t.holds last; fit = fit_more dir lists ps t.fit fits }

pub reached : (dir : List ℕ) (rank ranks : ℕ) (lists : List (List (List ℕ))) (tree : Option Files) → length lists ≡ rank → 0 < rank → rank < ranks →
    Told dir ranks lists tree → Reached dir rank (Some ranks) tree
reached dir rank ranks lists None is some lt t = (some, lt, subst (AllFit dir) is t.fit, tt)
reached dir rank ranks lists (Some files) is some lt t =
    (some, lt, subst (AllFit dir) is t.fit, (lists, subst (λ k. HoldFirst k dir ranks lists files) is t.holds))

pub map_more : {A B : Type 0} (f : A → B) (xs ys : List A) (y : A) → ys ≡ xs ++ y ∷ [] → map f ys ≡ map f xs ++ f y ∷ []
map_more f xs ys y is = ap (map f) is ∙ map-append f xs (y ∷ [])

pub stops_later : (dir : List ℕ) (rank : ℕ) (known : Option ℕ) (tree : Option Files) (before between after : ℕ) (why : ListsError) → before ≤ between →
    StopsReadingAt dir rank known tree between after why → StopsReadingAt dir rank known tree before after why
stops_later dir rank known tree before between after (error.Failed path) le s = record { named = s.named; fits = s.fits; counted = counted le s.counted }
stops_later dir rank known tree before between after error.OutOfMemory le s = tt
stops_later dir rank known tree before between after (error.Damaged path line) le s = s
stops_later dir rank known tree before between after (error.NoFile path) le s = s
stops_later dir rank known tree before between after (error.NoPlace path) le s = s
