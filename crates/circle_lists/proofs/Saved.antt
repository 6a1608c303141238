-- The steps of writing the files of a checkpoint: what one of them changes, and what stands after several.
use Rattle.circle_lists.proofs.Prelude.{◌≡◌, inl, inr, ℕ, ◌+◌, ◌<◌, ◌≤◌, true, false, not, ◌&&◌, ◌||◌, List, [], get_or, Option, Some, None, refl, ap, sym, ◌∙◌}
use Rattle.circle_lists.proofs.Prelude.{subst, arith, IfSome, is_some, is_none, nat_eq, pointwise, get, insert, false≢true, cases_lt, refusal, parent_of, Files}
use Rattle.circle_lists.proofs.Prelude.{is_file, is_dir, is_root, RoseBy, new_file, SameBut, HoldsFile, can_save, put_one, ListsError, Spells, file_path}
use Rattle.circle_lists.proofs.Prelude.{HoldsList, HoldFirst, SameButFiles, HasPlace, HasNoPlace, StopsWritingAt}
use Rattle.circle_lists.specs.declared.errors.ListsError.TheVariants as error
use Rattle.circle_lists.proofs.Places.{parent_of_file, folder_differs, files_differ, later_differs}

-- what a save that succeeded says
abbrev pub IsSaved : List ℕ → List ℕ → Option Files → Option Files → Type 0
IsSaved path bytes old new = IfSome old (λ files. (can_save files path ≡ true) × (new ≡ Some (insert files path (new_file bytes))))

holds_file : (path bytes : List ℕ) (files : Files) → HoldsFile bytes (get (insert files path (new_file bytes)) path)
holds_file path bytes files =
    subst (HoldsFile bytes) (sym (put_one files path (new_file bytes)).here) (record { is_file = refl; same = refl })

pub saved_holds : (dir : List ℕ) (rank ranks : ℕ) (ps : List (List ℕ)) (path bytes : List ℕ) (old new : Option Files) → path ≡ file_path dir rank →
    Spells bytes rank ranks ps → is_some new ≡ is_some old → IsSaved path bytes old new → IfSome new (HoldsList dir rank ranks ps)
saved_holds dir rank ranks ps path bytes None None is spells tells saved = tt
saved_holds dir rank ranks ps path bytes None (Some after) is spells tells saved = absurd (false≢true (sym tells))
saved_holds dir rank ranks ps path bytes (Some files) new is spells tells saved =
    subst (λ o. IfSome o (HoldsList dir rank ranks ps)) (sym saved.1) (record {
      bytes = bytes;
      file = subst (λ p. HoldsFile bytes (get (insert files path (new_file bytes)) p)) is (holds_file path bytes files);
      spells = spells;
    })

pub saved_rest : (path bytes this : List ℕ) (old new : Option Files) → path ≡ this → IsSaved path bytes old new →
    IfSome old (λ files. IfSome new (SameBut this files))
saved_rest path bytes this None new is saved = tt
saved_rest path bytes this (Some files) new is saved =
    subst (λ o. IfSome o (SameBut this files)) (sym saved.1)
    (subst (λ p. SameBut p files (insert files path (new_file bytes))) is (put_one files path (new_file bytes)).others)

-- ---- several files

-- the files that were written first, and all else
pub record Wrote (dir : List ℕ) (ranks : ℕ) (lists : List (List (List ℕ))) (k : ℕ) (old new : Option Files) : Type 0 where
  pub tells : is_some new ≡ is_some old
  pub holds : IfSome new (HoldFirst k dir ranks lists)
  pub rest : IfSome old (λ files. IfSome new (SameButFiles dir k files))

-- what the writing of one file changes
pub record WroteOne (dir : List ℕ) (rank : ℕ) (old new : Option Files) : Type 0 where
  pub tells : is_some new ≡ is_some old
  pub rest : IfSome old (λ files. IfSome new (SameBut (file_path dir rank) files))

rest_more : (dir : List ℕ) (k : ℕ) (old mid new : Files) → SameButFiles dir k old mid → SameBut (file_path dir k) mid new →
    SameButFiles dir (k + 1) old new
rest_more dir k old mid new same one q off = one q (off k (omega arith)) ∙ same q (λ rank lt. off rank (omega (arith, lt)))

still_holds : {dir : List ℕ} {rank ranks k : ℕ} {ps : List (List ℕ)} (mid new : Files) → rank < k → k < 64 → SameBut (file_path dir k) mid new →
    HoldsList dir rank ranks ps mid → HoldsList dir rank ranks ps new
still_holds {dir} {rank} {ranks} {k} {ps} mid new lt few one h = record {
  bytes = h.bytes;
  file = subst (HoldsFile h.bytes) (sym (one (file_path dir rank) (files_differ dir rank k lt few))) h.file;
  spells = h.spells;
}

holds_more : (dir : List ℕ) (ranks k : ℕ) (lists : List (List (List ℕ))) (mid new : Files) → k < 64 → SameBut (file_path dir k) mid new →
    HoldFirst k dir ranks lists mid → HoldsList dir k ranks (get_or lists k []) new → HoldFirst (k + 1) dir ranks lists new
holds_more dir ranks k lists mid new few one h last rank lt = elim (cases_lt rank k) [
  | inl below ↦ still_holds mid new below few one (h rank below)
  | inr ge ↦ let same : k ≡ rank = omega (arith, lt, ge) in subst (λ r. HoldsList dir r ranks (get_or lists r []) new) same last
]

pub wrote_more : {dir : List ℕ} {ranks : ℕ} {lists : List (List (List ℕ))} {k : ℕ} (old mid new : Option Files) → k < 64 →
    Wrote dir ranks lists k old mid → WroteOne dir k mid new → IfSome new (HoldsList dir k ranks (get_or lists k [])) → Wrote dir ranks lists (k + 1) old new
wrote_more None None None few w one last = record { tells = refl; holds = tt; rest = tt }
wrote_more None None (Some new) few w one last = absurd (false≢true (sym one.tells))
wrote_more None (Some mid) new few w one last = absurd (false≢true (sym w.tells))
wrote_more (Some old) None new few w one last = absurd (false≢true w.tells)
wrote_more (Some old) (Some mid) None few w one last = absurd (false≢true one.tells)
wrote_more {dir} {ranks} {lists} {k} (Some old) (Some mid) (Some new) few w one last = record {
  tells = refl;
  holds = holds_more dir ranks k lists mid new few one.rest w.holds last;
  rest = rest_more dir k old mid new w.rest one.rest;
}

-- ---- places, as they were before

same_place : (dir : List ℕ) (k : ℕ) (old mid : Files) → refusal dir ≡ None → k < 64 → SameButFiles dir k old mid →
    can_save mid (file_path dir k) ≡ can_save old (file_path dir k)
same_place dir k old mid fine few same =
    let path = file_path dir k in
    let over : get mid (parent_of path) ≡ get old (parent_of path) =
    subst (λ d. get mid d ≡ get old d) (sym (parent_of_file dir k fine few)) (same dir (λ rank lt. folder_differs dir rank)) in
    let here : get mid path ≡ get old path = same path (λ rank lt. ahead rank lt) in
    ap (λ n. not (is_root path) && (is_dir n && (is_none (get mid path) || is_file (get mid path)))) over
    ∙ ap (λ n. not (is_root path) && (is_dir (get old (parent_of path)) && (is_none n || is_file n))) here
  where
    ahead : (rank : ℕ) → rank < k → pointwise nat_eq (file_path dir k) (file_path dir rank) ≡ false
    ahead rank lt = later_differs dir rank k lt few

pub place_before : {dir : List ℕ} {ranks : ℕ} {lists : List (List (List ℕ))} {k : ℕ} (old mid : Option Files) → refusal dir ≡ None → k < 64 →
    Wrote dir ranks lists k old mid → HasPlace dir mid k → HasPlace dir old k
place_before None mid fine few w p = record { fits = p.fits; free = tt }
place_before (Some old) None fine few w p = absurd (false≢true w.tells)
place_before {dir} {ranks} {lists} {k} (Some old) (Some mid) fine few w p =
    record { fits = p.fits; free = sym (same_place dir k old mid fine few w.rest) ∙ p.free }

no_place_before : {dir : List ℕ} {ranks : ℕ} {lists : List (List (List ℕ))} {k : ℕ} (old mid : Option Files) (path : List ℕ) → refusal dir ≡ None →
    k < 64 → Wrote dir ranks lists k old mid → HasNoPlace dir k mid path → HasNoPlace dir k old path
no_place_before None mid path fine few w p = record { named = p.named; fits = p.fits; taken = tt }
no_place_before (Some old) None path fine few w p = absurd (false≢true w.tells)
no_place_before {dir} {ranks} {lists} {k} (Some old) (Some mid) path fine few w p =
    record { named = p.named; fits = p.fits; taken = sym (same_place dir k old mid fine few w.rest) ∙ p.taken }

pub counted : {a b c : ℕ} → a ≤ b → RoseBy 1 b c → RoseBy 1 a c
counted {a} {b} {c} le r = record { kept = omega (arith, le, r.kept); rose = omega (arith, le, r.rose) }

pub stops_before : {dir : List ℕ} {ranks : ℕ} {lists : List (List (List ℕ))} {k : ℕ} (old mid : Option Files) (before between after : ℕ) (why : ListsError) →
    refusal dir ≡ None → k < 64 → Wrote dir ranks lists k old mid → before ≤ between → StopsWritingAt dir k mid between after why →
    StopsWritingAt dir k old before after why
stops_before old mid before between after (error.Failed path) fine few w le s = record { named = s.named; fits = s.fits; counted = counted le s.counted }
stops_before old mid before between after error.OutOfMemory fine few w le s = tt
stops_before old mid before between after (error.Damaged path line) fine few w le s = s
stops_before old mid before between after (error.NoFile path) fine few w le s = s
stops_before old mid before between after (error.NoPlace path) fine few w le (inl s) = inl s
stops_before old mid before between after (error.NoPlace path) fine few w le (inr s) = inr (no_place_before old mid path fine few w s)

pub places_more : {dir : List ℕ} {k : ℕ} {tree : Option Files} → ((rank : ℕ) → rank < k → HasPlace dir tree rank) → HasPlace dir tree k →
    (rank : ℕ) → rank < k + 1 → HasPlace dir tree rank
places_more {dir} {k} {tree} h last rank lt = elim (cases_lt rank k) [
  | inl below ↦ h rank below
  | inr ge ↦ let same : k ≡ rank = omega (arith, lt, ge) in subst (HasPlace dir tree) same last
]
