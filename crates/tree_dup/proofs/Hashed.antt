-- Candidates are hashed, one after the other from the last one on, or they are missed.
use Rattle.tree_dup.proofs.Prelude.{◌≡◌, ℕ, zero, suc, ◌+◌, ◌-◌, ◌<◌, ◌≤◌, true, List, [], ◌∷◌, ◌++◌, length, get_or, set, Option, IfSome, All, IsPermutation}
use Rattle.tree_dup.proofs.Prelude.{Result, Ok, Err, refl, sym, ap, subst, ◌∙◌, arith, length-append, length-set, get, swap_remove, get_or_default}
use Rattle.tree_dup.proofs.Prelude.{get_or-set_same, get_or-set_other, get_or-take, length-take-le, take_all, All-push, All-set, All-tail, All-head, All-nil}
use Rattle.tree_dup.proofs.Prelude.{All-permutation, IsPermutation-map, IsPermutation-swap_remove, map-set_same, dite, ℕ_discrete, Asks, RoseBy, Files, content}
use Rattle.tree_dup.proofs.Prelude.{Entry, ShowsFailure, ShowsChange, Grouping, has, is_read, HaveCauses, Missing, Failed, Changed, File, Alike, with_missed}
use Rattle.tree_dup.proofs.Prelude.{IsHash, IsWhole, AreHashes, WasPut, content_hash, hash_faults, times, IsThere, paths_of, IsListed, AreListed, AreHashed}
use Rattle.tree_dup.proofs.Prelude.{AreMissed, candidates_in, misses}
use Rattle.tree_dup.proofs.Piled.{times-cons, times-append, times-permutation}
use Rattle.tree_dup.proofs.Parted.{if_any, if_both}
use Rattle.tree_dup.proofs.Sifted.{path_of}

none : File
none = record { path = []; size = 0; hash = 0; standing = Alike }

behind : (j k : ℕ) → k ≤ j → (j ≡ k → ⊥) → k + 1 ≤ j
behind j k l ne = by (j - k) refl
  where
    by : (n : ℕ) → j - k ≡ n → k + 1 ≤ j
    by zero e = absurd (ne (omega (arith, l, e)))
    by (suc n) e = omega (arith, l, e)

-- ---- a candidate leaves

module _ (files : List File) (k : ℕ) (f : File) (inside : k < length files) where
  length_left : length (swap_remove files k f) + 1 ≡ length files
  length_left =
      omega (
        arith,
        inside,
        length-take-le (length files - 1) (set files k (get_or files (length files - 1) f))
            (omega (arith, length-set files k (get_or files (length files - 1) f))),
      )

  left_at : (j : ℕ) (d : File) → j < length (swap_remove files k f) →
      get_or (swap_remove files k f) j d ≡ get_or (set files k (get_or files (length files - 1) f)) j d
  left_at j d l = get_or-take (length files - 1) (set files k (get_or files (length files - 1) f)) j d (omega (arith, l, length_left))

  left_other : (j : ℕ) (d : File) → j < length (swap_remove files k f) → (j ≡ k → ⊥) → get_or (swap_remove files k f) j d ≡ get_or files j d
  left_other j d l ne = left_at j d l ∙ get_or-set_other files k j (get_or files (length files - 1) f) d ne

  left_here : (d : File) → k < length (swap_remove files k f) → get_or (swap_remove files k f) k d ≡ get_or files (length files - 1) f
  left_here d l = left_at k d l ∙ get_or-set_same files k (get_or files (length files - 1) f) d inside

-- ---- so far

-- the candidates from a place on are hashed, and those that were missed are gone
pub record AreHashedFrom (tree : Option Files) (list : List Entry) (k : ℕ) (files : List File) (found : Grouping) : Type 0 where
  pub listed : All (IsListed tree list) files
  pub hashes : (j : ℕ) (d : File) → k ≤ j → j < length files →
      IfSome tree (λ t. (get_or files j d).hash ≡ content_hash (content (get t (get_or files j d).path)))
  pub missed : AreMissed tree list found
  pub groups : found.groups ≡ []
  pub all : (p : List ℕ) → times p (paths_of files) + misses found p ≡ candidates_in list list p

module _ (tree : Option Files) (list : List Entry) where
  pub hashed_none : (files : List File) (found : Grouping) (k : ℕ) → k ≡ length files → found.groups ≡ [] → found.failed ≡ [] → found.changed ≡ [] →
      AreListed tree list (length list) files → AreHashedFrom tree list k files found
  hashed_none files found k at groups failed changed h = record {
    listed = h.listed;
    hashes = λ j d l m. absurd (omega (arith, l, m, at));
    missed = record {
      failed = subst (All (λ p. has (is_read list) list p ≡ true)) (sym failed) (All-nil (λ p. has (is_read list) list p ≡ true));
      changed = subst (All (λ p. has (is_read list) list p ≡ true)) (sym changed) (All-nil (λ p. has (is_read list) list p ≡ true));
      unchanged = if_any tree (λ t. found.changed ≡ []) (λ t. changed);
    };
    groups = groups;
    all = λ p. omega (
      arith,
      h.all p,
      ap (times p) failed,
      ap (times p) changed,
      ap (λ part. candidates_in list part p) (take_all (length list) list (omega arith)),
    );
  }

  pub hashed_all : (files : List File) (found : Grouping) (k : ℕ) → k ≡ 0 → AreHashedFrom tree list k files found → AreHashed tree list files found
  hashed_all files found k at h = record {
    hashed = λ j d l.
        let one = h.listed j d l in
        record { sized = one.sized; read = one.read; there = one.there; hash = h.hashes j d (omega (arith, at)) l };
    missed = h.missed;
    none = h.groups;
    all = h.all;
  }

  module _ {S : Type 0} (gives : Asks S) (k : ℕ) (files files' : List File) (found found' : Grouping) (inside : k < length files)
      (h : AreHashedFrom tree list (k + 1) files found) where
    hashed_put : (value : ℕ) → IsHash tree gives (get_or files k none) (Ok value) →
        AreHashedFrom tree list k (set files k (record (get_or files k none) { hash = value })) found
    hashed_put value is =
        let x = get_or files k none in
        let y : File = record x { hash = value } in
        let one = h.listed k none inside in
        record {
          listed = All-set (IsListed tree list) files k y (record { sized = one.sized; read = one.read; there = one.there }) h.listed;
          hashes = λ j d l m.
              dite (ℕ_discrete j k)
              (λ here.
              subst (λ (f : File). IfSome tree (λ t. f.hash ≡ content_hash (content (get t f.path))))
              (sym (ap (λ i. get_or (set files k y) i d) here ∙ get_or-set_same files k y d inside))
              (if_both tree (λ t. IsThere t x) (λ t. IsThere t x → value ≡ content_hash (content (get t x.path)))
              (λ t. y.hash ≡ content_hash (content (get t y.path)))
              (λ t there told. told there) one.there is.told))
              (λ other.
              subst (λ (f : File). IfSome tree (λ t. f.hash ≡ content_hash (content (get t f.path)))) (sym (get_or-set_other files k j y d other))
              (h.hashes j d (behind j k l other) (omega (arith, m, length-set files k y))));
          missed = h.missed;
          groups = h.groups;
          all = λ p. ap (λ ps. times p ps + misses found p) (map-set_same path_of files k y none refl) ∙ h.all p;
        }

    hashed_missed : (why : Missing) (f : File) → f ≡ get_or files k f → IsHash tree gives f (Err why) →
        AreHashedFrom tree list k (swap_remove files k f) (with_missed why f.path found)
    hashed_missed why f at is = by why is
      where
        moved : IsPermutation files (f ∷ swap_remove files k f)
        moved = IsPermutation-swap_remove files k f inside at

        listed : All (IsListed tree list) (f ∷ swap_remove files k f)
        listed = All-permutation (IsListed tree list) files (f ∷ swap_remove files k f) moved h.listed

        one : IsListed tree list f
        one = All-head (IsListed tree list) f (swap_remove files k f) listed

        some : (n : ℕ) → (n ≡ 0 → ⊥) → 0 < n
        some zero none = absurd (none refl)
        some (suc n) none = omega arith

        left_times : (p : List ℕ) → times p (paths_of files) ≡ times p (paths_of (f ∷ swap_remove files k f))
        left_times p = sym (times-permutation p (paths_of files) (paths_of (f ∷ swap_remove files k f))
            (IsPermutation-map path_of files (f ∷ swap_remove files k f) moved))

        -- a path stands as often among the candidates that are left and the missed ones, once the candidate went over to these
        moved_times : (p : List ℕ) (missed : List (List ℕ)) →
            times p (paths_of (swap_remove files k f)) + times p (missed ++ f.path ∷ []) ≡ times p (paths_of files) + times p missed
        moved_times p missed = omega (
          arith,
          left_times p,
          times-cons p f.path (paths_of (swap_remove files k f)),
          times-append p missed (f.path ∷ []),
          times-cons p f.path [],
        )

        hashes : (j : ℕ) (d : File) → k ≤ j → j < length (swap_remove files k f) →
            IfSome tree (λ t. (get_or (swap_remove files k f) j d).hash ≡ content_hash (content (get t (get_or (swap_remove files k f) j d).path)))
        hashes j d l m =
            dite (ℕ_discrete j k)
            (λ here.
            subst (λ (x : File). IfSome tree (λ t. x.hash ≡ content_hash (content (get t x.path))))
            (sym (ap (λ i. get_or (swap_remove files k f) i d) here ∙ left_here files k f inside d (omega (arith, m, here))))
            (h.hashes (length files - 1) f (omega (arith, m, here, length_left files k f inside)) (omega (arith, inside))))
            (λ other.
            subst (λ (x : File). IfSome tree (λ t. x.hash ≡ content_hash (content (get t x.path)))) (sym (left_other files k f inside j d m other))
            (h.hashes j d (behind j k l other) (omega (arith, m, length_left files k f inside))))

        by : (w : Missing) → IsHash tree gives f (Err w) → AreHashedFrom tree list k (swap_remove files k f) (with_missed w f.path found)
        by Failed is = record {
          listed = All-tail (IsListed tree list) f (swap_remove files k f) listed;
          hashes = hashes;
          missed = record {
            failed = All-push (λ p. has (is_read list) list p ≡ true) found.failed f.path h.missed.failed (one.read (some f.size is.empty));
            changed = h.missed.changed;
            unchanged = h.missed.unchanged;
          };
          groups = h.groups;
          all = λ p. omega (arith, h.all p, moved_times p found.failed);
        }
        by Changed is = record {
          listed = All-tail (IsListed tree list) f (swap_remove files k f) listed;
          hashes = hashes;
          missed = record {
            failed = h.missed.failed;
            changed = All-push (λ p. has (is_read list) list p ≡ true) found.changed f.path h.missed.changed (one.read (some f.size is.empty));
            unchanged = if_both tree (λ t. IsThere t f) (λ t. IsThere t f → ⊥) (λ t. found.changed ++ f.path ∷ [] ≡ [])
                (λ t there never. absurd (never there)) one.there (is.unchanged refl);
          };
          groups = h.groups;
          all = λ p. omega (arith, h.all p, moved_times p found.changed);
        }

    pub hashed_more : (hash : Result ℕ Missing) → AreHashes tree gives files k hash → WasPut hash k files files' found found' →
        AreHashedFrom tree list k files' found'
    hashed_more (Ok value) is (e, f) =
        subst (λ fs. AreHashedFrom tree list k fs found') (sym (f none)) (subst (AreHashedFrom tree list k (set files k (record (get_or files k none) {
          hash = value;
        }))) (sym e) (hashed_put value (is none)))
    hashed_more (Err why) is (f, at, e, g) =
        subst (λ fs. AreHashedFrom tree list k fs found') (sym e) (subst (AreHashedFrom tree list k (swap_remove files k f)) (sym g)
        (hashed_missed why f at (subst (λ (x : File). IsHash tree gives x (Err why)) (sym at) (is f))))

-- what a reader, or a worker, came to with the candidate at a place
pub hashed_at : {S : Type 0} (told now : Option Files) (gives : Asks S) (files : List File) (k : ℕ) (f : File) (hash : Result ℕ Missing) →
    k < length files → now ≡ told → f ≡ get_or files k f → IsHash now gives f hash → AreHashes told gives files k hash
hashed_at told now gives files k f hash inside same at is d =
    subst (λ (x : File). IsHash told gives x hash) (at ∙ get_or_default files k f d inside) (subst (λ t. IsHash t gives f hash) same is)

-- ---- what else is so

module _ (k : ℕ) (files files' : List File) (found found' : Grouping) (inside : k < length files) where
  pub put_length : (hash : Result ℕ Missing) → WasPut hash k files files' found found' → k ≤ length files'
  put_length (Ok value) (e, f) =
      omega (arith, inside, ap (λ (fs : List File). length fs) (f none), length-set files k (record (get_or files k none) { hash = value }))
  put_length (Err why) (f, at, e, g) = omega (arith, inside, ap (λ (fs : List File). length fs) e, length_left files k f inside)

  -- the candidates in front are as they were
  pub put_front : (hash : Result ℕ Missing) → WasPut hash k files files' found found' → (j : ℕ) (d : File) → j < k → get_or files' j d ≡ get_or files j d
  put_front (Ok value) (e, f) j d l =
      ap (λ fs. get_or fs j d) (f none) ∙ get_or-set_other files k j (record (get_or files k none) { hash = value }) d (λ here. absurd (omega (arith, l, here)))
  put_front (Err why) (f, at, e, g) j d l =
      ap (λ fs. get_or fs j d) e
      ∙ left_other files k f inside j d (omega (arith, inside, l, length_left files k f inside)) (λ here. absurd (omega (arith, l, here)))

  pub put_alike : (hash : Result ℕ Missing) → WasPut hash k files files' found found' → All (λ f. f.standing ≡ Alike) files →
      All (λ f. f.standing ≡ Alike) files'
  put_alike (Ok value) (e, f) h =
      subst (All (λ f. f.standing ≡ Alike)) (sym (f none))
      (All-set (λ f. f.standing ≡ Alike) files k (record (get_or files k none) { hash = value }) (h k none inside) h)
  put_alike (Err why) (f, at, e, g) h =
      subst (All (λ f. f.standing ≡ Alike)) (sym e)
      (All-tail (λ f. f.standing ≡ Alike) f (swap_remove files k f)
      (All-permutation (λ f. f.standing ≡ Alike) files (f ∷ swap_remove files k f) (IsPermutation-swap_remove files k f inside at) h))

  pub put_failed : (hash : Result ℕ Missing) → WasPut hash k files files' found found' → length found'.failed ≡ length found.failed + hash_faults hash
  put_failed (Ok value) (e, f) = omega (arith, ap (λ (x : Grouping). length x.failed) e)
  put_failed (Err Failed) (f, at, e, g) = omega (arith, ap (λ (x : Grouping). length x.failed) g, length-append found.failed (f.path ∷ []))
  put_failed (Err Changed) (f, at, e, g) = omega (arith, ap (λ (x : Grouping). length x.failed) g)

  pub put_causes : {S : Type 0} (tree : Option Files) (gives : Asks S) (hash : Result ℕ Missing) → AreHashes tree gives files k hash →
      WasPut hash k files files' found found' → HaveCauses gives found → HaveCauses gives found'
  put_causes tree gives (Ok value) is (e, f) h = subst (HaveCauses gives) (sym e) h
  put_causes tree gives (Err Failed) is (f, at, e, g) h =
      subst (HaveCauses gives) (sym g) (record {
        failed = All-push (ShowsFailure gives) found.failed f.path h.failed (subst (λ (x : File). ShowsFailure gives x.path) (sym at) (is f).shows);
        changed = h.changed;
        whole = h.whole;
      })
  put_causes tree gives (Err Changed) is (f, at, e, g) h =
      subst (HaveCauses gives) (sym g) (record {
        failed = h.failed;
        changed = All-push (ShowsChange gives) found.changed f.path h.changed (subst (λ (x : File). ShowsChange gives x.path) (sym at) (is f).shows);
        whole = h.whole;
      })

  -- the candidates from the place on were read whole
  pub put_whole : {S : Type 0} (tree : Option Files) (gives : Asks S) (hash : Result ℕ Missing) → AreHashes tree gives files k hash →
      WasPut hash k files files' found found' →
      ((j : ℕ) (d : File) → k + 1 ≤ j → j < length files → IsWhole gives (get_or files j d)) →
      (j : ℕ) (d : File) → k ≤ j → j < length files' → IsWhole gives (get_or files' j d)
  put_whole tree gives (Ok value) is (e, g) h j d l m =
      let x : File = get_or files k none in
      let y : File = record x { hash = value } in
      let long : length files' ≡ length files = ap (λ (fs : List File). length fs) (g none) ∙ length-set files k y in
      subst (λ fs. IsWhole gives (get_or fs j d)) (sym (g none))
      (dite (ℕ_discrete j k)
      (λ here. subst (IsWhole gives) (sym (ap (λ i. get_or (set files k y) i d) here ∙ get_or-set_same files k y d inside)) (is none).whole)
      (λ other. subst (IsWhole gives) (sym (get_or-set_other files k j y d other)) (h j d (behind j k l other) (omega (arith, m, long)))))
  put_whole tree gives (Err why) is (f, at, e, g) h j d l m =
      let n : j < length (swap_remove files k f) = omega (arith, m, ap (λ (fs : List File). length fs) e) in
      subst (λ fs. IsWhole gives (get_or fs j d)) (sym e)
      (dite (ℕ_discrete j k)
      (λ here.
      subst (IsWhole gives) (sym (ap (λ i. get_or (swap_remove files k f) i d) here ∙ left_here files k f inside d (omega (arith, n, here))))
      (h (length files - 1) f (omega (arith, n, here, length_left files k f inside)) (omega (arith, inside))))
      (λ other.
      subst (IsWhole gives) (sym (left_other files k f inside j d n other))
      (h j d (behind j k l other) (omega (arith, n, length_left files k f inside)))))

pub faults_of_hash : (hash : Result ℕ Missing) (old new : ℕ) → RoseBy 0 old new → (hash ≡ Err Failed → RoseBy 1 old new) → RoseBy (hash_faults hash) old new
faults_of_hash (Err Failed) old new z one = one refl
faults_of_hash _ old new z one = z
