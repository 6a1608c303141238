-- How the files of a run stand to the lead, piece by piece.
use Rattle.tree_dup.proofs.Prelude.{◌≡◌, ℕ, ◌+◌, ◌<◌, ◌≤◌, Bool, true, false, List, [], ◌++◌, length, map, take, drop, get_or, set, Option, Some, None, IfSome}
use Rattle.tree_dup.proofs.Prelude.{if◌then◌else◌, All, refl, sym, ap, subst, ◌∙◌, arith, eqb, length-set, length-append, get, pointwise, bytes_decides}
use Rattle.tree_dup.proofs.Prelude.{false≢true, get_or-set_same, get_or-set_other, take-take, take_all, All-set, take-add, drop-append_seam, take-append_seam}
use Rattle.tree_dup.proofs.Prelude.{dite, ℕ_discrete, Holds256, sha256, Sha256, Asks, RoseBy, Files, content, Missing, Failed, Changed, Standing, Alike, Other}
use Rattle.tree_dup.proofs.Prelude.{Missed, File, Fills, IsShort, IsFileOf, KeepsUp, failures_of, StandingShows, standing_alike, is_alike, still, IsThere}
use Rattle.tree_dup.proofs.Prelude.{Stands, StandsAt, AreDivided, AreSettled}
use Rattle.tree_dup.proofs.Parted.{if_any, if_told, if_both}
use Rattle.tree_dup.proofs.Classes.{all_still, still_alike}
use Rattle.tree_dup.proofs.Gone.{none_keeps}

-- ---- one piece of one file

more_bytes : (bytes piece : List ℕ) (at room : ℕ) → piece ≡ take room (drop at bytes) → take (at + room) bytes ≡ take at bytes ++ piece
more_bytes bytes piece at room e = take-add at room bytes ∙ ap (λ p. take at bytes ++ p) (sym e)

fills_piece : (tree : Files) (path : List ℕ) (at room : ℕ) (piece : List ℕ) → length piece ≡ room → Fills (get tree path) at piece →
    take (at + room) (content (get tree path)) ≡ take at (content (get tree path)) ++ piece
fills_piece tree path at room piece l f =
    more_bytes (content (get tree path)) piece at room (f.same ∙ ap (λ n. take n (drop at (content (get tree path)))) l)

same_end : (xs ys zs : List ℕ) → xs ++ ys ≡ xs ++ zs → ys ≡ zs
same_end xs ys zs e = sym (drop-append_seam xs ys) ∙ ap (drop (length xs)) e ∙ drop-append_seam xs zs

-- how a file stands by its next piece and that of the lead
pub piece_stands : (told : Option Files) (path : List ℕ) (at room : ℕ) (ours theirs : List ℕ) (same : Bool) → length theirs ≡ room →
    same ≡ pointwise eqb ours theirs → IfSome told (λ tree. Fills (get tree path) at theirs) →
    IfSome told (λ tree. (size : ℕ) → IsFileOf (get tree path) size → at + room ≤ size →
    Stands (if same then Alike else Other) (take (at + room) (content (get tree path))) (take at (content (get tree path)) ++ ours))
piece_stands told path at room ours theirs same l e = if_told told (λ tree. Fills (get tree path) at theirs)
    (λ tree. (size : ℕ) → IsFileOf (get tree path) size → at + room ≤ size →
    Stands (if same then Alike else Other) (take (at + room) (content (get tree path))) (take at (content (get tree path)) ++ ours))
    (λ tree fills size f m. by same e tree fills)
  where
    by : (same : Bool) → same ≡ pointwise eqb ours theirs → (tree : Files) → Fills (get tree path) at theirs →
        Stands (if same then Alike else Other) (take (at + room) (content (get tree path))) (take at (content (get tree path)) ++ ours)
    by true e tree h =
        let is : ours ≡ theirs = (bytes_decides ours theirs).0 (sym e) in
        fills_piece tree path at room theirs l h ∙ ap (λ p. take at (content (get tree path)) ++ p) (sym is)
    by false e tree h = λ is. false≢true (e ∙ (bytes_decides ours theirs).1
        (same_end (take at (content (get tree path))) ours theirs (sym is ∙ fills_piece tree path at room theirs l h)))

-- how a file stands that was missed
pub missed_stands : (told : Option Files) (path : List ℕ) (end : ℕ) (why : Missing) →
    (why ≡ Changed → IfSome told (λ tree. IsShort (get tree path) end)) →
    IfSome told (λ tree. (size : ℕ) → IsFileOf (get tree path) size → end ≤ size → (bytes lead : List ℕ) → Stands (Missed why) bytes lead)
missed_stands told path end Failed h =
    if_any told (λ tree. (size : ℕ) → IsFileOf (get tree path) size → end ≤ size → (bytes lead : List ℕ) → Stands (Missed Failed) bytes lead)
    (λ tree size f l bytes lead. tt)
missed_stands told path end Changed h =
    if_told told (λ tree. IsShort (get tree path) end)
    (λ tree. (size : ℕ) → IsFileOf (get tree path) size → end ≤ size → (bytes lead : List ℕ) → Stands (Missed Changed) bytes lead)
    (λ tree short size f l bytes lead. let s = f.size in let k = short f.is_file in omega arith) (h refl)

-- ---- a file that is not read

pub is_alike_so : (s : Standing) → standing_alike s ≡ true → s ≡ Alike
is_alike_so Alike e = refl
is_alike_so _ e = absurd (false≢true e)

-- what differs so far differs with a piece more
pub stays_apart : (s : Standing) (bytes lead piece : List ℕ) (at room : ℕ) → standing_alike s ≡ false → length lead ≡ at →
    Stands s (take at bytes) lead → Stands s (take (at + room) bytes) (lead ++ piece)
stays_apart Alike bytes lead piece at room e l h = absurd (false≢true (sym e))
stays_apart Other bytes lead piece at room e l h =
    λ is. h (sym (take-take at (at + room) bytes (omega arith)) ∙ ap (take at) is ∙ ap (λ n. take n (lead ++ piece)) (sym l) ∙ take-append_seam lead piece)
stays_apart (Missed Failed) bytes lead piece at room e l h = tt
stays_apart (Missed Changed) bytes lead piece at room e l h = h

alike_is : (f : File) (bytes lead : List ℕ) → is_alike f ≡ true → Stands f.standing bytes lead → bytes ≡ lead
alike_is f bytes lead e = subst (λ s. Stands s bytes lead → bytes ≡ lead) (sym (is_alike_so f.standing e)) (λ h. h)

-- a file that is alike so far, and has another standing after a piece more
pub follows : (told : Option Files) (f : File) (s : Standing) (at room : ℕ) (piece : List ℕ) → is_alike f ≡ true → at + room ≤ f.size →
    IfSome told (λ tree. (size : ℕ) → IsFileOf (get tree f.path) size → at + room ≤ size →
    Stands s (take (at + room) (content (get tree f.path))) (take at (content (get tree f.path)) ++ piece)) →
    IfSome told (λ tree. IsThere tree f → (bytes : List ℕ) → length bytes ≡ at → StandsAt tree at bytes f →
    StandsAt tree (at + room) (bytes ++ piece) (record f { standing = s }))
follows told f s at room piece a l = if_told told
    (λ tree. (size : ℕ) → IsFileOf (get tree f.path) size → at + room ≤ size →
    Stands s (take (at + room) (content (get tree f.path))) (take at (content (get tree f.path)) ++ piece))
    (λ tree. IsThere tree f → (bytes : List ℕ) → length bytes ≡ at → StandsAt tree at bytes f →
    StandsAt tree (at + room) (bytes ++ piece) (record f { standing = s }))
    (λ tree h there bytes long stands. subst (λ b. Stands s (take (at + room) (content (get tree f.path))) (b ++ piece))
    (alike_is f (take at (content (get tree f.path))) bytes a stands) (h f.size there l))

pub idles : (told : Option Files) (f : File) (at room : ℕ) (piece : List ℕ) → is_alike f ≡ false →
    IfSome told (λ tree. IsThere tree f → (bytes : List ℕ) → length bytes ≡ at → StandsAt tree at bytes f → StandsAt tree (at + room) (bytes ++ piece) f)
idles told f at room piece a =
    if_any told (λ tree. IsThere tree f → (bytes : List ℕ) → length bytes ≡ at → StandsAt tree at bytes f → StandsAt tree (at + room) (bytes ++ piece) f)
    (λ tree there bytes long stands. stays_apart f.standing (content (get tree f.path)) bytes piece at room a long stands)

-- the lead's piece
pub leads : (told : Option Files) (f : File) (at room : ℕ) (piece : List ℕ) → is_alike f ≡ true → length piece ≡ room →
    IfSome told (λ tree. Fills (get tree f.path) at piece) →
    IfSome told (λ tree. (bytes : List ℕ) → StandsAt tree at bytes f → StandsAt tree (at + room) (bytes ++ piece) f)
leads told f at room piece a l = if_told told (λ tree. Fills (get tree f.path) at piece)
    (λ tree. (bytes : List ℕ) → StandsAt tree at bytes f → StandsAt tree (at + room) (bytes ++ piece) f)
    (λ tree fills bytes stands. subst (λ s. Stands s (take (at + room) (content (get tree f.path))) (bytes ++ piece)) (sym (is_alike_so f.standing a))
    (fills_piece tree f.path at room piece l fills ∙ ap (λ b. b ++ piece) (alike_is f (take at (content (get tree f.path))) bytes a stands)))

-- a file that could not lead
pub leads_not : (told : Option Files) (f : File) (at end : ℕ) (why : Missing) → end ≤ f.size →
    IfSome told (λ tree. (size : ℕ) → IsFileOf (get tree f.path) size → end ≤ size → (bytes lead : List ℕ) → Stands (Missed why) bytes lead) →
    IfSome told (λ tree. IsThere tree f → (bytes : List ℕ) → StandsAt tree at bytes f → StandsAt tree at bytes (record f { standing = Missed why }))
leads_not told f at end why l = if_told told
    (λ tree. (size : ℕ) → IsFileOf (get tree f.path) size → end ≤ size → (bytes lead : List ℕ) → Stands (Missed why) bytes lead)
    (λ tree. IsThere tree f → (bytes : List ℕ) → StandsAt tree at bytes f → StandsAt tree at bytes (record f { standing = Missed why }))
    (λ tree h there bytes stands. h f.size there l (take at (content (get tree f.path))) bytes)

-- ---- all files of a run

-- those in front stand to the lead with a piece more, and so does the lead
pub record AreHalf (tree : Files) (at room : ℕ) (lead piece : List ℕ) (leader k : ℕ) (files : List File) : Type 0 where
  pub passed : (i : ℕ) (d : File) → i < k → i < length files → StandsAt tree (at + room) (lead ++ piece) (get_or files i d)
  pub ahead : (i : ℕ) (d : File) → k ≤ i → i < length files → StandsAt tree at lead (get_or files i d)
  pub led : leader < length files → (d : File) → StandsAt tree (at + room) (lead ++ piece) (get_or files leader d)

pub half_none : (tree : Files) (at room : ℕ) (lead piece : List ℕ) (leader : ℕ) (files : List File) → All (StandsAt tree at lead) files →
    (leader < length files → (d : File) → StandsAt tree (at + room) (lead ++ piece) (get_or files leader d)) → AreHalf tree at room lead piece leader 0 files
half_none tree at room lead piece leader files all led = record { passed = λ i d k l. absurd (omega arith); ahead = λ i d k l. all i d l; led = led }

-- the lead is not read again
pub half_skip : (tree : Files) (at room : ℕ) (lead piece : List ℕ) (leader k : ℕ) (files : List File) → k ≡ leader →
    AreHalf tree at room lead piece leader k files → AreHalf tree at room lead piece leader (k + 1) files
half_skip tree at room lead piece leader k files e h = record {
  passed = λ i d l inside.
      dite (ℕ_discrete i k)
      (λ same. subst (λ n. StandsAt tree (at + room) (lead ++ piece) (get_or files n d)) (sym (same ∙ e)) (h.led (omega arith) d))
      (λ other. h.passed i d (omega arith) inside);
  ahead = λ i d l inside. h.ahead i d (omega arith) inside;
  led = h.led;
}

pub half_more : (tree : Files) (at room : ℕ) (lead piece : List ℕ) (leader k : ℕ) (files : List File) (f : File) → (k ≡ leader → ⊥) → k < length files →
    StandsAt tree (at + room) (lead ++ piece) f → AreHalf tree at room lead piece leader k files →
    AreHalf tree at room lead piece leader (k + 1) (set files k f)
half_more tree at room lead piece leader k files f ne in_files here h = record {
  passed = λ i d l inside.
      dite (ℕ_discrete i k)
      (λ same. subst (StandsAt tree (at + room) (lead ++ piece)) (sym (ap (λ n. get_or (set files k f) n d) same ∙ get_or-set_same files k f d in_files)) here)
      (λ other. subst (StandsAt tree (at + room) (lead ++ piece)) (sym (get_or-set_other files k i f d other)) (h.passed i d (omega arith) (long i inside)));
  ahead = λ i d l inside.
      subst (StandsAt tree at lead) (sym (get_or-set_other files k i f d (λ (e : i ≡ k). absurd (omega arith)))) (h.ahead i d (omega arith) (long i inside));
  led = λ inside d.
      subst (StandsAt tree (at + room) (lead ++ piece)) (sym (get_or-set_other files k leader f d (λ (e : leader ≡ k). ne (sym e)))) (h.led
      (long leader inside) d);
}
  where
    long : (i : ℕ) → i < length (set files k f) → i < length files
    long i l = omega (arith, length-set files k f)

pub half_all : (tree : Files) (at room : ℕ) (lead piece : List ℕ) (leader k : ℕ) (files : List File) (hasher : Sha256) → length files ≤ k →
    length lead ≡ at → length piece ≡ room → Holds256 hasher (lead ++ piece) →
    AreHalf tree at room lead piece leader k files → AreDivided tree (at + room) hasher files
half_all tree at room lead piece leader k files hasher l e f held h = record {
  lead = lead ++ piece;
  held = held;
  long = omega (arith, length-append lead piece);
  each = λ i d inside. h.passed i d (omega arith) inside;
}

-- ---- before the first piece and after the last

pub there_still : (tree : Files) (files files' : List File) → map still files' ≡ map still files → All (IsThere tree) files → All (IsThere tree) files'
there_still tree = all_still (IsThere tree) (λ f h. record { is_file = h.is_file; size = h.size }) (λ f h. record { is_file = h.is_file; size = h.size })

pub sizes_still : (size : ℕ) (files files' : List File) → map still files' ≡ map still files → All (λ f. f.size ≡ size) files → All (λ f. f.size ≡ size) files'
sizes_still size = all_still (λ f. f.size ≡ size) (λ f h. h) (λ f h. h)

pub divided_first : (told : Option Files) (files : List File) (hasher : Sha256) → map still files ≡ files → Holds256 hasher [] →
    IfSome told (λ tree. All (IsThere tree) files → AreDivided tree 0 hasher files)
divided_first told files hasher e held = if_any told (λ tree. All (IsThere tree) files → AreDivided tree 0 hasher files)
    (λ tree there. record { lead = []; held = held; long = refl; each = λ k d l. subst (λ s. Stands s [] []) (sym (still_alike files e k d l)) refl })

pub divided_last : (told : Option Files) (size at : ℕ) (run files : List File) (hasher : Sha256) (digest : List ℕ) → size ≤ at →
    map still files ≡ map still run → All (λ f. f.size ≡ size) run → ((m : List ℕ) → Holds256 hasher m → digest ≡ sha256 m) →
    IfSome told (λ tree. All (IsThere tree) run → AreDivided tree at hasher files) →
    IfSome told (λ tree. All (IsThere tree) run → AreSettled tree digest files)
divided_last told size at run files hasher digest l same sizes ends =
    if_told told (λ tree. All (IsThere tree) run → AreDivided tree at hasher files) (λ tree. All (IsThere tree) run → AreSettled tree digest files)
    (λ tree h there.
    let d = h there in
    record {
      lead = d.lead;
      digest_is = ends d.lead d.held;
      each = λ k e inside.
          let f : File = get_or files k e in
          let has : length (content (get tree f.path)) ≡ f.size = (there_still tree run files same there k e inside).size in
          let of_size : f.size ≡ size = sizes_still size run files same sizes k e inside in
          subst (λ bytes. Stands f.standing bytes d.lead) (take_all at (content (get tree f.path)) (omega arith)) (d.each k e inside);
    })

pub inside_still : (n : ℕ) (files files' : List File) → map still files' ≡ map still files → All (λ f. n ≤ f.size) files → All (λ f. n ≤ f.size) files'
inside_still n = all_still (λ f. n ≤ f.size) (λ f h. h) (λ f h. h)

pub as_told : (P : Files → Type 0) (told now : Option Files) → now ≡ told → IfSome now P → IfSome told P
as_told P told now e = subst (λ o. IfSome o P) e

-- ---- one file of a run was read

module _ (files : List File) (k : ℕ) (f : File) (inside : k < length files) where
  -- what is so of the first one
  pub first_set : (P : File → Type 0) (d : File) → (k ≡ 0 → P f) → (0 < k → P (get_or files 0 d)) → P (get_or (set files k f) 0 d)
  first_set P d here other =
      dite (ℕ_discrete 0 k)
      (λ e. subst P (sym (ap (λ i. get_or (set files k f) i d) e ∙ get_or-set_same files k f d inside)) (here (sym e)))
      (λ ne. subst P (sym (get_or-set_other files k 0 f d ne)) (other (omega (arith, ne))))

  pub length_set : length (set files k f) ≡ length files
  length_set = length-set files k f

-- a file that was asked to lead
pub lead_told : (told now : Option Files) (at : ℕ) (was files : List File) (k : ℕ) (f d : File) → now ≡ told → k < length files →
    map still files ≡ map still was →
    IfSome told (λ tree. All (IsThere tree) was → (bytes : List ℕ) → All (StandsAt tree at bytes) was → All (StandsAt tree at bytes) files) →
    IfSome now (λ tree. IsThere tree (get_or files k d) → (bytes : List ℕ) → StandsAt tree at bytes (get_or files k d) → StandsAt tree at bytes f) →
    IfSome told (λ tree. All (IsThere tree) was → (bytes : List ℕ) → All (StandsAt tree at bytes) was → All (StandsAt tree at bytes) (set files k f))
lead_told told now at was files k f d e inside same h new =
    if_both told
    (λ tree. All (IsThere tree) was → (bytes : List ℕ) → All (StandsAt tree at bytes) was → All (StandsAt tree at bytes) files)
    (λ tree. IsThere tree (get_or files k d) → (bytes : List ℕ) → StandsAt tree at bytes (get_or files k d) → StandsAt tree at bytes f)
    (λ tree. All (IsThere tree) was → (bytes : List ℕ) → All (StandsAt tree at bytes) was → All (StandsAt tree at bytes) (set files k f))
    (λ tree old step there bytes stand.
    let all = old there bytes stand in
    All-set (StandsAt tree at bytes) files k f (step (there_still tree was files same there k d inside) bytes (all k d inside)) all)
    h (as_told (λ tree. IsThere tree (get_or files k d) → (bytes : List ℕ) → StandsAt tree at bytes (get_or files k d) →
    StandsAt tree at bytes f) told now e new)

-- it leads
pub lead_filled : (told now : Option Files) (at end : ℕ) (piece : List ℕ) (was files : List File) (k : ℕ) (f d e : File) → now ≡ told → k < length files →
    IfSome told (λ tree. All (IsThere tree) was → (bytes : List ℕ) → All (StandsAt tree at bytes) was → All (StandsAt tree at bytes) files) →
    IfSome now (λ tree. (bytes : List ℕ) → StandsAt tree at bytes (get_or files k d) → StandsAt tree end (bytes ++ piece) f) →
    IfSome told (λ tree. All (IsThere tree) was → (bytes : List ℕ) → All (StandsAt tree at bytes) was →
    StandsAt tree end (bytes ++ piece) (get_or (set files k f) k e))
lead_filled told now at end piece was files k f d e same inside h new =
    if_both told
    (λ tree. All (IsThere tree) was → (bytes : List ℕ) → All (StandsAt tree at bytes) was → All (StandsAt tree at bytes) files)
    (λ tree. (bytes : List ℕ) → StandsAt tree at bytes (get_or files k d) → StandsAt tree end (bytes ++ piece) f)
    (λ tree. All (IsThere tree) was → (bytes : List ℕ) → All (StandsAt tree at bytes) was → StandsAt tree end (bytes ++ piece) (get_or (set files k f) k e))
    (λ tree old step there bytes stand.
    subst (StandsAt tree end (bytes ++ piece)) (sym (get_or-set_same files k f e inside)) (step bytes (old there bytes stand k d inside)))
    h (as_told (λ tree. (bytes : List ℕ) → StandsAt tree at bytes (get_or files k d) → StandsAt tree end (bytes ++ piece) f) told now same new)

-- ---- all files of a run follow

abbrev pub HalfTold : Option Files → ℕ → ℕ → List ℕ → ℕ → ℕ → List File → List File → Type 0
HalfTold told at room piece leader k was files = IfSome told (λ tree. All (IsThere tree) was → (bytes : List ℕ) → length bytes ≡ at →
    All (StandsAt tree at bytes) was → AreHalf tree at room bytes piece leader k files)

pub half_told_none : (told : Option Files) (at room : ℕ) (piece : List ℕ) (leader : ℕ) (was files : List File) →
    IfSome told (λ tree. All (IsThere tree) was → (bytes : List ℕ) → All (StandsAt tree at bytes) was → All (StandsAt tree at bytes) files) →
    (leader < length files → (d : File) → IfSome told (λ tree. All (IsThere tree) was → (bytes : List ℕ) → All (StandsAt tree at bytes) was →
    StandsAt tree (at + room) (bytes ++ piece) (get_or files leader d))) →
    HalfTold told at room piece leader 0 was files
half_told_none None at room piece leader was files h led = tt
half_told_none (Some tree) at room piece leader was files h led =
    λ there bytes long stand. half_none tree at room bytes piece leader files (h there bytes stand) (λ l d. led l d there bytes stand)

pub half_told_skip : (told : Option Files) (at room : ℕ) (piece : List ℕ) (leader k : ℕ) (was files : List File) → k ≡ leader →
    HalfTold told at room piece leader k was files → HalfTold told at room piece leader (k + 1) was files
half_told_skip told at room piece leader k was files e =
    if_told told
    (λ tree. All (IsThere tree) was → (bytes : List ℕ) → length bytes ≡ at → All (StandsAt tree at bytes) was → AreHalf tree at room bytes piece leader k files)
    (λ tree. All (IsThere tree) was → (bytes : List ℕ) → length bytes ≡ at → All (StandsAt tree at bytes) was →
    AreHalf tree at room bytes piece leader (k + 1) files)
    (λ tree h there bytes long stand. half_skip tree at room bytes piece leader k files e (h there bytes long stand))

pub half_told_more : (told now : Option Files) (at room : ℕ) (piece : List ℕ) (leader k : ℕ) (was files : List File) (f d : File) → now ≡ told →
    (k ≡ leader → ⊥) → k < length files → map still files ≡ map still was →
    IfSome now (λ tree. IsThere tree (get_or files k d) → (bytes : List ℕ) → length bytes ≡ at → StandsAt tree at bytes (get_or files k d) →
    StandsAt tree (at + room) (bytes ++ piece) f) →
    HalfTold told at room piece leader k was files → HalfTold told at room piece leader (k + 1) was (set files k f)
half_told_more told now at room piece leader k was files f d same ne inside stills new h =
    if_both told
    (λ tree. All (IsThere tree) was → (bytes : List ℕ) → length bytes ≡ at → All (StandsAt tree at bytes) was → AreHalf tree at room bytes piece leader k files)
    (λ tree. IsThere tree (get_or files k d) → (bytes : List ℕ) → length bytes ≡ at → StandsAt tree at bytes (get_or files k d) →
    StandsAt tree (at + room) (bytes ++ piece) f)
    (λ tree. All (IsThere tree) was → (bytes : List ℕ) → length bytes ≡ at → All (StandsAt tree at bytes) was →
    AreHalf tree at room bytes piece leader (k + 1) (set files k f))
    (λ tree old step there bytes long stand.
    let half = old there bytes long stand in
    half_more tree at room bytes piece leader k files f ne inside
    (step (there_still tree was files stills there k d inside) bytes long (half.ahead k d (omega arith) inside)) half)
    h (as_told (λ tree. IsThere tree (get_or files k d) → (bytes : List ℕ) → length bytes ≡ at → StandsAt tree at bytes (get_or files k d) →
    StandsAt tree (at + room) (bytes ++ piece) f) told now same new)

pub half_told_all : (told : Option Files) (at room : ℕ) (piece : List ℕ) (leader k : ℕ) (was files : List File) (old new : Sha256) →
    length files ≤ k → length piece ≡ room → ((m : List ℕ) → Holds256 old m → Holds256 new (m ++ piece)) →
    HalfTold told at room piece leader k was files →
    IfSome told (λ tree. All (IsThere tree) was → AreDivided tree at old was → AreDivided tree (at + room) new files)
half_told_all told at room piece leader k was files old new l m takes =
    if_told told
    (λ tree. All (IsThere tree) was → (bytes : List ℕ) → length bytes ≡ at → All (StandsAt tree at bytes) was → AreHalf tree at room bytes piece leader k files)
    (λ tree. All (IsThere tree) was → AreDivided tree at old was → AreDivided tree (at + room) new files)
    (λ tree h there d. half_all tree at room d.lead piece leader k files new l d.long m (takes d.lead d.held) (h there d.lead d.long d.each))

-- a piece more of all files
pub divided_more : (told now : Option Files) (at room : ℕ) (run was files : List File) (hasher hasher' : Sha256) → now ≡ told →
    map still was ≡ map still run →
    IfSome told (λ tree. All (IsThere tree) run → AreDivided tree at hasher was) →
    IfSome now (λ tree. All (IsThere tree) was → AreDivided tree at hasher was → AreDivided tree (at + room) hasher' files) →
    IfSome told (λ tree. All (IsThere tree) run → AreDivided tree (at + room) hasher' files)
divided_more told now at room run was files hasher hasher' same stills h new =
    if_both told
    (λ tree. All (IsThere tree) run → AreDivided tree at hasher was)
    (λ tree. All (IsThere tree) was → AreDivided tree at hasher was → AreDivided tree (at + room) hasher' files)
    (λ tree. All (IsThere tree) run → AreDivided tree (at + room) hasher' files)
    (λ tree old step there. step (there_still tree run was stills there) (old there))
    h (as_told (λ tree. All (IsThere tree) was → AreDivided tree at hasher was → AreDivided tree (at + room) hasher' files) told now same new)

-- ---- the standing that a piece gives

pub piece_told : (told : Option Files) (path : List ℕ) (at room : ℕ) (ours theirs : List ℕ) (same : Bool) (s : Standing) → length theirs ≡ room →
    same ≡ pointwise eqb ours theirs → s ≡ (if same then Alike else Other) → IfSome told (λ tree. Fills (get tree path) at theirs) →
    IfSome told (λ tree. (size : ℕ) → IsFileOf (get tree path) size → at + room ≤ size →
    Stands s (take (at + room) (content (get tree path))) (take at (content (get tree path)) ++ ours))
piece_told told path at room ours theirs same s l e is fills =
    subst (λ s. IfSome told (λ tree. (size : ℕ) → IsFileOf (get tree path) size → at + room ≤ size →
    Stands s (take (at + room) (content (get tree path))) (take at (content (get tree path)) ++ ours))) (sym is)
    (piece_stands told path at room ours theirs same l e fills)

pub missed_told : (told : Option Files) (path : List ℕ) (at room : ℕ) (ours : List ℕ) (why : Missing) →
    (why ≡ Changed → IfSome told (λ tree. IsShort (get tree path) (at + room))) →
    IfSome told (λ tree. (size : ℕ) → IsFileOf (get tree path) size → at + room ≤ size →
    Stands (Missed why) (take (at + room) (content (get tree path))) (take at (content (get tree path)) ++ ours))
missed_told told path at room ours why h =
    if_told told
    (λ tree. (size : ℕ) → IsFileOf (get tree path) size → at + room ≤ size → (bytes lead : List ℕ) → Stands (Missed why) bytes lead)
    (λ tree. (size : ℕ) → IsFileOf (get tree path) size → at + room ≤ size →
    Stands (Missed why) (take (at + room) (content (get tree path))) (take at (content (get tree path)) ++ ours))
    (λ tree f size there l. f size there l (take (at + room) (content (get tree path))) (take at (content (get tree path)) ++ ours))
    (missed_stands told path (at + room) why h)

pub whole_counted : (same : Bool) (s : Standing) → s ≡ (if same then Alike else Other) → (old new : ℕ) → RoseBy 0 old new → KeepsUp 0 (failures_of s) old new
whole_counted same s e old new z = subst (λ s. KeepsUp 0 (failures_of s) old new) (sym e) (by same)
  where
    by : (b : Bool) → KeepsUp 0 (failures_of (if b then Alike else Other)) old new
    by true = none_keeps 0 old new z
    by false = none_keeps 0 old new z

pub whole_shows : {S : Type 0} (gives : Asks S) (path : List ℕ) (same : Bool) (s : Standing) → s ≡ (if same then Alike else Other) → StandingShows gives path s
whole_shows gives path same s e = subst (StandingShows gives path) (sym e) (by same)
  where
    by : (b : Bool) → StandingShows gives path (if b then Alike else Other)
    by true = tt
    by false = tt
