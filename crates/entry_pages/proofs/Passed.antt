-- A cursor passes an entry.
use Rattle.entry_pages.proofs.Prelude.{◌≡◌, ℕ, ◌+◌, ◌-◌, ◌<◌, ◌≤◌, true, false, List, [], ◌∷◌, ◌++◌, length, take, drop, get_or, refl, subst, ap, ap₂, sym, ◌∙◌}
use Rattle.entry_pages.proofs.Prelude.{arith, Option, Some, None, slice_get, ◌&&◌, is_none, is_utf8, list_all, All, and_parts, All-cons, All-nil, is_lt}
use Rattle.entry_pages.proofs.Prelude.{drop_more, take_more, length-drop, length-append, take-append-drop, list_all_at, slice_get-get_or, slice_get_within}
use Rattle.entry_pages.proofs.Prelude.{get_or_from_slice_get, refusal, path_cmp, behind, rest_of, Entry, Head, with_text, rest_by, head_by, heads_from}
use Rattle.entry_pages.proofs.Prelude.{rests_from, path_by, entry_by, unpacked, RisesAt, IsKept, IsAt, IsBefore, is_path}
use Rattle.entry_pages.specs.declared.heads.Head as told
use Rattle.entry_pages.proofs.Inverse.{path_back, kept_many, shared_front, rests_behind}

pub refusal_of : (p : List ℕ) → is_path p ≡ true → refusal p ≡ None
refusal_of p = elim (refusal p) as (λ r. (is_none r && is_utf8 p) ≡ true → r ≡ None) [ None ↦ λ e. refl | Some x ↦ λ e. cc ]

pub utf8_of : (p : List ℕ) → is_path p ≡ true → is_utf8 p ≡ true
utf8_of p = elim (is_none (refusal p)) as (λ r. (r && is_utf8 p) ≡ true → is_utf8 p ≡ true) [ true ↦ λ e. e | false ↦ λ e. cc ]

-- each of the entries has a valid path
pub all_valid : (es : List Entry) → list_all (λ e. is_path e.path) es ≡ true → All (λ e. refusal e.path ≡ None) es
all_valid [] all = All-nil _
all_valid (e ∷ es) all =
    let both = and_parts (is_path e.path) (list_all (λ x. is_path x.path) es) all in
    All-cons (λ x. refusal x.path ≡ None) e es (refusal_of e.path both.0) (all_valid es both.1)

pub any_front : (p : List ℕ) (es : List Entry) → heads_from 0 p es ≡ heads_from 0 [] es
any_front p [] = refl
any_front p (e ∷ es) = refl

pub any_rests : (p : List ℕ) (es : List Entry) → rests_from 0 p es ≡ rests_from 0 [] es
any_rests p [] = refl
any_rests p (e ∷ es) = refl

pub first_head : (a b : Head) (s t : List Head) → a ∷ s ≡ b ∷ t → a ≡ b
first_head a b s t e = cc

pub rest_heads : (a b : Head) (s t : List Head) → a ∷ s ≡ b ∷ t → s ≡ t
rest_heads a b s t e = cc

path_told : (passed : ℕ) (before : List ℕ) (x : Entry) (h : Head) (more bytes : List ℕ) → head_by passed before x ≡ h
    → rest_by passed before x.path ++ more ≡ bytes → path_by before h bytes ≡ x.path
path_told passed before x h more bytes eh eb = ap (λ (h : Head). path_by before h bytes) (sym eh)
    ∙ ap (λ (b : List ℕ). path_by before (head_by passed before x) b) (sym eb) ∙ path_back passed before x.path more

entry_told : (passed : ℕ) (before : List ℕ) (x : Entry) (h : Head) (p : List ℕ) → head_by passed before x ≡ h → p ≡ x.path → entry_by h p ≡ x
entry_told passed before x h p eh ep = ap (λ (h : Head). entry_by h p) (sym eh) ∙ ap (λ (p : List ℕ). entry_by (head_by passed before x) p) ep

path_at : (entries : List Entry) (i : ℕ) (d : Entry) → i < length entries → list_all (λ e. is_path e.path) entries ≡ true
    → is_path (get_or entries i d).path ≡ true
path_at entries i d lt all =
    elim (is_path (get_or entries i d).path) as (λ t. is_path (get_or entries i d).path ≡ t → t ≡ true) [
      | true ↦ λ e. refl
      | false ↦ λ e. let no = list_all_at (λ (e : Entry). is_path e.path) entries i d lt e in cc
    ] refl

pub before_first : {hs : List Head} {starts bytes path : List ℕ} → IsKept hs starts bytes path (unpacked [] hs bytes) → IsBefore hs bytes 0 0
before_first {hs} {starts} {bytes} {path} k held = record {
  paths = k.paths;
  many = sym (kept_many k);
  heads = any_front held (unpacked [] hs bytes) ∙ k.heads;
  rests = any_rests held (unpacked [] hs bytes) ∙ k.rests;
  within = omega arith;
  inside = omega arith;
}

-- the next entry: its rest is inside, and its path is one
pub record IsStep (hs : List Head) (bytes : List ℕ) (passed at : ℕ) (held : List ℕ) (entries : List Entry) (h : Head) : Type 0 where
  pub room : at + h.rest ≤ length bytes
  pub short : h.shared ≤ length held
  pub path : is_path (path_by held h (drop at bytes)) ≡ true
  pub next : IsAt hs bytes (passed + 1) (at + h.rest) (path_by held h (drop at bytes)) entries
  pub here : slice_get entries passed ≡ Some (entry_by h (path_by held h (drop at bytes)))

pub step : {hs : List Head} {bytes : List ℕ} {passed at : ℕ} {held : List ℕ} {entries : List Entry} (h : Head) →
    IsAt hs bytes passed at held entries →
    slice_get hs passed ≡ Some h → IsStep hs bytes passed at held entries h
step {hs} {bytes} {passed} {at} {held} {entries} h k sg =
    let lt : passed < length hs = slice_get_within hs passed h sg in
    let d : Entry = entry_by h held in
    let x : Entry = get_or entries passed d in
    let xs : List Entry = drop (passed + 1) entries in
    let lx : passed < length entries = omega (arith, lt, k.many) in
    let split : drop passed entries ≡ x ∷ xs = drop_more entries passed d lx in
    let split_heads : drop passed hs ≡ h ∷ drop (passed + 1) hs =
    drop_more hs passed h lt ∙ ap (λ (g : Head). g ∷ drop (passed + 1) hs) (get_or_from_slice_get hs passed h h sg) in
    let heads : heads_from passed held (x ∷ xs) ≡ h ∷ drop (passed + 1) hs = ap (heads_from passed held) (sym split) ∙ k.heads ∙ split_heads in
    let head : head_by passed held x ≡ h = first_head _ _ _ _ heads in
    let rests : rest_by passed held x.path ++ rests_from (passed + 1) x.path xs ≡ drop at bytes = ap (rests_from passed held) (sym split) ∙ k.rests in
    let path : path_by held h (drop at bytes) ≡ x.path = path_told passed held x h (rests_from (passed + 1) x.path xs) (drop at bytes) head rests in
    let entry : entry_by h (path_by held h (drop at bytes)) ≡ x = entry_told passed held x h _ head path in
    let long : h.rest ≡ length (rest_by passed held x.path) = ap (λ (h : Head). h.rest) (sym head) in
    let room : at + h.rest ≤ length bytes = omega (
      arith,
      long,
      k.inside,
      length-drop at bytes,
      ap length rests,
      length-append (rest_by passed held x.path) (rests_from (passed + 1) x.path xs),
    ) in
    record {
      room = room;
      short = subst (λ (h : Head). h.shared ≤ length held) head (shared_front passed held x.path);
      path = ap is_path path ∙ path_at entries passed d lx k.paths;
      next = record {
        paths = k.paths;
        many = k.many;
        heads = ap (λ (p : List ℕ). heads_from (passed + 1) p xs) path ∙ rest_heads _ _ _ _ heads;
        rests = rests_behind bytes at h.rest passed held _ x.path xs path long rests;
        within = omega (arith, lt);
        inside = room;
      };
      here = slice_get-get_or entries passed d lx ∙ ap Some (sym entry);
    }

-- how the next path stands to the one passed last is how what they do not share stands
tail_stands : (shared : ℕ) (held rest : List ℕ) → shared ≤ length held → path_cmp (take shared held ++ rest) held ≡ path_cmp rest (drop shared held)
tail_stands shared held rest short =
    ap (path_cmp (take shared held ++ rest)) (sym (take-append-drop shared held)) ∙ behind (take shared held) rest (drop shared held)

pub rises_next : {hs : List Head} {bytes : List ℕ} {passed at : ℕ} {held : List ℕ} {entries : List Entry} (h : Head) (n m : ℕ) (last : Entry) →
    n ≡ h.rest → m ≡ length held - h.shared → IsAt hs bytes passed at held entries → slice_get hs passed ≡ Some h → last.path ≡ held →
    0 < passed →
    slice_get entries (passed - 1) ≡ Some last → is_lt (path_cmp (take n (drop at bytes)) (take m (drop h.shared held))) ≡ false →
    RisesAt entries (passed - 1)
rises_next {hs} {bytes} {passed} {at} {held} {entries} h n m last is ms k sg path some before stands d lt =
    let s = step h k sg in
    let next : path_by held h (drop at bytes) ≡ take h.shared held ++ take n (drop at bytes) =
    ap (λ (n : ℕ). take h.shared held ++ take n (drop at bytes)) (sym is) in
    let here : get_or entries passed d ≡ entry_by h (path_by held h (drop at bytes)) = get_or_from_slice_get entries passed _ d s.here in
    let there : get_or entries (passed - 1) d ≡ last = get_or_from_slice_get entries (passed - 1) last d before in
    let one : passed - 1 + 1 ≡ passed = omega arith in
    let rest : take m (drop h.shared held) ≡ drop h.shared held = ap (λ (m : ℕ). take m (drop h.shared held)) ms ∙ rest_of held h.shared in
    ap₂ (λ (x y : List ℕ). is_lt (path_cmp x y))
    (ap (λ (i : ℕ). (get_or entries i d).path) one ∙ ap (λ (e : Entry). e.path) here ∙ next)
    (ap (λ (e : Entry). e.path) there ∙ path)
    ∙ ap is_lt (tail_stands h.shared held (take n (drop at bytes)) s.short ∙ ap (path_cmp (take n (drop at bytes))) (sym rest))
    ∙ stands

-- the same, where so many bytes of the rests are taken
pub made_path : {hs : List Head} {bytes : List ℕ} {passed at : ℕ} {held : List ℕ} {entries : List Entry} (h : Head) (n : ℕ) → n ≡ h.rest →
    IsAt hs bytes passed at held entries → slice_get hs passed ≡ Some h → is_path (take h.shared held ++ take n (drop at bytes)) ≡ true
made_path {hs} {bytes} {passed} {at} {held} {entries} h n is k sg =
    ap (λ (n : ℕ). is_path (take h.shared held ++ take n (drop at bytes))) is ∙ (step h k sg).path

pub made_next : {hs : List Head} {bytes : List ℕ} {passed at : ℕ} {held : List ℕ} {entries : List Entry} (h : Head) (n : ℕ) (e : Entry) →
    n ≡ h.rest →
    IsAt hs bytes passed at held entries → slice_get hs passed ≡ Some h → e ≡ entry_by h (take h.shared held ++ take n (drop at bytes)) →
    IsAt hs bytes (passed + 1) (at + h.rest) e.path entries
made_next {hs} {bytes} {passed} {at} {held} {entries} h n e is k sg made =
    subst (λ (p : List ℕ). IsAt hs bytes (passed + 1) (at + h.rest) p entries)
    (ap (λ (n : ℕ). take h.shared held ++ take n (drop at bytes)) (sym is) ∙ ap (λ (e : Entry). e.path) (sym made)) (step h k sg).next

-- an entry made by a head and its target
pub targeted : (h : told.Head) {t u : Option (List ℕ)} {p : List ℕ} {e : Entry} → t ≡ u → e ≡ entry_by (with_text h t) p →
    e ≡ entry_by (with_text h u) p
targeted h {t} {u} {p} {e} same made = made ∙ ap (λ (t : Option (List ℕ)). entry_by (with_text h t) p) same

pub made_here : {hs : List Head} {bytes : List ℕ} {passed at : ℕ} {held : List ℕ} {entries : List Entry} (h : Head) (n : ℕ) (e : Entry) →
    n ≡ h.rest →
    IsAt hs bytes passed at held entries → slice_get hs passed ≡ Some h → e ≡ entry_by h (take h.shared held ++ take n (drop at bytes)) →
    slice_get entries passed ≡ Some e
made_here {hs} {bytes} {passed} {at} {held} {entries} h n e is k sg made =
    (step h k sg).here ∙ ap Some (ap (λ (n : ℕ). entry_by h (take h.shared held ++ take n (drop at bytes))) (sym is) ∙ sym made)

-- the last of so many
pub taken_last : (entries : List Entry) (n : ℕ) (e : Entry) → 0 < n → slice_get entries (n - 1) ≡ Some e →
    take n entries ≡ take (n - 1) entries ++ e ∷ []
taken_last entries n e some is =
    let lt : n - 1 < length entries = slice_get_within entries (n - 1) e is in
    let one : n - 1 + 1 ≡ n = omega arith in
    ap (λ (m : ℕ). take m entries) (sym one) ∙ take_more entries (n - 1) e lt
    ∙ ap (λ (y : Entry). take (n - 1) entries ++ y ∷ []) (get_or_from_slice_get entries (n - 1) e e is)

-- what holds of heads, and how many of them were passed, holds where a pair has both
pub at_pair : {hs : List Head} {bytes : List ℕ} {n at : ℕ} {held : List ℕ} (l : List Head × ℕ) → l ≡ (hs, n) →
    IsAt hs bytes n at held (unpacked [] hs bytes) →
    IsAt l.0 bytes l.1 at held (unpacked [] l.0 bytes)
at_pair {hs} {bytes} {n} {at} {held} l is k = subst (λ (l : List Head × ℕ). IsAt l.0 bytes l.1 at held (unpacked [] l.0 bytes)) (sym is) k

pub before_pair : {hs : List Head} {bytes : List ℕ} {n at : ℕ} (l : List Head × ℕ) (b : List ℕ) → l ≡ (hs, n) → b ≡ bytes →
    IsBefore hs bytes n at →
    IsBefore l.0 b l.1 at
before_pair {hs} {bytes} {n} {at} l b is same k =
    subst (λ (l : List Head × ℕ). IsBefore l.0 b l.1 at) (sym is) (subst (λ (b : List ℕ). IsBefore hs b n at) (sym same) k)
