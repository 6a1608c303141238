-- The text of a line is read as what was written, and no other text is.
use Rattle.flat_list.proofs.Prelude.{◌≡◌, ℕ, ◌<◌, ◌^◌, ◌⊎◌, inl, inr, Bool, true, false, cond, ltb, eqb, ◌&&◌, List, ◌∷◌, ◌++◌, length, get_or, Option, Some}
use Rattle.flat_list.proofs.Prelude.{None, Result, Ok, Err, refl, ap, sym, ◌∙◌, subst, arith, IfSome, is_none, codes, IsUtf8, is_utf8, bytes_eq, decimal}
use Rattle.flat_list.proofs.Prelude.{bytes_decides, nat_eq, ◌==◌, ◌||◌, starts_with, starts_is, is_utf8-from_IsUtf8, false≢true, and_parts, and_from, nat_tests}
use Rattle.flat_list.proofs.Prelude.{Decides-eqb, escape, good_len, unescaped, ReadingUndoesWriting, utf8_escape, escape_free, free-append, Kind, Stat, Entry}
use Rattle.flat_list.proofs.Prelude.{Mark, Told, link_refusal, link_of, link_reading, LinkReadingUndoesWriting, LinkTextError, Version, size_by, is_sized}
use Rattle.flat_list.proofs.Prelude.{shape_by, has_target, time_of, kind_by, kind_word, time_word, mark_word, text_of, target_text, IsTarget, IsEntry}
use Rattle.flat_list.proofs.Prelude.{is_marked, is_new, end_text, ◌>>=◌, number_of, word_at, path_from, is_told, told_if, told_entry, link_ok, IsFree}
use Rattle.flat_list.proofs.Prelude.{bind_some, pair_is, word_takes, word_again, number_again, number_takes, decimal_free, path_takes, path_again}
use Rattle.std.specs.Prelude.{drop}
use Rattle.outside.specs.declared.trees.Kind.TheVariants as kind
use Rattle.entry_pages.specs.declared.entries.Mark.TheVariants as mark
use Rattle.outside.specs.declared.links.LinkTextError.TheVariants as link
use Rattle.flat_list.specs.Private.Reading.{time_from, kind_from, mark_from, stat_from, told_at}
use Rattle.flat_list.specs.Private.Reading.{entry_at, target_from, target_at}
use Rattle.flat_list.proofs.Pieces.{IsLine, bare_is}

-- ---- words

pub record IsTime (word : List ℕ) (time : Option ℕ) : Type 0 where
  pub text : word ≡ time_word time
  pub small : IfSome time (λ seconds. seconds < 2 ^ 64)

time_takes : (word : List ℕ) (time : Option ℕ) → time_from word ≡ Some time → IsTime word time
unfolding time_from
time_takes word time e = by_test (bytes_eq word (codes "-")) refl e
  where
    by_test : (t : Bool) → bytes_eq word (codes "-") ≡ t → cond t (Some None) (number_of word >>= λ n. Some (Some n)) ≡ Some time → IsTime word time
    by_test true is e = let none : None ≡ time = cc in subst (IsTime word) none (record { text = (bytes_decides word (codes "-")).0 is; small = tt })
    by_test false is e =
        let found = bind_some (number_of word) (λ n. Some (Some n)) time e in
        let some : Some found.0 ≡ time = cc in
        let number = number_takes word found.0 found.1 in
        subst (IsTime word) some (record { text = number.text; small = number.small })

time_again : (time : Option ℕ) → IfSome time (λ seconds. seconds < 2 ^ 64) → time_from (time_word time) ≡ Some time
unfolding time_from
time_again None small = refl
time_again (Some n) small = ap (λ t. cond t (Some None) (number_of (decimal n) >>= λ n. Some (Some n))) off
    ∙ ap (λ o. o >>= λ n. Some (Some n)) (number_again n small)
  where
    off : bytes_eq (decimal n) (codes "-") ≡ false
    off = by_test (bytes_eq (decimal n) (codes "-")) refl
      where
        by_test : (t : Bool) → bytes_eq (decimal n) (codes "-") ≡ t → t ≡ false
        by_test false is = refl
        by_test true is = let free = subst (IsFree 45) ((bytes_decides (decimal n) (codes "-")).0 is) (decimal_free 45 n (omega arith) small) in
            absurd (false≢true (sym free.0))

time_free : (c : ℕ) (time : Option ℕ) → c < 45 → IfSome time (λ seconds. seconds < 2 ^ 64) → IsFree c (time_word time)
time_free c None low small = (apart, tt)
  where
    apart : eqb 45 c ≡ false
    apart = grind (arith, nat_tests)
time_free c (Some n) low small = decimal_free c n (omega arith) small

-- a choice by a word
chosen : {A : Type 0} (word this : List ℕ) (x y : A) (other : Option A) → cond (bytes_eq word this) (Some x) other ≡ Some y →
    ((word ≡ this) × (x ≡ y)) ⊎ (other ≡ Some y)
chosen word this x y other e = by_test (bytes_eq word this) refl e
  where
    by_test : (t : Bool) → bytes_eq word this ≡ t → cond t (Some x) other ≡ Some y → ((word ≡ this) × (x ≡ y)) ⊎ (other ≡ Some y)
    by_test true is e = inl ((bytes_decides word this).0 is, cc)
    by_test false is e = inr e

kind_takes : (word : List ℕ) (k : Option Kind) → kind_from word ≡ Some k → word ≡ kind_word k
unfolding kind_from
kind_takes word k e = elim (chosen word _ None k _ e) [
  | inl h ↦ h.0 ∙ ap kind_word h.1
  | inr e ↦ elim (chosen word _ (Some kind.File) k _ e) [
    | inl h ↦ h.0 ∙ ap kind_word h.1
    | inr e ↦ elim (chosen word _ (Some kind.Dir) k _ e) [
      | inl h ↦ h.0 ∙ ap kind_word h.1
      | inr e ↦ elim (chosen word _ (Some kind.Link) k _ e) [
        | inl h ↦ h.0 ∙ ap kind_word h.1
        | inr e ↦ elim (chosen word _ (Some kind.Other) k _ e) [
          | inl h ↦ h.0 ∙ ap kind_word h.1
          | inr e ↦ absurd cc
        ]
      ]
    ]
  ]
]

-- what holds of each kind, and of none, holds of any
each_kind : (P : Option Kind → Type 0) → P None → P (Some kind.File) → P (Some kind.Dir) → P (Some kind.Link) → P (Some kind.Other) → (k : Option Kind) → P k
each_kind P none file dir link other None = none
each_kind P none file dir link other (Some kind.File) = file
each_kind P none file dir link other (Some kind.Dir) = dir
each_kind P none file dir link other (Some kind.Link) = link
each_kind P none file dir link other (Some kind.Other) = other

kind_again : (k : Option Kind) → kind_from (kind_word k) ≡ Some k
unfolding kind_from
kind_again = each_kind (λ k. kind_from (kind_word k) ≡ Some k) refl refl refl refl refl

kind_free : (c : ℕ) (k : Option Kind) → c < 45 → IsFree c (kind_word k)
kind_free c k low = each_kind (λ k. IsFree c (kind_word k)) (grind (arith, nat_tests), tt) (grind (arith, nat_tests), tt)
    (grind (arith, nat_tests), tt) (grind (arith, nat_tests), tt) (grind (arith, nat_tests), tt) k

mark_takes : (word : List ℕ) (m : Mark) → mark_from word ≡ Some m → word ≡ mark_word m
unfolding mark_from
mark_takes word m e = elim (chosen word _ mark.Fine m _ e) [
  | inl h ↦ h.0 ∙ ap mark_word h.1
  | inr e ↦ elim (chosen word _ mark.StatFailed m _ e) [
    | inl h ↦ h.0 ∙ ap mark_word h.1
    | inr e ↦ elim (chosen word _ mark.ListFailed m _ e) [
      | inl h ↦ h.0 ∙ ap mark_word h.1
      | inr e ↦ elim (chosen word _ mark.Gone m _ e) [
        | inl h ↦ h.0 ∙ ap mark_word h.1
        | inr e ↦ elim (chosen word _ mark.Changed m _ e) [
          | inl h ↦ h.0 ∙ ap mark_word h.1
          | inr e ↦ absurd cc
        ]
      ]
    ]
  ]
]

mark_again : (m : Mark) → mark_from (mark_word m) ≡ Some m
unfolding mark_from
mark_again mark.Fine = refl
mark_again mark.StatFailed = refl
mark_again mark.ListFailed = refl
mark_again mark.Gone = refl
mark_again mark.Changed = refl

-- letters are none of the bytes below them
mark_free_space : (m : Mark) → IsFree 32 (mark_word m)
mark_free_space mark.Fine = (refl, (refl, tt))
mark_free_space mark.StatFailed = (refl, (refl, (refl, (refl, tt))))
mark_free_space mark.ListFailed = (refl, (refl, (refl, (refl, tt))))
mark_free_space mark.Gone = (refl, (refl, (refl, (refl, tt))))
mark_free_space mark.Changed = (refl, (refl, (refl, (refl, (refl, (refl, (refl, tt)))))))

-- ---- a stat, and all beside the path

record IsStat (k : Option Kind) (s : ℕ) (m : Option ℕ) (stat : Option Stat) : Type 0 where
  kind : k ≡ kind_by stat
  size : s ≡ size_by stat
  time : m ≡ time_of stat

stat_takes : (k : Option Kind) (size : ℕ) (time : Option ℕ) (stat : Option Stat) → stat_from k size time ≡ Some stat → IsStat k size time stat
unfolding stat_from
stat_takes (Some k) size time stat e =
    let same : ◌≡◌ {A = Option Stat} (Some (record { kind = k; size = size; mtime = time })) stat = cc in
    subst (IsStat (Some k) size time) same (record { kind = refl; size = refl; time = refl })
stat_takes None size time stat e = by_tests (eqb size 0) time refl e
  where
    none_is : (size : ℕ) → eqb size 0 ≡ true → size ≡ 0
    none_is size e = grind (arith, nat_tests)

    by_tests : (a : Bool) (time : Option ℕ) → eqb size 0 ≡ a → cond (a && is_none time) (Some None) None ≡ Some stat → IsStat None size time stat
    by_tests true None is e = let same : None ≡ stat = cc in subst (IsStat None size None) same (record { kind = refl; size = none_is size is; time = refl })
    by_tests true (Some t) is e = absurd cc
    by_tests false time is e = absurd cc

stat_again : (stat : Option Stat) → stat_from (kind_by stat) (size_by stat) (time_of stat) ≡ Some stat
unfolding stat_from
stat_again None = refl
stat_again (Some stat) = refl

-- the text of all beside the path, and the path's word
abbrev pub told_text : Told → List ℕ → List ℕ
told_text t word =
    kind_word (kind_by t.stat) ++ 32 ∷
    (decimal (size_by t.stat) ++ 32 ∷
    (time_word (time_of t.stat) ++ 32 ∷ (mark_word t.mark ++ 32 ∷ (decimal t.unnamed ++ 32 ∷ (decimal t.far ++ 32 ∷ word)))))

pub record IsTold (v : Version) (t : Told) : Type 0 where
  pub fits : is_told v t ≡ true
  pub size : size_by t.stat < 2 ^ 64
  pub time : IfSome (time_of t.stat) (λ seconds. seconds < 2 ^ 64)
  pub unnamed : t.unnamed < 2 ^ 64
  pub far : t.far < 2 ^ 64

fits_takes : (v : Version) (t u : Told) (word rest : List ℕ) → told_if v t word ≡ Some (u, rest) →
    (is_told v t ≡ true) × (t ≡ u) × (word ≡ rest)
fits_takes v t u word rest e = by_test (is_told v t) refl e
  where
    by_test : (b : Bool) → is_told v t ≡ b → cond {A = Option (Told × List ℕ)} b (Some (t, word)) None ≡ Some (u, rest) →
        (is_told v t ≡ true) × (t ≡ u) × (word ≡ rest)
    by_test true is e = let same = pair_is t u word rest e in (is, same.0, same.1)
    by_test false is e = absurd cc

-- what is read after each word
abbrev after_far : Version → Option Kind → ℕ → Option ℕ → Mark → ℕ → ℕ × List ℕ → Option (Told × List ℕ)
after_far v k s m r u f = stat_from k s m >>= λ st. told_if v (record { stat = st; mark = r; unnamed = u; far = f.0 }) f.1

abbrev after_unnamed : Version → Option Kind → ℕ → Option ℕ → Mark → ℕ × List ℕ → Option (Told × List ℕ)
after_unnamed v k s m r u = word_at number_of u.1 >>= λ f. after_far v k s m r u.0 f

abbrev after_mark : Version → Option Kind → ℕ → Option ℕ → Mark × List ℕ → Option (Told × List ℕ)
after_mark v k s m r = word_at number_of r.1 >>= λ u. after_unnamed v k s m r.0 u

abbrev after_time : Version → Option Kind → ℕ → Option ℕ × List ℕ → Option (Told × List ℕ)
after_time v k s m = word_at mark_from m.1 >>= λ r. after_mark v k s m.0 r

abbrev after_size : Version → Option Kind → ℕ × List ℕ → Option (Told × List ℕ)
after_size v k s = word_at time_from s.1 >>= λ m. after_time v k s.0 m

abbrev after_kind : Version → Option Kind × List ℕ → Option (Told × List ℕ)
after_kind v k = word_at number_of k.1 >>= λ s. after_size v k.0 s

pub told_takes : (v : Version) (text : List ℕ) (t : Told) (word : List ℕ) → told_at v text ≡ Some (t, word) →
    (text ≡ told_text t word) × IsTold v t
unfolding told_at
told_takes v text t word e =
    let k = bind_some (word_at kind_from text) (λ k. after_kind v k) (t, word) e in
    let s = bind_some (word_at number_of k.0.1) (λ s. after_size v k.0.0 s) (t, word) k.2 in
    let m = bind_some (word_at time_from s.0.1) (λ m. after_time v k.0.0 s.0.0 m) (t, word) s.2 in
    let r = bind_some (word_at mark_from m.0.1) (λ r. after_mark v k.0.0 s.0.0 m.0.0 r) (t, word) m.2 in
    let u = bind_some (word_at number_of r.0.1) (λ u. after_unnamed v k.0.0 s.0.0 m.0.0 r.0.0 u) (t, word) r.2 in
    let f = bind_some (word_at number_of u.0.1) (λ f. after_far v k.0.0 s.0.0 m.0.0 r.0.0 u.0.0 f) (t, word) u.2 in
    let st =
    bind_some (stat_from k.0.0 s.0.0 m.0.0) (λ st. told_if v (record { stat = st; mark = r.0.0; unnamed = u.0.0; far = f.0.0 }) f.0.1) (t, word) f.2 in
    let told : Told = record { stat = st.0; mark = r.0.0; unnamed = u.0.0; far = f.0.0 } in
    let fits = fits_takes v told t f.0.1 word st.2 in
    let stat = stat_takes k.0.0 s.0.0 m.0.0 st.0 st.1 in
    let wk = word_takes kind_from text k.0.0 k.0.1 k.1 in
    let ws = word_takes number_of k.0.1 s.0.0 s.0.1 s.1 in
    let wm = word_takes time_from s.0.1 m.0.0 m.0.1 m.1 in
    let wr = word_takes mark_from m.0.1 r.0.0 r.0.1 r.1 in
    let wu = word_takes number_of r.0.1 u.0.0 u.0.1 u.1 in
    let wf = word_takes number_of u.0.1 f.0.0 f.0.1 f.1 in
    let ns = number_takes ws.word s.0.0 ws.value in
    let nm = time_takes wm.word m.0.0 wm.value in
    let nu = number_takes wu.word u.0.0 wu.value in
    let nf = number_takes wf.word f.0.0 wf.value in
    let whole : text ≡ told_text told f.0.1 =
    wk.parts
    ∙ ap (λ w. w ++ 32 ∷ k.0.1) (kind_takes wk.word k.0.0 wk.value ∙ ap kind_word stat.kind)
    ∙ ap (λ l. kind_word (kind_by st.0) ++ 32 ∷ l) (ws.parts ∙ ap (λ w. w ++ 32 ∷ s.0.1) (ns.text ∙ ap decimal stat.size)
    ∙ ap (λ l. decimal (size_by st.0) ++ 32 ∷ l) (wm.parts ∙ ap (λ w. w ++ 32 ∷ m.0.1) (nm.text ∙ ap time_word stat.time)
    ∙ ap (λ l. time_word (time_of st.0) ++ 32 ∷ l) (wr.parts ∙ ap (λ w. w ++ 32 ∷ r.0.1) (mark_takes wr.word r.0.0 wr.value)
    ∙ ap (λ l. mark_word r.0.0 ++ 32 ∷ l) (wu.parts ∙ ap (λ w. w ++ 32 ∷ u.0.1) nu.text
    ∙ ap (λ l. decimal u.0.0 ++ 32 ∷ l) (wf.parts ∙ ap (λ w. w ++ 32 ∷ f.0.1) nf.text))))) in
    let told_is : IsTold v told = record {
      fits = fits.0;
      size = subst (λ n. n < 2 ^ 64) stat.size ns.small;
      time = subst (λ o. IfSome o (λ seconds. seconds < 2 ^ 64)) stat.time nm.small;
      unnamed = nu.small;
      far = nf.small;
    } in
    (whole ∙ ap (λ w. told_text told w) fits.2 ∙ ap (λ t. told_text t word) fits.1, subst (IsTold v) fits.1 told_is)

pub told_again : (v : Version) (t : Told) (word : List ℕ) → IsTold v t → told_at v (told_text t word) ≡ Some (t, word)
unfolding told_at
told_again v t word is =
    let k = kind_by t.stat in
    let s = size_by t.stat in
    let m = time_of t.stat in
    ap (λ o. o >>= λ k. after_kind v k) (word_again kind_from (kind_word k) _ k (kind_free 32 k (omega arith)) (kind_again k))
    ∙ ap (λ o. o >>= λ s. after_size v k s) (word_again number_of (decimal s) _ s (decimal_free 32 s (omega arith) is.size) (number_again s is.size))
    ∙ ap (λ o. o >>= λ m. after_time v k s m) (word_again time_from (time_word m) _ m (time_free 32 m (omega arith) is.time) (time_again m is.time))
    ∙ ap (λ o. o >>= λ r. after_mark v k s m r) (word_again mark_from (mark_word t.mark) _ t.mark (mark_free_space t.mark) (mark_again t.mark))
    ∙ ap (λ o. o >>= λ u. after_unnamed v k s m t.mark u)
    (word_again number_of (decimal t.unnamed) _ t.unnamed (decimal_free 32 t.unnamed (omega arith) is.unnamed) (number_again t.unnamed is.unnamed))
    ∙ ap (λ o. o >>= λ f. after_far v k s m t.mark t.unnamed f)
    (word_again number_of (decimal t.far) word t.far (decimal_free 32 t.far (omega arith) is.far) (number_again t.far is.far))
    ∙ ap (λ o. o >>= λ st. told_if v (record { stat = st; mark = t.mark; unnamed = t.unnamed; far = t.far }) word) (stat_again t.stat)
    ∙ ap (λ b. cond {A = Option (Told × List ℕ)} b (Some (t, word)) None) is.fits

-- ---- paths, and whole entries

pub entry_takes : ReadingUndoesWriting → (v : Version) (text : List ℕ) (e : Entry) → entry_at v text ≡ Some e → IsUtf8 e.path →
    (text ≡ text_of e) × IsLine v e
unfolding entry_at
entry_takes undoes v text e is u =
    let t = bind_some (told_at v text) (λ t. path_from t.1 >>= λ path. Some (told_entry t.0 path)) e is in
    let p = bind_some (path_from t.0.1) (λ path. Some (told_entry t.0.0 path)) e t.2 in
    let entry : Entry = told_entry t.0.0 p.0 in
    let same : entry ≡ e = cc in
    let told = told_takes v text t.0.0 t.0.1 t.1 in
    let path = path_takes undoes t.0.1 p.0 p.1 in
    let utf8 : IsUtf8 entry.path = subst (λ (e : Entry). IsUtf8 e.path) (sym same) u in
    let fits = and_parts _ _ told.1.fits in
    let entry_is : IsEntry entry = record {
      path = path.1;
      utf8 = utf8;
      target = tt;
      shape = fits.1;
      size = told.1.size;
      time = told.1.time;
      unnamed = told.1.unnamed;
      far = told.1.far;
    } in
    let line_is : IsLine v entry = record { entry = entry_is; known = fits.0; none = refl } in
    let whole : text ≡ text_of entry = told.0 ∙ ap (λ w. told_text t.0.0 w) path.0 in
    subst (λ (e : Entry). (text ≡ text_of e) × IsLine v e) same (whole, line_is)

told_fits : (v : Version) (e : Entry) → IsLine v e →
    (is_marked v e.mark e.stat && (is_sized e.stat && shape_by e.mark e.stat (e.unnamed == 0 && e.far == 0))) ≡ true
told_fits v e is = and_from (is_marked v e.mark e.stat) (is_sized e.stat && shape_by e.mark e.stat (e.unnamed == 0 && e.far == 0))
    (and_parts (is_none e.target || is_new v) (is_marked v e.mark e.stat) is.known).1
    (and_parts (is_none e.target || has_target e.mark e.stat) (is_sized e.stat && shape_by e.mark e.stat (e.unnamed == 0 && e.far == 0)) is.entry.shape).1

pub entry_again : ReadingUndoesWriting → (v : Version) (e : Entry) → IsLine v e → entry_at v (text_of e) ≡ Some e
unfolding entry_at
entry_again undoes v e is =
    let t : Told = record { stat = e.stat; mark = e.mark; unnamed = e.unnamed; far = e.far } in
    let i = is.entry in
    ap (λ o. o >>= λ t. path_from t.1 >>= λ path. Some (told_entry t.0 path))
    (told_again v t (escape e.path) (record { fits = told_fits v e is; size = i.size; time = i.time; unnamed = i.unnamed; far = i.far }))
    ∙ ap (λ o. o >>= λ path. Some (told_entry t path)) (path_again undoes e.path i.path i.utf8)
    ∙ ap Some (bare_is e is.none)

pub one_text : ReadingUndoesWriting → (v : Version) (d e : Entry) → IsLine v d → IsLine v e → text_of d ≡ text_of e → d ≡ e
one_text undoes v d e dis eis same =
    let both : Some d ≡ Some e = sym (entry_again undoes v d dis) ∙ ap (entry_at v) same ∙ entry_again undoes v e eis in
    cc

-- ---- targets

link_of_reading : (word text : List ℕ) → link_ok (link_reading word) ≡ Some text → link_reading word ≡ Ok text
link_of_reading word text e = by_result (link_reading word) refl e
  where
    by_result : (r : Result (List ℕ) LinkTextError) → link_reading word ≡ r → link_ok r ≡ Some text → link_reading word ≡ Ok text
    by_result (Ok p) is e = let same : p ≡ text = cc in is ∙ ap Ok same
    by_result (Err f) is e = absurd cc

is_link : (word text : List ℕ) → link_reading word ≡ Ok text → link_refusal text ≡ None
is_link word text e = by_len (ltb (good_len word) (length word)) e
  where
    by_refusal : (o : Option LinkTextError) → link_refusal (unescaped word) ≡ o → link_of o (unescaped word) ≡ Ok text → link_refusal text ≡ None
    by_refusal None is e = let same : unescaped word ≡ text = cc in ap link_refusal (sym same) ∙ is
    by_refusal (Some f) is e = absurd cc

    by_len : (t : Bool) → cond t (Err (link.BadEscape (good_len word))) (link_of (link_refusal (unescaped word)) (unescaped word)) ≡ Ok text →
        link_refusal text ≡ None
    by_len true e = absurd cc
    by_len false e = by_refusal (link_refusal (unescaped word)) refl e

target_word : LinkReadingUndoesWriting → (word text : List ℕ) → target_from word ≡ Some text → (word ≡ escape text) × (link_refusal text ≡ None)
unfolding target_from
target_word undoes word text e = by_test (is_utf8 word) e
  where
    by_test : (t : Bool) → cond t (link_ok (link_reading word)) None ≡ Some text → (word ≡ escape text) × (link_refusal text ≡ None)
    by_test true e = let read = link_of_reading word text e in (undoes.one_spelling word text read, is_link word text read)
    by_test false e = absurd cc

pub target_takes : LinkReadingUndoesWriting → (text target : List ℕ) → target_at text ≡ Some target → IsUtf8 target →
    (text ≡ target_text target) × IsTarget target
unfolding target_at
target_takes undoes text target e u = by_test (starts_with nat_eq text (codes "> ")) refl e
  where
    by_test : (t : Bool) → starts_with nat_eq text (codes "> ") ≡ t → cond t (target_from (drop 2 text)) None ≡ Some target →
        (text ≡ target_text target) × IsTarget target
    by_test true is e =
        let word = target_word undoes (drop 2 text) target e in
        let front : text ≡ codes "> " ++ drop 2 text = (starts_is Decides-eqb text (codes "> ") _ refl).0 is in
        (front ∙ ap (λ w. codes "> " ++ w) word.0, record { valid = word.1; utf8 = u })
    by_test false is e = absurd cc

pub target_again : LinkReadingUndoesWriting → (target : List ℕ) → IsTarget target → target_at (target_text target) ≡ Some target
unfolding target_at target_from
target_again undoes target is =
    ap (λ b. cond b (target_from (escape target)) None) ((starts_is Decides-eqb (target_text target) (codes "> ") _ refl).1 (escape target) refl)
    ∙ ap (λ b. cond b (link_ok (link_reading (escape target))) None) (is_utf8-from_IsUtf8 (escape target) (utf8_escape target is.utf8))
    ∙ ap link_ok (undoes.back target is.valid)

pub one_target : LinkReadingUndoesWriting → (t u : List ℕ) → IsTarget t → IsTarget u → target_text t ≡ target_text u → t ≡ u
one_target undoes t u tis uis same =
    let both : Some t ≡ Some u = sym (target_again undoes t tis) ∙ ap target_at same ∙ target_again undoes u uis in
    cc

pub target_free : (target : List ℕ) → IsFree 10 (target_text target)
target_free target = (refl, (refl, escape_free target))

-- ---- the end

-- an end line is no line of an entry, since it begins with no kind's letter
first_byte : Option Kind → ℕ
first_byte None = 45
first_byte (Some kind.File) = 102
first_byte (Some kind.Dir) = 100
first_byte (Some kind.Link) = 108
first_byte (Some kind.Other) = 111

begins_kind : (k : Option Kind) (rest : List ℕ) → get_or (kind_word k ++ 32 ∷ rest) 0 0 ≡ first_byte k
unfolding first_byte
begins_kind k rest = each_kind (λ k. get_or (kind_word k ++ 32 ∷ rest) 0 0 ≡ first_byte k) refl refl refl refl refl k

no_e : (k : Option Kind) → eqb (first_byte k) 101 ≡ false
unfolding first_byte
no_e = each_kind (λ k. eqb (first_byte k) 101 ≡ false) refl refl refl refl refl

pub end_apart : (e : Entry) (n : ℕ) → text_of e ≡ end_text n → ⊥
end_apart e n same =
    let byte : first_byte (kind_by e.stat) ≡ 101 = sym (begins_kind (kind_by e.stat) _) ∙ ap (λ l. get_or l 0 0) same in
    false≢true (sym (no_e (kind_by e.stat)) ∙ ap (λ b. eqb b 101) byte)

-- ---- no line feed

pub text_free : (e : Entry) → IsEntry e → IsFree 10 (text_of e)
text_free e is =
    free-append 10 (kind_word (kind_by e.stat)) _ (kind_free 10 (kind_by e.stat) (omega arith)) (
      refl,
      free-append 10 (decimal (size_by e.stat)) _ (decimal_free 10 (size_by e.stat) (omega arith) is.size) (
        refl,
        free-append 10 (time_word (time_of e.stat)) _ (time_free 10 (time_of e.stat) (omega arith) is.time) (
          refl,
          free-append 10 (mark_word e.mark) _ (mark_free_feed e.mark) (
            refl,
            free-append 10 (decimal e.unnamed) _ (decimal_free 10 e.unnamed (omega arith) is.unnamed) (
              refl,
              free-append 10 (decimal e.far) _ (decimal_free 10 e.far (omega arith) is.far) (refl, escape_free e.path),
            ),
          ),
        ),
      ),
    )
  where
    mark_free_feed : (m : Mark) → IsFree 10 (mark_word m)
    mark_free_feed mark.Fine = (refl, (refl, tt))
    mark_free_feed mark.StatFailed = (refl, (refl, (refl, (refl, tt))))
    mark_free_feed mark.ListFailed = (refl, (refl, (refl, (refl, tt))))
    mark_free_feed mark.Gone = (refl, (refl, (refl, (refl, tt))))
    mark_free_feed mark.Changed = (refl, (refl, (refl, (refl, (refl, (refl, (refl, tt)))))))

no_mark : (k : Option Kind) → eqb (first_byte k) 62 ≡ false
unfolding first_byte
no_mark = each_kind (λ k. eqb (first_byte k) 62 ≡ false) refl refl refl refl refl

pub target_apart : (e : Entry) (target : List ℕ) → text_of e ≡ target_text target → ⊥
target_apart e target same =
    let byte : first_byte (kind_by e.stat) ≡ 62 = sym (begins_kind (kind_by e.stat) _) ∙ ap (λ l. get_or l 0 0) same in
    false≢true (sym (no_mark (kind_by e.stat)) ∙ ap (λ b. eqb b 62) byte)

pub end_no_target : (target : List ℕ) (n : ℕ) → target_text target ≡ end_text n → ⊥
end_no_target target n same = let byte : 62 ≡ 101 = ap (λ l. get_or l 0 0) same in absurd (false≢true (ap (λ b. eqb b 101) byte))
