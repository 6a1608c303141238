-- Heads and what is kept of them are inverse, and more is kept behind.
use Rattle.entry_pages.proofs.Prelude.{◌≡◌, ℕ, zero, suc, ◌+◌, ◌*◌, ◌<◌, Bool, true, false, List, [], ◌∷◌, ◌++◌, length, map, take, drop, get_or, refl, ap}
use Rattle.entry_pages.proofs.Prelude.{cond, ◌≤◌, ap₂, sym, subst, ◌∙◌, arith, Option, Some, None, slice_get, not, is_some, is_none, ◌==◌, ◌&&◌, ◌||◌}
use Rattle.entry_pages.proofs.Prelude.{if◌then◌else◌, flat_map, list_all, sum_by, nat_tests, flat_map-append, append-nil, map-append, length-map, length-append}
use Rattle.entry_pages.proofs.Prelude.{drop_more, drop-drop, length-drop, sum_by-cons, sum_by-take-drop, drop-append_seam, take-append_seam, option_map}
use Rattle.entry_pages.proofs.Prelude.{slice_get-map, slice_get-get_or, slice_get_within, get_or_from_slice_get, Kind, Stat, Head, Slim, Odd, size_by}
use Rattle.entry_pages.proofs.Prelude.{starts_by, AreStarts, kind_shown, shown_by, seconds_or, time_or, is_timed, is_odd, slim_by, odd_by, odds_by, odd_count}
use Rattle.entry_pages.proofs.Prelude.{stat_shown, target_bytes, text_by, text_len, is_text, target_by, head_told, first_odd, odds_after, heads_of, IsSlim}
use Rattle.entry_pages.proofs.Prelude.{IsLead, link_refusal, has_zero, is_utf8, IsUtf8, is_utf8-from_IsUtf8, IsUtf8-from_is_utf8, and_parts, false≢true}
use Rattle.entry_pages.proofs.Prelude.{list_all-append, list_all_at, some_length}
use Rattle.std.proofs.Common.{nat_lt}
use Rattle.outside.specs.declared.trees.Kind.TheVariants as kind
use Rattle.outside.specs.declared.links.LinkTextError.TheVariants as link
use Rattle.entry_pages.proofs.Inverse.{starts_more}

some_back : (k : Kind) (size : ℕ) (t : Option ℕ) →
    stat_shown (kind_shown k) size (if is_some t then Some (seconds_or t) else None) ≡ Some (record { kind = k; size = size; mtime = t })
some_back kind.File size None = refl
some_back kind.File size (Some t) = refl
some_back kind.Dir size None = refl
some_back kind.Dir size (Some t) = refl
some_back kind.Link size None = refl
some_back kind.Link size (Some t) = refl
some_back kind.Other size None = refl
some_back kind.Other size (Some t) = refl

stat_back : (s : Option Stat) → stat_shown (shown_by s) (size_by s) (if is_timed s then Some (time_or s) else None) ≡ s
stat_back None = refl
stat_back (Some stat) = some_back stat.kind stat.size stat.mtime

-- ---- targets

pub text_some : (t : List ℕ) → link_refusal t ≡ None → (length t == 0) ≡ false
text_some [] h = cc
text_some (b ∷ t) h = some_length (b ∷ t) (omega arith)

short : (n : ℕ) → nat_lt 4095 n ≡ false → n ≤ 4095
short n e = grind (arith, nat_tests)

pub text_short : (t : List ℕ) → link_refusal t ≡ None → length t ≤ 4095
text_short [] h = omega arith
text_short (b ∷ t) h = by_test (nat_lt 4095 (length (b ∷ t))) refl
    (sym (ap (λ c. cond c (Some link.Empty) (cond (nat_lt 4095 (length (b ∷ t))) (Some link.TooLong) (cond (has_zero (b ∷ t)) (Some link.Nul) None)))
    (some_length (b ∷ t) (omega arith))) ∙ h)
  where
    by_test : (c : Bool) → nat_lt 4095 (length (b ∷ t)) ≡ c → cond c (Some link.TooLong) (cond (has_zero (b ∷ t)) (Some link.Nul) None) ≡ None →
        length (b ∷ t) ≤ 4095
    by_test true e h = absurd cc
    by_test false e h = short (length (b ∷ t)) e

pub text_valid : (t : List ℕ) → is_text (Some t) ≡ true → link_refusal t ≡ None
text_valid t = elim (link_refusal t) as (λ r. (is_none r && is_utf8 t) ≡ true → r ≡ None) [ None ↦ λ e. refl | Some x ↦ λ e. cc ]

pub text_utf8 : (t : List ℕ) → is_text (Some t) ≡ true → IsUtf8 t
text_utf8 t e = IsUtf8-from_is_utf8 t (and_parts _ _ e).1

pub text_is : (t : List ℕ) → link_refusal t ≡ None → IsUtf8 t → is_text (Some t) ≡ true
text_is t h u = (λ i. is_none (h i) && is_utf8-from_IsUtf8 t u i)

some_zero : (n : ℕ) → (suc n == 0) ≡ false
some_zero n = grind (arith, nat_tests)

some_above : (n : ℕ) → nat_lt 0 (suc n) ≡ true
some_above n = grind (arith, nat_tests)

pub odd_is : (n : ℕ) (t : Option (List ℕ)) → (n == 0) ≡ is_none t → nat_lt 0 n ≡ is_some t
odd_is zero None e = refl
odd_is zero (Some t) e = sym e
odd_is (suc n) None e = absurd (false≢true (sym (some_zero n) ∙ e))
odd_is (suc n) (Some t) e = some_above n

target_back : (t : Option (List ℕ)) (more : List ℕ) → is_text t ≡ true → target_by (length (target_bytes t)) (target_bytes t ++ more) ≡ t
target_back None more h = refl
target_back (Some t) more h =
    ap (λ b. cond b None (Some (take (length t) (t ++ more)))) (text_some t (text_valid t h)) ∙ ap Some (take-append_seam t more)

-- ---- heads

pub told_back : (h : Head) (more : List ℕ) → is_text h.target ≡ true → head_told (slim_by h) (odd_by h) (text_by h ++ more) ≡ h
told_back h more valid =
    (λ i. let g : Head = record {
      stat = stat_back h.stat i;
      unnamed = h.unnamed;
      far = h.far;
      shared = h.shared;
      rest = h.rest;
      mark = h.mark;
      target = target_back h.target more valid i;
    } in g)

no_odd : (t : Option (List ℕ)) (u f : ℕ) → (is_some t || not (u == 0 && f == 0)) ≡ false →
    (let o : Odd = record { unnamed = 0; far = 0; target = 0 } in o) ≡ record { unnamed = u; far = f; target = length (target_bytes t) }
no_odd None u f e =
    let zero_u : u ≡ 0 = grind (arith, nat_tests, e) in
    let zero_f : f ≡ 0 = grind (arith, nat_tests, e) in
    cc
no_odd (Some t) u f e = absurd (false≢true (sym e))

pub first_back : (h : Head) (more : List Odd) → first_odd (is_odd h) (odds_by h ++ more) ≡ odd_by h
first_back h more =
    elim (is_odd h) as (λ t. is_odd h ≡ t → first_odd t ((if t then odd_by h ∷ [] else []) ++ more) ≡ odd_by h) [
      | true ↦ λ e. refl
      | false ↦ λ e. no_odd h.target h.unnamed h.far e
    ] refl

pub after_back : (h : Head) (more : List Odd) → odds_after (is_odd h) (odds_by h ++ more) ≡ more
after_back h more =
    elim (is_odd h) as (λ t. odds_after t ((if t then odd_by h ∷ [] else []) ++ more) ≡ more) [
      | true ↦ refl
      | false ↦ refl
    ]

abbrev has_text : Head → Bool
has_text h = is_text h.target

pub heads_back : (hs : List Head) → list_all has_text hs ≡ true → heads_of (map slim_by hs) (flat_map odds_by hs) (flat_map text_by hs) ≡ hs
heads_back [] valid = refl
heads_back (h ∷ hs) valid =
    let more = flat_map odds_by hs in
    let texts = flat_map text_by hs in
    let both = and_parts _ _ valid in
    let first = first_back h more in
    ap₂ (λ (g : Head) (gs : List Head). g ∷ gs)
    (ap (λ o. head_told (slim_by h) o (text_by h ++ texts)) first ∙ told_back h texts both.0)
    (ap₂ (heads_of (map slim_by hs)) (after_back h more)
    (ap (λ (o : Odd). drop o.target (text_by h ++ texts)) first ∙ drop-append_seam (text_by h) texts) ∙ heads_back hs both.1)

pub odds_many : (hs : List Head) → length (flat_map odds_by hs) ≡ sum_by odd_count hs
odds_many [] = refl
odds_many (h ∷ hs) =
    length-append (odds_by h) (flat_map odds_by hs) ∙ ap (λ (n : ℕ). odd_count h + n) (odds_many hs) ∙ sym (sum_by-cons odd_count h hs)

pub texts_many : (hs : List Head) → length (flat_map text_by hs) ≡ sum_by text_len hs
texts_many [] = refl
texts_many (h ∷ hs) =
    length-append (text_by h) (flat_map text_by hs) ∙ ap (λ (n : ℕ). text_len h + n) (texts_many hs) ∙ sym (sum_by-cons text_len h hs)

pub slim_long : {ss : List Slim} {os : List Odd} {starts ts begins : List ℕ} {hs : List Head} → IsSlim ss os starts ts begins hs → length ss ≡ length hs
slim_long {hs = hs} k = sym (ap length k.slims) ∙ simp length-map

one_valid : (h : Head) → is_text h.target ≡ true → list_all has_text (h ∷ []) ≡ true
one_valid h v = ap (λ b. b && true) v

slim_more : (ss : List Slim) (os : List Odd) (starts ts begins : List ℕ) (hs : List Head) (h : Head) → IsSlim ss os starts ts begins hs →
    is_text h.target ≡ true →
    IsSlim (ss ++ slim_by h ∷ []) (os ++ odds_by h) (starts_by (length ss) (length os) starts) (ts ++ text_by h)
    (starts_by (length ss) (length ts) begins) (hs ++ h ∷ [])
slim_more ss os starts ts begins hs h k v = record {
  slims = map-append slim_by hs (h ∷ []) ∙ ap (λ (xs : List Slim). xs ++ slim_by h ∷ []) k.slims;
  odds = flat_map-append odds_by hs (h ∷ []) ∙ ap₂ ◌++◌ k.odds (append-nil (odds_by h));
  odds_begin = subst (λ (n : ℕ). AreStarts odd_count (starts_by n (length os) starts) (hs ++ h ∷ [])) (sym (slim_long k))
      (starts_more odd_count hs h starts (length os) k.odds_begin (ap length (sym k.odds) ∙ odds_many hs));
  texts = flat_map-append text_by hs (h ∷ []) ∙ ap₂ ◌++◌ k.texts (append-nil (text_by h));
  texts_begin = subst (λ (n : ℕ). AreStarts text_len (starts_by n (length ts) begins) (hs ++ h ∷ [])) (sym (slim_long k))
      (starts_more text_len hs h begins (length ts) k.texts_begin (ap length (sym k.texts) ∙ texts_many hs));
  valid = list_all-append has_text hs (h ∷ []) ∙ ap₂ ◌&&◌ k.valid (one_valid h v);
}

heads_more : (ss : List Slim) (os : List Odd) (starts ts begins : List ℕ) (hs : List Head) (h : Head) → IsSlim ss os starts ts begins hs →
    is_text h.target ≡ true → heads_of (ss ++ slim_by h ∷ []) (os ++ odds_by h) (ts ++ text_by h) ≡ hs ++ h ∷ []
heads_more ss os starts ts begins hs h k v =
    let more = slim_more ss os starts ts begins hs h k v in
    (λ i. heads_of (sym more.slims i) (sym more.odds i) (sym more.texts i)) ∙ heads_back (hs ++ h ∷ []) more.valid

-- what is put behind what is kept
pub record ArePut (ss ss' : List Slim) (os os' : List Odd) (starts starts' ts ts' begins begins' : List ℕ) (h : Head) : Type 0 where
  pub slims : ss' ≡ ss ++ slim_by h ∷ []
  pub odds : os' ≡ os ++ odds_by h
  pub odds_begin : starts' ≡ starts_by (length ss) (length os) starts
  pub texts : ts' ≡ ts ++ text_by h
  pub texts_begin : begins' ≡ starts_by (length ss) (length ts) begins
  pub valid : is_text h.target ≡ true

pub put_slim : {ss ss' : List Slim} {os os' : List Odd} {starts starts' ts ts' begins begins' : List ℕ} {h : Head} →
    IsSlim ss os starts ts begins (heads_of ss os ts) → ArePut ss ss' os os' starts starts' ts ts' begins begins' h →
    IsSlim ss' os' starts' ts' begins' (heads_of ss' os' ts')
put_slim {ss} {ss'} {os} {os'} {starts} {starts'} {ts} {ts'} {begins} {begins'} {h} k p =
    rw p.slims (rw p.odds (rw p.odds_begin (rw p.texts (rw p.texts_begin (rw (heads_more ss os starts ts begins (heads_of ss os ts) h k p.valid)
    (slim_more ss os starts ts begins (heads_of ss os ts) h k p.valid))))))

pub put_heads : {ss ss' : List Slim} {os os' : List Odd} {starts starts' ts ts' begins begins' : List ℕ} {h : Head} →
    IsSlim ss os starts ts begins (heads_of ss os ts) → ArePut ss ss' os os' starts starts' ts ts' begins begins' h →
    heads_of ss' os' ts' ≡ heads_of ss os ts ++ h ∷ []
put_heads {ss} {ss'} {os} {os'} {starts} {starts'} {ts} {ts'} {begins} {begins'} {h} k p =
    rw p.slims (rw p.odds (rw p.texts (heads_more ss os starts ts begins (heads_of ss os ts) h k p.valid)))

-- where one begins
behind_some : {A : Type 0} (f : Head → List A) (hs : List Head) (n : ℕ) →
    drop (sum_by (λ h. length (f h)) (take n hs)) (flat_map f hs) ≡ flat_map f (drop n hs)
behind_some f hs zero = refl
behind_some f [] (suc n) = refl
behind_some f (h ∷ hs) (suc n) =
    let more = flat_map f hs in
    let sum : length (f h) + sum_by (λ h. length (f h)) (take n hs) ≡ sum_by (λ h. length (f h)) (h ∷ take n hs) =
    omega (arith, sum_by-cons (λ h. length (f h)) h (take n hs)) in
    ap (λ (m : ℕ). drop m (f h ++ more)) (sym sum)
    ∙ sym (drop-drop (sum_by (λ h. length (f h)) (take n hs)) (length (f h)) (f h ++ more))
    ∙ ap (drop (sum_by (λ h. length (f h)) (take n hs))) (drop-append_seam (f h) more)
    ∙ behind_some f hs n

pub lead_at : {ss : List Slim} {os : List Odd} {starts ts begins : List ℕ} {hs : List Head} (page gone at : ℕ) → IsSlim ss os starts ts begins hs →
    256 * page < length hs → gone ≡ get_or starts page gone → at ≡ get_or begins page at → IsLead ss os ts (256 * page) gone at hs
lead_at {ss} {os} {starts} {ts} {begins} {hs} page gone at k lt is from =
    let odds_from : gone ≡ sum_by odd_count (take (256 * page) hs) =
    is ∙ get_or_from_slice_get starts page _ gone (k.odds_begin.each page (omega (arith, k.odds_begin.enough))) in
    let texts_from : at ≡ sum_by text_len (take (256 * page) hs) =
    from ∙ get_or_from_slice_get begins page _ at (k.texts_begin.each page (omega (arith, k.texts_begin.enough))) in
    let parts = sum_by-take-drop odd_count hs (256 * page) in
    let pieces = sum_by-take-drop text_len hs (256 * page) in
    record {
      slims = k.slims;
      odds = sym (behind_some odds_by hs (256 * page)) ∙ ap (λ (n : ℕ). drop n (flat_map odds_by hs)) (sym odds_from) ∙ ap (drop gone) k.odds;
      texts = sym (behind_some text_by hs (256 * page)) ∙ ap (λ (n : ℕ). drop n (flat_map text_by hs)) (sym texts_from) ∙ ap (drop at) k.texts;
      within = omega (arith, lt);
      inside = omega (arith, odds_from, parts, odds_many hs, ap length k.odds);
      room = omega (arith, texts_from, pieces, texts_many hs, ap length k.texts);
      valid = k.valid;
    }

pub lead_first : {ss : List Slim} {os : List Odd} {starts ts begins : List ℕ} {hs : List Head} → IsSlim ss os starts ts begins hs →
    IsLead ss os ts 0 0 0 hs
lead_first k = record {
  slims = k.slims;
  odds = k.odds;
  texts = k.texts;
  within = omega arith;
  inside = omega arith;
  room = omega arith;
  valid = k.valid;
}

pub lead_long : {ss : List Slim} {os : List Odd} {ts : List ℕ} {passed gone at : ℕ} {hs : List Head} → IsLead ss os ts passed gone at hs →
    length ss ≡ length hs
lead_long {hs = hs} k = sym (ap length k.slims) ∙ simp length-map

some_same : {a b : Slim} → Some a ≡ Some b → a ≡ b
some_same e = cc

odd_step : (t : Bool) (o : Odd) (gone : ℕ) → (if t then gone + 1 else gone) ≡ length (if t then o ∷ [] else []) + gone
odd_step true o gone = omega arith
odd_step false o gone = omega arith

valid_at : (hs : List Head) (i : ℕ) (d : Head) → i < length hs → list_all has_text hs ≡ true → is_text (get_or hs i d).target ≡ true
valid_at hs i d lt all =
    elim (is_text (get_or hs i d).target) as (λ t. is_text (get_or hs i d).target ≡ t → t ≡ true) [
      | true ↦ λ e. refl
      | false ↦ λ e. let no = list_all_at has_text hs i d lt e in absurd (false≢true (sym no ∙ all))
    ] refl

-- the next head, its odd numbers and its target
pub record IsNext (ss : List Slim) (os : List Odd) (ts : List ℕ) (passed gone at : ℕ) (hs : List Head) (s : Slim) (o : Odd) : Type 0 where
  pub here : slice_get hs passed ≡ Some (head_told s o (drop at ts))
  pub room : at + o.target ≤ length ts
  pub valid : is_text (target_by o.target (drop at ts)) ≡ true
  pub next : (gone' : ℕ) → gone' ≡ (if s.odd then gone + 1 else gone) → IsLead ss os ts (passed + 1) gone' (at + o.target) hs

lead_one : {ss : List Slim} {os : List Odd} {ts : List ℕ} {passed gone at : ℕ} {hs : List Head} (s : Slim) (o : Odd) →
    IsLead ss os ts passed gone at hs → slice_get ss passed ≡ Some s → o ≡ first_odd s.odd (drop gone os) → IsNext ss os ts passed gone at hs s o
lead_one {ss} {os} {ts} {passed} {gone} {at} {hs} s o k is odd =
    let d : Head = head_told s o ts in
    let h : Head = get_or hs passed d in
    let lt : passed < length hs = omega (arith, slice_get_within ss passed s is, lead_long k) in
    let got : slice_get hs passed ≡ Some h = slice_get-get_or hs passed d lt in
    let same : slim_by h ≡ s =
    some_same (sym (ap (option_map slim_by) got) ∙ sym (slice_get-map slim_by hs passed)
    ∙ ap (λ (xs : List Slim). slice_get xs passed) k.slims ∙ is) in
    let more_odds : List Odd = flat_map odds_by (drop (passed + 1) hs) in
    let more_texts : List ℕ = flat_map text_by (drop (passed + 1) hs) in
    let odds_split : odds_by h ++ more_odds ≡ drop gone os = sym (ap (flat_map odds_by) (drop_more hs passed d lt)) ∙ k.odds in
    let texts_split : text_by h ++ more_texts ≡ drop at ts = sym (ap (flat_map text_by) (drop_more hs passed d lt)) ∙ k.texts in
    let valid = valid_at hs passed d lt k.valid in
    let odd_is : o ≡ odd_by h =
    odd ∙ ap (λ (s : Slim). first_odd s.odd (drop gone os)) (sym same) ∙ ap (first_odd (is_odd h)) (sym odds_split) ∙ first_back h more_odds in
    let whole : head_told s o (drop at ts) ≡ h =
    (λ i. head_told (sym same i) (odd_is i) (sym texts_split i)) ∙ told_back h more_texts valid in
    let long : o.target ≡ length (text_by h) = ap (λ (o : Odd). o.target) odd_is in
    let room : at + o.target ≤ length ts = omega (
      arith,
      long,
      k.room,
      ap length texts_split,
      length-append (text_by h) more_texts,
      length-drop at ts,
    ) in
    record {
      here = got ∙ ap Some (sym whole);
      room = room;
      valid = ap (λ (h : Head). is_text h.target) whole ∙ valid;
      next = λ gone' e.
          let count : gone' ≡ length (odds_by h) + gone =
          e ∙ ap (λ (s : Slim). if s.odd then gone + 1 else gone) (sym same) ∙ odd_step (is_odd h) (odd_by h) gone in
          record {
            slims = k.slims;
            odds = sym (drop-append_seam (odds_by h) more_odds) ∙ ap (drop (length (odds_by h))) odds_split ∙ drop-drop (length (odds_by h)) gone os
                ∙ ap (λ (n : ℕ). drop n os) (omega (arith, count));
            texts = sym (drop-append_seam (text_by h) more_texts) ∙ ap (drop (length (text_by h))) texts_split ∙ drop-drop (length (text_by h)) at ts
                ∙ ap (λ (n : ℕ). drop n ts) (omega (arith, long));
            within = omega (arith, lt);
            inside = omega (arith, count, ap length odds_split, length-append (odds_by h) more_odds, length-drop gone os, k.inside);
            room = room;
            valid = k.valid;
          };
    }

-- the same where the slim one was read with a default
pub lead_next : {ss : List Slim} {os : List Odd} {ts : List ℕ} {passed gone at : ℕ} {hs : List Head} (d : Slim) (o : Odd) →
    IsLead ss os ts passed gone at hs → passed < length hs → o ≡ first_odd (get_or ss passed d).odd (drop gone os) →
    IsNext ss os ts passed gone at hs (get_or ss passed d) o
lead_next {ss} {os} {ts} {passed} {gone} {at} {hs} d o k lt odd =
    lead_one (get_or ss passed d) o k (slice_get-get_or ss passed d (omega (arith, lt, lead_long k))) odd

-- the same where slices stand for what is kept
pub lead_same : {ss ss' : List Slim} {os os' : List Odd} {ts ts' : List ℕ} {passed gone at : ℕ} → ss' ≡ ss → os' ≡ os → ts' ≡ ts →
    IsLead ss os ts passed gone at (heads_of ss os ts) → IsLead ss' os' ts' passed gone at (heads_of ss' os' ts')
lead_same a b c k = rw a (rw b (rw c k))
