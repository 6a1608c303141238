-- What is kept of a list, put as it stands behind what is kept of another that ends where a page begins, is what is kept of both.
use Rattle.entry_pages.proofs.Prelude.{◌≡◌, ℕ, suc, ◌+◌, ◌-◌, ◌*◌, ◌^◌, ◌<◌, ◌%◌, true, inl, inr, List, [], ◌∷◌, ◌++◌, length, map, take, refl, ap, ap₂, sym}
use Rattle.entry_pages.proofs.Prelude.{subst, ◌∙◌, arith, Some, slice_get, ◌&&◌, list_all, sum_by, option_map, cases_lt, flat_map-append, take-append-le}
use Rattle.entry_pages.proofs.Prelude.{map-append, length-map, length-append, All-from_get_or, list_all-append, sum_by-append, sum_by-take-le, slice_get-map}
use Rattle.entry_pages.proofs.Prelude.{get_or_from_slice_get, take-append-add, Entry, Head, Slim, Odd, head_by, heads_from, rests_from, last_path, unpacked}
use Rattle.entry_pages.proofs.Prelude.{IsKept, AreStarts, is_path, slim_by, odds_by, odd_count, text_by, text_len, is_text, heads_of, IsSlim}
use Rattle.std.specs.Prelude.{All}
use Rattle.entry_pages.proofs.Inverse.{slice_left, kept_many, all_rests, inverse}
use Rattle.entry_pages.proofs.Passed.{any_front, any_rests}
use Rattle.entry_pages.proofs.Paged.{rests_split, rests_shift, heads_shift}
use Rattle.entry_pages.proofs.Slimmed.{odds_many, texts_many, heads_back}

slice_right : {X : Type 0} (xs ys : List X) (k : ℕ) → slice_get (xs ++ ys) (length xs + k) ≡ slice_get ys k
slice_right [] ys k = let at : 0 + k ≡ k = omega arith in ap (slice_get ys) at
slice_right (x ∷ xs) ys k =
    let at : length (x ∷ xs) + k ≡ suc (length xs + k) = omega arith in
    ap (slice_get (x ∷ (xs ++ ys))) at ∙ slice_right xs ys k

-- where the pages of both begin
starts_behind : (f : Head → ℕ) (hs gs : List Head) (starts more : List ℕ) (base k : ℕ) → AreStarts f more gs → base ≡ sum_by f hs
    → length hs ≡ 256 * length starts → k < length more →
    slice_get (starts ++ map (λ s. base + s) more) (length starts + k) ≡ Some (sum_by f (take (256 * (length starts + k)) (hs ++ gs)))
starts_behind f hs gs starts more base k b is full lt =
    let at : 256 * (length starts + k) ≡ length hs + 256 * k = omega (arith, full) in
    let front : take (256 * (length starts + k)) (hs ++ gs) ≡ hs ++ take (256 * k) gs =
    ap (λ (n : ℕ). take n (hs ++ gs)) at ∙ take-append-add hs gs (256 * k) in
    slice_right starts (map (λ (s : ℕ). base + s) more) k
    ∙ slice_get-map (λ (s : ℕ). base + s) more k
    ∙ ap (option_map (λ (s : ℕ). base + s)) (b.each k lt)
    ∙ ap (λ (n : ℕ). Some (n + sum_by f (take (256 * k) gs))) is
    ∙ ap Some (sym (sum_by-append f hs (take (256 * k) gs)))
    ∙ ap (λ (xs : List Head). Some (sum_by f xs)) (sym front)

pub starts_both : (f : Head → ℕ) (hs gs : List Head) (starts more : List ℕ) (base : ℕ) → AreStarts f starts hs → AreStarts f more gs
    → base ≡ sum_by f hs → length hs % 256 ≡ 0 → AreStarts f (starts ++ map (λ s. base + s) more) (hs ++ gs)
starts_both f hs gs starts more base a b is front =
    let full : length hs ≡ 256 * length starts = omega (arith, a.enough, a.some, front) in
    let shifted : List ℕ = map (λ (s : ℕ). base + s) more in
    let long : length shifted ≡ length more = simp length-map in
    record {
      enough = omega (arith, full, long, b.enough, length-append hs gs, length-append starts shifted);
      some = omega (arith, full, long, b.some, length-append hs gs, length-append starts shifted);
      each = λ k lt. elim (cases_lt k (length starts)) [
        | inl old ↦ slice_left starts shifted k old ∙ a.each k old
            ∙ ap (λ (xs : List Head). Some (sum_by f xs)) (sym (take-append-le (256 * k) hs gs (omega (arith, full, old))))
        | inr new ↦
            let at : length starts + (k - length starts) ≡ k = omega (arith, new) in
            let inside : k - length starts < length more = omega (arith, lt, new, long, length-append starts shifted) in
            subst (λ (n : ℕ). slice_get (starts ++ shifted) n ≡ Some (sum_by f (take (256 * n) (hs ++ gs)))) at
            (starts_behind f hs gs starts more base (k - length starts) b is full inside)
      ];
    }

-- where a page begins is inside, so a sum with it is small where that with all is
pub starts_small : (f : Head → ℕ) (gs : List Head) (more : List ℕ) (base : ℕ) → AreStarts f more gs → base + sum_by f gs < 2 ^ 64
    → All (λ s. base + s < 2 ^ 64) more
starts_small f gs more base b lt =
    All-from_get_or (λ (s : ℕ). base + s < 2 ^ 64) more 0 (λ k within.
    let here = get_or_from_slice_get more k (sum_by f (take (256 * k) gs)) 0 (b.each k within) in
    omega (arith, lt, here, sum_by-take-le f gs (256 * k)))

-- the same of starts as they are read
pub starts_fit : (f : Head → ℕ) (hs : List Head) (starts read : List ℕ) (base : ℕ) → read ≡ starts → AreStarts f starts hs → base + sum_by f hs < 2 ^ 64
    → All (λ s. base + s < 2 ^ 64) read
starts_fit f hs starts read base same begins small =
    subst (All (λ (s : ℕ). base + s < 2 ^ 64)) (sym same) (starts_small f hs starts base begins small)

-- heads
pub all_odds : {ss : List Slim} {os : List Odd} {starts ts begins : List ℕ} {hs : List Head} → IsSlim ss os starts ts begins hs →
    length os ≡ sum_by odd_count hs
all_odds {hs = hs} k = sym (ap length k.odds) ∙ odds_many hs

pub all_texts : {ss : List Slim} {os : List Odd} {starts ts begins : List ℕ} {hs : List Head} → IsSlim ss os starts ts begins hs →
    length ts ≡ sum_by text_len hs
all_texts {hs = hs} k = sym (ap length k.texts) ∙ texts_many hs

-- what is kept of two lists of heads
pub record Both (ss ss' ss'' : List Slim) (os os' os'' : List Odd) (starts starts' starts'' ts ts' ts'' begins begins' begins'' : List ℕ)
    (base from : ℕ) : Type 0 where
  pub slims : ss'' ≡ ss ++ ss'
  pub odds : os'' ≡ os ++ os'
  pub odds_begin : starts'' ≡ starts ++ map (λ s. base + s) starts'
  pub texts : ts'' ≡ ts ++ ts'
  pub texts_begin : begins'' ≡ begins ++ map (λ s. from + s) begins'
  pub odds_base : base ≡ length os
  pub texts_base : from ≡ length ts

slims_both : {ss ss' : List Slim} {os os' : List Odd} {starts starts' ts ts' begins begins' : List ℕ} {hs gs : List Head} (base from : ℕ)
    → IsSlim ss os starts ts begins hs → IsSlim ss' os' starts' ts' begins' gs → base ≡ length os → from ≡ length ts → length hs % 256 ≡ 0 →
    IsSlim (ss ++ ss') (os ++ os') (starts ++ map (λ s. base + s) starts') (ts ++ ts') (begins ++ map (λ s. from + s) begins') (hs ++ gs)
slims_both {ss} {ss'} {os} {os'} {starts} {starts'} {ts} {ts'} {begins} {begins'} {hs} {gs} base from k m is at front = record {
  slims = map-append slim_by hs gs ∙ ap₂ ◌++◌ k.slims m.slims;
  odds = flat_map-append odds_by hs gs ∙ ap₂ ◌++◌ k.odds m.odds;
  odds_begin = starts_both odd_count hs gs starts starts' base k.odds_begin m.odds_begin (is ∙ all_odds k) front;
  texts = flat_map-append text_by hs gs ∙ ap₂ ◌++◌ k.texts m.texts;
  texts_begin = starts_both text_len hs gs begins begins' from k.texts_begin m.texts_begin (at ∙ all_texts k) front;
  valid = list_all-append (λ (h : Head). is_text h.target) hs gs ∙ ap₂ ◌&&◌ k.valid m.valid;
}

heads_same : {ss ss' : List Slim} {os os' : List Odd} {starts starts' ts ts' begins begins' : List ℕ} {hs gs : List Head} →
    IsSlim ss os starts ts begins hs → IsSlim ss' os' starts' ts' begins' gs → heads_of (ss ++ ss') (os ++ os') (ts ++ ts') ≡ hs ++ gs
heads_same {ss} {ss'} {os} {os'} {starts} {starts'} {ts} {ts'} {begins} {begins'} {hs} {gs} k m =
    (λ i. heads_of (sym (map-append slim_by hs gs ∙ ap₂ ◌++◌ k.slims m.slims) i)
    (sym (flat_map-append odds_by hs gs ∙ ap₂ ◌++◌ k.odds m.odds) i)
    (sym (flat_map-append text_by hs gs ∙ ap₂ ◌++◌ k.texts m.texts) i))
    ∙ heads_back (hs ++ gs) (list_all-append (λ (h : Head). is_text h.target) hs gs ∙ ap₂ ◌&&◌ k.valid m.valid)

pub heads_both : {ss ss' ss'' : List Slim} {os os' os'' : List Odd} {starts starts' starts'' ts ts' ts'' begins begins' begins'' : List ℕ} {base from : ℕ}
    → IsSlim ss os starts ts begins (heads_of ss os ts) → IsSlim ss' os' starts' ts' begins' (heads_of ss' os' ts')
    → Both ss ss' ss'' os os' os'' starts starts' starts'' ts ts' ts'' begins begins' begins'' base from
    → heads_of ss'' os'' ts'' ≡ heads_of ss os ts ++ heads_of ss' os' ts'
heads_both k m b = (λ i. heads_of (b.slims i) (b.odds i) (b.texts i)) ∙ heads_same k m

pub slims_put : {ss ss' ss'' : List Slim} {os os' os'' : List Odd} {starts starts' starts'' ts ts' ts'' begins begins' begins'' : List ℕ} {base from : ℕ}
    → IsSlim ss os starts ts begins (heads_of ss os ts) → IsSlim ss' os' starts' ts' begins' (heads_of ss' os' ts')
    → Both ss ss' ss'' os os' os'' starts starts' starts'' ts ts' ts'' begins begins' begins'' base from → length (heads_of ss os ts) % 256 ≡ 0
    → IsSlim ss'' os'' starts'' ts'' begins'' (heads_of ss'' os'' ts'')
slims_put {base = base} {from = from} k m b front =
    rw b.slims (rw b.odds (rw b.odds_begin (rw b.texts (rw b.texts_begin (rw (heads_same k m) (slims_both base from k m b.odds_base b.texts_base front))))))

-- entries
heads_split : (place : ℕ) (before : List ℕ) (xs ys : List Entry)
    → heads_from place before (xs ++ ys) ≡ heads_from place before xs ++ heads_from (place + length xs) (last_path before xs) ys
heads_split place before [] ys = let at : place + 0 ≡ place = omega arith in ap (λ (n : ℕ). heads_from n before ys) (sym at)
heads_split place before (x ∷ xs) ys =
    let at : place + 1 + length xs ≡ place + length (x ∷ xs) = omega arith in
    ap (λ (hs : List Head). head_by place before x ∷ hs) (heads_split (place + 1) x.path xs ys
    ∙ ap (λ (n : ℕ). heads_from (place + 1) x.path xs ++ heads_from n (last_path x.path xs) ys) at)

last_split : (before : List ℕ) (xs ys : List Entry) → 0 < length ys → last_path before (xs ++ ys) ≡ last_path [] ys
last_split before [] [] some = absurd (omega arith)
last_split before [] (y ∷ ys) some = refl
last_split before (x ∷ xs) ys some = last_split x.path xs ys some

all_both : (xs ys : List Entry) → list_all (λ e. is_path e.path) xs ≡ true → list_all (λ e. is_path e.path) ys ≡ true
    → list_all (λ e. is_path e.path) (xs ++ ys) ≡ true
all_both xs ys a b = list_all-append (λ (e : Entry). is_path e.path) xs ys ∙ ap₂ ◌&&◌ a b

pub kept_both : {hs hs' : List Head} {starts starts' bytes bytes' path path' : List ℕ} {xs ys : List Entry} (base : ℕ)
    → IsKept hs starts bytes path xs → IsKept hs' starts' bytes' path' ys → base ≡ length bytes → length xs % 256 ≡ 0 → 0 < length ys →
    IsKept (hs ++ hs') (starts ++ map (λ s. base + s) starts') (bytes ++ bytes') path' (xs ++ ys)
kept_both {hs} {hs'} {starts} {starts'} {bytes} {bytes'} {path} {path'} {xs} {ys} base k m is front some =
    let before : List ℕ = last_path [] xs in
    let at : (0 + length xs) % 256 ≡ 0 % 256 = omega (arith, front) in
    let heads : heads_from (0 + length xs) before ys ≡ hs' = heads_shift (0 + length xs) 0 before ys at ∙ any_front before ys ∙ m.heads in
    let rests : rests_from (0 + length xs) before ys ≡ bytes' = rests_shift (0 + length xs) 0 before ys at ∙ any_rests before ys ∙ m.rests in
    let full : length hs % 256 ≡ 0 = ap (λ (n : ℕ). n % 256) (kept_many k) ∙ front in
    record {
      paths = all_both xs ys k.paths m.paths;
      heads = heads_split 0 [] xs ys ∙ ap₂ ◌++◌ k.heads heads;
      rests = rests_split 0 [] xs ys ∙ ap₂ ◌++◌ k.rests rests;
      last = last_split [] xs ys some ∙ m.last;
      begins = starts_both (λ (h : Head). h.rest) hs hs' starts starts' base k.begins m.begins (is ∙ all_rests k) full;
    }

told_kept : {hs : List Head} {starts bytes path : List ℕ} {entries : List Entry} → IsKept hs starts bytes path entries → unpacked [] hs bytes ≡ entries
told_kept {entries = entries} k = ap₂ (unpacked []) (sym k.heads) (sym k.rests) ∙ inverse 0 [] entries

-- what is put, where no entry is unpacked
pub record ArePut (hs hs' hs'' : List Head) (starts starts' starts'' bytes bytes' bytes'' path' path'' : List ℕ) (base : ℕ) : Type 0 where
  pub front : length (unpacked [] hs bytes) % 256 ≡ 0
  pub some : 0 < length (unpacked [] hs' bytes')
  pub behind : base ≡ length bytes
  pub heads : hs'' ≡ hs ++ hs'
  pub begins : starts'' ≡ starts ++ map (λ s. base + s) starts'
  pub rests : bytes'' ≡ bytes ++ bytes'
  pub last : path'' ≡ path'

pub kept_put : {hs hs' hs'' : List Head} {starts starts' starts'' bytes bytes' bytes'' path path' path'' : List ℕ} {base : ℕ}
    → IsKept hs starts bytes path (unpacked [] hs bytes) → IsKept hs' starts' bytes' path' (unpacked [] hs' bytes')
    → ArePut hs hs' hs'' starts starts' starts'' bytes bytes' bytes'' path' path'' base → IsKept hs'' starts'' bytes'' path'' (unpacked [] hs'' bytes'')
kept_put {base = base} k m p =
    let both = kept_both base k m p.behind p.front p.some in
    rw p.heads (rw p.rests (rw p.begins (rw p.last (rw (told_kept both) both))))

pub told_put : {hs hs' hs'' : List Head} {starts starts' starts'' bytes bytes' bytes'' path path' path'' : List ℕ} {base : ℕ}
    → IsKept hs starts bytes path (unpacked [] hs bytes) → IsKept hs' starts' bytes' path' (unpacked [] hs' bytes')
    → ArePut hs hs' hs'' starts starts' starts'' bytes bytes' bytes'' path' path'' base
    → unpacked [] hs'' bytes'' ≡ unpacked [] hs bytes ++ unpacked [] hs' bytes'
told_put {base = base} k m p = ap₂ (unpacked []) p.heads p.rests ∙ told_kept (kept_both base k m p.behind p.front p.some)
