-- What a path shares with a wanted one follows from what the path before it shares with it.
use Rattle.entry_pages.proofs.Prelude.{◌≡◌, ℕ, suc, ◌+◌, ◌<◌, ◌≤◌, ◌%◌, Bool, true, false, cond, List, [], ◌∷◌, ◌++◌, length, take, drop, refl, ap, sym, ◌∙◌}
use Rattle.entry_pages.proofs.Prelude.{arith, nat_eq, ◌==◌, common_prefix_len, position_or_len, position, ◌&&◌, not, nat_lt, Some, None, slice_get}
use Rattle.entry_pages.proofs.Prelude.{slice_get_within, get_or_from_slice_get, pointwise, get_or, drop_more, take_more, length-drop, length-append}
use Rattle.entry_pages.proofs.Prelude.{common_prefix_len-le, take-append_seam, nat_tests, Entry, Fine, Head, shared_by, rest_by, head_by, heads_from}
use Rattle.entry_pages.proofs.Prelude.{rests_from, last_path, same_after, place_of, IsSeek, IsKept, exact_unsigned_eq}
use Rattle.entry_pages.proofs.Inverse.{last_more, kept_many, shared_short, rests_behind}
use Rattle.entry_pages.proofs.Passed.{first_head, rest_heads}

-- two lists from their first elements on
both_on : (x y : ℕ) (xs ys : List ℕ) → nat_eq x y ≡ true → common_prefix_len nat_eq (x ∷ xs) (y ∷ ys) ≡ 1 + common_prefix_len nat_eq xs ys
both_on x y xs ys e = ap (λ (t : Bool). cond t (1 + common_prefix_len nat_eq xs ys) 0) e

both_off : (x y : ℕ) (xs ys : List ℕ) → nat_eq x y ≡ false → common_prefix_len nat_eq (x ∷ xs) (y ∷ ys) ≡ 0
both_off x y xs ys e = ap (λ (t : Bool). cond t (1 + common_prefix_len nat_eq xs ys) 0) e

drop_suc : (n x : ℕ) (xs : List ℕ) → drop (1 + n) (x ∷ xs) ≡ drop n xs
drop_suc n x xs = let one : 1 + n ≡ suc n = omega arith in ap (λ (k : ℕ). drop k (x ∷ xs)) one

differ : (x y z : ℕ) → nat_eq x y ≡ true → nat_eq x z ≡ false → nat_eq y z ≡ false
differ x y z e f = let same = exact_unsigned_eq x y e in ap (λ (y : ℕ). nat_eq y z) (sym same) ∙ f

agree : (x y z : ℕ) → nat_eq x y ≡ true → nat_eq x z ≡ true → nat_eq y z ≡ true
agree x y z e f = let same = exact_unsigned_eq x y e in ap (λ (y : ℕ). nat_eq y z) (sym same) ∙ f

-- the wanted one leaves the path before it sooner than the path does
pub shares_less : (b p w : List ℕ) → common_prefix_len nat_eq b w < common_prefix_len nat_eq b p →
    common_prefix_len nat_eq p w ≡ common_prefix_len nat_eq b w
shares_less [] p w lt = absurd (omega (arith, lt))
shares_less (x ∷ b) [] w lt = absurd (omega (arith, lt))
shares_less (x ∷ b) (y ∷ p) [] lt = refl
shares_less (x ∷ b) (y ∷ p) (z ∷ w) lt =
    elim (nat_eq x y) as (λ t. nat_eq x y ≡ t → common_prefix_len nat_eq (y ∷ p) (z ∷ w) ≡ common_prefix_len nat_eq (x ∷ b) (z ∷ w)) [
      | false ↦ λ e. absurd (omega (arith, lt, both_off x y b p e))
      | true ↦ λ e.
          elim (nat_eq x z) as (λ t. nat_eq x z ≡ t → common_prefix_len nat_eq (y ∷ p) (z ∷ w) ≡ common_prefix_len nat_eq (x ∷ b) (z ∷ w)) [
            | false ↦ λ f. both_off y z p w (differ x y z e f) ∙ sym (both_off x z b w f)
            | true ↦ λ f. both_on y z p w (agree x y z e f)
                ∙ ap (λ (n : ℕ). 1 + n) (shares_less b p w (omega (arith, lt, both_on x y b p e, both_on x z b w f))) ∙ sym (both_on x z b w f)
          ] refl
    ] refl

-- and no sooner
pub shares_more : (b p w : List ℕ) → common_prefix_len nat_eq b p ≤ common_prefix_len nat_eq b w
    → common_prefix_len nat_eq p w
    ≡ common_prefix_len nat_eq b p + common_prefix_len nat_eq (drop (common_prefix_len nat_eq b p) p)
    (drop (common_prefix_len nat_eq b p) w)
shares_more [] p w le = omega arith
shares_more (x ∷ b) [] w le = omega arith
shares_more (x ∷ b) (y ∷ p) [] le =
    let none : common_prefix_len nat_eq (x ∷ b) (y ∷ p) ≡ 0 = omega (arith, le) in
    rw none (omega arith)
shares_more (x ∷ b) (y ∷ p) (z ∷ w) le =
    elim (nat_eq x y) as (λ t. nat_eq x y ≡ t
    → common_prefix_len nat_eq (y ∷ p) (z ∷ w)
    ≡ common_prefix_len nat_eq (x ∷ b) (y ∷ p) + common_prefix_len nat_eq (drop (common_prefix_len nat_eq (x ∷ b) (y ∷ p)) (y ∷ p))
    (drop (common_prefix_len nat_eq (x ∷ b) (y ∷ p)) (z ∷ w))) [
      | false ↦ λ e. rw (both_off x y b p e) (omega arith)
      | true ↦ λ e. elim (nat_eq x z) as
          (λ t. nat_eq x z ≡ t → common_prefix_len nat_eq (y ∷ p) (z ∷ w)
          ≡ common_prefix_len nat_eq (x ∷ b) (y ∷ p) + common_prefix_len nat_eq (drop (common_prefix_len nat_eq (x ∷ b) (y ∷ p)) (y ∷ p))
          (drop (common_prefix_len nat_eq (x ∷ b) (y ∷ p)) (z ∷ w))) [
            | false ↦ λ f. absurd (omega (arith, le, both_on x y b p e, both_off x z b w f))
            | true ↦ λ f.
                let n : ℕ = common_prefix_len nat_eq b p in
                let more = shares_more b p w (omega (arith, le, both_on x y b p e, both_on x z b w f)) in
                let whole = both_on y z p w (agree x y z e f) in
                let one = drop_suc n y p in
                let two = drop_suc n z w in
                rw (both_on x y b p e) (rw one (rw two (omega (arith, whole, more))))
          ] refl
    ] refl

-- a path is the wanted one where all of both is shared
pub equal_by : (p w : List ℕ) → pointwise nat_eq p w ≡ (common_prefix_len nat_eq p w == length w && length p == common_prefix_len nat_eq p w)
equal_by [] [] = refl
equal_by [] (y ∷ w) = grind (arith, nat_tests)
equal_by (x ∷ p) [] = grind (arith, nat_tests)
equal_by (x ∷ p) (y ∷ w) =
    elim (nat_eq x y) as (λ t. (t && pointwise nat_eq p w)
    ≡ (cond t (1 + common_prefix_len nat_eq p w) 0 == length (y ∷ w)
    && length (x ∷ p) == cond t (1 + common_prefix_len nat_eq p w) 0)) [
      | true ↦ let rest = equal_by p w in grind (arith, nat_tests, rest)
      | false ↦ grind (arith, nat_tests)
    ]

-- the shared bytes, one path further
pub shares_next : (place : ℕ) (before path wanted : List ℕ)
    → common_prefix_len nat_eq path wanted
    ≡ same_after (common_prefix_len nat_eq before wanted) (shared_by place before path) (rest_by place before path) wanted
shares_next place before path wanted =
    elim (place % 256 == 0) as
    (λ t. common_prefix_len nat_eq path wanted
    ≡ same_after (common_prefix_len nat_eq before wanted) (cond t 0 (common_prefix_len nat_eq before path))
    (drop (cond t 0 (common_prefix_len nat_eq before path)) path) wanted) [
      | true ↦ grind (arith, nat_tests)
      | false ↦ elim (nat_lt (common_prefix_len nat_eq before wanted) (common_prefix_len nat_eq before path)) as
          (λ t. nat_lt (common_prefix_len nat_eq before wanted) (common_prefix_len nat_eq before path) ≡ t
          → common_prefix_len nat_eq path wanted
          ≡ cond t (common_prefix_len nat_eq before wanted)
          (common_prefix_len nat_eq before path + common_prefix_len nat_eq (drop (common_prefix_len nat_eq before path) path)
          (drop (common_prefix_len nat_eq before path) wanted))) [
            | true ↦ λ e. shares_less before path wanted (grind (arith, nat_tests, e))
            | false ↦ λ e. shares_more before path wanted (grind (arith, nat_tests, e))
          ] refl
    ]

place_at : (entries : List Entry) (p : Entry → Bool) (k : ℕ) → position_or_len p entries ≡ k → k < length entries → position p entries ≡ Some k
place_at entries p k e lt =
    let yes : nat_lt k (length entries) ≡ true = grind (arith, nat_tests, lt) in
    ap (λ (n : ℕ). cond (nat_lt n (length entries)) (Some n) None) e ∙ ap (λ (t : Bool). cond t (Some k) None) yes

blank : Entry
blank = record { path = []; stat = None; mark = Fine; unnamed = 0; far = 0; target = None }

abbrev is_wanted : List ℕ → Entry → Bool
is_wanted wanted e = pointwise nat_eq e.path wanted

pub seek_first : (hs : List Head) (starts bytes path wanted : List ℕ) (entries : List Entry) → IsKept hs starts bytes path entries
    → IsSeek hs bytes wanted 0 0 0 entries
seek_first hs starts bytes path wanted entries k = record {
  many = sym (kept_many k);
  heads = k.heads;
  rests = k.rests;
  inside = omega arith;
  shared = refl;
  none = omega arith;
}

take_some : (xs : List ℕ) (n : ℕ) (ys more : List ℕ) → n ≡ length ys → ys ++ more ≡ xs → take n xs ≡ ys
take_some xs n ys more e f = ap (λ (n : ℕ). take n xs) e ∙ ap (take (length ys)) (sym f) ∙ take-append_seam ys more

pub record IsFound (hs : List Head) (bytes wanted : List ℕ) (k at same next : ℕ) (entries : List Entry) (h : Head) : Type 0 where
  pub room : at + h.rest ≤ length bytes
  pub found : (next == length wanted && h.shared + h.rest == next) ≡ true → place_of wanted entries ≡ Some k
  pub more : (next == length wanted && h.shared + h.rest == next) ≡ false → IsSeek hs bytes wanted (k + 1) (at + h.rest) next entries

pub seek_step : {hs : List Head} {bytes wanted : List ℕ} {k at same : ℕ} {entries : List Entry} (next n : ℕ) (h : Head)
    → IsSeek hs bytes wanted k at same entries →
    slice_get hs k ≡ Some h → n ≡ h.rest → next ≡ same_after same h.shared (take n (drop at bytes)) wanted →
    IsFound hs bytes wanted k at same next entries h
seek_step {hs} {bytes} {wanted} {k} {at} {same} {entries} next n h s sg e taken =
    let lt : k < length hs = slice_get_within hs k h sg in
    let en : next ≡ same_after same h.shared (take h.rest (drop at bytes)) wanted =
    taken ∙ ap (λ (n : ℕ). same_after same h.shared (take n (drop at bytes)) wanted) e in
    let split_heads : drop k hs ≡ h ∷ drop (k + 1) hs =
    drop_more hs k h lt ∙ ap (λ (g : Head). g ∷ drop (k + 1) hs) (get_or_from_slice_get hs k h h sg) in
    let x : Entry = get_or entries k blank in
    let xs : List Entry = drop (k + 1) entries in
    let before : List ℕ = last_path [] (take k entries) in
    let lx : k < length entries = omega (arith, lt, s.many) in
    let split : drop k entries ≡ x ∷ xs = drop_more entries k blank lx in
    let last : last_path [] (take (k + 1) entries) ≡ x.path = ap (last_path []) (take_more entries k blank lx) ∙ last_more [] (take k entries) x in
    let heads : heads_from k before (x ∷ xs) ≡ h ∷ drop (k + 1) hs = ap (heads_from k before) (sym split) ∙ s.heads ∙ split_heads in
    let head : head_by k before x ≡ h = first_head _ _ _ _ heads in
    let rests : rest_by k before x.path ++ rests_from (k + 1) x.path xs ≡ drop at bytes = ap (rests_from k before) (sym split) ∙ s.rests in
    let long : h.rest ≡ length (rest_by k before x.path) = ap (λ (h : Head). h.rest) (sym head) in
    let front : h.shared ≡ shared_by k before x.path = ap (λ (h : Head). h.shared) (sym head) in
    let room : at + h.rest ≤ length bytes =
    omega (
      arith,
      long,
      s.inside,
      length-drop at bytes,
      ap length rests,
      length-append (rest_by k before x.path) (rests_from (k + 1) x.path xs),
    ) in
    let rest : take h.rest (drop at bytes) ≡ rest_by k before x.path =
    take_some (drop at bytes) h.rest (rest_by k before x.path) (rests_from (k + 1) x.path xs) long rests in
    let shares : next ≡ common_prefix_len nat_eq x.path wanted = en
    ∙ ap (λ (n : ℕ). same_after n h.shared (take h.rest (drop at bytes)) wanted) s.shared
    ∙ ap (λ (n : ℕ). same_after (common_prefix_len nat_eq before wanted) n (take h.rest (drop at bytes)) wanted) front
    ∙ ap (λ (r : List ℕ). same_after (common_prefix_len nat_eq before wanted) (shared_by k before x.path) r wanted) rest
    ∙ sym (shares_next k before x.path wanted) in
    let whole : h.shared + h.rest ≡ length x.path =
    omega (arith, long, front, shared_short k before x.path, length-drop (shared_by k before x.path) x.path) in
    let test : pointwise nat_eq x.path wanted ≡ (next == length wanted && h.shared + h.rest == next) = equal_by x.path wanted
    ∙ ap (λ (n : ℕ). n == length wanted && length x.path == n) (sym shares)
    ∙ ap (λ (n : ℕ). next == length wanted && n == next) (sym whole) in
    let here : position_or_len (is_wanted wanted) (drop k entries)
    ≡ cond (not (pointwise nat_eq x.path wanted)) (1 + position_or_len (is_wanted wanted) xs) 0 =
    ap (position_or_len (is_wanted wanted)) split in
    record {
      room = room;
      found = λ e.
          let zero_here : position_or_len (is_wanted wanted) (drop k entries) ≡ 0 = here
          ∙ ap (λ (t : Bool). cond (not t) (1 + position_or_len (is_wanted wanted) xs) 0) (test ∙ e) in
          let is : position_or_len (is_wanted wanted) entries ≡ k = omega (arith, s.none, zero_here) in
          place_at entries (is_wanted wanted) k is lx;
      more = λ e.
          let one_here : position_or_len (is_wanted wanted) (drop k entries) ≡ 1 + position_or_len (is_wanted wanted) xs = here
          ∙ ap (λ (t : Bool). cond (not t) (1 + position_or_len (is_wanted wanted) xs) 0) (test ∙ e) in
          record {
            many = s.many;
            heads = ap (λ (p : List ℕ). heads_from (k + 1) p xs) last ∙ rest_heads _ _ _ _ heads;
            rests = rests_behind bytes at h.rest k before _ x.path xs last long rests;
            inside = room;
            shared = shares ∙ ap (λ (p : List ℕ). common_prefix_len nat_eq p wanted) (sym last);
            none = omega (arith, s.none, one_here);
          };
    }

-- before what the path shares is known
pub seek_room : {hs : List Head} {bytes wanted : List ℕ} {k at same : ℕ} {entries : List Entry} (h : Head) → IsSeek hs bytes wanted k at same entries →
    slice_get hs k ≡ Some h → at + h.rest ≤ length bytes
seek_room h s sg = (seek_step _ _ h s sg refl refl).room

pub seek_short : {hs : List Head} {bytes wanted : List ℕ} {k at same : ℕ} {entries : List Entry} → IsSeek hs bytes wanted k at same entries
    → same ≤ length wanted
seek_short {hs} {bytes} {wanted} {k} {at} {same} {entries} s = omega (arith, s.shared, (common_prefix_len-le nat_eq (last_path [] (take k entries)) wanted).1)
