-- A board on which no rank has done anything, and its seats.
use Rattle.post_board.proofs.Prelude.{◌≡◌, ℕ, zero, suc, ◌<◌, ◌≤◌, ◌≢◌, ◌∷◌, inr, refl, sym, subst, ap, ◌∙◌, arith, Bool, true, false, List, length, map}
use Rattle.post_board.proofs.Prelude.{replicate, get_or, Option, Some, None, length-replicate, get_or-replicate, get_or_past, dite, dec_le, Colour, White}
use Rattle.post_board.proofs.Prelude.{Black, At, Over, Shown, vacant, Place, no_place, Sound, fresh_place, fresh_told, place_of, told_of, no_rank, fresh_rank}
use Rattle.post_board.proofs.Prelude.{plain, shown_by, HereFits, Match, Fits, HaltFits, IsSeat, Rest, Served, PlainRank, PlainSeat}
use Rattle.post_board.specs.Fresh.{fresh}
use Rattle.post_board.specs.Plain.{OwnFits}

module _ {A : Type 0} where
  -- what holds of x and of the default holds of each element that is read
  pub read_of_copies : (P : A → Type 0) (n i : ℕ) (x d : A) → P x → P d → P (get_or (replicate n x) i d)
  read_of_copies P n i x d here past = dite (dec_le n i)
      (λ h. subst P (sym (get_or_past (replicate n x) i d (subst (λ (k : ℕ). k ≤ i) (sym (length-replicate n x)) h))) past)
      (λ h. subst P (sym (get_or-replicate n i x d (omega arith))) here)

map_copies : {A B : Type 0} (f : A → B) (n : ℕ) (x : A) → map f (replicate n x) ≡ replicate n (f x)
map_copies f zero x = refl
map_copies f (suc n) x = ap (λ xs. f x ∷ xs) (map_copies f n x)

pub told_at_first : (n : ℕ) → told_of (replicate n fresh_rank) (At 0 Black) ≡ fresh_told n
told_at_first n =
    ap (λ (ps : List Place). record { places = ps; token = At 0 Black; halt = false; stops = replicate (length (replicate n fresh_rank)) false })
    (map_copies place_of n fresh_rank)
    ∙ ap (λ (k : ℕ). record { places = replicate n fresh_place; token = At 0 Black; halt = false; stops = replicate k false }) (length-replicate n fresh_rank)

-- a white token stands nowhere at first
not_white : {X : Type 0} → At 0 Black ≡ At 0 White → X
not_white e = cc

stands_at_0 : (p : ℕ) (c : Colour) → At 0 Black ≡ At p c → p ≡ 0
stands_at_0 p c e = cc

pub sound_at_first : (n : ℕ) → 0 < n → Sound (fresh_told n)
sound_at_first n some = record {
  token = inr (inr refl);
  sane = record {
    alone = λ sole white. not_white white;
    tried = λ r. read_of_copies (λ (x : Place). x.tried ≡ true → x.busy ≡ false) n r fresh_place no_place (λ e. cc) (λ e. cc);
    waits = λ r. read_of_copies (λ (x : Place). x.mail ≢ vacant → x.busy ≡ false) n r fresh_place no_place (λ e. absurd (e refl)) (λ e. refl);
    over = λ r. read_of_copies (λ (x : Place). x.ended ≡ true → At 0 Black ≡ Over) n r fresh_place no_place (λ e. cc) (λ e. cc);
    within = λ p c e. (let first = stands_at_0 p c e in let size = length-replicate n fresh_place in omega arith);
  };
}

never_served : (n r k : ℕ) → (plain (replicate n fresh_rank) r).mailbox ≢ Served k
never_served n r k = read_of_copies (λ (x : PlainRank). x.mailbox ≢ Served k) n r fresh_rank no_rank (λ e. cc) (λ e. cc)

serves_nobody : (n r : ℕ) → get_or (replicate n false) r false ≢ true
serves_nobody n r = read_of_copies (λ (b : Bool). b ≢ true) n r false false (λ e. cc) (λ e. cc)

fits_at_first : (n k : ℕ) (s : PlainSeat) → k < n → shown_by s ≡ fresh n k None → Fits (replicate n fresh_rank) (At 0 Black) s
fits_at_first n k s below shown =
    let number : s.number ≡ k = ap (λ (x : Shown). x.number) shown in
    let size : length (replicate n fresh_rank) ≡ n = length-replicate n fresh_rank in
    let asked : s.asked ≡ None = ap (λ (x : Shown). x.asked) shown in
    let serves : s.serves.items ≡ replicate n false = ap (λ (x : Shown). x.serves) shown in
    let rank : plain (replicate n fresh_rank) s.number ≡ fresh_rank = get_or-replicate n s.number fresh_rank no_rank (omega arith) in
    record {
      inside = omega arith;
      sized = ap (λ (x : Shown). x.n) shown ∙ sym size;
      wide = ap length serves ∙ length-replicate n false ∙ sym size;
      matches = subst (λ (x : PlainRank). Match x s) (sym rank) (
        sym (ap (λ (x : Shown). x.busy) shown),
        sym (ap (λ (x : Shown). x.colour) shown),
        sym (ap (λ (x : Shown). x.tried) shown),
        sym (ap (λ (x : Shown). x.ended) shown),
        subst (λ (a : Option ℕ). OwnFits a Rest) (sym asked) refl,
      );
      away = λ v e. (let none : None ≡ Some v = sym asked ∙ e in cc);
      serves = λ r e. absurd (serves_nobody n r (ap (λ (xs : List Bool). get_or xs r false) (sym serves) ∙ e));
      served = λ r e. absurd (never_served n r s.number e);
      here = subst (λ (h : Option Colour). HereFits h s.number (At 0 Black)) (sym (ap (λ (x : Shown). x.here) shown)) tt;
    }

pub seat_at_first : (n k : ℕ) (s : PlainSeat) → k < n → shown_by s ≡ fresh n k None → IsSeat (replicate n fresh_rank) (At 0 Black) s
seat_at_first n k s below shown = (fits_at_first n k s below shown, subst Sound (sym (told_at_first n)) (sound_at_first n (omega arith)))

-- no seat knows of a halt or of a stop at first
pub halts_at_first : (n k : ℕ) (s : PlainSeat) (stops : List Bool) → stops ≡ replicate n false → k < n → shown_by s ≡ fresh n k None
    → HaltFits None stops (replicate n fresh_rank) s
halts_at_first n k s stops none below shown = record {
  many = ap length none ∙ length-replicate n false ∙ sym (length-replicate n fresh_rank);
  own = ap (λ (xs : List Bool). get_or xs s.number false) none ∙ read_of_copies (λ (b : Bool). b ≡ false) n s.number false false refl refl
      ∙ sym (ap (λ (x : Shown). x.stopped) shown);
  gone = λ r e. absurd (serves_nobody n r (ap (λ (xs : List Bool). get_or xs r false) (sym none) ∙ e));
  halted = λ e. (let f : false ≡ true = sym (ap (λ (x : Shown). x.halted) shown) ∙ e in cc);
  knows = λ e. (let f : false ≡ true = sym (ap (λ (x : Shown). x.knows_halt) shown) ∙ e in cc);
  within = λ r e. cc;
  by = λ e. cc;
}
