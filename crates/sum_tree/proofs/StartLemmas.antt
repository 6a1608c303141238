-- The table of sums at the start.
use Rattle.sum_tree.proofs.Prelude.{◌≡◌, ℕ, zero, suc, ◌<◌, ◌≤◌, refl, sym, subst, ap, ◌∙◌, arith, false, List, [], map, replicate, length, get_or}
use Rattle.sum_tree.proofs.Prelude.{range_with_len, ext_get_or, get_or-replicate, length-replicate, length-map-range_with_len, get_or-map-range_with_len}
use Rattle.sum_tree.proofs.Prelude.{opening, uncounted, RankSum, first_seat, Rule, row_of, told_of, seen_of, fresh, opened}
use Rattle.sum_tree.specs.Plain.{IsSeat}
use Rattle.sum_tree.specs.Plain.{fresh as fresh_shown}
use Rattle.sum_tree.proofs.Begins.{fresh_is_seat}
use Rattle.sum_tree.proofs.WordSteps.{face, rule_with}

pub never : (n r : ℕ) → get_or (replicate n false) r false ≡ false
never zero r = refl
never (suc n) zero = refl
never (suc n) (suc r) = never n r

pub starts : (n width : ℕ) (ws : List ℕ) → 0 < n → n ≤ 64 → 2 ≤ width → width ≤ 64 → ws ≡ replicate n 0 → Rule n width (opening ws [] (opened n width))
starts n width ws some_rank few wide narrow e =
    let rows : map (λ (r : ℕ). row_of (fresh n width r)) (range_with_len 0 n) ≡ replicate n uncounted =
    ext_get_or uncounted (map (λ (r : ℕ). row_of (fresh n width r)) (range_with_len 0 n)) (replicate n uncounted)
    (length-map-range_with_len (λ (r : ℕ). row_of (fresh n width r)) 0 n ∙ sym (length-replicate n uncounted))
    (λ i h. let below : i < n = (let q = length-map-range_with_len (λ (r : ℕ). row_of (fresh n width r)) 0 n in omega arith) in
    get_or-map-range_with_len (λ (r : ℕ). row_of (fresh n width r)) 0 n i i uncounted below (omega arith)
    ∙ sym (get_or-replicate n i uncounted uncounted below)) in
    let seat : IsSeat (told_of n width (fresh n width)) (fresh_shown n width 0) =
    subst (λ (xs : List RankSum). IsSeat (record { width = width; ranks = xs }) (fresh_shown n width 0)) (sym rows)
    (fresh_is_seat n width 0 few wide narrow some_rank) in
    rule_with n width _ (fresh n width) (first_seat face n (fresh n width) (opened n width) some_rank refl refl refl) (ap length e ∙ length-replicate n 0)
    record {
      named = λ r h. (refl, refl, refl);
      sized = λ r h. (length-replicate n 0, length-replicate n false);
      words = λ r h. ap (λ xs. get_or xs r 0) e ∙ get_or-replicate n r 0 0 h;
      rule = seat.rule;
      sound = seat.shown.sound;
      seen = λ r c h g. (let z : seen_of (fresh n width r) c ≡ 0 = get_or-replicate n c 0 0 g in omega (arith, z));
      finals = λ r c h g f. absurd (let z = never n c in cc);
      low = λ r h. omega arith;
    }
