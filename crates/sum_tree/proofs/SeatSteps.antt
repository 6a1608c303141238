-- Seats are made and taken in.
use Rattle.sum_tree.proofs.Prelude.{◌≡◌, ℕ, ◌<◌, refl, sym, subst, ap, ◌∙◌, arith, true, none, Splits, Joins, step, Allows, Rule, fresh, dealing, dealt_out}
use Rattle.sum_tree.proofs.Prelude.{both, spent, Known, View, seat_deals, seat_joins, SeatState, LastLookTells}
use Rattle.sum_tree.proofs.WordSteps.{seats_of, rule_with, allows_sum}

-- split seat: the next seat is made
pub deals : (n width id : ℕ) (v : View) → 0 < v.made → v.made < v.own.n → v.live ≡ true → Splits (Rule n width) id v (dealing v) (dealt_out v)
deals n width id v first room live s o here =
    let was = o.seated id v here live in
    let size : v.own.n ≡ n = ap (λ (x : Known). x.n) (sym was.1) ∙ (o.moment.named id was.0).1 in
    let breadth : v.own.width ≡ width = ap (λ (x : Known). x.width) (sym was.1) ∙ (o.moment.named id was.0).2 in
    rule_with n width _ o.known
    (seat_deals (seats_of n width s o) id v here live (dealing v) (dealt_out v) first (omega arith) refl refl refl
    (ap (λ (m : ℕ). fresh m width v.made) (sym size) ∙ ap (λ (m : ℕ). fresh v.own.n m v.made) (sym breadth)) refl refl)
    o.wide o.moment

-- join seat: one seat takes another in
pub joins : (n width id other : ℕ) (v w : View) → v.live ≡ true → w.live ≡ true → Joins (Rule n width) id v other w (both v w) spent
joins n width id other v w live lives s o here apart there =
    rule_with n width _ o.known
    (seat_joins (seats_of n width s o) id v here live other w (both v w) spent (λ r h. (o.moment.named r h).0) apart there lives
    refl refl refl refl refl refl)
    o.wide o.moment

pub joins_at : (n width : ℕ) (key : ℕ × ℕ) (id other : ℕ) (v w : View) → key ≡ (n, width) → v.live ≡ true → w.live ≡ true
    → Joins (Rule key.0 key.1) id v other w (both v w) spent
joins_at n width key id other v w e live lives =
    subst (λ (k : ℕ × ℕ). Joins (Rule k.0 k.1) id v other w (both v w) spent) (sym e) (joins n width id other v w live lives)

pub sum_at : (n width : ℕ) (key : ℕ × ℕ) (slots id i : ℕ) (m : SeatState) → key ≡ (n, width) → m.0.live ≡ true
    → Allows (Rule key.0 key.1) slots id m i (λ w. w) (LastLookTells (step slots i 0 0 none) m)
sum_at n width key slots id i m e live =
    subst (λ (k : ℕ × ℕ). Allows (Rule k.0 k.1) slots id m i (λ w. w) (LastLookTells (step slots i 0 0 none) m)) (sym e)
    (allows_sum n width slots id i m live)

pub deals_at : (n width : ℕ) (key : ℕ × ℕ) (id : ℕ) (v : View) → key ≡ (n, width) → 0 < v.made → v.made < v.own.n → v.live ≡ true
    → Splits (Rule key.0 key.1) id v (dealing v) (dealt_out v)
deals_at n width key id v e more room live =
    subst (λ (k : ℕ × ℕ). Splits (Rule k.0 k.1) id v (dealing v) (dealt_out v)) (sym e) (deals n width id v more room live)
