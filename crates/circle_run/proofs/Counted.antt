-- Counts say as much as weights.
use Rattle.circle_run.proofs.Prelude.{◌≡◌, ℕ, ◌+◌, ◌<◌, true, false, cond, List, [], ◌∷◌, ◌++◌, refl, sym, ap, ◌∙◌, arith, nat_eq, sum_by, pointwise}
use Rattle.circle_run.proofs.Prelude.{nat_list_eq_equiv, same_text, sum_by-append, sum_by-cons, Log, pushed, times, handled_strings, pushed_strings}
use Rattle.circle_run.proofs.Prelude.{BalanceIsAsOften}
use Rattle.circle_run.specs.Balance.{handled}

-- the weight that counts a string
abbrev one : List ℕ → List ℕ → ℕ
one s x = cond (pointwise nat_eq s x) 1 0

-- a list less the first of these strings
abbrev without : List ℕ → List (List ℕ) → List (List ℕ)
without s [] = []
without s (y ∷ ys) = cond (pointwise nat_eq s y) ys (y ∷ without s ys)

itself : (s : List ℕ) → one s s ≡ 1
itself s = ap (λ b. cond b 1 0) (nat_list_eq_equiv.refl s)

-- a string that stands in a list is a part of its weight
taken_out : (h : List ℕ → ℕ) (s : List ℕ) (ys : List (List ℕ)) → 0 < times s ys → sum_by h ys ≡ h s + sum_by h (without s ys)
taken_out h s [] p = absurd (omega arith)
taken_out h s (y ∷ ys) p =
    elim (pointwise nat_eq s y) as (λ b. pointwise nat_eq s y ≡ b → sum_by h (y ∷ ys) ≡ h s + sum_by h (cond b ys (y ∷ without s ys))) [
      | true ↦ λ e. omega (arith, sum_by-cons h y ys, ap h (same_text s y (sym e)))
      | false ↦ λ e.
          let none : one s y ≡ 0 = ap (λ b. cond b 1 0) e in
          let more : 0 < times s ys = omega (arith, p, none, sum_by-cons (one s) y ys) in
          omega (arith, sum_by-cons h y ys, sum_by-cons h y (without s ys), taken_out h s ys more)
    ] refl

-- lists in which each string stands as often weigh the same
pub same_weight : (h : List ℕ → ℕ) (xs ys : List (List ℕ)) → ((s : List ℕ) → times s xs ≡ times s ys) → sum_by h xs ≡ sum_by h ys
same_weight h [] [] e = refl
same_weight h [] (y ∷ ys) e = absurd (omega (arith, e y, itself y, sum_by-cons (one y) y ys))
same_weight h (x ∷ xs) ys e =
    let some : 0 < times x ys = omega (arith, e x, itself x, sum_by-cons (one x) x xs) in
    let rest : (s : List ℕ) → times s xs ≡ times s (without x ys) = λ s. omega (arith, e s, sum_by-cons (one s) x xs, taken_out (one s) x ys some) in
    omega (arith, sum_by-cons h x xs, taken_out h x ys some, same_weight h xs (without x ys) rest)

handled_weight : (h : List ℕ → ℕ) (log : Log) → sum_by h (handled_strings log) ≡ handled h log
handled_weight h [] = refl
handled_weight h (x ∷ log) =
    omega (arith, sum_by-cons h x.0 (handled_strings log), sum_by-cons (λ (x : List ℕ × List (List ℕ)). h x.0) x log, handled_weight h log)

pushed_weight : (h : List ℕ → ℕ) (log : Log) → sum_by h (pushed_strings log) ≡ pushed h log
pushed_weight h [] = refl
pushed_weight h (x ∷ log) =
    omega (
      arith,
      sum_by-append h x.1 (pushed_strings log),
      sum_by-cons (λ (x : List ℕ × List (List ℕ)). sum_by h x.1) x log,
      pushed_weight h log,
    )

in_weight : (h : List ℕ → ℕ) (log : Log) (starts : List (List ℕ)) → sum_by h (starts ++ pushed_strings log) ≡ sum_by h starts + pushed h log
in_weight h log starts = omega (arith, sum_by-append h starts (pushed_strings log), pushed_weight h log)

out_weight : (h : List ℕ → ℕ) (log : Log) (left : List (List ℕ)) → sum_by h (handled_strings log ++ left) ≡ handled h log + sum_by h left
out_weight h log left = omega (arith, sum_by-append h (handled_strings log) left, handled_weight h log)

pub as_often : BalanceIsAsOften
as_often log left starts = (
  λ b. record { often = λ s. out_weight (one s) log left ∙ b.weighs (one s) ∙ sym (in_weight (one s) log starts) },
  λ a. record {
    weighs = λ h. sym (out_weight h log left)
        ∙ same_weight h (handled_strings log ++ left) (starts ++ pushed_strings log) a.often ∙ in_weight h log starts;
  },
)
