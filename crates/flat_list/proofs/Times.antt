-- A word that is a number tells a time.
use Rattle.flat_list.proofs.Prelude.{◌≡◌, ℕ, Bool, true, false, cond, List, get_or, Some, None, refl, ap, ◌∙◌, arith, codes, bytes_eq, decimal, bytes_decides}
use Rattle.flat_list.proofs.Prelude.{◌>>=◌, cut, number_of, bind_some, number_none, first_digit}
use Rattle.whole_lines.specs.Words.{word_at}
use Rattle.flat_list.specs.Private.Reading.{time_from}

dash : number_of (codes "-") ≡ None
dash = number_none (codes "-") (λ n lt is. let d = first_digit n lt in
    let same : get_or (codes "-") 0 0 ≡ get_or (decimal n) 0 0 = ap (λ w. get_or w 0 0) is in omega (arith, d))

-- a number is no `-`
number_time : (word : List ℕ) (n : ℕ) → number_of word ≡ Some n → time_from word ≡ Some (Some n)
unfolding time_from
number_time word n e = by_test (bytes_eq word (codes "-")) refl
  where
    by_test : (b : Bool) → bytes_eq word (codes "-") ≡ b → cond b (Some None) (number_of word >>= λ n. Some (Some n)) ≡ Some (Some n)
    by_test true is = let same : word ≡ codes "-" = (bytes_decides word (codes "-")).0 is in
        let none : number_of word ≡ None = ap number_of same ∙ dash in cc
    by_test false is = ap (λ o. o >>= λ n. Some (Some n)) e

pub number_is_time : (text rest : List ℕ) (n : ℕ) → word_at number_of text ≡ Some (n, rest) → word_at time_from text ≡ Some (Some n, rest)
unfolding word_at
number_is_time text rest n e =
    let w = bind_some (cut 32 text) (λ w. number_of w.0 >>= λ v. Some (v, w.1)) (n, rest) e in
    let v = bind_some (number_of w.0.0) (λ v. Some (v, w.0.1)) (n, rest) w.2 in
    ap (λ o. o >>= λ w. time_from w.0 >>= λ v. Some (v, w.1)) w.1
    ∙ ap (λ o. o >>= λ t. Some (t, w.0.1)) (number_time w.0.0 v.0 v.1)
    ∙ ap (λ o. o >>= λ p. Some (Some p.0, p.1)) v.2
