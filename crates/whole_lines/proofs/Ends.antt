-- The end line is read as what was written, no other text is, and it has no line feed.
use Rattle.whole_lines.proofs.Prelude.{◌≡◌, ℕ, ◌<◌, ◌^◌, Bool, true, false, cond, List, ◌∷◌, ◌++◌, Some, None, refl, ap, ◌∙◌, arith, codes, bytes_eq, decimal}
use Rattle.whole_lines.proofs.Prelude.{bytes_decides, end_text, ◌>>=◌, cut, number_of}
use Rattle.whole_lines.specs.Words.{end_at}
use Rattle.whole_lines.proofs.Words.{IsFree, cut_again, cut_takes, bind_some}
use Rattle.whole_lines.proofs.Numbers.{number_again, number_takes, decimal_free}

pub end_takes : (text : List ℕ) (n : ℕ) → end_at text ≡ Some n → (text ≡ end_text n) × (n < 2 ^ 64)
unfolding end_at
end_takes text n e =
    let w = bind_some (cut 32 text) (λ w. cond (bytes_eq w.0 (codes "end")) (number_of w.1) None) n e in
    let parts = cut_takes 32 text w.0.0 w.0.1 w.1 in
    by_test w.0.0 w.0.1 parts.parts (bytes_eq w.0.0 (codes "end")) refl w.2
  where
    by_test : (word rest : List ℕ) → text ≡ word ++ 32 ∷ rest → (t : Bool) → bytes_eq word (codes "end") ≡ t → cond t (number_of rest) None ≡ Some n →
        (text ≡ end_text n) × (n < 2 ^ 64)
    by_test word rest parts true is e =
        let number = number_takes rest n e in
        (parts ∙ ap (λ w. w ++ 32 ∷ rest) ((bytes_decides word (codes "end")).0 is) ∙ ap (λ r. codes "end" ++ 32 ∷ r) number.text, number.small)
    by_test word rest parts false is e = absurd cc

pub end_again : (n : ℕ) → n < 2 ^ 64 → end_at (end_text n) ≡ Some n
unfolding end_at
end_again n small = ap (λ o. o >>= λ w. cond (bytes_eq w.0 (codes "end")) (number_of w.1) None)
    (cut_again 32 (codes "end") (decimal n) (refl, (refl, (refl, tt)))) ∙ number_again n small

pub end_free : (n : ℕ) → n < 2 ^ 64 → IsFree 10 (end_text n)
end_free n small = (refl, (refl, (refl, (refl, decimal_free 10 n (omega arith) small))))
