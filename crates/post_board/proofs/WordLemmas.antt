-- The words of a board are read back as what was written.
use Rattle.post_board.proofs.Prelude.{◌≡◌, ℕ, ◌+◌, ◌-◌, ◌*◌, ◌/◌, ◌%◌, ◌==◌, ◌<◌, refl, ap, ◌∙◌, arith, Bool, false, cond, ne_eqb, White, Black, Token, At}
use Rattle.post_board.proofs.Prelude.{Over, Sign, resting, asking, serving, full, fetching, emptied, word_of, sign_by, word_of_token}
use Rattle.post_board.specs.Words.{sign, token_read}

reads_kind : (kind r : ℕ) → kind < 8 → sign (8 * r + kind) ≡ sign_by kind r
unfolding sign
reads_kind kind r h =
    let rest : (8 * r + kind) % 8 ≡ kind = omega arith in
    let quotient : (8 * r + kind) / 8 ≡ r = omega arith in
    ap (λ (k : ℕ). sign_by k ((8 * r + kind) / 8)) rest ∙ ap (sign_by kind) quotient

pub sign_of_word : (s : Sign) → sign (word_of s) ≡ s
sign_of_word resting = reads_kind 0 0 (omega arith)
sign_of_word (asking r) = reads_kind 1 r (omega arith)
sign_of_word (serving r) = reads_kind 2 r (omega arith)
sign_of_word (full r) = reads_kind 3 r (omega arith)
sign_of_word (fetching r) = reads_kind 4 r (omega arith)
sign_of_word (emptied r) = reads_kind 5 r (omega arith)

reads_place : (place rest : ℕ) → rest < 2 → token_read (2 * place + rest + 1) ≡ At place (cond (rest == 0) White Black)
unfolding token_read
reads_place place rest h =
    let word : ℕ = 2 * place + rest + 1 in
    let there : (word == 0) ≡ false = ne_eqb word 0 (λ e. omega arith) in
    let half : (word - 1) / 2 ≡ place = omega arith in
    let odd : (word - 1) % 2 ≡ rest = omega arith in
    ap (λ (b : Bool). cond b Over (At ((word - 1) / 2) (cond ((word - 1) % 2 == 0) White Black))) there
    ∙ ap (λ (p : ℕ). At p (cond ((word - 1) % 2 == 0) White Black)) half
    ∙ ap (λ (k : ℕ). At place (cond (k == 0) White Black)) odd

reads_over : token_read 0 ≡ Over
unfolding token_read
reads_over = refl

pub token_of_word : (t : Token) → token_read (word_of_token t) ≡ t
token_of_word Over = reads_over
token_of_word (At place White) = ap token_read (let same : 2 * place + 1 ≡ 2 * place + 0 + 1 = omega arith in same) ∙ reads_place place 0 (omega arith)
token_of_word (At place Black) = ap token_read (let same : 2 * place + 2 ≡ 2 * place + 1 + 1 = omega arith in same) ∙ reads_place place 1 (omega arith)
