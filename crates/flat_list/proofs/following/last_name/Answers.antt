use Rattle.flat_list.proofs.Prelude.{rules, arith, true, ◌≡◌, ◌+◌, drop, take, ◌∙◌, sym, subst, rest_of, IsFront, IsPlainName}
use Rattle.flat_list.proofs.Decoded.{nots}
use Rattle.flat_list.proofs.Near.{near}
use Rattle.flat_list.proofs.following.last_name.Goals as goal

pub returns : goal.returns
returns c =
    let before = c.args.before.now in
    let word = c.args.word.now in
    let at = c.in_ok-at.at in
    let plain : c.are_plain.result ≡ true = search (rules, nots) in
    let named : c.is_plain_name.result ≡ true = search (rules, nots) in
    let fronted : c.is_front.result ≡ true = search (rules, nots) in
    let name : IsPlainName (drop (at + 1) word) = subst IsPlainName (rest_of word (at + 1)) (c.is_plain_name.ensures named) in
    let front : IsFront before (take at word) =
    subst (λ p. IsFront p (take at word)) (c.as_bytes.ensures.value ∙ c.text-text.ensures.text) (c.is_front.ensures fronted) in
    near before word at c.text-text.ensures.valid c.in_ok-at.ensures (omega arith) (sym c.are_plain.ensures ∙ plain) name front
