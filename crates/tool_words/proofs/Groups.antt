-- An option is looked for group by group.
use Rattle.tool_words.proofs.Prelude.{◌≡◌, ◌∙◌, ℕ, ◌<◌, true, List, length, drop, get_or, find, refl, ap, sym, Option, Some, None, drop-cons, suc, is_some}
use Rattle.tool_words.proofs.Prelude.{flat_map, option_or, find-append, Group, OptionName, text_of, options_in, is}

some_stays : {X : Type 0} (o rest : Option X) → is_some o ≡ true → option_or o rest ≡ o
some_stays (Some x) rest s = refl
some_stays None rest s = cc

-- the option that a group has, among those of this group and the later ones
pub found_there : (text : List ℕ) (groups : List Group) (at : ℕ) (d : Group) (options : List OptionName) (found : Option OptionName) →
    at < length groups → options ≡ options_in (get_or groups at d) → found ≡ find (λ o. is (text_of o) text) options → is_some found ≡ true →
    found ≡ find (λ o. is (text_of o) text) (flat_map options_in (drop at groups))
found_there text groups at d options found l e f s =
    let among = λ (os : List OptionName). find (λ o. is (text_of o) text) os in
    let later = flat_map options_in (drop (suc at) groups) in
    sym (ap (λ g. among (flat_map options_in g)) (drop-cons groups at d l)
    ∙ find-append (λ o. is (text_of o) text) (options_in (get_or groups at d)) later
    ∙ ap (λ o. option_or o (among later)) (ap among (sym e) ∙ sym f)
    ∙ some_stays found (among later) s)
