use Rattle.outside.proofs.Prelude.{◌≡◌, length, ap, rules, string_bytes}
use Rattle.outside.proofs.Ends.{names_push, ends_push}
use Rattle.outside.proofs.listings.Listing.add_name.Goals as goal

end_is : (c : goal.In_ok-push) → c.len.result ≡ length (string_bytes c.push_str.new.self)
end_is c = search rules

pub invariant_of-self-2 : goal.invariant_of-self-2
invariant_of-self-2 c =
    rw (c.in_ok-push.ensures.items, end_is c, c.in_ok-push_str.ensures.bytes, c.reserve.ensures.items)
    (ends_push 0 _ _ _ c.utf8.name c.self.invariant)

pub returns-clause-ok : goal.returns-clause-ok
returns-clause-ok c =
    rw (← c.self.view_is, c.in_ok-push.ensures.items, end_is c, c.in_ok-push_str.ensures.bytes, c.reserve.ensures.items)
    (ap (λ names. (names, c.self.inside.unnamed, c.self.inside.far)) (names_push 0 _ _ _ c.self.invariant))
