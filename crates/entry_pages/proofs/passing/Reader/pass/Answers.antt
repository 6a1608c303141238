use Rattle.entry_pages.proofs.Prelude.{◌≡◌, ℕ, arith, subst, List, Some, slice_get, option_map, with_text, Entry}
use Rattle.entry_pages.proofs.Passed.{step, targeted, made_path, made_next, made_here, at_pair}
use Rattle.entry_pages.proofs.passing.Reader.pass.Goals as goal

pub slice_bounds-rest-end : goal.slice_bounds-rest-end
slice_bounds-rest-end c = omega (arith, (step (with_text c.next.result.0 (option_map (λ t. t.now) c.next.result.1)) c.self.invariant c.next.ensures.next).room)

pub rewrite-requires : goal.rewrite-requires
rewrite-requires c = made_path (with_text c.next.result.0 (option_map (λ t. t.now) c.next.result.1)) _ (omega arith) c.self.invariant c.next.ensures.next

pub invariant_of-self-2 : goal.invariant_of-self-2
invariant_of-self-2 c = at_pair c.pass.new.self c.pass.ensures
    (made_next (with_text c.next.result.0 (option_map (λ t. t.now) c.next.result.1)) _ _ (omega arith) c.self.invariant c.next.ensures.next
    (targeted c.next.result.0 c.in_ok-target.ensures c.in_ok-rewrite.ensures.ok))

pub returns-clause-entry : goal.returns-clause-entry
returns-clause-entry c = subst (λ (v : List Entry × ℕ × Entry). slice_get v.0 v.1 ≡ Some c.rewrite.new.entry) c.self.view_is
    (made_here (with_text c.next.result.0 (option_map (λ t. t.now) c.next.result.1)) _ _ (omega arith) c.self.invariant c.next.ensures.next
    (targeted c.next.result.0 c.in_ok-target.ensures c.in_ok-rewrite.ensures.ok))
