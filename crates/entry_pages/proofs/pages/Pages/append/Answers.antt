use Rattle.entry_pages.proofs.Prelude.{◌∙◌, ℕ, ◌+◌, ◌<◌, ◌%◌, ◌++◌, List, length, map, ap, ap₂, sym, subst, arith, nat_tests, Entry, Head}
use Rattle.entry_pages.proofs.Inverse.{kept_many, all_rests}
use Rattle.entry_pages.proofs.Appended.{starts_fit, ArePut, kept_put, told_put}
use Rattle.entry_pages.proofs.pages.Pages.append.Goals as goal
use Rattle.entry_pages.proofs.pages.Pages.append.Goals.{After-cut_back}

pub append-requires : goal.append-requires
append-requires c = ap (λ (n : ℕ). n % 256) (kept_many c.self.invariant) ∙ ap (λ (v : List Entry). length v % 256) c.self.view_is ∙ c.requires

pub put_shifted-requires-clause-fits : goal.put_shifted-requires-clause-fits
put_shifted-requires-clause-fits c =
    let other = c.other.inside in
    starts_fit (λ (h : Head). h.rest) other.heads other.starts.items _ c.len-base.result c.deref.ensures.value c.other.invariant.begins
    (omega (arith, c.len-base.ensures, all_rests c.other.invariant, c.self.inside.rests.ok, c.self.inside.rests.small, other.rests.ok, other.rests.small))

-- each part is put behind its part
parts_put : (c : After-cut_back) → let l = c.self.inside in let other = c.other.inside in
    ArePut l.heads other.heads c.append.new.self l.starts.items other.starts.items c.put_shifted.new.starts.items
    l.rests.items other.rests.items c.extend_reserved.new.items.items other.last.items c.cut_back.new.bytes.items c.len-base.result
parts_put c =
    let some : 0 < length c.args.other.now = grind (arith, nat_tests, c.is_empty.ensures, c.if-is_empty.false) in
    record {
      front = ap (λ (v : List Entry). length v % 256) c.self.view_is ∙ c.requires;
      some = subst (λ (v : List Entry). 0 < length v) (sym c.other.view_is) some;
      behind = c.len-base.ensures ∙ c.self.inside.rests.ok.0;
      heads = c.in_ok-append.ensures.ok;
      begins = c.put_shifted.ensures ∙ ap₂ (λ (a b : List ℕ). a ++ map (λ s. c.len-base.result + s) b) c.reserve.ensures.items c.deref.ensures.value;
      rests = c.extend_reserved.ensures ∙ ap₂ ◌++◌ c.reserve-2.ensures.items c.deref-2.ensures.value;
      last = c.cut_back.ensures ∙ c.deref-3.ensures.value;
    }

pub invariant_of-self-2 : goal.invariant_of-self-2
invariant_of-self-2 c = kept_put c.self.invariant c.other.invariant (parts_put (goal.at.invariant_of-self-2 c).After-cut_back)

pub returns-clause-ok : goal.returns-clause-ok
returns-clause-ok c = told_put c.self.invariant c.other.invariant (parts_put (goal.at.returns-clause-ok c).After-cut_back)
    ∙ ap₂ ◌++◌ c.self.view_is c.other.view_is
