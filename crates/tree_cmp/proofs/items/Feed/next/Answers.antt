use Rattle.tree_cmp.proofs.Prelude.{rules, sym, ◌∙◌, IsTrue, is_within, Entry}
use Rattle.tree_cmp.proofs.Feeding.{gave, passed_gone, passed_0, within_still, is_current, begun}
use Rattle.tree_cmp.proofs.items.Feed.next.Goals as goal

pub returns-then-not-is_gone-clause-some : goal.returns-then-not-is_gone-clause-some
returns-then-not-is_gone-clause-some c =
    sym c.loop-self.invariant.same
    ∙ gave c.loop-self.self.top.now c.loop-self.self.cursor c.advance.new.self c.in_ok-advance.field-0 c.entry-entry.result.now c.in_ok-item_of.field-0
    c.in_ok-advance.ensures.passed (search rules) c.entry-entry.ensures.at (search rules) c.in_ok-item_of.ensures

pub returns-then-not-is_gone-clause-current : goal.returns-then-not-is_gone-clause-current
returns-then-not-is_gone-clause-current c =
    is_current _ c.entry-entry.result.now c.in_ok-item_of.field-0 c.entry-entry.ensures.at (search rules) c.in_ok-item_of.ensures

pub returns-then-not-is_gone-clause-begun : goal.returns-then-not-is_gone-clause-begun
returns-then-not-is_gone-clause-begun c = λ some.
    begun c.loop-self.self.cursor c.advance.new.self c.in_ok-advance.field-0 c.in_ok-advance.ensures.passed (search rules)

pub loop-self-preserved : goal.loop-self-preserved
loop-self-preserved c = record {
  sound = record {
    within = within_still (λ (e : Entry). IsTrue (is_within e.path c.loop-self.self.top.now)) c.loop-self.self.cursor c.advance.new.self
        c.in_ok-advance.field-0 c.in_ok-advance.ensures.passed c.loop-self.invariant.sound.within;
    inside = c.in_ok-advance.ensures.inside;
  };
  same = passed_gone c.loop-self.self.top.now c.loop-self.self.cursor c.advance.new.self c.in_ok-advance.field-0 c.entry-entry.result.now
      c.in_ok-advance.ensures.passed (search rules) c.entry-entry.ensures.at (search rules) ∙ c.loop-self.invariant.same;
  list = passed_0 c.loop-self.self.cursor c.advance.new.self c.in_ok-advance.field-0 c.in_ok-advance.ensures.passed ∙ c.loop-self.invariant.list;
  top = c.loop-self.invariant.top;
}
