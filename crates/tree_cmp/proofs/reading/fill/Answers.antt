use Rattle.tree_cmp.proofs.Prelude.{rules, arith, ◌≡◌, ◌≤◌, ◌<◌, ◌+◌, ◌-◌, length, IfSome, subst, ◌∙◌, common_steps, Reads, ShowsWhole, ShowsMissing, missing}
use Rattle.tree_cmp.proofs.Filling.{filled}
use Rattle.tree_cmp.proofs.Shown.{refused, ended, gave}
use Rattle.tree_cmp.proofs.reading.fill.Goals as goal

pub loop-done-preserved : goal.loop-done-preserved
loop-done-preserved g c =
    let tree = g.R.Tree.tree in
    let len : length c.read.new.into ≡ length c.loop-done.into - c.loop-done.done = first_of (grind (arith, common_steps, c.read.auto.into), search rules) in
    let some : 0 < c.in_ok-n.n = grind arith in
    let most : c.in_ok-n.n ≤ length c.read.new.into = grind arith in
    let told : IfSome (tree c.args.reader.now) (λ files. Reads files c.args.path.now (c.args.at + c.loop-done.done) c.read.new.into c.in_ok-n.n) =
    subst (λ t. IfSome t (λ files. Reads files c.args.path.now (c.args.at + c.loop-done.done) c.read.new.into c.in_ok-n.n))
    c.loop-done.invariant.same c.in_ok-n.ensures.told in
    record {
      inside = first_of (search rules, grind (arith, common_steps));
      filled = λ h. filled (tree c.args.reader.now) c.args.path.now c.args.at c.loop-done.done c.in_ok-n.n
          (length c.loop-done.into - c.loop-done.done) c.loop-done.into c.read.new.into c.loop-done.invariant.inside most some
          c.loop-done.invariant.filled told;
      same = c.in_ok-n.ensures.same ∙ c.loop-done.invariant.same;
      count = search rules;
      whole = λ h. gave g.R.Tree.gives c.args.path.now c.args.at c.loop-done.done c.in_ok-n.n _ _ some c.in_ok-n.ensures.given;
    }

pub returns-clause-whole : goal.returns-clause-whole
returns-clause-whole g c =
    let i = c.loop-done.invariant in
    let all : c.loop-done.done ≡ length c.loop-done.into = (let h = i.inside in omega arith) in
    subst (λ n. ShowsWhole g.R.Tree.gives (c.args.at + n) c.args.path.now) all (i.whole (let h = i.inside in omega (arith, c.requires.some)))

pub returns-in_err-n-clause-shows : goal.returns-in_err-n-clause-shows
returns-in_err-n-clause-shows g c =
    let shown : ShowsMissing g.R.Tree.gives c.args.path.now (missing c.in_err-n.field-0.0) =
    refused g.R.Tree.gives c.args.path.now (c.args.at + c.loop-done.done) c.in_err-n.field-0.0 _ _ c.in_err-n.ensures.given in
    search (rules, shown, c.from_residual.ensures)

pub returns-then-n-eq0-clause-shows : goal.returns-then-n-eq0-clause-shows
returns-then-n-eq0-clause-shows g c =
    ended g.R.Tree.gives c.args.path.now (c.args.at + c.loop-done.done) c.in_ok-n.n _ _ (search rules) c.in_ok-n.ensures.given
