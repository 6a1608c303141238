use Rattle.tree_dup.proofs.Prelude.{rules, ◌≡◌, ◌+◌, length, subst, ShowsWhole}
use Rattle.tree_dup.proofs.Fed.{fed_piece}
use Rattle.tree_dup.proofs.hashing.hash_piece.Goals as goal

pub returns-clause-fed : goal.returns-clause-fed
returns-clause-fed g c =
    fed_piece (g.R.Tree.tree c.args.reader.now) c.args.path.now c.args.at c.args.room c.fill.new.into c.args.hasher.now c.write.new.self (search rules)
    c.in_ok-fill.ensures.told c.write.ensures

pub returns-clause-whole : goal.returns-clause-whole
returns-clause-whole g c =
    let long : length c.fill.new.into ≡ c.args.room = search rules in
    subst (λ n. ShowsWhole g.R.Tree.gives (c.args.at + n) c.args.path.now) long c.in_ok-fill.ensures.whole
