use Rattle.tree_walk.proofs.Prelude.{rules, ◌≡◌, true, false, is_listed}
use Rattle.tree_walk.proofs.Held.{kept_listed, kept_alone}
use Rattle.tree_walk.proofs.keeping.keep.Goals as goal

pub returns-then-not-is_listed-clause-held : goal.returns-then-not-is_listed-clause-held
returns-then-not-is_listed-clause-held c =
    let no : is_listed c.args.entry.now ≡ false = search rules in
    kept_alone c.args.entries.now c.args.names.now.items c.args.entry.now c.args.listing _ c.in_ok-add.ensures.ok no (c.requires.alone no)

pub returns-clause-held : goal.returns-clause-held
returns-clause-held c =
    let yes : is_listed c.args.entry.now ≡ true = search rules in
    kept_listed c.args.entries.now c.args.names.now.items c.args.entry.now c.args.listing _ _
    c.in_ok-add.ensures.ok c.push_reserved.ensures.items c.requires.pairs yes
