use Rattle.tree_copy.proofs.Prelude.{sym, ap, ◌∙◌, is_name, not_one}
use Rattle.tree_copy.proofs.placing.target.Goals as goal

pub join-requires : goal.join-requires
join-requires c =
    let named = c.base.ensures.name (not_one c.args.source.now c.is_root.ensures.valid (sym c.is_root.ensures.root ∙ c.if-is_root.false)) in
    ap is_name c.base.ensures.base ∙ named
