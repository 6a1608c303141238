use Rattle.real_disk.proofs.Prelude.{ap, sym, ◌∙◌, is_some, first_found, is_first, rest_there}
use Rattle.real_disk.proofs.spans.Cuttings.end.Goals as goal

pub unwrap-place-requires : goal.unwrap-place-requires
unwrap-place-requires c = ap is_some (c.place_of.ensures ∙ first_found c.args.path.now c.args.self.now c.requires)

pub returns : goal.returns
returns c =
    let is = is_first c.args.path.now c.args.self.now c.unwrap-place.result c.requires (sym c.place_of.ensures ∙ c.unwrap-place.ensures) in
    c.remove.ensures.items ∙ rest_there c.args.path.now c.self.inside.out.items c.args.self.now c.unwrap-place.result c.self.view_is is
