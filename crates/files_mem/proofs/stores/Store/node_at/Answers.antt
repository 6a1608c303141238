use Rattle.files_mem.proofs.Prelude.{sym, ap, ◌∙◌, option_map, get, node_of}
use Rattle.files_mem.proofs.Found.{get_is}
use Rattle.files_mem.proofs.stores.Store.node_at.Goals as goal

pub returns : goal.returns
returns c = ap (option_map node_of) c.get.ensures.value ∙ sym (get_is c.args.path.now c.self.inside.map.entries)
    ∙ ap (λ f. get f c.args.path.now) c.self.view_is
