use Rattle.files_mem.proofs.Prelude.{ap, ◌∙◌, get, copied, in_tops}
use Rattle.files_mem.proofs.Laying.{all_leased}
use Rattle.files_mem.proofs.stores.Store.leased.Goals as goal

pub returns : goal.returns
returns c = all_leased c.args.tops.now c.args.self.now c.copy_tops.new.into
    (λ q. c.in_ok-copy_tops.ensures.ok q
    ∙ ap (λ f. copied (in_tops c.args.tops.now q) (get c.args.self.now q) (get f q)) c.empty-part.ensures)
