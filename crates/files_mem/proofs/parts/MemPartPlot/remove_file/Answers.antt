use Rattle.files_mem.proofs.Prelude.{rules, ◌≡◌, None, Ok, get, remove_file_refusal}
use Rattle.files_mem.proofs.Parted.{remove_file_part}
use Rattle.files_mem.proofs.parts.MemPartPlot.remove_file.Goals as goal

pub invariant_of-self : goal.invariant_of-self
invariant_of-self c =
    let free : remove_file_refusal (get c.self.inside.store c.args.path.now) ≡ None = search rules in
    remove_file_part {B = ⊥} (Ok tt) _ _ _ _ c.self.invariant free c.take.ensures tt
