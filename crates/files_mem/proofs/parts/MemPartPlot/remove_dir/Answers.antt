use Rattle.files_mem.proofs.Prelude.{rules, ◌≡◌, None, Ok, remove_dir_refusal}
use Rattle.files_mem.proofs.Parted.{remove_dir_part}
use Rattle.files_mem.proofs.parts.MemPartPlot.remove_dir.Goals as goal

pub invariant_of-self : goal.invariant_of-self
invariant_of-self c =
    let free : remove_dir_refusal c.self.inside.store c.args.path.now ≡ None = search rules in
    remove_dir_part {B = ⊥} (Ok tt) _ _ _ _ c.self.invariant free c.take.ensures tt
