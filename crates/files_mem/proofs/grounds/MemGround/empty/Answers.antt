use Rattle.files_mem.proofs.Prelude.{rules, ◌≡◌, sym, subst, [], empty_files, IsGround}
use Rattle.files_mem.proofs.Treed.{empty_tree}
use Rattle.files_mem.proofs.grounds.MemGround.empty.Goals as goal

pub invariant_of-result : goal.invariant_of-result
invariant_of-result c =
    let is : c.in_ok-make.field-0 ≡ record { files = empty_files; out = []; cut = [] } = search rules in
    subst IsGround (sym is) (record { tree = empty_tree; lends = tt })
