use Rattle.tree_dup.proofs.Prelude.{sym, ◌∙◌}
use Rattle.tree_dup.proofs.hashing.piece_buffer.Goals as goal

pub returns : goal.returns
returns c = sym c.in_ok-buffer.buffer.ok.0 ∙ c.in_ok-buffer.ensures.len
