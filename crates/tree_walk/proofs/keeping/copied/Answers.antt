use Rattle.tree_walk.proofs.Prelude.{is_utf8-from_IsUtf8}
use Rattle.tree_walk.proofs.keeping.copied.Goals as goal

pub rewrite-requires-clause-text : goal.rewrite-requires-clause-text
rewrite-requires-clause-text c = is_utf8-from_IsUtf8 c.as_bytes.result.now c.as_bytes.ensures.utf8
