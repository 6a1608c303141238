use Rattle.entry_pages.proofs.Prelude.{is_utf8-from_IsUtf8}
use Rattle.entry_pages.proofs.entries.Entry.overwrite.Goals as goal

pub rewrite-requires-clause-text : goal.rewrite-requires-clause-text
rewrite-requires-clause-text c = is_utf8-from_IsUtf8 c.as_bytes.result.now c.as_bytes.ensures.utf8
