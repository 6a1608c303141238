use Rattle.path_text.proofs.Prelude.{arith}
use Rattle.path_text.proofs.Told.{told_length}
use Rattle.path_text.proofs.written.told_len.Goals as goal

pub overflow_mul-result : goal.overflow_mul-result
overflow_mul-result c = let e = told_length c.args.text.now c.requires in omega (arith, c.backslashes.ensures)

pub overflow_sub-result : goal.overflow_sub-result
overflow_sub-result c = let e = told_length c.args.text.now c.requires in omega (arith, c.backslashes.ensures)

pub returns : goal.returns
returns c = let e = told_length c.args.text.now c.requires in omega (arith, c.backslashes.ensures)
