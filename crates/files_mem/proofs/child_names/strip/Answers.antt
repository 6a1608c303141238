use Rattle.files_mem.proofs.Strip.{strip_off, strip_on}
use Rattle.files_mem.proofs.child_names.strip.Goals as goal

pub returns : goal.returns
returns c = record {
  off = strip_off c.args.front.now c.args.text.now c.strip_prefix.result c.strip_prefix.ensures.cases;
  on = strip_on c.args.front.now c.args.text.now c.strip_prefix.result c.strip_prefix.ensures.cases;
}
