use Rattle.tool_words.proofs.Prelude.{rules, sym, arith}
use Rattle.tool_words.proofs.Numbers.{not_parsed}
use Rattle.tool_words.proofs.values.number_in.Goals as goal

pub returns-in-Err : goal.returns-in-Err
returns-in-Err c = sym (not_parsed c.args.least c.args.most c.args.text.now c.in-Err.field-0 (omega arith) (search rules) c.in-Err.ensures.value.0)
