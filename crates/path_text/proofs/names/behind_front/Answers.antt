use Rattle.path_text.proofs.Prelude.{arith, strip_prefix_char}
use Rattle.path_text.proofs.Parts.{by_slash}
use Rattle.path_text.proofs.names.behind_front.Goals as goal

pub returns-in-Some-2-clause-begins : goal.returns-in-Some-2-clause-begins
returns-in-Some-2-clause-begins c = (by_slash c.args.text.now c.args.top.now c.in-Some.names.now _ c.in-Some.ensures.found c.if-top-eq1.false
    (strip_prefix_char 47 c.in-Some.names.now _ c.strip_prefix.ensures.cases (omega arith))).0

pub returns-in-Some-2-clause-none : goal.returns-in-Some-2-clause-none
returns-in-Some-2-clause-none c = (by_slash c.args.text.now c.args.top.now c.in-Some.names.now _ c.in-Some.ensures.found c.if-top-eq1.false
    (strip_prefix_char 47 c.in-Some.names.now _ c.strip_prefix.ensures.cases (omega arith))).1
