use Rattle.tool_words.proofs.Prelude.{rules, arith, string_bytes}
use Rattle.tool_words.proofs.Steps.{word_at, more, refused, refused_by}
use Rattle.tool_words.proofs.reading.read_line.Goals as goal

pub returns-in_err-read : goal.returns-in_err-read
returns-in_err-read c =
    let item = c.index-words-index in
    let here = word_at string_bytes c.args.words.now c.loop-index.index item.result c.as_str.result.now (omega arith) item.is (search rules) in
    refused_by _ (λ line. line) c.from_residual.result _ c.from_residual.ensures.1
    (refused c.args.tool _ _ _ c.as_str.result.now _ c.loop-index.invariant here c.in_err-read.ensures.refused)

pub loop-index-preserved : goal.loop-index-preserved
loop-index-preserved c =
    let item = c.index-words-index in
    let here = word_at string_bytes c.args.words.now c.loop-index.index item.result c.as_str.result.now (omega arith) item.is (search rules) in
    more c.args.tool _ _ _ _ c.as_str.result.now c.loop-index.invariant here c.in_ok-read.ensures.read
