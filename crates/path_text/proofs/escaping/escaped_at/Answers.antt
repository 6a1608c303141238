use Rattle.path_text.proofs.Prelude.{◌∙◌, ap, sym, position, is_escaped}
use Rattle.path_text.proofs.Words.{rest_of}
use Rattle.path_text.proofs.Blocks.{behind_Some, behind_None}
use Rattle.path_text.proofs.escaping.escaped_at.Goals as goal

pub returns-in-Some : goal.returns-in-Some
returns-in-Some c =
    let bytes = c.args.bytes.now in
    let plain = c.plain_blocks-plain in
    let rest = ap (position is_escaped) (sym (rest_of bytes plain.result)) in
    sym (behind_Some bytes plain.result c.in-Some.at plain.ensures.plain plain.ensures.within (rest ∙ sym c.next_escaped.ensures ∙ c.in-Some.is))

pub returns-in-None : goal.returns-in-None
returns-in-None c =
    let bytes = c.args.bytes.now in
    let plain = c.plain_blocks-plain in
    let rest = ap (position is_escaped) (sym (rest_of bytes plain.result)) in
    sym (behind_None bytes plain.result plain.ensures.plain plain.ensures.within (rest ∙ sym c.next_escaped.ensures ∙ c.in-None.is))
