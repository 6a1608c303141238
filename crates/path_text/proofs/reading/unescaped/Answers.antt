use Rattle.path_text.proofs.Prelude.{◌∙◌, sym, ap, arith, Some, None, ◌++◌, ◌∷◌, [], length, string_bytes, split_parts, good_len}
use Rattle.path_text.proofs.Readable.{step, cut, read_on, none_past}
use Rattle.path_text.proofs.reading.unescaped.Goals as goal

pub told-requires : goal.told-requires
told-requires c =
    let parts = split_parts 92 c.loop-plain.rest.now (Some (c.in-Some.plain, c.in-Some.behind)) c.in-Some.ensures.cases (omega arith) in
    (step c.loop-plain.rest.now c.in-Some.plain.now c.in-Some.behind.now c.loop-plain.invariant.good parts.0 parts.1).escape

pub range_from-rest-requires : goal.range_from-rest-requires
range_from-rest-requires c = λ z.
    let parts = split_parts 92 c.loop-plain.rest.now (Some (c.in-Some.plain, c.in-Some.behind)) c.in-Some.ensures.cases (omega arith) in
    cut c.loop-plain.rest.now c.in-Some.plain.now c.in-Some.behind.now
    (step c.loop-plain.rest.now c.in-Some.plain.now c.in-Some.behind.now c.loop-plain.invariant.good parts.0 parts.1) parts.0 c.loop-plain.invariant.utf8

pub loop-plain-preserved : goal.loop-plain-preserved
loop-plain-preserved c =
    let parts = split_parts 92 c.loop-plain.rest.now (Some (c.in-Some.plain, c.in-Some.behind)) c.in-Some.ensures.cases (omega arith) in
    let w = step c.loop-plain.rest.now c.in-Some.plain.now c.in-Some.behind.now c.loop-plain.invariant.good parts.0 parts.1 in
    let rest = c.range_from-rest.ensures.value in
    let byte = c.push.ensures.ascii (omega (arith, c.from.ensures, c.told.ensures.ascii)) ∙ ap (λ b. b ∷ []) (c.from.ensures ∙ c.told.ensures.told) in
    record {
      utf8 = c.range_from-rest.utf8;
      read = read_on (string_bytes c.loop-plain.bytes) (string_bytes c.push_str.new.self) (string_bytes c.push.new.self)
          c.loop-plain.rest.now c.in-Some.plain.now c.in-Some.behind.now _ c.range_from-rest.result.now _
          w c.loop-plain.invariant.read c.in_ok-push_str.ensures.bytes c.in_ok-push.ensures.bytes byte rest;
      good = ap good_len rest ∙ w.good ∙ sym (ap length rest);
    }

pub returns : goal.returns
returns c = c.in_ok-push_str-2.ensures.bytes ∙ ap (λ l. string_bytes c.loop-plain.bytes ++ l)
    (sym (none_past c.loop-plain.rest.now (split_parts 92 c.loop-plain.rest.now None c.in_default.ensures.cases (omega arith)))) ∙ c.loop-plain.invariant.read
