use Rattle.flat_list.proofs.Prelude.{rules, ◌≡◌, true, false, ◌∙◌, sym, ap, subst, is_utf8, IsUtf8, IsUtf8-from_is_utf8}
use Rattle.flat_list.proofs.Decoded.{nots}
use Rattle.flat_list.proofs.Near.{near_rewritten, near_utf8, near_yes, near_no}
use Rattle.flat_list.proofs.following.moved.Goals as goal

pub returns-then-not-is_lt-clause-read : goal.returns-then-not-is_lt-clause-read
returns-then-not-is_lt-clause-read c =
    let off : c.is_lt.result ≡ false = search (rules, nots) in
    sym (near_no c.args.before c.args.word.now c.as_bytes.result.now c.args.at c.compare.result c.reading_undoes_writing.ensures c.requires
    (c.as_bytes.ensures.value ∙ c.text.ensures.text) c.compare.ensures (sym c.is_lt.ensures ∙ off))

pub rewrite-requires-clause-text : goal.rewrite-requires-clause-text
rewrite-requires-clause-text c = ap is_utf8 (near_rewritten _ _ _ c.requires) ∙ near_utf8 _ _ _ c.requires

pub returns-clause-read : goal.returns-clause-read
returns-clause-read c =
    let so : c.is_lt.result ≡ true = search (rules, nots) in
    cc (
      c.in_ok-rewrite.ensures.ok,
      near_rewritten _ _ _ c.requires,
      near_yes c.args.before c.args.word.now c.as_bytes.result.now c.args.at c.compare.result c.reading_undoes_writing.ensures c.requires
          (c.as_bytes.ensures.value ∙ c.text.ensures.text) c.compare.ensures (sym c.is_lt.ensures ∙ so),
    )

pub returns-clause-utf8 : goal.returns-clause-utf8
returns-clause-utf8 c = subst IsUtf8 (sym (c.in_ok-rewrite.ensures.ok ∙ near_rewritten _ _ _ c.requires))
    (IsUtf8-from_is_utf8 c.args.word.now (near_utf8 _ _ _ c.requires))
