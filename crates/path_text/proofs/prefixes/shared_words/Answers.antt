use Rattle.path_text.proofs.Prelude.{◌∙◌, sym, arith}
use Rattle.path_text.proofs.Words.{next_word}
use Rattle.path_text.proofs.prefixes.shared_words.Goals as goal

pub loop-at-preserved : goal.loop-at-preserved
loop-at-preserved c = record {
  inside = omega arith;
  same = next_word c.args.a.now c.args.b.now c.loop-at.at (omega arith) (omega arith) (λ i. omega (arith, c.type_inv.a i))
      (λ i. omega (arith, c.type_inv.b i)) c.loop-at.invariant.same (sym c.word_at.ensures ∙ c.if-word_at.false ∙ c.word_at-in-loop-at.ensures);
}
