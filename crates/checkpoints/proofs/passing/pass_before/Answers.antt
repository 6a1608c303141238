use Rattle.checkpoints.proofs.Prelude.{◌++◌, ◌∙◌, ap, sym, subst, rules, List, ℕ, Option, Entry, closed_with, ArePassed}
use Rattle.checkpoints.proofs.Stepping.{moved_all}
use Rattle.checkpoints.proofs.Clashing.{Ascend, IsNext, passed_more}
use Rattle.checkpoints.proofs.passing.pass_before.Goals as goal

pub loop-entry-preserved : goal.loop-entry-preserved
loop-entry-preserved c =
    let ahead = c.loop-entry.ahead in
    let path = c.args.path.now in
    let e = c.in-Some.entry.now in
    let n : IsNext ahead e path = record {
      ascend = subst Ascend (sym c.loop-entry.invariant.all) c.requires.ascend;
      first = search rules;
      before = search rules;
      some = c.is_before.ensures.some;
    } in
    let more = passed_more ahead e c.loop-entry.closed path n c.loop-entry.invariant.passed in
    record {
      all = ap (λ (v : List Entry × List Entry). v.0 ++ v.1) c.in_ok-pass.ensures ∙ moved_all ahead.0 ahead.1 ∙ c.loop-entry.invariant.all;
      passed = subst (λ (t : Option (List ℕ)). ArePassed c.pass.new.self.0 t path) (sym c.in_ok-close.ensures)
          (subst (λ (v : List Entry × List Entry). ArePassed v.0 (closed_with c.loop-entry.closed e) path) (sym c.in_ok-pass.ensures) more);
    }
