use Rattle.tree_dup.proofs.Prelude.{rules, arith, ◌≡◌, [], ◌∷◌, ◌++◌, ap, sym, subst, ◌∙◌, length, List, append_assoc, append-nil, into_iter_items, File}
use Rattle.tree_dup.proofs.Prelude.{AreDealt, nil_from_length}
use Rattle.tree_dup.proofs.Dealt.{dealt_first}
use Rattle.tree_dup.proofs.dealing.deal.Goals as goal

pub loop-file-init : goal.loop-file-init
loop-file-init c = record {
  dealt = dealt_first c.new-paths.result.items c.new-others.result.items c.args.found.now c.new-paths.ensures.items c.new-others.ensures.items;
  all = search rules;
  len = search rules;
}

pub loop-file-preserved : goal.loop-file-preserved
loop-file-preserved c =
    let i = c.loop-file.invariant in
    let next = c.in-Some.ensures.steps in
    record {
      dealt = c.in_ok-deal_file.ensures c.loop-file.yielded c.args.found.now i.dealt;
      all = append_assoc c.loop-file.yielded (c.in-Some.file ∷ []) (into_iter_items c.next.new.self)
          ∙ ap (λ (rest : List File). c.loop-file.yielded ++ rest) (sym next.0) ∙ i.all;
      len = omega (arith, i.len, next.1, ap length next.0);
    }

pub returns : goal.returns
returns c =
    let i = c.loop-file.invariant in
    let none : into_iter_items c.loop-file.file-iterator ≡ [] =
    nil_from_length (into_iter_items c.loop-file.file-iterator) (omega (arith, i.len, c.in-None.ensures.steps.0)) in
    let all : c.loop-file.yielded ≡ c.args.run.items =
    sym (append-nil c.loop-file.yielded) ∙ ap (λ (rest : List File). c.loop-file.yielded ++ rest) (sym none) ∙ i.all in
    subst (λ (run : List File). AreDealt run c.loop-file.paths.items c.loop-file.others.items c.args.found.now c.loop-file.found) all i.dealt
