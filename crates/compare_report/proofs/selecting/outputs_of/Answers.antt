use Rattle.compare_report.proofs.Prelude.{◌≡◌, true, ◌++◌, ◌∷◌, [], refl, subst, sym, All, IsStrictlySortedBy, All-push, path_cmp, is_shaped, paths, Want}
use Rattle.compare_report.proofs.Prelude.{Output, IsSelected, AreOutputs}
use Rattle.compare_report.proofs.Chosen.{zip_more}
use Rattle.compare_report.proofs.selecting.outputs_of.Goals as goal

pub loop-want-preserved : goal.loop-want-preserved
loop-want-preserved c =
    let sides = c.args.sides.now in
    let rows = c.args.compared.now.rows in
    let want = c.in-Some.want in
    let old = c.loop-want.outputs.items in
    let more : Output = record { path = want.file; list = c.in_ok-list.list } in
    let items : c.push.new.self.items ≡ old ++ more ∷ [] = c.in_ok-push.ensures.items in
    let given = c.in_ok-list.ensures in
    record {
      are =
          subst (λ os. AreOutputs (c.loop-want.yielded ++ want ∷ []) rows sides.left_top sides.right_top sides.left sides.right os) (sym items)
          (zip_more (λ (want : Want) (output : Output).
          (output.path ≡ want.file) × IsSelected want.expr rows sides.left_top sides.right_top sides.left sides.right output.list)
          c.loop-want.yielded old want more c.loop-want.invariant.are (refl, given.selected));
      ascend =
          subst (All (λ (o : Output). IsStrictlySortedBy path_cmp (paths o.list))) (sym items)
          (All-push (λ (o : Output). IsStrictlySortedBy path_cmp (paths o.list)) old more c.loop-want.invariant.ascend given.selected.ascend);
      shaped =
          subst (All (λ (o : Output). All (λ e. is_shaped e ≡ true) o.list)) (sym items)
          (All-push (λ (o : Output). All (λ e. is_shaped e ≡ true) o.list) old more c.loop-want.invariant.shaped given.shaped);
    }
