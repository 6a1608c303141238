use Rattle.test_tree.proofs.Prelude.{◌≡◌, ◌*◌, ◌%◌, ◌∙◌, None, sym, ap, subst, arith, Result, Ok, OnOk, take-replicate, file, Memory, with_node, PutError}
use Rattle.test_tree.proofs.Filled.{node_is_dir, node_is_file}
use Rattle.test_tree.proofs.making.put.Goals.{then-k-nodes, else-k-nodes}
use Rattle.test_tree.proofs.making.put.Goals as goal

put_is : (r : Result (Unit {0}) PutError) (x : Unit {0}) (new after : Memory) → r ≡ Ok x → OnOk r (new ≡ after) → new ≡ after
put_is r x new after e h = subst (λ r. OnOk r (new ≡ after)) e h

pub returns-in-Ok : goal.returns-in-Ok
returns-in-Ok c =
    elim c.if-k-nodes.branch [
      | then-k-nodes w ↦ w.files-is ∙ put_is w.put_dir-done.result c.in-Ok.field-0 _ _ (sym w.done-is ∙ c.in-Ok.is) w.put_dir-done.ensures.put
          ∙ ap (with_node c.args.files.now c.args.path.now) (sym (node_is_dir c.args.nodes c.args.k w.if-k-nodes.true))
      | else-k-nodes w ↦ w.files-is ∙ put_is w.put_file-done.result c.in-Ok.field-0 _ _ (sym w.done-is ∙ c.in-Ok.is) w.put_file-done.ensures.put
          ∙ ap (λ bytes. with_node c.args.files.now c.args.path.now (record { body = file bytes; mtime = None }))
          (take-replicate (37 * c.args.k % 101) 100 (c.args.k % 256) (omega arith))
          ∙ ap (with_node c.args.files.now c.args.path.now) (sym (node_is_file c.args.nodes c.args.k w.if-k-nodes.false))
    ]
