use Rattle.test_tree.proofs.Prelude.{◌≡◌, ◌∙◌, ap, sym, subst, arith, OnOk, with_node, node_of, memory_of}
use Rattle.test_tree.proofs.Filled.{next_free, grown}
use Rattle.test_tree.proofs.making.put_next.Goals as goal

pub put-requires-clause-free : goal.put-requires-clause-free
put-requires-clause-free c = next_free c.args.nodes c.args.k _ _ (ap (λ m. m.files) c.requires.made) c.in_ok-path.ensures c.requires.below (omega arith)

pub returns : goal.returns
returns c =
    subst (λ m. OnOk c.put.result (c.put.new.files ≡ m))
    ((λ i. with_node (c.requires.made i) (c.in_ok-path.ensures i) (node_of c.args.nodes c.args.k))
    ∙ ap memory_of (sym (grown c.args.nodes c.args.k (omega arith))))
    c.put.ensures
