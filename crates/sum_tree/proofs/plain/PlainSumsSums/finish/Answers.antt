use Rattle.sum_tree.proofs.Prelude.{◌≡◌, sym, ◌∙◌, true, are_final_below}
use Rattle.sum_tree.proofs.Seats.{finish_done, final_sum}
use Rattle.sum_tree.proofs.plain.PlainSumsSums.finish.Goals as goal

pub returns-clause-exact : goal.returns-clause-exact
returns-clause-exact c =
    let all : are_final_below c.args.self.now c.args.seat.now.number ≡ true = sym c.are_children_final.ensures ∙ c.if-not-are_children_final.false in
    (all, c.total-sum.ensures ∙ final_sum c.args.self.now c.args.seat.now c.requires.seat all)

pub returns-clause-mine : goal.returns-clause-mine
returns-clause-mine c =
    let all : are_final_below c.args.self.now c.args.seat.now.number ≡ true = sym c.are_children_final.ensures ∙ c.if-not-are_children_final.false in
    (finish_done c.args.self.now c.write.new.self c.args.seat.now _ c.total-sum.result c.requires.seat c.requires.counting c.seat.view_is
    c.total-sum.ensures all c.write.ensures).mine

pub returns-clause-others : goal.returns-clause-others
returns-clause-others c =
    let all : are_final_below c.args.self.now c.args.seat.now.number ≡ true = sym c.are_children_final.ensures ∙ c.if-not-are_children_final.false in
    (finish_done c.args.self.now c.write.new.self c.args.seat.now _ c.total-sum.result c.requires.seat c.requires.counting c.seat.view_is
    c.total-sum.ensures all c.write.ensures).others
