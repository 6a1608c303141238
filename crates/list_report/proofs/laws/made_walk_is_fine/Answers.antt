use Rattle.list_report.proofs.MadeWalk.{fine}
use Rattle.list_report.proofs.laws.made_walk_is_fine.Goals as goal

pub returns : goal.returns
returns c =
    fine c.walk_ascends.ensures c.walk_finds_all.ensures c.first_node_is_there.ensures
    c.test_files_are_tree.ensures c.no_child_is_far.ensures c.nodes_are_counted.ensures
