use Rattle.path_text.proofs.Shared.{prefix_past}
use Rattle.path_text.proofs.prefixes.common_len.Goals as goal

pub loop-i-init : goal.loop-i-init
loop-i-init c =
    let same = c.shared_words-same.ensures in
    prefix_past c.args.a.now c.args.b.now c.shared_words-same.result same.in_a same.in_b same.same
