use Rattle.flat_list.proofs.Prelude.{◌∙◌, ap, sym, Vec, Global, List, IsPermutation, flat_map-append, IfOk-at_ok, Entry}
use Rattle.flat_list.proofs.Halved.{halves_moved}
use Rattle.flat_list.proofs.Merged.{flat, same}
use Rattle.flat_list.proofs.halving.+halves.Goals as goal

pub returns : goal.returns
returns g t c =
    let logs = c.args.logs.items in
    let front = c.split_off.new.self.items in
    let back = c.in_ok-later.later.items in
    let cut = c.in_ok-later.ensures in
    let one = IfOk-at_ok (λ (runs : Vec (List Entry) Global). IsPermutation (flat front) (flat runs.items)) {r = c.join-one.result.0}
    c.in_ok-all.was c.join-one.ensures.first in
    let other = IfOk-at_ok (λ (runs : Vec (List Entry) Global). IsPermutation (flat back) (flat runs.items)) {r = c.join-one.result.1}
    c.in_ok-other.was c.join-one.ensures.second in
    let all = same _ _ (sym (ap flat c.in_ok-append.ensures.items ∙ flat_map-append (λ run. run) c.in_ok-all.all.items c.in_ok-other.other.items)) in
    halves_moved (λ log. log) logs front back _ _ _ _ cut.items cut.tail one other all
