use Rattle.circle_run.proofs.Prelude.{rules, ◌≡◌, ◌∷◌, length, length-append, ap, arith, into_iter_items}
use Rattle.circle_run.proofs.pools.add_all.Goals as goal

pub add_one-requires : goal.add_one-requires
add_one-requires g c =
    let i = c.loop-x.invariant in
    let list = c.loop-x.list.items in
    let e : into_iter_items c.loop-x.x-iterator ≡ c.in-Some.x ∷ into_iter_items c.next.new.self = search rules in
    let n = ap length e in
    let all = ap length i.items in
    let a = length-append list (into_iter_items c.loop-x.x-iterator) in
    let b = length-append c.args.list.now.items c.args.more.items in
    let r = c.requires.room in
    let k = i.room in
    record { room = omega arith }
