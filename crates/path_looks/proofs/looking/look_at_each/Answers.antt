use Rattle.path_looks.proofs.Prelude.{◌<◌, ◌^◌, ◌≡◌, arith, All, sum_by, nat_tests, nil_from_length, RoseBy, paths_of, fault_of, IsSeen, AreLooks}
use Rattle.path_looks.proofs.Told.{are_looks, no_looks, if_ok_all}
use Rattle.path_looks.proofs.looking.look_at_each.Goals as goal

pub returns-then-is_empty-clause-looks : goal.returns-then-is_empty-clause-looks
returns-then-is_empty-clause-looks g c =
    let none = nil_from_length c.args.paths.items (grind (arith, nat_tests)) in
    no_looks (g.G.Plot.tree c.args.files.now) c.args.paths.items c.new.result.items (g.G.Plot.count c.args.files.now) none c.new.ensures.items

pub returns-clause-looks : goal.returns-clause-looks
returns-clause-looks g c =
    let tree = g.G.Plot.tree c.args.files.now in
    let told = g.G.Reader.Tree.tree c.in_ok-reader.reader in
    let given = c.args.paths.items in
    let each = c.in_ok-paths.paths.items in
    let old = g.G.Plot.count c.args.files.now in
    let began = g.G.Reader.Tree.count c.in_ok-reader.reader in
    let during = g.G.Plot.count c.reader.new.self in
    let read = g.G.Reader.Tree.count c.looks_by-looks.new.reader in
    let new = g.G.Plot.count c.take_reader.new.self in
    let below : old < 2 ^ 64 = omega arith in
    let result = c.looks_by-looks.result in
    if_ok_all result (λ looks. paths_of looks.items ≡ each) (λ looks. All (λ l. IsSeen told l.path l.seen) looks.items)
    (λ looks. RoseBy (sum_by fault_of looks.items) began read) (λ looks. AreLooks tree given looks.items old new)
    (λ looks paths seen counted. are_looks tree told given each looks.items old during began read new (record {
      once = c.in_ok-paths.ensures.once;
      every = c.in_ok-paths.ensures.every;
      none_else = c.in_ok-paths.ensures.none_else;
      same = c.in_ok-reader.ensures.told;
      zero = c.in_ok-reader.ensures.zero;
      below = below;
      stood = c.reader.ensures.count;
      back = c.take_reader.ensures.count;
      paths = paths;
      seen = seen;
      counted = counted;
    }))
    c.looks_by-looks.ensures.paths c.looks_by-looks.ensures.told c.looks_by-looks.ensures.counted
