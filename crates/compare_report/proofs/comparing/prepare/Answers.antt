use Rattle.compare_report.proofs.Prelude.{rules, inl, inr, side_of, compare_asked, StopsCompare}
use Rattle.compare_report.proofs.Steps.{Steps, compares_by, outputs_by}
use Rattle.compare_report.proofs.comparing.prepare.Goals as goal

pub returns-clause-prepared : goal.returns-clause-prepared
returns-clause-prepared g c =
    let before = side_of g.G.Plot c.args.files.now in
    let walked = side_of g.G.Plot c.walk_sides.new.files in
    let after = side_of g.G.Plot c.compare_sides.new.files in
    let asked = compare_asked c.args.task in
    let sides = c.in_ok-sides.sides in
    let found = c.in_ok-compared.compared in
    let steps : Steps asked sides found before walked after =
    record {
      left_top = c.in_ok-sides.ensures.tops.0;
      right_top = c.in_ok-sides.ensures.tops.1;
      walks = c.in_ok-sides.ensures.walks;
      same = c.in_ok-sides.ensures.same;
      compares = c.in_ok-compared.ensures.compared;
      counted = c.in_ok-compared.ensures.counted;
    } in
    record {
      left = sides.left;
      right = sides.right;
      found = found;
      compares = compares_by asked sides found before walked after steps;
      are = outputs_by asked sides found c.in_ok-outputs.outputs.items before walked after steps c.in_ok-outputs.ensures.are;
      notes = c.in_ok-notes.notes.items;
      names = c.in_ok-notes.ensures;
      prints = search rules;
      tells = search rules;
      counts = search rules;
    }

pub returns-in_err-sides-clause-stopped : goal.returns-in_err-sides-clause-stopped
returns-in_err-sides-clause-stopped g c =
    let before = side_of g.G.Plot c.args.files.now in
    let after = side_of g.G.Plot c.walk_sides.new.files in
    let stops : StopsCompare (compare_asked c.args.task) before after c.in_err-sides.field-0.0 =
    inr (inl (c.in_err-sides.ensures.stopped, c.in_err-sides.ensures.same)) in search rules
