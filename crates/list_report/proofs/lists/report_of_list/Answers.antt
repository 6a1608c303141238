use Rattle.list_report.proofs.Prelude.{rules, subst, side_of, Saved, output_of, list_asked}
use Rattle.list_report.proofs.Steps.{finds_before, stops_finding, stops_saving}
use Rattle.list_report.proofs.lists.report_of_list.Goals as goal

pub returns-clause-reports : goal.returns-clause-reports
returns-clause-reports g c =
    let tree = g.G.Plot.tree in
    let count = g.G.Plot.count in
    let asked = list_asked c.args.task in
    let found = c.in_ok-found.found in
    let told = c.in_ok-found.ensures in
    let before = side_of g.G.Plot c.args.files.now in
    let between = side_of g.G.Plot c.find.new.files in
    let saved = subst (λ t. Saved (output_of asked.output found.chosen) t (tree c.save_list.new.files)) told.same c.in_ok-save_list.ensures.saved in
    let texts = c.in_ok-list_report.ensures in
    record {
      chosen = found.chosen;
      notes = found.notes.items;
      account = found.account;
      found = count c.find.new.files;
      finds = finds_before asked c.args.now before between told.same told.finds;
      later = c.in_ok-save_list.ensures.count.kept;
      saved = saved;
      printed = texts.out.0;
      order = texts.out.1;
      prints = texts.out.2;
      tells = texts.notes;
      counts = texts.failed;
    }

pub returns-in_err-found-clause-stops : goal.returns-in_err-found-clause-stops
returns-in_err-found-clause-stops g c =
    let before = side_of g.G.Plot c.args.files.now in
    let after = side_of g.G.Plot c.find.new.files in
    let stops = stops_finding (list_asked c.args.task) before after _ c.find.ensures.same c.in_err-found.ensures.stopped in search rules

pub returns-in_err-save_list-clause-stops : goal.returns-in_err-save_list-clause-stops
returns-in_err-save_list-clause-stops g c =
    let told = c.in_ok-found.ensures in
    let before = side_of g.G.Plot c.args.files.now in
    let between = side_of g.G.Plot c.find.new.files in
    let after = side_of g.G.Plot c.save_list.new.files in
    let stops =
    stops_saving (list_asked c.args.task) c.args.now before between after _ told.same
    told.finds c.save_list.ensures.count.kept c.in_err-save_list.ensures.stopped
    in search rules
