use Rattle.dup_report.proofs.Prelude.{arith, inr, rules, grouping_is_few, side_of, dup_asked, StopsDup}
use Rattle.dup_report.proofs.Steps.{finds_by}
use Rattle.dup_report.proofs.grouping.report_of_dup.Goals as goal

pub returns-clause-reports : goal.returns-clause-reports
returns-clause-reports g c =
    let before = side_of g.G.Plot c.args.files.now in
    let walked = side_of g.G.Plot c.walk_listed.new.files in
    let after = side_of g.G.Plot c.group_listed.new.files in
    let list = c.in_ok-list in
    let found = c.in_ok-found in
    record {
      entries = list.list;
      found = found.found;
      finds = finds_by (dup_asked c.args.task) list.list found.found before walked after (record {
        walks = list.ensures.walked;
        few = list.ensures.few;
        same = list.ensures.same;
        grouped = found.ensures.groups;
        counted = found.ensures.counted;
      });
      notes = c.in_ok-notes.notes.items;
      names = c.in_ok-notes.ensures;
      prints = search rules;
      tells = search rules;
      counts = search rules;
    }

pub returns-in_err-list-clause-stops : goal.returns-in_err-list-clause-stops
returns-in_err-list-clause-stops g c =
    let before = side_of g.G.Plot c.args.files.now in
    let after = side_of g.G.Plot c.walk_listed.new.files in
    let stops : StopsDup (dup_asked c.args.task) before after c.in_err-list.field-0.0 =
    inr (c.in_err-list.ensures.stopped, c.in_err-list.ensures.same) in search rules

pub dup_report-requires : goal.dup_report-requires
dup_report-requires g c =
    let found = c.in_ok-found.found in
    let few = grouping_is_few (g.G.Plot.tree c.walk_listed.new.files) c.in_ok-list.list found c.in_ok-found.ensures.groups in
    omega (arith, few, c.in_ok-list.ensures.few)
