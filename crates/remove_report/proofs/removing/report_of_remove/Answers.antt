use Rattle.remove_report.proofs.Prelude.{rules, subst, side_of, side_with, Acts, remove_asked, LeavesRemove}
use Rattle.remove_report.proofs.Steps.{chooses_by, stops_finding, leaves_all, leaves_others}
use Rattle.remove_report.proofs.removing.report_of_remove.Given as given
use Rattle.remove_report.proofs.removing.report_of_remove.Goals as goal
use Rattle.remove_report.proofs.removing.report_of_remove.Goals.{After-remove_and_tell}

-- whatever the removal answers, only chosen paths may be gone
leaves : (g : given.Over) (c : After-remove_and_tell g) →
    LeavesRemove (remove_asked c.args.task) c.args.now (side_of g.G.Plot c.args.files.now) (side_of g.G.Plot c.remove_and_tell.new.files)
leaves g c =
    let told = c.in_ok-found.ensures in
    let acted = c.remove_and_tell.ensures in
    let after = side_of g.G.Plot c.remove_and_tell.new.files in
    leaves_others (remove_asked c.args.task) c.args.now _ _ after _ _ _ told.finds told.same acted.dry acted.tells acted.rest

pub returns-clause-reports : goal.returns-clause-reports
returns-clause-reports g c =
    let asked = remove_asked c.args.task in
    let found = c.in_ok-found.found in
    let told = c.in_ok-found.ensures in
    let texts = c.in_ok-report.ensures.told in
    let between = g.G.Plot.count c.find_lower.new.files in
    let after = side_of g.G.Plot c.remove_and_tell.new.files in
    record {
      chosen = found.chosen;
      named = found.notes.items;
      found = between;
      chooses = chooses_by asked c.args.now _ _ found.chosen found.notes.items found.account told.finds told.same;
      rows = texts.rows;
      acts = subst (λ t. Acts asked.dryrun found.chosen texts.rows (side_with t between) after) told.same texts.acts;
      notes = texts.notes;
      names = texts.names;
      prints = texts.prints;
      tells = texts.tells;
      counts = texts.counts;
    }

pub returns-clause-leaves : goal.returns-clause-leaves
returns-clause-leaves g c = leaves g (goal.at.returns-clause-leaves g c).After-remove_and_tell

pub returns-in_err-found-clause-stops : goal.returns-in_err-found-clause-stops
returns-in_err-found-clause-stops g c =
    let before = side_of g.G.Plot c.args.files.now in
    let after = side_of g.G.Plot c.find_lower.new.files in
    let stops = stops_finding (remove_asked c.args.task) before after _ c.find_lower.ensures.same c.in_err-found.ensures.stopped in search rules

pub returns-in_err-report-clause-leaves : goal.returns-in_err-report-clause-leaves
returns-in_err-report-clause-leaves g c = leaves g (goal.at.returns-in_err-report-clause-leaves g c).After-remove_and_tell

pub returns-in_err-found-clause-leaves : goal.returns-in_err-found-clause-leaves
returns-in_err-found-clause-leaves g c =
    let before = side_of g.G.Plot c.args.files.now in
    let after = side_of g.G.Plot c.find_lower.new.files in
    leaves_all (remove_asked c.args.task) c.args.now before after c.find_lower.ensures.same
