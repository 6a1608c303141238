use Rattle.copy_report.proofs.Prelude.{◌∙◌, inr, IfSome, subst, SameButTargets, side_of, side_with, copy_asked, LeavesCopy, Surveys, TellsCopies}
use Rattle.copy_report.proofs.Steps.{copies_by, leaves_others, looked_by, surveys_by}
use Rattle.copy_report.proofs.copying.report_of_copy.Given as given
use Rattle.copy_report.proofs.copying.report_of_copy.Goals as goal
use Rattle.copy_report.proofs.copying.report_of_copy.Goals.{After-copy_and_tell}

-- the targets were placed and the sources walked
surveyed : (g : given.Over) (c : After-copy_and_tell g) →
    Surveys (copy_asked c.args.task) (side_of g.G.Plot c.args.files.now)
    (side_with (g.G.Plot.tree c.args.files.now) (g.G.Plot.count c.walk_sources.new.files)) c.in-Ok.pairs.items c.in_ok-list.list
surveyed g c =
    let asked = copy_asked c.args.task in
    let placed = c.in-Ok.ensures in
    let told = c.in_ok-list.ensures in
    let before = side_of g.G.Plot c.args.files.now in
    let looked = side_of g.G.Plot c.place_targets.new.files in
    let walked = side_of g.G.Plot c.walk_sources.new.files in
    let pairs = c.in-Ok.pairs.items in
    surveys_by asked before looked walked pairs c.in_ok-list.list
    (looked_by asked before looked pairs _ c.deref.ensures.value placed.places placed.same placed.count.kept) told.same told.walked told.few

-- and whatever the copy answers, the targets alone may have changed
leaves : (g : given.Over) (c : After-copy_and_tell g) →
    LeavesCopy (copy_asked c.args.task) (side_of g.G.Plot c.args.files.now) (side_of g.G.Plot c.copy_and_tell.new.files)
leaves g c =
    let acted = c.copy_and_tell.ensures in
    let walked = side_of g.G.Plot c.walk_sources.new.files in
    let after = side_of g.G.Plot c.copy_and_tell.new.files in
    let list = c.in_ok-list.list in
    leaves_others (copy_asked c.args.task) (side_of g.G.Plot c.args.files.now) walked after c.in-Ok.pairs.items list
    (c.in_ok-list.ensures.same ∙ c.in-Ok.ensures.same) (surveyed g c) acted.tells
    (subst (λ ps. IfSome walked.tree (λ old. IfSome after.tree (SameButTargets ps list old))) c.deref-3.ensures.value acted.rest)

pub returns-clause-reports : goal.returns-clause-reports
returns-clause-reports g c =
    let walked = side_of g.G.Plot c.walk_sources.new.files in
    let after = side_of g.G.Plot c.copy_and_tell.new.files in
    let pairs = c.in-Ok.pairs.items in
    let list = c.in_ok-list.list in
    let texts : TellsCopies pairs list walked after c.in_ok-report.report =
    subst (λ ps. TellsCopies ps list walked after c.in_ok-report.report) c.deref-3.ensures.value c.in_ok-report.ensures.told in
    inr (record {
      pairs = pairs;
      entries = list;
      found = walked.count;
      surveys = surveyed g (goal.at.returns-clause-reports g c).After-copy_and_tell;
      rows = texts.rows;
      copies = copies_by (side_of g.G.Plot c.args.files.now) walked after pairs list texts.rows (c.in_ok-list.ensures.same ∙ c.in-Ok.ensures.same)
          texts.copies;
      notes = texts.notes;
      names = texts.names;
      prints = texts.prints;
      tells = texts.tells;
      counts = texts.counts;
    })

pub returns-in_err-report-clause-leaves : goal.returns-in_err-report-clause-leaves
returns-in_err-report-clause-leaves g c = leaves g (goal.at.returns-in_err-report-clause-leaves g c).After-copy_and_tell

pub returns-clause-leaves : goal.returns-clause-leaves
returns-clause-leaves g c = leaves g (goal.at.returns-clause-leaves g c).After-copy_and_tell
