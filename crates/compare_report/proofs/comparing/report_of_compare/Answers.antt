use Rattle.compare_report.proofs.Prelude.{rules, map, subst, Want, side_of, Saved, StopsSaving, compare_asked, StopsCompare}
use Rattle.compare_report.proofs.Steps.{leaves_saved, same_leaves, stops_saving}
use Rattle.compare_report.proofs.comparing.report_of_compare.Goals as goal

pub returns-clause-reports : goal.returns-clause-reports
returns-clause-reports g c =
    let outputs = c.in_ok-ready.ready.outputs.items in
    let between = g.G.Plot.tree c.prepare.new.files in
    let after = g.G.Plot.tree c.save_lists.new.files in
    let p = c.in_ok-ready.ensures.prepared in
    let saved : Saved outputs between after = search rules in
    record {
      left = p.left;
      right = p.right;
      found = p.found;
      compared = g.G.Plot.count c.prepare.new.files;
      compares = p.compares;
      later = c.save_lists.ensures.count.kept;
      outputs = outputs;
      are = p.are;
      saved = subst (λ t. Saved outputs t after) c.in_ok-ready.ensures.same saved;
      notes = p.notes;
      names = p.names;
      prints = p.prints;
      tells = p.tells;
      counts = p.counts;
    }

pub returns-clause-leaves : goal.returns-clause-leaves
returns-clause-leaves g c =
    leaves_saved (compare_asked c.args.task) _ _ (g.G.Plot.tree c.save_lists.new.files) c.in_ok-ready.ready c.deref.result.now
    c.in_ok-ready.ensures.prepared c.in_ok-ready.ensures.same c.deref.ensures.value c.save_lists.ensures.rest

pub returns-in_err-save_lists-clause-stops : goal.returns-in_err-save_lists-clause-stops
returns-in_err-save_lists-clause-stops g c =
    let after = side_of g.G.Plot c.save_lists.new.files in
    let between = side_of g.G.Plot c.prepare.new.files in
    let before = side_of g.G.Plot c.args.files.now in
    let why = c.in_err-save_lists.field-0.0 in
    let saving : StopsSaving c.in_ok-ready.ready.outputs.items between after why = search rules in
    let stops : StopsCompare (compare_asked c.args.task) before after why =
    stops_saving (compare_asked c.args.task) before between after c.in_ok-ready.ready why
    c.in_ok-ready.ensures.prepared c.in_ok-ready.ensures.same c.save_lists.ensures.count.kept saving in
    search (rules, stops, c.from_residual-in_err-save_lists.ensures)

pub returns-in_err-save_lists-clause-leaves : goal.returns-in_err-save_lists-clause-leaves
returns-in_err-save_lists-clause-leaves g c =
    leaves_saved (compare_asked c.args.task) _ _ (g.G.Plot.tree c.save_lists.new.files) c.in_ok-ready.ready c.deref.result.now
    c.in_ok-ready.ensures.prepared c.in_ok-ready.ensures.same c.deref.ensures.value c.save_lists.ensures.rest

pub returns-in_err-ready-clause-leaves : goal.returns-in_err-ready-clause-leaves
returns-in_err-ready-clause-leaves g c =
    same_leaves (map (λ (want : Want). want.file) c.args.task.wants.items) (g.G.Plot.tree c.args.files.now) _ c.in_err-ready.ensures.same
