use Rattle.list_report.proofs.Prelude.{rules, Some, roots, choice_in, Finds, StopsFinding}
use Rattle.list_report.proofs.Steps.{over_made}
use Rattle.list_report.proofs.Succeeds.{made_stops}
use Rattle.list_report.proofs.made.report_of_test.Goals as goal

pub returns-clause-reports : goal.returns-clause-reports
returns-clause-reports g c =
    let task = c.args.task in
    let found = c.in_ok-found.found in
    let texts = c.in_ok-test_report.ensures in
    let finds =
    over_made
    (λ ps before after. Finds task.common (roots ps) (Some (choice_in task.tests)) c.args.now before after found.chosen found.notes.items found.account)
    task.nodes
    c.in_ok-made_roots.field-0.items c.in_ok-files.files.0 c.find.new.files.0 c.in_ok-made_roots.ensures c.in_ok-files.ensures.files c.find.ensures.same
    c.in_ok-found.ensures.finds
    in
    record {
      chosen = found.chosen;
      notes = found.notes.items;
      account = found.account;
      finds = finds;
      prints = texts.out;
      tells = texts.notes;
      counts = texts.failed;
    }

pub returns-in_err-found-clause-stops : goal.returns-in_err-found-clause-stops
returns-in_err-found-clause-stops g c =
    let task = c.args.task in
    let choice = Some (choice_in task.tests) in
    let why = c.in_err-found.field-0.0 in
    let made =
    over_made (λ ps before after. StopsFinding (roots ps) choice before after why) task.nodes c.in_ok-made_roots.field-0.items c.in_ok-files.files.0
    c.find.new.files.0 c.in_ok-made_roots.ensures c.in_ok-files.ensures.files c.find.ensures.same c.in_err-found.ensures.stopped
    in
    let memory = made_stops c.made_walk_is_fine.ensures c.fine_finds_stop_for_memory.ensures task.nodes c.requires.nodes choice why made in search rules
