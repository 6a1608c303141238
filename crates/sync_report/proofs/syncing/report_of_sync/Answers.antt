use Rattle.sync_report.proofs.Prelude.{rules, ◌∙◌, inl, inr, refl, ap, length, note_lines, synced_line, side_of, StopsSync, counts_of, pair_of, sync_asked}
use Rattle.run_report.specs.declared.stops.Stop.TheVariants as stop
use Rattle.sync_report.proofs.Noted.{named_equal}
use Rattle.sync_report.proofs.Steps.{Looked, leaves_rest, stops_walking, surveys_by, syncs_by}
use Rattle.sync_report.proofs.syncing.report_of_sync.Goals as goal

pub returns-clause-reports : goal.returns-clause-reports
returns-clause-reports g c =
    let tree = g.G.Plot.tree in
    let asked = sync_asked c.args.task in
    let pair = pair_of asked in
    let placed = c.in-Ok.ensures in
    let told = c.in_ok-sides.ensures in
    let acted = c.in_ok-synced.ensures in
    let texts = c.in_ok-report.ensures in
    let sides = c.in_ok-sides.sides in
    let done = c.in_ok-synced.synced in
    let before = side_of g.G.Plot c.args.files.now in
    let looked = side_of g.G.Plot c.place_pair.new.files in
    let walked = side_of g.G.Plot c.walk_pair.new.files in
    let after = side_of g.G.Plot c.sync_sides.new.files in
    let look : Looked pair before looked = record { places = placed.placed.places; same = placed.same; kept = placed.count.kept } in
    inr (record {
      source = sides.left;
      dest = sides.right;
      walked = walked.count;
      surveys = surveys_by pair sides.left sides.right before looked walked look told.same told.walks;
      done = done;
      syncs = syncs_by pair sides.left sides.right asked.delete done before walked after (told.same ∙ placed.same) acted.syncs;
      notes = c.in_ok-notes.notes.items;
      names = c.in_ok-notes.ensures;
      prints = texts.out ∙ ap (λ ns. synced_line (counts_of done (length ns))) c.deref.ensures.value;
      tells = texts.notes ∙ ap note_lines c.deref.ensures.value;
      counts = texts.failed ∙ ap length c.deref.ensures.value;
      equal = named_equal pair sides.left sides.right (tree c.place_pair.new.files) (tree c.sync_sides.new.files) asked.delete done
          c.in_ok-notes.notes.items told.ready c.in_ok-notes.ensures acted.equal;
    })

pub returns-in_err-sides-clause-stops : goal.returns-in_err-sides-clause-stops
returns-in_err-sides-clause-stops g c =
    let asked = sync_asked c.args.task in
    let placed = c.in-Ok.ensures in
    let told = c.in_err-sides.ensures in
    let why = c.in_err-sides.field-0.0 in
    let before = side_of g.G.Plot c.args.files.now in
    let looked = side_of g.G.Plot c.place_pair.new.files in
    let after = side_of g.G.Plot c.walk_pair.new.files in
    let look : Looked (pair_of asked) before looked = record { places = placed.placed.places; same = placed.same; kept = placed.count.kept } in
    let stops : StopsSync asked before after why = stops_walking asked before looked after why look told.same told.count.kept told.stopped in
    search (rules, stops, c.from_residual-in_err-sides.ensures)

pub returns-in_err-notes-clause-stops : goal.returns-in_err-notes-clause-stops
returns-in_err-notes-clause-stops g c =
    let before = side_of g.G.Plot c.args.files.now in
    let after = side_of g.G.Plot c.sync_sides.new.files in
    let memory : StopsSync (sync_asked c.args.task) before after stop.OutOfMemory = inl refl in
    search (rules, memory, c.from_residual-in_err-notes.ensures)

pub returns-in_err-report-clause-stops : goal.returns-in_err-report-clause-stops
returns-in_err-report-clause-stops g c =
    let before = side_of g.G.Plot c.args.files.now in
    let after = side_of g.G.Plot c.sync_sides.new.files in
    let memory : StopsSync (sync_asked c.args.task) before after stop.OutOfMemory = inl refl in
    search (rules, memory, c.from_residual-in_err-report.ensures)

-- ---- what is left

pub returns-in_err-synced-clause-leaves : goal.returns-in_err-synced-clause-leaves
returns-in_err-synced-clause-leaves g c =
    let tree = g.G.Plot.tree in
    leaves_rest (sync_asked c.args.task) (tree c.args.files.now) (tree c.walk_pair.new.files) (tree c.sync_sides.new.files)
    (c.in_ok-sides.ensures.same ∙ c.in-Ok.ensures.same) c.sync_sides.ensures.tells c.sync_sides.ensures.rest

pub returns-in_err-notes-clause-leaves : goal.returns-in_err-notes-clause-leaves
returns-in_err-notes-clause-leaves g c =
    let tree = g.G.Plot.tree in
    leaves_rest (sync_asked c.args.task) (tree c.args.files.now) (tree c.walk_pair.new.files) (tree c.sync_sides.new.files)
    (c.in_ok-sides.ensures.same ∙ c.in-Ok.ensures.same) c.in_ok-synced.ensures.tells c.in_ok-synced.ensures.rest

pub returns-in_err-report-clause-leaves : goal.returns-in_err-report-clause-leaves
returns-in_err-report-clause-leaves g c =
    let tree = g.G.Plot.tree in
    leaves_rest (sync_asked c.args.task) (tree c.args.files.now) (tree c.walk_pair.new.files) (tree c.sync_sides.new.files)
    (c.in_ok-sides.ensures.same ∙ c.in-Ok.ensures.same) c.in_ok-synced.ensures.tells c.in_ok-synced.ensures.rest

pub returns-clause-leaves : goal.returns-clause-leaves
returns-clause-leaves g c =
    let tree = g.G.Plot.tree in
    leaves_rest (sync_asked c.args.task) (tree c.args.files.now) (tree c.walk_pair.new.files) (tree c.sync_sides.new.files)
    (c.in_ok-sides.ensures.same ∙ c.in-Ok.ensures.same) c.in_ok-synced.ensures.tells c.in_ok-synced.ensures.rest
