use Rattle.range_copy.proofs.Prelude.{◌∙◌, subst, IfSome, IfOk, IsTreeIn, if_ok}
use Rattle.range_copy.proofs.Caused.{caused}
use Rattle.range_copy.proofs.Folded.{rose_two}
use Rattle.range_copy.proofs.Reported.{Reported, all_reported, apart_second, can_first, exceed_second, fit_first, makes_second}
use Rattle.range_copy.proofs.Reported.{rest_first, rest_second, rows_in_source, source_second}
use Rattle.range_copy.proofs.Widened.{Given}
use Rattle.range_copy.proofs.widening.copy_wide.Given as given
use Rattle.range_copy.proofs.widening.copy_wide.Goals as goal
use Rattle.range_copy.proofs.widening.copy_wide.Goals.{After-report_of, In_ok-parts}

-- what is known of the list and its pairs once the list is in parts
known : (g : given.Over) (c : In_ok-parts g) → Given c.args.list.now c.args.pairs.now
known g c = record { can = c.requires.list; ends = c.see_pairs.ensures; valid = c.in_ok-parts.ensures.paths }

pub copy-requires-clause-list : goal.copy-requires-clause-list
copy-requires-clause-list g c κs within =
    can_first _ _ (known g (goal.at.copy-requires-clause-list g c).In_ok-parts) c.args.piece _ c.in_ok-parts.ensures.small

pub copy-requires-clause-fits : goal.copy-requires-clause-fits
copy-requires-clause-fits g c κs within =
    fit_first _ _ (known g (goal.at.copy-requires-clause-fits g c).In_ok-parts) c.args.piece _ c.in_ok-parts.ensures.small
    (g.G.Plot.tree c.args.ground.now) c.requires.fits

pub returns-in_err-small-clause-rest : goal.returns-in_err-small-clause-rest
returns-in_err-small-clause-rest g c =
    rest_first _ _ (known g (goal.at.returns-in_err-small-clause-rest g c).In_ok-parts) c.args.piece _ c.in_ok-parts.ensures.small
    (g.G.Plot.tree c.args.ground.now) (g.G.Plot.tree c.copy.new.ground) c.in_err-small.ensures.rest

pub failed_targets-requires : goal.failed_targets-requires
failed_targets-requires g c =
    rows_in_source _ _ (known g (goal.at.failed_targets-requires g c).In_ok-parts) c.args.piece _ c.in_ok-parts.ensures.small
    c.in_ok-small.small.0 c.in_ok-small.ensures.paths

pub returns-in_err-failed-clause-rest : goal.returns-in_err-failed-clause-rest
returns-in_err-failed-clause-rest g c =
    rest_first _ _ (known g (goal.at.returns-in_err-failed-clause-rest g c).In_ok-parts) c.args.piece _ c.in_ok-parts.ensures.small
    (g.G.Plot.tree c.args.ground.now) (g.G.Plot.tree c.copy.new.ground) c.in_ok-small.ensures.rest

pub copy_each-requires-clause-large : goal.copy_each-requires-clause-large
copy_each-requires-clause-large g c κs within =
    exceed_second _ _ (known g (goal.at.copy_each-requires-clause-large g c).In_ok-parts) c.args.piece _ c.in_ok-parts.ensures.small
    _ (c.deref.ensures.value ∙ c.in_ok-parts.ensures.large)

pub copy_each-requires-clause-in_source : goal.copy_each-requires-clause-in_source
copy_each-requires-clause-in_source g c κs within =
    source_second _ _ (known g (goal.at.copy_each-requires-clause-in_source g c).In_ok-parts) c.args.piece _ c.in_ok-parts.ensures.small
    _ (c.deref.ensures.value ∙ c.in_ok-parts.ensures.large)

pub copy_each-requires-clause-apart : goal.copy_each-requires-clause-apart
copy_each-requires-clause-apart g c κs within =
    apart_second _ _ (known g (goal.at.copy_each-requires-clause-apart g c).In_ok-parts) c.args.piece _ c.in_ok-parts.ensures.small
    _ (c.deref.ensures.value ∙ c.in_ok-parts.ensures.large)

pub copy_each-requires-clause-makes : goal.copy_each-requires-clause-makes
copy_each-requires-clause-makes g c κs within =
    let t = g.G.Plot.tree c.args.ground.now in
    makes_second _ _ (known g (goal.at.copy_each-requires-clause-makes g c).In_ok-parts) c.args.piece _ c.in_ok-parts.ensures.small
    _ (c.deref.ensures.value ∙ c.in_ok-parts.ensures.large) c.nodes_are_under_directories.ensures t (g.G.Plot.tree c.copy.new.ground)
    (subst (λ a. IfSome t (IsTreeIn a)) c.requires.lent c.faults-faults.ensures.valid) c.requires.fits c.in_ok-small.small.0
    c.in_ok-small.ensures.paths c.in_ok-small.ensures.tells c.in_ok-small.ensures.told c.in_ok-failed.failed.set.keys c.in_ok-failed.ensures

pub returns-in_err-large-clause-rest : goal.returns-in_err-large-clause-rest
returns-in_err-large-clause-rest g c =
    rest_second _ _ (known g (goal.at.returns-in_err-large-clause-rest g c).In_ok-parts) c.args.piece _ c.in_ok-parts.ensures.small
    _ (c.deref.ensures.value ∙ c.in_ok-parts.ensures.large) (g.G.Plot.tree c.args.ground.now) (g.G.Plot.tree c.copy.new.ground)
    (g.G.Plot.tree c.copy_each.new.ground) c.in_ok-small.ensures.tells c.in_ok-small.ensures.rest c.in_err-large.ensures.rest

pub returns-in_err-large-clause-tells : goal.returns-in_err-large-clause-tells
returns-in_err-large-clause-tells g c = c.in_err-large.ensures.tells ∙ c.in_ok-small.ensures.tells

pub returns-in_err-large-clause-count : goal.returns-in_err-large-clause-count
returns-in_err-large-clause-count g c = rose_two _ _ _ c.in_ok-small.ensures.count c.in_err-large.ensures.count

pub returns-clause-tells : goal.returns-clause-tells
returns-clause-tells g c = c.in_ok-large.ensures.tells ∙ c.in_ok-small.ensures.tells

pub returns-clause-count : goal.returns-clause-count
returns-clause-count g c = rose_two _ _ _ c.in_ok-small.ensures.count c.in_ok-large.ensures.count

pub returns-clause-rest : goal.returns-clause-rest
returns-clause-rest g c =
    rest_second _ _ (known g (goal.at.returns-clause-rest g c).In_ok-parts) c.args.piece _ c.in_ok-parts.ensures.small
    _ (c.deref.ensures.value ∙ c.in_ok-parts.ensures.large) (g.G.Plot.tree c.args.ground.now) (g.G.Plot.tree c.copy.new.ground)
    (g.G.Plot.tree c.copy_each.new.ground) c.in_ok-small.ensures.tells c.in_ok-small.ensures.rest c.in_ok-large.ensures.rest

-- what the report says
said : (g : given.Over) (c : After-report_of g) → IfOk c.report_of.result (Reported c.args.list.now c.args.pairs.now
    (g.G.Plot.tree c.args.ground.now) (g.G.Plot.tree c.copy_each.new.ground) (g.G.Plot.count c.args.ground.now) (g.G.Plot.count c.copy_each.new.ground))
said g c =
    let small = c.in_ok-small in
    let large = c.in_ok-large in
    all_reported c.args.list.now c.args.pairs.now
    (record { can = c.requires.list; ends = c.see_pairs.ensures; valid = c.in_ok-parts.ensures.paths }) c.args.piece small.small large.large
    (g.G.Plot.tree c.args.ground.now) (g.G.Plot.tree c.copy.new.ground) (g.G.Plot.tree c.copy_each.new.ground)
    (g.G.Plot.count c.args.ground.now) (g.G.Plot.count c.copy.new.ground) (g.G.Plot.count c.copy_each.new.ground)
    c.in_ok-parts.parts.small c.deref.result.now c.deref-2.result.now c.in_ok-parts.ensures.small
    (c.deref.ensures.value ∙ c.in_ok-parts.ensures.large) (c.deref-2.ensures.value ∙ c.in_ok-parts.ensures.marks)
    (record {
      said = record {
        paths = small.ensures.paths;
        early = small.ensures.early;
        told = small.ensures.told;
        copied = small.ensures.copied;
        bytes = small.ensures.bytes;
        blamed = small.ensures.blamed;
      };
      tells_s = small.ensures.tells;
      early_l = large.ensures.early small.small.0 c.in_ok-failed.ensures;
      told_l = large.ensures.told small.small.0 c.in_ok-failed.ensures;
      copied_l = large.ensures.copied;
      bytes_l = large.ensures.bytes;
      blamed_l = large.ensures.blamed;
      rest_l = large.ensures.rest;
    }) c.report_of.result c.report_of.ensures.rows c.report_of.ensures.copied c.report_of.ensures.bytes

pub returns-clause-paths : goal.returns-clause-paths
returns-clause-paths g c = if_ok _ _ c.report_of.result (λ report r. r.paths) (said g (goal.at.returns-clause-paths g c).After-report_of)

pub returns-clause-early : goal.returns-clause-early
returns-clause-early g c = if_ok _ _ c.report_of.result (λ report r. r.early) (said g (goal.at.returns-clause-early g c).After-report_of)

pub returns-clause-told : goal.returns-clause-told
returns-clause-told g c = if_ok _ _ c.report_of.result (λ report r. r.told) (said g (goal.at.returns-clause-told g c).After-report_of)

pub returns-clause-copied : goal.returns-clause-copied
returns-clause-copied g c = if_ok _ _ c.report_of.result (λ report r. r.copied) (said g (goal.at.returns-clause-copied g c).After-report_of)

pub returns-clause-bytes : goal.returns-clause-bytes
returns-clause-bytes g c = if_ok _ _ c.report_of.result (λ report r. r.bytes) (said g (goal.at.returns-clause-bytes g c).After-report_of)

pub returns-clause-blamed : goal.returns-clause-blamed
returns-clause-blamed g c = if_ok _ _ c.report_of.result (λ report r. r.blamed) (said g (goal.at.returns-clause-blamed g c).After-report_of)

pub returns-clause-causes : goal.returns-clause-causes
returns-clause-causes g c =
    let small = c.in_ok-small in
    let large = c.in_ok-large in
    if_ok _ _ c.report_of.result (λ report is. caused g.G.Reader.Tree.gives g.G.Part.Plot.gives g.G.Plot.gives g.G.Plot.area g.G.Plot.count
    c.args.list.now c.args.pairs.now c.args.piece c.in_ok-parts.parts.small c.deref.result.now c.deref-2.result.now small.small.0 large.large.rows.items
    report.0 c.in_ok-parts.ensures.small (c.deref.ensures.value ∙ c.in_ok-parts.ensures.large) (c.deref-2.ensures.value ∙ c.in_ok-parts.ensures.marks)
    small.ensures.paths small.ensures.causes large.ensures.shown is) c.report_of.ensures.rows
