use Rattle.range_copy.proofs.Prelude.{◌≡◌, ap, refl, sym, subst, ◌∙◌, Some, Err, sum_by, IsTreeIn, came_of, faults_of, reader_faults, option_map, area_cut}
use Rattle.range_copy.proofs.Prelude.{pieces, IsShort, FilledBy, by_count}
use Rattle.std.specs.Prelude.{IfSome, ◌≤◌}
use Rattle.range_copy.specs.declared.filled.Filled.TheVariants as filled
use Rattle.range_copy.proofs.Counted.{back_counted, cause_told}
use Rattle.range_copy.proofs.Ended.{as_came, empty_now, open_now}
use Rattle.range_copy.proofs.Outcomes.{outcome_by, outcome_done}
use Rattle.range_copy.proofs.Showing.{outcome_shown, read_cuts, rose_back, spans_shown, was_spanned}
use Rattle.range_copy.proofs.Rejoined.{all_alike, came_told, has_bytes, is_out, is_whole, new_alike, others, still_alike}
use Rattle.range_copy.proofs.spanning.spanned.Goals as goal

pub lease_spans-requires-clause-open : goal.lease_spans-requires-clause-open
lease_spans-requires-clause-open g c = open_now (g.G.Plot.area c.args.ground.now) c.args.target.now c.requires.lent c.requires.root

pub lease_spans-requires-clause-empty : goal.lease_spans-requires-clause-empty
lease_spans-requires-clause-empty g c = empty_now c.args.target.now (g.G.Plot.tree c.args.ground.now) c.requires.empty

pub give_back_spans-requires-clause-pieces : goal.give_back_spans-requires-clause-pieces
give_back_spans-requires-clause-pieces g c =
    let out = is_out (g.G.Plot.area c.lease_spans.new.self) c.args.target.now c.args.cuts.now
    (c.in-Ok.ensures.area ∙ ap (area_cut c.args.target.now c.args.cuts.now) c.requires.lent) in
    ap (option_map (pieces c.args.target.now)) out ∙ ap (λ ps. Some ps) (sym (c.fill_spans-filled.ensures.filled.pieces ∙ c.in-Ok.ensures.pieces))

pub give_back_spans-requires-clause-tells : goal.give_back_spans-requires-clause-tells
give_back_spans-requires-clause-tells g c =
    let told = g.G.Plot.tree c.args.ground.now in
    all_alike g.G.Span.Span.piece g.G.Span.Span.holds told (g.G.Plot.tree c.lease_spans.new.self) c.fill_spans-filled.result.items
    c.lease_spans.ensures.tells
    (still_alike g.G.Span.Span.piece g.G.Span.Span.holds told c.in-Ok.spans.items c.fill_spans-filled.result.items
    c.fill_spans-filled.ensures.filled.tells
    (new_alike g.G.Span.Span.piece g.G.Span.Span.holds told c.in-Ok.spans.items (pieces c.args.target.now c.args.cuts.now) c.in-Ok.ensures.holds))

pub returns-clause-told : goal.returns-clause-told
returns-clause-told g c = λ seen see is.
    let told = g.G.Plot.tree c.args.ground.now in
    let done = c.fill_spans-filled.result.items in
    let f = c.fill_spans-filled.ensures.filled in
    let alike = still_alike g.G.Span.Span.piece g.G.Span.Span.holds told c.in-Ok.spans.items done f.tells
    (new_alike g.G.Span.Span.piece g.G.Span.Span.holds told c.in-Ok.spans.items (pieces c.args.target.now c.args.cuts.now) c.in-Ok.ensures.holds) in
    as_came _ (came_of c.outcome.result) c.came_of.result c.came_of.ensures
    (came_told seen (g.G.Plot.tree c.give_back_spans.new.self) c.args.target.now c.args.source.now c.args.size c.outcome.result is
    (λ e. has_bytes g.G.Span.Span.piece g.G.Span.Span.holds seen told (g.G.Plot.tree c.lease_spans.new.self) (g.G.Plot.tree c.give_back_spans.new.self)
    c.args.target.now c.args.source.now c.args.size c.args.cuts.now done c.lease_spans.ensures.tells c.give_back_spans.ensures.tells is
    (f.pieces ∙ c.in-Ok.ensures.pieces) c.requires.cuts c.requires.whole alike
    (f.ranges seen see (outcome_done c.fill_spans-filled.new.fillers (sym c.outcome.ensures ∙ e))) c.give_back_spans.ensures.tree)
    (λ e. outcome_by (λ o. o ≡ filled.Changed → IfSome seen (IsShort c.args.source.now c.args.size)) c.fill_spans-filled.new.fillers
    (λ d. absurd (never d)) (f.short seen see) (sym c.outcome.ensures ∙ e)))
  where
    never : filled.Done ≡ filled.Changed → ⊥
    never e = cc

pub returns-clause-cause : goal.returns-clause-cause
returns-clause-cause g c =
    let count = g.G.Plot.count in
    let faults = faults_of g.G.Reader.Tree.count g.G.Span.Span.count c.fill_spans-filled.new.fillers c.fill_spans-filled.result.items in
    cause_told _ c.outcome.result c.came_of.result c.came_of.ensures
    (λ e. back_counted (reader_faults g.G.Reader.Tree.count c.fill_spans-filled.new.fillers)
    (sum_by g.G.Span.Span.count c.fill_spans-filled.result.items) (count c.args.ground.now) (count c.lease_spans.new.self)
    (count c.give_back_spans.new.self)
    (outcome_by (λ f. f ≡ filled.Failed → 1 ≤ faults) c.fill_spans-filled.new.fillers (λ d. absurd (never d))
    c.fill_spans-filled.ensures.blamed (sym c.outcome.ensures ∙ e))
    c.lease_spans.ensures.count.kept c.give_back_spans.ensures.rises c.give_back_spans.ensures.count)
  where
    never : filled.Done ≡ filled.Failed → ⊥
    never e = cc

pub returns-in-Err-Failed-clause-shown : goal.returns-in-Err-Failed-clause-shown
returns-in-Err-Failed-clause-shown g c = by_count refl (record {
  made = c.args.ground.now;
  after = c.lease_spans.new.self;
  written = c.requires.made;
  rose = c.in-Err-Failed.ensures.cause (ap Err c.in-Err-Failed.field-0-is);
})

pub returns-clause-shown : goal.returns-clause-shown
returns-clause-shown g c =
    let asks = g.G.Reader.Tree.gives in
    let count = g.G.Plot.count in
    let piece = g.G.Span.Span.piece in
    let source = c.args.source.now in
    let target = c.args.target.now in
    let cuts = c.args.cuts.now in
    let fillers = c.fill_spans-filled.new.fillers in
    let done = c.fill_spans-filled.result.items in
    let faults = sum_by g.G.Span.Span.count done in
    let out = is_out (g.G.Plot.area c.lease_spans.new.self) target cuts (c.in-Ok.ensures.area ∙ ap (area_cut target cuts) c.requires.lent) in
    spans_shown asks g.G.Plot.gives g.G.Plot.area count source target c.args.size faults c.outcome.result c.came_of.result c.came_of.ensures
    (subst (FilledBy asks source faults) (sym c.outcome.ensures) (outcome_shown asks source faults fillers c.fill_spans-filled.ensures.shown))
    (λ e. was_spanned asks g.G.Plot.gives g.G.Plot.area count source target c.args.size c.args.ground.now c.lease_spans.new.self cuts
    c.requires.made out c.requires.cuts c.requires.whole
    (read_cuts asks piece g.G.Span.Span.count source target cuts done (c.fill_spans-filled.ensures.filled.pieces ∙ c.in-Ok.ensures.pieces)
    c.requires.cuts (c.fill_spans-filled.ensures.read (outcome_done fillers (sym c.outcome.ensures ∙ e)))))
    (λ some. record {
      made = c.args.ground.now;
      after = c.give_back_spans.new.self;
      written = c.requires.made;
      rose = rose_back faults (count c.args.ground.now) (count c.lease_spans.new.self) (count c.give_back_spans.new.self) some
          c.lease_spans.ensures.count.kept c.give_back_spans.ensures.rises c.give_back_spans.ensures.count;
    })

pub returns-clause-others : goal.returns-clause-others
returns-clause-others g c =
    others c.args.target.now _ (g.G.Plot.tree c.args.ground.now) (g.G.Plot.tree c.lease_spans.new.self) (g.G.Plot.tree c.give_back_spans.new.self) (record {
      law = c.nodes_are_under_directories.ensures;
      valid = c.text.ensures.valid;
      tree = subst (λ a. IfSome (g.G.Plot.tree c.args.ground.now) (IsTreeIn a)) c.requires.lent c.faults-faults.ensures.valid;
      tree' = subst (λ a. IfSome (g.G.Plot.tree c.give_back_spans.new.self) (IsTreeIn a))
          (is_whole _ _ c.args.target.now c.args.cuts.now (c.in-Ok.ensures.area ∙ ap (area_cut c.args.target.now c.args.cuts.now) c.requires.lent)
          c.give_back_spans.ensures.area) c.faults-faults-2.ensures.valid;
      empty = c.requires.empty;
      out = c.in-Ok.ensures.rest;
      back = c.give_back_spans.ensures.tree;
    })
