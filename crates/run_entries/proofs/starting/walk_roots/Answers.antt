use Rattle.run_entries.proofs.Prelude.{◌∙◌, ap, refl, subst, ◌≤◌, length, IfSome, max_entries, found_in, IsTracedWalk, WasWalked, IsProgressTo, options_of}
use Rattle.run_entries.proofs.starting.walk_roots.Goals as goal

pub returns-clause-found : goal.returns-clause-found
returns-clause-found g c = c.in_ok-report.ensures.found (c.in_ok-report.ensures.whole refl)

pub returns-clause-account : goal.returns-clause-account
returns-clause-account g c =
    let told = c.in_ok-report.ensures in
    let report = c.in_ok-report.report in
    let whole = ap (λ w. found_in w report.list) (told.whole refl) in
    let common = c.args.common.now in
    let keeps = c.keeps_events.ensures in
    record {
      ran = λ one. subst (λ trace. WasWalked (g.G.Plot.tree c.args.files.now) (record (options_of common) { trace = trace }) c.args.roots.items report.list
          report.shares.items report.events.items) keeps (told.ran one refl);
      traced = λ on. subst (λ trace. IfSome (g.G.Plot.tree c.args.files.now) (λ files.
          IsTracedWalk files (record (options_of common) { trace = trace }) c.args.roots.items report.list report.events.items))
          keeps (told.traced (keeps ∙ on));
      counted = λ on. told.counts (keeps ∙ on);
      by_rank = told.by_rank;
      handled = told.shares ∙ ap length whole;
      moved = told.moved;
      progress = subst (λ list. IsProgressTo (length list) common.ranks report.sums.items) whole told.progress;
    }

pub returns-clause-few : goal.returns-clause-few
returns-clause-few g c =
    subst (λ list. length list ≤ max_entries) (ap (λ w. found_in w c.in_ok-report.report.list) (c.in_ok-report.ensures.whole refl)) c.in_ok-report.ensures.few
