use Rattle.tree_walk.proofs.Prelude.{◌≡◌, ◌∙◌, ap, sym, subst, arith, ◌-◌, ◌^◌, [], length, flat_map, sum_by, All, all_left, IsAnswered, IsCutFound, found_in}
use Rattle.tree_walk.proofs.Prelude.{IsFound, WasWalked, IsProgressTo}
use Rattle.tree_walk.specs.declared.reports.Walked.TheVariants as walked
use Rattle.tree_walk.proofs.Caused.{all_answered}
use Rattle.tree_walk.proofs.Cuts.{of_cut, too_many}
use Rattle.tree_walk.proofs.Ranks.{IsRun, is_run, found, cut_found, shared, share_each}
use Rattle.tree_walk.proofs.Stops.{bound, reached, fits}
use Rattle.tree_walk.proofs.Traced.{was_walked, traced, progress}
use Rattle.tree_walk.proofs.walking.walk.Given as given
use Rattle.tree_walk.proofs.walking.walk.Goals as goal
use Rattle.tree_walk.proofs.walking.walk.Goals.{After-len, After-split-list}

-- the run of all ranks, over what is left
run : (g : given.Over) (c : After-len g) →
    IsRun g.G.Reader.Tree.tree g.G.Reader.Tree.count (g.G.Plot.tree c.args.ground.now) c.in_ok-finished.finished.jobs.items c.in_ok-found.found
    (all_left c.in_ok-finished.finished.left.items) c.args.starts.items
run g c =
    let ran = c.in_ok-finished.ensures in
    let logs = c.in_ok-logs.ensures in
    is_run g.G.Reader.Tree.tree g.G.Reader.Tree.count (g.G.Plot.tree c.args.ground.now) c.in_ok-jobs.jobs.items c.in_ok-finished.finished.jobs.items
    (flat_map (λ log. log) c.in_ok-logs.logs.items) c.in_ok-found.found (all_left c.in_ok-finished.finished.left.items) c.args.starts.items
    c.in_ok-jobs.ensures.told ran.plain logs.holds c.requires.apart ran.balance logs.logs c.in_ok-found.ensures.all c.in_ok-found.ensures.sorted

-- the same where nothing is left
whole_run : (g : given.Over) (c : After-len g) → all_left c.in_ok-finished.finished.left.items ≡ [] →
    IsRun g.G.Reader.Tree.tree g.G.Reader.Tree.count (g.G.Plot.tree c.args.ground.now) c.in_ok-finished.finished.jobs.items c.in_ok-found.found
    [] c.args.starts.items
whole_run g c none =
    subst (λ left. IsRun g.G.Reader.Tree.tree g.G.Reader.Tree.count (g.G.Plot.tree c.args.ground.now) c.in_ok-finished.finished.jobs.items
    c.in_ok-found.found left c.args.starts.items) none (run g c)

-- what was found, of a whole walk and of any
all_found : (g : given.Over) (c : After-len g) → all_left c.in_ok-finished.finished.left.items ≡ [] → IsFound (g.G.Plot.tree c.args.ground.now)
    c.args.starts.items (g.G.Plot.count c.args.ground.now) (g.G.Plot.count c.opened.new.ground) c.in_ok-found.found
all_found g c none = found g.G.Reader.Tree.tree g.G.Reader.Tree.count (g.G.Plot.tree c.args.ground.now) c.in_ok-finished.finished.jobs.items
    c.in_ok-found.found c.args.starts.items (g.G.Plot.count c.args.ground.now) (g.G.Plot.count c.made.new.ground) (g.G.Plot.count c.opened.new.ground)
    (whole_run g c none) c.made.ensures.count c.in_ok-logs.ensures.counted

done_found : (g : given.Over) (c : After-len g) → IsCutFound (g.G.Plot.tree c.args.ground.now) c.args.starts.items
    (g.G.Plot.count c.args.ground.now) (g.G.Plot.count c.opened.new.ground) c.in_ok-found.found (all_left c.in_ok-finished.finished.left.items)
done_found g c = cut_found g.G.Reader.Tree.tree g.G.Reader.Tree.count (g.G.Plot.tree c.args.ground.now) c.in_ok-finished.finished.jobs.items
    c.in_ok-found.found (all_left c.in_ok-finished.finished.left.items) c.args.starts.items (g.G.Plot.count c.args.ground.now)
    (g.G.Plot.count c.made.new.ground) (g.G.Plot.count c.opened.new.ground) (run g c) c.made.ensures.count c.in_ok-logs.ensures.counted

-- of a whole walk the list is all that was found
list_is : (g : given.Over) (c : After-split-list g) → c.split-list.result.1 ≡ walked.Whole → c.in_ok-found.found ≡ c.split-list.result.0
list_is g c whole = sym (ap (λ w. found_in w c.split-list.result.0) (sym whole) ∙ c.split-list.ensures.found)

pub returns-then-len-gt-MAX_ENTRIES-clause-too_many : goal.returns-then-len-gt-MAX_ENTRIES-clause-too_many
returns-then-len-gt-MAX_ENTRIES-clause-too_many g c =
    let at = (goal.at.returns-then-len-gt-MAX_ENTRIES-clause-too_many g c).After-len in
    too_many c.args.options.now.stop_after (g.G.Plot.tree c.args.ground.now) c.args.starts.items (g.G.Plot.count c.args.ground.now)
    (g.G.Plot.count c.opened.new.ground) c.len-then-len-gt-MAX_ENTRIES.result c.in_ok-found.found (all_left c.in_ok-finished.finished.left.items)
    (λ none. all_found g at (c.in_ok-finished.ensures.whole none)) (done_found g at) c.len-then-len-gt-MAX_ENTRIES.ensures
    (omega (arith, c.if-len-gt-MAX_ENTRIES.true, c.len.ensures, c.len-then-len-gt-MAX_ENTRIES.ensures))

pub returns-clause-found : goal.returns-clause-found
returns-clause-found g c = λ whole.
    let count = g.G.Plot.count in
    subst (IsFound (g.G.Plot.tree c.args.ground.now) c.args.starts.items (count c.args.ground.now) (count c.opened.new.ground)) (list_is g c whole)
    (all_found g (goal.at.returns-clause-found g c).After-len (c.split-list.ensures.whole whole))

pub returns-clause-counts : goal.returns-clause-counts
returns-clause-counts g c = c.in_ok-finished.ensures.counts

pub returns-clause-answered : goal.returns-clause-answered
returns-clause-answered g c =
    let gives = g.G.Reader.Tree.gives in
    subst (All (IsAnswered gives)) (sym c.split-list.ensures.found)
    (all_answered gives (flat_map (λ log. log) c.in_ok-logs.logs.items) c.in_ok-found.found c.in_ok-found.ensures.all c.in_ok-logs.ensures.answered)

pub returns-clause-cut : goal.returns-clause-cut
returns-clause-cut g c =
    let count = g.G.Plot.count in
    let told = g.G.Plot.tree c.args.ground.now in
    let starts = c.args.starts.items in
    let left = c.in_ok-finished.finished.left in
    of_cut (λ done lists. IsCutFound told starts (count c.args.ground.now) (count c.opened.new.ground) done (all_left lists.items))
    c.split-list.result.1 c.split-list.result.0 c.in_ok-found.found left c.split-list.ensures.found c.split-list.ensures.cut
    (done_found g (goal.at.returns-clause-cut g c).After-len)

pub returns-clause-lists : goal.returns-clause-lists
returns-clause-lists g c =
    let left = c.in_ok-finished.finished.left in
    of_cut (λ done lists. length lists.items ≡ c.args.options.now.ranks) c.split-list.result.1 c.split-list.result.0 c.in_ok-found.found left
    c.split-list.ensures.found c.split-list.ensures.cut (c.in_ok-finished.ensures.lists ∙ c.in_ok-jobs.ensures.number)

pub returns-clause-reached : goal.returns-clause-reached
returns-clause-reached g c =
    let stop = c.args.options.now.stop_after in
    reached c.split-list.result.1 c.in_ok-finished.finished.left stop c.in_ok-finished.finished.jobs.items c.in_ok-finished.finished.shares.items
    c.in_ok-finished.ensures.shares (fits stop (2 ^ 64 - 1) (omega arith)) c.in_ok-finished.ensures.left c.split-list.ensures.cut

pub returns-clause-bound : goal.returns-clause-bound
returns-clause-bound g c =
    bound c.args.options.now.stop_after c.in_ok-finished.finished.jobs.items c.in_ok-finished.finished.shares.items c.in_ok-finished.ensures.shares
    c.in_ok-finished.ensures.stop

pub returns-clause-shares : goal.returns-clause-shares
returns-clause-shares g c =
    let shares = c.in_ok-finished.finished.shares.items in
    subst (λ list. sum_by (λ s. s.handled) shares ≡ length list) (sym c.split-list.ensures.found)
    (shared c.in_ok-finished.finished.jobs.items (flat_map (λ log. log) c.in_ok-logs.logs.items) c.in_ok-found.found shares
    c.in_ok-finished.ensures.shares c.in_ok-logs.ensures.logs c.in_ok-found.ensures.all (omega arith))

pub returns-clause-by_rank : goal.returns-clause-by_rank
returns-clause-by_rank g c =
    share_each c.in_ok-finished.finished.jobs.items c.in_ok-finished.finished.shares.items c.args.options.now.ranks
    c.in_ok-finished.ensures.shares (c.in_ok-finished.ensures.jobs ∙ c.in_ok-jobs.ensures.number)

pub returns-clause-ran : goal.returns-clause-ran
returns-clause-ran g c = λ one none.
    let told = g.G.Plot.tree c.args.ground.now in
    let nothing = c.in_ok-finished.ensures.whole none in
    let o = c.args.options.now in
    let starts = c.args.starts.items in
    let finished = c.in_ok-finished.finished in
    subst (λ list. WasWalked told o starts list finished.shares.items finished.events.items) (list_is g c (c.split-list.ensures.ends nothing))
    (was_walked g.G.Reader.Tree.tree g.G.Reader.Tree.count told finished.jobs.items c.in_ok-found.found starts o finished.shares.items
    finished.events.items (whole_run g (goal.at.returns-clause-ran g c).After-len nothing) (c.in_ok-finished.ensures.ran one none))

pub returns-clause-traced : goal.returns-clause-traced
returns-clause-traced g c = λ on.
    traced (g.G.Plot.tree c.args.ground.now) c.args.options.now c.args.starts.items c.split-list.result.0 c.in_ok-finished.finished.shares.items
    c.in_ok-finished.finished.events.items (returns-clause-ran g c (c.requires.trace on).0 (c.requires.trace on).1) on

pub returns-clause-progress : goal.returns-clause-progress
returns-clause-progress g c =
    let finished = c.in_ok-finished.finished in
    let ranks = c.args.options.now.ranks in
    subst (λ list. IsProgressTo (length list) ranks finished.sums.items) (sym c.split-list.ensures.found)
    (progress finished.jobs.items (flat_map (λ log. log) c.in_ok-logs.logs.items) c.in_ok-found.found ranks finished.sums.items
    c.in_ok-finished.ensures.progress (c.in_ok-finished.ensures.jobs ∙ c.in_ok-jobs.ensures.number) c.in_ok-logs.ensures.logs
    c.in_ok-found.ensures.all (omega arith))
