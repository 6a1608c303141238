use Rattle.circle_lists.proofs.Prelude.{rules, arith, ℕ, ◌≡◌, ◌<◌, ◌∙◌, sym, subst, map, length, Some, Vec, Global, IfSome, length-map, Path, ListsError, Fits}
use Rattle.circle_lists.proofs.Prelude.{HoldsList, StopsReadingAt, StopsReading}
use Rattle.circle_lists.specs.declared.errors.ListsError.TheVariants as error
use Rattle.circle_lists.proofs.Told.{Told, told_more, reached, stops_later, map_more}
use Rattle.circle_lists.proofs.reading.read_lists.Given as given
use Rattle.circle_lists.proofs.reading.read_lists.Goals as goal
use Rattle.circle_lists.proofs.reading.read_lists.Goals.{After-read_list-in-loop-rank}

-- the ranks before were read, and reading stops at this one
stops_here : (g : given.Over) (c : After-read_list-in-loop-rank g) (after : ℕ) (why : ListsError) →
    StopsReadingAt c.args.dir.now c.loop-rank.rank (Some c.in_ok-first.first.ranks) (g.R.Tree.tree c.args.reader.now) (g.R.Tree.count c.args.reader.now)
    after why → StopsReading c.args.dir.now (g.R.Tree.tree c.args.reader.now) (g.R.Tree.count c.args.reader.now) after why
stops_here g c after why stops =
    let old = c.loop-rank.invariant in
    let items = λ (list : Vec Path Global). list.items in
    let lists = map items c.loop-rank.lists.items in
    let count_is : length lists ≡ c.loop-rank.rank = length-map c.loop-rank.lists.items items ∙ old.count_is in
    record {
      rank = c.loop-rank.rank;
      known = Some c.in_ok-first.first.ranks;
      reached = reached c.args.dir.now c.loop-rank.rank c.in_ok-first.first.ranks lists (g.R.Tree.tree c.args.reader.now) count_is old.some
          c.loop-rank-test.true old.told;
      stops = stops;
    }

pub returns-in_err-next-clause-stopped : goal.returns-in_err-next-clause-stopped
returns-in_err-next-clause-stopped g c =
    let tree = g.R.Tree.tree in
    let count = g.R.Tree.count in
    let dir = c.args.dir.now in
    let ranks = c.in_ok-first.first.ranks in
    let rank = c.loop-rank.rank in
    let old = c.loop-rank.invariant in
    let after = count c.read_list-in-loop-rank.new.reader in
    let why = c.in_err-next.field-0.0 in
    let stopped = subst (λ t. StopsReadingAt dir rank (Some ranks) t (count c.loop-rank.reader) after why) old.same c.in_err-next.ensures.stopped in
    let stops = stops_here g (goal.at.returns-in_err-next-clause-stopped g c).After-read_list-in-loop-rank after why
    (stops_later dir rank (Some ranks) (tree c.args.reader.now) (count c.args.reader.now) (count c.loop-rank.reader) after why old.count.kept stopped) in
    search rules

pub returns-in_err-push-2-clause-stopped : goal.returns-in_err-push-2-clause-stopped
returns-in_err-push-2-clause-stopped g c =
    let stops = stops_here g (goal.at.returns-in_err-push-2-clause-stopped g c).After-read_list-in-loop-rank
    (g.R.Tree.count c.read_list-in-loop-rank.new.reader) error.OutOfMemory tt in
    search rules

pub loop-rank-preserved : goal.loop-rank-preserved
loop-rank-preserved g c =
    let tree = g.R.Tree.tree c.args.reader.now in
    let dir = c.args.dir.now in
    let ranks = c.in_ok-first.first.ranks in
    let rank = c.loop-rank.rank in
    let old = c.loop-rank.invariant in
    let within : rank < ranks = c.loop-rank-test.true in
    let next = c.in_ok-next.next in
    let items = λ (list : Vec Path Global). list.items in
    let lists = map items c.loop-rank.lists.items in
    let count_is : length lists ≡ rank = length-map c.loop-rank.lists.items items ∙ old.count_is in
    let read = subst (λ t. IfSome t (HoldsList dir rank next.ranks next.paths.items)) old.same c.in_ok-next.ensures.told in
    let agreed = subst (λ n. IfSome tree (HoldsList dir rank n next.paths.items)) c.in_ok-next.ensures.agrees read in
    let last = subst (λ r. IfSome tree (HoldsList dir r ranks next.paths.items)) (sym count_is) agreed in
    let fits = subst (Fits dir) (sym count_is) c.in_ok-next.ensures.fits in
    let more = told_more dir ranks lists next.paths.items tree old.told last fits in
    let grown = map_more items c.loop-rank.lists.items c.push-in-loop-rank.new.self.items next.paths c.in_ok-push-2.ensures.items in
    record {
      told = subst (λ ls. Told dir ranks ls tree) (sym grown) more;
      count_is = search rules;
      within = omega (arith, within);
      some = omega arith;
      few = old.few;
      same = c.read_list-in-loop-rank.ensures.same ∙ old.same;
      count = record {
        kept = omega (arith, old.count.kept, c.read_list-in-loop-rank.ensures.count.kept);
        rose = omega (arith, old.count.kept, c.read_list-in-loop-rank.ensures.count.kept);
      };
    }
