use Rattle.circle_lists.proofs.Prelude.{rules, arith, ◌≡◌, ◌<◌, ◌∙◌, ap, sym, subst, get_or, map, length, [], Vec, Global, IfSome, get_or-map, Path, HoldsList}
use Rattle.circle_lists.proofs.Prelude.{StopsWriting}
use Rattle.circle_lists.proofs.Saved.{WroteOne, wrote_more, place_before, places_more, stops_before}
use Rattle.circle_lists.proofs.writing.write_lists.Goals as goal

pub returns-in_err-write_list-clause-stopped : goal.returns-in_err-write_list-clause-stopped
returns-in_err-write_list-clause-stopped g c =
    let tree = g.G.Plot.tree in
    let count = g.G.Plot.count in
    let dir = c.args.dir.now in
    let ranks = length c.args.left.now in
    let rank = c.loop-rank.rank in
    let old = c.loop-rank.invariant in
    let within : rank < ranks = omega (arith, c.loop-rank-test.true) in
    let few : rank < 64 = omega (arith, within, c.requires.few) in
    let stops : StopsWriting dir ranks (tree c.args.ground.now) (count c.args.ground.now) (count c.write_list.new.ground) c.in_err-write_list.field-0.0 =
    record {
      rank = rank;
      within = within;
      earlier = old.places;
      stops = stops_before (tree c.args.ground.now) (tree c.loop-rank.ground) (count c.args.ground.now) (count c.loop-rank.ground)
          (count c.write_list.new.ground) c.in_err-write_list.field-0.0 c.text.ensures.valid few old.wrote old.count.kept c.in_err-write_list.ensures.stopped;
    }
    in search rules

pub loop-rank-preserved : goal.loop-rank-preserved
loop-rank-preserved g c =
    let tree = g.G.Plot.tree in
    let dir = c.args.dir.now in
    let left = c.args.left.now in
    let ranks = length left in
    let rank = c.loop-rank.rank in
    let old = c.loop-rank.invariant in
    let within : rank < ranks = omega (arith, c.loop-rank-test.true) in
    let few : rank < 64 = omega (arith, within, c.requires.few) in
    let items = λ (list : Vec Path Global). list.items in
    let list = c.index-left-rank.result in
    let here : c.as_slice.result.now ≡ get_or (map items left) rank [] =
    c.as_slice.ensures.value ∙ ap items c.index-left-rank.is ∙ sym (get_or-map items left rank list [] within) in
    let last = subst (λ ps. IfSome (tree c.write_list.new.ground) (HoldsList dir rank ranks ps)) here c.in_ok-write_list.ensures.written in
    let one : WroteOne dir rank (tree c.loop-rank.ground) (tree c.write_list.new.ground) =
    record { tells = c.write_list.ensures.tells; rest = c.write_list.ensures.rest } in
    record {
      wrote = wrote_more (tree c.args.ground.now) (tree c.loop-rank.ground) (tree c.write_list.new.ground) few old.wrote one last;
      places = places_more old.places
          (place_before (tree c.args.ground.now) (tree c.loop-rank.ground) c.text.ensures.valid few old.wrote c.in_ok-write_list.ensures.place);
      lent = c.write_list.ensures.lent;
      count = record {
        kept = omega (arith, old.count.kept, c.write_list.ensures.count.kept);
        rose = omega (arith, old.count.kept, c.write_list.ensures.count.kept);
      };
    }
