use Rattle.level_work.proofs.Prelude.{ap, subst, sym, ◌∙◌, [], Some, arith, length, length-map, slice_get-get_or, all_but, NoneAtEnd, part_tree, part_area}
use Rattle.level_work.proofs.Prelude.{part_count, LevelCame, ShowAll, sum_by}
use Rattle.level_work.proofs.Likes.{same_place, likes, likes_back, shares_over, stored_over}
use Rattle.level_work.proofs.Sums.{sum_blamed, same_failed}
use Rattle.level_work.proofs.Actors.{act_map, idle_actors, actors_over, worked_actors}
use Rattle.level_work.proofs.Coming.{same_who, level_came, in_turn_over}
use Rattle.level_work.proofs.Crewed.{idle_rest, crew_rest, all_fates, crew_fates, shares_worked, worked_like, crew_told, still_under, still_tell, tops_kept}
use Rattle.level_work.proofs.Turning.{shows_all}
use Rattle.level_work.proofs.crews.one_level.Goals as goal

pub returns-in_err-deal-clause-home : goal.returns-in_err-deal-clause-home
returns-in_err-deal-clause-home g c = λ i lot at. let a = same_place (λ l. l.part) _ _ c.deal.ensures.seats.part i lot at in
    sym a.same ∙ c.requires.home i a.it a.here

pub lease_all-requires-clause-home : goal.lease_all-requires-clause-home
lease_all-requires-clause-home g c = λ i lot at. let a = same_place (λ l. l.part) _ _ c.deal.ensures.seats.part i lot at in
    sym a.same ∙ c.requires.home i a.it a.here

pub give_all-requires-clause-tells : goal.give_all-requires-clause-tells
give_all-requires-clause-tells g c = λ i lot p at is. c.lease_all.ensures.parts_tell i lot p at is ∙ sym c.lease_all.ensures.tells

pub work_all-requires-clause-ready : goal.work_all-requires-clause-ready
work_all-requires-clause-ready g c = λ _ _ i lot l e. c.in-Ok.ensures.ready.ready i lot (slice_get-get_or c.lease_all.new.lots i lot l ∙ ap Some (sym e))

pub give_all-requires-2-clause-area : goal.give_all-requires-2-clause-area
give_all-requires-2-clause-area g c = c.lease_all.ensures.area
    ∙ ap (λ l. all_but l []) (sym (tops_kept g.G.Part.Plot.tree g.G.Part.Plot.area
    (part_count g.G.Part.Plot.count) g.A.Act.plain g.A.Act.count g.A.Act.deed c.args.items.now _ _ c.work_all.auto.lots
    (λ i d l. (c.work_all.ensures i d l).worked)))

pub give_all-requires-2-clause-under : goal.give_all-requires-2-clause-under
give_all-requires-2-clause-under g c =
    still_under g.G.Part.Plot.tree g.G.Part.Plot.area
    (part_count g.G.Part.Plot.count) g.A.Act.plain g.A.Act.count g.A.Act.deed c.args.items.now _ _ c.work_all.auto.lots
    (λ i d l. (c.work_all.ensures i d l).worked)
    c.lease_all.ensures.under

pub give_all-requires-2-clause-tells : goal.give_all-requires-2-clause-tells
give_all-requires-2-clause-tells g c =
    still_tell g.G.Part.Plot.tree g.G.Part.Plot.area
    (part_count g.G.Part.Plot.count) g.A.Act.plain g.A.Act.count g.A.Act.deed c.args.items.now _ _ c.work_all.auto.lots
    (λ i d l. (c.work_all.ensures i d l).worked)
    _ _ c.lease_all.ensures.tells c.lease_all.ensures.parts_tell

pub store-requires-clause-shares : goal.store-requires-clause-shares
store-requires-clause-shares g c = shares_over _ _ _ _ _ _ (likes _ _ c.give_all-2.ensures.shares) (likes_back _ _ c.give_all-2.ensures.shares)
    (shares_worked g.G.Part.Plot.tree g.G.Part.Plot.area
    (part_count g.G.Part.Plot.count) g.A.Act.plain g.A.Act.count g.A.Act.deed c.args.items.now _ _ c.work_all.auto.lots
    (λ i d l. (c.work_all.ensures i d l).worked) _ _ _
    (shares_over _ _ _ _ _ _ (likes _ _ c.lease_all.ensures.shares) (likes_back _ _ c.lease_all.ensures.shares) c.in_ok-deal.ensures.shares))

pub store-requires-clause-all : goal.store-requires-clause-all
store-requires-clause-all g c =
    all_fates g.G.Part.Plot.tree g.G.Part.Plot.area
    (part_count g.G.Part.Plot.count) g.A.Act.plain g.A.Act.count g.A.Act.deed c.args.items.now _ _ c.work_all.auto.lots
    (λ i d l. (c.work_all.ensures i d l).worked)
    _ c.give_all-2.ensures.shares (c.any_lost.ensures c.if-any_lost.false)

pub returns-clause-fates : goal.returns-clause-fates
returns-clause-fates g c =
    crew_fates g.G.Part.Plot.tree g.G.Part.Plot.area
    (part_count g.G.Part.Plot.count) g.A.Act.plain g.A.Act.count g.A.Act.deed c.args.items.now _ _ c.work_all.auto.lots
    (λ i d l. (c.work_all.ensures i d l).worked)
    _ _ _ _ _
    (shares_over _ _ _ _ _ _ (likes _ _ c.lease_all.ensures.shares) (likes_back _ _ c.lease_all.ensures.shares) c.in_ok-deal.ensures.shares)
    c.give_all-2.ensures.shares c.store.ensures

pub returns-clause-told : goal.returns-clause-told
returns-clause-told g c =
    λ d show. crew_told g.G.Part.Plot.tree g.G.Part.Plot.area
    (part_count g.G.Part.Plot.count) g.A.Act.plain g.A.Act.count g.A.Act.deed c.args.items.now _ _ c.work_all.auto.lots
    (λ i d l. (c.work_all.ensures i d l).worked) d
    c.args.order _ _ _ _ _ _ _ c.requires.items
    (shares_over _ _ _ _ _ _ (likes _ _ c.lease_all.ensures.shares) (likes_back _ _ c.lease_all.ensures.shares) c.in_ok-deal.ensures.shares)
    c.in-Ok.ensures.ready c.lease_all.ensures.parts_tell
    (subst (ShowAll g.A.Act.plain d) (sym (c.lease_all.ensures.shares.actor ∙ c.deal.ensures.seats.actor))
    (shows_all g.A.Act.plain _ d show))
    c.give_all-2.ensures.shares
    (c.any_lost.ensures c.if-any_lost.false) c.store.ensures c.lease_all.ensures.tells c.lease_all.ensures.told
    c.give_all-2.ensures.told

pub returns-in-Err-clause-rest : goal.returns-in-Err-clause-rest
returns-in-Err-clause-rest g c =
    idle_rest (part_tree g.G.Part.Plot.tree)
    (part_area g.G.Part.Plot.area) c.args.level c.args.items.now c.lease_all.new.lots _ _ _ c.lease_all.ensures.tells
    c.lease_all.ensures.told c.give_all.ensures.told

pub returns-then-any_lost-clause-rest : goal.returns-then-any_lost-clause-rest
returns-then-any_lost-clause-rest g c =
    crew_rest g.G.Part.Plot.tree g.G.Part.Plot.area
    (part_count g.G.Part.Plot.count) g.A.Act.plain g.A.Act.count g.A.Act.deed c.args.items.now _ _ c.work_all.auto.lots
    (λ i d l. (c.work_all.ensures i d l).worked)
    c.args.order _ _ _ _ _
    (shares_over _ _ _ _ _ _ (likes _ _ c.lease_all.ensures.shares) (likes_back _ _ c.lease_all.ensures.shares) c.in_ok-deal.ensures.shares)
    c.lease_all.ensures.tells c.lease_all.ensures.told c.give_all-2.ensures.told

pub returns-in_err-deal-clause-actors : goal.returns-in_err-deal-clause-actors
returns-in_err-deal-clause-actors g c = idle_actors g.A.Act.plain g.A.Act.count _ _ c.deal.ensures.seats.actor

pub returns-in-Err-clause-actors : goal.returns-in-Err-clause-actors
returns-in-Err-clause-actors g c =
    idle_actors g.A.Act.plain g.A.Act.count _ _
    (c.give_all.ensures.shares.actor ∙ c.lease_all.ensures.shares.actor ∙ c.deal.ensures.seats.actor)

pub returns-then-any_lost-clause-actors : goal.returns-then-any_lost-clause-actors
returns-then-any_lost-clause-actors g c =
    actors_over g.A.Act.plain g.A.Act.count _ c.lease_all.new.lots c.work_all.new.lots _
    (c.lease_all.ensures.shares.actor ∙ c.deal.ensures.seats.actor) c.give_all-2.ensures.shares.actor
    (worked_actors g.A.Act.plain g.A.Act.count c.lease_all.new.lots c.work_all.new.lots c.work_all.auto.lots
    (λ i d l. let w = (c.work_all.ensures i d l).worked in (w.keeps.same_plain, w.blamed.actor)))

pub returns-clause-actors : goal.returns-clause-actors
returns-clause-actors g c =
    actors_over g.A.Act.plain g.A.Act.count _ c.lease_all.new.lots c.work_all.new.lots _
    (c.lease_all.ensures.shares.actor ∙ c.deal.ensures.seats.actor) c.give_all-2.ensures.shares.actor
    (worked_actors g.A.Act.plain g.A.Act.count c.lease_all.new.lots c.work_all.new.lots c.work_all.auto.lots
    (λ i d l. let w = (c.work_all.ensures i d l).worked in (w.keeps.same_plain, w.blamed.actor)))

pub returns-clause-blamed : goal.returns-clause-blamed
returns-clause-blamed g c = record {
  ground_kept = omega (arith, c.lease_all.ensures.count, c.give_all-2.ensures.count);
  kept = (returns-clause-actors g c).counts;
  rose = λ low none.
      let e0 = act_map g.A.Act.count _ c.lease_all.new.lots (c.lease_all.ensures.shares.actor ∙ c.deal.ensures.seats.actor) in
      let e3 = act_map g.A.Act.count c.work_all.new.lots _ c.give_all-2.ensures.shares.actor in
      let sums = sum_blamed (part_count g.G.Part.Plot.count) g.A.Act.count c.lease_all.new.lots c.work_all.new.lots c.work_all.auto.lots
      (λ i d l. (c.work_all.ensures i d l).worked.blamed) (c.give_all-2.ensures.none_at_end low) (subst NoneAtEnd e3 none) in
      omega (
        arith,
        sums,
        c.give_all-2.ensures.counts low,
        c.lease_all.ensures.count,
        c.store.ensures.most,
        same_failed c.work_all.new.lots _ c.give_all-2.ensures.shares.fates,
        ap (sum_by (λ k. k)) e0,
        ap (sum_by (λ k. k)) e3,
      );
}

pub returns-in_err-deal-clause-who : goal.returns-in_err-deal-clause-who
returns-in_err-deal-clause-who g c = act_map g.A.Act.who _ _ c.deal.ensures.seats.actor

pub returns-in-Err-clause-who : goal.returns-in-Err-clause-who
returns-in-Err-clause-who g c =
    act_map g.A.Act.who _ _ (c.give_all.ensures.shares.actor ∙ c.lease_all.ensures.shares.actor ∙ c.deal.ensures.seats.actor)

pub returns-then-any_lost-clause-who : goal.returns-then-any_lost-clause-who
returns-then-any_lost-clause-who g c =
    act_map g.A.Act.who _ _ c.give_all-2.ensures.shares.actor
    ∙ same_who g.A.Act.who g.A.Act.may_come c.args.items.now _ _ c.work_all.auto.lots (λ i d l. (c.work_all.ensures i d l).came)
    ∙ act_map g.A.Act.who _ _ (c.lease_all.ensures.shares.actor ∙ c.deal.ensures.seats.actor)

pub returns-clause-who : goal.returns-clause-who
returns-clause-who g c =
    act_map g.A.Act.who _ _ c.give_all-2.ensures.shares.actor
    ∙ same_who g.A.Act.who g.A.Act.may_come c.args.items.now _ _ c.work_all.auto.lots (λ i d l. (c.work_all.ensures i d l).came)
    ∙ act_map g.A.Act.who _ _ (c.lease_all.ensures.shares.actor ∙ c.deal.ensures.seats.actor)

pub returns-clause-came : goal.returns-clause-came
returns-clause-came g c =
    let shares = shares_over _ _ _ _ _ _ (likes _ _ c.lease_all.ensures.shares) (likes_back _ _ c.lease_all.ensures.shares) c.in_ok-deal.ensures.shares in
    subst (λ actors. LevelCame g.A.Act.may_come actors c.args.items.now c.store.new.fates c.args.level)
    (act_map g.A.Act.who _ _ (c.lease_all.ensures.shares.actor ∙ c.deal.ensures.seats.actor))
    (level_came g.A.Act.who g.A.Act.may_come c.args.items.now c.lease_all.new.lots c.work_all.new.lots c.work_all.auto.lots
    (λ i d l. (c.work_all.ensures i d l).came) c.args.order c.args.level c.args.fates.now c.store.new.fates c.args.places.now c.requires.places
    (in_turn_over _ _ _
    (omega (arith, ap length c.lease_all.ensures.shares.actor, length-map c.lease_all.new.lots (λ l. l.actor), length-map c.deal.new.lots (λ l. l.actor)))
    (likes _ _ c.lease_all.ensures.shares) c.in_ok-deal.ensures.turn)
    (worked_like g.G.Part.Plot.tree g.G.Part.Plot.area
    (part_count g.G.Part.Plot.count) g.A.Act.plain g.A.Act.count g.A.Act.deed c.args.items.now _ _ c.work_all.auto.lots
    (λ i d l. (c.work_all.ensures i d l).worked))
    (shares_worked g.G.Part.Plot.tree g.G.Part.Plot.area
    (part_count g.G.Part.Plot.count) g.A.Act.plain g.A.Act.count g.A.Act.deed c.args.items.now _ _ c.work_all.auto.lots
    (λ i d l. (c.work_all.ensures i d l).worked) _ _ _ shares)
    (returns-clause-fates g c)
    (stored_over _ _ _ _ _ _ c.give_all-2.ensures.shares c.store.ensures))
