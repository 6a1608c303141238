use Rattle.level_work.proofs.Prelude.{ap, ◌∙◌, ◌<◌, refl, sym, subst, arith, length, map, Some, IfSome, slice_get-get_or, LevelCame, CanStep, AreOnLevel, Lot}
use Rattle.level_work.proofs.Coming.{none_level_came, one_level_came, all_levels_came}
use Rattle.level_work.proofs.Crewed.{map_get}
use Rattle.level_work.proofs.Deals.{level_below}
use Rattle.level_work.proofs.Running.{on_err}
use Rattle.level_work.proofs.Turning.{turned_none, turned_len, turned_tells, turned_step, turned_told, turned_acted, turned_lost, turned_stopped}
use Rattle.level_work.proofs.Turning.{turned_more, actors_on}
use Rattle.level_work.proofs.levels.run_levels.Given as given
use Rattle.level_work.proofs.levels.run_levels.Goals as goal
use Rattle.level_work.proofs.levels.run_levels.Goals.{After-deref-places}

-- The places of a turn are on its level.
on_level : (g : given.Over) (c : After-deref-places g)
    → AreOnLevel (length c.args.items.now) c.level_of_turn-level.result c.args.items.now c.deref-places.result.now
on_level g c =
    let levels = c.args.levels.now in
    let level = c.level_of_turn-level.result in
    let within : level < length levels =
    omega (arith, c.level_of_turn-level.ensures, level_below c.args.order (length levels) c.loop-turn.turn c.loop-turn-test.true) in
    let there = slice_get-get_or levels level c.index-levels-level.result within ∙ ap Some (sym c.index-levels-level.is) in
    subst (AreOnLevel (length c.args.items.now) level c.args.items.now) (sym c.deref-places.ensures.value)
    (c.requires.places level _ (map_get (λ v. v.items) levels level _ there))

pub loop-turn-init : goal.loop-turn-init
loop-turn-init g c = record {
  turned = turned_none g.A.Act.plain g.A.Act.count g.A.Act.deed c.args.order
      (length c.args.levels.now) c.args.items.now c.args.lots.now _ _ _ _ _ c.requires.area c.requires.home c.requires.below c.requires.len
      c.requires.fresh c.none-failed.ensures;
  who = refl;
  came = none_level_came g.A.Act.may_come (map (λ (lot : Lot _ _). g.A.Act.who lot.actor) c.args.lots.now) c.args.items.now c.args.order
      (length c.args.levels.now) c.requires.below c.args.fates.now;
}

pub one_level-requires-clause-len : goal.one_level-requires-clause-len
one_level-requires-clause-len g c =
    λ _ _. turned_len c.loop-turn.invariant.turned c.requires.some c.requires.alike

pub one_level-requires-clause-places : goal.one_level-requires-clause-places
one_level-requires-clause-places g c =
    λ _ _. on_level g (goal.at.one_level-requires-clause-places g c).After-deref-places

pub one_level-requires-clause-parents : goal.one_level-requires-clause-parents
one_level-requires-clause-parents g c =
    λ _ _. subst (λ l. IfSome (g.G.Plot.tree c.loop-turn.ground) (CanStep c.args.order l c.args.items.now c.loop-turn.fates))
    (sym c.level_of_turn-level.ensures)
    (turned_step c.loop-turn.invariant.turned c.requires.some c.requires.alike
    c.loop-turn-test.true c.requires.items c.requires.stand c.requires.dirs)

pub returns-in_err-one_level-clause-tells : goal.returns-in_err-one_level-clause-tells
returns-in_err-one_level-clause-tells g c = c.one_level.ensures.tells
    ∙ turned_tells c.loop-turn.invariant.turned c.requires.some c.requires.alike

pub returns-in_err-one_level-clause-actors : goal.returns-in_err-one_level-clause-actors
returns-in_err-one_level-clause-actors g c = actors_on g.A.Act.plain g.A.Act.count _ _ _ c.loop-turn.invariant.turned.actors c.one_level.ensures.actors

pub returns-in_err-one_level-clause-rest : goal.returns-in_err-one_level-clause-rest
returns-in_err-one_level-clause-rest g c =
    on_err _ _ (turned_lost c.loop-turn.invariant.turned c.requires.some c.requires.alike
    _ _ c.one_level.new.lots c.one_level.new.fates 0 c.level_of_turn-level.ensures c.loop-turn-test.true c.in_err-one_level.ensures.rest)

pub note-requires-clause-len : goal.note-requires-clause-len
note-requires-clause-len g c = c.in_ok-one_level.ensures.fates.len
    ∙ turned_len c.loop-turn.invariant.turned c.requires.some c.requires.alike

pub note-requires-clause-inside : goal.note-requires-clause-inside
note-requires-clause-inside g c =
    (on_level g (goal.at.note-requires-clause-inside g c).After-deref-places).below

pub returns-in_err-note-clause-tells : goal.returns-in_err-note-clause-tells
returns-in_err-note-clause-tells g c = c.one_level.ensures.tells
    ∙ turned_tells c.loop-turn.invariant.turned c.requires.some c.requires.alike

pub returns-in_err-note-clause-actors : goal.returns-in_err-note-clause-actors
returns-in_err-note-clause-actors g c = actors_on g.A.Act.plain g.A.Act.count _ _ _ c.loop-turn.invariant.turned.actors c.one_level.ensures.actors

pub returns-in_err-note-clause-rest : goal.returns-in_err-note-clause-rest
returns-in_err-note-clause-rest g c =
    on_err _ _ (turned_stopped c.loop-turn.invariant.turned c.requires.some c.requires.alike
    _ _ c.one_level.new.lots c.one_level.new.fates 0 c.level_of_turn-level.ensures c.loop-turn-test.true c.in_ok-one_level.ensures.told)

pub loop-turn-preserved : goal.loop-turn-preserved
loop-turn-preserved g c = record {
  turned = turned_more c.loop-turn.invariant.turned c.requires.some c.requires.alike
      _ _ c.one_level.new.lots c.one_level.new.fates _ c.level_of_turn-level.ensures c.loop-turn-test.true _ c.note.new.failed.set.keys
      _ c.requires.items c.one_level.ensures.area c.one_level.ensures.home c.one_level.ensures.actors c.one_level.ensures.count
      c.one_level.ensures.tells
      c.in_ok-one_level.ensures.fates c.in_ok-one_level.ensures.told c.in_ok-one_level.ensures.blamed
      (on_level g (goal.at.loop-turn-preserved g c).After-deref-places)
      c.in_ok-note.ensures;
  who = c.one_level.ensures.who ∙ c.loop-turn.invariant.who;
  came = one_level_came g.A.Act.may_come (map (λ (lot : Lot _ _). g.A.Act.who lot.actor) c.args.lots.now) c.args.items.now c.args.order
      (length c.args.levels.now) c.requires.below c.loop-turn.turn c.level_of_turn-level.result c.loop-turn.fates c.one_level.new.fates
      c.level_of_turn-level.ensures c.loop-turn-test.true c.in_ok-one_level.ensures.fates
      (subst (λ actors. LevelCame g.A.Act.may_come actors c.args.items.now c.one_level.new.fates c.level_of_turn-level.result)
      c.loop-turn.invariant.who c.in_ok-one_level.ensures.came)
      c.loop-turn.invariant.came;
}

pub returns-clause-tells : goal.returns-clause-tells
returns-clause-tells g c =
    turned_tells c.loop-turn.invariant.turned c.requires.some c.requires.alike

pub returns-clause-len : goal.returns-clause-len
returns-clause-len g c =
    turned_len c.loop-turn.invariant.turned c.requires.some c.requires.alike

pub returns-clause-failed : goal.returns-clause-failed
returns-clause-failed g c =
    turned_told c.loop-turn.invariant.turned c.requires.some c.requires.alike
    (omega (arith, c.loop-turn-test.false)) (omega (arith, c.loop-turn.auto)) c.requires.below

pub returns-clause-told : goal.returns-clause-told
returns-clause-told g c =
    turned_acted c.loop-turn.invariant.turned c.requires.some c.requires.alike
    (omega (arith, c.loop-turn-test.false)) (omega (arith, c.loop-turn.auto)) c.requires.below

pub returns-clause-each_may_come : goal.returns-clause-each_may_come
returns-clause-each_may_come g c =
    all_levels_came g.A.Act.may_come (map (λ (lot : Lot _ _). g.A.Act.who lot.actor) c.args.lots.now) c.args.items.now c.args.order
    (length c.args.levels.now) c.requires.below c.loop-turn.turn c.loop-turn.fates (omega (arith, c.loop-turn-test.false, c.loop-turn.auto))
    c.loop-turn.invariant.came

pub returns-in_err-one_level-clause-who : goal.returns-in_err-one_level-clause-who
returns-in_err-one_level-clause-who g c = c.one_level.ensures.who ∙ c.loop-turn.invariant.who

pub returns-in_err-note-clause-who : goal.returns-in_err-note-clause-who
returns-in_err-note-clause-who g c = c.one_level.ensures.who ∙ c.loop-turn.invariant.who

pub returns-clause-who : goal.returns-clause-who
returns-clause-who g c = c.loop-turn.invariant.who
