use Rattle.level_work.proofs.Prelude.{◌≡◌, ℕ, Vec, Global, length, map, ap, ◌∙◌, sym, subst, arith, IfOk, count_by, Alike, AllShow, BlamedAll, NoneFell}
use Rattle.level_work.proofs.Prelude.{is_failed, EachMayCome, AreByLevel, Lot}
use Rattle.level_work.proofs.Hands.{if_ok, written_back}
use Rattle.level_work.proofs.Turning.{of_actors, of_hired, same_length, none_fell, all_blamed}
use Rattle.level_work.proofs.levels.on_levels.Given as given
use Rattle.level_work.proofs.levels.on_levels.Goals as goal
use Rattle.level_work.proofs.levels.on_levels.Goals.{After-dismissed}

pub all_levels-outcome-requires-clause-alike : goal.all_levels-outcome-requires-clause-alike
all_levels-outcome-requires-clause-alike g c =
    λ _ _. subst Alike (of_hired g.A.Act.plain _ _ _ c.in_ok-lots.ensures.actors c.deref_mut.ensures.value) c.requires.alike

pub all_levels-outcome-requires-clause-dirs : goal.all_levels-outcome-requires-clause-dirs
all_levels-outcome-requires-clause-dirs g c =
    λ _ _ d show. c.requires.dirs d
    (subst (AllShow d) (sym (of_hired g.A.Act.plain _ _ _ c.in_ok-lots.ensures.actors c.deref_mut.ensures.value)) show)

-- the actors are those of the lots
came_back : (g : given.Over) (c : After-dismissed g) → c.dismissed.new.actors.items ≡ map (λ (l : Lot _ _). l.actor) c.all_levels-outcome.new.lots
came_back g c = c.dismissed.ensures
    ∙ ap (map (λ (l : Lot _ _). l.actor)) (written_back c.in_ok-lots.lots.len c.all_levels-outcome.new.lots c.in_ok-lots.lots.items
    (omega (
      arith,
      same_length g.A.Act.plain g.A.Act.count c.deref_mut.result.now c.all_levels-outcome.new.lots
          c.all_levels-outcome.ensures.actors,
      c.deref_mut.ensures.len,
    )) (omega (arith, c.in_ok-lots.lots.ok.0)))

pub returns-clause-plain : goal.returns-clause-plain
returns-clause-plain g c =
    let back = came_back g (goal.at.returns-clause-plain g c).After-dismissed in
    ap (map g.A.Act.plain) back ∙ of_actors g.A.Act.plain c.all_levels-outcome.new.lots ∙ c.all_levels-outcome.ensures.actors.plains
    ∙ sym (of_hired g.A.Act.plain _ _ _ c.in_ok-lots.ensures.actors c.deref_mut.ensures.value)

pub returns-clause-none_fell : goal.returns-clause-none_fell
returns-clause-none_fell g c =
    let back = came_back g (goal.at.returns-clause-none_fell g c).After-dismissed in
    subst (λ old. NoneFell old (map g.A.Act.count c.dismissed.new.actors.items))
    (sym (of_hired g.A.Act.count _ _ _ c.in_ok-lots.ensures.actors c.deref_mut.ensures.value))
    (subst (NoneFell (map (λ (l : Lot _ _). g.A.Act.count l.actor) c.deref_mut.result.now))
    (sym (ap (map g.A.Act.count) back ∙ of_actors g.A.Act.count c.all_levels-outcome.new.lots))
    (none_fell g.A.Act.plain g.A.Act.count c.deref_mut.result.now c.all_levels-outcome.new.lots c.all_levels-outcome.ensures.actors))

pub returns-clause-told : goal.returns-clause-told
returns-clause-told g c =
    if_ok _ _ c.all_levels-outcome.result
    (λ fates h d show. h d (subst (AllShow d)
    (of_hired g.A.Act.plain _ _ _ c.in_ok-lots.ensures.actors c.deref_mut.ensures.value) show)) c.all_levels-outcome.ensures.told

pub returns-clause-blamed : goal.returns-clause-blamed
returns-clause-blamed g c =
    let back = came_back g (goal.at.returns-clause-blamed g c).After-dismissed in
    if_ok _ _ c.all_levels-outcome.result
    (λ fates h. subst (λ old.
    BlamedAll (count_by is_failed fates) (g.G.Plot.count c.args.ground.now) old (g.G.Plot.count c.all_levels-outcome.new.ground)
    (map g.A.Act.count c.dismissed.new.actors.items))
    (sym (of_hired g.A.Act.count _ _ _ c.in_ok-lots.ensures.actors c.deref_mut.ensures.value))
    (subst (BlamedAll (count_by is_failed fates) (g.G.Plot.count c.args.ground.now)
    (map (λ (l : Lot _ _). g.A.Act.count l.actor) c.deref_mut.result.now) (g.G.Plot.count c.all_levels-outcome.new.ground))
    (sym (ap (map g.A.Act.count) back ∙ of_actors g.A.Act.count c.all_levels-outcome.new.lots))
    (all_blamed _ _ _ _ _ h))) c.all_levels-outcome.ensures.blamed

pub returns-clause-who : goal.returns-clause-who
returns-clause-who g c =
    let back = came_back g (goal.at.returns-clause-who g c).After-dismissed in
    ap (map g.A.Act.who) back ∙ of_actors g.A.Act.who c.all_levels-outcome.new.lots ∙ c.all_levels-outcome.ensures.who
    ∙ sym (of_hired g.A.Act.who _ _ _ c.in_ok-lots.ensures.actors c.deref_mut.ensures.value)

pub returns-clause-each_may_come : goal.returns-clause-each_may_come
returns-clause-each_may_come g c =
    subst (λ actors. IfOk c.all_levels-outcome.result (λ fates. EachMayCome g.A.Act.may_come actors c.args.items.now fates))
    (sym (of_hired g.A.Act.who _ _ _ c.in_ok-lots.ensures.actors c.deref_mut.ensures.value)) c.all_levels-outcome.ensures.each_may_come

pub all_levels-outcome-requires-clause-places : goal.all_levels-outcome-requires-clause-places
all_levels-outcome-requires-clause-places g c κs within =
    subst (λ levels. AreByLevel (length c.args.items.now) c.args.items.now (map (λ (places : Vec ℕ Global). places.items) levels))
    (sym c.deref.ensures.value) c.in_ok-levels.ensures.places
