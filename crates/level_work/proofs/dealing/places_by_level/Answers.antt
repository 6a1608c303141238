use Rattle.level_work.proofs.Prelude.{rules, ◌≡◌, ap, ◌∙◌, sym, subst, arith, map, Vec, Global, ℕ, Some, slice_get-get_or, AllBelow, AreByLevel}
use Rattle.level_work.proofs.Deals.{no_levels, one_place_more, set_below}
use Rattle.level_work.proofs.dealing.places_by_level.Goals as goal

pub loop-k-init : goal.loop-k-init
loop-k-init c = record {
  below = subst (λ n. AllBelow n c.args.items.now) (sym c.in_ok-levels.ensures.len) c.level_count.ensures;
  places = no_levels (λ (places : Vec ℕ Global). places.items) c.args.items.now _ c.in_ok-levels.ensures.none;
}

pub index_mut-requires : goal.index_mut-requires
index_mut-requires c =
    let at = slice_get-get_or c.args.items.now c.loop-k.k c.index-items-k.result (omega (arith, c.loop-k-test.true)) in
    let below = c.loop-k.invariant.below c.loop-k.k _ at in
    omega (arith, below, c.level.ensures, c.loop-k.levels.ok.0)

pub loop-k-preserved : goal.loop-k-preserved
loop-k-preserved c =
    let at = slice_get-get_or c.args.items.now c.loop-k.k c.index-items-k.result (omega (arith, c.loop-k-test.true)) in
    let below = c.loop-k.invariant.below c.loop-k.k _ at in
    let has = slice_get-get_or c.loop-k.levels.items c.level.result c.index_mut.result.now (omega (arith, below, c.level.ensures)) in
    let same : c.index_mut.result.now ≡ _ = search rules in
    record {
      below = set_below c.args.items.now c.loop-k.levels.items c.level.result c.push.new.self c.loop-k.invariant.below;
      places = one_place_more (λ (places : Vec ℕ Global). places.items) c.loop-k.k c.level.result c.args.items.now _ c.loop-k.levels.items
          c.index_mut.result.now c.push.new.self at c.level.ensures
          (has ∙ ap Some (sym same)) c.in_ok-push.ensures.items c.loop-k.invariant.places;
    }

pub returns-clause-places : goal.returns-clause-places
returns-clause-places c =
    subst (λ n. AreByLevel n c.args.items.now (map (λ places. places.items) c.loop-k.levels.items))
    (omega (arith, c.loop-k-test.false, c.loop-k.auto)) c.loop-k.invariant.places
