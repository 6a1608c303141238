use Rattle.flat_list.proofs.Prelude.{map, [], ap, ◌∙◌, Vec, Global, ℕ, places_at}
use Rattle.flat_list.proofs.Dealt.{listed_more}
use Rattle.flat_list.proofs.dealing.no_places.Goals as goal

pub loop-preserved : goal.loop-preserved
loop-preserved c = ap (map (λ (places : Vec ℕ Global). places.items)) c.in_ok-push.ensures.items
    ∙ listed_more (λ k. places_at k [])
    (λ (places : Vec ℕ Global). places.items) c.loop.levels.items c.new.result c.loop.counter c.loop.invariant c.new.ensures.items
