use Rattle.flat_list.proofs.Prelude.{rules, arith, take, ap, ◌∙◌, ◌+◌, Vec, Global, ℕ, List, map, range_with_len, take_all, Entry, places_at, level_count}
use Rattle.flat_list.proofs.Dealt.{Turn, Holds, levels_kept, below_here, as_many}
use Rattle.flat_list.proofs.Turns.{passes_at, turn_at, next_at}
use Rattle.flat_list.proofs.dealing.levels_of.Goals as goal

pub index_mut-requires : goal.index_mut-requires
index_mut-requires c =
    let xs = c.args.list.now in
    let p = passes_at xs c.loop-at.at c.loop-at.cursor c.advance.new.self c.in_ok-advance.field-0 c.entry.result.now c.loop-at.invariant.here
    (omega arith) c.in_ok-advance.ensures.answer c.in_ok-advance.ensures.passed c.entry.ensures.at in
    let turn = turn_at c.loop-at.at (ap (λ (v : List Entry × ℕ). v.1) c.loop-at.invariant.here) p in
    let below = below_here turn c.level.result c.level.ensures in
    let many = as_many (λ k. places_at k _) (λ (places : Vec ℕ Global). places.items) c.loop-at.levels.items
    (level_count xs) c.loop-at.invariant.listed in
    omega (arith, below, many, c.loop-at.levels.ok.0)

pub loop-at-preserved : goal.loop-at-preserved
loop-at-preserved c =
    let xs = c.args.list.now in
    let at = c.loop-at.at in
    let read = λ (places : Vec ℕ Global). places.items in
    let p = passes_at xs c.loop-at.at c.loop-at.cursor c.advance.new.self c.in_ok-advance.field-0 c.entry.result.now c.loop-at.invariant.here
    (omega arith) c.in_ok-advance.ensures.answer c.in_ok-advance.ensures.passed c.entry.ensures.at in
    let turn : Turn xs at c.entry.result.now = turn_at at (ap (λ (v : List Entry × ℕ). v.1) c.loop-at.invariant.here) p in
    let holds : Holds (λ k. places_at k (take at xs)) read (level_count xs) c.level.result c.loop-at.levels.items c.index_mut.result.now =
    record { listed = c.loop-at.invariant.listed; below = below_here turn c.level.result c.level.ensures; is = search rules } in
    record {
      here = next_at p ∙ ap (λ (v : List Entry × ℕ). (xs, v.1 + 1)) c.loop-at.invariant.here;
      listed = levels_kept turn holds c.push.new.self c.level.ensures c.in_ok-push.ensures.items;
    }

pub returns : goal.returns
returns c =
    let xs = c.args.list.now in
    let all = take_all c.loop-at.at xs (omega (arith, c.len-at-end.ensures, c.loop-at-test.false)) in
    c.loop-at.invariant.listed ∙ ap (λ (l : List Entry). map (λ k. places_at k l) (range_with_len 0 (level_count xs))) all
