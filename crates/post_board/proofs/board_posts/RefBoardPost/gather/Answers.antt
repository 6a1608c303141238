use Rattle.post_board.proofs.Prelude.{◌≡◌, ◌∙◌, refl, ap, arith, length, SeatState}
use Rattle.post_board.proofs.GatherLemmas.{begun, fits, went_on, over_of, squares_of, halters_of}
use Rattle.post_board.proofs.board_posts.RefBoardPost.gather.Goals as goal

pub loop-other-init : goal.loop-other-init
loop-other-init c =
    let p = begun c.args.self.now.now c.args.all.items c.requires.all c.in-Some.last c.in-Some.ensures.items
    (ap (λ s. s.table_id) c.apart-first.ensures.0) (ap (λ s. s.me) c.apart-first.ensures.0) c.apart-first.ensures.1 in
    record { table = p.0; board = refl; live = p.1; together = p.2 }

pub join_step-requires-clause-theirs : goal.join_step-requires-clause-theirs
join_step-requires-clause-theirs c =
    fits c.args.self.now.now c.args.all.items c.requires.all c.pop-in-loop-other.new.self.items c.in-Some-pop.other c.loop-other.invariant.together
    c.in-Some-pop.ensures.items (ap (λ s. s.table_id) c.apart-theirs.ensures.0) (ap (λ s. s.me) c.apart-theirs.ensures.0)

pub loop-other-preserved : goal.loop-other-preserved
loop-other-preserved c =
    let inv = c.loop-other.invariant in
    record {
      table = c.join_step.ensures.table ∙ inv.table;
      board = inv.board;
      live = ap (λ (m : SeatState). m.0.live) c.join_step.ensures.both ∙ inv.live;
      together = went_on c.args.self.now.now c.args.all.items c.requires.all c.in-Some-pop.other inv.together c.in-Some-pop.ensures.items
          (ap (λ s. s.me) c.apart-theirs.ensures.0) c.apart-theirs.ensures.1 (ap (λ (m : SeatState). m.0) c.join_step.ensures.both);
    }

pub returns-clause-over : goal.returns-clause-over
returns-clause-over c =
    let none : length c.loop-other.all.items ≡ 0 = (let a = c.in_default-pop.ensures.cases in let b = c.loop-other.all.ok in omega arith) in
    over_of c.args.self.now.now c.args.all.items c.requires.all c.loop-other.invariant.together none

pub returns-clause-batches : goal.returns-clause-batches
returns-clause-batches c =
    let none : length c.loop-other.all.items ≡ 0 = (let a = c.in_default-pop.ensures.cases in let b = c.loop-other.all.ok in omega arith) in
    squares_of c.args.self.now.now c.args.all.items c.requires.all c.loop-other.invariant.together none c.settle_step.ensures.squares

pub returns-clause-halters : goal.returns-clause-halters
returns-clause-halters c =
    let none : length c.loop-other.all.items ≡ 0 = (let a = c.in_default-pop.ensures.cases in let b = c.loop-other.all.ok in omega arith) in
    halters_of c.args.self.now.now c.args.all.items c.requires.all c.loop-other.invariant.together none c.settle_step.ensures.halters
