use Rattle.find_tests.proofs.Prelude.{ap, arith, length}
use Rattle.find_tests.proofs.Parsed.{length-behind_piece, pieces_step, pieces_end}
use Rattle.find_tests.proofs.Closing.{passed_one}
use Rattle.find_tests.proofs.pieces.pieces_of.Goals as goal

pub piece_at-requires : goal.piece_at-requires
piece_at-requires c = passed_one c.loop-sign.may_close c.in-Some.sign _ c.pass.new.self c.loop-sign.invariant.closing c.in-Some.ensures

pub loop-sign-smaller : goal.loop-sign-smaller
loop-sign-smaller c = omega (arith, ap length c.in-Some.ensures, ap length c.in_ok-piece.ensures.behind, length-behind_piece c.in-Some.sign c.pass.new.self)

pub loop-sign-preserved : goal.loop-sign-preserved
loop-sign-preserved c =
    let read = c.in_ok-piece.ensures in
    let before = c.loop-sign.invariant.so_far in
    record {
      so_far = pieces_step _ _ _ _ c.in-Some.sign _ c.pass.new.self _ before c.in-Some.ensures read.piece read.behind c.in_ok-push.ensures.items;
      closing = read.closing;
    }

pub returns : goal.returns
returns c = pieces_end _ _ _ c.loop-sign.invariant.so_far c.in_default.ensures.0
