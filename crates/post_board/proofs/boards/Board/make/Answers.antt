use Rattle.post_board.proofs.SeatSteps.{starts, first_words}
use Rattle.post_board.proofs.boards.Board.make.Goals as goal

pub vacant-requires : goal.vacant-requires
vacant-requires c = starts c.args.n _ c.requires.one c.requires.at_most_64
    (first_words c.args.n c.in_ok-words.words.items c.deref.result.now (c.in_ok-words.ensures.items_if_clones_equal (λ y e. e)) c.deref.ensures.value)
