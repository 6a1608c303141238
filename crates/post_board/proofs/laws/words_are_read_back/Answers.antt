use Rattle.post_board.proofs.WordLemmas.{sign_of_word, token_of_word}
use Rattle.post_board.proofs.laws.words_are_read_back.Goals as goal

pub returns-clause-mailbox : goal.returns-clause-mailbox
returns-clause-mailbox c = sign_of_word

pub returns-clause-ring : goal.returns-clause-ring
returns-clause-ring c = token_of_word
