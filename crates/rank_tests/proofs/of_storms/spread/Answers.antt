use Rattle.rank_tests.proofs.of_storms.spread.Goals as goal

pub begin-requires-clause-unused : goal.begin-requires-clause-unused
begin-requires-clause-unused g c = λ l o k d h. rw (c.in_ok-jobs.ensures.unused k d h)
