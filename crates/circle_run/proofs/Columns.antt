-- The parts of a rank, of which the lists of a run are made.
use Rattle.circle_run.proofs.Prelude.{Strings, Share, Rank}

module _ {J S T : Type 0} where
  abbrev pub job_of : Rank J S T → J
  job_of r = r.job

  abbrev pub queue_of : Rank J S T → Strings
  queue_of r = r.queue

  abbrev pub share_of : Rank J S T → Share
  share_of r = r.book.share
