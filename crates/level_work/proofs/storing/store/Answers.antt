use Rattle.level_work.proofs.Working.{some_at}
use Rattle.level_work.proofs.Stores.{dealt_once, all_stored}
use Rattle.level_work.proofs.storing.store.Goals as goal

pub store_shares-requires-clause-once : goal.store_shares-requires-clause-once
store_shares-requires-clause-once g c = dealt_once _ _ _ _ _ c.requires.shares (some_at c.args.items.now)

pub returns : goal.returns
returns g c = all_stored _ _ _ _ _ _ _ _ c.requires.places c.requires.shares (some_at c.args.items.now) c.leave_out.ensures c.store_shares.ensures
