-- The laws of a sync.
use Rattle.tree_sync.proofs.Prelude.{Option, Some, None, get_or, get, false≢true, get_or_default, grafted, Files, NodesHavePaths, side, IsEqual, SyncMakesEqual}
use Rattle.tree_sync.proofs.Prelude.{SyncedRowsAgree, AreCopied, AreRemoved, chosen_of, copied_of}
use Rattle.tree_sync.proofs.After.{row_agrees}
use Rattle.tree_sync.proofs.Equal.{is_equal}
use Rattle.tree_sync.proofs.Named.{not_named}

pub sync_makes_equal : NodesHavePaths → SyncMakesEqual
sync_makes_equal law pair source dest delete done before after p w v off = by w.synced.between w.synced.removed w.synced.copied
  where
    by : (mid : Option Files) →
        AreRemoved (chosen_of delete (side pair.source source) (side pair.target dest) w.synced.found.rows) done.removals (Some before) mid →
        AreCopied (copied_of (side pair.source source) w.synced.found.rows) pair done.copies mid (Some after) →
        IsEqual delete (get after (grafted pair.source p)) (get after (grafted pair.target p))
    by None r c = absurd (false≢true r.tells)
    by (Some mid) r c = is_equal law pair source dest delete done before mid after w r c p v (not_named pair source dest done p off)

pub synced_rows_agree : NodesHavePaths → SyncedRowsAgree
synced_rows_agree law pair source dest delete done before after source' dest' found w c = λ k row l off.
    row_agrees law pair after source' dest' found c delete (get_or found.rows k row) (k, l, get_or_default found.rows k (get_or found.rows k row) row l)
    (λ v. sync_makes_equal law pair source dest delete done before after (get_or found.rows k row).path w v off)
