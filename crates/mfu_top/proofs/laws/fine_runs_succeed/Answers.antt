use Rattle.mfu_top.proofs.Succeeds.{succeeds}
use Rattle.mfu_top.proofs.laws.fine_runs_succeed.Goals as goal

pub returns : goal.returns
returns c = succeeds (record {
  lists = c.fine_list_succeeds.ensures;
  stages = c.fine_stages_succeed.ensures;
  compares = c.fine_compare_succeeds.ensures;
  copies = c.fine_copy_succeeds.ensures;
  syncs = c.fine_sync_succeeds.ensures;
  dups = c.fine_dup_succeeds.ensures;
  removes = c.fine_remove_succeeds.ensures;
  tests = c.fine_test_succeeds.ensures;
})
