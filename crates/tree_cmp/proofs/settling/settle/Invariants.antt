use Rattle.tree_cmp.proofs.Prelude.{◌≡◌, ℕ, ◌+◌, ◌<◌, ◌≤◌, map, length, get_or, KeepsUp, HasRoom, Holds, held, Draft, counts, IsOfRow, IsSettled, unsettled}
use Rattle.tree_cmp.proofs.Prelude.{blames}
use Rattle.tree_cmp.proofs.settling.settle.Given as goal

abbrev pub invariant-loop-place : goal.invariant-loop-place
invariant-loop-place g l =
    let reader = g.R.Tree in
    let tree = reader.tree l.fn.reader in
    record {
      as_many : length l.drafts.items ≡ length l.fn.drafts.items;
      inside : l.place ≤ length l.drafts.items;
      rows : map unsettled l.drafts.items ≡ l.fn.drafts.items;
      front : (j : ℕ) (d : Draft) → j < l.place → get_or l.drafts.items j d ≡ get_or l.fn.drafts.items j d;
      settled : (j : ℕ) (d : Draft) → l.place ≤ j → j < length l.drafts.items → IsSettled reader.gives tree l.left l.right (get_or l.drafts.items j d);
      told : Holds (IsOfRow reader.gives tree l.left l.right l.fn.drafts.items) l.kept;
      counted : KeepsUp (held counts l.fn.kept) (blames l.drafts.items + held counts l.kept) (reader.count l.fn.reader) (reader.count l.reader);
      same : reader.tree l.reader ≡ tree;
      room : HasRoom l.desk;
    }

abbrev pub decreases-loop-place : goal.decreases-loop-place
decreases-loop-place g l = l.place
