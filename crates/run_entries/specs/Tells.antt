-- What a run tells of its walk beside the failures. That ranks share a walk is libcircle's (LaFon et al., SC 2012); what is told of it is our own.
use Rattle.std.specs.Prelude.{◌≡◌, ℕ, ◌-◌, ◌^◌, ◌||◌, ◌&&◌, ◌==◌, Bool, true, List, [], ◌++◌, map, min, length, if◌then◌else◌, Option, None, IfSome}
use Rattle.std.specs.List.{sum_by, range_with_len}
use Rattle.outside.specs.Tree.{Files}
use Rattle.entry_pages.specs.declared.entries.Entry.{Entry}
use Rattle.circle_run.specs.declared.settings.Options.{Options}
use Rattle.circle_run.specs.Traced.{share_in}
use Rattle.tool_text.specs.Runs.{trace_lines, share_lines, progress_lines}
use Rattle.tool_words.specs.declared.commands.Common.{Common}
use Rattle.tree_walk.specs.Traced.{IsTracedWalk, WasWalked, IsProgressTo}
use Rattle.run_entries.specs.declared.accounts.Account.{Account}

-- whether the events of a walk are kept: for `--trace`, and on one host for `--shares` too
abbrev pub keeps_events : Common → Bool
keeps_events common = common.trace || (common.shares && common.hosts == 1)

-- how the words ask a walk to go
abbrev pub options_of : Common → Options
options_of common = record {
  ranks = common.ranks;
  hosts = common.hosts;
  split = common.split;
  seed = common.seed;
  width = common.width;
  trace = keeps_events common;
  stop_after = None;
}

-- the account is that of a walk from these roots that found the entries, over files that may tell a tree
pub record IsAccount (common : Common) (tree : Option Files) (roots : List (List ℕ)) (entries : List Entry) (account : Account) : Type 0 where
  -- on one host, over all files, a whole run from the roots was made in which the ranks handle the paths of the entries, each once: the shares are its counts,
  -- and events that are kept are its own
  pub ran : common.hosts ≡ 1 → WasWalked tree (options_of common) roots entries account.shares.items account.events.items
  -- events that are kept are those of a run of the ranks from the roots, by the rules of the split and the seed, in which they handle the paths of the entries,
  -- each once
  pub traced : keeps_events common ≡ true → IfSome tree (λ files. IsTracedWalk files (options_of common) roots entries account.events.items)
  -- and what each rank did is what these events count
  pub counted : keeps_events common ≡ true → account.shares.items ≡ map (share_in account.events.items) (range_with_len 0 common.ranks)
  -- on any number of hosts they handled the entries in all, and took what they gave, as far as the counts go
  pub by_rank : length account.shares.items ≡ common.ranks
  pub handled : sum_by (λ s. s.handled) account.shares.items ≡ length entries
  pub moved : min (sum_by (λ s. s.given) account.shares.items) (2 ^ 128 - 1) ≡ min (sum_by (λ s. s.taken) account.shares.items) (2 ^ 128 - 1)
  -- and the numbers rise to the number of entries
  pub progress : IsProgressTo (length entries) common.ranks account.sums.items

-- what `notes` gets of an account: the trace, the shares and the progress, each where it is asked for
abbrev pub told_text : Common → Account → List ℕ
told_text common account =
    trace_lines (if common.trace then account.events.items else [])
    ++ share_lines (if common.shares then account.shares.items else [])
    ++ progress_lines (if common.progress then account.sums.items else [])
