-- What dsync prints: the line of its counts. The tool is mpiFileUtils' dsync; the text is our own.
use Rattle.std.specs.Prelude.{ℕ, List, [], ◌∷◌, ◌++◌, codes}
use Rattle.std.specs.Fmt.{decimal}
use Rattle.tool_text.specs.declared.syncing.SyncCounts.{SyncCounts}

-- the line of how many entries were copied, removed and kept, and of how many failures are noted
abbrev pub synced_line : SyncCounts → List ℕ
synced_line counts =
    codes "synced " ++ decimal counts.copied
    ++ codes " removed " ++ decimal counts.removed
    ++ codes " kept " ++ decimal counts.kept
    ++ codes " failed " ++ decimal counts.failed ++ 10 ∷ []
