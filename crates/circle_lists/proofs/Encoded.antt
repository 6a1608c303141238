-- The steps of writing the file of a rank.
use Rattle.circle_lists.proofs.Prelude.{◌≡◌, ℕ, ◌+◌, List, ◌++◌, take, AllByRecursion, flat_map, line, head_text, IsWritable, path_lines}

-- what is written of so many paths: the head and their lines
pub record Written (text : List ℕ) (rank ranks : ℕ) (ps : List (List ℕ)) (i : ℕ) : Type 0 where
  pub lines : text ≡ line (head_text rank ranks) ++ flat_map (λ l. l) (path_lines (take i ps))
  pub each : AllByRecursion IsWritable (take i ps)
