-- What a reader that went back was asked for, as the files see it; and where a misplaced string stands.
use Rattle.checkpoints.proofs.Prelude.{◌≡◌, ℕ, ◌<◌, ◌≤◌, List, [], ◌∷◌, ◌++◌, length, get_or, Option, None, refl, ap, ◌∙◌, subst, arith, get_or-append_seam}
use Rattle.checkpoints.proofs.Prelude.{Files, Entry, ListsError, StopsReading, stops_later, Stop, Side, IsRead, list_path, IsFirstMisplaced, stop_of_lists}
use Rattle.checkpoints.proofs.Prelude.{HasNoRanks}
use Rattle.std.proofs.Common.{length-append}
use Rattle.circle_lists.specs.declared.errors.ListsError.TheVariants as error

-- no memory for the first file
pub starved : (dir : List ℕ) (tree : Option Files) (before after : ℕ) → StopsReading dir tree before after error.OutOfMemory
starved dir tree before after = record { rank = 0; known = None; reached = refl; stops = tt }

-- ---- the ranks' files, read after the list file

pub no_ranks : (dir path : List ℕ) (done : List Entry) (before after : Side) (tree : Option Files) (between : ℕ) (error : ListsError) (why : Stop) →
    path ≡ list_path dir → IsRead path done before → tree ≡ before.tree → before.count ≤ between → StopsReading dir tree between after.count error →
    why ≡ stop_of_lists error → HasNoRanks dir before after why
no_ranks dir path done before after tree between error why is list same later s told = record {
  done = done;
  list = subst (λ p. IsRead p done before) is list;
  error = error;
  stops =
      let now = subst (λ t. StopsReading dir t between after.count error) same s in
      record {
        rank = now.rank;
        known = now.known;
        reached = now.reached;
        stops = stops_later dir now.rank now.known before.tree before.count between after.count error later now.stops;
      };
  told = told;
}

-- ---- a misplaced string is one of its rank's list

pub inside_ranks : {done : List Entry} {lists : List (List (List ℕ))} {rank place : ℕ} → IsFirstMisplaced done lists rank place → rank < length lists
inside_ranks {done} {lists} first =
    omega (arith, first.at.0, ap length first.are, length-append first.earlier ((first.before ++ first.path ∷ first.behind) ∷ first.later))

pub inside : {done : List Entry} {lists : List (List (List ℕ))} {rank place : ℕ} → IsFirstMisplaced done lists rank place →
    place < length (get_or lists rank [])
inside {done} {lists} {rank} {place} first =
    let list = first.before ++ first.path ∷ first.behind in
    let here : get_or lists rank [] ≡ list =
    ap (λ ls. get_or ls rank []) first.are ∙ ap (λ k. get_or (first.earlier ++ list ∷ first.later) k []) first.at.0
    ∙ get_or-append_seam first.earlier list first.later []
    in
    omega (arith, ap length here, first.at.1, length-append first.before (first.path ∷ first.behind))
