-- Seats that stand by their numbers are gathered.
use Rattle.circle_run.proofs.Prelude.{◌≡◌, ℕ, ◌<◌, sym, ap, ◌∙◌, arith, List, map, length, get_or, Some, length-map, get_or-map, Contains-get_or}
use Rattle.circle_run.proofs.Prelude.{IsPermutation-refl, Contains, Shown, AllDone, SumShown, AllFinished, Rank}
use Rattle.post_board.specs.Calls.{ByNumber as SeatsByNumber}
use Rattle.sum_tree.specs.Shown.{ByNumber as SumsByNumber}

pub all_done : {S : Type 0} (shows : S → Shown) (seats : S → Type 0) (all : List S) → SeatsByNumber shows seats all → AllDone shows seats all
all_done shows seats all by = record { ranks = all; by_number = by; same = IsPermutation-refl all }

pub all_finished : {T : Type 0} (shows : T → SumShown) (seats : T → Type 0) (all : List T) → SumsByNumber shows seats all → AllFinished shows seats all
all_finished shows seats all by = record { ranks = all; by_number = by; same = IsPermutation-refl all }

-- the seat of the first rank has answered what was gathered
pub first_answers : {J S T : Type 0} (shows : T → SumShown) (seats : T → Type 0) (ranks : List (Rank J S T)) (all : List T) (total : ℕ)
    → all ≡ map (λ (r : Rank J S T). r.sums_seat) ranks → SumsByNumber shows seats all → 0 < length ranks
    → ((s : T) → Contains all s → (shows s).number ≡ 0 → (shows s).answer ≡ Some total)
    → (d : Rank J S T) → (shows (get_or ranks 0 d).sums_seat).answer ≡ Some total
first_answers {J} {S} {T} shows seats ranks all total are by some answered d =
    let long : length all ≡ length ranks = ap length are ∙ length-map ranks (λ (r : Rank J S T). r.sums_seat) in
    let lt : 0 < length all = omega arith in
    let at : get_or all 0 d.sums_seat ≡ (get_or ranks 0 d).sums_seat =
    ap (λ (xs : List T). get_or xs 0 d.sums_seat) are ∙ get_or-map (λ (r : Rank J S T). r.sums_seat) ranks 0 d d.sums_seat some in
    ap (λ (s : T). (shows s).answer) (sym at)
    ∙ answered (get_or all 0 d.sums_seat) (Contains-get_or all 0 d.sums_seat lt) (by 0 d.sums_seat lt).1
