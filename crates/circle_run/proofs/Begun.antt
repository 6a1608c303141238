-- What a run begins with.
use Rattle.circle_run.proofs.Prelude.{◌≡◌, ℕ, ◌<◌, arith, [], length, length-replicate, length-map-range_with_len, get_or-map-range_with_len, generator_of}
use Rattle.circle_run.proofs.Prelude.{Strings, RankSide, no_side, rank_side, dealt_to, new_place, begun, Options}

abbrev pub new_side : Options → Strings → ℕ → RankSide
new_side o starts r = record { queue = dealt_to o.ranks starts r; log = []; draws = generator_of o.seed r }

pub ranks_begun : (o : Options) (starts : Strings) → length (begun o starts).ranks ≡ o.ranks
ranks_begun o starts = length-map-range_with_len (new_side o starts) 0 o.ranks

pub places_begun : (o : Options) (starts : Strings) → length (begun o starts).told.places ≡ o.ranks
places_begun o starts = length-replicate o.ranks new_place

pub side_begun : (o : Options) (starts : Strings) (r : ℕ) → r < o.ranks → rank_side (begun o starts) r ≡ new_side o starts r
side_begun o starts r inside = get_or-map-range_with_len (new_side o starts) 0 o.ranks r r no_side inside (omega arith)
