-- How much a rank gives and which rank it asks. An idle rank asks another at random, which gives it a part of its queue, equal or random:
-- LaFon, Misra and Bringhurst, On Distributed File Tree Walk of Parallel File Systems (SC 2012). The amounts are our own.
use Rattle.std.specs.Prelude.{ℕ, ◌+◌, ◌-◌, ◌/◌, ◌%◌, if◌then◌else◌, nat_lt}
use Rattle.rand_pcg.specs.Lcg.{Lcg, started, increment_of}
use Rattle.rand_pcg.specs.Pcg.{multiplier_64, pcg32}

-- the generator of a rank: the stream of the rank's number, from the seed on
abbrev pub generator_of : ℕ → ℕ → Lcg
generator_of seed rank = started 64 multiplier_64 seed (increment_of 64 rank)

-- the next word of a generator
abbrev pub word : Lcg → ℕ
word from = (pcg32 from).0

-- a generator after its next word
abbrev pub after_word : Lcg → Lcg
after_word from = (pcg32 from).1

-- the strings for each rank that asked; the rank itself keeps as much or more
abbrev pub equal_share : ℕ → ℕ → ℕ
equal_share queued asked = queued / (asked + 1)

-- the strings for one rank by a word: from none to all that is left
abbrev pub random_share : ℕ → ℕ → ℕ
random_share left word = word % (left + 1)

-- the v-th of the ranks beside me
abbrev pub other_rank : ℕ → ℕ → ℕ
other_rank me v = if nat_lt v me then v else v + 1

-- the rank that I ask by a word: one of the n - 1 others
abbrev pub victim : ℕ → ℕ → ℕ → ℕ
victim me n word = other_rank me (word % (n - 1))
