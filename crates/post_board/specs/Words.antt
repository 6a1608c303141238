-- The meaning of a board's words. Word 0 is the ring, and word r + 1 the mailbox of rank r. Our own.
use Rattle.std.specs.Prelude.{ℕ, ◌+◌, ◌-◌, ◌*◌, ◌/◌, ◌%◌, ◌^◌, ◌==◌, Bool, if◌then◌else◌}
use Rattle.ring_core.specs.declared.states.Colour.TheVariants.{White, Black}
use Rattle.ring_core.specs.declared.states.Token.{Token}
use Rattle.ring_core.specs.declared.states.Token.TheVariants.{At, Over}

-- a mailbox as a word, with the rank that it asked, that serves it, that filled it, whose batch is being fetched, or that refused
pub data Sign : Type 0 where
  resting : Sign
  asking : ℕ → Sign
  serving : ℕ → Sign
  full : ℕ → Sign
  fetching : ℕ → Sign
  emptied : ℕ → Sign

abbrev pub word_of : Sign → ℕ
word_of resting = 0
word_of (asking r) = 8 * r + 1
word_of (serving r) = 8 * r + 2
word_of (full r) = 8 * r + 3
word_of (fetching r) = 8 * r + 4
word_of (emptied r) = 8 * r + 5

abbrev pub sign_by : ℕ → ℕ → Sign
sign_by kind r =
    if kind == 1 then asking r else if kind == 2 then serving r else if kind == 3 then full r
    else if kind == 4 then fetching r else if kind == 5 then emptied r else resting

-- the meaning of a mailbox word
unfoldable pub sign : ℕ → Sign
sign word = sign_by (word % 8) (word / 8)

abbrev pub word_of_token : Token → ℕ
word_of_token Over = 0
word_of_token (At place White) = 2 * place + 1
word_of_token (At place Black) = 2 * place + 2

-- the meaning of the ring word
unfoldable pub token_read : ℕ → Token
token_read word = if word == 0 then Over else At ((word - 1) / 2) (if (word - 1) % 2 == 0 then White else Black)

-- whether the bit r of a word is set
abbrev pub has_bit : ℕ → ℕ → Bool
has_bit word r = word / 2 ^ r % 2 == 1
