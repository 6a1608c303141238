-- How the files of the system are seen, and how spans of them are. Our own.
use Rattle.std.specs.Prelude.{ℕ, List, Option, None, refl}
use Rattle.std.specs.Coded.{Coded, code_by, coded×, coded_ℕ, coded_list}
use Rattle.outside.specs.Codes.{cut_code}
use Rattle.outside.specs.Spans.{Piece}
use Rattle.outside.specs.Writes.{Cut}

-- how often the files have failed, the tops of the lent parts, and the files that are lent in spans
pub record Seen : Type 0 where
  pub count : ℕ
  pub lent : List (List (List ℕ))
  pub cut : List Cut

abbrev pub seen_code : Coded Seen
seen_code =
    code_by (ℕ × (List (List (List ℕ)) × List Cut)) (coded× coded_ℕ (coded× (coded_list (coded_list (coded_list coded_ℕ))) (coded_list cut_code)))
    (λ s. (s.count, (s.lent, s.cut))) (λ p. record { count = p.0; lent = p.1.0; cut = p.1.1 }) (λ _. refl)

-- the range of a span, which is seen as its path, its start, its number of bytes and its count of faults
abbrev pub piece_of : List ℕ × ℕ × ℕ × ℕ → Piece
piece_of span = record { path = span.0; start = span.1; size = span.2 }

abbrev pub count_of : List ℕ × ℕ × ℕ × ℕ → ℕ
count_of span = span.3

-- it tells no bytes
abbrev pub untold : List ℕ × ℕ × ℕ × ℕ → Option (List ℕ)
untold span = None

-- a new span
abbrev pub blank : Piece → List ℕ × ℕ × ℕ × ℕ
blank piece = (piece.path, piece.start, piece.size, 0)
