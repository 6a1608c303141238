use Rattle.path_text.proofs.Prelude.{◌≡◌, ◌++◌, length, Utf8, shadow, string_bytes, good_len, unescaped}
use Rattle.path_text.proofs.reading.unescaped.Given as goal

-- what was read, and what is left
abbrev pub invariant-loop-plain : goal.invariant-loop-plain
invariant-loop-plain l = record {
  utf8 : shadow (Utf8 l.rest);
  read : string_bytes l.bytes ++ unescaped l.rest ≡ unescaped l.fn.text;
  good : good_len l.rest ≡ length l.rest;
}

abbrev pub decreases-loop-plain : goal.decreases-loop-plain
decreases-loop-plain l = length l.rest
