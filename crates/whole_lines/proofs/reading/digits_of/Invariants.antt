use Rattle.whole_lines.proofs.Prelude.{◌≡◌, ◌≤◌, ◌-◌, take, length, AllDigits, digits_value}
use Rattle.whole_lines.proofs.reading.digits_of.Given as goal

-- the digits so far, and the number that they write
abbrev pub invariant-loop-len : goal.invariant-loop-len
invariant-loop-len l = record {
  few : l.len ≤ 19;
  within : l.len ≤ length l.text;
  each : AllDigits 10 (take l.len l.text);
  value : l.value ≡ digits_value 10 (take l.len l.text);
}

abbrev pub decreases-loop-len : goal.decreases-loop-len
decreases-loop-len l = 19 - l.len
