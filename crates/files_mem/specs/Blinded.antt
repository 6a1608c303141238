-- Files that tell no tree: how often they have failed, and where they may be written. Our own.
use Rattle.std.specs.Prelude.{ℕ, refl}
use Rattle.std.specs.Coded.{Coded, code_by, coded×, coded_ℕ}
use Rattle.outside.specs.Codes.{area_code}
use Rattle.outside.specs.Writes.{Area}

pub record Blinded : Type 0 where
  pub count : ℕ
  pub area : Area

abbrev pub blinded_code : Coded Blinded
blinded_code = code_by (ℕ × Area) (coded× coded_ℕ area_code) (λ b. (b.count, b.area)) (λ p. record { count = p.0; area = p.1 }) (λ _. refl)
