-- Numbers of a sort as plain numbers.
use Rattle.std.specs.Prelude.{ℕ, Some, None, Option}

-- the plain number, if there is a number
abbrev pub value_in : {N : Type 0} → (N → ℕ) → Option N → Option ℕ
value_in value None = None
value_in value (Some n) = Some (value n)
