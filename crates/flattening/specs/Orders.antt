-- Jumps as pairs of node numbers, and their order.
use Rattle.std.specs.Prelude.{ℕ}
use Rattle.theory.specs.Flattening.{JumpLess}
use Rattle.flattening.specs.declared.jump.Jump.{Jump}

-- the jump as plain numbers
abbrev pub pair : Jump → ℕ × ℕ
pair j = (j.from.0, j.to.0)

-- by the node left, then by the node reached
abbrev pub Before : Jump → Jump → Type 0
Before a b = JumpLess (pair a) (pair b)
