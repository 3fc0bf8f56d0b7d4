-- A spelling as it lies in its array: the bytes, then zeros.
use Rattle.std.specs.Prelude.{◌≡◌, ℕ, ◌≤◌, List, ◌++◌, length, take, drop}
use Rattle.std.proofs.Math.ListN.{replicate}
use Rattle.std.proofs.Common.{sym, ap, ◌∙◌, arith, length-take-le}
use Rattle.lexicon.specs.declared.spelling.Spelling.TheInside.{Inside}

abbrev pub zeros : List ℕ
zeros = replicate 16 0

-- zeros follow the spelling
pub record Padded (s : Inside) : Type 0 where
  pub few : s.len ≤ 16
  pub long : length s.bytes ≡ 16
  pub follow : s.bytes ≡ take s.len s.bytes ++ drop s.len zeros

-- the array of a spelling
abbrev pub padded : List ℕ → Inside
padded bytes = record { bytes = bytes ++ drop (length bytes) zeros; len = length bytes }

pub padded_back : (s : Inside) → Padded s → padded (take s.len s.bytes) ≡ s
padded_back s p =
    let e : length (take s.len s.bytes) ≡ s.len = length-take-le s.len s.bytes (omega (arith, p.few, p.long)) in
    let b : take s.len s.bytes ++ drop (length (take s.len s.bytes)) zeros ≡ s.bytes = ap (λ n. take s.len s.bytes ++ drop n zeros) e ∙ sym p.follow in
    λ i. record { bytes = b i; len = e i }
