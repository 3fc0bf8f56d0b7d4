-- Spellings: which bytes are one, and the first byte at which bytes are none.
use Rattle.std.specs.Prelude.{◌≡◌, ℕ, ◌≤◌, ◌<◌, ◌⊎◌, List, length, Ok, Err, Result, slice_index}
use Rattle.lexicon.specs.declared.fault.LexiconFault.{LexiconFault}
use Rattle.lexicon.specs.declared.fault.LexiconFault.TheVariants.{BadSpelling}

-- a small letter a to z, or a digit
abbrev pub IsLetter : ℕ → Type 0
IsLetter b = ((97 ≤ b) × (b ≤ 122)) ⊎ ((48 ≤ b) × (b ≤ 57))

-- the first n bytes are letters
abbrev pub LettersTo : List ℕ → ℕ → Type 0
LettersTo bytes n = (k : ℕ) → k < n → IsLetter (slice_index bytes k)

-- the bytes are a spelling
pub record IsSpelling (bytes : List ℕ) : Type 0 where
  pub some : 0 < length bytes
  pub few : length bytes ≤ 16
  pub letters : LettersTo bytes (length bytes)

-- the bytes are no spelling: this is the first place where a spelling ends too early, has another byte, or has a byte too many
pub data BadAt (bytes : List ℕ) : ℕ → Type 0 where
  none : length bytes ≡ 0 → BadAt bytes 0
  other : {k : ℕ} → k < length bytes → k < 16 → LettersTo bytes k → (IsLetter (slice_index bytes k) → ⊥) → BadAt bytes k
  long : 16 < length bytes → LettersTo bytes 16 → BadAt bytes 16

-- bytes are read as the spelling that they are, or the first bad place is told
pub data Read (bytes : List ℕ) : Result (List ℕ) LexiconFault → Type 0 where
  good : IsSpelling bytes → Read bytes (Ok bytes)
  bad : {k : ℕ} → BadAt bytes k → Read bytes (Err (BadSpelling k))
