-- What a lexicon holds and answers.
use Rattle.std.specs.Prelude.{◌≡◌, ℕ, ◌<◌, ◌≤◌, List, [], ◌∷◌, ◌++◌, length, take, Ok, Err, Result}
use Rattle.table.specs.Lists.{StandsAt, Lacks}
use Rattle.lexicon.specs.declared.fault.LexiconFault.{LexiconFault}
use Rattle.lexicon.specs.declared.fault.LexiconFault.TheVariants.{BadSpelling, Full}
use Rattle.lexicon.specs.declared.lexicon.Lexicon.{Lexicon}
use Rattle.lexicon.specs.Spellings.{IsSpelling, BadAt}

-- the spellings that have a number, each at the place that is its number
abbrev pub spellings : Lexicon → List (List ℕ)
spellings l = take l.table.len l.table.rows.now

-- how many spellings may have a number
abbrev pub places : Lexicon → ℕ
places l = length l.table.rows.now

-- bytes are given a number by a lexicon that holds these spellings and has so many places: the answer, and the spellings held after it
pub data Numbered (held : List (List ℕ)) (most : ℕ) (bytes : List ℕ) : Result ℕ LexiconFault → List (List ℕ) → Type 0 where
  -- a spelling that came before has the number of its first arrival
  old : {n : ℕ} → IsSpelling bytes → StandsAt held n bytes → Numbered held most bytes (Ok n) held
  -- a new one gets the next number
  new : IsSpelling bytes → Lacks held bytes → length held < most → Numbered held most bytes (Ok (length held)) (held ++ (bytes ∷ []))
  -- a new one where every place is in use
  full : IsSpelling bytes → Lacks held bytes → most ≤ length held → Numbered held most bytes (Err (Full (length held))) held
  -- what is no spelling
  bad : {k : ℕ} → BadAt bytes k → Numbered held most bytes (Err (BadSpelling k)) held

-- no other answer would be right, and nothing else would be held after it
abbrev pub Only : (held : List (List ℕ)) (most : ℕ) (bytes : List ℕ) → Result ℕ LexiconFault → List (List ℕ) → Type 0
Only held most bytes r after = (r' : Result ℕ LexiconFault) (after' : List (List ℕ)) → Numbered held most bytes r' after' → (r' ≡ r) × (after' ≡ after)
