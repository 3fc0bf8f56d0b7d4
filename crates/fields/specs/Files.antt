-- Files of whichever kind: the file of a thing that fits, and what writing and checking one answer.
use Rattle.std.specs.Prelude.{◌≡◌, ℕ, ◌<◌, List, ◌++◌, length, take, drop, Ok, Err, Result}
use Rattle.std.specs.List.{AllByRecursion}
use Rattle.book.specs.declared.fault.Refusal.{Refusal}
use Rattle.fields.specs.declared.fault.AcceptorFault.{AcceptorFault}
use Rattle.fields.specs.declared.fault.OutputShort.{OutputShort}
use Rattle.fields.specs.Refusals.{refusal}
use Rattle.fields.specs.Flaws.{Check, Passes, First}

-- the things that fit, and the bytes of each
module _ {T : Type 0} (Fit : T → Type 0) (file_of : T → List ℕ) where
  -- the bytes are the file of a thing that fits
  pub record FileOf (bytes : List ℕ) (a : T) : Type 0 where
    pub fit : Fit a
    pub is : bytes ≡ file_of a

  -- the output begins with the n bytes of the file of a, which are so many, and all after them is as it was
  pub record FileWritten (size : T → ℕ) (a : T) (out out' : List ℕ) (n : ℕ) : Type 0 where
    pub length_used : n ≡ size a
    pub is : out' ≡ file_of a ++ drop n out
    pub is_file : Fit a → FileOf (take n out') a

  -- what writing answers and leaves
  abbrev pub Written : (T → ℕ) → T → List ℕ → Result ℕ OutputShort → List ℕ → Type 0
  Written size a out (Ok n) out' = FileWritten size a out out' n
  Written size a out (Err f) out' = (f.needed ≡ size a) × (length out < size a) × (out' ≡ out)

  -- what is read off bytes, the numbers in front of it, and what the bytes are checked for
  module _ {H : Type 0} (decoded : List ℕ → T) (header : T → H) (checks : List ℕ → List Check) where
    -- the bytes are the file of what is read off them, with these numbers, or this is their first fault
    abbrev pub Checked : List ℕ → Result H AcceptorFault → Type 0
    Checked bytes (Ok h) = FileOf bytes (decoded bytes) × (h ≡ header (decoded bytes))
    Checked bytes (Err f) = First bytes (checks bytes) (refusal f)

    -- no other answer would be right: what is read off the bytes is the only one, and the fault the only first one
    abbrev pub OnlyChecked : List ℕ → Result H AcceptorFault → Type 0
    OnlyChecked bytes (Ok h) = ((a : T) → FileOf bytes a → a ≡ decoded bytes) × ((f : Refusal) → First bytes (checks bytes) f → ⊥)
    OnlyChecked bytes (Err f) =
        ((a : T) → FileOf bytes a → ⊥) × ((f' : Refusal) → First bytes (checks bytes) f' → f' ≡ refusal f)

-- all checks pass, and these are the numbers in front, or this is the first fault
abbrev pub WholeJudged : {H : Type 0} → (List ℕ → H → Type 0) → (List ℕ → List Check) → List ℕ → Result H AcceptorFault → Type 0
WholeJudged Headed checks bytes (Ok h) = AllByRecursion (Passes bytes) (checks bytes) × Headed bytes h
WholeJudged Headed checks bytes (Err f) = First bytes (checks bytes) (refusal f)
