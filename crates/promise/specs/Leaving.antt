-- The state is as the tally says.
use Rattle.std.specs.Prelude.{◌≡◌, ℕ, true, List, [], ◌∷◌, ◌++◌, length, drop}
use Rattle.std.proofs.Math.Option.{Option, none, some}
use Rattle.book.specs.Tables.{entries, used, Fit}
use Rattle.promise.specs.Acceptors.{Kind, Automaton, IsFileOf, Made}
use Rattle.promise.specs.Acceptors.Kind.{pga, pgd}
use Rattle.promise.specs.Positions.{Position, position_after}
use Rattle.promise.specs.States.{Slot, file, Turn, State}
use Rattle.promise.specs.Histories.{Start}
use Rattle.promise.specs.Tallies.{Note, FileTally, TurnTally, Tally, note_of}

-- the entries of the tally's grammar, and after them the table as it was lent
abbrev pub book_table : Start → Tally → List ℕ
book_table o y = entries y.grammar ++ drop (used y.grammar) o.table

-- what is made of a note
abbrev pub MadeOf : Note → Kind → Automaton → Type 0
MadeOf n k a = Made n.grammar n.meaning k a

-- without a note the file has no byte; with one it is the file of what is made of the note
pub data Filled (k : Kind) : Option Note → List ℕ → Type 0 where
  no_byte : Filled k none []
  holds : {n : Note} {bytes : List ℕ} (a : Automaton) → Fit n.grammar → MadeOf n k a → IsFileOf k bytes a → Filled k (some n) bytes

-- the slot has the lent buffer's length, is open when the tally has it open, and has the file of the note
pub record SlotAs (k : Kind) (lent : List ℕ) (y : FileTally) (s : Slot) : Type 0 where
  pub as_long : length s.bytes ≡ length lent
  pub opened : s.opened ≡ y.opened
  pub filled : Filled k y.note (file s)

-- an unbegun turn is so; another stands where its words lead on its file
pub data Stands (y : Tally) (k : Kind) : Option (List ℕ) → Option Position → Type 0 where
  unbegun : Stands y k none none
  at : {w : List ℕ} {p : Position} (n : Note) (a : Automaton) → note_of y k ≡ some n → MadeOf n k a → p ≡ position_after a w
      → Stands y k (some w) (some p)

pub record TurnAs (y : Tally) (t : TurnTally) (u : Turn) : Type 0 where
  pub kind : u.kind ≡ t.kind
  pub live : u.live ≡ t.live
  pub stands : t.live ≡ true → Stands y t.kind t.words u.at

-- two lists are as long, and their elements at each place are related
pub data Each {A B : Type 0} (R : A → B → Type 0) : List A → List B → Type 0 where
  no_more : Each R [] []
  more : {a : A} {b : B} {xs : List A} {ys : List B} → R a b → Each R xs ys → Each R (a ∷ xs) (b ∷ ys)

-- book table, files and turns are as the tally says, and as many turns have a place as at the start
pub record LeftAs (o : Start) (y : Tally) (s : State) : Type 0 where
  pub book : s.book ≡ book_table o y
  pub fit : Fit y.grammar
  pub pga : SlotAs pga o.pga y.pga s.pga
  pub pgd : SlotAs pgd o.pgd y.pgd s.pgd
  pub turns : Each (TurnAs y) y.turns s.turns
  pub places : s.places ≡ o.places
