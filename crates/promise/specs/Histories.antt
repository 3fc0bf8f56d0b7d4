-- Lists of calls with their answers, and the states that they lead to.
use Rattle.std.specs.Prelude.{◌≡◌, ℕ, ◌≤◌, true, false, List, [], ◌∷◌, length}
use Rattle.std.proofs.Math.Option.{some}
use Rattle.std.proofs.Math.ListN.{get_elem?}
use Rattle.book.specs.Grammar.{Grammar}
use Rattle.book.specs.Edits.{bare, Written}
use Rattle.promise.specs.Acceptors.{Kind, Automaton, IsFileOf}
use Rattle.promise.specs.Acceptors.Kind.{pga, pgd}
use Rattle.promise.specs.States.{Slot, file, Turn, State, slot_of}
use Rattle.promise.specs.Calls.{Call, Answer}
use Rattle.promise.specs.Steps.{Step}

-- what a session starts from: the numbers of a new book, the three lent tables as they were, and how many turns have a place
pub record Start : Type 0 where
  pub words : ℕ
  pub names : ℕ
  pub start : ℕ
  pub table : List ℕ
  pub pga : List ℕ
  pub pgd : List ℕ
  pub places : ℕ

-- the grammar of the new book: no rule yet
abbrev pub first_grammar : Start → Grammar
first_grammar o = bare o.words o.names o.start

-- a buffer without a byte of a file
abbrev pub empty_slot : List ℕ → Slot
empty_slot bytes = record { bytes = bytes; used = 0; opened = false }

-- blank wrote its header into the book table; both files are without a byte, and there is no turn
pub record Fresh (o : Start) (s : State) : Type 0 where
  pub used : ℕ
  pub blanked : Written o.table (first_grammar o) s.book used
  pub pga : s.pga ≡ empty_slot o.pga
  pub pgd : s.pgd ≡ empty_slot o.pgd
  pub turns : s.turns ≡ []
  pub places : s.places ≡ o.places

-- calls with their answers, the newest first
abbrev pub History : Type 0
History = List (Call × Answer)

-- the calls of a history, one after the other, lead from the start to a state
pub data Reached (o : Start) : History → State → Type 0 where
  fresh : {s : State} → Fresh o s → Reached o [] s
  after : {h : History} {s s' : State} {c : Call} {a : Answer} → Reached o h s → Step s c a s' → Reached o ((c, a) ∷ h) s'

-- the file lies in its buffer, and is one of the kind while it is open
pub record SlotInOrder (k : Kind) (s : Slot) : Type 0 where
  pub within : s.used ≤ length s.bytes
  pub is_file : s.opened ≡ true → (a : Automaton) × IsFileOf k (file s) a

-- what a call may rely on: open files are files, the turns in use are on open files, and each turn has a place
pub record InOrder (s : State) : Type 0 where
  pub pga : SlotInOrder pga s.pga
  pub pgd : SlotInOrder pgd s.pgd
  pub turns : (i : ℕ) (u : Turn) → get_elem? s.turns i ≡ some u → u.live ≡ true → (slot_of s u.kind).opened ≡ true
  pub few : length s.turns ≤ s.places
