-- A search in finding order, turn by turn: what it finds, and what stops it.
use Rattle.std.specs.Prelude.{◌≡◌, ℕ, ◌+◌, ◌<◌, ◌≤◌, ◌≢◌, ◌⊎◌, List, [], ◌∷◌, ◌++◌, map, length, take}
use Rattle.std.proofs.Math.Option.{Option, none, some}
use Rattle.table.specs.Lists.{StandsAt, Lacks}
use Rattle.finding.specs.declared.moves.Stop.{Stop}
use Rattle.finding.specs.declared.moves.Stop.TheVariants.{Room, Entry, Arrow}
use Rattle.finding.specs.declared.moves.Move.{Move}
use Rattle.finding.specs.Numbered.{Arrow as Arrow₃, Numbered, upto}

-- a move of the table as plain numbers
abbrev pub arrow : {N : Type 0} → (N → ℕ) → Move N → Arrow₃
arrow value m = (value m.from, m.symbol, value m.to)

-- what is searched: the defined step of a thing on each symbol below `symbols`, and which new thing has a place beside those found
pub record Search (A : Type 0) : Type 1 where
  pub step : A → ℕ → Option A
  pub room : List A → A → Type 0
  pub symbols : ℕ

-- and for how many things and moves there is room
pub record Bounded (A : Type 0) : Type 1 where
  pub sought : Search A
  pub most : ℕ
  pub most_moves : ℕ

abbrev pub within : {A : Type 0} → Search A → ℕ → ℕ → Bounded A
within s m n = record { sought = s; most = m; most_moves = n }

-- where a search stands: what it found, the entry whose moves are taken, and the symbol to look at
pub record Place (A : Type 0) : Type 0 where
  pub entries : List A
  pub moves : List Arrow₃
  pub entry : ℕ
  pub symbol : ℕ

abbrev pub place : {A : Type 0} → List A → List Arrow₃ → ℕ → ℕ → Place A
place es ms i x = record { entries = es; moves = ms; entry = i; symbol = x }

-- the same, as the tables show it
abbrev pub stands : {E A N : Type 0} → (E → A) → (N → ℕ) → List E → ℕ → List (Move N) → ℕ → ℕ → ℕ → Place A
stands thing value rows n moves m i x = place (map thing (take n rows)) (map (arrow value) (take m moves)) i x

-- the entry at hand moves on the symbol at hand to t
pub record Leads {A : Type 0} (b : Bounded A) (p : Place A) (t : A) : Type 0 where
  pub at : A
  pub stands : StandsAt p.entries p.entry at
  pub below : p.symbol < b.sought.symbols
  pub goes : b.sought.step at p.symbol ≡ some t

-- one turn of a search: no move on the symbol at hand; a move to what was found before; a move to what was not; or the next entry
pub data Turn {A : Type 0} (b : Bounded A) (p : Place A) : Place A → Type 0 where
  pass : (a : A) → StandsAt p.entries p.entry a → p.symbol < b.sought.symbols → b.sought.step a p.symbol ≡ none
      → Turn b p (place p.entries p.moves p.entry (p.symbol + 1))
  old : (t : A) (j : ℕ) → Leads b p t → StandsAt p.entries j t → length p.moves < b.most_moves
      → Turn b p (place p.entries (p.moves ++ ((p.entry, p.symbol, j) ∷ [])) p.entry (p.symbol + 1))
  new : (t : A) → Leads b p t → Lacks p.entries t → b.sought.room p.entries t → length p.entries < b.most → length p.moves < b.most_moves
      → Turn b p (place (p.entries ++ (t ∷ [])) (p.moves ++ ((p.entry, p.symbol, length p.entries) ∷ [])) p.entry (p.symbol + 1))
  next : p.entry < length p.entries → p.symbol ≡ b.sought.symbols → Turn b p (place p.entries p.moves (p.entry + 1) 0)

pub data Turns {A : Type 0} (b : Bounded A) (p : Place A) : Place A → Type 0 where
  stay : Turns b p p
  more : {q r : Place A} → Turns b p q → Turn b q r → Turns b p r

-- what stops a search where it stands; the causes of one move in their order
pub data Stopped {A : Type 0} (b : Bounded A) (p : Place A) : Stop → Type 0 where
  no_room : (t : A) → Leads b p t → Lacks p.entries t → (b.sought.room p.entries t → ⊥) → Stopped b p (Room p.entry)
  no_entry : (t : A) → Leads b p t → Lacks p.entries t → b.sought.room p.entries t → b.most ≤ length p.entries
      → Stopped b p (Entry (length p.entries))
  no_move : (t : A) → Leads b p t
      → ((j : ℕ) × StandsAt p.entries j t) ⊎ (Lacks p.entries t × b.sought.room p.entries t × (length p.entries < b.most))
      → b.most_moves ≤ length p.moves → Stopped b p (Arrow p.entry (length p.moves))

-- turns lead from p to where this stops the search
abbrev pub TurnedTo : {A : Type 0} → Bounded A → Place A → Stop → Type 0
TurnedTo {A} b p stop = (q : Place A) × Turns b p q × Stopped b q stop

-- the search from `start` comes to stand at p
abbrev pub Finding : {A : Type 0} → Bounded A → A → Place A → Type 0
Finding b start p = (0 < b.most) × Turns b (place (start ∷ []) [] 0 0) p

-- the search ends with these entries and moves
abbrev pub Whole : {A : Type 0} → Bounded A → A → List A → List Arrow₃ → Type 0
Whole b start es ms = Finding b start (place es ms (length es) 0)

-- the search is refused
pub data Refused {A : Type 0} (b : Bounded A) (start : A) : Stop → Type 0 where
  empty : b.most ≡ 0 → Refused b start (Entry 0)
  met : {stop : Stop} (p : Place A) → Finding b start p → Stopped b p stop → Refused b start stop

-- the numbering from `start` fits: its entries and moves are within the limits, and each entry but the start has a place beside those before it
pub record Fits {A : Type 0} (b : Bounded A) (start : A) (es : List A) (ms : List Arrow₃) : Type 0 where
  pub numbered : Numbered b.sought.step (upto b.sought.symbols) start es ms
  pub few : length es ≤ b.most
  pub few_moves : length ms ≤ b.most_moves
  pub placed : (front rest : List A) (t : A) → es ≡ front ++ (t ∷ rest) → front ≢ [] → b.sought.room front t
