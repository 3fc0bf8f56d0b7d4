-- What compile answers and leaves.
use Rattle.std.specs.Prelude.{◌≡◌, ℕ, ◌<◌, ◌≤◌, min, ◌≢◌, List, [], ◌∷◌, ◌++◌, map, length, drop, Ok, Err, Result}
use Rattle.book.specs.declared.fault.Refusal.{Refusal}
use Rattle.book.specs.Grammar.{Grammar, symbols}
use Rattle.book.specs.Refusals.{refusal as book_refusal}
use Rattle.book.specs.Tables.{Holds}
use Rattle.table.specs.Lists.{StandsAt}
use Rattle.finding.specs.Numbered.{Arrow}
use Rattle.finding.specs.Finding.{Whole}
use Rattle.theory.specs.Machine.{Machine}
use Rattle.theory.specs.Policies.{Meaning}
use Rattle.theory.specs.Unfolding.{Node, Unfolded}
use Rattle.theory.specs.Flattening.{Acceptor, file_length, FlattenedFrom}
use Rattle.machine.specs.Machines.{MachineRefusal, refusal as machine_refusal}
use Rattle.policy.specs.Classes.{Room, HasPlace}
use Rattle.unfolding.specs.Refusals.{refusal as unfolding_refusal}
use Rattle.unfolding.specs.Unfoldings.{UnfoldingRefusal, limits, first_node}
use Rattle.flattening.specs.Flat.{JumpsOf, told, refusal as jump_refusal}
use Rattle.pga.specs.Files.{file_of, Fit}
use Rattle.pga.specs.declared.listing.Counts.{Counts}
use Rattle.compiler.specs.declared.fault.CompileFault.{CompileFault}
use Rattle.compiler.specs.declared.fault.CompileFault.TheVariants.{Book, Machine as InMachine, Unfolding, Jumps, OutputShort}
use Rattle.compiler.specs.Promises.{FileLaws}

-- the refusal that a fault stands for; the book's fault is carried whole
abbrev pub refusal : CompileFault → Refusal
refusal (Book f) = book_refusal f
refusal (InMachine f) = machine_refusal f
refusal (Unfolding f) = unfolding_refusal f
refusal (Jumps f) = jump_refusal f
refusal (OutputShort n) = told 16 n

-- the lengths of the lent tables and of the output
pub record Lengths : Type 0 where
  pub states : ℕ
  pub moves : ℕ
  pub nodes : ℕ
  pub unfolded : ℕ
  pub jumps : ℕ
  pub out : ℕ

-- the book's grammar has this machine, which fits the tables
pub record Built (book : List ℕ) (l : Lengths) (g : Grammar) (states : List (List ℕ)) (moves : List Arrow) : Type 0 where
  pub held : Holds book g
  pub machine : Machine g states moves
  pub states_fit : length states ≤ min l.states 1024
  pub moves_fit : length moves ≤ min l.moves 16384

-- the machine has this unfolding, and every class, node and move had a place
pub record Opened (m : Meaning) (room : Room) (l : Lengths) (g : Grammar) (moves : List Arrow) (nodes : List Node) (arrows : List Arrow) : Type 0 where
  pub unfolded : Unfolded m moves (symbols g) nodes arrows
  pub placed : Whole (limits m room moves (symbols g) l.nodes l.unfolded) (first_node m) nodes arrows

-- why compile refuses, layer by layer: book and machine, unfolding, jumps, and last of all an output too short
pub data CompileRefusal (book : List ℕ) (m : Meaning) (room : Room) (l : Lengths) : Refusal → Type 0 where
  machine : {f : Refusal} → MachineRefusal book l.states l.moves f → CompileRefusal book m room l f
  nodes : {f : Refusal} (g : Grammar) (states : List (List ℕ)) (moves : List Arrow) → Built book l g states moves
      → UnfoldingRefusal m room moves (symbols g) l.nodes l.unfolded f → CompileRefusal book m room l f
  jumps : (g : Grammar) (states : List (List ℕ)) (moves : List Arrow) (nodes : List Node) (arrows : List Arrow) → Built book l g states moves → Opened m room l g moves nodes arrows
      → (all : List (ℕ × ℕ)) → JumpsOf g states nodes arrows all → (j : ℕ × ℕ) → StandsAt all (min l.jumps 16384) j → CompileRefusal book m room l (told 15 j.0)
  output : (g : Grammar) (states : List (List ℕ)) (moves : List Arrow) (nodes : List Node) (arrows : List Arrow) → Built book l g states moves → Opened m room l g moves nodes arrows
      → (f : Acceptor) → FlattenedFrom g states nodes arrows f → length f.jumps ≤ min l.jumps 16384 → l.out < file_length f
      → CompileRefusal book m room l (told 16 (file_length f))

-- the output begins with the file of the book's acceptor under the policy, which open takes, and is otherwise as it was; the counts are the sizes
pub record Compiled (book : List ℕ) (m : Meaning) (room : Room) (l : Lengths) (out out' : List ℕ) (c : Counts) : Type 0 where
  pub grammar : Grammar
  pub states : List (List ℕ)
  pub moves : List Arrow
  pub nodes : List Node
  pub arrows : List Arrow
  pub acceptor : Acceptor
  pub built : Built book l grammar states moves
  pub opened : Opened m room l grammar moves nodes arrows
  pub flat : FlattenedFrom grammar states nodes arrows acceptor
  pub jumps_fit : length acceptor.jumps ≤ min l.jumps 16384
  pub fit : Fit acceptor
  pub out_is : out' ≡ file_of acceptor ++ drop (file_length acceptor) out
  pub state_count : c.states ≡ length states
  pub move_count : c.moves ≡ length moves
  pub node_count : c.nodes ≡ length nodes
  pub unfolded_count : c.unfolded ≡ length arrows
  pub arc_count : c.arcs ≡ length acceptor.arcs
  pub jump_count : c.jumps ≡ length acceptor.jumps
  pub laws : FileLaws grammar m acceptor

-- the book holds a grammar whose machine, unfolding and acceptor fit the tables and the output, and each class has a place when its node is found
pub record FitsTables (book : List ℕ) (m : Meaning) (room : Room) (l : Lengths) : Type 0 where
  pub grammar : Grammar
  pub states : List (List ℕ)
  pub moves : List Arrow
  pub nodes : List Node
  pub arrows : List Arrow
  pub acceptor : Acceptor
  pub built : Built book l grammar states moves
  pub unfolded : Unfolded m moves (symbols grammar) nodes arrows
  pub flat : FlattenedFrom grammar states nodes arrows acceptor
  pub nodes_fit : length nodes ≤ min l.nodes 4096
  pub arrows_fit : length arrows ≤ min l.unfolded 16384
  pub jumps_fit : length acceptor.jumps ≤ min l.jumps 16384
  pub output_fits : file_length acceptor ≤ l.out
  pub placed : (front rest : List Node) (n : Node) → nodes ≡ front ++ (n ∷ rest) → front ≢ [] → HasPlace room (map (λ k. k.class) front) n.class

-- what compile answers and leaves; it is refused only where something does not fit
abbrev pub CompiledOr : List ℕ → Meaning → Room → Lengths → List ℕ → Result Counts CompileFault → List ℕ → Type 0
CompiledOr book m room l out (Ok c) out' = Compiled book m room l out out' c
CompiledOr book m room l out (Err f) out' = CompileRefusal book m room l (refusal f) × (out' ≡ out) × (FitsTables book m room l → ⊥)
