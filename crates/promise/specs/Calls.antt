-- The calls of a session with their arguments, and their answers.
use Rattle.std.specs.Prelude.{ℕ, ◌+◌, ◌*◌, Bool, List, Ok, Err, Result}
use Rattle.book.specs.declared.fault.Refusal.{Refusal}
use Rattle.book.specs.declared.fault.BookFault.{BookFault}
use Rattle.book.specs.Refusals.{refusal as book_refusal}
use Rattle.theory.specs.Policies.{Meaning}
use Rattle.policy.specs.Classes.{Room}
use Rattle.pga.specs.declared.listing.Counts.{Counts}
use Rattle.compiler.specs.declared.fault.CompileFault.{CompileFault}
use Rattle.compiler.specs.Compiling.{refusal as compile_refusal, Lengths as CompileLengths}
use Rattle.determinising.specs.declared.fault.SubsetCounts.{SubsetCounts}
use Rattle.determinising.specs.declared.fault.DeterminiseFault.{DeterminiseFault}
use Rattle.determinising.specs.Refusals.{refusal as determinise_refusal}
use Rattle.determinising.specs.Determinising.{Lengths as SubsetLengths}
use Rattle.promise.specs.Acceptors.{Kind}

-- how long compile's working tables are
pub record CompileTables : Type 0 where
  pub states : ℕ
  pub moves : ℕ
  pub nodes : ℕ
  pub unfolded : ℕ
  pub jumps : ℕ

-- how long determinise's working tables are
pub record SubsetTables : Type 0 where
  pub rows : ℕ
  pub arcs : ℕ

-- with the output's length beside them
abbrev pub compile_lengths : CompileTables → ℕ → CompileLengths
compile_lengths t out = record { states = t.states; moves = t.moves; nodes = t.nodes; unfolded = t.unfolded; jumps = t.jumps; out = out }

abbrev pub subset_lengths : SubsetTables → ℕ → SubsetLengths
subset_lengths t out = record { rows = t.rows; arcs = t.arcs; out = out }

pub data Call : Type 0 where
  -- a rule, by its left side and its right side
  add : ℕ → List ℕ → Call
  -- under a policy of this meaning, whose new classes have these places
  compile : Meaning → Room → CompileTables → Call
  open_file : Kind → Call
  determinise : SubsetTables → Call
  -- on the turn of a number
  begin : ℕ → Call
  word : ℕ → ℕ → Call
  end : ℕ → Call

pub data Answer : Type 0 where
  -- how many entries of the book table are used
  length_used : ℕ → Answer
  counts : Counts → Answer
  -- the number of the turn that was opened
  turn_number : ℕ → Answer
  subset_counts : SubsetCounts → Answer
  -- the turn has begun, or has taken the word
  done : Answer
  -- whether the sentence is passed
  told : Bool → Answer
  refused : Refusal → Answer
  -- the turn is not there or no longer in use, or no PGA is open to be determinised
  unusable : Answer
  -- no turn more has a place
  turns_full : Answer

-- the answers of the calls whose contracts stand in crates of their own
abbrev pub add_answer : Result ℕ BookFault → Answer
add_answer (Ok n) = length_used n
add_answer (Err f) = refused (book_refusal f)

abbrev pub compile_answer : Result Counts CompileFault → Answer
compile_answer (Ok c) = counts c
compile_answer (Err f) = refused (compile_refusal f)

abbrev pub determinise_answer : Result SubsetCounts DeterminiseFault → Answer
determinise_answer (Ok c) = subset_counts c
determinise_answer (Err f) = refused (determinise_refusal f)

-- how many bytes of the buffer are the file after a compile; refused, as many as before
abbrev pub compiled_length : Result Counts CompileFault → ℕ → ℕ
compiled_length (Ok c) before = 15 + 6 * c.arcs + 4 * c.jumps
compiled_length (Err f) before = before

-- the same after a determinise
abbrev pub determinised_length : Result SubsetCounts DeterminiseFault → ℕ → ℕ
determinised_length (Ok c) before = 11 + c.states + 6 * c.arcs
determinised_length (Err f) before = before

-- a refusal of a turn, by number and place
abbrev pub turn_refusal : ℕ → ℕ → Refusal
turn_refusal n p = record { number = n; layer = 6; place = p }
