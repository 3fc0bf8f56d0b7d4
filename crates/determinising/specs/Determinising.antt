-- What determinising answers and leaves.
use Rattle.std.specs.Prelude.{◌≡◌, ℕ, ◌<◌, ◌≤◌, min, ◌↔◌, List, ◌++◌, length, drop, Ok, Err, Result}
use Rattle.book.specs.declared.fault.Refusal.{Refusal}
use Rattle.finding.specs.declared.moves.Stop.TheVariants.{Entry, Arrow}
use Rattle.finding.specs.Finding.{Search, Bounded, within, Refused}
use Rattle.theory.specs.Flattening.{Acceptor}
use Rattle.theory.specs.Sentences.{Passes}
use Rattle.theory.specs.Subsets.{first_set, subset_step, Determined, determined_length, Determinised, DeterminedPasses}
use Rattle.pga.specs.Files.{IsFile}
use Rattle.pga.specs.Flaws.{FileFault}
use Rattle.fields.specs.Refusals.{told}
use Rattle.pgd.specs.Files.{file_of, Fit}
use Rattle.determinising.specs.declared.fault.SubsetCounts.{SubsetCounts}
use Rattle.determinising.specs.declared.fault.DeterminiseFault.{DeterminiseFault}
use Rattle.determinising.specs.Refusals.{refusal}

-- sets of nodes lead where all arcs on a word, and then all jumps, lead; every set has a place
abbrev pub subset_search : Acceptor → Search (List ℕ)
subset_search f = record { step = subset_step f; room = λ found new. Unit {0}; symbols = f.words }

-- at most 1,024 sets and 16,384 arcs; a shorter table is the limit instead
unfoldable pub limits : Acceptor → ℕ → ℕ → Bounded (List ℕ)
limits f rows arcs = within (subset_search f) (min rows 1024) (min arcs 16384)

-- the lengths of the lent tables and of the output
pub record Lengths : Type 0 where
  pub rows : ℕ
  pub arcs : ℕ
  pub out : ℕ

-- why an acceptor is not determinised: the first obstacle in finding order, at one move the set before the arc, and last an output too short
pub data DeterminiseRefusal (f : Acceptor) (l : Lengths) : Refusal → Type 0 where
  set_limit : (n : ℕ) → Refused (limits f l.rows l.arcs) (first_set f) (Entry n) → DeterminiseRefusal f l (told 18 n)
  arc_limit : (left n : ℕ) → Refused (limits f l.rows l.arcs) (first_set f) (Arrow left n) → DeterminiseRefusal f l (told 19 left)
  output : (d : Determined) → Determinised f d → d.states ≤ min l.rows 1024 → length d.arcs ≤ min l.arcs 16384 → l.out < determined_length d
      → DeterminiseRefusal f l (told 16 (determined_length d))

-- the output begins with the file of the determinised acceptor of f, and is otherwise as it was; the counts are its sizes
pub record DeterminisedIn (f : Acceptor) (l : Lengths) (out out' : List ℕ) (c : SubsetCounts) : Type 0 where
  pub acceptor : Determined
  pub is : Determinised f acceptor
  pub states_fit : acceptor.states ≤ min l.rows 1024
  pub arcs_fit : length acceptor.arcs ≤ min l.arcs 16384
  pub out_is : out' ≡ file_of acceptor ++ drop (determined_length acceptor) out
  pub state_count : c.states ≡ acceptor.states
  pub arc_count : c.arcs ≡ length acceptor.arcs
  -- the file is one that can be opened, and its sentences are those of f
  pub fit : Fit acceptor
  pub same_sentences : (w : List ℕ) → DeterminedPasses acceptor w ↔ Passes f w

-- why determinise refuses bytes: they are no acceptor's file, or their acceptor is refused
pub data FileRefusal (file : List ℕ) (l : Lengths) : Refusal → Type 0 where
  no_file : {r : Refusal} → FileFault file r → FileRefusal file l r
  acceptor : {r : Refusal} (f : Acceptor) → IsFile file f → DeterminiseRefusal f l r → FileRefusal file l r

-- what determinise answers and leaves
abbrev pub DeterminisedOr : List ℕ → Lengths → List ℕ → Result SubsetCounts DeterminiseFault → List ℕ → Type 0
DeterminisedOr file l out (Ok c) out' = (f : Acceptor) × IsFile file f × DeterminisedIn f l out out' c
DeterminisedOr file l out (Err x) out' = FileRefusal file l (refusal x) × (out' ≡ out)
