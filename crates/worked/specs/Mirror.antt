-- What compile makes of one small book: the laws of compiled files have something to speak of.
use Rattle.std.specs.Prelude.{◌≡◌, ℕ, List, [], ◌∷◌, Ok, Err, Result}
use Rattle.book.specs.Grammar.{Derives}
use Rattle.theory.specs.Policies.{path}
use Rattle.theory.specs.Sentences.{Passes}
use Rattle.theory.specs.Rows.{mirror}
use Rattle.policy.specs.Classes.{free_place}
use Rattle.pga.specs.Files.{IsFile}
use Rattle.pga.specs.declared.listing.Counts.{Counts}
use Rattle.compiler.specs.declared.fault.CompileFault.{CompileFault}
use Rattle.compiler.specs.Compiling.{Lengths, Compiled}

-- the entries of S → a X a, S → b X b, X → c
abbrev pub mirror_book : List ℕ
mirror_book =
    3 ∷ (2 ∷ (3 ∷ (3 ∷
    (3 ∷ (3 ∷ (0 ∷ (4 ∷ (0 ∷
    (3 ∷ (3 ∷ (1 ∷ (4 ∷ (1 ∷
    (4 ∷ (1 ∷ (2 ∷ []))))))))))))))))

-- tables and an output that are just long enough
abbrev pub just_enough : Lengths
just_enough = record { states = 9; moves = 9; nodes = 10; unfolded = 9; jumps = 4; out = 67 }

abbrev pub aca : List ℕ
aca = 0 ∷ (2 ∷ (0 ∷ []))

abbrev pub acb : List ℕ
acb = 0 ∷ (2 ∷ (1 ∷ []))

-- compile took the book and wrote this file: it passes a sentence that the book derives, and not one that it does not derive
pub record MirrorCompiled (file : List ℕ) : Type 0 where
  pub before : List ℕ
  pub counts : Counts
  pub compiled : Compiled mirror_book path free_place just_enough before file counts
  pub of_mirror : compiled.grammar ≡ mirror
  pub is_file : IsFile file compiled.acceptor
  pub derived : Derives mirror aca
  pub passed : Passes compiled.acceptor aca
  pub not_derived : Derives mirror acb → ⊥
  pub not_passed : Passes compiled.acceptor acb → ⊥

-- compile is not refused
abbrev pub MirrorFile : Result (List ℕ) CompileFault → Type 0
MirrorFile (Ok file) = MirrorCompiled file
MirrorFile (Err fault) = ⊥
