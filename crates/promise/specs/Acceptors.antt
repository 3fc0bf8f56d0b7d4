-- The two kinds of acceptor: their files, their sentences, and what is made from a grammar under a policy.
use Rattle.std.specs.Prelude.{ℕ, List}
use Rattle.book.specs.declared.fault.Refusal.{Refusal}
use Rattle.book.specs.Grammar.{Grammar}
use Rattle.theory.specs.Policies.{Meaning}
use Rattle.theory.specs.Flattening.{Acceptor, Flattened}
use Rattle.theory.specs.Sentences.{Passes}
use Rattle.theory.specs.Subsets.{Determined, Determinised, DeterminedPasses}
use Rattle.pga.specs.Files.{IsFile as IsPga}
use Rattle.pga.specs.Flaws.{FileFault as PgaFault}
use Rattle.pgd.specs.Files.{IsFile as IsPgd}
use Rattle.pgd.specs.Flaws.{FileFault as PgdFault}

-- the file of a flattened acceptor, and that of a determinised one
pub data Kind : Type 0 where
  pga : Kind
  pgd : Kind

-- the one of two things that belongs to a kind
abbrev pub pick : {A : Type 0} → A → A → Kind → A
pick a d pga = a
pick a d pgd = d

-- an acceptor of either kind
pub data Automaton : Type 0 where
  flat : Acceptor → Automaton
  subset : Determined → Automaton

-- how many words it has
abbrev pub words_of : Automaton → ℕ
words_of (flat f) = f.words
words_of (subset d) = d.words

-- w is one of its sentences
abbrev pub Passed : Automaton → List ℕ → Type 0
Passed (flat f) w = Passes f w
Passed (subset d) w = DeterminedPasses d w

-- the bytes are the file of an acceptor of the kind
pub data IsFileOf : Kind → List ℕ → Automaton → Type 0 where
  is_pga : {bytes : List ℕ} {f : Acceptor} → IsPga bytes f → IsFileOf pga bytes (flat f)
  is_pgd : {bytes : List ℕ} {d : Determined} → IsPgd bytes d → IsFileOf pgd bytes (subset d)

-- the first fault of bytes that are no file of the kind
abbrev pub NoFile : Kind → List ℕ → Refusal → Type 0
NoFile pga bytes r = PgaFault bytes r
NoFile pgd bytes r = PgdFault bytes r

-- what compile makes from the grammar under the policy, and what determinise makes of that
pub data Made (g : Grammar) (m : Meaning) : Kind → Automaton → Type 0 where
  compiled : {f : Acceptor} → Flattened g m f → Made g m pga (flat f)
  determinised : {f : Acceptor} {d : Determined} → Flattened g m f → Determinised f d → Made g m pgd (subset d)
