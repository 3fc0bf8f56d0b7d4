-- Sets of nodes: what words lead to in a flattened acceptor, and the determinised acceptor of those sets.
use Rattle.std.specs.Prelude.{◌≡◌, ℕ, ◌+◌, ◌*◌, ◌<◌, Bool, true, ◌↔◌, List, [], ◌∷◌, map, length, ◌==◌, nat_eq}
use Rattle.std.proofs.Math.Option.{Option, none, some}
use mathlib.Core.List.{Memᴰ}
use Rattle.std.proofs.Math.ListN.{get_elem?}
use Rattle.finding.specs.Numbered.{Arrow, upto, Numbered}
use Rattle.theory.specs.Lists.{and, keep, any, saturate}
use Rattle.theory.specs.Flattening.{Acceptor, Leads}
use Rattle.theory.specs.Sentences.{Reads, Passes}

-- every number of the acceptor is one of its words or nodes
pub record InRange (f : Acceptor) : Type 0 where
  pub some_node : 0 < f.nodes
  pub final_node : f.final < f.nodes
  pub arcs_within : (q x p : ℕ) → Memᴰ (q, x, p) f.arcs → (q < f.nodes) × (x < f.words) × (p < f.nodes)
  pub jumps_within : (p to : ℕ) → Memᴰ (p, to) f.jumps → (p < f.nodes) × (to < f.nodes)

-- whether a jump goes from j to k
abbrev pub jumps_to : Acceptor → ℕ → ℕ → Bool
jumps_to f j k = any (λ a. and (a.0 == j) (a.1 == k)) f.jumps

-- whether an arc on x goes from a node of the set to n
abbrev pub arcs_to : Acceptor → List ℕ → ℕ → ℕ → Bool
arcs_to f set x n = any (λ a. and (a.2 == n) (and (a.1 == x) (any (nat_eq a.0) set))) f.arcs

-- a set of nodes with all that jumps reach from it, ascending
abbrev pub spread : Acceptor → List ℕ → List ℕ
spread f set = saturate (upto f.nodes) (jumps_to f) set

-- node 0 and all that jumps reach from it
abbrev pub first_set : Acceptor → List ℕ
first_set f = spread f (0 ∷ [])

-- all arcs on x, then all jumps
abbrev pub word_set : Acceptor → List ℕ → ℕ → List ℕ
word_set f set x = spread f (keep (arcs_to f set x) (upto f.nodes))

-- the same after some words
abbrev pub words_set : Acceptor → List ℕ → List ℕ → List ℕ
words_set f set [] = set
words_set f set (x ∷ w) = words_set f (word_set f set x) w

-- whether the acceptor passes w
abbrev pub passes : Acceptor → List ℕ → Bool
passes f w = any (nat_eq f.final) (words_set f (first_set f) w)

-- where a set moves on a word: an empty set is no state
abbrev pub subset_step : Acceptor → List ℕ → ℕ → Option (List ℕ)
subset_step f set x = elim (word_set f set x) [ [] ↦ none | n ∷ ns ↦ some (n ∷ ns) ]

-- a determinised acceptor: how many words and states there are, which states are final, and the arcs
pub record Determined : Type 0 where
  pub words : ℕ
  pub states : ℕ
  pub finals : List Bool
  pub arcs : List Arrow

-- how many bytes the determinised acceptor's file has
abbrev pub determined_length : Determined → ℕ
determined_length d = 11 + d.states + 6 * length d.arcs

-- d is the determinised acceptor of f: its states are the sets found from the first set, numbered in finding order
pub record Determinised (f : Acceptor) (d : Determined) : Type 0 where
  pub sets : List (List ℕ)
  pub numbered : Numbered (subset_step f) (upto f.words) (first_set f) sets d.arcs
  pub words_are : d.words ≡ f.words
  pub states_are : d.states ≡ length sets
  pub finals_are : d.finals ≡ map (λ set. any (nat_eq f.final) set) sets

-- the determinised acceptor passes w: its arcs lead over w from state 0 to a final state
pub record DeterminedPasses (d : Determined) (w : List ℕ) : Type 0 where
  pub last : ℕ
  pub leads : Leads d.arcs 0 w last
  pub final : get_elem? d.finals last ≡ some true

-- what holds of sets of nodes
pub record SubsetLaws (f : Acceptor) : Type 0 where
  -- the set after some words has just the nodes to which they lead
  pub set_is : (w : List ℕ) (n : ℕ) → Memᴰ n (words_set f (first_set f) w) ↔ Reads f 0 w n
  pub passes_is : (w : List ℕ) → (passes f w ≡ true) ↔ Passes f w
  -- the determinised acceptor has the same sentences, and there is one
  pub same_sentences : (d : Determined) → Determinised f d → (w : List ℕ) → DeterminedPasses d w ↔ Passes f w
  pub one : (d e : Determined) → Determinised f d → Determinised f e → d ≡ e
