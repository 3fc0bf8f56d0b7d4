-- The characteristic machine of a grammar: its states are sets of items, numbered in finding order.
use Rattle.std.specs.Prelude.{◌≡◌, ℕ, List, [], ◌∷◌, ◌++◌}
use Rattle.std.proofs.Math.Option.{some}
use mathlib.Core.List.{Memᴰ}
use Rattle.std.proofs.Math.ListN.{get_elem?}
use Rattle.book.specs.Grammar.{Grammar, symbols, Rewrites}
use Rattle.finding.specs.Numbered.{Arrow, upto, Numbered}
use Rattle.theory.specs.Items.{Dotted}
use Rattle.theory.specs.Closure.{goto, initial}

-- the states are all that are found from the closure of S' → · start, and the moves go where goto says
abbrev pub Machine : Grammar → List (List ℕ) → List Arrow → Type 0
Machine g states moves = Numbered (goto g) (upto (symbols g)) (initial g) states moves

-- state number s has item number k
pub record HasItem (states : List (List ℕ)) (s k : ℕ) : Type 0 where
  pub set : List ℕ
  pub at : get_elem? states s ≡ some set
  pub member : Memᴰ k set

-- state number s holds the item a → l · r
pub record Holds (g : Grammar) (states : List (List ℕ)) (s a : ℕ) (l r : List ℕ) : Type 0 where
  pub number : ℕ
  pub has : HasItem states s number
  pub is : Dotted g number a l r

-- the final state has the item S' → start ·
abbrev pub FinalState : List (List ℕ) → ℕ → Type 0
FinalState states s = HasItem states s 1

-- what the flattening relies on
pub record MachineLaws (g : Grammar) (states : List (List ℕ)) (moves : List Arrow) : Type 0 where
  -- state 0 is the closure of S' → · start, and no move enters it
  pub zeroth : get_elem? states 0 ≡ some (initial g)
  pub unentered : (q x : ℕ) → Memᴰ (q, x, 0) moves → ⊥
  -- a name after a dot has its rules in the state
  pub closed : (s a c : ℕ) (l r side : List ℕ) → Holds g states s a l (c ∷ r) → Rewrites g c side → Holds g states s c [] side
  -- a symbol after a dot has its move, which carries the dot over it, and no other symbol has a move
  pub moves_when : (s x a : ℕ) (l r : List ℕ) → Holds g states s a l (x ∷ r) → (p : ℕ) × Memᴰ (s, x, p) moves
  pub carries : (s x p a : ℕ) (l r : List ℕ) → Holds g states s a l (x ∷ r) → Memᴰ (s, x, p) moves → Holds g states p a (l ++ (x ∷ [])) r
  pub moves_only : (s x p : ℕ) → Memᴰ (s, x, p) moves → (a : ℕ) × (l : List ℕ) × (r : List ℕ) × Holds g states s a l (x ∷ r)
  pub move_one : (s x p q : ℕ) → Memᴰ (s, x, p) moves → Memᴰ (s, x, q) moves → p ≡ q
  -- there is one final state, entered only from state 0 on the start name
  pub final : (s : ℕ) × Memᴰ (0, g.start, s) moves × FinalState states s
  pub final_one : (s t : ℕ) → FinalState states s → FinalState states t → s ≡ t
  pub final_entered : (q x s : ℕ) → FinalState states s → Memᴰ (q, x, s) moves → (q ≡ 0) × (x ≡ g.start)
  -- a grammar has one machine
  pub one : (sets : List (List ℕ)) (arrows : List Arrow) → Machine g sets arrows → (states ≡ sets) × (moves ≡ arrows)
