-- Policies by their meaning: which stacks of the machine share a class.
use Rattle.std.specs.Prelude.{◌≡◌, ℕ, ◌+◌, true, false, List, [], ◌∷◌, take, ◌==◌}
use mathlib.Core.List.{Memᴰ}
use Rattle.book.specs.Grammar.{Grammar}
use Rattle.finding.specs.Numbered.{Arrow}
use Rattle.theory.specs.Machine.{Machine}

-- a class of stacks: a list of states, or a pair of classes
pub data Class : Type 0 where
  states : List ℕ → Class
  pair : Class → Class → Class

-- the states that a class lists
abbrev pub listed : Class → List ℕ
listed (states ss) = ss
listed (pair c d) = []

-- the halves of a pair
abbrev pub left_class : Class → Class
left_class (states ss) = states ss
left_class (pair c d) = c

abbrev pub right_class : Class → Class
right_class (states ss) = states ss
right_class (pair c d) = d

-- the class of the empty stack, and the next class, settled by the class, the state left, the symbol and the state reached
pub record Meaning : Type 0 where
  pub first : Class
  pub next : Class → ℕ → ℕ → ℕ → Class

-- a single class
abbrev pub one_class : Meaning
one_class = record { first = states []; next = λ c left symbol reached. states [] }

-- a list of states cut after t where t is on it, else with t appended
abbrev pub cut_after : List ℕ → ℕ → List ℕ
cut_after [] t = t ∷ []
cut_after (s ∷ ss) t = elim (s == t) [ true ↦ s ∷ [] | false ↦ s ∷ cut_after ss t ]

-- the states on the way from state 0, loops cut out
abbrev pub path : Meaning
path = record { first = states (0 ∷ []); next = λ c left symbol reached. states (cut_after (listed c) reached) }

-- the last k states left, the newest first; fewer for a shorter stack
abbrev pub last : ℕ → Meaning
last k = record { first = states []; next = λ c left symbol reached. states (take k (left ∷ listed c)) }

-- the classes of two meanings side by side
abbrev pub both : Meaning → Meaning → Meaning
both m n =
    record {
      first = pair m.first n.first;
      next = λ c left symbol reached. pair (m.next (left_class c) left symbol reached) (n.next (right_class c) left symbol reached);
    }

-- a stack of (state left, symbol) pairs, the newest first, leads from state 0 to a state and has a class
pub data Stacked (moves : List Arrow) (m : Meaning) : List (ℕ × ℕ) → ℕ → Class → Type 0 where
  empty : Stacked moves m [] 0 m.first
  push : {stack : List (ℕ × ℕ)} {s x t : ℕ} {c : Class} → Stacked moves m stack s c → Memᴰ (s, x, t) moves → Stacked moves m ((s, x) ∷ stack) t (m.next c s x t)

-- two stacks at one state that share the class of m share the class of n
abbrev pub Finer : List Arrow → Meaning → Meaning → Type 0
Finer moves m n =
    (σ τ : List (ℕ × ℕ)) (s : ℕ) (c d e : Class) → Stacked moves m σ s c → Stacked moves m τ s c → Stacked moves n σ s d → Stacked moves n τ s e → d ≡ e

-- the same over the machine of a grammar
abbrev pub FinerOn : Grammar → Meaning → Meaning → Type 0
FinerOn g m n = (sets : List (List ℕ)) (moves : List Arrow) → Machine g sets moves → Finer moves m n

-- how the meanings compare over the moves of a machine
pub record PolicyLaws (moves : List Arrow) : Type 0 where
  pub itself : (m : Meaning) → Finer moves m m
  pub chain : (k m n : Meaning) → Finer moves k m → Finer moves m n → Finer moves k n
  -- every meaning is finer than one class
  pub one_class_coarsest : (m : Meaning) → Finer moves m one_class
  -- a pair is finer than each half
  pub both_left : (m n : Meaning) → Finer moves (both m n) m
  pub both_right : (m n : Meaning) → Finer moves (both m n) n
  -- more states kept are finer
  pub last_longer : (k : ℕ) → Finer moves (last (k + 1)) (last k)

-- the class after reaching some states one after another, whatever was left and read
abbrev pub arrivals : Meaning → Class → List ℕ → Class
arrivals m c [] = c
arrivals m c (t ∷ ts) = arrivals m (m.next c 0 0 t) ts
