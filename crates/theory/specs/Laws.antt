-- What holds of every flattened acceptor.
use Rattle.std.specs.Prelude.{◌≡◌, ℕ, suc, ◌⊎◌, ◌↔◌, List, [], ◌∷◌, ◌++◌, length}
use Rattle.std.proofs.Math.Option.{none, some}
use mathlib.Core.List.{Memᴰ}
use Rattle.book.specs.Grammar.{Grammar, symbols, Derives, LeftLinear, RightLinear}
use Rattle.finding.specs.Numbered.{Arrow}
use Rattle.table.specs.Lists.{Ascending}
use Rattle.theory.specs.Items.{items, item_count, Dotted, Numbers, Sound}
use Rattle.theory.specs.Closure.{Closed, closure, carried, goto, Carried}
use Rattle.theory.specs.Machine.{Machine, MachineLaws}
use Rattle.theory.specs.Policies.{Meaning, FinerOn, PolicyLaws}
use Rattle.theory.specs.Unfolding.{Node, Unfolded, UnfoldingLaws}
use Rattle.theory.specs.Flattening.{Acceptor, Flattened, JumpLaws}
use Rattle.theory.specs.Sentences.{Passes}
use Rattle.theory.specs.Subsets.{InRange, SubsetLaws}

pub record Laws (g : Grammar) : Type 0 where
  -- no sentence that the grammar derives is lost
  pub nothing_lost : (m : Meaning) (f : Acceptor) → Flattened g m f → (w : List ℕ) → Derives g w → Passes f w
  -- a left-linear or right-linear grammar derives every sentence that is passed, under every policy
  pub exact : LeftLinear g ⊎ RightLinear g → (m : Meaning) (f : Acceptor) → Flattened g m f → (w : List ℕ) → Passes f w → Derives g w
  -- a finer policy passes no more
  pub finer : (m n : Meaning) → FinerOn g m n → (e f : Acceptor) → Flattened g m e → Flattened g n f → (w : List ℕ) → Passes e w → Passes f w
  -- the acceptor names only its own words and nodes
  pub in_range : (m : Meaning) (f : Acceptor) → Flattened g m f → InRange f
  -- a grammar has one acceptor under a policy
  pub one : (m : Meaning) (e f : Acceptor) → Flattened g m e → Flattened g m f → e ≡ f

-- the laws hold of every sound grammar
abbrev pub AllLaws : Type 0
AllLaws = (g : Grammar) → Sound g → Laws g

-- what holds of the parts: items, closure, machine, unfolding, jumps, policies and sets of nodes
pub record Foundations : Type 0 where
  -- items are numbered rule by rule, and the next number has the dot carried over
  pub item_numbers : (g : Grammar) → length (items g) ≡ item_count g
  pub item_at : (g : Grammar) (k a : ℕ) (l r : List ℕ) → Dotted g k a l r ↔ Numbers g k a l r
  pub item_next : (g : Grammar) (k a x : ℕ) (l r : List ℕ) → Dotted g k a l (x ∷ r) → Dotted g (suc k) a (l ++ (x ∷ [])) r
  -- the closure has just the closed items, in ascending order
  pub closure_members : (g : Grammar) (set : List ℕ) (k : ℕ) → Memᴰ k (closure g set) ↔ Closed g set k
  pub closure_ascends : (g : Grammar) (set : List ℕ) → Ascending (closure g set)
  -- a set moves on x to the closure of its carried items, where it has any
  pub goto_moves : (g : Grammar) (set : List ℕ) (x k : ℕ) → Carried g set x k → goto g set x ≡ some (closure g (carried (items g) set x))
  pub goto_stays : (g : Grammar) (set : List ℕ) (x : ℕ) → ((k : ℕ) → Carried g set x k → ⊥) → goto g set x ≡ none
  pub carried_members : (g : Grammar) (set : List ℕ) (x k : ℕ) → Memᴰ k (carried (items g) set x) ↔ Carried g set x k
  pub machine : (g : Grammar) → Sound g → (states : List (List ℕ)) (moves : List Arrow) → Machine g states moves → MachineLaws g states moves
  pub unfolding_laws : (g : Grammar) → Sound g → (states : List (List ℕ)) (moves : List Arrow) → Machine g states moves
      → (m : Meaning) (nodes : List Node) (arrows : List Arrow) → Unfolded m moves (symbols g) nodes arrows → UnfoldingLaws g m states moves nodes arrows
  pub jumps : (g : Grammar) → Sound g → (states : List (List ℕ)) (moves : List Arrow) → Machine g states moves
      → (m : Meaning) (nodes : List Node) (arrows : List Arrow) → Unfolded m moves (symbols g) nodes arrows → JumpLaws g states nodes arrows
  pub policies : (moves : List Arrow) → PolicyLaws moves
  pub subsets : (f : Acceptor) → InRange f → SubsetLaws f
