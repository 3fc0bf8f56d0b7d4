-- What every compiled file keeps: nothing lost, exact where it can be, and a finer policy passes no more.
use Rattle.std.specs.Prelude.{ℕ, ◌⊎◌, List}
use Rattle.book.specs.Grammar.{Grammar, Derives, LeftLinear, RightLinear}
use Rattle.theory.specs.Policies.{Meaning, FinerOn}
use Rattle.theory.specs.Flattening.{Acceptor, Flattened}
use Rattle.theory.specs.Sentences.{Passes}

pub record FileLaws (g : Grammar) (m : Meaning) (f : Acceptor) : Type 0 where
  -- every sentence that the book derives is a sentence of the file
  pub nothing_lost : (w : List ℕ) → Derives g w → Passes f w
  -- where the book is left-linear or right-linear, it derives every sentence of the file
  pub exact : LeftLinear g ⊎ RightLinear g → (w : List ℕ) → Passes f w → Derives g w
  -- each sentence of the file that a finer policy gives for this book is a sentence of this file
  pub finer : (n : Meaning) → FinerOn g n m → (e : Acceptor) → Flattened g n e → (w : List ℕ) → Passes e w → Passes f w
