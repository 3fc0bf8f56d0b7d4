-- Counting the moves on words.
use Rattle.std.proofs.Common.{◌≡◌, ℕ, ◌+◌, Bool, true, false, cond, ltb, List, ◌∷◌, length, refl, arith}
use Rattle.std.specs.List.{count_by}
use Rattle.std.proofs.lemmas.List.Recursion.{is_count_by}
use Rattle.table.specs.declared.numbers.NodeNo.{NodeNo}
use Rattle.finding.specs.declared.moves.Move.{Move}
use Rattle.theory.specs.Flattening.{word_moves}
use Rattle.flattening.specs.Walks.{arrows}

pub words_counted : (words : ℕ) (moves : List (Move NodeNo)) → length (word_moves words (arrows moves)) ≡ count_by (λ m. ltb m.symbol words) moves
words_counted words = is_count_by (λ ms. length (word_moves words (arrows ms))) (λ m. ltb m.symbol words) refl (λ m ms. one (ltb m.symbol words) _ _)
  where
    one : {A : Type 0} (b : Bool) (x : A) (xs : List A) → length {A = A} (elim b [ true ↦ x ∷ xs | false ↦ xs ]) ≡ cond b (1 + length xs) (length xs)
    one true x xs = omega arith
    one false x xs = refl
