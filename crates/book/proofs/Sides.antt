-- Right sides by their first and by their last symbol.
use Rattle.std.proofs.Common.{◌≡◌, ℕ, ◌+◌, ◌-◌, ◌<◌, ◌≤◌, Bool, List, [], ◌∷◌, length, get_or, take, drop, Decides, sym, refl, ap, ◌∙◌, subst, arith}
use Rattle.std.specs.List.{AllByRecursion}
use Rattle.std.proofs.lemmas.List.{take_at, take_more, length_push, take_all}
use Rattle.book.specs.Shapes.{LeftSide, RightSide}

pub left_decides : (w : ℕ) (xs : List ℕ) (r : Bool) → 1 ≤ length xs → Decides r (AllByRecursion (λ y. y < w) (take (length xs - 1) (drop 1 xs))) → Decides r (LeftSide w xs)
left_decides w [] r h d = absurd (omega arith)
left_decides w (x ∷ xs) r h d =
    let rest : take (length (x ∷ xs) - 1) xs ≡ xs = take_all _ xs (omega arith) in (
      (λ e y ys is. let t : xs ≡ ys = cc in subst (AllByRecursion (λ y. y < w)) (rest ∙ t) (d.0 e)),
      (λ f. d.1 (subst (AllByRecursion (λ y. y < w)) (sym rest) (f x xs refl))),
    )

pub right_decides : (w : ℕ) (xs : List ℕ) (r : Bool) → 1 ≤ length xs → Decides r (AllByRecursion (λ y. y < w) (take (length xs - 1) xs)) → Decides r (RightSide w xs)
right_decides w xs r h d = (
  (λ e y ys is. subst (AllByRecursion (λ y. y < w)) (ap (take (length xs - 1)) is ∙ take_at ys (y ∷ []) (length xs - 1) (omega (arith, ap length is, length_push ys y))) (d.0 e)),
  (λ f. d.1 (f (get_or xs (length xs - 1) 0) (take (length xs - 1) xs)
      (let step : (length xs - 1) + 1 ≡ length xs = omega arith in
      sym (take_all (length xs) xs (omega arith)) ∙ ap (λ n. take n xs) (sym step) ∙ take_more xs (length xs - 1) 0 (omega arith)))),
)

-- a side of one symbol at most is of both sorts

pub left_short : (w : ℕ) (xs : List ℕ) → length xs < 2 → LeftSide w xs
left_short w xs h x [] e = tt
left_short w xs h x (y ∷ ys) e = absurd (omega (arith, ap length e))

pub right_short : (w : ℕ) (xs : List ℕ) → length xs < 2 → RightSide w xs
right_short w xs h x [] e = tt
right_short w xs h x (y ∷ ys) e = absurd (omega (arith, ap length e, length_push (y ∷ ys) x))
