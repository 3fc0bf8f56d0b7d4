-- The derived test of spellings decides whether they are one.
use Rattle.std.proofs.Common.{◌≡◌, ℕ, Bool, ◌&&◌, nat_eq, List, ◌++◌, length, take, drop, Decides, sym, ap, ◌∙◌, eq-eqb, eqb-true}
use lib.Pointwise.{pointwise, bytes_decides}
use Rattle.std.proofs.Math.Seq.{take-append_seam}
use Rattle.std.proofs.lemmas.Bool.{and_parts, and_from}
use Rattle.lexicon.specs.Padding.{zeros}

module _ (x y : List ℕ) where
  abbrev in_array : List ℕ → List ℕ
  in_array l = l ++ drop (length l) zeros

  -- arrays that are one hold one spelling, if the lengths are one
  same_spelling : in_array x ≡ in_array y → length x ≡ length y → x ≡ y
  same_spelling e l =
      sym (take-append_seam x (drop (length x) zeros)) ∙ (λ i. take (l i) (e i)) ∙ take-append_seam y (drop (length y) zeros)

  pub spelling_exact : (r : Bool) → r ≡ (pointwise nat_eq (in_array x) (in_array y) && nat_eq (length x) (length y)) → Decides r (x ≡ y)
  spelling_exact r e =
      let d = bytes_decides (in_array x) (in_array y) in (
        λ t. let p = and_parts (pointwise nat_eq (in_array x) (in_array y)) (nat_eq (length x) (length y)) (sym e ∙ t) in
            same_spelling (d.0 p.0) (eqb-true (length x) (length y) p.1),
        λ s. e ∙ and_from (pointwise nat_eq (in_array x) (in_array y)) (nat_eq (length x) (length y)) (d.1 (ap in_array s)) (eq-eqb (length x) (length y) (ap length s)),
      )
