-- The bytes of rows of numbers, and of arcs.
use Rattle.std.proofs.Common.{◌≡◌, ℕ, ◌+◌, ◌*◌, ◌<◌, Bool, true, false, cond, List, [], ◌∷◌, ◌++◌, map, length, get_or, take, sym, refl, ap, ◌∙◌, subst, append-nil, arith}
use Rattle.std.specs.List.{filter, flat_map}
use Rattle.std.proofs.lemmas.List.{map-append}
use Rattle.std.proofs.lemmas.List.Elements.{filter_more}
use Rattle.std.proofs.lemmas.Grind.{flat_map-append}
use Rattle.book.specs.Files.{bytes_of}
use Rattle.book.proofs.Numbers.{length_bytes}
use Rattle.finding.specs.declared.moves.Move.{Move}
use Rattle.finding.specs.Numbered.{Arrow}
use Rattle.finding.specs.Finding.{arrow}
use Rattle.fields.specs.Arcs.{arc_numbers}
use Rattle.fields.specs.declared.output.Output.{Output}
use Rattle.fields.specs.Putting.{Puts}
use Rattle.fields.proofs.Lists.{all_same}
use Rattle.fields.proofs.Putting.{puts_then}

-- the bytes of arcs
abbrev pub arc_bytes : List Arrow → List ℕ
arc_bytes ms = flat_map bytes_of (flat_map arc_numbers ms)

length_arcs : (ms : List Arrow) → length (flat_map arc_numbers ms) ≡ 3 * length ms
length_arcs [] = refl
length_arcs (m ∷ ms) = omega (arith, length_arcs ms)

pub length_arc_bytes : (ms : List Arrow) → length (arc_bytes ms) ≡ 6 * length ms
length_arc_bytes ms = omega (arith, length_bytes (flat_map arc_numbers ms), length_arcs ms)

-- one row more, by whatever numbers it has
module _ {A : Type 0} (row : A → List ℕ) (xs : List A) (x : A) where
  row_push : flat_map bytes_of (flat_map row (xs ++ (x ∷ []))) ≡ flat_map bytes_of (flat_map row xs) ++ flat_map bytes_of (row x)
  row_push =
      ap (flat_map bytes_of) (flat_map-append row xs (x ∷ []) ∙ ap (λ l. flat_map row xs ++ l) (append-nil (row x)))
      ∙ flat_map-append bytes_of (flat_map row xs) (row x)

  -- it is put after the others
  pub puts_row : (before middle after : Output) (ys : List A) → ys ≡ xs ++ (x ∷ []) → Puts before (flat_map bytes_of (flat_map row xs)) middle
      → Puts middle (flat_map bytes_of (row x)) after → Puts before (flat_map bytes_of (flat_map row ys)) after
  puts_row before middle after ys e p q =
      subst (λ t. Puts before t after) (sym (ap (λ l. flat_map bytes_of (flat_map row l)) e ∙ row_push)) (puts_then before middle after _ _ p q)

-- a move, put where it is wanted
module _ {N : Type 0} (value : N → ℕ) (wants : Move N → Bool) (ms : List (Move N)) (i : ℕ) (m : Move N) (below : i < length ms) (is : m ≡ get_or ms i m)
    (before middle : Output) (so : Puts before (arc_bytes (map (arrow value) (filter wants (take i ms)))) middle) where
  pub puts_wanted : (after : Output) → wants m ≡ true → Puts middle (flat_map bytes_of (arc_numbers (arrow value m))) after
      → Puts before (arc_bytes (map (arrow value) (filter wants (take (i + 1) ms)))) after
  puts_wanted after e here =
      let t : wants (get_or ms i m) ≡ true = ap wants (sym is) ∙ e in
      let more : filter wants (take (i + 1) ms) ≡ filter wants (take i ms) ++ (m ∷ []) =
      filter_more wants ms i m below ∙ (λ j. filter wants (take i ms) ++ cond (t j) (sym is j ∷ []) []) in
      puts_row arc_numbers (map (arrow value) (filter wants (take i ms))) (arrow value m) before middle after _
      (ap (map (arrow value)) more ∙ map-append (arrow value) (filter wants (take i ms)) (m ∷ [])) so here

  pub puts_unwanted : wants m ≡ false → Puts before (arc_bytes (map (arrow value) (filter wants (take (i + 1) ms)))) middle
  puts_unwanted e =
      let t : wants (get_or ms i m) ≡ false = ap wants (sym is) ∙ e in
      let same : filter wants (take (i + 1) ms) ≡ filter wants (take i ms) =
      filter_more wants ms i m below ∙ (λ j. filter wants (take i ms) ++ cond (t j) (get_or ms i m ∷ []) []) ∙ append-nil (filter wants (take i ms)) in
      subst (λ l. Puts before (arc_bytes (map (arrow value) l)) middle) (sym same) so

-- as many arcs, and then the rest, are equal where their numbers are
pub same_arcs : (ms ns : List Arrow) (xs ys : List ℕ) → length ms ≡ length ns → flat_map arc_numbers ms ++ xs ≡ flat_map arc_numbers ns ++ ys
    → (ms ≡ ns) × (xs ≡ ys)
same_arcs =
    all_same arc_numbers
    (λ m n us vs e. let p : m.0 ≡ n.0 = cc in let q : m.1 ≡ n.1 = cc in let r : m.2 ≡ n.2 = cc in ((λ i. (p i, q i, r i)), cc))
