-- The text of numbers, lines and rows, put one after the other.
use Rattle.std.proofs.Common.{◌≡◌, ℕ, zero, suc, ◌+◌, ◌-◌, ◌*◌, ◌^◌, ◌<◌, ◌≤◌, List, [], ◌∷◌, ◌++◌, map, length, get_or, take, decimal, sym, refl, ap, ◌∙◌, append-nil, append_assoc, add-zero, add-one, subst, arith}
use Rattle.std.specs.List.{range_with_len, flat_map}
use Rattle.std.proofs.lemmas.List.{length-append, take_more, flat_map_more}
use Rattle.std.proofs.lemmas.List.FromFn.{map-range_with_len_more}
use Rattle.std.proofs.lemmas.List.Folds.{flat_map-map}
use Rattle.std.proofs.lemmas.Fmt.{length-decimal-le}
use Rattle.fields.specs.declared.output.Output.{Output}
use Rattle.fields.specs.Reading.{number_at, arc_in, arcs_from}
use Rattle.fields.specs.Putting.{Puts}
use Rattle.fields.proofs.Putting.{puts_then}
use Rattle.pga.specs.Reading.{row_numbers, rows_from, jump_in, jumps_from}
use Rattle.pga.specs.Listing.{next_number, part, line, arc_line, jump_line}

pub short_decimal : (n : ℕ) → n < 2 ^ 64 → length (decimal n) ≤ 20
short_decimal n h = length-decimal-le 20 n (omega arith) (omega arith) h

-- numbers, parted by blanks
abbrev pub parted : List ℕ → List ℕ
parted [] = []
parted (n ∷ ns) = decimal n ++ flat_map next_number ns

-- one number more
pub parted_more : (ns : List ℕ) (i d : ℕ) → i < length ns → parted (take (i + 1) ns) ≡ parted (take i ns) ++ part i (get_or ns i d)
parted_more [] i d h = absurd (omega arith)
parted_more (n ∷ ns) zero d h = append-nil (decimal n)
parted_more (n ∷ ns) (suc i) d h =
    ap (λ k. parted (take k (n ∷ ns))) (add-one (suc i)) ∙ ap (λ k. decimal n ++ flat_map next_number (take k ns)) (sym (add-one i))
    ∙ ap (λ l. decimal n ++ flat_map next_number l) (take_more ns i d (omega arith))
    ∙ ap (λ l. decimal n ++ l) (sym (flat_map_more next_number [] (take i ns) (get_or ns i d)))
    ∙ sym (append_assoc (decimal n) (flat_map next_number (take i ns)) (next_number (get_or ns i d)))

-- a line ends its numbers
pub parted_line : (ns : List ℕ) → parted ns ++ (10 ∷ []) ≡ line ns
parted_line [] = refl
parted_line (n ∷ ns) = refl

-- a row is put after others
pub row_puts : {A : Type 0} (text : A → List ℕ) (f : ℕ → A) (k : ℕ) (o p q : Output) → Puts o (flat_map text (map f (range_with_len 0 k))) p
    → Puts p (text (f k)) q → Puts o (flat_map text (map f (range_with_len 0 (k + 1)))) q
row_puts text f k o p q x y =
    subst (λ t. Puts o t q) (flat_map_more text [] (map f (range_with_len 0 k)) (f k) ∙ ap (flat_map text) (sym (map-range_with_len_more f 0 k k (omega arith))))
    (puts_then o p q (flat_map text (map f (range_with_len 0 k))) (text (f k)) x y)

-- a number is put after so many others
module _ (k n : ℕ) (bytes : List ℕ) (e : bytes ≡ decimal n) (o p : Output) where
  pub first_puts : k ≤ 0 → Puts o bytes p → Puts o (part k n) p
  first_puts h x =
      let z : k ≡ 0 = omega arith in
      subst (λ m. Puts o (part m n) p) (sym z) (subst (λ t. Puts o t p) e x)

  pub next_puts : (m : Output) → 0 < k → Puts o (32 ∷ []) m → Puts m bytes p → Puts o (part k n) p
  next_puts m h x y =
      let s : suc (k - 1) ≡ k = omega arith in
      subst (λ l. Puts o (part l n) p) s (subst (λ t. Puts o (32 ∷ t) p) e (puts_then o m p (32 ∷ []) bytes x y))

-- how long the numbers of a line are
length_next : (ns : List ℕ) (k : ℕ) → ((i : ℕ) → get_or ns i 0 < 2 ^ 64) → length (flat_map next_number (take k ns)) ≤ 21 * k
length_next ns zero fits = omega arith
length_next [] (suc k) fits = omega arith
length_next (n ∷ ns) (suc k) fits =
    omega (
      arith,
      length-append (next_number n) (flat_map next_number (take k ns)),
      short_decimal n (fits 0),
      length_next ns k (λ i. fits (suc i)),
    )

pub length_parted : (ns : List ℕ) (k : ℕ) → ((i : ℕ) → get_or ns i 0 < 2 ^ 64) → length (parted (take k ns)) ≤ 21 * k
length_parted ns zero fits = omega arith
length_parted [] (suc k) fits = omega arith
length_parted (n ∷ ns) (suc k) fits =
    omega (
      arith,
      length-append (decimal n) (flat_map next_number (take k ns)),
      short_decimal n (fits 0),
      length_next ns k (λ i. fits (suc i)),
    )

-- rows of two texts that are one
same_text : {A B : Type 0} (s : A → List ℕ) (t : B → List ℕ) (f : ℕ → A) (g : ℕ → B) → ((k : ℕ) → s (f k) ≡ t (g k)) → (xs : List ℕ)
    → flat_map s (map f xs) ≡ flat_map t (map g xs)
same_text s t f g each xs = flat_map-map s f xs ∙ (λ i. flat_map (λ x. each x i) xs) ∙ sym (flat_map-map t g xs)

module _ (bytes : List ℕ) (start n : ℕ) where
  -- rows of three numbers are arcs
  pub rows_arcs : flat_map line (rows_from bytes start 3 n) ≡ flat_map arc_line (arcs_from bytes start n)
  rows_arcs =
      same_text line arc_line (λ k. row_numbers bytes (start + 6 * k) 3) (λ k. arc_in bytes (start + 6 * k))
      (λ k. let at = start + 6 * k in
      ap (λ a. line (number_at bytes a ∷ (number_at bytes (at + 2) ∷ (number_at bytes (at + 4) ∷ [])))) (add-zero at))
      (range_with_len 0 n)

  -- rows of two are jumps
  pub rows_jumps : flat_map line (rows_from bytes start 2 n) ≡ flat_map jump_line (jumps_from bytes start n)
  rows_jumps =
      same_text line jump_line (λ k. row_numbers bytes (start + 4 * k) 2) (λ k. jump_in bytes (start + 4 * k))
      (λ k. let at = start + 4 * k in ap (λ a. line (number_at bytes a ∷ (number_at bytes (at + 2) ∷ []))) (add-zero at))
      (range_with_len 0 n)
