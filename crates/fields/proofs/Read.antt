-- Bytes are those of the numbers and arcs that are read off them.
use Rattle.std.proofs.Common.{◌≡◌, ℕ, zero, suc, ◌+◌, ◌*◌, ◌/◌, ◌%◌, ◌<◌, ◌≤◌, List, [], ◌∷◌, ◌++◌, map, length, get_or, take, drop, sym, ap, ◌∙◌, append-nil, append_assoc, mul-add, add-one, arith}
use Rattle.std.specs.List.{flat_map, AllByRecursion, range_with_len}
use Rattle.std.proofs.lemmas.List.{take-append-drop, drop_all, drop_more, flat_map_more}
use Rattle.std.proofs.ByRecursion.{All-get_or}
use Rattle.std.proofs.lemmas.List.FromFn.{map-range_with_len_more}
use Rattle.book.specs.Files.{bytes_of}
use Rattle.fields.specs.Arcs.{arc_numbers}
use Rattle.fields.specs.Reading.{number_at, arc_in, arcs_from}
use Rattle.fields.proofs.Lists.{joined_joined}
use Rattle.fields.proofs.Arcs.{arc_bytes}

-- rows of one width, each of which is read in its place
module _ (bytes : List ℕ) {A : Type 0} (text : A → List ℕ) (made : ℕ → A) (start width : ℕ) where
  pub rows_read : (n : ℕ) → ((k : ℕ) → k < n → drop (start + width * k) bytes ≡ text (made k) ++ drop (start + width * k + width) bytes)
      → drop start bytes ≡ flat_map text (map made (range_with_len 0 n)) ++ drop (start + width * n) bytes
  rows_read zero each = ap (λ m. drop m bytes) (omega arith)
  rows_read (suc n) each =
      let before = flat_map text (map made (range_with_len 0 n)) in
      let e : start + width * n + width ≡ start + width * suc n = omega (arith, mul-add width n 1, ap (λ m. width * m) (add-one n)) in
      let more : before ++ text (made n) ≡ flat_map text (map made (range_with_len 0 (suc n))) =
      flat_map_more text [] (map made (range_with_len 0 n)) (made n) ∙ ap (flat_map text) (sym (map-range_with_len_more made 0 n n (omega arith)))
      ∙ ap (λ m. flat_map text (map made (range_with_len 0 m))) (add-one n) in
      rows_read n (λ k h. each k (omega arith))
      ∙ ap (λ l. before ++ l) (each n (omega arith) ∙ ap (λ m. text (made n) ++ drop m bytes) e)
      ∙ sym (append_assoc before (text (made n)) (drop (start + width * suc n) bytes))
      ∙ ap (λ l. l ++ drop (start + width * suc n) bytes) more

-- bytes are their parts, each of which is read where the one before it ends
pub parts_read : (bytes mark header one two : List ℕ) (m p q r : ℕ) → take m bytes ≡ mark → drop m bytes ≡ header ++ drop p bytes
    → drop p bytes ≡ one ++ drop q bytes → drop q bytes ≡ two ++ drop r bytes → length bytes ≤ r → bytes ≡ mark ++ (header ++ (one ++ two))
parts_read bytes mark header one two m p q r a b c d h =
    sym (take-append-drop m bytes) ∙ ap (λ l. l ++ drop m bytes) a
    ∙ ap (λ l. mark ++ l)
    (b ∙ ap (λ l. header ++ l) (c ∙ ap (λ l. one ++ l) (d ∙ ap (λ l. two ++ l) (drop_all r bytes h) ∙ append-nil two)))

module _ (bytes : List ℕ) (small : AllByRecursion (λ b. b < 256) bytes) where
  number_read : (at : ℕ) → at + 2 ≤ length bytes → drop at bytes ≡ bytes_of (number_at bytes at) ++ drop (at + 2) bytes
  number_read at h =
      let low : get_or bytes at 0 < 256 = All-get_or (λ b. b < 256) bytes at 0 (omega arith) small in
      let high : get_or bytes (at + 1) 0 < 256 = All-get_or (λ b. b < 256) bytes (at + 1) 0 (omega arith) small in
      let l : get_or bytes at 0 ≡ number_at bytes at % 256 = omega arith in
      let u : get_or bytes (at + 1) 0 ≡ number_at bytes at / 256 = omega arith in
      let e : at + 1 + 1 ≡ at + 2 = omega arith in
      drop_more bytes at 0 (omega arith) ∙ ap (λ t. get_or bytes at 0 ∷ t) (drop_more bytes (at + 1) 0 (omega arith))
      ∙ (λ i. l i ∷ (u i ∷ drop (e i) bytes))

  -- two numbers
  pub two_read : (at : ℕ) → at + 4 ≤ length bytes
      → drop at bytes ≡ flat_map bytes_of (number_at bytes at ∷ (number_at bytes (at + 2) ∷ [])) ++ drop (at + 4) bytes
  two_read at h =
      let e : at + 2 + 2 ≡ at + 4 = omega arith in
      number_read at (omega arith)
      ∙ ap (λ l. bytes_of (number_at bytes at) ++ l)
      (number_read (at + 2) (omega arith) ∙ ap (λ m. bytes_of (number_at bytes (at + 2)) ++ drop m bytes) e)

  -- three numbers
  pub arc_read : (at : ℕ) → at + 6 ≤ length bytes → drop at bytes ≡ flat_map bytes_of (arc_numbers (arc_in bytes at)) ++ drop (at + 6) bytes
  arc_read at h =
      let e : at + 4 + 2 ≡ at + 6 = omega arith in
      two_read at (omega arith)
      ∙ ap (λ l. flat_map bytes_of (number_at bytes at ∷ (number_at bytes (at + 2) ∷ [])) ++ l)
      (number_read (at + 4) (omega arith) ∙ ap (λ m. bytes_of (number_at bytes (at + 4)) ++ drop m bytes) e)

  pub arcs_read : (start n : ℕ) → start + 6 * n ≤ length bytes → drop start bytes ≡ arc_bytes (arcs_from bytes start n) ++ drop (start + 6 * n) bytes
  arcs_read start n h =
      rows_read bytes (λ m. flat_map bytes_of (arc_numbers m)) (λ k. arc_in bytes (start + 6 * k)) start 6 n (λ k l. arc_read (start + 6 * k) (omega arith))
      ∙ ap (λ l. l ++ drop (start + 6 * n) bytes) (joined_joined bytes_of arc_numbers (arcs_from bytes start n))
