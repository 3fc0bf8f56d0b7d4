-- Parts of bytes; and the acceptor that is read from a file is the file's.
use Rattle.std.proofs.Common.{◌≡◌, ℕ, ◌+◌, ◌-◌, ◌*◌, ◌/◌, ◌<◌, ◌≤◌, List, map, length, get_or, take, drop, sym, ap, ◌∙◌, subst, add_assoc, arith}
use Rattle.std.proofs.Math.Nat.{mul-le-mul_left}
use Rattle.std.specs.List.{range_with_len}
use Rattle.std.proofs.ByRecursion.{All-from_get_or}
use Rattle.std.proofs.lemmas.List.FromFn.{length-map-range_with_len, get_or-map-range_with_len}
use Rattle.std.proofs.lemmas.List.{length-drop, length-take-le, get_or-take, get_or-drop, same_lists}
use Rattle.theory.specs.Flattening.{Acceptor}
use Rattle.fields.specs.Reading.{number_at, arc_in, arcs_from}
use Rattle.pga.specs.Files.{IsFile}
use Rattle.pga.specs.Reading.{jump_in, jumps_from}
use Rattle.pga.proofs.Decoding.{file_decoded, file_framed}
use Rattle.acceptor.specs.Rows.{arcs_of, jumps_of}

-- lists made by functions that agree
pub made_same : {A : Type 0} (f g : ℕ → A) (n : ℕ) → ((k : ℕ) → k < n → f k ≡ g k) → map f (range_with_len 0 n) ≡ map g (range_with_len 0 n)
made_same f g n each =
    let l = length-map-range_with_len f 0 n in let m = length-map-range_with_len g 0 n in
    same_lists (map f (range_with_len 0 n)) (map g (range_with_len 0 n)) (l ∙ sym m)
    (λ k d h. let b : k < n = omega arith in
    get_or-map-range_with_len f 0 n k k d b (omega arith) ∙ each k b ∙ sym (get_or-map-range_with_len g 0 n k k d b (omega arith)))

-- the number at `at`, if the bytes go so far
abbrev pub Number : List ℕ → ℕ → ℕ → Type 0
Number bytes at n = at + 2 ≤ length bytes → n ≡ number_at bytes at

-- the bytes from `start` to `end`, if they go so far
abbrev pub Part : List ℕ → ℕ → ℕ → List ℕ → Type 0
Part bytes start end part = start ≤ end → end ≤ length bytes → part ≡ take (end - start) (drop start bytes)

-- ── what stands in a part of the bytes stands in the bytes ──

module _ (bytes part : List ℕ) (start m : ℕ) (is : part ≡ take m (drop start bytes)) where
  pub part_length : start + m ≤ length bytes → length part ≡ m
  part_length h = ap length is ∙ length-take-le m (drop start bytes) (let l = length-drop start bytes in omega arith)

  pub byte_in : (at : ℕ) → at < m → get_or part at 0 ≡ get_or bytes (start + at) 0
  byte_in at h = ap (λ p. get_or p at 0) is ∙ get_or-take m (drop start bytes) at 0 h ∙ get_or-drop start bytes at 0

  number_in : (at : ℕ) → at + 2 ≤ m → number_at part at ≡ number_at bytes (start + at)
  number_in at h =
      let e : start + (at + 1) ≡ start + at + 1 = omega arith in
      omega (arith, byte_in at (omega arith), byte_in (at + 1) (omega arith), ap (λ i. get_or bytes i 0) e)

  pub jump_in_part : (at : ℕ) → at + 4 ≤ m → jump_in part at ≡ jump_in bytes (start + at)
  jump_in_part at h =
      let x = number_in at (omega arith) in
      let y = number_in (at + 2) (omega arith) ∙ ap (number_at bytes) (sym (add_assoc start at 2)) in λ i. (x i, y i)

  pub arc_in_part : (at : ℕ) → at + 6 ≤ m → arc_in part at ≡ arc_in bytes (start + at)
  arc_in_part at h =
      let x = number_in at (omega arith) in
      let y = number_in (at + 2) (omega arith) ∙ ap (number_at bytes) (sym (add_assoc start at 2)) in
      let w = number_in (at + 4) (omega arith) ∙ ap (number_at bytes) (sym (add_assoc start at 4)) in λ i. (x i, y i, w i)

  -- rows of so many bytes, read one by one
  rows_in : {A : Type 0} (read : List ℕ → ℕ → A) (size n : ℕ) → m ≡ size * n → length part / size ≡ n
      → ((at : ℕ) → at + size ≤ m → read part at ≡ read bytes (start + at))
      → map (λ k. read part (0 + size * k)) (range_with_len 0 (length part / size)) ≡ map (λ k. read bytes (start + size * k)) (range_with_len 0 n)
  rows_in read size n wide few each =
      ap (λ l. map (λ k. read part (0 + size * k)) (range_with_len 0 l)) few
      ∙ made_same (λ k. read part (0 + size * k)) (λ k. read bytes (start + size * k)) n
      (λ k b. let z : 0 + size * k ≡ size * k = omega arith in
      let q : k + 1 ≤ n = omega arith in
      let l : size * (k + 1) ≤ size * n = mul-le-mul_left size q in
      ap (read part) z ∙ each (size * k) (omega arith))

  pub arcs_in : (n : ℕ) → m ≡ 6 * n → start + m ≤ length bytes → arcs_of part ≡ arcs_from bytes start n
  arcs_in n e h = let l = part_length h in rows_in arc_in 6 n e (omega arith) arc_in_part

  pub jumps_in : (n : ℕ) → m ≡ 4 * n → start + m ≤ length bytes → jumps_of part ≡ jumps_from bytes start n
  jumps_in n e h = let l = part_length h in rows_in jump_in 4 n e (omega arith) jump_in_part

-- what is read from the file of an acceptor: the numbers of its header, and its arcs and jumps
pub file_read : (bytes arcs jumps : List ℕ) (words nodes final n m : ℕ) → ((i : ℕ) → get_or bytes i 0 < 256)
    → Number bytes 5 words → Number bytes 7 nodes → Number bytes 9 final → Number bytes 11 n → Number bytes 13 m
    → Part bytes 15 (15 + 6 * n) arcs → Part bytes (15 + 6 * n) (15 + 6 * n + 4 * m) jumps → (a : Acceptor) → IsFile bytes a
    → ◌≡◌ {A = Acceptor} (record { words = words; nodes = nodes; final = final; arcs = arcs_of arcs; jumps = jumps_of jumps }) a
file_read bytes arcs jumps words nodes final n m bounded w o t e d p q a f =
    let long : length bytes ≡ 15 + 6 * number_at bytes 11 + 4 * number_at bytes 13 =
    subst (λ b. length b ≡ 15 + 6 * number_at b 11 + 4 * number_at b 13) (sym f.is) (file_framed a).long in
    let n-is : n ≡ number_at bytes 11 = e (omega arith) in
    let m-is : m ≡ number_at bytes 13 = d (omega arith) in
    let u = w (omega arith) in let v = o (omega arith) in let z = t (omega arith) in
    let x : arcs_of arcs ≡ arcs_from bytes 15 (number_at bytes 11) =
    arcs_in bytes arcs 15 _ (p (omega arith) (omega arith)) (number_at bytes 11) (omega arith) (omega arith) in
    let y : jumps_of jumps ≡ jumps_from bytes (15 + 6 * number_at bytes 11) (number_at bytes 13) =
    jumps_in bytes jumps (15 + 6 * n) _ (q (omega arith) (omega arith)) (number_at bytes 13) (omega arith) (omega arith)
    ∙ ap (λ k. jumps_from bytes (15 + 6 * k) (number_at bytes 13)) n-is in
    (λ i. record { words = u i; nodes = v i; final = z i; arcs = x i; jumps = y i })
    ∙ sym (file_decoded bytes a (All-from_get_or (λ b. b < 256) bytes 0 (λ i h. bounded i)) f.is)
