-- The 16-bit numbers of a list of bytes.
use Rattle.std.proofs.Common.{◌≡◌, ℕ, suc, ◌+◌, ◌-◌, ◌*◌, ◌/◌, ◌%◌, ◌<◌, List, [], ◌∷◌, ◌++◌, map, length, get_or, take, drop, sym, refl, ap, ◌∙◌, append_assoc, arith}
use borrow.Rule.Slice.PartMut.{put_mid}
use Rattle.std.specs.Int.{w16, from_le_bytes}
use Rattle.std.specs.List.{flat_map, AllByRecursion}
use Rattle.std.specs.Simd.{first_chunks}
use Rattle.std.proofs.lemmas.List.{length-append, length-take-le, take_at, take_more, flat_map_more}
use Rattle.book.specs.Files.{bytes_of}
use Rattle.book.specs.Reading.{numbers}

pub length_numbers : (bs : List ℕ) → length (numbers bs) ≡ length bs / 2
length_numbers [] = refl
length_numbers (low ∷ []) = refl
length_numbers (low ∷ (high ∷ rest)) = omega (arith, length_numbers rest)

-- the numbers are those of the pairs of bytes
pub numbers_pairs : (bs : List ℕ) → numbers bs ≡ map (from_le_bytes w16) (first_chunks 2 (length bs / 2) bs)
numbers_pairs [] = refl
numbers_pairs (low ∷ []) = refl
numbers_pairs (low ∷ (high ∷ rest)) =
    let e : suc (suc (length rest)) / 2 ≡ suc (length rest / 2) = omega arith in
    let v : low + 256 * high ≡ from_le_bytes w16 (low ∷ (high ∷ [])) = omega arith in
    rw e ((λ i. v i ∷ numbers_pairs rest i))

-- one number more is written
pub bytes_more : (ns out ys : List ℕ) (i : ℕ) → i < length ns → length out ≡ 2 * length ns → ys ≡ bytes_of (get_or ns i 0)
    → take (2 * i) out ≡ flat_map bytes_of (take i ns) → take (2 * (i + 1)) (put_mid (2 * i) (2 * i + 2 - 2 * i) out ys) ≡ flat_map bytes_of (take (i + 1) ns)
bytes_more ns out ys i h long y e =
    let rest : List ℕ = drop (2 * i + 2 - 2 * i) (drop (2 * i) out) in
    ap (take (2 * (i + 1))) (sym (append_assoc (take (2 * i) out) ys rest))
    ∙ take_at (take (2 * i) out ++ ys) rest (2 * (i + 1)) (omega (arith, length-append (take (2 * i) out) ys, length-take-le (2 * i) out (omega arith), ap length y))
    ∙ (λ j. e j ++ y j)
    ∙ flat_map_more bytes_of [] (take i ns) (get_or ns i 0)
    ∙ ap (flat_map bytes_of) (sym (take_more ns i 0 h))

-- bytes to numbers and back

pub bytes_numbers : (bs : List ℕ) → AllByRecursion (λ b. b < 256) bs → length bs % 2 ≡ 0 → flat_map bytes_of (numbers bs) ≡ bs
bytes_numbers [] a h = refl
bytes_numbers (low ∷ []) a h = absurd (omega arith)
bytes_numbers (low ∷ (high ∷ rest)) (p, (q, a)) h =
    let l : (low + 256 * high) % 256 ≡ low = omega arith in
    let u : (low + 256 * high) / 256 ≡ high = omega arith in
    let r = bytes_numbers rest a (omega arith) in
    cc

pub numbers_bytes : (ns : List ℕ) → numbers (flat_map bytes_of ns) ≡ ns
numbers_bytes [] = refl
numbers_bytes (n ∷ ns) =
    let e : n % 256 + 256 * (n / 256) ≡ n = omega arith in
    let r = numbers_bytes ns in cc

pub length_bytes : (ns : List ℕ) → length (flat_map bytes_of ns) ≡ 2 * length ns
length_bytes [] = refl
length_bytes (n ∷ ns) = omega (arith, length_bytes ns)
