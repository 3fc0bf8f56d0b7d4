-- Rows of bytes as chunks, and how many of them come before a key.
use Rattle.std.proofs.Common.{◌≡◌, ℕ, zero, suc, ◌+◌, ◌*◌, ◌/◌, ◌<◌, ◌≤◌, true, false, List, [], map, length, get_or, take, drop, Decides, sym, refl, ap, ◌∙◌, subst, ⊎_elim, arith}
use Rattle.std.specs.List.{range_with_len}
use Rattle.std.specs.List.Sorted.{IsPartitionedBy, IsPartitionPoint}
use Rattle.std.specs.Simd.{first_chunks}
use Rattle.std.proofs.lemmas.List.{drop-drop}
use Rattle.std.proofs.lemmas.Simd.{map-map}
use Rattle.std.proofs.lemmas.List.FromFn.{length-map-range_with_len}
use Rattle.std.proofs.Math.Nat.{mul-le-mul_left}
use Rattle.std.proofs.lemmas.Bool.{cases_lt, false≢true}
use Rattle.std.proofs.lemmas.Bool.Decides.{Decides-ltb, Decides-eqb, Decides-and, Decides-or}
use Rattle.table.specs.Lists.{StandsAt, InOrder}
use Rattle.table.proofs.Lists.{stands_below, stands_same}
use Rattle.finding.specs.Laws.{Rises}
use Rattle.fields.specs.Reading.{arc_in}
use Rattle.pga.specs.Reading.{jump_in}
use Rattle.acceptor.specs.Rising.{less, Less, Parted}
use Rattle.acceptor.specs.Rows.{arcs_of, keys_of, arc_key}
use Rattle.acceptor.proofs.Halving.{less_trans}
use Rattle.acceptor.proofs.Opening.{jump_in_part, arc_in_part}
use Rattle.acceptor.proofs.Standing.{made_stands, arc_stands, keys_rise}

-- the test of the order decides it
less_decides : (a b : ℕ × ℕ) → Decides (less a b) (Less a b)
less_decides a b = Decides-or _ _ (Decides-ltb a.0 b.0) (Decides-and _ _ (Decides-eqb a.0 b.0) (Decides-ltb a.1 b.1))

-- the chunk of number k
chunk_at : (n m k : ℕ) (xs d : List ℕ) → k < m → get_or (first_chunks n m xs) k d ≡ take n (drop (n * k) xs)
chunk_at n zero k xs d h = absurd (omega arith)
chunk_at n (suc m) zero xs d h = let z : 0 ≡ n * 0 = omega arith in ap (λ j. take n (drop j xs)) z
chunk_at n (suc m) (suc k) xs d h =
    let e : n + n * k ≡ n * suc k = omega arith in
    chunk_at n m k (drop n xs) d (omega arith) ∙ ap (take n) (drop-drop (n * k) n xs ∙ ap (λ j. drop j xs) e)

length_chunks : (n m : ℕ) (xs : List ℕ) → length (first_chunks n m xs) ≡ m
length_chunks n zero xs = refl
length_chunks n (suc m) xs = ap suc (length_chunks n m (drop n xs))

module _ (size : ℕ) (bytes : List ℕ) where
  pub keys_length : length (keys_of size bytes) ≡ length bytes / size
  keys_length = length-map-range_with_len (λ k. jump_in bytes (0 + size * k)) 0 (length bytes / size)

  pub key_stands : (k : ℕ) → k < length bytes / size → StandsAt (keys_of size bytes) k (jump_in bytes (size * k))
  key_stands k h =
      let z : 0 + size * k ≡ size * k = omega arith in
      subst (λ at. StandsAt (keys_of size bytes) k (jump_in bytes at)) z (made_stands (λ k. jump_in bytes (0 + size * k)) (length bytes / size) k h)

-- a row lies within the bytes
pub row_fits : (size : ℕ) (bytes : List ℕ) (k : ℕ) → 4 ≤ size → k < length (keys_of size bytes) → size * k + size ≤ length bytes
row_fits size bytes k wide h =
    let q : k + 1 ≤ length bytes / size = omega (arith, keys_length size bytes) in
    let m : size * (k + 1) ≤ size * (length bytes / size) = mul-le-mul_left size q in
    omega arith

module _ (size : ℕ) (wide : 4 ≤ size) (bytes : List ℕ) where
  -- the key of a chunk
  chunk_key : (k : ℕ) (d : List ℕ) → k < length bytes / size → jump_in (get_or (first_chunks size (length bytes / size) bytes) k d) 0 ≡ jump_in bytes (size * k)
  chunk_key k d h =
      let z : size * k + 0 ≡ size * k = omega arith in
      jump_in_part bytes (get_or (first_chunks size (length bytes / size) bytes) k d) (size * k) size (chunk_at size (length bytes / size) k bytes d h) 0 (omega arith)
      ∙ ap (jump_in bytes) z

  module _ (rising : InOrder Less (keys_of size bytes)) (key : ℕ × ℕ) where
    -- a chunk before the key comes after no other
    pub chunks_parted : IsPartitionedBy (λ row. less (jump_in row 0) key) (first_chunks size (length bytes / size) bytes)
    chunks_parted i j d l h t =
        let m = length_chunks size (length bytes / size) bytes in
        let b : j < length bytes / size = omega arith in
        let a : i < length bytes / size = omega arith in
        let later : Less (jump_in bytes (size * j)) key = (less_decides _ key).0 (subst (λ x. less x key ≡ true) (chunk_key j d b) t) in
        let first : Less (jump_in bytes (size * i)) key =
        ⊎_elim (λ n. less_trans _ _ key (rising i j _ _ n (key_stands size bytes i a) (key_stands size bytes j b)) later)
        (λ n. let e : j ≡ i = omega arith in subst (λ k. Less (jump_in bytes (size * k)) key) e later) (cases_lt i j) in
        subst (λ x. less x key ≡ true) (sym (chunk_key i d a)) ((less_decides _ key).1 first)

    -- where the chunks part, so do the keys
    pub keys_parted : (n : ℕ) → n ≤ length bytes / size
        → IsPartitionPoint (λ row. less (jump_in row 0) key ≡ true) (λ row. less (jump_in row 0) key ≡ false) (first_chunks size (length bytes / size) bytes) n
        → Parted (keys_of size bytes) key n
    keys_parted n few p =
        record {
          front = λ k t h s.
              let b : k < length bytes / size = omega arith in
              subst (λ x. Less x key) (stands_same (keys_of size bytes) k _ t (key_stands size bytes k b) s)
              ((less_decides _ key).0 (subst (λ x. less x key ≡ true) (chunk_key k [] b) (p.0 k [] (omega arith) h)));
          rest = λ k t h s l.
              let m = keys_length size bytes in let q = stands_below (keys_of size bytes) k t s in
              let r = length_chunks size (length bytes / size) bytes in
              let b : k < length bytes / size = omega arith in
              let no = subst (λ x. less x key ≡ false) (chunk_key k [] b) (p.1 k [] h (omega arith)) in
              let yes = (less_decides _ key).1 (subst (λ x. Less x key) (stands_same (keys_of size bytes) k t _ s (key_stands size bytes k b)) l) in
              false≢true (sym no ∙ yes);
        }

-- the keys of arcs
arc_keys : (bytes : List ℕ) → keys_of 6 bytes ≡ map arc_key (arcs_of bytes)
arc_keys bytes = sym (map-map arc_key (λ k. arc_in bytes (0 + 6 * k)) (range_with_len 0 (length bytes / 6)))

pub arc_parted : (bytes : List ℕ) {key : ℕ × ℕ} {n : ℕ} → (InOrder Less (keys_of 6 bytes) → Parted (keys_of 6 bytes) key n) → InOrder Rises (arcs_of bytes)
    → Parted (map arc_key (arcs_of bytes)) key n
arc_parted bytes {key} {n} f o =
    subst (λ ks. Parted ks key n) (arc_keys bytes) (f (subst (InOrder Less) (sym (arc_keys bytes)) (keys_rise (arcs_of bytes) o)))

-- the arc in the chunk of number n
pub row_stands : (bytes : List ℕ) (rows : List (List ℕ)) (n : ℕ) (row : List ℕ) → rows ≡ first_chunks 6 (length bytes / 6) bytes → n < length rows → row ≡ get_or rows n row
    → StandsAt (arcs_of bytes) n (arc_in row 0)
row_stands bytes rows n row front few at =
    let b : n < length bytes / 6 = omega (arith, ap length front, length_chunks 6 (length bytes / 6) bytes) in
    let is : row ≡ take 6 (drop (6 * n) bytes) = at ∙ ap (λ cs. get_or cs n row) front ∙ chunk_at 6 (length bytes / 6) n bytes row b in
    let z : 6 * n + 0 ≡ 6 * n = omega arith in
    subst (StandsAt (arcs_of bytes) n) (sym (arc_in_part bytes row (6 * n) 6 is 0 (omega arith) ∙ ap (arc_in bytes) z)) (arc_stands bytes n b)
