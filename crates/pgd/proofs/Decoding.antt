-- A file and the determinised acceptor that is read off its bytes.
use Rattle.std.proofs.Common.{◌≡◌, ℕ, zero, suc, ◌+◌, ◌*◌, ◌<◌, ◌≤◌, Bool, true, false, eqb, List, [], ◌∷◌, ◌++◌, map, length, get_or, take, drop, codes, sym, refl, ap, ◌∙◌, subst, arith}
use Rattle.std.specs.List.{flat_map, AllByRecursion}
use Rattle.std.proofs.lemmas.List.{drop_more, length-map, get_or_append_left, get_or-append-add}
use Rattle.std.proofs.lemmas.List.FromFn.{length-map-range_with_len}
use Rattle.std.proofs.ByRecursion.{All-get_or}
use Rattle.std.proofs.lemmas.List.Concat.{flat_map_single}
use Rattle.book.specs.Files.{bytes_of}
use Rattle.book.specs.Reading.{numbers}
use Rattle.book.proofs.Numbers.{numbers_bytes}
use Rattle.theory.specs.Subsets.{Determined}
use Rattle.fields.specs.Arcs.{arc_numbers}
use Rattle.fields.specs.Reading.{number_at, arc_in}
use Rattle.fields.proofs.Lists.{all_same}
use Rattle.fields.proofs.Arcs.{arc_bytes, same_arcs}
use Rattle.fields.proofs.Read.{rows_read, parts_read, two_read, arcs_read}
use Rattle.pgd.specs.Files.{header_numbers, final_byte, file_of}
use Rattle.pgd.specs.Reading.{final_flag_at, finals_from, decoded}
use Rattle.pgd.proofs.Written.{length_file}

-- mark, version, states' bytes and length are those of a file with the counts that it tells
pub record Framed (bytes : List ℕ) : Type 0 where
  pub mark : take 3 bytes ≡ codes "PGD"
  pub version : number_at bytes 3 ≡ 1
  pub flags : (k : ℕ) → k < number_at bytes 7 → get_or bytes (11 + k) 0 ≤ 1
  pub long : length bytes ≡ 11 + number_at bytes 7 + 6 * number_at bytes 9

-- a byte that is 0 or 1 is that of the state that is read off it
byte_is : (n : ℕ) → n ≤ 1 → final_byte (eqb n 1) ≡ n
byte_is zero h = refl
byte_is (suc zero) h = refl
byte_is (suc (suc n)) h = absurd (omega arith)

finals_read : (bytes : List ℕ) (start n : ℕ) → start + n ≤ length bytes → ((k : ℕ) → k < n → get_or bytes (start + k) 0 ≤ 1)
    → drop start bytes ≡ map final_byte (finals_from bytes start n) ++ drop (start + n) bytes
finals_read bytes start n h flag =
    rows_read bytes (λ b. final_byte b ∷ []) (λ k. final_flag_at bytes (start + k)) start 1 n each
    ∙ (λ i. flat_map_single final_byte (finals_from bytes start n) i ++ drop (last i) bytes)
  where
    last : start + 1 * n ≡ start + n
    last = omega arith

    each : (k : ℕ) → k < n → drop (start + 1 * k) bytes ≡ (final_byte (final_flag_at bytes (start + k)) ∷ []) ++ drop (start + 1 * k + 1) bytes
    each k l =
        let e : start + k ≡ start + 1 * k = omega arith in
        ap (λ m. drop m bytes) (sym e) ∙ drop_more bytes (start + k) 0 (omega arith)
        ∙ (λ i. sym (byte_is (get_or bytes (start + k) 0) (flag k l)) i ∷ drop (e i + 1) bytes)

module _ (bytes : List ℕ) (small : AllByRecursion (λ b. b < 256) bytes) where
  header_read : 11 ≤ length bytes → number_at bytes 3 ≡ 1 → drop 3 bytes ≡ flat_map bytes_of (header_numbers (decoded bytes)) ++ drop 11 bytes
  header_read h v =
      let arcs = length-map-range_with_len (λ k. arc_in bytes (11 + number_at bytes 7 + 6 * k)) 0 (number_at bytes 9) in
      two_read bytes small 3 (omega arith)
      ∙ ap (λ l. flat_map bytes_of (number_at bytes 3 ∷ (number_at bytes 5 ∷ [])) ++ l) (two_read bytes small 7 (omega arith))
      ∙ (λ i. bytes_of (v i) ++ (bytes_of (number_at bytes 5) ++ (bytes_of (number_at bytes 7) ++ (bytes_of (sym arcs i) ++ drop 11 bytes))))

  -- framed bytes are the file of the determinised acceptor that is read off them
  pub framed_file : Framed bytes → bytes ≡ file_of (decoded bytes)
  framed_file f =
      let d = decoded bytes in
      let states = number_at bytes 7 in let arcs = number_at bytes 9 in
      let long = f.long in
      parts_read bytes (codes "PGD") (flat_map bytes_of (header_numbers d)) (map final_byte d.finals) (arc_bytes d.arcs)
      3 11 (11 + states) (11 + states + 6 * arcs) f.mark (header_read (omega arith) f.version)
      (finals_read bytes 11 states (omega arith) f.flags) (arcs_read bytes small (11 + states) arcs (omega arith)) (omega arith)

-- one file for each determinised acceptor: the bytes of states are no numbers, so the numbers are read in their places

same_byte : (x y : Bool) → final_byte x ≡ final_byte y → x ≡ y
same_byte true true e = refl
same_byte true false e = absurd (omega arith)
same_byte false true e = absurd (omega arith)
same_byte false false e = refl

same_finals : (xs ys : List Bool) (us vs : List ℕ) → length xs ≡ length ys → map final_byte xs ++ us ≡ map final_byte ys ++ vs → (xs ≡ ys) × (us ≡ vs)
same_finals xs ys us vs l e =
    all_same (λ b. final_byte b ∷ []) (λ x y us vs e. (same_byte x y cc, cc)) xs ys us vs l
    (ap (λ l. l ++ us) (flat_map_single final_byte xs) ∙ e ∙ ap (λ l. l ++ vs) (sym (flat_map_single final_byte ys)))

module _ (d e : Determined) (d-finals : length d.finals ≡ d.states) (e-finals : length e.finals ≡ e.states) where
  pub file_one : file_of d ≡ file_of e → d ≡ e
  file_one q =
      let words : d.words ≡ e.words = omega (arith, ap (λ l. number_at l 5) q) in
      let states : d.states ≡ e.states = omega (arith, ap (λ l. number_at l 7) q) in
      let count : length d.arcs ≡ length e.arcs = omega (arith, ap (λ l. number_at l 9) q) in
      let (finals, rest) = same_finals d.finals e.finals (arc_bytes d.arcs) (arc_bytes e.arcs) (omega arith) (ap (drop 11) q) in
      let ns : flat_map arc_numbers d.arcs ≡ flat_map arc_numbers e.arcs =
      sym (numbers_bytes (flat_map arc_numbers d.arcs)) ∙ ap numbers rest ∙ numbers_bytes (flat_map arc_numbers e.arcs) in
      let (arcs, none) = same_arcs d.arcs e.arcs [] [] count (ap (λ l. l ++ []) ns) in
      λ i. record { words = words i; states = states i; finals = finals i; arcs = arcs i }

module _ (d : Determined) (d-finals : length d.finals ≡ d.states) where
  bytes_small : (xs : List Bool) → AllByRecursion (λ b. b ≤ 1) (map final_byte xs)
  bytes_small [] = tt
  bytes_small (true ∷ xs) = (omega arith, bytes_small xs)
  bytes_small (false ∷ xs) = (omega arith, bytes_small xs)

  final_flag : (k : ℕ) → k < d.states → get_or (file_of d) (11 + k) 0 ≤ 1
  final_flag k h =
      let front = codes "PGD" ++ flat_map bytes_of (header_numbers d) in
      let finals = map final_byte d.finals in
      let l = length-map d.finals final_byte in
      let there : get_or (file_of d) (11 + k) 0 ≡ get_or finals k 0 =
      get_or-append-add front (finals ++ arc_bytes d.arcs) k 0 ∙ get_or_append_left finals (arc_bytes d.arcs) 0 k (omega arith) in
      omega (arith, there, All-get_or (λ b. b ≤ 1) finals k 0 (omega arith) (bytes_small d.finals))

  -- a file is framed
  pub file_framed : Framed (file_of d)
  file_framed =
      let states : number_at (file_of d) 7 ≡ d.states = omega arith in
      let arcs : number_at (file_of d) 9 ≡ length d.arcs = omega arith in
      record {
        mark = refl;
        version = refl;
        flags = λ k h. final_flag k (omega arith);
        long = length_file d d-finals ∙ omega (arith, states, arcs);
      }

  -- and its determinised acceptor is the one that is read off it
  pub file_decoded : (bytes : List ℕ) → AllByRecursion (λ b. b < 256) bytes → bytes ≡ file_of d → d ≡ decoded bytes
  file_decoded bytes small e =
      let f : Framed bytes = subst Framed (sym e) file_framed in
      file_one d (decoded bytes) d-finals (length-map-range_with_len (λ k. final_flag_at bytes (11 + k)) 0 (number_at bytes 7)) (sym e ∙ framed_file bytes small f)
