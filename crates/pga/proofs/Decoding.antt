-- A file and the acceptor that is read off its bytes.
use Rattle.std.proofs.Common.{◌≡◌, ℕ, ◌+◌, ◌*◌, ◌<◌, ◌≤◌, List, [], ◌++◌, length, take, drop, codes, sym, refl, ap, ◌∙◌, subst, arith}
use Rattle.std.specs.List.{flat_map as joined, AllByRecursion}
use Rattle.std.proofs.lemmas.List.FromFn.{length-map-range_with_len}
use Rattle.book.specs.Files.{bytes_of}
use Rattle.book.specs.Reading.{numbers}
use Rattle.book.proofs.Numbers.{numbers_bytes}
use Rattle.finding.specs.Numbered.{Arrow}
use Rattle.theory.specs.Flattening.{Acceptor}
use Rattle.fields.specs.Arcs.{arc_numbers}
use Rattle.fields.specs.Reading.{number_at, arc_in}
use Rattle.fields.proofs.Lists.{joined_joined, all_same}
use Rattle.fields.proofs.Arcs.{arc_bytes, same_arcs}
use Rattle.fields.proofs.Read.{rows_read, parts_read, two_read, arc_read, arcs_read}
use Rattle.pga.specs.Files.{jump_numbers, header_numbers, file_numbers, file_of}
use Rattle.pga.specs.Reading.{jump_in, jumps_from, decoded}
use Rattle.pga.proofs.Arcs.{jump_bytes}
use Rattle.pga.proofs.Written.{file_parts, length_file}

-- arc k of a file
abbrev pub arc_of : List ℕ → ℕ → Arrow
arc_of bytes k = arc_in bytes (15 + 6 * k)

-- jump k of a file
abbrev pub jump_of : List ℕ → ℕ → ℕ × ℕ
jump_of bytes k = jump_in bytes (15 + 6 * number_at bytes 11 + 4 * k)

-- mark, version and length are those of a file with the counts that it tells
pub record Framed (bytes : List ℕ) : Type 0 where
  pub mark : take 3 bytes ≡ codes "PGA"
  pub version : number_at bytes 3 ≡ 1
  pub long : length bytes ≡ 15 + 6 * number_at bytes 11 + 4 * number_at bytes 13

module _ (bytes : List ℕ) (small : AllByRecursion (λ b. b < 256) bytes) where
  jumps_read : (start n : ℕ) → start + 4 * n ≤ length bytes → drop start bytes ≡ jump_bytes (jumps_from bytes start n) ++ drop (start + 4 * n) bytes
  jumps_read start n h =
      rows_read bytes (λ j. joined bytes_of (jump_numbers j)) (λ k. jump_in bytes (start + 4 * k)) start 4 n
      (λ k l. two_read bytes small (start + 4 * k) (omega arith))
      ∙ ap (λ l. l ++ drop (start + 4 * n) bytes) (joined_joined bytes_of jump_numbers (jumps_from bytes start n))

  header_read : 15 ≤ length bytes → number_at bytes 3 ≡ 1 → drop 3 bytes ≡ joined bytes_of (header_numbers (decoded bytes)) ++ drop 15 bytes
  header_read h v =
      let arcs = length-map-range_with_len (arc_of bytes) 0 (number_at bytes 11) in
      let jumps = length-map-range_with_len (jump_of bytes) 0 (number_at bytes 13) in
      arc_read bytes small 3 (omega arith)
      ∙ ap (λ l. joined bytes_of (arc_numbers (arc_in bytes 3)) ++ l) (arc_read bytes small 9 (omega arith))
      ∙ (λ i. bytes_of (v i) ++ (bytes_of (number_at bytes 5) ++ (bytes_of (number_at bytes 7) ++ (bytes_of (number_at bytes 9)
      ++ (bytes_of (sym arcs i) ++ (bytes_of (sym jumps i) ++ drop 15 bytes))))))

  -- framed bytes are the file of the acceptor that is read off them
  pub framed_file : Framed bytes → bytes ≡ file_of (decoded bytes)
  framed_file f =
      let a = decoded bytes in
      let arcs = number_at bytes 11 in let jumps = number_at bytes 13 in
      let long = f.long in
      parts_read bytes (codes "PGA") (joined bytes_of (header_numbers a)) (arc_bytes a.arcs) (jump_bytes a.jumps)
      3 15 (15 + 6 * arcs) (15 + 6 * arcs + 4 * jumps) f.mark (header_read (omega arith) f.version)
      (arcs_read bytes small 15 arcs (omega arith)) (jumps_read (15 + 6 * arcs) jumps (omega arith)) (omega arith)
      ∙ sym (file_parts a)

-- one file for each acceptor

same_jumps : (ms ns : List (ℕ × ℕ)) → length ms ≡ length ns → joined jump_numbers ms ≡ joined jump_numbers ns → ms ≡ ns
same_jumps ms ns l e =
    (all_same jump_numbers (λ m n us vs e. let p : m.0 ≡ n.0 = cc in let q : m.1 ≡ n.1 = cc in ((λ i. (p i, q i)), cc))
    ms ns [] [] l (ap (λ l. l ++ []) e)).0

pub file_one : (a b : Acceptor) → file_of a ≡ file_of b → a ≡ b
file_one a b e =
    let n : file_numbers a ≡ file_numbers b =
    sym (numbers_bytes (file_numbers a)) ∙ ap (λ l. numbers (drop 3 l)) e ∙ numbers_bytes (file_numbers b) in
    let words : a.words ≡ b.words = cc in let nodes : a.nodes ≡ b.nodes = cc in let final : a.final ≡ b.final = cc in
    let long : length a.arcs ≡ length b.arcs = cc in
    let rest : joined arc_numbers a.arcs ++ joined jump_numbers a.jumps
    ≡ joined arc_numbers b.arcs ++ joined jump_numbers b.jumps = cc in
    let (arcs, more) = same_arcs a.arcs b.arcs _ _ long rest in
    let jumps = same_jumps a.jumps b.jumps (cc) more in
    λ i. record { words = words i; nodes = nodes i; final = final i; arcs = arcs i; jumps = jumps i }

-- a file is framed
pub file_framed : (a : Acceptor) → Framed (file_of a)
file_framed a =
    let arcs : number_at (file_of a) 11 ≡ length a.arcs = omega arith in
    let jumps : number_at (file_of a) 13 ≡ length a.jumps = omega arith in
    record { mark = refl; version = refl; long = length_file a ∙ omega (arith, arcs, jumps) }

-- and its acceptor is the one that is read off it
pub file_decoded : (bytes : List ℕ) (a : Acceptor) → AllByRecursion (λ b. b < 256) bytes → bytes ≡ file_of a → a ≡ decoded bytes
file_decoded bytes a small e =
    let f : Framed bytes = subst Framed (sym e) (file_framed a) in
    file_one a (decoded bytes) (sym e ∙ framed_file bytes small f)
