-- The bytes of a file, part by part, and its length.
use Rattle.std.proofs.Common.{◌≡◌, ◌++◌, length, codes, ap, ◌∙◌, arith}
use Rattle.std.specs.List.{flat_map}
use Rattle.std.proofs.lemmas.List.{length-append}
use Rattle.std.proofs.lemmas.Grind.{flat_map-append}
use Rattle.book.specs.Files.{bytes_of}
use Rattle.theory.specs.Flattening.{Acceptor, file_length}
use Rattle.fields.specs.Arcs.{arc_numbers}
use Rattle.fields.proofs.Arcs.{arc_bytes, length_arc_bytes}
use Rattle.pga.specs.Files.{jump_numbers, header_numbers, file_of}
use Rattle.pga.proofs.Arcs.{jump_bytes, length_jump_bytes}

-- the bytes of a file, part by part
pub file_parts : (a : Acceptor) → file_of a ≡ codes "PGA" ++ (flat_map bytes_of (header_numbers a) ++ (arc_bytes a.arcs ++ jump_bytes a.jumps))
file_parts a =
    let arcs = flat_map arc_numbers a.arcs in
    let jumps = flat_map jump_numbers a.jumps in
    ap (λ l. codes "PGA" ++ l)
    (flat_map-append bytes_of (header_numbers a) (arcs ++ jumps)
    ∙ ap (λ l. flat_map bytes_of (header_numbers a) ++ l) (flat_map-append bytes_of arcs jumps))

pub length_file : (a : Acceptor) → length (file_of a) ≡ file_length a
length_file a =
    ap length (file_parts a)
    ∙ omega (arith, length-append (arc_bytes a.arcs) (jump_bytes a.jumps), length_arc_bytes a.arcs, length_jump_bytes a.jumps)
