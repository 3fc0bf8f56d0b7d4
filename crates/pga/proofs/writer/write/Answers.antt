use Rattle.std.proofs.Common.{◌≡◌, length, ap, subst, arith, rules}
use Rattle.std.specs.List.{flat_map}
use Rattle.std.proofs.lemmas.List.{length-map}
use Rattle.book.specs.Files.{bytes_of}
use Rattle.book.proofs.Numbers.{length_bytes}
use Rattle.theory.specs.Flattening.{file_length}
use Rattle.flattening.specs.Orders.{pair}
use Rattle.fields.specs.Putting.{Puts}
use Rattle.fields.proofs.Files.{file_written}
use Rattle.fields.proofs.Arcs.{length_arc_bytes}
use Rattle.pga.specs.Files.{header_numbers, file_of, Fit}
use Rattle.pga.specs.Writing.{acceptor}
use Rattle.pga.proofs.Arcs.{puts_words, arcs_few}
use Rattle.pga.proofs.Written.{file_parts, length_file}
use Rattle.pga.proofs.writer.write.Goals as goal

pub overflow_mul-needed : goal.overflow_mul-needed
overflow_mul-needed c = omega (arith, arcs_few)

pub overflow_add-needed : goal.overflow_add-needed
overflow_add-needed c = omega (arith, arcs_few)

pub overflow_add-needed-2 : goal.overflow_add-needed-2
overflow_add-needed-2 c = omega (arith, arcs_few)

pub header_of-requires : goal.header_of-requires
header_of-requires c = omega (arith, arcs_few)

pub put_jumps-requires : goal.put_jumps-requires
put_jumps-requires c =
    let words = c.args.parts.words in
    let moves = c.args.parts.moves.now in
    let arcs = puts_words words moves _ _ _ (λ m r t. search rules) c.arcs.ensures in (
      omega (arith, length_bytes, ap length c.header_of.ensures, arcs, length_arc_bytes, arcs_few),
      omega arith,
    )

pub returns : goal.returns
returns c =
    let a = acceptor c.args.parts.words c.args.parts.nodes c.args.parts.final_node c.args.parts.moves.now c.args.parts.jumps.now in
    let arcs = c.count_arcs-arcs.ensures in
    let jumps = length-map c.args.parts.jumps.now pair in
    let is = c.header_of.ensures in
    let same : c.header_of.result ≡ header_numbers a = cc in
    let moves = puts_words c.args.parts.words c.args.parts.moves.now _ _ _ (λ m r t. search rules) c.arcs.ensures in
    let header = subst (λ h. Puts c.text.new.self (flat_map bytes_of h) c.numbers.new.self) same c.numbers.ensures in
    file_written Fit file_of file_length a (file_parts a) (length_file a) (omega arith) c.new-output.ensures.bytes c.new-output.ensures.place
    c.text.ensures header moves c.put_jumps.ensures (λ kept. search rules) c.place.ensures
