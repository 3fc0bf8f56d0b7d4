use Rattle.std.proofs.Common.{◌≡◌, refl, subst, arith, rules}
use Rattle.std.specs.List.{flat_map}
use Rattle.std.proofs.lemmas.List.{length-map}
use Rattle.book.specs.Files.{bytes_of}
use Rattle.theory.specs.Subsets.{determined_length}
use Rattle.fields.specs.Putting.{Puts}
use Rattle.fields.proofs.Files.{file_written}
use Rattle.pgd.specs.Files.{header_numbers, file_of, Fit}
use Rattle.pgd.specs.Writing.{plain, determined}
use Rattle.pgd.proofs.Finals.{length_finals}
use Rattle.pgd.proofs.Written.{puts_moves, length_file}
use Rattle.pgd.proofs.writer.write.Goals as goal

pub returns : goal.returns
returns c =
    let rows = c.args.parts.rows.now in let final = c.args.parts.final_node in
    let d = determined c.args.parts.words rows final c.args.parts.arcs.now in
    let arcs = length-map c.args.parts.arcs.now plain in
    let is = c.header_of.ensures in
    let same : c.header_of.result ≡ header_numbers d = cc in
    let moves = puts_moves c.args.parts.arcs.now _ _ _ (λ m r t. search rules) c.arcs.ensures in
    let header = subst (λ h. Puts c.text.new.self (flat_map bytes_of h) c.numbers.new.self) same c.numbers.ensures in
    file_written Fit file_of determined_length d refl (length_file d (length_finals final rows)) (omega arith)
    c.new-output.ensures.bytes c.new-output.ensures.place c.text.ensures header c.put_finals.ensures moves (λ kept. search rules) c.place.ensures
