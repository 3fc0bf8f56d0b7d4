use Rattle.std.proofs.Common.{◌≡◌, [], ◌∷◌, get_or, take, ap, ◌∙◌, subst, arith}
use Rattle.std.proofs.lemmas.List.{length-take-le}
use Rattle.fields.specs.Putting.{Puts}
use Rattle.fields.proofs.Putting.{puts_more, puts_all}
use Rattle.pgd.proofs.Finals.{row_byte, rows_bytes, length_rows_bytes}
use Rattle.pgd.proofs.writer.put_finals.Goals as goal

pub byte-requires : goal.byte-requires
byte-requires c =
    let rows = c.args.rows.now in let i = c.loop-row.row-index in
    omega (arith, length_rows_bytes c.args.final_node (take i rows), length-take-le i rows (omega arith))

pub loop-row-preserved : goal.loop-row-preserved
loop-row-preserved c =
    let rows = c.args.rows.now in let final = c.args.final_node in
    let i = c.loop-row.row-index in let row = c.row-item.result in
    let byte : c.final_byte.result ≡ row_byte final (get_or rows i row) = c.final_byte.ensures ∙ ap (row_byte final) c.row-item.is in
    let here = subst (λ b. Puts c.loop-row.out (b ∷ []) c.byte.new.self) byte c.byte.ensures in
    puts_more c.args.out.now (λ e. row_byte final e ∷ []) rows i c.loop-row.out _ row c.loop-row-test.true c.loop-row.invariant here

pub returns : goal.returns
returns c =
    let rows = c.args.rows.now in let final = c.args.final_node in
    subst (λ t. Puts c.args.out.now t c.loop-row.out) (rows_bytes final rows)
    (puts_all c.args.out.now (λ e. row_byte final e ∷ []) rows c.loop-row.row-index c.loop-row.out (omega arith) c.loop-row.invariant)
