use Rattle.std.proofs.Common.{◌∙◌, arith}
use Rattle.acceptor.proofs.Opening.{file_read}
use Rattle.acceptor.proofs.flat.Flat.read.Goals as goal

pub returns : goal.returns
returns c =
    file_read c.args.file.now c.over.result.bytes.now c.over-2.result.bytes.now _ _ _ _ _ (λ i. omega (arith, c.type_inv.file i))
    c.number_or_zero-3.ensures c.number_or_zero-4.ensures c.number_or_zero-5.ensures c.number_or_zero.ensures c.number_or_zero-2.ensures
    (λ l h. c.over.ensures ∙ c.cut.ensures l h) (λ l h. c.over-2.ensures ∙ c.cut-2.ensures l h)
