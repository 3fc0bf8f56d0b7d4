use Rattle.std.proofs.Common.{◌∙◌, arith}
use Rattle.acceptor.proofs.Stated.{file_read}
use Rattle.acceptor.proofs.subset.Subset.read.Goals as goal

pub returns : goal.returns
returns c =
    file_read c.args.file.now c.cut.result.now c.over.result.bytes.now _ _ _ (λ i. omega (arith, c.type_inv.file i))
    c.number_or_zero-3.ensures c.number_or_zero.ensures c.number_or_zero-2.ensures c.cut.ensures (λ l h. c.over.ensures ∙ c.cut-2.ensures l h)
