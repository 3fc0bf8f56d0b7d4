use Rattle.std.proofs.Common.{◌≡◌, ◌/◌, ◌%◌, [], ◌∷◌, get_or, ◌∙◌, arith}
use Rattle.book.proofs.Numbers.{bytes_more}
use Rattle.book.proofs.file.write_numbers.Goals as goal

pub loop-i-preserved : goal.loop-i-preserved
loop-i-preserved c =
    let n = get_or c.args.numbers.now c.loop-i.i 0 in
    let high : n / 256 % 256 ≡ n / 256 = omega (arith, c.type_inv.numbers c.loop-i.i) in
    bytes_more c.args.numbers.now c.loop-i.out _ c.loop-i.i (omega arith) (omega arith)
    (c.copy_from_slice.ensures.after ∙ c.to_le_bytes.ensures ∙ (λ j. n % 256 ∷ (high j ∷ []))) c.loop-i.invariant
