use Rattle.std.proofs.Common.{◌≡◌, ◌/◌, ◌%◌, [], ◌∷◌, get_or, ap, ◌∙◌, subst, arith}
use Rattle.book.specs.Files.{bytes_of}
use Rattle.fields.specs.Putting.{Puts}
use Rattle.fields.proofs.Putting.{le_bytes, puts_then}
use Rattle.fields.proofs.output.Output.number.Goals as goal

pub returns : goal.returns
returns c =
    let e : c.to_le_bytes.result ≡ bytes_of c.args.number = c.to_le_bytes.ensures ∙ le_bytes c.args.number (omega arith) in
    let low : get_or c.to_le_bytes.result 0 0 ≡ c.args.number % 256 = ap (λ l. get_or l 0 0) e in
    let high : get_or c.to_le_bytes.result 1 0 ≡ c.args.number / 256 = ap (λ l. get_or l 1 0) e in
    subst (λ bs. Puts c.args.self.now bs c.byte-2.new.self) (λ i. low i ∷ (high i ∷ []))
    (puts_then c.args.self.now _ _ _ _ c.byte.ensures c.byte-2.ensures)
