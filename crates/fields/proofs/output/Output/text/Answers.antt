use Rattle.std.proofs.Common.{sym, subst, arith}
use Rattle.std.proofs.lemmas.List.{take_more}
use Rattle.fields.specs.Putting.{Puts}
use Rattle.fields.proofs.Putting.{puts_then}
use Rattle.fields.proofs.output.Output.text.Goals as goal

pub loop-byte-preserved : goal.loop-byte-preserved
loop-byte-preserved c =
    let more = sym (take_more c.args.bytes.now c.loop-byte.byte-index 0 (omega arith)) in
    subst (λ bs. Puts c.args.self.now bs c.byte.new.self) more (puts_then _ _ _ _ _ c.loop-byte.invariant c.byte.ensures)
