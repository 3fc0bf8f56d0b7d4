use Rattle.std.proofs.Common.{sym, subst, arith}
use Rattle.std.proofs.lemmas.List.{take_all}
use Rattle.fields.specs.Putting.{Puts}
use Rattle.fields.proofs.Putting.{puts_then}
use Rattle.pga.proofs.Text.{parted, parted_more, parted_line, length_parted}
use Rattle.pga.proofs.listing.put_line.Goals as goal

pub put_next-requires : goal.put_next-requires
put_next-requires c = omega (arith, length_parted c.args.numbers.now c.loop-i.i (λ k. omega (arith, c.type_inv.numbers k)))

pub loop-i-preserved : goal.loop-i-preserved
loop-i-preserved c =
    let more = parted_more c.args.numbers.now c.loop-i.i 0 (omega arith) in
    subst (λ t. Puts c.args.out.now t c.put_next.new.out) (sym more) (puts_then _ _ _ _ _ c.loop-i.invariant c.put_next.ensures)

pub byte-requires : goal.byte-requires
byte-requires c = omega (arith, length_parted c.args.numbers.now c.loop-i.i (λ k. omega (arith, c.type_inv.numbers k)))

pub returns-clause-puts : goal.returns-clause-puts
returns-clause-puts c =
    let ns = c.args.numbers.now in
    let all = subst (λ l. Puts c.args.out.now (parted l) c.loop-i.out) (take_all c.loop-i.i ns (omega arith)) c.loop-i.invariant in
    subst (λ t. Puts c.args.out.now t c.byte.new.self) (parted_line ns) (puts_then _ _ _ _ _ all c.byte.ensures)

pub returns-clause-short : goal.returns-clause-short
returns-clause-short c =
    omega (arith, length_parted c.args.numbers.now c.loop-i.i (λ k. omega (arith, c.type_inv.numbers k)))
