use Rattle.std.proofs.Common.{sym, ap, ◌∙◌, arith, eq-eqb, eqb-true, ltb-true}
use Rattle.table.specs.Sets.{In, bit_of}
use Rattle.table.proofs.Rows.{in_below}
use Rattle.table.proofs.sets.NumberSet.has.Goals as goal

pub returns-else-k-lt4096 : goal.returns-else-k-lt4096
returns-else-k-lt4096 g c =
    ((λ e. let l = ltb-true c.index-k.result 4096 e in absurd (omega arith)), (λ m. let b = in_below c.args.self.now.words c.args.self.now.row _ m in absurd (omega arith)))

pub returns-then-k-lt4096 : goal.returns-then-k-lt4096
unfolding In
returns-then-k-lt4096 g c =
    let same = ap (bit_of c.args.self.now.words) c.index-k.ensures.value in
    ((λ e. sym same ∙ eqb-true _ 1 e), (λ m. eq-eqb _ 1 (same ∙ m)))
