use Rattle.std.proofs.Common.{arith, rules, of_calls}
use Rattle.std.proofs.lemmas.Bool.Decides.{nat_tests}
use Rattle.std.proofs.lemmas.List.Sorted.{IsPartitionPoint-from_clause}
use Rattle.finding.proofs.Seeking.{is_before, moves_part, parted}
use Rattle.finding.proofs.lookup.Rising.seek.Goals as goal

pub returns : goal.returns
returns g c =
    let v = g.N.Number.value in
    let q = v c.args.entry in
    parted v q c.args.symbol c.args.self.now.moves.now c.partition_point.result c.partition_point.ensures.bound
    (IsPartitionPoint-from_clause (is_before v q c.args.symbol) _ _ c.partition_point.ensures.partitioned (moves_part v q c.args.symbol c.args.self.now.moves.now c.args.self.now.rising)
    (λ a r f k. (grind (arith, nat_tests, of_calls), search (rules, of_calls))))
