use Rattle.std.proofs.Common.{List, ℕ, sym, subst, arith, rules, true, false, ◌≡◌}
use Rattle.std.specs.List.Sorted.{IsPartitionedBy, IsPartitionPoint}
use Rattle.std.proofs.lemmas.List.Sorted.{IsPartitionPoint-from_clause}
use Rattle.pga.specs.Reading.{jump_in}
use Rattle.acceptor.specs.Rising.{less}
use Rattle.acceptor.proofs.Chunks.{keys_length, chunks_parted, keys_parted}
use Rattle.acceptor.proofs.rows.Rows.seek.Goals as goal

pub returns-clause-within : goal.returns-clause-within
returns-clause-within g c =
    let l = keys_length g.row.SIZE c.args.self.now.bytes.now in omega (arith, c.as_chunks.ensures.front_len, c.partition_point.ensures.bound)

pub returns-clause-parted : goal.returns-clause-parted
returns-clause-parted g c = λ o.
    let rows = c.args.self.now in
    let key : ℕ × ℕ = (c.args.first, c.args.second) in
    let test = λ (row : List ℕ). less (jump_in row 0) key in
    let is = c.as_chunks.ensures.front in
    let n = c.partition_point.result in
    let parted = subst (IsPartitionedBy test) (sym is) (chunks_parted g.row.SIZE rows.sized.0 rows.bytes.now o key) in
    keys_parted g.row.SIZE rows.sized.0 rows.bytes.now o key n (omega (arith, c.as_chunks.ensures.front_len, c.partition_point.ensures.bound))
    (subst (λ chunks. IsPartitionPoint (λ row. test row ≡ true) (λ row. test row ≡ false) chunks n) is
    (IsPartitionPoint-from_clause test c.as_chunks.result.0.now n c.partition_point.ensures.partitioned parted (λ a r f w. search rules)))
