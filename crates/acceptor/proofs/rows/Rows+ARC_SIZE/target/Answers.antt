use Rattle.std.proofs.Common.{◌≡◌, arith}
use Rattle.std.proofs.lemmas.Bool.Decides.{nat_tests}
use Rattle.acceptor.specs.Rows.{arcs_of}
use Rattle.acceptor.proofs.Chunks.{arc_parted, row_stands}
use Rattle.acceptor.proofs.Standing.{arcs_length, past_target, other_target, is_target}
use Rattle.acceptor.proofs.rows.Rows+ARC_SIZE.target.Goals as goal

pub returns-in_err-row : goal.returns-in_err-row
returns-in_err-row c = λ o.
    let bytes = c.args.self.now.bytes.now in
    let past = c.in_err-row.ensures.lookup in
    rw c.from_residual.ensures
    (past_target (arcs_of bytes) o (arc_parted bytes c.seek.ensures.parted o) (omega (arith, past.3, c.as_chunks.ensures.front_len, arcs_length bytes)))

pub returns-then-eq : goal.returns-then-eq
returns-then-eq c = λ o.
    let bytes = c.args.self.now.bytes.now in
    let found = c.in_ok-row.ensures.lookup in
    let same : (c.pair.result.0 ≡ c.args.from) × (c.pair.result.1 ≡ c.args.word) = grind (arith, nat_tests) in
    is_target (arcs_of bytes) o (arc_parted bytes c.seek.ensures.parted o) _ (row_stands bytes _ _ c.in_ok-row.row.now c.as_chunks.ensures.front found.3.0 found.1)
    c.pair.result c.pair.ensures c.number.result c.number.ensures same.0 same.1

pub returns-else-eq : goal.returns-else-eq
returns-else-eq c = λ o.
    let bytes = c.args.self.now.bytes.now in
    let found = c.in_ok-row.ensures.lookup in
    other_target (arcs_of bytes) o (arc_parted bytes c.seek.ensures.parted o) _ (row_stands bytes _ _ c.in_ok-row.row.now c.as_chunks.ensures.front found.3.0 found.1)
    c.pair.result c.pair.ensures (λ e f. grind (arith, nat_tests))
