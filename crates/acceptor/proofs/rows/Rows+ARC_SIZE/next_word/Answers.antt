use Rattle.std.proofs.Common.{arith}
use Rattle.acceptor.specs.Rows.{arcs_of}
use Rattle.acceptor.proofs.Chunks.{arc_parted, row_stands}
use Rattle.acceptor.proofs.Standing.{arcs_length, no_arcs, no_least, is_least}
use Rattle.acceptor.proofs.rows.Rows+ARC_SIZE.next_word.Goals as goal

pub returns-in_err-get : goal.returns-in_err-get
returns-in_err-get c = λ o.
    let bytes = c.args.self.now.bytes.now in
    let past = c.in_err-get.ensures.lookup in
    rw c.from_residual.ensures
    (no_arcs (arcs_of bytes) o (arc_parted bytes c.seek.ensures.parted o) (omega (arith, past.3, c.as_chunks.ensures.front_len, arcs_length bytes)))

pub returns-then-left-from : goal.returns-then-left-from
returns-then-left-from c = λ o.
    let bytes = c.args.self.now.bytes.now in
    let found = c.in_ok-get.ensures.lookup in
    is_least (arcs_of bytes) o (arc_parted bytes c.seek.ensures.parted o) _ (row_stands bytes _ _ c.in_ok-get.field-0.now c.as_chunks.ensures.front found.3.0 found.1)
    c.pair-left.result c.pair-left.ensures c.if-left-from.true

pub returns-else-left-from : goal.returns-else-left-from
returns-else-left-from c = λ o.
    let bytes = c.args.self.now.bytes.now in
    let found = c.in_ok-get.ensures.lookup in
    no_least (arcs_of bytes) o (arc_parted bytes c.seek.ensures.parted o) _ (row_stands bytes _ _ c.in_ok-get.field-0.now c.as_chunks.ensures.front found.3.0 found.1)
    c.pair-left.result c.pair-left.ensures c.if-left-from.false
