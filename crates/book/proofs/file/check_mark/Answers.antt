use Rattle.std.proofs.Common.{arith, rules}
use Rattle.book.specs.Files.MarkFault.{short, mark, version, half}
use Rattle.book.proofs.file.check_mark.Goals as goal

pub returns-then-file-lt-FRONT : goal.returns-then-file-lt-FRONT
returns-then-file-lt-FRONT c = short c.if-file-lt-FRONT.true

pub returns-then-not-starts_with : goal.returns-then-not-starts_with
returns-then-not-starts_with c = mark (omega arith) (search rules)

pub returns-then-from_le_bytes-ne-VERSION : goal.returns-then-from_le_bytes-ne-VERSION
returns-then-from_le_bytes-ne-VERSION c = version (omega arith) (search rules) (λ e. c.if-from_le_bytes-ne-VERSION.true (omega arith))

pub returns-then-file-eq0 : goal.returns-then-file-eq0
returns-then-file-eq0 c = half (omega arith) (search rules) (omega arith) (omega arith)
