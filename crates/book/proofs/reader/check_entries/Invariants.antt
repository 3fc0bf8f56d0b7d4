use Rattle.std.proofs.Common.{◌≡◌}
use Rattle.book.specs.Checks.{ReadTo}
use Rattle.book.proofs.reader.check_entries.Given as goal

abbrev pub invariant-loop-i : goal.invariant-loop-i
invariant-loop-i g l = record { read : ReadTo (g.E.Entries.entries l.book) l.so_far l._i; rules : l.so_far.rules ≡ l._i-end }
