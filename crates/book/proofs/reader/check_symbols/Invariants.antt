use Rattle.book.specs.Checks.{SymbolsTo}
use Rattle.book.proofs.reader.check_symbols.Given as goal

abbrev pub invariant-loop-i : goal.invariant-loop-i
invariant-loop-i g l = SymbolsTo (g.E.Entries.entries l.book) l.at l.symbols l.i
