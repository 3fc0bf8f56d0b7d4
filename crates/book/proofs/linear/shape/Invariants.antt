use Rattle.book.specs.Reading.{rules_in}
use Rattle.book.proofs.EachRule.{Looked}
use Rattle.book.proofs.linear.shape.Given as goal

abbrev pub invariant-loop-rule : goal.invariant-loop-rule
invariant-loop-rule l = Looked l.table l.book (rules_in l.rule-iterator.count l.rule-iterator.entries.now) l.shape
