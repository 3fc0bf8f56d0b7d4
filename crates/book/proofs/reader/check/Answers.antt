use Rattle.book.proofs.Unique.{only_checked}
use Rattle.book.proofs.reader.check.Goals as goal

pub returns-clause-only : goal.returns-clause-only
returns-clause-only c = only_checked _ _ c.check_entries.ensures
