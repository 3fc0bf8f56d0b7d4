use Rattle.std.proofs.Common.{rules}
use Rattle.book.proofs.Sides.{right_decides}
use Rattle.book.proofs.linear.right_side.Goals as goal

pub returns-in-len1-up : goal.returns-in-len1-up
returns-in-len1-up c = right_decides c.args.words c.args.side.now _ (search rules) c.all_words.ensures
