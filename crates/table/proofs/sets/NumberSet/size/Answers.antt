use Rattle.std.proofs.Common.{rules, ◌≡◌, sum_by, ◌∙◌}
use lib.Count.{ones}
use Rattle.std.proofs.iter.runs.Made.{chains}
use Rattle.table.proofs.Rows.{ones_members, few_ones, members_listed}
use Rattle.table.proofs.sets.NumberSet.size.Goals as goal

pub sum-requires-clause-fits : goal.sum-requires-clause-fits
sum-requires-clause-fits g c = let few = few_ones c.args.self.now.words c.args.self.now.row in search (rules, chains)

pub returns-clause-count : goal.returns-clause-count
returns-clause-count g c = let total : c.sum.result ≡ sum_by ones c.args.self.now.words = search (rules, chains) in total ∙ ones_members c.args.self.now.words c.args.self.now.row

pub returns-clause-listed : goal.returns-clause-listed
returns-clause-listed g c = members_listed c.args.self.now.words c.args.self.now.row
