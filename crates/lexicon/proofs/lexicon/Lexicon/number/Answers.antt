use Rattle.std.proofs.Common.{arith}
use Rattle.std.proofs.lemmas.Result.{err_from_is_err_and}
use Rattle.table.proofs.Found.{number_below}
use Rattle.lexicon.proofs.Equality.{spelling_exact}
use Rattle.lexicon.proofs.Numbering.{read_bad, rows_kept, number_found, number_full}
use Rattle.lexicon.proofs.Unique.{numbered_one}
use Rattle.lexicon.proofs.lexicon.Lexicon.number.Goals as goal

pub returns-in_err-spelling-clause-numbered : goal.returns-in_err-spelling-clause-numbered
returns-in_err-spelling-clause-numbered c =
    let p = err_from_is_err_and c.from_residual.result c.from_residual.ensures.1 in
    rw (p.1, p.2) (read_bad c.in_err-spelling.ensures)

pub find_or_add-requires : goal.find_or_add-requires
find_or_add-requires c = record { exact = spelling_exact }

pub invariant_of-self : goal.invariant_of-self
invariant_of-self c =
    let same = rows_kept c.find_or_add.ensures.found in
    record { few = omega (arith, same, c.args.self.now.few); distinct = c.find_or_add.ensures.distinct c.args.self.now.distinct }

pub overflow_cast-result : goal.overflow_cast-result
overflow_cast-result c = let b = number_below c.args.self.now.table.held c.in-Some.ensures.found in omega (arith, b, c.args.self.now.few)

pub returns-in-Some-clause-numbered : goal.returns-in-Some-clause-numbered
returns-in-Some-clause-numbered c =
    let t = c.args.self.now.table in number_found t.rows.now t.len t.held c.in_ok-spelling.ensures c.in-Some.ensures.found

pub returns-in-Some-clause-places : goal.returns-in-Some-clause-places
returns-in-Some-clause-places c = rows_kept c.find_or_add.ensures.found

pub returns-in-None-clause-numbered : goal.returns-in-None-clause-numbered
returns-in-None-clause-numbered c =
    let t = c.args.self.now.table in rw c.len.ensures (number_full t.rows.now t.len t.held c.in_ok-spelling.ensures c.in-None.ensures.found)

pub returns-in-None-clause-places : goal.returns-in-None-clause-places
returns-in-None-clause-places c = rows_kept c.find_or_add.ensures.found

pub returns-in_err-spelling-clause-only : goal.returns-in_err-spelling-clause-only
returns-in_err-spelling-clause-only c = λ r after h. numbered_one c.args.self.now.distinct (returns-in_err-spelling-clause-numbered c) h

pub returns-in-Some-clause-only : goal.returns-in-Some-clause-only
returns-in-Some-clause-only c = λ r after h. numbered_one c.args.self.now.distinct (returns-in-Some-clause-numbered c) h

pub returns-in-None-clause-only : goal.returns-in-None-clause-only
returns-in-None-clause-only c = λ r after h. numbered_one c.args.self.now.distinct (returns-in-None-clause-numbered c) h
