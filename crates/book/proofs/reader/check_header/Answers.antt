use Rattle.std.proofs.lemmas.Result.{err_from_is_err_and}
use Rattle.book.proofs.Headers.{words_fault, names_fault, start_fault, rules_fault}
use Rattle.book.proofs.reader.check_header.Goals as goal

pub returns-in_err-words : goal.returns-in_err-words
returns-in_err-words g c =
    let p = err_from_is_err_and c.from_residual.result c.from_residual.ensures.1 in
    rw (p.1, p.2) (words_fault (g.E.Entries.entries c.args.book.now) c.in_err-words.ensures)

pub returns-in_err-names : goal.returns-in_err-names
returns-in_err-names g c =
    let p = err_from_is_err_and c.from_residual-in_err-names.result c.from_residual-in_err-names.ensures.1 in
    rw (p.1, p.2) (names_fault (g.E.Entries.entries c.args.book.now) _ c.in_ok-words.ensures c.in_err-names.ensures)

pub returns-in_err-start : goal.returns-in_err-start
returns-in_err-start g c =
    let p = err_from_is_err_and c.from_residual-in_err-start.result c.from_residual-in_err-start.ensures.1 in
    rw (p.1, p.2) (start_fault (g.E.Entries.entries c.args.book.now) _ c.in_ok-words.ensures _ c.in_ok-names.ensures c.in_err-start.ensures)

pub returns-in_err-rules : goal.returns-in_err-rules
returns-in_err-rules g c =
    let p = err_from_is_err_and c.from_residual-in_err-rules.result c.from_residual-in_err-rules.ensures.1 in
    rw (p.1, p.2) (rules_fault (g.E.Entries.entries c.args.book.now) _ c.in_ok-words.ensures _ c.in_ok-names.ensures _ c.in_ok-start.ensures c.in_err-rules.ensures)
