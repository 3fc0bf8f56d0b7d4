use Rattle.std.proofs.Common.{refl}
use Rattle.std.proofs.lemmas.Result.{err_from_is_err_and}
use Rattle.acceptor.specs.Flats.{acceptor_of}
use Rattle.determinising.specs.Determinising.FileRefusal.{no_file}
use Rattle.determinising.proofs.Building.{opened, not_numbered, not_written, written}
use Rattle.determinising.proofs.determinise.determinise.Goals as goal

pub returns-in_err-header : goal.returns-in_err-header
returns-in_err-header c =
    let p = err_from_is_err_and c.from_residual.result c.from_residual.ensures.1 in
    rw (p.1, p.2) (no_file c.in_err-header.ensures.checked, refl)

pub number-requires-clause-ready : goal.number-requires-clause-ready
number-requires-clause-ready c = (opened c.in_ok-header.ensures.checked c.read-flat.ensures c.first_set-start.ensures).is_file.fit

pub returns-in_err-entries : goal.returns-in_err-entries
returns-in_err-entries c =
    let p = err_from_is_err_and c.from_residual-in_err-entries.result c.from_residual-in_err-entries.ensures.1 in
    let k = opened c.in_ok-header.ensures.checked c.read-flat.ensures c.first_set-start.ensures in
    rw (p.1, p.2) (not_numbered k _ c.in_err-entries.ensures.answer, refl)

pub returns-in_err-write : goal.returns-in_err-write
returns-in_err-write c =
    let p = err_from_is_err_and c.from_residual-in_err-write.result c.from_residual-in_err-write.ensures.1 in
    let k = opened c.in_ok-header.ensures.checked c.read-flat.ensures c.first_set-start.ensures in
    let (needed, short, same) = c.in_err-write.ensures in
    rw (p.1, p.2) (not_written k c.in_ok-entries.ensures.held c.in_ok-entries.ensures.answer needed short, same)

pub returns : goal.returns
returns c =
    let k = opened c.in_ok-header.ensures.checked c.read-flat.ensures c.first_set-start.ensures in
    (acceptor_of c.read-flat.result, k.is_file, written k c.in_ok-entries.ensures.held c.in_ok-entries.ensures.answer c.in_ok-write.ensures)
