use Rattle.std.proofs.Common.{refl}
use Rattle.std.proofs.lemmas.Result.{err_from_is_err_and}
use Rattle.book.specs.Edits.BlankFault.{header, no_room}
use Rattle.book.proofs.Writes.{bare_fit}
use Rattle.book.proofs.writer.blank.Goals as goal

pub returns-in_err-check_header : goal.returns-in_err-check_header
returns-in_err-check_header c =
    let p = err_from_is_err_and c.from_residual.result c.from_residual.ensures.1 in
    rw (p.1, p.2) (header c.in_err-check_header.ensures, refl)

pub returns-then-table-lt4 : goal.returns-then-table-lt4
returns-then-table-lt4 c = (no_room (bare_fit _ _ _ c.in_ok-check_header.ensures.sound) c.if-table-lt4.true, refl)
