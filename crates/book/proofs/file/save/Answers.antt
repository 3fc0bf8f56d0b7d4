use Rattle.std.proofs.Common.{◌+◌, ◌*◌, length, refl, subst, arith}
use Rattle.std.proofs.lemmas.Result.{err_from_is_err_and}
use Rattle.book.specs.Refusals.{told}
use Rattle.book.specs.Files.{SaveFault}
use Rattle.book.specs.Files.SaveFault.{book, short}
use Rattle.book.proofs.Held.{known}
use Rattle.book.proofs.Filed.{saved}
use Rattle.book.proofs.file.save.Goals as goal

pub returns-in_err-used : goal.returns-in_err-used
returns-in_err-used c =
    let p = err_from_is_err_and c.from_residual.result c.from_residual.ensures.1 in
    rw (p.1, p.2) (book c.in_err-used.ensures.checked, refl)

pub returns-then-file-needed : goal.returns-then-file-needed
returns-then-file-needed c =
    let k = known _ _ c.in_ok-used.ensures.checked in
    let u = k.takes in (
      subst (λ n. SaveFault c.args.table.now (length c.args.file.now) (told 16 (5 + 2 * n))) u
          (short k.grammar k.holds (omega arith)),
      refl,
    )

pub returns : goal.returns
returns c = saved (known _ _ c.in_ok-used.ensures.checked) c.write_file.ensures
