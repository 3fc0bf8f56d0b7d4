use Rattle.std.proofs.Common.{refl, ◌∙◌, arith}
use Rattle.fields.proofs.Judging.{passed_on}
use Rattle.pga.specs.Listing.ListRefused.{no_file}
use Rattle.pga.proofs.Listed.{text_short}
use Rattle.pga.proofs.listing.list.Goals as goal

pub returns-in_err-header : goal.returns-in_err-header
returns-in_err-header c =
    rw (passed_on c.from_residual.ensures.1) (no_file c.in_err-header.ensures.checked, refl)

pub returns-then-out-place : goal.returns-then-out-place
returns-then-out-place c =
    let ends = c.put_text.ensures.put.ends in
    let at = c.new-counted.ensures.place in (
      text_short c.args.counts c.args.file.now _ _ c.in_ok-header.ensures.checked.0
          (c.place-then-out-place.ensures ∙ ends ∙ omega arith) (omega (arith, c.if-out-place.true, c.place.ensures, c.place-then-out-place.ensures)),
      refl,
    )
