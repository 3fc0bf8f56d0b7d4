use Rattle.std.proofs.Common.{[], ◌∷◌, refl, arith}
use Rattle.std.proofs.lemmas.Result.{err_from_is_err_and}
use Rattle.book.specs.Grammar.{rule}
use Rattle.book.specs.Tables.{Fit, FitRule}
use Rattle.theory.specs.Rows.{mirror}
use Rattle.samples.specs.Making.{first}
use Rattle.samples.proofs.Making.{added, no_header, no_rule, last_rule, bare_fits}
use Rattle.samples.proofs.two_sides.Goals as goal

header_fits : Fit (first 0 mirror)
header_fits = bare_fits mirror (omega arith, omega arith) (omega arith, omega arith) (omega arith, omega arith)

first_fits : FitRule (first 0 mirror) (rule 3 (0 ∷ (4 ∷ (0 ∷ []))))
first_fits = record { left = (omega arith, omega arith); short = omega arith; right = (omega arith, (omega arith, (omega arith, tt))) }

second_fits : FitRule (first 1 mirror) (rule 3 (1 ∷ (4 ∷ (1 ∷ []))))
second_fits = record { left = (omega arith, omega arith); short = omega arith; right = (omega arith, (omega arith, (omega arith, tt))) }

third_fits : FitRule (first 2 mirror) (rule 4 (2 ∷ []))
third_fits = record { left = (omega arith, omega arith); short = omega arith; right = (omega arith, tt) }

pub returns-in_err-blank : goal.returns-in_err-blank
returns-in_err-blank c =
    let p = err_from_is_err_and c.from_residual.result c.from_residual.ensures.1 in
    rw (p.1, p.2) (no_header header_fits c.in_err-blank.ensures.0 c.in_err-blank.ensures.1)

pub returns-in_err-add : goal.returns-in_err-add
returns-in_err-add c =
    let p = err_from_is_err_and c.from_residual-in_err-add.result c.from_residual-in_err-add.ensures.1 in
    rw (p.1, p.2) (no_rule 0 mirror _ (omega arith) refl first_fits (omega arith) (omega arith) c.in_ok-blank.ensures c.in_err-add.ensures.0 c.in_err-add.ensures.1)

pub returns-in_err-add-2 : goal.returns-in_err-add-2
returns-in_err-add-2 c =
    let p = err_from_is_err_and c.from_residual-in_err-add-2.result c.from_residual-in_err-add-2.ensures.1 in
    rw (p.1, p.2) (no_rule 1 mirror _ (omega arith) refl second_fits (omega arith) (omega arith) (added c.in_ok-blank.ensures c.in_ok-add.ensures) c.in_err-add-2.ensures.0 c.in_err-add-2.ensures.1)

pub returns : goal.returns
returns c = last_rule 2 mirror _ c.add-3.result _ (omega arith) refl third_fits (omega arith) (omega arith) refl (added (added c.in_ok-blank.ensures c.in_ok-add.ensures) c.in_ok-add-2.ensures) c.add-3.ensures
