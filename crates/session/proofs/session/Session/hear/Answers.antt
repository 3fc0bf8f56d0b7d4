use Rattle.std.proofs.Common.{refl}
use Rattle.std.proofs.lemmas.Result.{err_from_is_err_and}
use Rattle.session.proofs.Hearing.{of_event_by, pga_hears, pgd_hears}
use Rattle.session.proofs.session.Session.hear.Goals as goal

pub returns-in_err-told-in-Flat : goal.returns-in_err-told-in-Flat
returns-in_err-told-in-Flat c =
    let p = err_from_is_err_and c.from_residual.result c.from_residual.ensures.1 in
    rw (p.1, p.2, c.in-Flat.is) (pga_hears c.file.ensures c.read-flat.ensures c.in_err-told-in-Flat.ensures)

pub returns-in_err-told-in-Subset : goal.returns-in_err-told-in-Subset
returns-in_err-told-in-Subset c =
    let p = err_from_is_err_and c.from_residual-in_err-told-in-Subset.result c.from_residual-in_err-told-in-Subset.ensures.1 in
    rw (p.1, p.2, c.in-Subset.is)
    (pgd_hears c.file-in-Subset.ensures c.read-subset.ensures c.in_err-told-in-Subset.ensures)

pub returns-in_ok-told-in-Flat : goal.returns-in_ok-told-in-Flat
returns-in_ok-told-in-Flat c =
    let t = c.in_ok-told-in-Flat.ensures in
    rw c.in-Flat.is
    (record { kind = refl; of_event = of_event_by _ _ t; hears = pga_hears c.file.ensures c.read-flat.ensures t })

pub returns-in_ok-told-in-Subset : goal.returns-in_ok-told-in-Subset
returns-in_ok-told-in-Subset c =
    let t = c.in_ok-told-in-Subset.ensures in
    rw c.in-Subset.is
    (record { kind = refl; of_event = of_event_by _ _ t; hears = pgd_hears c.file-in-Subset.ensures c.read-subset.ensures t })
