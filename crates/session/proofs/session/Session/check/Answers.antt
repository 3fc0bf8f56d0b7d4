use Rattle.session.proofs.Opening.{pga_file, pgd_file}
use Rattle.session.proofs.session.Session.check.Goals as goal

pub returns-in_ok-check_file-in-Pga : goal.returns-in_ok-check_file-in-Pga
returns-in_ok-check_file-in-Pga c = rw c.in-Pga.is (pga_file _ c.file.ensures c.in_ok-check_file-in-Pga.ensures.checked.0)

pub returns-in_ok-check_file-in-Pgd : goal.returns-in_ok-check_file-in-Pgd
returns-in_ok-check_file-in-Pgd c = rw c.in-Pgd.is (pgd_file _ c.file-in-Pgd.ensures c.in_ok-check_file-in-Pgd.ensures.checked.0)
