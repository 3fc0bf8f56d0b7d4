use Rattle.std.proofs.Common.{Ok, Err, refl, arith}
use Rattle.fields.proofs.Judging.{passed_on, first_left}
use Rattle.fields.proofs.Parts.{one_fault, two_fault, end_fault, all_pass}
use Rattle.pgd.proofs.Parts.{asked, long_enough}
use Rattle.pgd.proofs.Unique.{answered}
use Rattle.pgd.proofs.check.check_file.Goals as goal

pub returns-in_err-header : goal.returns-in_err-header
returns-in_err-header c =
    answered c.args.file.now c.type_inv.file _ (rw (passed_on c.from_residual.ensures.1) (first_left _ c.in_err-header.ensures _))

pub returns-in_err-arcs_at : goal.returns-in_err-arcs_at
returns-in_err-arcs_at c =
    let head = c.in_ok-header.ensures in
    answered c.args.file.now c.type_inv.file _
    (rw (passed_on c.from_residual-in_err-arcs_at.ensures.1)
    (one_fault _ (asked _ _ head refl refl) head.sound c.in_err-arcs_at.ensures))

pub returns-in_err-end : goal.returns-in_err-end
returns-in_err-end c =
    let head = c.in_ok-header.ensures in
    let states = c.in_ok-arcs_at.ensures in
    answered c.args.file.now c.type_inv.file _
    (rw (passed_on c.from_residual-in_err-end.ensures.1)
    (two_fault _ (asked _ _ head states.1 refl) head.sound states.0 c.in_err-end.ensures))

pub returns-then-file-end : goal.returns-then-file-end
returns-then-file-end c =
    let head = c.in_ok-header.ensures in
    let states = c.in_ok-arcs_at.ensures in
    let arcs = c.in_ok-end.ensures in
    answered c.args.file.now c.type_inv.file (Err (record { place = c.in_ok-end.end }))
    (end_fault _ (asked _ _ head states.1 arcs.1) head.sound states.0 arcs.0 c.if-file-end.true)

pub returns : goal.returns
returns c =
    let head = c.in_ok-header.ensures in
    let states = c.in_ok-arcs_at.ensures in
    let arcs = c.in_ok-end.ensures in
    let long = long_enough _ _ head states.1 arcs.1 states.0 arcs.0 in
    answered c.args.file.now c.type_inv.file (Ok c.in_ok-header.header) (
      all_pass _ (asked _ _ head states.1 arcs.1)
          (record { sound_header = head.sound; sound_one = states.0; sound_two = arcs.0; long = omega arith }),
      head,
    )
