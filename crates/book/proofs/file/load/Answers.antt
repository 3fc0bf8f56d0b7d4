use Rattle.std.proofs.Common.{◌<◌, length, drop, Ok, refl, ap, ◌∙◌, subst, arith}
use Rattle.std.proofs.lemmas.List.{take_rest, length-take-le}
use Rattle.std.proofs.ByRecursion.{All-from_get_or}
use Rattle.std.proofs.lemmas.Result.{err_from_is_err_and}
use Rattle.book.specs.Reading.{numbers}
use Rattle.book.specs.Refusals.{refusal, told}
use Rattle.book.specs.Flaws.{TableFault}
use Rattle.book.specs.Files.{LoadFault}
use Rattle.book.specs.Files.LoadFault.{marked, book, left_over, no_room}
use Rattle.book.specs.Checks.{Checked}
use Rattle.book.proofs.Held.{Known, known, known_bounds}
use Rattle.book.proofs.Filed.{rest_length, numbers_length, takes_all, loaded}
use Rattle.book.proofs.file.load.Goals.{In_ok-used}
use Rattle.book.proofs.file.load.Goals as goal

-- what is known of the file's numbers once they passed the check
checked : (c : In_ok-used) → Known (numbers (drop 5 c.args.file.now)) c.in_ok-used.field-0
checked c = known _ _ (subst (λ l. Checked (numbers l) (Ok c.in_ok-used.field-0)) (take_rest c.args.file.now 5) c.in_ok-used.ensures)

pub returns-in_err-check_mark : goal.returns-in_err-check_mark
returns-in_err-check_mark c =
    let p = err_from_is_err_and c.from_residual.result c.from_residual.ensures.1 in
    rw (p.1, p.2) (marked c.in_err-check_mark.ensures, refl)

pub returns-in_err-used : goal.returns-in_err-used
returns-in_err-used c =
    let p = err_from_is_err_and c.from_residual-in_err-used.result c.from_residual-in_err-used.ensures.1 in
    rw (p.1, p.2)
    (book c.in_ok-check_mark.ensures (subst (λ l. TableFault (numbers l) (refusal c.in_err-used.field-0.0)) (take_rest c.args.file.now 5) c.in_err-used.ensures), refl)

pub overflow_mul-used : goal.overflow_mul-used
overflow_mul-used c = omega (arith, (known_bounds (checked (goal.at.overflow_mul-used c).In_ok-used)).0)

pub returns-then-used-bytes : goal.returns-then-used-bytes
returns-then-used-bytes c =
    let k = checked (goal.at.returns-then-used-bytes c).In_ok-used in
    let m = c.in_ok-check_mark.ensures in
    let w = m.whole in let u = k.takes in
    (left_over k.grammar m k.holds (omega (arith, numbers_length c.args.file.now, rest_length c.args.file.now)), refl)

pub returns-then-used-table : goal.returns-then-used-table
returns-then-used-table c =
    let k = checked (goal.at.returns-then-used-table c).In_ok-used in
    let m = c.in_ok-check_mark.ensures in
    let u = k.takes in (
      subst (λ n. LoadFault c.args.file.now (length c.args.table.now) (told 7 n)) u
          (no_room k.grammar m k.holds (takes_all k m (omega (arith, rest_length c.args.file.now))) (omega arith)),
      refl,
    )

pub read_numbers-requires : goal.read_numbers-requires
read_numbers-requires c =
    let k = checked (goal.at.read_numbers-requires c).In_ok-used in
    let w = c.in_ok-check_mark.ensures.whole in
    omega (arith, length-take-le c.in_ok-used.field-0.used c.args.table.now (omega arith), numbers_length c.args.file.now, rest_length c.args.file.now, (known_bounds k).5)

pub returns : goal.returns
returns c =
    let file = c.args.file.now in
    loaded (checked (goal.at.returns c).In_ok-used) c.in_ok-check_mark.ensures
    (All-from_get_or (λ b. b < 256) file 0 (λ i h. omega (arith, c.type_inv.file i)))
    (omega (arith, rest_length file))
    (c.read_numbers.ensures ∙ ap numbers (take_rest file 5))
