use Rattle.std.proofs.Common.{◌≡◌, decimal, ◌∙◌, subst}
use Rattle.fields.specs.declared.output.Output.{Output}
use Rattle.fields.specs.Putting.{Puts}
use Rattle.pga.proofs.Text.{first_puts, next_puts}
use Rattle.pga.proofs.listing.put_next.Goals as goal
use Rattle.pga.proofs.listing.put_next.Goals.{then-before-gt0, else-before-gt0}

pub returns : goal.returns
returns c =
    let text : c.as_bytes.result.now ≡ decimal c.args.number = c.as_bytes.ensures.value ∙ c.format.ensures.text in
    let last = c.text.new.self in
    elim c.if-before-gt0.branch [
      | then-before-gt0 w ↦ next_puts c.args.before c.args.number _ text c.args.out.now last w.byte.new.self w.if-before-gt0.true w.byte.ensures
          (subst (λ (o : Output). Puts o c.as_bytes.result.now last) w.out-is c.text.ensures)
      | else-before-gt0 w ↦ first_puts c.args.before c.args.number _ text c.args.out.now last w.if-before-gt0.false
          (subst (λ (o : Output). Puts o c.as_bytes.result.now last) w.out-is c.text.ensures)
    ]
