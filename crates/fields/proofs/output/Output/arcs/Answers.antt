use Rattle.std.proofs.Common.{◌≡◌, [], ◌∷◌, sym, refl, ap, ◌∙◌, subst, arith}
use Rattle.std.specs.List.{flat_map}
use Rattle.std.specs.Fn.{FnReturnsAt}
use Rattle.std.proofs.lemmas.List.{take_all}
use Rattle.book.specs.Files.{bytes_of}
use Rattle.fields.specs.declared.output.Output.{Output}
use Rattle.fields.specs.Putting.{Puts}
use Rattle.fields.proofs.Arcs.{puts_wanted, puts_unwanted}
use Rattle.fields.proofs.output.Output.arcs.Goals as goal
use Rattle.fields.proofs.output.Output.arcs.Goals.{then-wanted, else-wanted}

pub loop-m-preserved : goal.loop-m-preserved
loop-m-preserved g c =
    let before = c.loop-m.invariant in let m = c.m-item.result in
    let met : FnReturnsAt g.F.Fn c.args.wanted m c.wanted.result =
    record { shown = _; shows = refl; says = record { met = c.wanted.ensures } } in
    elim c.if-wanted.branch [
      | then-wanted w ↦
          let e = w.index.ensures.value in let f = w.index-then-wanted.ensures.value in
          let here = subst (λ ns. Puts c.loop-m.self (flat_map bytes_of ns) w.numbers.new.self) (λ j. e j ∷ (m.symbol ∷ (f j ∷ []))) w.numbers.ensures in
          let at : c.if-wanted.self.at ≡ w.numbers.new.self.at = ap (λ (o : Output). o.at) w.self-is in
          record {
            room = omega (arith, at, before.room, here.put.ends);
            puts = λ wants tells.
                subst (Puts c.args.self.now _) (sym w.self-is)
                (puts_wanted g.N.Number.value wants c.args.moves.now c.loop-m.m-index m c.loop-m-test.true c.m-item.is c.args.self.now c.loop-m.self
                (before.puts wants tells) _ (sym (tells m _ met) ∙ w.if-wanted.true) here);
          }
      | else-wanted w ↦
          let at : c.if-wanted.self.at ≡ c.loop-m.self.at = ap (λ (o : Output). o.at) w.self-is in
          record {
            room = omega (arith, at, before.room);
            puts = λ wants tells.
                subst (Puts c.args.self.now _) (sym w.self-is)
                (puts_unwanted g.N.Number.value wants c.args.moves.now c.loop-m.m-index m c.loop-m-test.true c.m-item.is c.args.self.now c.loop-m.self
                (before.puts wants tells) (sym (tells m _ met) ∙ w.if-wanted.false));
          }
    ]

pub returns : goal.returns
returns g c wants tells =
    let all = take_all c.loop-m.m-index c.args.moves.now (omega arith) in
    let so = c.loop-m.invariant.puts wants tells in rw all at so
