use Rattle.std.proofs.Common.{sym, ◌∙◌, arith}
use Rattle.session.proofs.Turning.{past_turns, out_of_use, still_in_use}
use Rattle.session.proofs.turns.Turns.find.Goals as goal
use Rattle.session.proofs.turns.Turns.find.Goals.{else-number-self-via-then-number-self+else-is_live, else-number-self-via-else-number-self}

pub returns-in_err-turn : goal.returns-in_err-turn
returns-in_err-turn c =
    let t = c.args.self.now in rw c.from_residual.ensures (past_turns t.count t.rows.now c.args.number (omega (arith, c.in_err-turn.ensures.lookup.3)))

pub returns-then-is_live : goal.returns-then-is_live
returns-then-is_live c =
    let t = c.args.self.now in
    let h = c.in_ok-turn.ensures.lookup in
    still_in_use t.count t.rows.now c.args.number c.standing.result c.if-number-self.true h.3.0 h.1 (sym c.is_live.ensures ∙ c.if-is_live.true) c.standing.ensures.kind c.standing.ensures.at

pub returns-else-number-self : goal.returns-else-number-self
returns-else-number-self c =
    let t = c.args.self.now in
    let h = c.in_ok-turn.ensures.lookup in
    elim c.else-number-self.branch [
      | else-number-self-via-then-number-self+else-is_live w ↦
          out_of_use t.count t.rows.now c.args.number w.if-number-self.true h.3.0 h.1 (sym w.is_live.ensures ∙ w.if-is_live.false)
      | else-number-self-via-else-number-self w ↦ past_turns t.count t.rows.now c.args.number (omega (arith, w.if-number-self.false))
    ]
