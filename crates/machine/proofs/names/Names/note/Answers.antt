use Rattle.std.proofs.Common.{subst, rules}
use mathlib.Core.List.{Memᴰ}
use Rattle.machine.specs.Names.Noted.{old}
use Rattle.machine.proofs.Noting.{note_room, note_marked, note_new}
use Rattle.machine.proofs.names.Names.note.Goals as goal

pub returns-then-self-name : goal.returns-then-self-name
returns-then-self-name c = old (subst (Memᴰ c.args.name) c.self.view_is ((c.self.invariant.marked c.args.name c.requires).0 c.if-self-name.true))

pub bounds-self-inside-self-inside : goal.bounds-self-inside-self-inside
bounds-self-inside-self-inside c = note_room c.self.invariant c.args.name c.requires (search rules) (search rules)

pub invariant_of-self : goal.invariant_of-self
invariant_of-self c = note_marked c.self.invariant c.args.name c.requires (search rules) (search rules)

pub returns : goal.returns
returns c = note_new c.self.invariant c.args.name c.requires (search rules) (search rules) _ c.self.view_is
