-- What is found lies within the bounds.
use Rattle.std.proofs.Common.{◌≤◌, List, length, arith}
use Rattle.std.proofs.lemmas.List.{length_push}
use Rattle.finding.specs.Numbered.{Arrow}
use Rattle.finding.specs.Finding.{Bounded, Place, Turn, Turns, Whole}
use Rattle.finding.specs.Finding.Turn.{pass, old, new, next}
use Rattle.finding.specs.Finding.Turns.{stay, more}

module _ {A : Type 0} (b : Bounded A) where
  abbrev Within : Place A → Type 0
  Within p = (length p.entries ≤ b.most) × (length p.moves ≤ b.most_moves)

  within_turn : {p q : Place A} → Turn b p q → Within p → Within q
  within_turn (pass a s l g) f = f
  within_turn {p} (old t j l s m) f = (f.0, omega (arith, length_push p.moves (p.entry, p.symbol, j)))
  within_turn {p} (new t l s r e m) f =
      (omega (arith, length_push p.entries t), omega (arith, length_push p.moves (p.entry, p.symbol, length p.entries)))
  within_turn (next h e) f = f

  within_turns : {p q : Place A} → Turns b p q → Within p → Within q
  within_turns stay f = f
  within_turns (more t u) f = within_turn u (within_turns t f)

  pub whole_fits : (start : A) (es : List A) (ms : List Arrow) → Whole b start es ms → (length es ≤ b.most) × (length ms ≤ b.most_moves)
  whole_fits start es ms w = within_turns w.1 (w.0, omega arith)
