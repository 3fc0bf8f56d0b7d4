use Rattle.std.proofs.Common.{[], ◌∷◌, take}
use Rattle.std.specs.List.{flat_map}
use Rattle.fields.specs.Putting.{Puts}
use Rattle.pgd.proofs.Finals.{row_byte}
use Rattle.pgd.proofs.writer.put_finals.Given as goal

abbrev pub invariant-loop-row : goal.invariant-loop-row
invariant-loop-row l = Puts l.initial.out (flat_map (λ e. row_byte l.final_node e ∷ []) (take l.row-index l.rows)) l.out
