-- The length of a file, and the moves that are put as its arcs.
use Rattle.std.proofs.Common.{◌≡◌, Bool, true, List, [], ◌∷◌, map, length, refl, ap, subst, arith}
use Rattle.std.specs.List.{filter}
use Rattle.std.proofs.lemmas.List.{length-append, length-map}
use Rattle.table.specs.declared.numbers.StateNo.{StateNo}
use Rattle.finding.specs.declared.moves.Move.{Move}
use Rattle.theory.specs.Subsets.{Determined, determined_length}
use Rattle.fields.specs.declared.output.Output.{Output}
use Rattle.fields.specs.Putting.{Puts, PutsArcs}
use Rattle.fields.proofs.Arcs.{arc_bytes, length_arc_bytes}
use Rattle.pgd.specs.Files.{final_byte, file_of}
use Rattle.pgd.specs.Writing.{arrows}

-- every move is wanted
all_wanted : {A : Type 0} (xs : List A) → filter (λ x. true) xs ≡ xs
all_wanted [] = refl
all_wanted (x ∷ xs) = ap (λ l. x ∷ l) (all_wanted xs)

-- they are put as arcs
pub puts_moves : (ms : List (Move StateNo)) (tells : Move StateNo → Bool → Type 0) (o p : Output) → ((m : Move StateNo) (r : Bool) → tells m r → r ≡ true)
    → PutsArcs (λ s. s.0) tells ms o p → Puts o (arc_bytes (arrows ms)) p
puts_moves ms tells o p told x = subst (λ l. Puts o (arc_bytes (arrows l)) p) (all_wanted ms) (x (λ m. true) told)

pub length_file : (d : Determined) → length d.finals ≡ d.states → length (file_of d) ≡ determined_length d
length_file d e =
    omega (
      arith,
      length-append (map final_byte d.finals) (arc_bytes d.arcs),
      length-map d.finals final_byte,
      length_arc_bytes d.arcs,
      e,
    )
