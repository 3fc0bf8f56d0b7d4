-- The acceptor of a machine, an unfolding, a final node and jumps.
use Rattle.std.proofs.Common.{ℕ, ◌↔◌, List, length, refl}
use mathlib.Core.List.{Memᴰ}
use Rattle.book.specs.Grammar.{Grammar, symbols}
use Rattle.table.specs.Lists.{InOrder}
use Rattle.finding.specs.Numbered.{Arrow}
use Rattle.theory.specs.Items.{Sound}
use Rattle.theory.specs.Policies.{Meaning}
use Rattle.theory.specs.Unfolding.{Node, Unfolded, FinalNode}
use Rattle.theory.specs.Flattening.{Acceptor, word_moves, Jump, JumpLess, FlattenedFrom, Flattened}
use Rattle.theory.proofs.Arcs.{word_moves_are, word_moves_rise}
use Rattle.theory.proofs.Numbering.{moves_rise}
use Rattle.theory.proofs.Theorems.{all_laws}
use Rattle.compiler.specs.Promises.{FileLaws}

pub composed : (g : Grammar) (m : Meaning) (states : List (List ℕ)) (moves : List Arrow) (nodes : List Node) (arrows : List Arrow)
    → Unfolded m moves (symbols g) nodes arrows → (last : ℕ) → FinalNode states nodes last
    → (jumps : List (ℕ × ℕ)) → InOrder JumpLess jumps → ((p to : ℕ) → Memᴰ (p, to) jumps ↔ Jump g states nodes arrows p to)
    → FlattenedFrom g states nodes arrows (record { words = g.words; nodes = length nodes; final = last; arcs = word_moves g.words arrows; jumps = jumps })
composed g m states moves nodes arrows unfolded last final jumps rise are =
    record {
      words_are = refl;
      nodes_are = refl;
      final_is = final;
      arcs_are = word_moves_are g.words arrows;
      arcs_rise = word_moves_rise g.words arrows (moves_rise (symbols g) unfolded);
      jumps_are = are;
      jumps_rise = rise;
    }

pub file_laws : (g : Grammar) (m : Meaning) (f : Acceptor) → Sound g → Flattened g m f → FileLaws g m f
file_laws g m f s x =
    let l = all_laws g s in
    record { nothing_lost = l.nothing_lost m f x; exact = λ h. l.exact h m f x; finer = λ n h e y. l.finer n m h e f y x }
