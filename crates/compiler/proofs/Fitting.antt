-- The acceptor of a compiled book is one that a file can hold: every number is within its bounds.
use Rattle.std.proofs.Common.{◌≡◌, ℕ, ◌≤◌, ltb, List, length, arith}
use Rattle.book.specs.Grammar.{Grammar, symbols}
use Rattle.finding.specs.Numbered.{Arrow}
use Rattle.finding.proofs.Bounds.{whole_fits}
use Rattle.theory.specs.Flattening.{Acceptor, word_moves, Flattened}
use Rattle.theory.specs.Policies.{Meaning}
use Rattle.theory.specs.Unfolding.{Node}
use Rattle.theory.proofs.Lists.{all_from_mem, keep_length}
use Rattle.theory.proofs.Ranges.{in_range}
use Rattle.policy.specs.Classes.{Room}
use Rattle.unfolding.specs.Unfoldings.{limits, first_node}
use Rattle.fields.specs.Arcs.{ArcWithin}
use Rattle.pga.specs.Files.{JumpFits, Fit}
use Rattle.compiler.specs.Compiling.{Lengths, Built, Opened}

module _ {m : Meaning} {room : Room} {l : Lengths} {g : Grammar} {moves : List Arrow} {nodes : List Node} {arrows : List Arrow} where
  -- nodes and unfolded moves are within their ceilings
  ceilings : Opened m room l g moves nodes arrows → (length nodes ≤ 4096) × (length arrows ≤ 16384)
  unfolding limits
  ceilings o =
      let (n, a) = whole_fits (limits m room moves (symbols g) l.nodes l.unfolded) (first_node m) nodes arrows o.placed in
      (omega arith, omega arith)

  -- an arc is an unfolded move, so there are no more arcs than unfolded moves
  pub fits : {book : List ℕ} {states : List (List ℕ)} → Built book l g states moves → Opened m room l g moves nodes arrows
      → (f : Acceptor) → Flattened g m f → f.words ≡ g.words → f.nodes ≡ length nodes → f.arcs ≡ word_moves g.words arrows → length f.jumps ≤ 16384 → Fit f
  fits b o f x words_are nodes_are arcs_are few =
      let (n, a) = ceilings o in
      let r = in_range g m x in
      let w = b.held.fit.words in
      record {
        words = (omega (arith, w.0), omega (arith, w.1));
        nodes = (r.some_node, omega arith);
        final = r.final_node;
        few_arcs = rw arcs_are (omega (arith, keep_length (λ (k : Arrow). ltb k.1 g.words) arrows));
        few_jumps = few;
        arcs = all_from_mem (ArcWithin f.words f.nodes) f.arcs (λ k h. r.arcs_within k.0 k.1 k.2 h);
        jumps = all_from_mem (JumpFits f) f.jumps (λ j h. r.jumps_within j.0 j.1 h);
        arcs_rise = x.flat.arcs_rise;
        jumps_rise = x.flat.jumps_rise;
      }
