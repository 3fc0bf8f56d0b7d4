-- A flattened acceptor names only its own words and nodes.
use mathlib.Core.List.{Memᴰ}
use Rattle.std.proofs.Common.{ℕ, ◌<◌, arith}
use Rattle.book.specs.Grammar.{Grammar, symbols}
use Rattle.table.proofs.Lists.{stands_below}
use Rattle.finding.proofs.Laws.{first_entry}
use Rattle.theory.specs.Policies.{Meaning}
use Rattle.theory.specs.Flattening.{Acceptor, Flattened}
use Rattle.theory.specs.Subsets.{InRange}
use Rattle.theory.proofs.Numbering.{entry_left, move_made}

pub in_range : (g : Grammar) (m : Meaning) {f : Acceptor} → Flattened g m f → InRange f
in_range g m {f} h =
    record {
      some_node = (let b = stands_below h.nodes 0 _ (first_entry h.unfolded) in let n = h.flat.nodes_are in omega arith);
      final_node = (let b = stands_below h.nodes f.final _ h.flat.final_is.at in let n = h.flat.nodes_are in omega arith);
      arcs_within = λ q x p a.
          let (v, w) = (h.flat.arcs_are q x p).0 a in
          (left v, (let e = h.flat.words_are in omega arith), right v);
      jumps_within = λ p to j.
          let k = (h.flat.jumps_are p to).0 j in
          ((let b = stands_below h.nodes p _ k.item.at in let n = h.flat.nodes_are in omega arith), right k.over);
    }
  where
    left : {q x p : ℕ} → Memᴰ (q, x, p) h.unfolded_moves → q < f.nodes
    left {q} v = let (n, e) = entry_left (symbols g) h.unfolded v in let b = stands_below h.nodes q _ e in let c = h.flat.nodes_are in omega arith

    right : {q x p : ℕ} → Memᴰ (q, x, p) h.unfolded_moves → p < f.nodes
    right {p = p} v =
        let (n, e) = entry_left (symbols g) h.unfolded v in
        let b = stands_below h.nodes p _ (move_made (symbols g) h.unfolded e v).place in let c = h.flat.nodes_are in omega arith
