-- A compile or determinise that is done leaves the file of what is made of its note.
use Rattle.std.proofs.Common.{◌≡◌, ℕ, ◌+◌, ◌*◌, ◌≤◌, List, ◌++◌, length, take, drop, sym, ap, ◌∙◌, subst, arith}
use mathlib.Core.Option.{some}
use Rattle.std.proofs.lemmas.List.{length-append, take_at}
use Rattle.book.specs.Grammar.{Grammar}
use Rattle.book.specs.Tables.{Fit, Holds}
use Rattle.book.proofs.Unique.{holds_one}
use Rattle.theory.specs.Policies.{Meaning}
use Rattle.theory.specs.Flattening.{Acceptor, Flattened}
use Rattle.policy.specs.Classes.{Room}
use Rattle.pga.specs.declared.listing.Counts.{Counts}
use Rattle.pga.specs.Files.{file_of}
use Rattle.pga.proofs.Written.{length_file}
use Rattle.pgd.specs.Files.{file_of as subset_file}
use Rattle.pgd.proofs.Written.{length_file as length_subset}
use Rattle.compiler.specs.Compiling.{Lengths as CompileLengths, Compiled}
use Rattle.determinising.specs.declared.fault.SubsetCounts.{SubsetCounts}
use Rattle.determinising.specs.Determinising.{Lengths as SubsetLengths, DeterminisedIn}
use Rattle.promise.specs.Acceptors.Kind.{pga, pgd}
use Rattle.promise.specs.Acceptors.Automaton.{flat, subset}
use Rattle.promise.specs.Acceptors.IsFileOf.{is_pga, is_pgd}
use Rattle.promise.specs.Acceptors.Made.{compiled, determinised}
use Rattle.promise.specs.Tallies.{Note}
use Rattle.promise.specs.Leaving.{Filled}
use Rattle.promise.specs.Leaving.Filled.{holds}

-- an output that begins with a file is long enough for it
fits : (out out' xs : List ℕ) (n : ℕ) → length xs ≡ n → out' ≡ xs ++ drop n out → n ≤ length out'
fits out out' xs n long e = omega (arith, long, ap length e, length-append xs (drop n out))

module _ {book : List ℕ} (g : Grammar) (held : Holds book g) {m : Meaning} {room : Room} {l : CompileLengths} {out out' : List ℕ} {c : Counts}
    (h : Compiled book m room l out out' c) where
  long : length (file_of h.acceptor) ≡ 15 + 6 * c.arcs + 4 * c.jumps
  long = length_file h.acceptor ∙ (let a = h.arc_count in let j = h.jump_count in omega arith)

  written : out' ≡ file_of h.acceptor ++ drop (15 + 6 * c.arcs + 4 * c.jumps) out
  written = h.out_is ∙ ap (λ n. file_of h.acceptor ++ drop n out) (sym (length_file h.acceptor) ∙ long)

  flattened : Flattened h.grammar m h.acceptor
  flattened =
      record {
        states = h.states;
        moves = h.moves;
        nodes = h.nodes;
        unfolded_moves = h.arrows;
        machine = h.built.machine;
        unfolded = h.opened.unfolded;
        flat = h.flat;
      }

  pub compiled_filled : Filled pga (some (record { grammar = g; meaning = m })) (take (15 + 6 * c.arcs + 4 * c.jumps) out')
  compiled_filled =
      holds (flat h.acceptor) held.fit (compiled (subst (λ b. Flattened b m h.acceptor) (holds_one h.built.held held) flattened))
      (is_pga (record { fit = h.fit; is = ap (take (15 + 6 * c.arcs + 4 * c.jumps)) written ∙ take_at (file_of h.acceptor) _ _ long }))

  pub compiled_fits : 15 + 6 * c.arcs + 4 * c.jumps ≤ length out'
  compiled_fits = fits out out' (file_of h.acceptor) _ long written

module _ {f : Acceptor} {l : SubsetLengths} {out out' : List ℕ} {c : SubsetCounts} (h : DeterminisedIn f l out out' c) where
  subset_long : length (subset_file h.acceptor) ≡ 11 + c.states + 6 * c.arcs
  subset_long = length_subset h.acceptor h.fit.finals ∙ (let s = h.state_count in let a = h.arc_count in omega arith)

  subset_written : out' ≡ subset_file h.acceptor ++ drop (11 + c.states + 6 * c.arcs) out
  subset_written = h.out_is ∙ ap (λ k. subset_file h.acceptor ++ drop k out) (sym (length_subset h.acceptor h.fit.finals) ∙ subset_long)

  pub determinised_filled : (n : Note) → Fit n.grammar → Flattened n.grammar n.meaning f → Filled pgd (some n) (take (11 + c.states + 6 * c.arcs) out')
  determinised_filled n fit made =
      holds (subset h.acceptor) fit (determinised made h.is)
      (is_pgd (record { fit = h.fit; is = ap (take (11 + c.states + 6 * c.arcs)) subset_written ∙ take_at (subset_file h.acceptor) _ _ subset_long }))

  pub determinised_fits : 11 + c.states + 6 * c.arcs ≤ length out'
  determinised_fits = fits out out' (subset_file h.acceptor) _ subset_long subset_written
