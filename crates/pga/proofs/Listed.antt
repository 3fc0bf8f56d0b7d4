-- The sizes of a checked file, and its text.
use Rattle.std.proofs.Common.{◌≡◌, ℕ, ◌+◌, ◌*◌, ◌<◌, ◌≤◌, List, length, Ok, sym, ap, ◌∙◌, subst, arith}
use Rattle.std.specs.List.{flat_map}
use Rattle.std.proofs.lemmas.List.FromFn.{length-map-range_with_len}
use Rattle.fields.specs.Reading.{number_at, arcs_from}
use Rattle.fields.specs.Refusals.{told}
use Rattle.fields.specs.declared.output.Output.{Output}
use Rattle.fields.specs.Putting.{Puts}
use Rattle.fields.proofs.Putting.{puts_then}
use Rattle.pga.specs.declared.check.Header.{Header}
use Rattle.pga.specs.declared.listing.Counts.{Counts}
use Rattle.pga.specs.Files.{IsFile}
use Rattle.pga.specs.Reading.{rows_from, jumps_from, decoded}
use Rattle.pga.specs.Checks.{Checked}
use Rattle.pga.specs.Listing.{line, counts_line, arc_line, jump_line, lines, ListRefused}
use Rattle.pga.specs.Listing.ListRefused.{short}
use Rattle.pga.proofs.Written.{length_file}
use Rattle.pga.proofs.Decoding.{arc_of, jump_of}
use Rattle.pga.proofs.Text.{rows_arcs, rows_jumps}

-- how many arcs and jumps a checked file has, and where they stand
pub record Sizes (bytes : List ℕ) (h : Header) : Type 0 where
  pub arcs : h.arcs ≡ number_at bytes 11
  pub jumps : h.jumps ≡ number_at bytes 13
  pub few_arcs : h.arcs ≤ 16384
  pub few_jumps : h.jumps ≤ 16384
  pub long : length bytes ≡ 15 + 6 * h.arcs + 4 * h.jumps

pub sizes : (bytes : List ℕ) (h : Header) → Checked bytes (Ok h) → Sizes bytes h
sizes bytes h (f, e) =
    let a : h.arcs ≡ length (decoded bytes).arcs = ap (λ (x : Header). x.arcs) e in
    let j : h.jumps ≡ length (decoded bytes).jumps = ap (λ (x : Header). x.jumps) e in
    let arcs = length-map-range_with_len (arc_of bytes) 0 (number_at bytes 11) in
    let jumps = length-map-range_with_len (jump_of bytes) 0 (number_at bytes 13) in
    let few_arcs = f.fit.few_arcs in let few_jumps = f.fit.few_jumps in
    record {
      arcs = a ∙ arcs;
      jumps = j ∙ jumps;
      few_arcs = omega arith;
      few_jumps = omega arith;
      long = ap length f.is ∙ length_file (decoded bytes) ∙ omega arith;
    }

module _ (counts : Counts) (bytes : List ℕ) (h : Header) (s : Sizes bytes h) (o p q r : Output) where
  pub text_puts : Puts o (counts_line counts) p → Puts p (flat_map line (rows_from bytes 15 3 h.arcs)) q
      → Puts q (flat_map line (rows_from bytes (15 + 6 * h.arcs) 2 h.jumps)) r → Puts o (lines counts (decoded bytes)) r
  text_puts x y z =
      let e : flat_map line (rows_from bytes 15 3 h.arcs) ≡ flat_map arc_line (decoded bytes).arcs =
      rows_arcs bytes 15 h.arcs ∙ ap (λ n. flat_map arc_line (arcs_from bytes 15 n)) s.arcs in
      let g : flat_map line (rows_from bytes (15 + 6 * h.arcs) 2 h.jumps) ≡ flat_map jump_line (decoded bytes).jumps =
      rows_jumps bytes (15 + 6 * h.arcs) h.jumps ∙ (λ i. flat_map jump_line (jumps_from bytes (15 + 6 * s.arcs i) (s.jumps i))) in
      puts_then o p r (counts_line counts) _ x
      (puts_then p q r (flat_map arc_line (decoded bytes).arcs) (flat_map jump_line (decoded bytes).jumps)
      (subst (λ t. Puts p t q) e y) (subst (λ t. Puts q t r) g z))

-- an output too short for the text
pub text_short : (counts : Counts) (file : List ℕ) (n room : ℕ) → IsFile file (decoded file) → n ≡ length (lines counts (decoded file)) → room < n
    → ListRefused counts file room (told 16 n)
text_short counts file n room f e h = subst (λ m. ListRefused counts file room (told 16 m)) (sym e) (short (decoded file) f (omega arith))
