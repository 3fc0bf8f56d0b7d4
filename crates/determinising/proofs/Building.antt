-- From the file that was read and what the search answers to the determinised acceptor.
use Rattle.std.proofs.Common.{◌≡◌, ℕ, ◌<◌, ◌≤◌, min, eqb, List, ◌++◌, map, length, take, drop, Ok, Err, Result, sym, ap, ◌∙◌, subst, arith, length-take-le}
use Rattle.std.proofs.lemmas.List.{length-map}
use Rattle.table.specs.Sets.{members}
use Rattle.table.specs.declared.sets.NumberSet.{NumberSet}
use Rattle.table.specs.declared.numbers.NodeNo.{NodeNo}
use Rattle.table.specs.declared.numbers.StateNo.{StateNo}
use Rattle.finding.specs.declared.moves.Count.{Count}
use Rattle.finding.specs.declared.moves.Move.{Move}
use Rattle.finding.specs.declared.moves.Stop.{Stop}
use Rattle.finding.specs.declared.moves.Stop.TheVariants.{Room, Entry, Arrow}
use Rattle.finding.specs.Finding.{arrow, within, Refused}
use Rattle.finding.specs.Finding.Refused.{met}
use Rattle.finding.specs.Finding.Stopped.{no_room}
use Rattle.finding.specs.Spaces.{Answered, Held}
use Rattle.finding.proofs.Bounds.{whole_fits}
use Rattle.theory.specs.Flattening.{Acceptor}
use Rattle.theory.specs.Lists.{any}
use Rattle.theory.specs.Subsets.{first_set, Determined, determined_length, Determinised}
use Rattle.theory.proofs.Subsets.{subset_laws}
use Rattle.pga.specs.declared.check.Header.{Header}
use Rattle.pga.specs.Checks.{Checked}
use Rattle.pga.specs.Files.{Fit, IsFile}
use Rattle.pga.specs.Reading.{decoded}
use Rattle.fields.specs.Refusals.{told}
use Rattle.pgd.specs.Files.{file_of}
use Rattle.pgd.specs.Writing.{sets, arrows, determined, FileWritten}
use Rattle.acceptor.proofs.Fitting.{fit_range}
use Rattle.determinising.specs.Refusals.{refusal, fault_of}
use Rattle.determinising.specs.Determinising.{subset_search, limits, Lengths, DeterminisedIn, FileRefusal}
use Rattle.determinising.specs.Determinising.DeterminiseRefusal.{set_limit, arc_limit, output}
use Rattle.determinising.specs.Determinising.FileRefusal.{acceptor}
use Rattle.determinising.proofs.Ranges.{fits}

abbrev thing : NumberSet NodeNo → List ℕ
thing e = members e.words

abbrev plain_number : StateNo → ℕ
plain_number s = s.0

-- what a check of the file, reading it and its first set tell: the file's acceptor, and what the header and the set say of it
pub record Opened (file : List ℕ) (h : Header) (f : Acceptor) (start : List ℕ) : Type 0 where
  pub is_file : IsFile file f
  pub words : h.words ≡ f.words
  pub final : h.final_node ≡ f.final
  pub starts : start ≡ first_set f

pub opened : {file : List ℕ} {h : Header} {f : Acceptor} {start : List ℕ} → Checked file (Ok h) → ((a : Acceptor) → IsFile file a → f ≡ a)
    → (Fit f → start ≡ first_set f) → Opened file h f start
opened {file} {h} {f} checked read first =
    let same : f ≡ decoded file = read (decoded file) checked.0 in
    let is : IsFile file f = subst (IsFile file) (sym same) checked.0 in
    record {
      is_file = is;
      words = ap (λ (z : Header). z.words) checked.1 ∙ ap (λ (z : Acceptor). z.words) (sym same);
      final = ap (λ (z : Header). z.final_node) checked.1 ∙ ap (λ (z : Acceptor). z.final) (sym same);
      starts = first is.fit;
    }

-- what the search answers, from the set of its first entry and in tables of n rows and m arcs
abbrev pub Searched : Acceptor → List ℕ → (n m : ℕ) → List (NumberSet NodeNo) → List (Move StateNo) → Result Count Stop → Type 0
Searched f start n m rows arcs r =
    Answered (within (subset_search f) (min n 1024) (min m 16384)) start thing plain_number rows arcs r

-- every set has a place
always_room : (f : Acceptor) (n m q : ℕ) → Refused (limits f n m) (first_set f) (Room q) → ⊥
unfolding limits
always_room f n m q (met p h (no_room x g k lacks)) = lacks tt

module _ {file : List ℕ} {h : Header} {f : Acceptor} {start : List ℕ} (k : Opened file h f start) where
  from_first : (n m : ℕ) {rows : List (NumberSet NodeNo)} {arcs : List (Move StateNo)} {r : Result Count Stop} → Searched f start n m rows arcs r
      → Answered (limits f n m) (first_set f) thing plain_number rows arcs r
  unfolding limits
  from_first n m {rows} {arcs} {r} a =
      subst (λ (z : List ℕ). Answered (within (subset_search f) (min n 1024) (min m 16384)) z thing plain_number rows arcs r) k.starts a

  pub not_numbered : {l : Lengths} {rows : List (NumberSet NodeNo)} {arcs : List (Move StateNo)} (stop : Stop) → Searched f start l.rows l.arcs rows arcs (Err stop)
      → FileRefusal file l (refusal (fault_of stop))
  not_numbered {l} (Room q) a = absurd (always_room f l.rows l.arcs q (from_first l.rows l.arcs a).found)
  not_numbered {l} (Entry n) a = acceptor f k.is_file (set_limit n (from_first l.rows l.arcs a).found)
  not_numbered {l} (Arrow q n) a = acceptor f k.is_file (arc_limit q n (from_first l.rows l.arcs a).found)

  -- once the sets were numbered
  module _ {ready : List (NumberSet NodeNo) → Type 0} {rows : List (NumberSet NodeNo)} {arcs : List (Move StateNo)} {c : Count} (held : Held ready rows arcs c) where
    state_count : length (take c.entries rows) ≡ c.entries
    state_count = length-take-le c.entries rows held.entries_fit

    set_count : length (sets (take c.entries rows)) ≡ c.entries
    set_count = length-map (take c.entries rows) thing ∙ state_count

    arc_rows : length (take c.moves arcs) ≡ c.moves
    arc_rows = length-take-le c.moves arcs held.moves_fit

    arc_count : length (arrows (take c.moves arcs)) ≡ c.moves
    arc_count = length-map (take c.moves arcs) (arrow plain_number) ∙ arc_rows

    counts : (n m : ℕ) → Searched f start n m rows arcs (Ok c) → (c.entries ≤ min n 1024) × (c.moves ≤ min m 16384)
    unfolding limits
    counts n m a =
        let w = whole_fits (limits f n m) (first_set f) _ _ (from_first n m a).found in
        (omega (arith, w.0, set_count), omega (arith, w.1, arc_count))

    -- the acceptor that is written
    abbrev d : Determined
    d = determined h.words (take c.entries rows) (record { 0 = h.final_node }) (take c.moves arcs)

    determinised : (n m : ℕ) → Searched f start n m rows arcs (Ok c) → Determinised f d
    unfolding limits
    determinised n m a =
        record {
          sets = sets (take c.entries rows);
          numbered = (from_first n m a).fits.numbered;
          words_are = k.words;
          states_are = state_count ∙ sym set_count;
          finals_are = ap (λ (n : ℕ). map (λ (set : List ℕ). any (eqb n) set) (sets (take c.entries rows))) k.final;
        }

    pub not_written : {l : Lengths} {needed : ℕ} → Searched f start l.rows l.arcs rows arcs (Ok c) → needed ≡ determined_length d → l.out < determined_length d
        → FileRefusal file l (told 16 needed)
    not_written {l} a e short =
        let few = counts l.rows l.arcs a in
        subst (λ (n : ℕ). FileRefusal file l (told 16 n)) (sym e)
        (acceptor f k.is_file
        (output d (determinised l.rows l.arcs a) (omega (arith, state_count)) (omega (arith, arc_count)) short))

    pub written : {l : Lengths} {out out' : List ℕ} {n : ℕ} → Searched f start l.rows l.arcs rows arcs (Ok c) → FileWritten d out out' n
        → DeterminisedIn f l out out' (record { states = c.entries; arcs = c.moves })
    written {l} {out} a w =
        let few = counts l.rows l.arcs a in let t = determinised l.rows l.arcs a in
        record {
          acceptor = d;
          is = t;
          states_fit = omega (arith, state_count);
          arcs_fit = omega (arith, arc_count);
          out_is = w.is ∙ ap (λ (k : ℕ). file_of d ++ drop k out) w.length_used;
          state_count = sym state_count;
          arc_count = sym arc_count;
          fit = fits f k.is_file.fit t (omega (arith, state_count)) (omega (arith, arc_count));
          same_sentences = (subset_laws f (fit_range f k.is_file.fit)).same_sentences d t;
        }
