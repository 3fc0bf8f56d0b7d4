-- The steps of the calls that take a file for writing.
use Rattle.std.proofs.Common.{◌≡◌, ℕ, true, List, length, take, Result, sym, refl, ap, ◌∙◌, subst}
use Rattle.theory.specs.Policies.{Meaning}
use Rattle.policy.specs.Classes.{Room}
use Rattle.pga.specs.declared.listing.Counts.{Counts}
use Rattle.compiler.specs.declared.fault.CompileFault.{CompileFault}
use Rattle.compiler.specs.Compiling.{CompiledOr}
use Rattle.promise.specs.Acceptors.Kind.{pga, pgd}
use Rattle.determinising.specs.declared.fault.SubsetCounts.{SubsetCounts}
use Rattle.determinising.specs.declared.fault.DeterminiseFault.{DeterminiseFault}
use Rattle.determinising.specs.Determinising.{DeterminisedOr}
use Rattle.promise.specs.States.{Slot, file, State, taken}
use Rattle.promise.specs.Calls.{CompileTables, SubsetTables, compile_lengths, subset_lengths, compile_answer, determinise_answer, compiled_length, determinised_length}
use Rattle.promise.specs.Calls.Call.{compile, determinise}
use Rattle.promise.specs.Steps.{Compiles, Determinises}
use Rattle.promise.specs.Steps.Step.{compiled, determinised}
use Rattle.session.specs.Answering.{Answered}
use Rattle.session.proofs.Answering.{answers}

abbrev rewritten : Slot → List ℕ → ℕ → Slot
rewritten f bytes used = record { bytes = bytes; used = used; opened = f.opened }

-- the state with this book table, and other bytes in the PGA's buffer
abbrev pub pga_written : State → List ℕ → List ℕ → ℕ → State
pga_written s book bytes used = record { book = book; pga = rewritten s.pga bytes used; pgd = s.pgd; turns = s.turns; places = s.places }

-- the session lends its book table and its PGA's buffer to compile, and has them back
pub compile_answers : (s s₁ : State) (r : Result Counts CompileFault) {m : Meaning} {room : Room} {t : CompileTables} {book out out' : List ℕ}
    → s₁ ≡ taken pga s.pga.bytes s.pga.used s → book ≡ s₁.book → out ≡ s₁.pga.bytes → CompiledOr book m room (compile_lengths t (length out)) out r out' → length out' ≡ length out
    → Answered s (compile m room t) (compile_answer r) (pga_written s₁ book out' (compiled_length r s₁.pga.used))
compile_answers s s₁ r {m} {room} {t} {book} {out} {out'} e b f k l =
    subst (λ z. Answered s (compile m room t) (compile_answer r) (pga_written s₁ z out' (compiled_length r s₁.pga.used))) (sym b)
    (subst (λ z. Answered s (compile m room t) (compile_answer r) (pga_written z z.book out' (compiled_length r z.pga.used))) (sym e)
    (answers (λ i. compiled r out' done refl)))
  where
    done : Compiles s.book m room t s.pga.bytes r out'
    done =
        subst (λ d. Compiles d m room t s.pga.bytes r out') (b ∙ ap (λ (z : State). z.book) e)
        (subst (λ d. Compiles book m room t d r out') (f ∙ ap (λ (z : State). z.pga.bytes) e) (record { is = k; length_kept = l }))

-- the state with these bytes in the PGA's buffer, and others in the PGD's
abbrev pub pgd_written : State → List ℕ → List ℕ → ℕ → State
pgd_written s a bytes used =
    record { book = s.book; pga = rewritten s.pga a s.pga.used; pgd = rewritten s.pgd bytes used; turns = s.turns; places = s.places }

-- the session lends both buffers to determinise, and has them back
pub determinise_answers : (s s₁ : State) (r : Result SubsetCounts DeterminiseFault) {t : SubsetTables} {a bytes out out' : List ℕ}
    → s.pga.opened ≡ true → s₁ ≡ taken pgd s.pgd.bytes s.pgd.used s → a ≡ s₁.pga.bytes → bytes ≡ take s₁.pga.used a → out ≡ s₁.pgd.bytes
    → DeterminisedOr bytes (subset_lengths t (length out)) out r out' → length out' ≡ length out
    → Answered s (determinise t) (determinise_answer r) (pgd_written s₁ a out' (determinised_length r s₁.pgd.used))
determinise_answers s s₁ r {t} {a} {bytes} {out} {out'} o e f g h k l =
    subst (λ z. Answered s (determinise t) (determinise_answer r) (pgd_written s₁ z out' (determinised_length r s₁.pgd.used))) (sym f)
    (subst (λ z. Answered s (determinise t) (determinise_answer r) (pgd_written z z.pga.bytes out' (determinised_length r z.pgd.used))) (sym e)
    (answers (λ i. determinised r out' o done refl)))
  where
    is_file : bytes ≡ file s.pga
    is_file = g ∙ ap (take s₁.pga.used) f ∙ ap (λ (z : State). file z.pga) e

    done : Determinises (file s.pga) t s.pgd.bytes r out'
    done =
        subst (λ b. Determinises b t s.pgd.bytes r out') is_file
        (subst (λ b. Determinises bytes t b r out') (h ∙ ap (λ (z : State). z.pgd.bytes) e) (record { is = k; length_kept = l }))
