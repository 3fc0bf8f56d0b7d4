-- The steps of open.
use Rattle.std.proofs.Common.{◌≡◌, ℕ, ◌<◌, List, length, sym, subst}
use Rattle.theory.specs.Flattening.{Acceptor}
use Rattle.theory.specs.Subsets.{Determined}
use Rattle.pga.specs.Files.{IsFile as IsPga}
use Rattle.pgd.specs.Files.{IsFile as IsPgd}
use Rattle.promise.specs.Acceptors.{Kind, Automaton, IsFileOf}
use Rattle.promise.specs.Acceptors.Kind.{pga, pgd}
use Rattle.promise.specs.Acceptors.Automaton.{flat, subset}
use Rattle.promise.specs.Acceptors.IsFileOf.{is_pga, is_pgd}
use Rattle.promise.specs.States.{State, file, slot_of, with_turn}
use Rattle.promise.specs.Calls.Call.{open_file}
use Rattle.promise.specs.Calls.Answer.{turn_number}
use Rattle.promise.specs.Steps.Step.{opened}
use Rattle.session.specs.Answering.{Answered}
use Rattle.session.proofs.Answering.{answers}

-- bytes that are a file of one kind or the other
pub pga_file : {bytes used : List ℕ} (f : Acceptor) → bytes ≡ used → IsPga bytes f → (a : Automaton) × IsFileOf pga used a
pga_file f e k = (flat f, is_pga (subst (λ b. IsPga b f) e k))

pub pgd_file : {bytes used : List ℕ} (d : Determined) → bytes ≡ used → IsPgd bytes d → (a : Automaton) × IsFileOf pgd used a
pgd_file d e k = (subset d, is_pgd (subst (λ b. IsPgd b d) e k))

pub open_answers : (k : Kind) (s s' : State) (n : ℕ) → (a : Automaton) × IsFileOf k (file (slot_of s k)) a → length s.turns < s.places → n ≡ length s.turns
    → s' ≡ with_turn k s → Answered s (open_file k) (turn_number n) s'
open_answers k s s' n f l e is = subst (λ m. Answered s (open_file k) (turn_number m) s') (sym e) (answers (λ i. opened f.0 f.1 l is))
