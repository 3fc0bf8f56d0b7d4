-- An end that tells yes or no has the verdict on the words that the tally has for its turn.
use Rattle.std.proofs.Common.{◌≡◌, ℕ, Bool, subst₂}
use mathlib.Core.Option.{some}
use Rattle.promise.specs.Acceptors.{Automaton}
use Rattle.promise.specs.Positions.{Position, says_yes}
use Rattle.promise.specs.States.{Turn, State}
use Rattle.promise.specs.Calls.{Call, Answer}
use Rattle.promise.specs.Calls.Call.{end}
use Rattle.promise.specs.Calls.Answer.{told}
use Rattle.promise.specs.Steps.{InUse, Step}
use Rattle.promise.specs.Steps.Step.{added, compiled, determinised, none_open, opened, no_file, no_place, begun, heard, ended}
use Rattle.promise.specs.Steps.Step.{word_unbegun, end_unbegun, word_unknown, turn_unusable}
use Rattle.promise.specs.Histories.{Start}
use Rattle.promise.specs.Tallies.{Tally}
use Rattle.promise.specs.Leaving.{LeftAs}
use Rattle.promise.specs.Promises.{Judged}
use Rattle.promise.proofs.Verdicts.{verdict}
use Rattle.promise.proofs.Turns.{seen}
use Rattle.promise.proofs.Answering.{words_of_turn, answer_is}

module _ (o : Start) (y : Tally) {s : State} (l : LeftAs o y s) where
  judged_end : {i : ℕ} {says : Bool} {u : Turn} {a : Automaton} {p : Position} → InUse s i u a → u.at ≡ some p → says ≡ says_yes a p → Judged y i says
  judged_end {says = says} h at_p is =
      let k = seen l h in let w = words_of_turn o y l k at_p in
      record {
        turn = k.turn;
        note = k.note;
        sentence = w.words;
        on = k.on;
        words = w.are;
        verdict = verdict k.note k.fit k.made w.words says (answer_is o y l k w is);
      }

  pub judged_step : {c : Call} {a : Answer} {s' : State} → Step s c a s' → (i : ℕ) (says : Bool) → c ≡ end i → a ≡ told says → Judged y i says
  judged_step (added r table h e) i says p q = absurd cc
  judged_step (compiled r bytes h e) i says p q = absurd cc
  judged_step (determinised r bytes is_open h e) i says p q = absurd cc
  judged_step (none_open h e) i says p q = absurd cc
  judged_step (opened a f h e) i says p q = absurd cc
  judged_step (no_file f e) i says p q = absurd cc
  judged_step (no_place a f h e) i says p q = absurd cc
  judged_step (begun u a h e) i says p q = absurd cc
  judged_step (heard u a at h at_p x e) i says p q = absurd cc
  judged_step (ended {i = j} {says = b} u a at h at_p is e) i says p q =
      let same_turn : j ≡ i = cc in let same_word : b ≡ says = cc in subst₂ (Judged y) same_turn same_word (judged_end h at_p is)
  judged_step (word_unbegun u a h at_none e) i says p q = absurd cc
  judged_step (end_unbegun u a h at_none e) i says p q = absurd cc
  judged_step (word_unknown u a at h at_p x e) i says p q = absurd cc
  judged_step (turn_unusable on h e) i says p q = absurd cc
