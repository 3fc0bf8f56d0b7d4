-- The undivided promise over any list of calls: every answer is the one due, every end has its verdict, and the state is left as the tally says.
use Rattle.std.specs.Prelude.{◌≡◌, ℕ, Bool, true, ◌⊎◌, ◌↔◌, List, [], ◌∷◌}
use Rattle.std.proofs.Math.Option.{some}
use Rattle.book.specs.Grammar.{Derives, LeftLinear, RightLinear}
use Rattle.theory.specs.Policies.{Meaning, FinerOn}
use Rattle.promise.specs.Acceptors.{Kind, Automaton, Passed, Made}
use Rattle.promise.specs.States.{State}
use Rattle.promise.specs.Calls.{Call, Answer}
use Rattle.promise.specs.Calls.Call.{end}
use Rattle.promise.specs.Calls.Answer.{told}
use Rattle.promise.specs.Histories.{Start, History, Reached, InOrder}
use Rattle.promise.specs.Tallies.{Note, TurnTally, Tally, tally}
use Rattle.promise.specs.Leaving.{MadeOf, LeftAs}
use Rattle.promise.specs.Dues.{OnNote, Due}

-- what a yes or no means for the words w, where the file was made of the note
pub record Verdict (n : Note) (k : Kind) (w : List ℕ) (says : Bool) : Type 0 where
  -- yes exactly when the words lead to a final place of the file
  pub passed : (a : Automaton) → MadeOf n k a → (says ≡ true) ↔ Passed a w
  -- nothing is lost: a sentence that the grammar derives gets yes
  pub nothing_lost : Derives n.grammar w → says ≡ true
  -- where the grammar is left-linear or right-linear, yes exactly for what it derives
  pub exact : LeftLinear n.grammar ⊎ RightLinear n.grammar → (says ≡ true) ↔ Derives n.grammar w
  -- what a finer policy passes, in either kind of file, gets yes
  pub finer : (m : Meaning) → FinerOn n.grammar m n.meaning → (j : Kind) (a : Automaton) → Made n.grammar m j a → Passed a w → says ≡ true

-- the verdict on the words that the tally has for turn i
pub record Judged (y : Tally) (i : ℕ) (says : Bool) : Type 0 where
  pub turn : TurnTally
  pub note : Note
  pub sentence : List ℕ
  pub on : OnNote y i turn note
  pub words : turn.words ≡ some sentence
  pub verdict : Verdict note turn.kind sentence says

-- a call is answered as it is due, and where it is an end that tells yes or no, the verdict holds
pub record Rightly (o : Start) (y : Tally) (c : Call) (a : Answer) : Type 0 where
  pub due : Due o y c a
  pub judged : (i : ℕ) (says : Bool) → c ≡ end i → a ≡ told says → Judged y i says

-- every call of the history was answered rightly, by the tally of the calls before it
abbrev pub AllRightly : Start → History → Type 0
AllRightly o [] = Unit {0}
AllRightly o (e ∷ h) = Rightly o (tally o h) e.0 e.1 × AllRightly o h

-- the answers of the history are right, and it leaves the state as its tally says, ready for every call
pub record Promise (o : Start) (h : History) (s : State) : Type 0 where
  pub answers : AllRightly o h
  pub leaves : LeftAs o (tally o h) s
  pub in_order : InOrder s

-- the promise is kept in every state that calls lead to
abbrev pub Kept : Type 0
Kept = (o : Start) (h : History) (s : State) → Reached o h s → Promise o h s
