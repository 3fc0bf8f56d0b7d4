-- A session from beginning to verdict: the grammar whose one rule is S → ε, compiled under one class.
use Rattle.std.specs.Prelude.{Bool, [], ◌∷◌, replicate}
use Rattle.theory.specs.Policies.{one_class}
use Rattle.policy.specs.Classes.{no_room}
use Rattle.promise.specs.Acceptors.Kind.{pga}
use Rattle.promise.specs.States.{State}
use Rattle.promise.specs.Calls.Call.{add, compile, open_file, begin, end}
use Rattle.promise.specs.Calls.Answer.{length_used, counts, turn_number, done, told}
use Rattle.promise.specs.Histories.{Start, History, Reached}

-- one word and one name, which is the start; six entries, nineteen bytes, and a place for one turn
abbrev pub example_start : Start
example_start = record { words = 1; names = 1; start = 1; table = replicate 6 0; pga = replicate 19 0; pgd = []; places = 1 }

-- the rule is added, the book compiled, the file opened, and the turn begun
abbrev pub example_calls : History
example_calls =
    (begin 0, done)
    ∷ ((open_file pga, turn_number 0)
    ∷ ((
      compile one_class no_room (record { states = 2; moves = 1; nodes = 2; unfolded = 1; jumps = 1 }),
      counts (record { states = 2; moves = 1; nodes = 2; unfolded = 1; arcs = 0; jumps = 1 }),
    )
    ∷ ((add 1 [], length_used 6)
    ∷ [])))

-- an end without a word is then told this
abbrev pub ExampleTells : Bool → Type 0
ExampleTells says = (s : State) × Reached example_start ((end 0, told says) ∷ example_calls) s
