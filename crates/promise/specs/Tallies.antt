-- The tally of a history: what calls and answers alone say of the grammar, the files and the turns.
use Rattle.std.specs.Prelude.{ℕ, zero, suc, Bool, true, false, List, [], ◌∷◌, ◌++◌, map}
use Rattle.std.proofs.Math.Option.{Option, none, some}
use Rattle.book.specs.Grammar.{rule, Grammar, with_rule}
use Rattle.theory.specs.Policies.{Meaning}
use Rattle.promise.specs.Acceptors.{Kind, pick}
use Rattle.promise.specs.Acceptors.Kind.{pga, pgd}
use Rattle.promise.specs.States.{stays_live}
use Rattle.promise.specs.Calls.{Call, Answer}
use Rattle.promise.specs.Calls.Call.{add, compile, open_file, determinise, begin, word, end}
use Rattle.promise.specs.Calls.Answer.{length_used, counts, turn_number, subset_counts, done, told, refused, unusable, turns_full}
use Rattle.promise.specs.Histories.{Start, first_grammar, History}

-- what a file was made from: the grammar at that time, and the policy's meaning
pub record Note : Type 0 where
  pub grammar : Grammar
  pub meaning : Meaning

-- the note of a file that has bytes, and whether the file is open
pub record FileTally : Type 0 where
  pub note : Option Note
  pub opened : Bool

-- a turn: its file's kind, whether it is in use, and its words since it began
pub record TurnTally : Type 0 where
  pub kind : Kind
  pub live : Bool
  pub words : Option (List ℕ)

pub record Tally : Type 0 where
  pub grammar : Grammar
  pub pga : FileTally
  pub pgd : FileTally
  pub turns : List TurnTally

-- the note of a kind
abbrev pub note_of : Tally → Kind → Option Note
note_of y k = pick y.pga.note y.pgd.note k

-- the file of a kind is taken for writing, and then has this note
abbrev pub noted : Kind → Option Note → Tally → Tally
noted k n y =
    let entry : FileTally = record { note = n; opened = false } in
    record {
      grammar = y.grammar;
      pga = pick entry y.pga k;
      pgd = pick y.pgd entry k;
      turns = map (λ (u : TurnTally). record { kind = u.kind; live = stays_live k u.kind u.live; words = u.words }) y.turns;
    }

abbrev pub open_note : FileTally → FileTally
open_note t = record { note = t.note; opened = true }

-- the file of a kind is open, and has one more turn, unbegun
abbrev pub turn_added : Kind → Tally → Tally
turn_added k y =
    record {
      grammar = y.grammar;
      pga = pick (open_note y.pga) y.pga k;
      pgd = pick y.pgd (open_note y.pgd) k;
      turns = y.turns ++ (record { kind = k; live = true; words = none } ∷ []);
    }

abbrev pub with_words : Option (List ℕ) → TurnTally → TurnTally
with_words w u = record { kind = u.kind; live = u.live; words = w }

-- the words of turn i are changed
abbrev pub change_words : ℕ → (Option (List ℕ) → Option (List ℕ)) → List TurnTally → List TurnTally
change_words i change [] = []
change_words zero change (u ∷ us) = with_words (change u.words) u ∷ us
change_words (suc i) change (u ∷ us) = u ∷ change_words i change us

abbrev pub with_turns : List TurnTally → Tally → Tally
with_turns us y = record { grammar = y.grammar; pga = y.pga; pgd = y.pgd; turns = us }

-- a turn that begins, or begins anew, has no words
abbrev pub no_words : Option (List ℕ) → Option (List ℕ)
no_words w = some []

abbrev pub one_more : ℕ → Option (List ℕ) → Option (List ℕ)
one_more x none = none
one_more x (some w) = some (w ++ (x ∷ []))

-- what a call that was done changes
abbrev pub carried_out : Call → Tally → Tally
carried_out (add left right) y = record { grammar = with_rule y.grammar (rule left right); pga = y.pga; pgd = y.pgd; turns = y.turns }
carried_out (compile m room t) y = noted pga (some (record { grammar = y.grammar; meaning = m })) y
carried_out (open_file k) y = turn_added k y
carried_out (determinise t) y = noted pgd y.pga.note y
carried_out (begin i) y = with_turns (change_words i no_words y.turns) y
carried_out (word i x) y = with_turns (change_words i (one_more x) y.turns) y
carried_out (end i) y = with_turns (change_words i no_words y.turns) y

-- a refused call changes nothing, but that a file taken for writing was taken
abbrev pub turned_down : Call → Tally → Tally
turned_down (add left right) y = y
turned_down (compile m room t) y = noted pga y.pga.note y
turned_down (open_file k) y = y
turned_down (determinise t) y = noted pgd y.pgd.note y
turned_down (begin i) y = y
turned_down (word i x) y = y
turned_down (end i) y = y

abbrev pub tallied : Answer → Call → Tally → Tally
tallied (length_used n) c y = carried_out c y
tallied (counts n) c y = carried_out c y
tallied (turn_number i) c y = carried_out c y
tallied (subset_counts n) c y = carried_out c y
tallied done c y = carried_out c y
tallied (told says) c y = carried_out c y
tallied (refused r) c y = turned_down c y
tallied unusable c y = y
tallied turns_full c y = y

-- the tally starts with blank's header, no rule, two files without a byte and no turn
abbrev pub tally : Start → History → Tally
tally o [] =
    record { grammar = first_grammar o; pga = record { note = none; opened = false }; pgd = record { note = none; opened = false }; turns = [] }
tally o (e ∷ h) = tallied e.1 e.0 (tally o h)
