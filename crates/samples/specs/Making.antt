-- What is left of a table where a book is made, header first and then rule by rule.
use Rattle.std.specs.Prelude.{◌≡◌, ℕ, ◌+◌, ◌<◌, List, length, take, Ok, Err, Result}
use Rattle.book.specs.declared.fault.Refusal.{Refusal}
use Rattle.book.specs.declared.fault.BookFault.{BookFault}
use Rattle.book.specs.Grammar.{Grammar}
use Rattle.book.specs.Refusals.{told, refusal}
use Rattle.book.specs.Tables.{used}
use Rattle.book.specs.Edits.{Written}

-- the grammar of the first k rules
abbrev pub first : ℕ → Grammar → Grammar
first k g = record { words = g.words; names = g.names; start = g.start; rules = take k g.rules }

-- why the book of g was not made: there is no room for the header, or none for the rule after the first k, which the table then holds
pub data Stopped (t : List ℕ) (g : Grammar) (t' : List ℕ) : Refusal → Type 0 where
  header : length t < 4 → t' ≡ t → Stopped t g t' (told 7 4)
  rule : (k : ℕ) → k < length g.rules → length t < used (first (k + 1) g) → Written t (first k g) t' (used (first k g))
      → Stopped t g t' (told 7 (used (first k g)))

-- the table begins with the entries of g, whose length is told, and is otherwise as it was; or it is too short
abbrev pub Made : List ℕ → Grammar → Result ℕ BookFault → List ℕ → Type 0
Made t g (Ok n) t' = Written t g t' n
Made t g (Err f) t' = Stopped t g t' (refusal f)
