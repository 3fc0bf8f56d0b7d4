-- What blank and add leave in a table.
use Rattle.std.specs.Prelude.{◌≡◌, ℕ, ◌<◌, ◌≤◌, ◌⊎◌, List, [], ◌++◌, length, drop, Ok, Err, Result}
use Rattle.book.specs.declared.fault.Refusal.{Refusal}
use Rattle.book.specs.declared.fault.BookFault.{BookFault}
use Rattle.book.specs.Grammar.{Rule, Grammar, with_rule, Derives}
use Rattle.book.specs.Refusals.{told, refusal}
use Rattle.book.specs.Tables.{items, FitRule, Fit, rule_entries, entries, used, Holds}
use Rattle.book.specs.Flaws.{HeaderFault, RuleFault, TableFault}

-- the table t became t', which begins with the n entries of g; all after them is as it was
pub record Written (t : List ℕ) (g : Grammar) (t' : List ℕ) (n : ℕ) : Type 0 where
  pub holds : Holds t' g
  pub length_used : n ≡ used g
  pub is : t' ≡ entries g ++ drop (used g) t

-- the grammar of a new book
abbrev pub bare : ℕ → ℕ → ℕ → Grammar
bare words names start = record { words = words; names = names; start = start; rules = [] }

-- why blank refuses: a number out of range, then no room for the header
pub data BlankFault (g : Grammar) (room : ℕ) : Refusal → Type 0 where
  header : {f : Refusal} → HeaderFault (entries g) f → BlankFault g room f
  no_room : Fit g → room < 4 → BlankFault g room (told 7 4)

-- what blank answers and leaves
abbrev pub Blanked : List ℕ → Grammar → Result ℕ BookFault → List ℕ → Type 0
Blanked t g (Ok n) t' = Written t g t' n
Blanked t g (Err f) t' = BlankFault g (length t) (refusal f) × (t' ≡ t)

-- why add refuses: the book's own fault, the rule's fault at the indexes it would have, then no room
pub data AddFault (t : List ℕ) (r : Rule) : Refusal → Type 0 where
  book : {f : Refusal} → TableFault t f → AddFault t r f
  rule : {f : Refusal} (g : Grammar) → Holds t g → RuleFault g (rule_entries r) f → AddFault t r f
  no_room : (g : Grammar) → Holds t g → FitRule g r → items (with_rule g r) ≤ 4096
      → (length g.rules ≡ 2048) ⊎ (length t < used (with_rule g r)) → AddFault t r (told 7 (used g))

-- the rule is appended, and every sentence that was derived still is
pub record Added (t : List ℕ) (r : Rule) (t' : List ℕ) (n : ℕ) : Type 0 where
  pub before : Grammar
  pub held : Holds t before
  pub written : Written t (with_rule before r) t' n
  pub keeps : (w : List ℕ) → Derives before w → Derives (with_rule before r) w

-- what add answers and leaves
abbrev pub AddedOr : List ℕ → Rule → Result ℕ BookFault → List ℕ → Type 0
AddedOr t r (Ok n) t' = Added t r t' n
AddedOr t r (Err f) t' = AddFault t r (refusal f) × (t' ≡ t)
