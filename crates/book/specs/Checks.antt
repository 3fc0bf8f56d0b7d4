-- What the parts of the check promise.
use Rattle.std.specs.Prelude.{◌≡◌, ℕ, ◌+◌, ◌<◌, ◌≤◌, ◌⊎◌, List, length, drop, Ok, Err, Result, slice_index}
use Rattle.book.specs.declared.fault.Refusal.{Refusal}
use Rattle.book.specs.declared.fault.BookFault.{BookFault}
use Rattle.book.specs.declared.fault.BookFault.TheVariants.{EntryMissing, HeaderRange, SymbolUnknown}
use Rattle.book.specs.declared.reader.Summary.{Summary}
use Rattle.book.specs.Grammar.{Grammar}
use Rattle.book.specs.Refusals.{refusal}
use Rattle.book.specs.Tables.{items, used, Begins, Holds}
use Rattle.book.specs.Flaws.{SoundTo, InRange, HeaderFault, Right, size, RuleFault, TableFault}

-- entry i, or the fault that it is missing
abbrev pub Present : List ℕ → ℕ → Result ℕ BookFault → Type 0
Present es i (Ok v) = (i < length es) × (v ≡ slice_index es i)
Present es i (Err f) = (length es ≤ i) × (f ≡ EntryMissing i)

-- entry i of a header, which is to lie between `least` and `most`
abbrev pub Between : List ℕ → ℕ → ℕ → ℕ → Result ℕ BookFault → Type 0
Between es i least most (Ok v) = (i < length es) × (v ≡ slice_index es i) × (least ≤ v) × (v ≤ most)
Between es i least most (Err f) =
    ((length es ≤ i) × (f ≡ EntryMissing i))
    ⊎ ((i < length es) × (least ≤ slice_index es i → slice_index es i ≤ most → ⊥) × (f ≡ HeaderRange i))

-- the table's header is sound, and these are its numbers, with no rule read
pub record Headed (es : List ℕ) (s : Summary) : Type 0 where
  pub sound : SoundTo (InRange es) es 4
  pub words : s.words ≡ slice_index es 0
  pub names : s.names ≡ slice_index es 1
  pub start : s.start ≡ slice_index es 2
  pub rules : s.rules ≡ slice_index es 3
  pub takes : s.used ≡ 4
  pub has : s.items ≡ 2

abbrev pub HeaderChecked : List ℕ → Result Summary BookFault → Type 0
HeaderChecked es (Ok s) = Headed es s
HeaderChecked es (Err f) = HeaderFault es (refusal f)

-- the entries from `at` up to `end` are symbols below `bound`
abbrev pub SymbolsTo : List ℕ → ℕ → ℕ → ℕ → Type 0
SymbolsTo es at bound end = (j : ℕ) → at ≤ j → j < end → (j < length es) × (slice_index es j < bound)

-- the entry of this index is the first from `at` on that is missing or no symbol
pub record SymbolFault (es : List ℕ) (at bound end : ℕ) (f : BookFault) : Type 0 where
  pub index : ℕ
  pub within : (at ≤ index) × (index < end)
  pub before : SymbolsTo es at bound index
  pub fault : ((length es ≤ index) × (f ≡ EntryMissing index)) ⊎ ((index < length es) × (bound ≤ slice_index es index) × (f ≡ SymbolUnknown index))

-- g has the words, names, entries and items of the summary
pub record Stands (g : Grammar) (s : Summary) : Type 0 where
  pub words : g.words ≡ s.words
  pub names : g.names ≡ s.names
  pub takes : used g ≡ s.used
  pub has : items g ≡ s.items

-- the summary with the rule more that has n symbols
abbrev pub one_more : ℕ → Summary → Summary
one_more n s = record s { used = s.used + (2 + n); items = s.items + (n + 1) }

-- what is found of the rule with which xs begins, as the next rule of g
abbrev pub RuleChecked : Grammar → Summary → List ℕ → Result Summary BookFault → Type 0
RuleChecked g s xs (Ok s') =
    (s' ≡ one_more (slice_index xs 1) s) × SoundTo (Right g xs) xs (size xs) × (items g + (slice_index xs 1 + 1) ≤ 4096)
RuleChecked g s xs (Err f) = RuleFault g xs (refusal f)

-- i rules of the table are read: those of a grammar of this summary
pub record ReadTo (es : List ℕ) (s : Summary) (i : ℕ) : Type 0 where
  pub grammar : Grammar
  pub begins : Begins es s.rules grammar (drop s.used es)
  pub number : length grammar.rules ≡ i
  pub start : grammar.start ≡ s.start
  pub stands : Stands grammar s

abbrev pub summary : Grammar → Summary
summary g =
    record { words = g.words; names = g.names; start = g.start; rules = length g.rules; used = used g; items = items g }

-- the table holds a grammar of this summary, or this is its first fault
abbrev pub Checked : List ℕ → Result Summary BookFault → Type 0
Checked es (Ok s) = (g : Grammar) × Holds es g × (s ≡ summary g)
Checked es (Err f) = TableFault es (refusal f)

-- no other answer would be right: the grammar is the only one, and the fault the only first one
abbrev pub OnlyChecked : List ℕ → Result Summary BookFault → Type 0
OnlyChecked es (Ok s) = ((g g' : Grammar) → Holds es g → Holds es g' → g ≡ g') × ((f : Refusal) → TableFault es f → ⊥)
OnlyChecked es (Err f) = ((g : Grammar) → Holds es g → ⊥) × ((f' : Refusal) → TableFault es f' → f' ≡ refusal f)
