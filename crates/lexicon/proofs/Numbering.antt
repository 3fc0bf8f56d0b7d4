-- From what the table answers of a spelling to what the lexicon answers of bytes.
use Rattle.std.proofs.Common.{◌≡◌, ℕ, ◌+◌, ◌≤◌, List, length, take, set, refl, Some, None, Option, Ok, Err, sym, subst, arith, length-take-le, length-set}
use Rattle.std.proofs.lemmas.List.{take_more_set}
use Rattle.table.specs.Found.{FoundOrAdded}
use Rattle.table.specs.Found.FoundOrAdded.{old as in_table, new as added, full as no_row}
use Rattle.lexicon.specs.declared.fault.LexiconFault.{LexiconFault}
use Rattle.lexicon.specs.declared.fault.LexiconFault.TheVariants.{Full}
use Rattle.lexicon.specs.Spellings.{Read}
use Rattle.lexicon.specs.Spellings.Read.{good, bad as no_spelling}
use Rattle.lexicon.specs.Lexicons.{Numbered}
use Rattle.lexicon.specs.Lexicons.Numbered.{old, new, full, bad}

-- what is no spelling gets no number
pub read_bad : {held : List (List ℕ)} {most : ℕ} {bytes : List ℕ} {f : LexiconFault} → Read bytes (Err f) → Numbered held most bytes (Err f) held
read_bad (no_spelling h) = bad h

-- a table keeps its rows
pub rows_kept : {E : Type 0} {rows : List E} {n : ℕ} {e : E} {r : Option ℕ} {rows' : List E} {n' : ℕ} → FoundOrAdded rows n e r rows' n' → length rows' ≡ length rows
rows_kept (in_table h) = refl
rows_kept {rows = rows} {n} {e} (added l h) = length-set rows n e
rows_kept (no_row l h) = refl

module _ (rows : List (List ℕ)) (n : ℕ) (fit : n ≤ length rows) where
  held_long : length (take n rows) ≡ n
  held_long = length-take-le n rows fit

  -- a number given
  pub number_found : {bytes s : List ℕ} {k : ℕ} {rows' : List (List ℕ)} {n' : ℕ} → Read bytes (Ok s) → FoundOrAdded rows n s (Some k) rows' n'
      → Numbered (take n rows) (length rows) bytes (Ok k) (take n' rows')
  number_found (good is) (in_table h) = old is h
  number_found {bytes = bytes} (good is) (added l h) =
      subst (λ m. Numbered (take n rows) (length rows) bytes (Ok m) (take (n + 1) (set rows n bytes))) held_long
      (subst (Numbered (take n rows) (length rows) bytes (Ok (length (take n rows)))) (sym (take_more_set rows n bytes h)) (new is l (omega (arith, held_long, h))))

  -- no row is free for a new spelling
  pub number_full : {bytes s : List ℕ} {rows' : List (List ℕ)} {n' : ℕ} → Read bytes (Ok s) → FoundOrAdded rows n s None rows' n'
      → Numbered (take n rows) (length rows) bytes (Err (Full (length (take n' rows')))) (take n' rows')
  number_full (good is) (no_row l h) = full is l (omega (arith, held_long, h))
