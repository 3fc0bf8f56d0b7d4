-- What a book's fault tells: the number of its cause, its layer, and its place.
use Rattle.std.specs.Prelude.{ℕ, List, ◌++◌, codes, decimal}
use Rattle.book.specs.declared.fault.Refusal.{Refusal}
use Rattle.book.specs.declared.fault.BookFault.{BookFault}
use Rattle.book.specs.declared.fault.BookFault.TheVariants.{EntryMissing, HeaderRange, LeftNotName, SideTooLong, SymbolUnknown, TooManyItems, NoRoom, WrongMark, WrongLength, OutputShort}

-- a refusal of the book's layer, by number and place
abbrev pub told : ℕ → ℕ → Refusal
told n p = record { number = n; layer = 1; place = p }

-- the refusal that a fault stands for
abbrev pub refusal : BookFault → Refusal
refusal (EntryMissing i) = told 1 i
refusal (HeaderRange i) = told 2 i
refusal (LeftNotName i) = told 3 i
refusal (SideTooLong i) = told 4 i
refusal (SymbolUnknown i) = told 5 i
refusal (TooManyItems i) = told 6 i
refusal (NoRoom n) = told 7 n
refusal (WrongMark i) = told 8 i
refusal (WrongLength n) = told 9 n
refusal (OutputShort n) = told 16 n

-- a refusal as it is printed: `refused 3 layer 1 place 4`
abbrev pub refusal_line : Refusal → List ℕ
refusal_line r =
    codes "refused " ++ (decimal r.number ++ (codes " layer " ++ (decimal r.layer ++ (codes " place " ++ decimal r.place))))
