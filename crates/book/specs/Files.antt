-- Book files, and what load and save answer and leave.
--
-- A book file is the three bytes PGB, the version 1, and the entries of the book, each number in two bytes, the low one first.
use Rattle.std.specs.Prelude.{◌≡◌, ℕ, ◌+◌, ◌*◌, ◌/◌, ◌%◌, ◌<◌, ◌≤◌, List, [], ◌∷◌, ◌++◌, length, take, drop, Ok, Err, codes, Result, ◌≢◌, slice_index, slice_index_or}
use Rattle.std.specs.List.{flat_map}
use Rattle.book.specs.declared.fault.Refusal.{Refusal}
use Rattle.book.specs.declared.fault.BookFault.{BookFault}
use Rattle.book.specs.Grammar.{Grammar}
use Rattle.book.specs.Reading.{numbers}
use Rattle.book.specs.Refusals.{told, refusal}
use Rattle.book.specs.Tables.{entries, used, Holds}
use Rattle.book.specs.Flaws.{TableFault}
use Rattle.book.specs.Edits.{Written}

-- the two bytes of a number, the low one first
abbrev pub bytes_of : ℕ → List ℕ
bytes_of n = n % 256 ∷ (n / 256 ∷ [])

-- the file of these entries
abbrev pub file_of : List ℕ → List ℕ
file_of es = codes "PGB" ++ (bytes_of 1 ++ flat_map bytes_of es)

-- the file is long enough, has its mark and version, and no half number at its end
pub record Marked (file : List ℕ) : Type 0 where
  pub long : 5 ≤ length file
  pub mark : take 3 file ≡ codes "PGB"
  pub version : slice_index_or file 3 0 + 256 * slice_index file 4 ≡ 1
  pub whole : length file % 2 ≡ 1

-- the first of these that is not so
pub data MarkFault (file : List ℕ) : Refusal → Type 0 where
  short : length file < 5 → MarkFault file (told 9 (length file))
  mark : 5 ≤ length file → (take 3 file ≢ codes "PGB") → MarkFault file (told 8 0)
  version : 5 ≤ length file → take 3 file ≡ codes "PGB" → (slice_index file 3 + 256 * slice_index file 4 ≢ 1) → MarkFault file (told 8 3)
  half : 5 ≤ length file → take 3 file ≡ codes "PGB" → slice_index file 3 + 256 * slice_index file 4 ≡ 1 → length file % 2 ≡ 0
      → MarkFault file (told 9 (length file))

-- why load refuses: mark and length, the entries' first fault, entries left over, then no room in the table
pub data LoadFault (file : List ℕ) (room : ℕ) : Refusal → Type 0 where
  marked : {f : Refusal} → MarkFault file f → LoadFault file room f
  book : {f : Refusal} → Marked file → TableFault (numbers (drop 5 file)) f → LoadFault file room f
  left_over : (g : Grammar) → Marked file → Holds (numbers (drop 5 file)) g → used g < length (numbers (drop 5 file))
      → LoadFault file room (told 9 (length file))
  no_room : (g : Grammar) → Marked file → Holds (numbers (drop 5 file)) g → used g ≡ length (numbers (drop 5 file)) → room < used g
      → LoadFault file room (told 7 (used g))

-- the file is that of g, whose n entries the table t' now begins with; saved again they give the same bytes
pub record FromFile (file t t' : List ℕ) (n : ℕ) : Type 0 where
  pub grammar : Grammar
  pub file_is : file ≡ file_of (entries grammar)
  pub written : Written t grammar t' n
  pub back : file_of (take n t') ≡ file

abbrev pub Loaded : List ℕ → List ℕ → Result ℕ BookFault → List ℕ → Type 0
Loaded file t (Ok n) t' = FromFile file t t' n
Loaded file t (Err f) t' = LoadFault file (length t) (refusal f) × (t' ≡ t)

-- why save refuses: the book's own fault, then an output too short
pub data SaveFault (t : List ℕ) (room : ℕ) : Refusal → Type 0 where
  book : {f : Refusal} → TableFault t f → SaveFault t room f
  short : (g : Grammar) → Holds t g → room < 5 + 2 * used g → SaveFault t room (told 16 (5 + 2 * used g))

-- the output begins with the n bytes of the file of g; read again they give the same entries
pub record ToFile (t out out' : List ℕ) (n : ℕ) : Type 0 where
  pub grammar : Grammar
  pub held : Holds t grammar
  pub length_used : n ≡ 5 + 2 * used grammar
  pub file_is : out' ≡ file_of (entries grammar) ++ drop n out
  pub back : numbers (drop 5 (take n out')) ≡ take (used grammar) t

abbrev pub Saved : List ℕ → List ℕ → Result ℕ BookFault → List ℕ → Type 0
Saved t out (Ok n) out' = ToFile t out out' n
Saved t out (Err f) out' = SaveFault t (length out) (refusal f) × (out' ≡ out)

-- what the check of a file's mark answers
abbrev pub MarkChecked : List ℕ → Result (Unit {0}) BookFault → Type 0
MarkChecked file (Ok u) = Marked file
MarkChecked file (Err f) = MarkFault file (refusal f)
