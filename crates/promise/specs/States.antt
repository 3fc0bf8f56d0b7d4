-- What a session holds between two calls, and how a call changes it.
use Rattle.std.specs.Prelude.{ℕ, Bool, true, false, List, [], ◌∷◌, ◌++◌, map, take, slice_set}
use Rattle.std.proofs.Math.Option.{Option, none, some}
use Rattle.promise.specs.Acceptors.{Kind, pick}
use Rattle.promise.specs.Acceptors.Kind.{pga, pgd}
use Rattle.promise.specs.Positions.{Position}

-- a lent buffer, how many of its bytes are the file, and whether that file is open
pub record Slot : Type 0 where
  pub bytes : List ℕ
  pub used : ℕ
  pub opened : Bool

-- the bytes of the file
abbrev pub file : Slot → List ℕ
file s = take s.used s.bytes

-- a turn on the file of a kind: whether it is still in use, and where it stands once it has begun
pub record Turn : Type 0 where
  pub kind : Kind
  pub live : Bool
  pub at : Option Position

-- the whole book table, the two files, the turns by number, and how many turns have a place
pub record State : Type 0 where
  pub book : List ℕ
  pub pga : Slot
  pub pgd : Slot
  pub turns : List Turn
  pub places : ℕ

-- the slot of a kind
abbrev pub slot_of : State → Kind → Slot
slot_of s k = pick s.pga s.pgd k

-- the book table is now this
abbrev pub with_book : List ℕ → State → State
with_book table s = record { book = table; pga = s.pga; pgd = s.pgd; turns = s.turns; places = s.places }

-- whether a turn is in use after the file of a kind was taken for writing
abbrev pub stays_live : (taken own : Kind) → Bool → Bool
stays_live pga pga b = false
stays_live pga pgd b = b
stays_live pgd pga b = b
stays_live pgd pgd b = false

abbrev pub retired : Kind → Turn → Turn
retired k u = record { kind = u.kind; live = stays_live k u.kind u.live; at = u.at }

-- the file of a kind was taken for writing: its turns go out of use, its opening ends, and it is now these bytes
abbrev pub taken : Kind → List ℕ → ℕ → State → State
taken k bytes used s =
    let slot : Slot = record { bytes = bytes; used = used; opened = false } in
    record { book = s.book; pga = pick slot s.pga k; pgd = pick s.pgd slot k; turns = map (retired k) s.turns; places = s.places }

abbrev pub open_slot : Slot → Slot
open_slot s = record { bytes = s.bytes; used = s.used; opened = true }

abbrev pub unbegun : Kind → Turn
unbegun k = record { kind = k; live = true; at = none }

-- the file of a kind is open, and has one more turn, unbegun
abbrev pub with_turn : Kind → State → State
with_turn k s =
    record {
      book = s.book;
      pga = pick (open_slot s.pga) s.pga k;
      pgd = pick s.pgd (open_slot s.pgd) k;
      turns = s.turns ++ (unbegun k ∷ []);
      places = s.places;
    }

-- turn i, which is u, now stands at a position
abbrev pub standing : ℕ → Turn → Position → State → State
standing i u p s =
    record {
      book = s.book;
      pga = s.pga;
      pgd = s.pgd;
      places = s.places;
      turns = slice_set s.turns i (record { kind = u.kind; live = u.live; at = some p });
    }
