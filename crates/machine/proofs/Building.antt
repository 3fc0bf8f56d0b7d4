-- From what the search answers to the machine.
use Rattle.std.proofs.Common.{◌≡◌, ℕ, zero, suc, ◌≤◌, min, List, [], ◌∷◌, length, take, Some, None, Ok, Err, Result, sym, ◌∙◌, subst, arith, length-take-le}
use mathlib.Core.List.{Memᴰ}
use lib.ListN.{length-map}
use Rattle.book.specs.declared.reader.Summary.{Summary}
use Rattle.book.specs.Grammar.{Grammar}
use Rattle.book.specs.Tables.{Holds}
use Rattle.book.proofs.Held.{Known}
use Rattle.table.specs.declared.sets.NumberSet.{NumberSet}
use Rattle.table.specs.declared.numbers.ItemNo.{ItemNo}
use Rattle.table.specs.declared.numbers.StateNo.{StateNo}
use Rattle.table.specs.Lists.{StandsAt}
use Rattle.table.specs.Sets.{members}
use Rattle.table.proofs.Lists.{stands_map, stands_unmap}
use Rattle.table.proofs.Rows.{members_in, in_members}
use Rattle.finding.specs.declared.moves.Move.{Move}
use Rattle.finding.specs.declared.moves.Count.{Count}
use Rattle.finding.specs.declared.moves.Stop.{Stop}
use Rattle.finding.specs.declared.moves.Stop.TheVariants.{Room, Entry, Arrow}
use Rattle.finding.specs.Finding.{arrow, within, Refused}
use Rattle.finding.specs.Finding.Refused.{met}
use Rattle.finding.specs.Finding.Stopped.{no_room}
use Rattle.finding.specs.Spaces.{Answered}
use Rattle.theory.specs.Closure.{initial}
use Rattle.theory.specs.Machine.{Machine, MachineLaws}
use Rattle.theory.proofs.Items.{fit_sound}
use Rattle.theory.proofs.States.{machine_laws}
use Rattle.machine.specs.declared.items.Items.{Items}
use Rattle.machine.specs.Index.{Indexed}
use Rattle.machine.specs.Closing.{ItemsOf, KernelOf}
use Rattle.machine.specs.Reading.{machine_search, item_search, Readied}
use Rattle.machine.specs.Machines.{refusal, sets, arrows, limits, MachineRefusal, MachineIn, FoundFinal, fault_of}
use Rattle.machine.specs.Machines.MachineRefusal.{state_limit, move_limit}
use Rattle.machine.proofs.Gotos.{grammar_read, closed_kernel, thing}

pub items_of : {t : List ℕ} {s : Summary} (k : Known t s) (items : Items) → items.words ≡ s.words
    → ((g : Grammar) → Holds t g → Indexed g items.after items.head items.next) → ItemsOf k.grammar items
items_of k items w x = record { fit = k.holds.fit; words = w ∙ sym k.words; indexed = x k.grammar k.holds }

pub ready_start : {t : List ℕ} (g : Grammar) (items : Items) (start : NumberSet ItemNo) → Holds t g → ItemsOf g items → members start.words ≡ initial g → Readied t items (start ∷ [])
ready_start {t} g items start h of e =
    record { grammar = g; holds = h; of = of; each = λ k s at. one k s at }
  where
    one : (k : ℕ) (s : NumberSet ItemNo) → StandsAt (start ∷ []) k s → KernelOf g s.words
    one zero s at = let q : start ≡ s = cc in subst (λ (z : NumberSet ItemNo). KernelOf g z.words) q (closed_kernel g (0 ∷ []) start.words start.row e)
    one (suc k) s at = absurd (cc)

abbrev plain_number : StateNo → ℕ
plain_number s = s.0

-- what a search of the table's machine answered, for the grammar that the table holds
pub record Searched (t : List ℕ) (room moves-room : ℕ) (rows : List (NumberSet ItemNo)) (moves : List (Move StateNo)) (r : Result Count Stop) : Type 0 where
  pub grammar : Grammar
  pub held : Holds t grammar
  pub answer : Answered (limits grammar room moves-room) (initial grammar) thing plain_number rows moves r

always_room : (g : Grammar) (states moves q : ℕ) → Refused (limits g states moves) (initial g) (Room q) → ⊥
unfolding limits machine_search
always_room g states moves q (met p f (no_room x l k n)) = n tt

module _ {t : List ℕ} {room moves-room : ℕ} {rows : List (NumberSet ItemNo)} {moves : List (Move StateNo)} where
  pub searched : {s : Summary} (k : Known t s) (items : Items) → items.words ≡ s.words → ((g : Grammar) → Holds t g → Indexed g items.after items.head items.next)
      → (start : NumberSet ItemNo) → ((g : Grammar) → ItemsOf g items → members start.words ≡ initial g)
      → (r : Result Count Stop) → Answered (within (item_search t) (min room 1024) (min moves-room 16384)) (members start.words) thing plain_number rows moves r
      → Searched t room moves-room rows moves r
  unfolding limits
  searched k items w x start is r a =
      record {
        grammar = k.grammar;
        held = k.holds;
        answer = subst (λ z. Answered (within (machine_search k.grammar) (min room 1024) (min moves-room 16384)) z thing plain_number rows moves r) (is k.grammar (items_of k items w x))
            (subst (λ (z : Grammar). Answered (within (machine_search z) (min room 1024) (min moves-room 16384)) (members start.words) thing plain_number rows moves r) (grammar_read k.holds) a);
      }

  pub refuses : (stop : Stop) → Searched t room moves-room rows moves (Err stop) → MachineRefusal t room moves-room (refusal (fault_of stop))
  refuses (Room q) s = absurd (always_room s.grammar room moves-room q s.answer.found)
  refuses (Entry n) s = state_limit s.grammar n s.held s.answer.found
  refuses (Arrow q n) s = move_limit s.grammar q n s.held s.answer.found

  module _ (c : Count) (s : Searched t room moves-room rows moves (Ok c)) (n-in : c.entries ≤ length rows) (m-in : c.moves ≤ length moves) where
    abbrev g : Grammar
    g = s.grammar

    is_machine : Machine g (sets c.entries rows) (arrows c.moves moves)
    unfolding limits machine_search
    is_machine = s.answer.fits.numbered

    laws : MachineLaws g (sets c.entries rows) (arrows c.moves moves)
    laws = machine_laws g (fit_sound g s.held.fit) is_machine

    pub counts : (c.entries ≤ min room 1024) × (c.moves ≤ min moves-room 16384)
    unfolding limits
    counts = (
      omega (arith, s.answer.fits.few, length-map (take c.entries rows) thing, length-take-le c.entries rows n-in),
      omega (arith, s.answer.fits.few_moves, length-map (take c.moves moves) (arrow plain_number), length-take-le c.moves moves m-in),
    )

    pub has_final : FoundFinal (take c.entries rows) None → ⊥
    has_final none =
        let (i, m, f) = laws.final in
        let (e, at, same) = stands_unmap thing (take c.entries rows) i f.set f.at in
        none i e at (members_in e.words 1 (subst (Memᴰ 1) (sym same) f.member))

    pub built : (last : StateNo) → FoundFinal (take c.entries rows) (Some last) → length rows ≡ room → length moves ≡ moves-room
        → MachineIn t rows moves (record { states = c.entries; moves = c.moves; final_state = last })
    built last (e, at, i) long wide =
        record {
          grammar = g;
          held = s.held;
          states_fit = subst (λ k. c.entries ≤ min k 1024) (sym long) counts.0;
          moves_fit = subst (λ k. c.moves ≤ min k 16384) (sym wide) counts.1;
          machine = is_machine;
          laws = laws;
          final = record { set = members e.words; at = stands_map thing (take c.entries rows) last.0 e at; member = in_members e.words e.row 1 i };
        }
