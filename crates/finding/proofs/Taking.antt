-- The turn that takes one move, as the tables show it, and what stops it.
use Rattle.std.proofs.Common.{◌≡◌, ℕ, ◌+◌, ◌<◌, ◌≤◌, ◌≢◌, List, [], ◌∷◌, ◌++◌, map, length, take, set, Some, None, Option, sym, ap, ◌∙◌, subst, inl, inr, arith, length-set, length-take-le}
use mathlib.Core.Option.{some}
use lib.ListN.{length-map}
use Rattle.std.proofs.lemmas.List.{take_more_set, map_push}
use Rattle.table.specs.Lists.{StandsAt, Lacks}
use Rattle.table.specs.Found.{FoundOrAdded}
use Rattle.table.specs.Found.FoundOrAdded.{old as f_old, new as f_new, full as f_full}
use Rattle.table.proofs.Lists.{stands_map}
use Rattle.finding.specs.declared.moves.Stop.TheVariants.{Room, Entry, Arrow}
use Rattle.finding.specs.declared.moves.Count.{Count}
use Rattle.finding.specs.declared.moves.Move.{Move}
use Rattle.finding.specs.Numbered.{Arrow as Arrow₃}
use Rattle.finding.specs.Finding.{Search, Bounded, Place, within, stands, place, arrow, Leads, Turn, Stopped}
use Rattle.finding.specs.Finding.Turn.{old, new}
use Rattle.finding.specs.Finding.Stopped.{no_room, no_entry, no_move}
use Rattle.finding.specs.Spaces.{Reached, Held}

-- a move, once the space was asked where it leads: what was found fits the tables, entry i of it moves on x to t, and this is what the space says of that
pub record AtMove {E A N : Type 0} (s : Search A) (f f' : E → A) (ready' : List E → Type 0) (rows : List E) (moves : List (Move N)) (found : Count) (i x : ℕ)
    (r : Option E) : Type 0 where
  pub entries_fit : found.entries ≤ length rows
  pub moves_fit : found.moves ≤ length moves
  pub e : E
  pub here : StandsAt (take found.entries rows) i e
  pub t : A
  pub below : x < s.symbols
  pub goes : s.step (f e) x ≡ some t
  pub says : Reached f f' ready' s.room (take found.entries rows) t r

-- after a move: the tables hold what is counted, no less than before, and this was one turn
pub record Moved {E A N : Type 0} (s : Search A) (f f' : E → A) (v : N → ℕ) (ready : List E → Type 0) (rows rows' : List E) (moves moves' : List (Move N))
    (found : Count) (i x : ℕ) (c : Count) : Type 0 where
  pub held : Held ready rows' moves' c
  pub more : found.entries ≤ c.entries
  pub turn : Turn (within s (length rows) (length moves)) (stands f v rows found.entries moves found.moves i x) (stands f' v rows' c.entries moves' c.moves i (x + 1))

module _ {E A N : Type 0} {s : Search A} {f f' : E → A} {ready' : List E → Type 0} {rows : List E} {moves : List (Move N)} {found : Count} {i x : ℕ}
    {r : Option E} (v : N → ℕ) (at : AtMove s f f' ready' rows moves found i x r) where
  abbrev B : Bounded A
  B = within s (length rows) (length moves)

  abbrev n : ℕ
  n = found.entries

  abbrev m : ℕ
  m = found.moves

  abbrev es : List A
  es = map f (take n rows)

  abbrev ms : List Arrow₃
  ms = map (arrow v) (take m moves)

  abbrev P : Place A
  P = stands f v rows n moves m i x

  abbrev t : A
  t = at.t

  size : length es ≡ n
  size = length-map (take n rows) f ∙ length-take-le n rows at.entries_fit

  sizes : length ms ≡ m
  sizes = length-map (take m moves) (arrow v) ∙ length-take-le m moves at.moves_fit

  leads : Leads B P t
  leads = record { at = f at.e; stands = stands_map f (take n rows) i at.e at.here; below = at.below; goes = at.goes }

  pub room_stops : r ≡ None → Stopped B P (Room i)
  room_stops none = let h = subst (Reached f f' ready' s.room (take n rows) t) none at.says in no_room t leads h.0 h.1

  module _ {a : E} (some-is : r ≡ Some a) where
    h : Reached f f' ready' s.room (take n rows) t (Some a)
    h = subst (Reached f f' ready' s.room (take n rows) t) some-is at.says

    pub entry_stops : {rows' : List E} {k : ℕ} → FoundOrAdded rows n a None rows' k → Stopped B P (Entry n)
    entry_stops (f_full lacks full) =
        let l = h.3 lacks in
        subst (λ y. Stopped B P (Entry y)) size (no_entry t leads l.0 l.1 (omega (arith, size)))

    found_there : (j : ℕ) → StandsAt (take n rows) j a → StandsAt es j t
    found_there j st =
        subst (λ (u : A). StandsAt es j u) h.0 (subst (λ (l : List A). StandsAt l j (f' a)) h.1 (stands_map f' (take n rows) j a st))

    pub move_stops : {rows' : List E} {to k : ℕ} → FoundOrAdded rows n a (Some to) rows' k → m ≡ length moves → Stopped B P (Arrow i m)
    move_stops {to = to} (f_old st) full =
        subst (λ y. Stopped B P (Arrow i y)) sizes (no_move t leads (inl (to, found_there to st)) (omega (arith, sizes)))
    move_stops (f_new lacks free) full =
        let l = h.3 lacks in
        subst (λ y. Stopped B P (Arrow i y)) sizes (no_move t leads (inr (l.0, l.1, omega (arith, size))) (omega (arith, sizes)))

    module _ (room : m < length moves) (w : Move N) where
      -- the moves with this one written
      abbrev more_moves : List Arrow₃
      more_moves = map (arrow v) (take (m + 1) (set moves m w))

      written : {y : Arrow₃} → y ≡ arrow v w → ms ++ (y ∷ []) ≡ more_moves
      written q = ap (λ y. ms ++ (y ∷ [])) q ∙ sym (ap (map (arrow v)) (take_more_set moves m w room) ∙ map_push (arrow v) (take m moves) w)

      moved_old : (to : ℕ) → arrow v w ≡ (i, x, to) → StandsAt (take n rows) to a → Turn B P (stands f' v rows n (set moves m w) (m + 1) i (x + 1))
      moved_old to q st =
          subst (λ l. Turn B P (place l more_moves i (x + 1))) (sym h.1)
          (subst (λ l. Turn B P (place es l i (x + 1))) (written (sym q)) (old t to leads (found_there to st) (omega (arith, sizes))))

      moved_new : arrow v w ≡ (i, x, n) → Lacks (take n rows) a → n < length rows → Turn B P (stands f' v (set rows n a) (n + 1) (set moves m w) (m + 1) i (x + 1))
      moved_new q lacks free =
          let l = h.3 lacks in
          let grown : es ++ (t ∷ []) ≡ map f' (take (n + 1) (set rows n a)) =
          ap (λ l. l ++ (t ∷ [])) (sym h.1) ∙ ap (λ u. map f' (take n rows) ++ (u ∷ [])) (sym h.0) ∙ sym (ap (map f') (take_more_set rows n a free) ∙ map_push f' (take n rows) a) in
          subst (λ l. Turn B P (place l more_moves i (x + 1))) grown
          (subst (λ l. Turn B P (place (es ++ (t ∷ [])) l i (x + 1))) (written (ap (λ y. (i, x, y)) size ∙ sym q))
          (new t leads l.0 l.1 (omega (arith, size)) (omega (arith, sizes))))

      pub moved : {rows' : List E} {to k : ℕ} → FoundOrAdded rows n a (Some to) rows' k → arrow v w ≡ (i, x, to)
          → Moved s f f' v ready' rows rows' moves (set moves m w) found i x (record { entries = k; moves = m + 1 })
      moved {to = to} (f_old st) q =
          record {
            held = record { entries_fit = at.entries_fit; moves_fit = simp length-set (omega arith); is_ready = h.2 to st };
            more = omega arith;
            turn = moved_old to q st;
          }
      moved (f_new lacks free) q =
          record {
            held = record { entries_fit = simp length-set (omega arith); moves_fit = simp length-set (omega arith); is_ready = subst ready' (sym (take_more_set rows n a free)) (h.3 lacks).2 };
            more = omega arith;
            turn = moved_new q lacks free;
          }

    -- the move is written with the number that the table gave, and the rows are as the table left them
    pub moves_on : {rows' ends : List E} {to k j : ℕ} (from onto : N) → FoundOrAdded rows n a (Some to) rows' k → m ≢ length moves → v from ≡ i → v onto ≡ to → j ≡ k → ends ≡ rows'
        → Moved s f f' v ready' rows ends moves (set moves m (record { from = from; symbol = x; to = onto })) found i x (record { entries = j; moves = m + 1 })
    moves_on {rows'} {ends} {to} {k} {j} from onto table free p q counted same =
        let w : Move N = record { from = from; symbol = x; to = onto } in
        let is : arrow v w ≡ (i, x, to) = ap (λ y. (y, x, v onto)) p ∙ ap (λ y. (i, x, y)) q in
        subst (λ l. Moved s f f' v ready' rows l moves (set moves m w) found i x (record { entries = j; moves = m + 1 })) (sym same)
        (subst (λ z. Moved s f f' v ready' rows rows' moves (set moves m w) found i x (record { entries = z; moves = m + 1 })) (sym counted)
        (moved (let fit = at.moves_fit in omega arith) w table is))
