-- The machine's first and final states, and that a grammar has one machine.
use Rattle.std.proofs.Common.{◌≡◌, ℕ, zero, suc, List, [], ◌∷◌, ◌++◌, sym, refl, ap, subst, ⊎_elim, arith}
use mathlib.Core.List.Memᴰ
use mathlib.Core.List.{Memᴰ}
use Rattle.book.specs.Grammar.{Grammar, rule, symbols, Rewrites}
use Rattle.finding.specs.Numbered.{Arrow}
use Rattle.finding.proofs.Laws.{numbered_unique}
use Rattle.theory.specs.Items.{Item, items, Dotted, Sound}
use Rattle.theory.specs.Closure.{Closed, carried}
use Rattle.theory.specs.Closure.Closed.{kernel, opened}
use Rattle.theory.specs.Machine.{Machine, HasItem, Holds, FinalState, MachineLaws}
use Rattle.theory.proofs.Lists.{some_one, snoc_not_nil}
use Rattle.theory.proofs.Items.{after_known, item_zero, item_one}
use Rattle.theory.proofs.Closure.{carried_members}
use Rattle.theory.proofs.Numbering.{from_earlier, move_one}
use Rattle.theory.proofs.Machine.{same_item, state_zero, zero_closed, zeroth, ends, move_closed, moved, moves_when, moves_only}
use Rattle.theory.proofs.Graphs.{Closes, Outset, Over}
use Rattle.theory.proofs.Graphs.Closes.{kernel as c_kernel, opened as c_opened}

-- a grammar has one machine
pub machine_unique : (g : Grammar) {states sets : List (List ℕ)} {moves arrows : List Arrow} → Machine g states moves → Machine g sets arrows → (states ≡ sets) × (moves ≡ arrows)
machine_unique g m n = numbered_unique m n

-- an item with its dot in front that is no kernel item has its name after the dot of another
opener : {g : Grammar} {K : ℕ → List ℕ → List ℕ → Type 0} {a : ℕ} {l γ : List ℕ} → (K a [] γ → ⊥) → Closes g K a l γ → l ≡ [] → (b : ℕ) × (m : List ℕ) × (r : List ℕ) × Closes g K b m (a ∷ r)
opener {K = K} {a} {γ = γ} f (c_kernel k) e = absurd (f (subst (λ l. K a l γ) e k))
opener f (c_opened {a = b} {l = l} {r = r} c t) e = (b, l, r, c)

module _ (g : Grammar) (u : Sound g) where
  -- S' → · start is never reached: it is not carried, and S' follows no dot
  closed_not_zero : (set : List ℕ) (x : ℕ) {k : ℕ} → Closed g (carried (items g) set x) k → k ≡ 0 → ⊥
  closed_not_zero set x (kernel {k = k} m h) e = let c = (carried_members g set x k).0 m in let n = c.number in omega arith
  closed_not_zero set x (opened {j = j} {k = k} {c = c} {s = s} i d t) e =
      let w = same_item g 0 (subst (λ n. Dotted g n c [] s) e t) (item_zero g) in
      let p : c ≡ symbols g = ap (λ (i : Item). i.left) w in
      let h = after_known g u j d in omega arith

  -- S' → start · has no empty front
  one_not_first : {k c : ℕ} {s : List ℕ} → Dotted g k c [] s → k ≡ 1 → ⊥
  one_not_first {k} {c} {s} t e =
      let w = same_item g 1 (subst (λ n. Dotted g n c [] s) e t) (item_one g) in
      let p : [] ≡ g.start ∷ [] = ap (λ (i : Item). i.before) w in
      cc

  zero_not_one : {k : ℕ} → Closed g (0 ∷ []) k → k ≡ 1 → ⊥
  zero_not_one (kernel m h) e = ⊎_elim (λ q. omega arith) (λ n. Memᴰ.not-nil n) (Memᴰ.cases_cons m)
  zero_not_one (opened i d t) e = one_not_first t e

  -- S' → start · comes from S' → · start alone
  from_outset : (set : List ℕ) (x : ℕ) {k : ℕ} → Closed g (carried (items g) set x) k → k ≡ 1 → Memᴰ 0 set × (x ≡ g.start)
  from_outset set x (kernel {k = k} m h) e =
      let c = (carried_members g set x k).0 m in
      let z : c.from ≡ 0 = (let n = c.number in omega arith) in
      let w = same_item g 0 (subst (λ n. Dotted g n c.left c.before (x ∷ c.after)) z c.item) (item_zero g) in
      let p : x ∷ c.after ≡ g.start ∷ [] = ap (λ (i : Item). i.after) w in
      (subst (λ n. Memᴰ n set) z c.member, cc)
  from_outset set x (opened i d t) e = absurd (one_not_first t e)

  module _ {states : List (List ℕ)} {moves : List Arrow} (n : Machine g states moves) where
    zero_has : HasItem states 0 0
    zero_has = (zero_closed g u n).1 (kernel (Memᴰ.head refl) (omega arith))

    -- no move enters state 0
    pub zero_unentered : (q x : ℕ) → Memᴰ (q, x, 0) moves → ⊥
    zero_unentered q x v = let e = ends g u n v in closed_not_zero e.from x ((move_closed g u n e).0 zero_has) refl

    -- state 0 alone has S' → · start
    zero_alone : (s : ℕ) → HasItem states s 0 → s ≡ 0
    zero_alone zero h = refl
    zero_alone (suc s) h =
        let e = from_earlier (symbols g) n (suc s) (omega arith) h.at in
        let d = ends g u n e.move in
        absurd (closed_not_zero d.from e.symbol ((move_closed g u n d).0 h) refl)

    pub final_not_zero : FinalState states 0 → ⊥
    final_not_zero h = zero_not_one ((zero_closed g u n).0 h) refl

    -- the final state is entered only from state 0, on the start name
    pub final_entered : (q x s : ℕ) → FinalState states s → Memᴰ (q, x, s) moves → (q ≡ 0) × (x ≡ g.start)
    final_entered q x s h v =
        let e = ends g u n v in
        let (m, p) = from_outset e.from x ((move_closed g u n e).0 h) refl in
        (zero_alone q (record { set = e.from; at = e.at; member = m }), p)

    pub final_state : (s : ℕ) × Memᴰ (0, g.start, s) moves × FinalState states s
    final_state =
        let (s, v) = moves_when g u n 0 g.start (symbols g) [] [] (record { number = 0; has = zero_has; is = item_zero g }) in
        let e = ends g u n v in
        let m = (carried_members g e.from g.start 1).1
        (record { from = 0; member = subst (Memᴰ 0) (some_one zero_has.at e.at) zero_has.member; left = symbols g; before = []; after = []; item = item_zero g; number = refl }) in
        (s, v, (move_closed g u n e).1 (kernel m (omega arith)))

    final_move : (s : ℕ) → FinalState states s → Memᴰ (0, g.start, s) moves
    final_move zero h = absurd (final_not_zero h)
    final_move (suc s) h =
        let e = from_earlier (symbols g) n (suc s) (omega arith) h.at in
        let (p, q) = final_entered e.from e.symbol (suc s) h e.move in
        subst (λ (t : ℕ × ℕ). Memᴰ (t.0, t.1, suc s) moves) (λ i. (p i, q i)) e.move

    pub final_one : (s t : ℕ) → FinalState states s → FinalState states t → s ≡ t
    final_one s t h k = move_one (symbols g) n (final_move s h) (final_move t k)

    -- a state has, with a name after a dot, the first item of each of its rules
    pub state_closed : (s a c : ℕ) (l r γ : List ℕ) → Holds g states s a l (c ∷ r) → Rewrites g c γ → Holds g states s c [] γ
    state_closed zero a c l r γ i h = (zeroth g u n c [] γ).1 (c_opened ((zeroth g u n a l (c ∷ r)).0 i) h)
    state_closed (suc s) a c l r γ i h =
        let e = from_earlier (symbols g) n (suc s) (omega arith) i.has.at in
        let m = moved g u n e.from e.symbol (suc s) e.move in
        (m c [] γ).1 (c_opened ((m a l (c ∷ r)).0 i) h)

    -- a move carries the dot over its symbol
    pub state_carries : (s x p a : ℕ) (l r : List ℕ) → Holds g states s a l (x ∷ r) → Memᴰ (s, x, p) moves → Holds g states p a (l ++ (x ∷ [])) r
    state_carries s x p a l r i v = (moved g u n s x p v a (l ++ (x ∷ [])) r).1 (c_kernel (record { rest = l; was = i; is = refl }))

    -- a rule with its dot in front stands in a state only where its name follows a dot, so the state moves over its name
    pub first_moves : (s a : ℕ) (γ : List ℕ) → Holds g states s a [] γ → Rewrites g a γ → (p : ℕ) × Memᴰ (s, a, p) moves
    first_moves zero a γ i h =
        let (b, l, r, c) = opener (λ (o : Outset g a [] γ). let k = u.lefts_known (rule a γ) h.1 in let q = o.left in omega arith) ((zeroth g u n a [] γ).0 i) refl in
        moves_when g u n 0 a b l r ((zeroth g u n b l (a ∷ r)).1 c)
    first_moves (suc s) a γ i h =
        let e = from_earlier (symbols g) n (suc s) (omega arith) i.has.at in
        let m = moved g u n e.from e.symbol (suc s) e.move in
        let (b, l, r, c) = opener (λ (o : Over (Holds g states e.from) e.symbol a [] γ). snoc_not_nil o.rest e.symbol (sym o.is)) ((m a [] γ).0 i) refl in
        moves_when g u n (suc s) a b l r ((m b l (a ∷ r)).1 c)

    pub machine_laws : MachineLaws g states moves
    machine_laws =
        record {
          zeroth = state_zero g u n;
          unentered = zero_unentered;
          closed = state_closed;
          moves_when = moves_when g u n;
          carries = state_carries;
          moves_only = moves_only g u n;
          move_one = λ s x p q v w. move_one (symbols g) n v w;
          final = final_state;
          final_one = final_one;
          final_entered = final_entered;
          one = λ sets arrows m. machine_unique g n m;
        }
