-- The unfolded machine: its moves follow the machine's, each node is reached by a stack, and it is a lawful graph.
use Rattle.std.proofs.Common.{◌≡◌, ℕ, zero, suc, ◌<◌, true, false, eqb, ◌↔◌, List, [], ◌∷◌, ◌++◌, length, sym, refl, ap, ◌∙◌, subst, ⊎_elim, arith, eq-eqb, eqb-true}
use Rattle.std.proofs.lemmas.Bool.{cases_Bool}
use mathlib.Core.Option.{Option, none, some}
use mathlib.Core.List.Memᴰ
use mathlib.Core.List.{Memᴰ}
use lib.ListN.{get_elem?}
use Rattle.book.specs.Grammar.{Grammar, symbols}
use Rattle.finding.specs.Numbered.{Arrow}
use Rattle.finding.proofs.Laws.{first_entry, numbered_unique}
use Rattle.table.proofs.Lists.{stands_some}
use Rattle.theory.specs.Lists.{and}
use Rattle.theory.specs.Items.{Sound}
use Rattle.theory.specs.Machine.{Machine, Holds, FinalState}
use Rattle.theory.specs.Policies.{Meaning, Stacked}
use Rattle.theory.specs.Policies.Stacked.{empty, push}
use Rattle.theory.specs.Unfolding.{along, Node, node, onward, Unfolded, NodeHolds, FinalNode, StackOf, UnfoldingLaws}
use Rattle.theory.specs.Flattening.{Leads}
use Rattle.theory.specs.Flattening.Leads.{here, on}
use Rattle.theory.proofs.Lists.{and_is, and_only, some_one, none_some}
use Rattle.theory.proofs.Numbering.{entry_left, move_made, step_made, move_symbol, move_one, from_earlier}
use Rattle.theory.proofs.Machine.{zeroth, moved, moves_when, moves_only}
use Rattle.theory.proofs.States.{zero_unentered, final_not_zero, final_entered, final_state}
use Rattle.theory.proofs.Graphs.{Closes, closes_map, Outset, Over, Graph, Lawful, leads_on}

-- ── where a move leads ──

along_hit : (q y p : ℕ) (ms : List Arrow) (s x : ℕ) → and (eqb q s) (eqb y x) ≡ true → along ((q, y, p) ∷ ms) s x ≡ some p
along_hit q y p ms s x e = rw (e, along)

along_miss : (q y p : ℕ) (ms : List Arrow) (s x : ℕ) → and (eqb q s) (eqb y x) ≡ false → along ((q, y, p) ∷ ms) s x ≡ along ms s x
along_miss q y p ms s x e = rw (e, along)

pub along_mem : (ms : List Arrow) {s x t : ℕ} → along ms s x ≡ some t → Memᴰ (s, x, t) ms
along_mem [] e = absurd (none_some refl e)
along_mem ((q, y, p) ∷ ms) {s} {x} {t} e =
    ⊎_elim (λ h. let (f, g) = and_only (eqb q s) (eqb y x) h in
    let a : s ≡ q = sym (eqb-true q s f) in let c : x ≡ y = sym (eqb-true y x g) in
    let d : t ≡ p = some_one e (along_hit q y p ms s x h) in Memᴰ.head (λ i. (a i, c i, d i)))
    (λ h. Memᴰ.tail (along_mem ms (sym (along_miss q y p ms s x h) ∙ e)))
    (cases_Bool (and (eqb q s) (eqb y x)))

pub along_has : (ms : List Arrow) {s x p : ℕ} → Memᴰ (s, x, p) ms → (t : ℕ) × (along ms s x ≡ some t)
along_has [] m = absurd (Memᴰ.not-nil m)
along_has ((q, y, o) ∷ ms) {s} {x} {p} m =
    ⊎_elim (λ h. (o, along_hit q y o ms s x h))
    (λ h. ⊎_elim
    (λ e. let a : q ≡ s = sym (ap (λ (t : Arrow). t.0) e) in let c : y ≡ x = sym (ap (λ (t : Arrow). t.1) e) in
    (o, along_hit q y o ms s x (and_is (eqb q s) (eqb y x) (eq-eqb q s a) (eq-eqb y x c))))
    (λ k. let (t, e) = along_has ms k in (t, along_miss q y o ms s x h ∙ e))
    (Memᴰ.cases_cons m))
    (cases_Bool (and (eqb q s) (eqb y x)))

pub along_none : (ms : List Arrow) (s x : ℕ) → ((p : ℕ) → Memᴰ (s, x, p) ms → ⊥) → along ms s x ≡ none
along_none ms s x h = cases (along ms s x) refl
  where
    cases : (o : Option ℕ) → along ms s x ≡ o → along ms s x ≡ none
    cases none e = e
    cases (some t) e = absurd (h t (along_mem ms e))

-- where an entry has one move on a symbol
pub along_is : (ms : List Arrow) → ((q x p r : ℕ) → Memᴰ (q, x, p) ms → Memᴰ (q, x, r) ms → p ≡ r) → {q x p : ℕ} → Memᴰ (q, x, p) ms → along ms q x ≡ some p
along_is ms one {q} {x} {p} m = let (t, e) = along_has ms m in e ∙ ap some (one q x t p (along_mem ms e) m)

pub record Onward (m : Meaning) (ms : List Arrow) (n : Node) (x : ℕ) (v : Node) : Type 0 where
  pub target : ℕ
  pub moves : along ms n.state x ≡ some target
  pub is : v ≡ node target (m.next n.class n.state x target)

pub onward_made : (m : Meaning) (ms : List Arrow) (n : Node) (x : ℕ) {t : ℕ} → along ms n.state x ≡ some t → onward m ms n x ≡ some (node t (m.next n.class n.state x t))
onward_made m ms n x h = rw (h, onward)

pub onward_none : (m : Meaning) (ms : List Arrow) (n : Node) (x : ℕ) → along ms n.state x ≡ none → onward m ms n x ≡ none
onward_none m ms n x h = rw (h, onward)

pub onward_only : (m : Meaning) (ms : List Arrow) (n : Node) (x : ℕ) {v : Node} → onward m ms n x ≡ some v → Onward m ms n x v
onward_only m ms n x {v} e = cases (along ms n.state x) refl
  where
    cases : (o : Option ℕ) → along ms n.state x ≡ o → Onward m ms n x v
    cases none h = absurd (none_some (onward_none m ms n x h) e)
    cases (some t) h = record { target = t; moves = h; is = some_one e (onward_made m ms n x h) }

-- ── nodes and their moves ──

-- a move of the unfolded machine follows one of the machine
pub record Edge (m : Meaning) (moves : List Arrow) (nodes : List Node) (n : Node) (x p : ℕ) : Type 0 where
  pub target : ℕ
  pub move : Memᴰ (n.state, x, target) moves
  pub at : get_elem? nodes p ≡ some (node target (m.next n.class n.state x target))

module _ (g : Grammar) (u : Sound g) {states : List (List ℕ)} {moves : List Arrow} (mt : Machine g states moves) (m : Meaning)
    {nodes : List Node} {arrows : List Arrow} (un : Unfolded m moves (symbols g) nodes arrows) where
  pub node_zero : get_elem? nodes 0 ≡ some (node 0 m.first)
  node_zero = first_entry un

  pub edge : {q x p : ℕ} {n : Node} → get_elem? nodes q ≡ some n → Memᴰ (q, x, p) arrows → Edge m moves nodes n x p
  edge {x = x} {p} {n} e v =
      let d = move_made (symbols g) un e v in
      let o = onward_only m moves n x d.steps in
      record { target = o.target; move = along_mem moves o.moves; at = d.place ∙ ap some o.is }

  pub edge_on : {q x t : ℕ} {n : Node} → get_elem? nodes q ≡ some n → Memᴰ (n.state, x, t) moves → (j : ℕ) × Memᴰ (q, x, j) arrows × (get_elem? nodes j ≡ some (node t (m.next n.class n.state x t)))
  edge_on {q} {x} {t} {n} e v =
      let (s, h) = along_has moves v in
      let st : s ≡ t = move_one (symbols g) mt (along_mem moves h) v in
      step_made (symbols g) un e (move_symbol (symbols g) mt v) (onward_made m moves n x (h ∙ ap some st))

  -- each node is reached by a stack, and over a list of symbols
  record Trail (p : ℕ) (n : Node) : Type 0 where
    stack : List (ℕ × ℕ)
    stacked : Stacked moves m stack n.state n.class
    way : List ℕ
    leads : Leads arrows 0 way p

  trail_on : {q x p : ℕ} {k n : Node} → get_elem? nodes q ≡ some k → Memᴰ (q, x, p) arrows → get_elem? nodes p ≡ some n → Trail q k → Trail p n
  trail_on {q} {x} {p} {k} {n} d v e t =
      let f = edge d v in
      let stack : List (ℕ × ℕ) = (k.state, x) ∷ t.stack in
      record {
        stack = stack;
        stacked = subst (λ (k : Node). Stacked moves m stack k.state k.class) (some_one f.at e) (push t.stacked f.move);
        way = t.way ++ (x ∷ []);
        leads = leads_on t.leads (on v here);
      }

  trail : (bound p : ℕ) → p < bound → {n : Node} → get_elem? nodes p ≡ some n → Trail p n
  trail zero p h e = absurd (omega arith)
  trail (suc b) zero h {n} e =
      record { stack = []; stacked = subst (λ (k : Node). Stacked moves m [] k.state k.class) (some_one node_zero e) empty; way = []; leads = here }
  trail (suc b) (suc p) h {n} e =
      let f = from_earlier (symbols g) un (suc p) (omega arith) e in
      let (k, d) = entry_left (symbols g) un f.move in
      trail_on d f.move e (trail b f.from (let l = f.earlier in omega arith) d)

  pub stack_of : (p : ℕ) → p < length nodes → StackOf m moves nodes p
  stack_of p h = let (n, e) = stands_some nodes p h in let t = trail (suc p) p (omega arith) e in record { its = n; at = e; stack = t.stack; stacked = t.stacked }

  -- node 0 alone has state 0
  pub zero_node : (p : ℕ) (n : Node) → get_elem? nodes p ≡ some n → n.state ≡ 0 → p ≡ 0
  zero_node zero n e z = refl
  zero_node (suc p) n e z =
      let f = from_earlier (symbols g) un (suc p) (omega arith) e in
      let (k, d) = entry_left (symbols g) un f.move in
      let v = edge d f.move in
      let q : v.target ≡ n.state = ap (λ (k : Node). k.state) (some_one v.at e) in
      absurd (zero_unentered g u mt k.state f.symbol (subst (λ t. Memᴰ (k.state, f.symbol, t) moves) (q ∙ z) v.move))

  pub final_node : (p : ℕ) × Memᴰ (0, g.start, p) arrows × FinalNode states nodes p
  final_node =
      let (s, v, h) = final_state g u mt in
      let (p, w, e) = edge_on node_zero v in
      (p, w, record { its = node s (m.next m.first 0 g.start s); at = e; final = h })

  final_arrow : (p : ℕ) → FinalNode states nodes p → Memᴰ (0, g.start, p) arrows
  final_arrow zero h =
      let q : h.its ≡ node 0 m.first = some_one h.at node_zero in
      absurd (final_not_zero g u mt (subst (λ (k : Node). FinalState states k.state) q h.final))
  final_arrow (suc p) h =
      let f = from_earlier (symbols g) un (suc p) (omega arith) h.at in
      let (k, d) = entry_left (symbols g) un f.move in
      let v = edge d f.move in
      let q : h.its.state ≡ v.target = ap (λ (k : Node). k.state) (some_one h.at v.at) in
      let (z, y) = final_entered g u mt k.state f.symbol v.target (subst (FinalState states) q h.final) v.move in
      let o : f.from ≡ 0 = zero_node f.from k d z in
      subst (λ (t : ℕ × ℕ). Memᴰ (t.0, t.1, suc p) arrows) (λ i. (o i, y i)) f.move

  -- the final state has one node
  pub final_node_one : (p q : ℕ) → FinalNode states nodes p → FinalNode states nodes q → p ≡ q
  final_node_one p q h k = move_one (symbols g) un (final_arrow p h) (final_arrow q k)

  pub unfolding_laws : UnfoldingLaws g m states moves nodes arrows
  unfolding_laws =
      record { zeroth = node_zero; zero_alone = zero_node; stacks = stack_of; final = final_node; final_one = final_node_one; one = λ others ms o. numbered_unique un o }

  -- ── the graph of the nodes ──

  abbrev pub graph : Graph
  graph = record { Item = NodeHolds g states nodes; moves = arrows }

  pub item_of : (p : ℕ) {n : Node} {a : ℕ} {l r : List ℕ} → get_elem? nodes p ≡ some n → NodeHolds g states nodes p a l r → Holds g states n.state a l r
  item_of p {a = a} {l} {r} e h = subst (λ (k : Node). Holds g states k.state a l r) (some_one h.at e) h.holds

  pub graph_lawful : Lawful g graph
  graph_lawful =
      record {
        zeroth_items = λ {a} {l} {r}. first a l r;
        move_items = λ {p} {q} {x} {a} {l} {r} v. next p q x a l r v;
        move_when = λ {q} {x} {a} {l} {r} i. when q x a l r i;
        move_only = λ {q} {p} {x} v. only q p x v;
        reached = λ {q} {p} {x} v. let (n, e) = entry_left (symbols g) un v in let t = trail (suc q) q (omega arith) e in (t.way, t.leads);
      }
    where
      first : (a : ℕ) (l r : List ℕ) → NodeHolds g states nodes 0 a l r ↔ Closes g (Outset g) a l r
      first a l r =
          ((λ i. (zeroth g u mt a l r).0 (item_of 0 node_zero i)), (λ c. record { its = node 0 m.first; at = node_zero; holds = (zeroth g u mt a l r).1 c }))

      next : (p q x a : ℕ) (l r : List ℕ) → Memᴰ (q, x, p) arrows → NodeHolds g states nodes p a l r ↔ Closes g (Over (NodeHolds g states nodes q) x) a l r
      next p q x a l r v =
          let (n, d) = entry_left (symbols g) un v in
          let e = edge d v in (
            (λ i. closes_map (λ a l r c. record { rest = c.rest; was = record { its = n; at = d; holds = c.was }; is = c.is })
                ((moved g u mt n.state x e.target e.move a l r).0 (item_of p e.at i))),
            (λ c. record {
              its = node e.target (m.next n.class n.state x e.target);
              at = e.at;
              holds = (moved g u mt n.state x e.target e.move a l r).1
                  (closes_map (λ a l r c. record { rest = c.rest; was = item_of q d c.was; is = c.is }) c);
            }),
          )

      when : (q x a : ℕ) (l r : List ℕ) → NodeHolds g states nodes q a l (x ∷ r) → (p : ℕ) × Memᴰ (q, x, p) arrows
      when q x a l r i =
          let (t, v) = moves_when g u mt i.its.state x a l r i.holds in
          let (j, w, z) = edge_on i.at v in (j, w)

      only : (q p x : ℕ) → Memᴰ (q, x, p) arrows → (a : ℕ) × (l : List ℕ) × (r : List ℕ) × NodeHolds g states nodes q a l (x ∷ r)
      only q p x v =
          let (n, d) = entry_left (symbols g) un v in
          let e = edge d v in
          let (a, l, r, i) = moves_only g u mt n.state x e.target e.move in (a, l, r, record { its = n; at = d; holds = i })
