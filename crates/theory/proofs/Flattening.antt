-- Flattened acceptors: jumps can be found going forward, and there is one acceptor.
use Rattle.std.proofs.Common.{◌≡◌, ℕ, ◌↔◌, List, [], ◌∷◌, ◌++◌, sym, refl, ◌∙◌, subst, append_assoc, append-nil, arith}
use mathlib.Core.List.{append_cancel_right, Memᴰ}
use Rattle.book.specs.Grammar.{Grammar, symbols, Rewrites}
use Rattle.finding.specs.Numbered.{Arrow}
use Rattle.finding.specs.Laws.{Rises}
use Rattle.table.proofs.Lists.{mem_at}
use Rattle.table.proofs.Orders.{in_order_same}
use Rattle.theory.specs.Items.{Sound, Numbers}
use Rattle.theory.specs.Items.Numbers.{added, ruled}
use Rattle.theory.specs.Machine.{Machine, HasItem}
use Rattle.theory.specs.Policies.{Meaning}
use Rattle.theory.specs.Unfolding.{Node, Unfolded, NodeHolds, FinalNode}
use Rattle.theory.specs.Flattening.{Acceptor, Leads, Jump, ForwardJump, JumpLess, JumpLaws, FlattenedFrom}
use Rattle.theory.specs.Flattening.Leads.{here, on}
use Rattle.theory.proofs.Lists.{snoc_not_nil}
use Rattle.theory.proofs.Items.{dotted_only, item_one}
use Rattle.theory.proofs.States.{first_moves, state_closed}
use Rattle.theory.proofs.Graphs.{Flat, Closes, Over}
use Rattle.theory.proofs.Graphs.Closes.{kernel, opened}
use Rattle.theory.proofs.Unfolding.{graph, graph_lawful, edge_on, final_node_one}

-- ── the final node holds S' → start · ──

pub final_holds : (g : Grammar) {states : List (List ℕ)} {nodes : List Node} {p : ℕ} → FinalNode states nodes p → NodeHolds g states nodes p (symbols g) (g.start ∷ []) []
final_holds g h = record { its = h.its; at = h.at; holds = record { number = 1; has = h.final; is = item_one g } }

pub holds_final : (g : Grammar) → Sound g → {states : List (List ℕ)} {nodes : List Node} {p : ℕ} → NodeHolds g states nodes p (symbols g) (g.start ∷ []) [] → FinalNode states nodes p
holds_final g u {states} h = record { its = h.its; at = h.at; final = subst (HasItem states h.its.state) (number (dotted_only g h.holds.number h.holds.is)) h.holds.has }
  where
    number : Numbers g h.holds.number (symbols g) (g.start ∷ []) [] → h.holds.number ≡ 1
    number (added n e k) = n
    number (ruled i r e n q k) = let l = u.lefts_known r (mem_at g.rules i _ e) in absurd (omega arith)

-- ── jumps found going forward ──

module _ (g : Grammar) (u : Sound g) {states : List (List ℕ)} {moves : List Arrow} (mt : Machine g states moves) (m : Meaning)
    {nodes : List Node} {arrows : List Arrow} (un : Unfolded m moves (symbols g) nodes arrows) where
  node_carries : {q x p a : ℕ} {l r : List ℕ} → NodeHolds g states nodes q a l (x ∷ r) → Memᴰ (q, x, p) arrows → NodeHolds g states nodes p a (l ++ (x ∷ [])) r
  node_carries {l = l} i v = ((graph_lawful g u mt m un).move_items v).1 (kernel (record { rest = l; was = i; is = refl }))

  -- a way over what follows the dot ends where nothing follows it
  pub carried_over : {q p : ℕ} {r : List ℕ} → Leads arrows q r p → {a : ℕ} {l : List ℕ} → NodeHolds g states nodes q a l r → NodeHolds g states nodes p a (l ++ r) []
  carried_over {q} here {a} {l} i = subst (λ k. NodeHolds g states nodes q a k []) (sym (append-nil l)) i
  carried_over {q} {p} (on {x = x} {xs = xs} v t) {a} {l} i =
      subst (λ k. NodeHolds g states nodes p a k []) (append_assoc l (x ∷ []) xs) (carried_over t (node_carries i v))

  uncarried : {I : ℕ → List ℕ → List ℕ → Type 0} {x a : ℕ} {k r : List ℕ} → Closes g (Over I x) a k r → (l : List ℕ) → k ≡ l ++ (x ∷ []) → I a l (x ∷ r)
  uncarried {I} {x} {a} {r = r} (kernel o) l e = subst (λ k. I a k (x ∷ r)) (append_cancel_right o.rest l (x ∷ []) (sym o.is ∙ e)) o.was
  uncarried {x = x} (opened i h) l e = absurd (snoc_not_nil l x (sym e))

  -- an item whose dot has passed a way stood at its beginning, with the dot in front of the way
  pub uncarried_over : {q p : ℕ} {xs : List ℕ} → Leads arrows q xs p → {a : ℕ} (l : List ℕ) {r : List ℕ} → NodeHolds g states nodes p a (l ++ xs) r → NodeHolds g states nodes q a l (xs ++ r)
  uncarried_over {q} here {a} l {r} i = subst (λ k. NodeHolds g states nodes q a k r) (append-nil l) i
  uncarried_over {q} {p} (on {r = t} {x = x} {xs = xs} v w) {a} l {r} i =
      let j : NodeHolds g states nodes t a (l ++ (x ∷ [])) (xs ++ r) = uncarried_over w (l ++ (x ∷ [])) (subst (λ k. NodeHolds g states nodes p a k r) (sym (append_assoc l (x ∷ []) xs)) i) in
      uncarried (((graph_lawful g u mt m un).move_items v).0 j) l refl

  -- and the node there moves over the name
  pub forward_moves : {q a : ℕ} {s : List ℕ} → NodeHolds g states nodes q a [] s → Rewrites g a s → (to : ℕ) × Memᴰ (q, a, to) arrows
  forward_moves {q} {a} {s} i h =
      let (t, v) = first_moves g u mt i.its.state a s i.holds h in
      let (j, w, z) = edge_on g u mt m un i.at v in (j, w)

  -- a node that moves over a name holds the name's rules with the dot in front
  pub over_begins : {q a to : ℕ} {s : List ℕ} → Rewrites g a s → Memᴰ (q, a, to) arrows → NodeHolds g states nodes q a [] s
  over_begins {q} {a} {to} {s} h v =
      let (b, k, r, i) = (graph_lawful g u mt m un).move_only v in
      record { its = i.its; at = i.at; holds = state_closed g u mt i.its.state b a k r s i.holds h }

  -- so it leads over each right side
  pub leads_over : (r : List ℕ) {q a : ℕ} {l : List ℕ} → NodeHolds g states nodes q a l r → (p : ℕ) × Leads arrows q r p
  leads_over [] {q} i = (q, here)
  leads_over (x ∷ r) i =
      let (t, v) = (graph_lawful g u mt m un).move_when i in
      let (p, w) = leads_over r (node_carries i v) in (p, on v w)

  -- to the completed rule
  pub over_completes : {q p to a : ℕ} {s : List ℕ} → Rewrites g a s → Leads arrows q s p → Memᴰ (q, a, to) arrows → NodeHolds g states nodes p a s []
  over_completes h l v = carried_over l (over_begins h v)

  -- jumps are found going forward
  pub jump_forward : (p to : ℕ) → Jump g states nodes arrows p to ↔ ForwardJump g states nodes arrows p to
  jump_forward p to = (
    (λ j. record {
      left = j.left;
      side = j.side;
      from = j.from;
      rewrites = j.rewrites;
      item = subst (NodeHolds g states nodes j.from j.left []) (append-nil j.side) (uncarried_over j.leads [] j.item);
      leads = j.leads;
      over = j.over;
    }),
    (λ j. record { left = j.left; side = j.side; from = j.from; rewrites = j.rewrites; item = carried_over j.leads j.item; leads = j.leads; over = j.over }),
  )

  -- the acceptor of the unfolding, as the laws take it
  pub flat_of : {f : Acceptor} → FlattenedFrom g states nodes arrows f → Flat g (graph g u mt m un) f
  flat_of h =
      record {
        arcs = h.arcs_are;
        jumps = λ p to. (
          (λ k. let j = (h.jumps_are p to).0 k in record { left = j.left; side = j.side; from = j.from; rewrites = j.rewrites; item = j.item; leads = j.leads; over = j.over }),
          (λ j. (h.jumps_are p to).1 (record { left = j.left; side = j.side; from = j.from; rewrites = j.rewrites; item = j.item; leads = j.leads; over = j.over })),
        );
      }

-- ── one acceptor ──

arrow_apart : (a b : Arrow) → Rises a b → Rises b a → ⊥
arrow_apart a b h k = omega arith

jump_apart : (a b : ℕ × ℕ) → JumpLess a b → JumpLess b a → ⊥
jump_apart a b h k = omega arith

-- an unfolded machine has one acceptor
pub flat_unique : (g : Grammar) → Sound g → {states : List (List ℕ)} {moves : List Arrow} → Machine g states moves → (m : Meaning) {nodes : List Node} {arrows : List Arrow} → Unfolded m moves (symbols g) nodes arrows
    → {e f : Acceptor} → FlattenedFrom g states nodes arrows e → FlattenedFrom g states nodes arrows f → e ≡ f
flat_unique g u mt m un {e} {f} h k =
    let words : e.words ≡ f.words = h.words_are ∙ sym k.words_are in
    let count : e.nodes ≡ f.nodes = h.nodes_are ∙ sym k.nodes_are in
    let final : e.final ≡ f.final = final_node_one g u mt m un e.final f.final h.final_is k.final_is in
    let arcs : e.arcs ≡ f.arcs =
    in_order_same Rises arrow_apart e.arcs f.arcs h.arcs_rise k.arcs_rise
    (λ a i. (k.arcs_are a.0 a.1 a.2).1 ((h.arcs_are a.0 a.1 a.2).0 i))
    (λ a i. (h.arcs_are a.0 a.1 a.2).1 ((k.arcs_are a.0 a.1 a.2).0 i)) in
    let jumps : e.jumps ≡ f.jumps =
    in_order_same JumpLess jump_apart e.jumps f.jumps h.jumps_rise k.jumps_rise
    (λ a i. (k.jumps_are a.0 a.1).1 ((h.jumps_are a.0 a.1).0 i))
    (λ a i. (h.jumps_are a.0 a.1).1 ((k.jumps_are a.0 a.1).0 i)) in
    λ i. record { words = words i; nodes = count i; final = final i; arcs = arcs i; jumps = jumps i }

pub jump_laws : (g : Grammar) → Sound g → {states : List (List ℕ)} {moves : List Arrow} → Machine g states moves → (m : Meaning) {nodes : List Node} {arrows : List Arrow} → Unfolded m moves (symbols g) nodes arrows → JumpLaws g states nodes arrows
jump_laws g u mt m un =
    record {
      forward = jump_forward g u mt m un;
      moves_over = λ q a side i h. forward_moves g u mt m un i h;
      completes = λ q p a side i l. carried_over g u mt m un l i;
      leads_over = λ q a to side h v. leads_over g u mt m un side (over_begins g u mt m un h v);
      over_completes = λ q p a to side h l v. over_completes g u mt m un h l v;
    }
