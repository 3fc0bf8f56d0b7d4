-- A finer policy passes no more: nodes of the two unfoldings that share a stack move, jump and end alike.
use Rattle.std.proofs.Common.{◌≡◌, ℕ, List, [], ◌∷◌, sym, ap, ◌∙◌, subst}
use mathlib.Core.List.{Memᴰ}
use mathlib.Core.Option.{some}
use lib.ListN.{get_elem?}
use Rattle.book.specs.Grammar.{Grammar, symbols}
use Rattle.finding.specs.Numbered.{Arrow}
use Rattle.theory.specs.Items.{Sound}
use Rattle.theory.specs.Machine.{Machine, FinalState}
use Rattle.theory.specs.Policies.{Class, Meaning, Stacked, Finer}
use Rattle.theory.specs.Policies.Stacked.{empty, push}
use Rattle.theory.specs.Unfolding.{Node, node, Unfolded, FinalNode}
use Rattle.theory.specs.Flattening.{Acceptor, Leads}
use Rattle.theory.specs.Flattening.Leads.{here, on}
use Rattle.theory.specs.Sentences.{Reads}
use Rattle.theory.specs.Sentences.Reads.{stop, arc, jump}
use Rattle.theory.proofs.Lists.{some_one}
use Rattle.theory.proofs.Numbering.{place_one}
use Rattle.theory.proofs.Graphs.{Graph, Move, Lawful, Flat, Returns}
use Rattle.theory.proofs.Unfolding.{node_zero, edge, edge_on, graph, item_of}

-- places of a fine and of a coarse graph that go together
pub record Refines (G H : Graph) (Shares : ℕ → ℕ → Type 0) : Type 0 where
  pub first : Shares 0 0
  pub one : {p c d : ℕ} → Shares p c → Shares p d → c ≡ d
  pub follows : {q p c x : ℕ} → Shares q c → Move G q x p → (d : ℕ) × Move H c x d × Shares p d
  pub items : {p c a : ℕ} {l r : List ℕ} → Shares p c → G.Item p a l r → H.Item c a l r

module _ {g : Grammar} {G H : Graph} (m : Lawful g G) {Shares : ℕ → ℕ → Type 0} (r : Refines G H Shares) where
  leads : {q p : ℕ} {xs : List ℕ} → Leads G.moves q xs p → {c : ℕ} → Shares q c → (d : ℕ) × Leads H.moves c xs d × Shares p d
  leads here {c} s = (c, here, s)
  leads (on v l) s = let (k, w, u) = r.follows s v in let (d, t, z) = leads l u in (d, on w t, z)

  returns : {p to : ℕ} → Returns g G p to → {c : ℕ} → Shares p c → (d : ℕ) × Returns g H c d × Shares to d
  returns j {c} s =
      let (way, l) = m.reached j.over in
      let (o, w, z) = leads l r.first in
      let (e, over, u) = leads j.leads z in
      let (d, move, y) = r.follows z j.over in (
        d,
        record {
          left = j.left;
          side = j.side;
          from = o;
          rewrites = j.rewrites;
          item = r.items s j.item;
          leads = subst (Leads H.moves o j.side) (r.one u s) over;
          over = move;
        },
        y,
      )

  -- what is read in the fine graph is read in the coarse one
  pub reads : {e f : Acceptor} → Flat g G e → Flat g H f → {q p : ℕ} {w : List ℕ} → Reads e q w p → {c : ℕ} → Shares q c → (d : ℕ) × Reads f c w d × Shares p d
  reads fe ff stop {c} s = (c, stop, s)
  reads fe ff (arc {q = q} {r = to} {x = x} h y) {c} s =
      let (v, b) = (fe.arcs q x to).0 h in
      let (k, w, u) = r.follows s v in
      let (d, t, z) = reads fe ff y u in (d, arc ((ff.arcs c x k).1 (w, b)) t, z)
  reads fe ff (jump {q = q} {r = to} h y) {c} s =
      let (k, i, u) = returns ((fe.jumps q to).0 h) s in
      let (d, t, z) = reads fe ff y u in (d, jump ((ff.jumps c k).1 i) t, z)

-- ── two unfoldings of one machine ──

module _ (g : Grammar) (u : Sound g) {states : List (List ℕ)} {moves : List Arrow} (mt : Machine g states moves) (m n : Meaning) (finer : Finer moves m n)
    {ns : List Node} {ms : List Arrow} (mn : Unfolded m moves (symbols g) ns ms)
    {os : List Node} {vs : List Arrow} (nn : Unfolded n moves (symbols g) os vs) where
  -- nodes that share a stack
  pub record Shared (p c : ℕ) : Type 0 where
    pub stack : List (ℕ × ℕ)
    pub state : ℕ
    pub fine : Class
    pub coarse : Class
    pub fine_at : get_elem? ns p ≡ some (node state fine)
    pub coarse_at : get_elem? os c ≡ some (node state coarse)
    pub fine_stack : Stacked moves m stack state fine
    pub coarse_stack : Stacked moves n stack state coarse

  one : {p c d : ℕ} → Shared p c → Shared p d → c ≡ d
  one {p} {c} {d} s t =
      let e : node t.state t.fine ≡ node s.state s.fine = some_one t.fine_at s.fine_at in
      let q : t.state ≡ s.state = ap (λ (w : Node). w.state) e in
      let k : s.coarse ≡ t.coarse =
      finer s.stack t.stack s.state s.fine s.coarse t.coarse s.fine_stack
      (subst (λ (w : Node). Stacked moves m t.stack w.state w.class) e t.fine_stack)
      s.coarse_stack (subst (λ i. Stacked moves n t.stack i t.coarse) q t.coarse_stack) in
      place_one (symbols g) nn s.coarse_at (t.coarse_at ∙ (λ i. some (node (q i) (sym k i))))

  follows : {q p c x : ℕ} → Shared q c → Memᴰ (q, x, p) ms → (d : ℕ) × Memᴰ (c, x, d) vs × Shared p d
  follows {x = x} s v =
      let e = edge g u mt m mn s.fine_at v in
      let (d, w, z) = edge_on g u mt n nn s.coarse_at e.move in (
        d,
        w,
        record {
          stack = (s.state, x) ∷ s.stack;
          state = e.target;
          fine = m.next s.fine s.state x e.target;
          coarse = n.next s.coarse s.state x e.target;
          fine_at = e.at;
          coarse_at = z;
          fine_stack = push s.fine_stack e.move;
          coarse_stack = push s.coarse_stack e.move;
        },
      )

  pub refines : Refines (graph g u mt m mn) (graph g u mt n nn) Shared
  refines =
      record {
        first = record { stack = []; state = 0; fine = m.first; coarse = n.first; fine_at = node_zero g u mt m mn; coarse_at = node_zero g u mt n nn; fine_stack = empty; coarse_stack = empty };
        one = λ s t. one s t;
        follows = λ s v. follows s v;
        items = λ {p} {c} {a} {l} {r} s i. record { its = node s.state s.coarse; at = s.coarse_at; holds = item_of g u mt m mn p s.fine_at i };
      }

  -- a final node goes with a final node
  pub final_shared : {p c : ℕ} → Shared p c → FinalNode states ns p → FinalNode states os c
  final_shared s h =
      record {
        its = node s.state s.coarse;
        at = s.coarse_at;
        final = subst (λ (k : Node). FinalState states k.state) (some_one h.at s.fine_at) h.final;
      }
