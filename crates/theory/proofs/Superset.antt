-- No sentence is lost: what the grammar derives is read along arcs and jumps.
use Rattle.std.proofs.Common.{ℕ, List, [], ◌∷◌, ◌++◌, sym, refl, subst, append_assoc, append-nil}
use Rattle.book.specs.Grammar.{Grammar, symbols, Rewrites, Derives}
use Rattle.theory.specs.Flattening.{Acceptor, Leads}
use Rattle.theory.specs.Flattening.Leads.{here, on}
use Rattle.theory.specs.Sentences.{Reads}
use Rattle.theory.specs.Sentences.Reads.{stop, arc, jump}
use Rattle.theory.proofs.Graphs.{Graph, Move, Lawful, Flat, Way}
use Rattle.theory.proofs.Graphs.Closes.{kernel, opened}
use Rattle.theory.proofs.Graphs.Way.{from, over}
use Rattle.theory.proofs.Trees.{Yields, tree}
use Rattle.theory.proofs.Trees.Yields.{nil, word, name}

module _ {g : Grammar} {G : Graph} (m : Lawful g G) {f : Acceptor} (fl : Flat g G f) where
  closes : {q : ℕ} {γ : List ℕ} → Way G.moves q γ → {a c : ℕ} {l r s : List ℕ} → G.Item q a l (c ∷ r) → Rewrites g c s → G.Item q c [] s
  closes from i h = m.zeroth_items.1 (opened (m.zeroth_items.0 i) h)
  closes (over w v) i h = (m.move_items v).1 (opened ((m.move_items v).0 i) h)

  carry : {q p : ℕ} {x a : ℕ} {l r : List ℕ} → G.Item q a l (x ∷ r) → Move G q x p → G.Item p a (l ++ (x ∷ [])) r
  carry {l = l} i v = (m.move_items v).1 (kernel (record { rest = l; was = i; is = refl }))

  reads_++ : {q r p : ℕ} {u v : List ℕ} → Reads f q u r → Reads f r v p → Reads f q (u ++ v) p
  reads_++ stop z = z
  reads_++ (arc v y) z = arc v (reads_++ y z)
  reads_++ (jump j y) z = jump j (reads_++ y z)

  record Through (q : ℕ) (a : ℕ) (l r w : List ℕ) : Type 0 where
    last : ℕ
    leads : Leads G.moves q r last
    reads : Reads f q w last
    item : G.Item last a (l ++ r) []

  through : {r w : List ℕ} → Yields g r w → {q : ℕ} {γ : List ℕ} → Way G.moves q γ → {a : ℕ} {l : List ℕ} → G.Item q a l r → Through q a l r w
  through nil {q} k {a} {l} i = record { last = q; leads = here; reads = stop; item = subst (λ k. G.Item q a k []) (sym (append-nil l)) i }
  through (word {x = x} {xs = xs} h y) {q} k {a} {l} i =
      let (p, v) = m.move_when i in
      let t = through y (over k v) (carry i v) in
      record {
        last = t.last;
        leads = on v t.leads;
        reads = arc ((fl.arcs q x p).1 (v, h)) t.reads;
        item = subst (λ k. G.Item t.last a k []) (append_assoc l (x ∷ []) xs) t.item;
      }
  through (name {a = c} {xs = xs} r d y) {q} {γ} k {a} {l} i =
      let (p, v) = m.move_when i in
      let s = through d k (closes k i r) in
      let t = through y (over k v) (carry i v) in
      record {
        last = t.last;
        leads = on v t.leads;
        reads = reads_++ s.reads (jump ((fl.jumps s.last p).1 (record { left = c; side = _; from = q; rewrites = r; item = s.item; leads = s.leads; over = v })) t.reads);
        item = subst (λ k. G.Item t.last a k []) (append_assoc l (c ∷ []) xs) t.item;
      }

  -- reading w leads from place 0 to one that holds S' → start ·
  pub record Accepted (w : List ℕ) : Type 0 where
    pub last : ℕ
    pub reads : Reads f 0 w last
    pub item : G.Item last (symbols g) (g.start ∷ []) []

  pub accepted : (w : List ℕ) → Derives g w → Accepted w
  accepted w d =
      let t = through (tree w d.sentence d.steps) from (m.zeroth_items.1 (kernel (record { left = refl; none = refl; whole = refl }))) in
      record { last = t.last; reads = t.reads; item = t.item }
