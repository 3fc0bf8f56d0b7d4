-- Numbered places with items and moves: what the laws ask of them.
use Rattle.std.proofs.Common.{◌≡◌, ℕ, ◌<◌, ◌↔◌, List, [], ◌∷◌, ◌++◌, sym, subst, append_assoc, append-nil}
use mathlib.Core.List.{Memᴰ}
use Rattle.book.specs.Grammar.{Grammar, symbols, Rewrites}
use Rattle.finding.specs.Numbered.{Arrow}
use Rattle.theory.specs.Flattening.{Acceptor, Leads}
use Rattle.theory.specs.Flattening.Leads.{here, on}

-- the least set of items that holds a kernel and the rules of each name after a dot
pub data Closes (g : Grammar) (K : ℕ → List ℕ → List ℕ → Type 0) : ℕ → List ℕ → List ℕ → Type 0 where
  kernel : {a : ℕ} {l r : List ℕ} → K a l r → Closes g K a l r
  opened : {a c : ℕ} {l r s : List ℕ} → Closes g K a l (c ∷ r) → Rewrites g c s → Closes g K c [] s

pub closes_map : {g : Grammar} {K L : ℕ → List ℕ → List ℕ → Type 0} → ((a : ℕ) (l r : List ℕ) → K a l r → L a l r) → {a : ℕ} {l r : List ℕ} → Closes g K a l r → Closes g L a l r
closes_map f (kernel k) = kernel (f _ _ _ k)
closes_map f (opened c r) = opened (closes_map f c) r

-- S' → · start
pub record Outset (g : Grammar) (a : ℕ) (l r : List ℕ) : Type 0 where
  pub left : a ≡ symbols g
  pub none : l ≡ []
  pub whole : r ≡ g.start ∷ []

-- an item with its dot carried over x
pub record Over (I : ℕ → List ℕ → List ℕ → Type 0) (x a : ℕ) (l r : List ℕ) : Type 0 where
  pub rest : List ℕ
  pub was : I a rest (x ∷ r)
  pub is : l ≡ rest ++ (x ∷ [])

pub record Graph : Type 1 where
  pub Item : ℕ → ℕ → List ℕ → List ℕ → Type 0
  pub moves : List Arrow

abbrev pub Move : Graph → ℕ → ℕ → ℕ → Type 0
Move G q x p = Memᴰ (q, x, p) G.moves

-- items and moves are those of a characteristic machine, each state once or more
pub record Lawful (g : Grammar) (G : Graph) : Type 0 where
  pub zeroth_items : {a : ℕ} {l r : List ℕ} → G.Item 0 a l r ↔ Closes g (Outset g) a l r
  pub move_items : {p q x a : ℕ} {l r : List ℕ} → Move G q x p → G.Item p a l r ↔ Closes g (Over (G.Item q) x) a l r
  pub move_when : {q x a : ℕ} {l r : List ℕ} → G.Item q a l (x ∷ r) → (p : ℕ) × Move G q x p
  pub move_only : {q p x : ℕ} → Move G q x p → (a : ℕ) × (l : List ℕ) × (r : List ℕ) × G.Item q a l (x ∷ r)
  pub reached : {q p x : ℕ} → Move G q x p → (way : List ℕ) × Leads G.moves 0 way q

-- a completed rule at p, taken back from a place that leads over it to p
pub record Returns (g : Grammar) (G : Graph) (p to : ℕ) : Type 0 where
  pub left : ℕ
  pub side : List ℕ
  pub from : ℕ
  pub rewrites : Rewrites g left side
  pub item : G.Item p left side []
  pub leads : Leads G.moves from side p
  pub over : Move G from left to

-- the acceptor has the moves on words as arcs, and the completed rules as jumps
pub record Flat (g : Grammar) (G : Graph) (f : Acceptor) : Type 0 where
  pub arcs : (q x p : ℕ) → Memᴰ (q, x, p) f.arcs ↔ (Move G q x p × (x < g.words))
  pub jumps : (p to : ℕ) → Memᴰ (p, to) f.jumps ↔ Returns g G p to

-- ── ways ──

-- the symbols on a way from place 0, the newest last
pub data Way (moves : List Arrow) : ℕ → List ℕ → Type 0 where
  from : Way moves 0 []
  over : {q p x : ℕ} {xs : List ℕ} → Way moves q xs → Memᴰ (q, x, p) moves → Way moves p (xs ++ (x ∷ []))

pub way_on : {moves : List Arrow} {q p : ℕ} {h : List ℕ} → Leads moves q h p → {g : List ℕ} → Way moves q g → Way moves p (g ++ h)
way_on {moves} {p = p} here {g} w = subst (Way moves p) (sym (append-nil g)) w
way_on {moves} {p = p} (on {x = x} {xs = xs} v t) {g} w = subst (Way moves p) (append_assoc g (x ∷ []) xs) (way_on t (over w v))

pub way_to : {moves : List Arrow} {p : ℕ} {g : List ℕ} → Leads moves 0 g p → Way moves p g
way_to l = way_on l from

pub leads_on : {moves : List Arrow} {q r : ℕ} {g : List ℕ} → Leads moves q g r → {p : ℕ} {h : List ℕ} → Leads moves r h p → Leads moves q (g ++ h) p
leads_on here k = k
leads_on (on v l) k = on v (leads_on l k)

pub way_back : {moves : List Arrow} {p : ℕ} {g : List ℕ} → Way moves p g → Leads moves 0 g p
way_back from = here
way_back (over w v) = leads_on (way_back w) (on v here)
