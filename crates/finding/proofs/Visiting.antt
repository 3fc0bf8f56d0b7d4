-- The turns of a visit: symbols passed over, a move, a stop, and the next entry.
use Rattle.std.proofs.Common.{◌≡◌, ℕ, zero, suc, ◌+◌, ◌-◌, ◌<◌, ◌≤◌, List, map, length, take, Some, None, sym, refl, ap, ◌∙◌, subst, arith}
use Rattle.finding.specs.declared.moves.Count.{Count}
use Rattle.finding.specs.declared.moves.Stop.{Stop}
use Rattle.finding.specs.declared.moves.Move.{Move}
use Rattle.table.specs.Lists.{StandsAt}
use Rattle.finding.specs.Numbered.{Arrow}
use Rattle.finding.specs.Finding.{Search, Bounded, Place, within, stands, place, Turn, Turns, Stopped, TurnedTo}
use Rattle.finding.specs.Finding.Turn.{pass, next}
use Rattle.finding.specs.Finding.Turns.{stay, more}
use Rattle.finding.specs.Spaces.{Moves, LeastMove, Rests}
use Rattle.table.proofs.Lists.{stands_map, stands_below, stands_same}

pub same_bounds : {S A : Type 0} (f : S → Search A) {s s' : S} {a a' b b' : ℕ} → s ≡ s' → a ≡ a' → b ≡ b' → within (f s) a b ≡ within (f s') a' b'
same_bounds f {s} {s'} {a} {a'} {b} {b'} p q r =
    ap (λ y. within (f y) a b) p ∙ ap (λ y. within (f s') y b) q ∙ ap (λ y. within (f s') a' y) r

passes_by : {A : Type 0} (w : Bounded A) (es : List A) (ms : List Arrow) (i : ℕ) (a : A) → StandsAt es i a → (x k : ℕ) → x + k ≤ w.sought.symbols → Rests w.sought a x (x + k) → Turns w (place es ms i x) (place es ms i (x + k))
passes_by w es ms i a s x zero h rests = subst (λ y. Turns w (place es ms i x) (place es ms i y)) (let e : x ≡ x + 0 = omega arith in e) stay
passes_by w es ms i a s x (suc k) h rests =
    let before = passes_by w es ms i a s x k (omega arith) (λ y l u. rests y l (omega arith)) in
    let t : Turn w (place es ms i (x + k)) (place es ms i ((x + k) + 1)) = pass a s (omega arith) (rests (x + k) (omega arith) (omega arith)) in
    subst (λ y. Turns w (place es ms i x) (place es ms i y)) (let e : (x + k) + 1 ≡ x + suc k = omega arith in e) (more before t)

passes : {A : Type 0} (w : Bounded A) (es : List A) (ms : List Arrow) (i : ℕ) (a : A) → StandsAt es i a → (x y : ℕ) → x ≤ y → y ≤ w.sought.symbols → Rests w.sought a x y → Turns w (place es ms i x) (place es ms i y)
passes w es ms i a s x y l h rests =
    let e : x + (y - x) ≡ y = omega arith in
    subst (λ z. Turns w (place es ms i x) (place es ms i z)) e (passes_by w es ms i a s x (y - x) (omega arith) (λ z b u. rests z b (omega arith)))

pub joins : {A : Type 0} {w : Bounded A} {p q r : Place A} → Turns w p q → Turns w q r → Turns w p r
joins f stay = f
joins f (more g t) = more (joins f g) t

-- in a visit of entry i, which is e: turns led from p₀ to here, within these bounds, and x is the symbol to look at
pub record AtVisit {E A N : Type 0} (s : Search A) (f : E → A) (v : N → ℕ) (rows : List E) (moves : List (Move N)) (found : Count) (i x : ℕ)
    (e : E) (w₀ : Bounded A) (p₀ : Place A) : Type 1 where
  pub here : StandsAt (take found.entries rows) i e
  pub in_symbols : x ≤ s.symbols
  pub bounds : within s (length rows) (length moves) ≡ w₀
  pub turns : Turns w₀ p₀ (stands f v rows found.entries moves found.moves i x)

module _ {E A N : Type 0} {s : Search A} {f : E → A} {v : N → ℕ} {rows : List E} {moves : List (Move N)} {found : Count} {i x : ℕ}
    {e : E} {w₀ : Bounded A} {p₀ : Place A} (at : AtVisit s f v rows moves found i x e w₀ p₀) where
  abbrev W : Bounded A
  W = within s (length rows) (length moves)

  abbrev At : ℕ → Place A
  At y = stands f v rows found.entries moves found.moves i y

  here : StandsAt (map f (take found.entries rows)) i (f e)
  here = stands_map f (take found.entries rows) i e at.here

  -- an entry that stands there is e, and moves as e does
  pub moves_there : {y : ℕ} → Moves s (f e) y → (a : E) → StandsAt (take found.entries rows) i a → Moves s (f a) y
  moves_there {y} h a st = subst (λ b. Moves s (f b) y) (stands_same (take found.entries rows) i e a at.here st) h

  to_there : {y : ℕ} → x ≤ y → y ≤ s.symbols → Rests s (f e) x y → Turns W p₀ (At y)
  to_there {y} l h rests = joins (subst (λ w. Turns w p₀ (At x)) (sym at.bounds) at.turns) (passes W (At x).entries (At x).moves i (f e) here x y l h rests)

  pub on : {y : ℕ} → LeastMove s (f e) x (Some y) → {q : Place A} → Turn W (At y) q → Turns w₀ p₀ q
  on h {q} t = subst (λ w. Turns w p₀ q) at.bounds (more (to_there h.0 (omega (arith, h.3.0)) h.2) t)

  pub stops : {y : ℕ} → LeastMove s (f e) x (Some y) → {stop : Stop} → Stopped W (At y) stop → TurnedTo w₀ p₀ stop
  stops {y} h {stop} t = subst (λ w. TurnedTo w p₀ stop) at.bounds (At y, to_there h.0 (omega (arith, h.3.0)) h.2, t)

  pub over : LeastMove s (f e) x None → Turns w₀ p₀ (stands f v rows found.entries moves found.moves (i + 1) 0)
  over h =
      let b : i < length (map f (take found.entries rows)) = stands_below _ i (f e) here in
      subst (λ w. Turns w p₀ (stands f v rows found.entries moves found.moves (i + 1) 0)) at.bounds (more (to_there at.in_symbols (omega arith) h) (next b refl))
