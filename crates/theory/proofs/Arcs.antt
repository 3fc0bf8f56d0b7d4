-- The moves on words, in the order of an acceptor's arcs.
use Rattle.std.proofs.Common.{ℕ, ◌<◌, ltb, ◌↔◌, List, ltb-true, lt-ltb}
use mathlib.Core.List.{Memᴰ}
use Rattle.table.specs.Lists.{InOrder}
use Rattle.finding.specs.Numbered.{Arrow}
use Rattle.finding.specs.Laws.{Rises}
use Rattle.theory.specs.Flattening.{word_moves}
use Rattle.theory.proofs.Lists.{in_order_keep, keep_mem, mem_keep}

pub word_moves_are : (words : ℕ) (ms : List Arrow) (q x p : ℕ) → Memᴰ (q, x, p) (word_moves words ms) ↔ (Memᴰ (q, x, p) ms × (x < words))
word_moves_are words ms q x p = (
  (λ m. let (k, e) = keep_mem (λ (a : Arrow). ltb a.1 words) ms m in (k, ltb-true x words e)),
  (λ h. mem_keep (λ (a : Arrow). ltb a.1 words) ms h.0 (lt-ltb x words h.1)),
)

pub word_moves_rise : (words : ℕ) (ms : List Arrow) → InOrder Rises ms → InOrder Rises (word_moves words ms)
word_moves_rise words ms h = in_order_keep (λ (a : Arrow). ltb a.1 words) Rises ms h
