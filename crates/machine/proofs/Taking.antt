-- Putting one item into a closure in the making.
use Rattle.std.proofs.Common.{◌≡◌, ℕ, ◌+◌, ◌-◌, ◌<◌, List, ◌∷◌, Some, None, sym, subst, inl, inr, ⊎_elim, arith}
use mathlib.Core.List.{Memᴰ}
use Rattle.book.specs.Grammar.{Grammar}
use Rattle.book.specs.Tables.{Name}
use Rattle.table.specs.Sets.{In, Inserted}
use Rattle.theory.specs.Items.{item_count, Dotted}
use Rattle.theory.specs.Closure.{Closed}
use Rattle.theory.specs.Closure.Closed.{kernel, opened}
use Rattle.theory.proofs.Items.{dotted_below, after_known, fit_sound}
use Rattle.machine.specs.declared.items.Items.{Items}
use Rattle.machine.specs.declared.closure.Closing.{Closing}
use Rattle.machine.specs.Index.{NameAfter}
use Rattle.machine.specs.Names.{Noted}
use Rattle.machine.specs.Closing.{ItemsOf, AfterDot, Within}
use Rattle.machine.proofs.Noting.{added}
use Rattle.machine.proofs.Indexing.{after_symbol, has_after}

-- an item of a closure is an item of the grammar
pub closed_below : {g : Grammar} {K : List ℕ} {k : ℕ} → Closed g K k → k < item_count g
closed_below (kernel m h) = h
closed_below {g} (opened {k = k} c d e) = dotted_below g k e

module _ (c c' : Closing) (k : ℕ) (ins : Inserted c.set.words k c'.set.words) where
  module _ (g : Grammar) (K : List ℕ) (items : Items) (of : ItemsOf g items) (closed : Closed g K k) (w : Within g K c) where
    sound_more : (j : ℕ) → In c'.set.words j → Closed g K j
    sound_more j h = ⊎_elim (λ o. w.sound j o) (λ n. subst (Closed g K) (sym n.0) closed) (ins.only j h)

    pub within_plain : NameAfter items.words items.after k None → c'.names ≡ c.names → Within g K c'
    within_plain none same =
        record {
          sound = sound_more;
          reasons = λ n m. w.reasons n (subst (Memᴰ n) same m);
          names = λ j a x l r h d n. subst (Memᴰ (x - g.words)) (sym same)
              (⊎_elim (λ o. w.names j a x l r o d n)
              (λ e. let is = after_symbol of.indexed k a x l r (subst (λ i. Dotted g i a l (x ∷ r)) e.0 d) in
              let ws = of.words in let gs = of.fit.words.1 in let ns = of.fit.names.1 in
              absurd (none (x - g.words) (omega arith) (omega arith) (omega arith)))
              (ins.only j h));
        }

    module _ (n : ℕ) (some : NameAfter items.words items.after k (Some n)) where
      dotted_name : Name g (g.words + n) × AfterDot g K (g.words + n)
      dotted_name =
          let h = has_after of.indexed k (g.words + n) (closed_below closed) (let ws = of.words in let i = some.0 in omega arith) (let u = of.fit.words.1 in let v = of.fit.names.1 in omega arith) in
          ((omega arith, after_known g (fit_sound g of.fit) k h.item), record { number = k; left = h.left; before = h.before; after = h.after; closed = closed; item = h.item })

      pub within_named : Noted c.names n c'.names → Within g K c'
      within_named noted =
          let m = added noted in
          record {
            sound = sound_more;
            reasons = λ j h. ⊎_elim (λ o. w.reasons j o)
                (λ q. subst (λ z. Name g (g.words + z) × AfterDot g K (g.words + z)) (sym q) dotted_name) ((m.are j).0 h);
            names = λ j a x l r h d name. (m.are _).1
                (⊎_elim (λ o. inl (w.names j a x l r o d name))
                (λ q. let is = after_symbol of.indexed k a x l r (subst (λ i. Dotted g i a l (x ∷ r)) q.0 d) in let ws = of.words in let i = some.0 in inr (omega arith))
                (ins.only j h));
          }
