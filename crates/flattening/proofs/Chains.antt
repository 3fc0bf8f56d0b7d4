-- The jumps that the rules of a name give, rule by rule.
use Rattle.std.proofs.Common.{◌≡◌, ℕ, ◌-◌, ◌<◌, ◌⊎◌, ◌↔◌, List, [], ◌∷◌, get_or, sym, refl, ap, ◌∙◌, subst, inl, inr, ⊎_elim, arith}
use mathlib.Core.List.Memᴰ
use mathlib.Core.List.{Memᴰ}
use Rattle.table.specs.declared.numbers.NodeNo.{NodeNo}
use Rattle.finding.specs.Numbered.{Arrow}
use Rattle.machine.specs.declared.items.Items.{Items}
use Rattle.machine.specs.Index.{links}
use Rattle.machine.proofs.Links.{links_chain, chain_head}
use Rattle.flattening.specs.declared.jump.Jump.{Jump}
use Rattle.flattening.specs.declared.kept.JumpTable.{JumpTable}
use Rattle.flattening.specs.Orders.{pair}
use Rattle.flattening.specs.Keeping.{Keeps}
use Rattle.flattening.specs.Walks.{Spells, Ends, Opened, Gives, PutMore}
use Rattle.flattening.specs.Walks.Spells.{end, more}
use Rattle.flattening.proofs.Tables.{jump_same}

-- `rest` is left of the rules; with what these give, the table has what was found and what all of them give
pub record PutTo (items : Items) (moves : List Arrow) (m : Arrow) (found : List Jump) (numbers rest : List ℕ) (t : JumpTable) : Type 0 where
  pub ends : (n : ℕ) → Memᴰ n rest → (p : ℕ) × Ends items.after moves m.0 n p
  pub jumps : List Jump
  pub keeps : Keeps jumps t
  pub are : (j : Jump) → (Memᴰ j jumps ⊎ Gives items.after moves m rest (pair j)) ↔ (Memᴰ j found ⊎ Gives items.after moves m numbers (pair j))

-- a right side is spelt from an item on
spelt_below : {after : List ℕ} {k : ℕ} {xs : List ℕ} → Spells after k xs → k < 4096
spelt_below (end h e) = h
spelt_below (more h e b s) = h

pub put_start : (items : Items) (moves : List Arrow) (m : Arrow) (found : List Jump) (t : JumpTable) (o : Opened items moves m) → Keeps found t
    → PutTo items moves m found o.numbers (links items.next (get_or items.head (m.1 - items.words) 0)) t
put_start items moves m found t o k =
    let head = get_or items.head (m.1 - items.words) 0 in
    let here : head < 4096 = ⊎_elim (λ z. omega (arith, z)) (λ n. spelt_below (o.ends head n).1.spells) (chain_head o.chain) in
    subst (λ rest. PutTo items moves m found o.numbers rest t) (sym (links_chain here o.chain))
    (record { ends = o.ends; jumps = found; keeps = k; are = λ j. ((λ h. h), (λ h. h)) })

module _ (items : Items) (moves : List Arrow) (m : Arrow) (found : List Jump) (numbers : List ℕ) (k : ℕ) (left : List ℕ) (t : JumpTable) (at : PutTo items moves m found numbers (k ∷ left) t) where
  pub put_ends : (p : ℕ) × Ends items.after moves m.0 k p
  put_ends = at.ends k (Memᴰ.head refl)

  module _ (r to : NodeNo) (ends : Ends items.after moves m.0 k r.0) (one : (p : ℕ) → Ends items.after moves m.0 k p → p ≡ r.0) (over : to.0 ≡ m.2) where
    abbrev jump : Jump
    jump = record { from = r; to = to }

    first_gives : (j : Jump) → Gives items.after moves m (k ∷ left) (pair j) → (j ≡ jump) ⊎ Gives items.after moves m left (pair j)
    first_gives j g =
        ⊎_elim
        (λ e. inl (jump_same j jump (one j.from.0 (subst (λ n. Ends items.after moves m.0 n j.from.0) e g.ends)) (g.to ∙ sym over)))
        (λ n. inr (record { first = g.first; among = n; ends = g.ends; to = g.to }))
        (Memᴰ.cases_cons g.among)

    gives_first : (j : Jump) → j ≡ jump → Gives items.after moves m (k ∷ left) (pair j)
    gives_first j e =
        record { first = k; among = Memᴰ.head refl; ends = subst (λ (z : Jump). Ends items.after moves m.0 k z.from.0) (sym e) ends; to = ap (λ (z : Jump). z.to.0) e ∙ over }

    gives_rest : (j : Jump) → Gives items.after moves m left (pair j) → Gives items.after moves m (k ∷ left) (pair j)
    gives_rest j g = record { first = g.first; among = Memᴰ.tail g.among; ends = g.ends; to = g.to }

    pub put_next : (t' : JumpTable) → ((fs : List Jump) → Keeps fs t → Keeps (jump ∷ fs) t') → PutTo items moves m found numbers left t'
    put_next t' put =
        record {
          ends = λ n i. at.ends n (Memᴰ.tail i);
          jumps = jump ∷ at.jumps;
          keeps = put at.jumps at.keeps;
          are = λ j. (
            (λ h. (at.are j).0 (⊎_elim (λ i. ⊎_elim (λ e. inr (gives_first j e)) inl (Memᴰ.cases_cons i)) (λ g. inr (gives_rest j g)) h)),
            (λ h. ⊎_elim (λ i. inl (Memᴰ.tail i)) (λ g. ⊎_elim (λ e. inl (Memᴰ.head e)) inr (first_gives j g)) ((at.are j).1 h)),
          );
        }

pub put_end : {items : Items} {moves : List Arrow} {m : Arrow} {found : List Jump} {numbers : List ℕ} {t : JumpTable} → PutTo items moves m found numbers [] t → PutMore found (Gives items.after moves m numbers) t
put_end at =
    record {
      jumps = at.jumps;
      keeps = at.keeps;
      are = λ j. ((λ i. (at.are j).0 (inl i)), (λ h. ⊎_elim (λ i. i) (λ g. absurd (Memᴰ.not-nil g.among)) ((at.are j).1 h)));
    }
