-- What is taken is settled by the classes held: asking foretells it.
use Rattle.std.specs.Prelude.{◌≡◌, ℕ, ◌≤◌, List, [], ◌∷◌, ◌++◌, length, Some, None, Option, refl}
use Rattle.std.proofs.Common.{sym, ap, subst, ◌∙◌, arith}
use Rattle.std.proofs.lemmas.Bool.{lt-ltb, ltb-true}
use Rattle.table.specs.Lists.{StandsAt, Lacks, Distinct}
use Rattle.table.specs.declared.numbers.ClassNo.{ClassNo}
use Rattle.table.proofs.Lists.{stands_below, stands_same}
use Rattle.theory.specs.Policies.{Class}
use Rattle.policy.specs.Classes.{Room, HasRoom, free_place, Taken, Foretold}
use Rattle.policy.specs.Classes.Taken.{old, new, unheld, no_place}
use Rattle.policy.specs.Places.{Placed}
use Rattle.policy.specs.Places.Placed.{old as p_old, new as p_new, full as p_full}

some_same : (i j : ClassNo) → i.0 ≡ j.0 → ◌≡◌ {A = Option ClassNo} (Some i) (Some j)
some_same i j e = ap (λ (n : ℕ). Some (record { 0 = n })) e

module _ (held : List Class) (onward : Class → Class) (i : ℕ) where
  -- one class stands at i
  one : {c e : Class} → StandsAt held i c → StandsAt held i e → onward c ≡ onward e
  one {c} {e} s t = ap onward (stands_same held i c e s t)

  not_both : {c e : Class} (j : ℕ) → StandsAt held i c → StandsAt held i e → StandsAt held j (onward c) → Lacks held (onward e) → ⊥
  not_both j s t a l = l j (subst (StandsAt held j) (one s t) a)

  past : {c : Class} → StandsAt held i c → length held ≤ i → ⊥
  past {c} s p = let b = stands_below held i c s in omega arith

  pub taken_same : {room : Room} → Distinct held → {r r' : Option ClassNo} {h h' : List Class} → Taken room held onward i r h → Taken room held onward i r' h' → (r ≡ r') × (h ≡ h')
  taken_same d (old {j = j} c s a) (old {j = k} e t b) =
      (some_same j k (d j.0 k.0 (onward e) (subst (StandsAt held j.0) (one s t) a) b), refl)
  taken_same d (old {j = j} c s a) (new e t l f q) = absurd (not_both j.0 s t a l)
  taken_same d (old c s a) (unheld p) = absurd (past s p)
  taken_same d (old {j = j} c s a) (no_place e t l f) = absurd (not_both j.0 s t a l)
  taken_same d (new c s l f q) (old {j = k} e t b) = absurd (not_both k.0 t s b l)
  taken_same d (new {j = j} c s l f q) (new {j = k} e t m g p) = (some_same j k (q ∙ sym p), ap (λ (x : Class). held ++ (x ∷ [])) (one s t))
  taken_same d (new c s l f q) (unheld p) = absurd (past s p)
  taken_same {room} d (new c s l f q) (no_place e t m g) = absurd (g (subst (HasRoom room held) (one s t) f))
  taken_same d (unheld p) (old e t b) = absurd (past t p)
  taken_same d (unheld p) (new e t l f q) = absurd (past t p)
  taken_same d (unheld p) (unheld q) = (refl, refl)
  taken_same d (unheld p) (no_place e t l f) = (refl, refl)
  taken_same d (no_place c s l f) (old {j = k} e t b) = absurd (not_both k.0 t s b l)
  taken_same {room} d (no_place c s l f) (new e t m g q) = absurd (f (subst (HasRoom room held) (sym (one s t)) g))
  taken_same d (no_place c s l f) (unheld p) = (refl, refl)
  taken_same d (no_place c s l f) (no_place e t m g) = (refl, refl)

none_kept : {room : Room} {held : List Class} {onward : Class → Class} {i : ℕ} {h : List Class} → Taken room held onward i None h → h ≡ held
none_kept (unheld p) = refl
none_kept (no_place c s l f) = refl

-- no class has two numbers, so asking foretells taking
pub foretold : (room : Room) (held : List Class) → Distinct held → Foretold room held
foretold room held d =
    record { same = λ onward i r r' h f t. (taken_same held onward i d f.1 t).0; kept = λ onward i h t. none_kept t }

-- where entries stand for classes, one for each, and e for the class after the one at i: as e is found or added, that class is taken
module _ {E : Type 0} (of : List E → List Class) (es : List E) (e : E) (onward : Class → Class) (i : ℕ) {c : Class} (here : StandsAt (of es) i c)
    (as_many : length (of es) ≡ length es)
    (there : (j : ℕ) → StandsAt es j e → StandsAt (of es) j (onward c))
    (lacks : Lacks es e → Lacks (of es) (onward c))
    (more : Lacks es e → of (es ++ (e ∷ [])) ≡ of es ++ (onward c ∷ [])) where
  pub placed_taken : {r : Option ClassNo} {es' : List E} → Placed es e r es' → Taken free_place (of es) onward i r (of es')
  placed_taken (p_old {j = j} s) = old c here (there j.0 s)
  placed_taken (p_new {j = j} n l f) =
      subst (Taken free_place (of es) onward i (Some j)) (sym (more l))
      (new c here (lacks l) (lt-ltb (length (of es)) 4096 (omega (arith, as_many))) (n ∙ sym as_many))
  placed_taken (p_full l f) = no_place c here (lacks l) (λ h. omega (arith, as_many, ltb-true (length (of es)) 4096 h))
