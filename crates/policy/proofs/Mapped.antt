-- What is taken where an entry stands for its class whatever else is held.
use Rattle.std.proofs.Common.{◌≡◌, ℕ, ◌≤◌, List, [], ◌∷◌, ◌++◌, map, length, None, Option, sym, ap, ◌∙◌, subst, arith}
use Rattle.std.proofs.lemmas.List.{length-map, map_push}
use Rattle.table.specs.Lists.{StandsAt, Lacks, Distinct}
use Rattle.table.specs.declared.numbers.ClassNo.{ClassNo}
use Rattle.table.proofs.Lists.{stands_map, stands_unmap, distinct_push}
use Rattle.theory.specs.Policies.{Class}
use Rattle.policy.specs.Classes.{free_place, Taken}
use Rattle.policy.specs.Classes.Taken.{unheld}
use Rattle.policy.specs.Taking.{placed_taken}
use Rattle.policy.specs.Places.{Placed}
use Rattle.policy.specs.Places.Placed.{old as p_old, new as p_new, full as p_full}

module _ {E : Type 0} (f : E → Class) (one : (x y : E) → f x ≡ f y → x ≡ y) (es : List E) where
  lacks : (e : E) → Lacks es e → Lacks (map f es) (f e)
  lacks e l k s = let (x, t, q) = stands_unmap f es k (f e) s in l k (subst (StandsAt es k) (one x e q) t)

  -- no class has two numbers
  pub map_distinct : Distinct es → Distinct (map f es)
  map_distinct d j k c p q =
      let (x, s, e) = stands_unmap f es j c p in
      let (y, t, g) = stands_unmap f es k c q in
      d j k x s (subst (StandsAt es k) (one y x (g ∙ sym e)) t)

  -- where an entry for the class after the one at i is found or added
  pub map_taken : (onward : Class → Class) (i : ℕ) (a e : E) → StandsAt es i a → f e ≡ onward (f a) → {r : Option ClassNo} {es' : List E} → Placed es e r es' → Taken free_place (map f es) onward i r (map f es')
  map_taken onward i a e s q =
      placed_taken (map f) es e onward i (stands_map f es i a s) (length-map es f)
      (λ j t. subst (StandsAt (map f es) j) q (stands_map f es j e t))
      (λ l. subst (Lacks (map f es)) q (lacks e l))
      (λ l. map_push f es e ∙ ap (λ (c : Class). map f es ++ (c ∷ [])) q)

  pub map_past : (onward : Class → Class) (i : ℕ) → length es ≤ i → Taken free_place (map f es) onward i None (map f es)
  map_past onward i h = unheld (omega (arith, length-map es f))

-- the entries stay distinct
pub placed_distinct : {E : Type 0} {es : List E} {e : E} {r : Option ClassNo} {es' : List E} → Placed es e r es' → Distinct es → Distinct es'
placed_distinct (p_old s) d = d
placed_distinct {es = es} {e = e} (p_new n l h) d = distinct_push es e d l
placed_distinct (p_full l h) d = d
