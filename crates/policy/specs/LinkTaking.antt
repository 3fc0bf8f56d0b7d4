-- What path takes: the classes that links stand for, before and after.
use Rattle.std.specs.Prelude.{◌≡◌, ℕ, zero, suc, ◌<◌, ◌≤◌, List, [], ◌∷◌, ◌++◌, map, length, Some, None, Option}
use Rattle.std.proofs.Common.{sym, ap, subst, ◌∙◌, ⊎_elim, arith}
use Rattle.std.proofs.Math.Option.{some}
use Rattle.std.proofs.lemmas.List.{length_push, length-map, same_from_push, map_push}
use Rattle.table.specs.Lists.{StandsAt, Lacks, Distinct}
use Rattle.table.specs.declared.numbers.ClassNo.{ClassNo}
use Rattle.table.proofs.Lists.{stands_below, stands_same, stands_is, stands_some, stands_left, stands_push, stands_map, stands_unmap, mem_at, distinct_push}
use Rattle.theory.specs.Policies.{Class, listed, cut_after}
use Rattle.theory.specs.Policies.Class.{states}
use Rattle.policy.specs.declared.path.Link.{Link}
use Rattle.policy.specs.declared.path.After.{After}
use Rattle.policy.specs.Classes.{free_place, Taken}
use Rattle.policy.specs.Classes.Taken.{old, unheld}
use Rattle.policy.specs.Taking.{placed_taken as entry_taken}
use Rattle.policy.specs.Places.{Placed}
use Rattle.policy.specs.Places.Placed.{old as p_old, new as p_new, full as p_full}
use Rattle.policy.specs.Paths.{link, along, paths, path_classes, Chained, Met, NextClass}
use Rattle.policy.specs.Paths.NextClass.{held as a_held, new as a_new, unheld as a_unheld}
use Rattle.policy.specs.declared.path.After.TheVariants.{Held, New}
use Rattle.policy.specs.Linked.{cut_new, grown_push, paths_length, root_path, link_path, ends}

abbrev onward : ℕ → Class → Class
onward t d = states (cut_after (listed d) t)

pub classes_length : (ls : List Link) → length (path_classes ls) ≡ length ls
classes_length ls = length-map (paths ls) states ∙ paths_length ls

states_same : {ss ts : List ℕ} → states ss ≡ states ts → ss ≡ ts
states_same e = ap listed e

link_same : (l : Link) (b s : ℕ) → l.back.0 ≡ b → l.state.0 ≡ s → l ≡ link b s
link_same l b s p q = ap (λ (x : ℕ). link x l.state.0) p ∙ ap (link b) q

module _ (ls : List Link) (c : Chained ls) (i t : ℕ) (ss : List ℕ) (at : StandsAt (paths ls) i ss) where
  here : StandsAt (path_classes ls) i (states ss)
  here = stands_map states (paths ls) i ss at

  -- a state on the way leads back to its class
  on_way : (j : ClassNo) → Met (paths ls) i t (Some j) → Taken free_place (path_classes ls) (onward t) i (Some j) (path_classes ls)
  on_way j m = old (states ss) here (stands_map states (paths ls) j.0 (cut_after ss t) (m ss at).1)

  module _ (m : Met (paths ls) i t None) where
    ahead : cut_after ss t ≡ ss ++ (t ∷ [])
    ahead = cut_new ss t (m ss at)

    -- the list at hand has a state
    filled : ss ≡ [] → ⊥
    filled e =
        let (l, s) = stands_some ls i (let b = stands_below (paths ls) i ss at in omega (arith, paths_length ls)) in
        let n = ends ls c i l ss s at in
        let a = length_push n.before l.state.0 in
        let z = ap length (sym e ∙ n.is) in
        omega arith

    -- the longer list is only that of the link to the list at hand
    link_there : (k : ℕ) (l : Link) → StandsAt ls k l → StandsAt (paths ls) k (ss ++ (t ∷ [])) → l ≡ link i t
    link_there zero l s p =
        let e : [] ++ (0 ∷ []) ≡ ss ++ (t ∷ []) = stands_same (paths ls) 0 (0 ∷ []) (ss ++ (t ∷ [])) (root_path ls c) p in
        absurd (filled (sym (same_from_push [] ss 0 t e).0))
    link_there (suc k) l s p =
        let e = ends ls c (suc k) l (ss ++ (t ∷ [])) s p in
        let (same, state) = same_from_push ss e.before t l.state.0 e.is in
        let b : StandsAt (paths ls) l.back.0 ss = subst (StandsAt (paths ls) l.back.0) (sym same) (e.behind (omega arith)) in
        link_same l i t (c.distinct l.back.0 i ss b at) (sym state)

    lacks_list : Lacks ls (link i t) → Lacks (paths ls) (ss ++ (t ∷ []))
    lacks_list n k p =
        let (l, s) = stands_some ls k (let b = stands_below (paths ls) k _ p in omega (arith, paths_length ls)) in
        n k (subst (StandsAt ls k) (link_there k l s p) s)

    lacks_class : Lacks ls (link i t) → Lacks (path_classes ls) (states (cut_after ss t))
    lacks_class n k p =
        let (us, s, e) = stands_unmap states (paths ls) k _ p in
        lacks_list n k (subst (StandsAt (paths ls) k) (states_same e ∙ ahead) s)

    -- the link stands for the longer list
    list_there : (j : ℕ) → StandsAt ls j (link i t) → StandsAt (paths ls) j (ss ++ (t ∷ []))
    list_there zero s =
        let q : link 0 0 ≡ link i t = stands_same ls 0 (link 0 0) (link i t) c.root s in
        let z : 0 ≡ i = ap (λ (l : Link). l.back.0) q in
        let w : 0 ≡ t = ap (λ (l : Link). l.state.0) q in
        let r : ss ≡ 0 ∷ [] = stands_same (paths ls) i ss (0 ∷ []) at (subst (λ (x : ℕ). StandsAt (paths ls) x (0 ∷ [])) z (root_path ls c)) in
        absurd (m ss at (mem_at ss 0 t (subst (λ (l : List ℕ). StandsAt l 0 t) (sym r) (ap some w))))
    list_there (suc j) s =
        subst (StandsAt (paths ls) (suc j)) (ap (λ (l : List ℕ). l ++ (t ∷ [])) (stands_is (paths ls) i ss [] at)) (link_path ls c (suc j) (link i t) s (omega arith))

    more : path_classes (ls ++ (link i t ∷ [])) ≡ path_classes ls ++ (states (cut_after ss t) ∷ [])
    more =
        ap (map states) (grown_push [] ls (link i t)) ∙ map_push states (paths ls) (along (paths ls) (link i t))
        ∙ ap (λ (l : List ℕ). path_classes ls ++ (states l ∷ [])) (ap (λ (l : List ℕ). l ++ (t ∷ [])) (stands_is (paths ls) i ss [] at) ∙ sym ahead)

    by_link : {r : Option ClassNo} {ls' : List Link} → Placed ls (link i t) r ls' → Taken free_place (path_classes ls) (onward t) i r (path_classes ls')
    by_link =
        entry_taken path_classes ls (link i t) (onward t) i here (classes_length ls)
        (λ j s. stands_map states (paths ls) j (cut_after ss t) (subst (StandsAt (paths ls) j) (sym ahead) (list_there j s)))
        lacks_class (λ l. more)

    simple_more : (k : ℕ) (us : List ℕ) → StandsAt (paths ls ++ ((ss ++ (t ∷ [])) ∷ [])) k us → Distinct us
    simple_more k us s =
        ⊎_elim (c.simple k us)
        (λ p. subst Distinct p.1 (distinct_push ss t (c.simple i ss at) (λ k h. m ss at (mem_at ss k t h))))
        (stands_push (paths ls) (ss ++ (t ∷ [])) us k s)

    kept : {r : Option ClassNo} {ls' : List Link} → Placed ls (link i t) r ls' → Chained ls'
    kept (p_old s) = c
    kept (p_new e l f) =
        let is : paths (ls ++ (link i t ∷ [])) ≡ paths ls ++ ((ss ++ (t ∷ [])) ∷ []) =
        grown_push [] ls (link i t) ∙ ap (λ (l : List ℕ). paths ls ++ ((l ++ (t ∷ [])) ∷ [])) (stands_is (paths ls) i ss [] at) in
        record {
          root = stands_left ls (link i t ∷ []) (link 0 0) 0 c.root;
          behind = λ k l s h. ⊎_elim (λ p. c.behind k l p h)
              (λ p. subst (λ (x : Link). x.back.0 < k) p.1 (let b = stands_below (paths ls) i ss at in omega (arith, p.0, paths_length ls)))
              (stands_push ls (link i t) l k s);
          simple = λ k us s. simple_more k us (subst (λ (ps : List (List ℕ)). StandsAt ps k us) is s);
          distinct = subst Distinct (sym is) (distinct_push (paths ls) (ss ++ (t ∷ [])) c.distinct (lacks_list l));
        }
    kept (p_full l f) = c

module _ (ls : List Link) (c : Chained ls) (i t : ℕ) where
  module _ (b : i < length ls) where
    at_hand : (ss : List ℕ) × StandsAt (paths ls) i ss
    at_hand = stands_some (paths ls) i (omega (arith, paths_length ls))

    pub met_taken : (j : ClassNo) → Met (paths ls) i t (Some j) → Taken free_place (path_classes ls) (onward t) i (Some j) (path_classes ls)
    met_taken j m = on_way ls c i t at_hand.0 at_hand.1 j m

    pub placed_taken : Met (paths ls) i t None → {r : Option ClassNo} {ls' : List Link} → Placed ls (link i t) r ls' → Taken free_place (path_classes ls) (onward t) i r (path_classes ls')
    placed_taken m p = by_link ls c i t at_hand.0 at_hand.1 m p

    pub placed_chained : Met (paths ls) i t None → {r : Option ClassNo} {ls' : List Link} → Placed ls (link i t) r ls' → Chained ls'
    placed_chained m p = kept ls c i t at_hand.0 at_hand.1 m p

  pub past_taken : length ls ≤ i → Taken free_place (path_classes ls) (onward t) i None (path_classes ls)
  past_taken h = unheld (omega (arith, classes_length ls))

  is_after : {a b : After} → a ≡ b → NextClass ls i t (Some a) → NextClass ls i t (Some b)
  is_after e n = subst (λ (a : After). NextClass ls i t (Some a)) e n

  held_by : {j : ClassNo} → NextClass ls i t (Some (Held j)) → Taken free_place (path_classes ls) (onward t) i (Some j) (path_classes ls)
  held_by {j} (a_held b m) = met_taken b j m

  taken_by : {l : Link} → NextClass ls i t (Some (New l)) → {r : Option ClassNo} {ls' : List Link} → Placed ls l r ls' → Taken free_place (path_classes ls) (onward t) i r (path_classes ls')
  taken_by (a_new b m) p = placed_taken b m p

  chained_by : {l : Link} → NextClass ls i t (Some (New l)) → {r : Option ClassNo} {ls' : List Link} → Placed ls l r ls' → Chained ls'
  chained_by (a_new b m) p = placed_chained b m p

  -- the class after the push is held, or that of a new link
  pub after_held : {a : After} {j : ClassNo} → a ≡ Held j → NextClass ls i t (Some a) → Taken free_place (path_classes ls) (onward t) i (Some j) (path_classes ls)
  after_held e n = held_by (is_after e n)

  module _ {a : After} {l : Link} (e : a ≡ New l) (n : NextClass ls i t (Some a)) {r : Option ClassNo} {ls' : List Link} (p : Placed ls l r ls') where
    pub after_taken : Taken free_place (path_classes ls) (onward t) i r (path_classes ls')
    after_taken = taken_by (is_after e n) p

    pub after_chained : Chained ls'
    after_chained = chained_by (is_after e n) p

  pub after_none : NextClass ls i t None → Taken free_place (path_classes ls) (onward t) i None (path_classes ls)
  after_none (a_unheld h) = past_taken h

-- no class has two numbers
pub classes_distinct : (ls : List Link) → Chained ls → Distinct (path_classes ls)
classes_distinct ls c j k d p q =
    let (ss, s, e) = stands_unmap states (paths ls) j d p in
    let (us, t, f) = stands_unmap states (paths ls) k d q in
    c.distinct j k ss s (subst (StandsAt (paths ls) k) (states_same (f ∙ sym e)) t)
