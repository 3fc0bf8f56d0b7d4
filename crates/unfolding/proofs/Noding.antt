-- Nodes as a space: what it answers is where the nodes lead, and the classes held are those of the nodes.
use Rattle.std.proofs.Common.{◌≡◌, ℕ, ◌<◌, List, [], ◌∷◌, ◌++◌, map, Some, None, Option, sym, refl, ap, ◌∙◌, subst, ⊎_elim, arith}
use Rattle.table.specs.Lists.{StandsAt, Lacks, Distinct}
use Rattle.table.specs.declared.numbers.ClassNo.{ClassNo}
use Rattle.table.specs.declared.numbers.StateNo.{StateNo}
use Rattle.table.proofs.Lists.{stands_is, stands_unmap}
use Rattle.finding.specs.Numbered.{Arrow}
use Rattle.finding.specs.Spaces.{LeastMove, Reached}
use Rattle.theory.specs.Policies.{Class, Meaning}
use Rattle.theory.specs.Policies.Class.{states}
use Rattle.theory.specs.Unfolding.{Node as MeantNode, node}
use Rattle.theory.proofs.Unfolding.{along_mem, onward_made, onward_none}
use Rattle.policy.specs.Classes.{Room, Taken, pushed, class_at, Tracks, HasPlace}
use Rattle.policy.proofs.Tracking.{Step, step, refused, map_same, entry_at, place_is, no_place_is, tracks_more}
use Rattle.unfolding.specs.declared.node.Node.{Node}
use Rattle.unfolding.specs.Moves.{Ordered, LeastSymbol}
use Rattle.unfolding.specs.Nodes.{class_number, node_of, nodes_of, node_search}

-- ── symbols ──

pub least_move : (m : Meaning) (room : Room) (ms : List Arrow) (symbols : ℕ) → Ordered ms symbols → (n : MeantNode) (from : ℕ) (r : Option ℕ) → LeastSymbol ms n.state from r → LeastMove (node_search m room ms symbols) n from r
least_move m room ms symbols o n from None h = λ x l u. onward_none m ms n x (h x l)
least_move m room ms symbols o n from (Some y) h =
    let (t, e) = h.2 in
    let b : y < symbols = o.below (n.state, y, t) (along_mem ms e) in
    let f = o.few in
    (h.0, omega arith, (λ x l u. onward_none m ms n x (h.1 x l u)), (b, (_, onward_made m ms n y e)))

-- ── nodes ──

row_same : (e : Node) (s c : ℕ) → e.state.0 ≡ s → class_number e ≡ c → e ≡ record { state = record { 0 = s }; class = record { 0 = c } }
row_same e s c p q =
    ap (λ (x : ℕ). record { state = record { 0 = x }; class = record { 0 = class_number e } }) p ∙ ap (λ (x : ℕ). record { state = record { 0 = s }; class = record { 0 = x } }) q

classes_of : (held : List Class) (es : List Node) → map (λ (n : MeantNode). n.class) (nodes_of held es) ≡ map (λ (e : Node). class_at held (class_number e)) es
classes_of held [] = refl
classes_of held (e ∷ es) = ap (λ (l : List Class). class_at held (class_number e) ∷ l) (classes_of held es)

module _ (m : Meaning) (room : Room) (held : List Class) (distinct : Distinct held) (es : List Node) (tracks : Tracks class_number held es)
    (k : ℕ) (e : Node) (at : StandsAt es k e) (x : ℕ) (to : StateNo) where
  abbrev c : Class
  c = class_at held (class_number e)

  -- the class and the node after e
  abbrev next_class : Class
  next_class = m.next c e.state.0 x to.0

  abbrev next_node : MeantNode
  next_node = node to.0 next_class

  abbrev has_room : List MeantNode → MeantNode → Type 0
  has_room found new = HasPlace room (map (λ n. n.class) found) new.class

  here : StandsAt held (class_number e) c
  here = entry_at class_number held es tracks k e at

  pub no_room : {held' : List Class} → Taken room held (pushed m e.state.0 x to.0) (class_number e) None held' → Lacks (nodes_of held es) next_node × (has_room (nodes_of held es) next_node → ⊥)
  no_room t =
      let (l, f, q) = refused room held (pushed m e.state.0 x to.0) (class_number e) distinct here t in (
        (λ j s. let (u, p, w) = stands_unmap (node_of held) es j next_node s in
            l (class_number u) (subst (StandsAt held (class_number u)) (ap (λ (n : MeantNode). n.class) w) (entry_at class_number held es tracks j u p))),
        (λ h. no_place_is class_number held es tracks room l f (subst (λ (l : List Class). HasPlace room l next_class) (classes_of held es) h)),
      )

  module _ (class : ClassNo) {held' : List Class} (taken : Taken room held (pushed m e.state.0 x to.0) (class_number e) (Some class) held') where
    s : Step room held next_class class.0 held'
    s = step room held (pushed m e.state.0 x to.0) (class_number e) distinct here class taken

    abbrev new : Node
    new = record { state = to; class = class }

    is : node_of held' new ≡ next_node
    is = ap (node to.0) (stands_is held' class.0 next_class (states []) s.now_at)

    kept : nodes_of held' es ≡ nodes_of held es
    kept =
        map_same (node_of held') (node_of held) es
        (λ j u p. ap (node u.state.0) (stands_is held' (class_number u) (class_at held (class_number u)) (states []) (s.keeps (class_number u) (class_at held (class_number u)) (entry_at class_number held es tracks j u p))))

    -- the same row again: nothing was taken
    again : (j : ℕ) → StandsAt es j new → Tracks class_number held' es
    again j p =
        let b = tracks.below j new p in
        ⊎_elim (λ q. subst (λ (h : List Class). Tracks class_number h es) (sym q) tracks) (λ q. absurd (omega (arith, q.0))) s.grown

    lacks : Lacks es new → Lacks (nodes_of held es) next_node
    lacks l j p =
        let (u, w, q) = stands_unmap (node_of held) es j next_node p in
        let v = s.only (class_number u) (subst (StandsAt held (class_number u)) (ap (λ (n : MeantNode). n.class) q) (entry_at class_number held es tracks j u w)) in
        l j (subst (StandsAt es j) (row_same u to.0 class.0 (ap (λ (n : MeantNode). n.state) q) v) w)

    pub reached : (ready : List Node → Type 0) → ((fs : List Node) → Tracks class_number held' fs → ready fs) → Reached (node_of held) (node_of held') ready has_room es next_node (Some new)
    reached ready f = (
      is,
      kept,
      (λ j p. f es (again j p)),
      (λ l. (
        lacks l,
        subst (λ (l : List Class). HasPlace room l next_class) (sym (classes_of held es)) (place_is class_number held es tracks room s.fits),
        f (es ++ (new ∷ [])) (tracks_more class_number held es tracks s new refl),
      )),
    )
