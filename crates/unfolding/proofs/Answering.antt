-- From what the search answers to the unfolded machine.
use Rattle.std.proofs.Common.{◌≡◌, ℕ, ◌<◌, ◌≤◌, min, List, [], ◌∷◌, length, take, Ok, Result, sym, refl, ap, subst, arith, length-take-le}
use lib.ListN.{length-map}
use Rattle.table.specs.declared.numbers.NodeNo.{NodeNo}
use Rattle.table.proofs.Lists.{stands_some}
use Rattle.finding.specs.declared.moves.Count.{Count}
use Rattle.finding.specs.declared.moves.Move.{Move}
use Rattle.finding.specs.declared.moves.Stop.{Stop}
use Rattle.finding.specs.declared.moves.Stop.TheVariants.{Room as NoRoom, Entry as NoEntry, Arrow as NoArrow}
use Rattle.finding.specs.Finding.{arrow, within, Refused}
use Rattle.finding.specs.Laws.{Along}
use Rattle.finding.specs.Laws.Along.{here, on}
use Rattle.finding.specs.Numbered.{Arrow, upto}
use Rattle.finding.specs.Spaces.{Answered}
use Rattle.theory.specs.Policies.{Class, Meaning, Stacked}
use Rattle.theory.specs.Policies.Stacked.{empty, push}
use Rattle.theory.specs.Unfolding.{Node as MeantNode, node, onward, StackOf}
use Rattle.theory.proofs.Unfolding.{along_mem, onward_only}
use Rattle.policy.specs.Classes.{Room, class_at, Tracks}
use Rattle.policy.proofs.Tracking.{tracks_first}
use Rattle.unfolding.specs.declared.node.Node.{Node}
use Rattle.unfolding.specs.Nodes.{class_number, node_of, nodes_of, node_search}
use Rattle.unfolding.specs.Refusals.{refusal, fault_of}
use Rattle.unfolding.specs.Unfoldings.{first_node, limits, UnfoldingRefusal, UnfoldedIn}
use Rattle.unfolding.specs.Unfoldings.UnfoldingRefusal.{class_unfit, node_limit, move_limit}

abbrev first_row : Node
first_row = record { state = record { 0 = 0 }; class = record { 0 = 0 } }

abbrev plain_number : NodeNo → ℕ
plain_number n = n.0

-- where only the empty stack's class is held, the first row stands for the first node
pub first_is : (m : Meaning) {held : List Class} → held ≡ m.first ∷ [] → node_of held first_row ≡ first_node m
first_is m e = ap (λ (h : List Class). node 0 (class_at h 0)) e

pub first_tracks : {held : List Class} {c : Class} → held ≡ c ∷ [] → Tracks class_number held (first_row ∷ [])
first_tracks {held} {c} e = subst (λ (h : List Class). Tracks class_number h (first_row ∷ [])) (sym e) (tracks_first class_number c first_row refl)

-- a walk over nodes is a stack
stack_along : (m : Meaning) (ms : List Arrow) (symbols : List ℕ) {xs : List ℕ} {n : MeantNode} → Along (onward m ms) symbols (first_node m) xs n → (stack : List (ℕ × ℕ)) × Stacked ms m stack n.state n.class
stack_along m ms symbols here = ([], empty)
stack_along m ms symbols (on {x = x} {b = b} {c = n} w i e) =
    let (stack, s) = stack_along m ms symbols w in
    let o = onward_only m ms b x e in (
      (b.state, x) ∷ stack,
      subst (λ (k : MeantNode). Stacked ms m ((b.state, x) ∷ stack) k.state k.class) (sym o.is) (push s (along_mem ms o.moves)),
    )

-- the search's answer, at what the policy was when it was lent
pub as_limits : {K : Type 0} (meaning : K → Meaning) (room : K → Room) {k k' : K} {start : MeantNode} (ms : List Arrow) (symbols nodes arrows : ℕ) (held : List Class) (rows : List Node) (unfolded : List (Move NodeNo)) (r : Result Count Stop)
    → k ≡ k' → start ≡ first_node (meaning k')
    → Answered (within (node_search (meaning k) (room k) ms symbols) (min nodes 4096) (min arrows 16384)) start (node_of held) plain_number rows unfolded r
    → Answered (limits (meaning k') (room k') ms symbols nodes arrows) (first_node (meaning k')) (node_of held) plain_number rows unfolded r
unfolding limits
as_limits {K} meaning room {k} {k'} {start} ms symbols nodes arrows held rows unfolded r e f a =
    subst (λ (n : MeantNode). Answered (within (node_search (meaning k') (room k') ms symbols) (min nodes 4096) (min arrows 16384)) n (node_of held) plain_number rows unfolded r) f
    (subst (λ (l : K). Answered (within (node_search (meaning l) (room l) ms symbols) (min nodes 4096) (min arrows 16384)) start (node_of held) plain_number rows unfolded r) e a)

module _ (m : Meaning) (room : Room) (ms : List Arrow) (symbols : ℕ) (nodes arrows : ℕ) where
  pub refuses : (stop : Stop) → Refused (limits m room ms symbols nodes arrows) (first_node m) stop → UnfoldingRefusal m room ms symbols nodes arrows (refusal (fault_of stop))
  refuses (NoRoom n) r = class_unfit n r
  refuses (NoEntry n) r = node_limit n r
  refuses (NoArrow q n) r = move_limit q n r

  module _ (held : List Class) (rows : List Node) (unfolded : List (Move NodeNo)) (c : Count)
      (a : Answered (limits m room ms symbols nodes arrows) (first_node m) (node_of held) plain_number rows unfolded (Ok c)) (n-in : c.entries ≤ length rows) (m-in : c.moves ≤ length unfolded) where
    counts : (c.entries ≤ min nodes 4096) × (c.moves ≤ min arrows 16384)
    unfolding limits
    counts = (
      omega (arith, a.fits.few, length-map (take c.entries rows) (node_of held), length-take-le c.entries rows n-in),
      omega (arith, a.fits.few_moves, length-map (take c.moves unfolded) (arrow plain_number), length-take-le c.moves unfolded m-in),
    )

    stacks : (p : ℕ) → p < c.entries → StackOf m ms (nodes_of held (take c.entries rows)) p
    unfolding limits
    stacks p h =
        let n = length-map (take c.entries rows) (node_of held) in
        let l = length-take-le c.entries rows n-in in
        let (its, at) = stands_some (nodes_of held (take c.entries rows)) p (omega arith) in
        let (xs, w) = a.laws.reached p its at in
        let (stack, s) = stack_along m ms (upto symbols) w in
        record { its = its; at = at; stack = stack; stacked = s }

    pub unfolds : Tracks class_number held (take c.entries rows) → length rows ≡ nodes → length unfolded ≡ arrows → UnfoldedIn m room ms symbols held rows unfolded c
    unfolding limits
    unfolds t long wide =
        record {
          nodes_fit = subst (λ (k : ℕ). c.entries ≤ min k 4096) (sym long) counts.0;
          moves_fit = subst (λ (k : ℕ). c.moves ≤ min k 16384) (sym wide) counts.1;
          unfolded = a.fits.numbered;
          placed = rw (long, wide) a.found;
          classes = t;
          stacks = stacks;
        }
