-- The laws of flattened acceptors.
use Rattle.std.proofs.Common.{◌≡◌, ℕ, ◌⊎◌, List, subst, ⊎_elim}
use Rattle.book.specs.Grammar.{Grammar, symbols, Sentence, Derives, LeftLinear, RightLinear}
use Rattle.finding.specs.Numbered.{Arrow}
use Rattle.finding.proofs.Laws.{numbered_unique}
use Rattle.theory.specs.Items.{Sound}
use Rattle.theory.specs.Machine.{Machine}
use Rattle.theory.specs.Policies.{Meaning, FinerOn}
use Rattle.theory.specs.Unfolding.{Node, Unfolded}
use Rattle.theory.specs.Flattening.{Acceptor, FlattenedFrom, Flattened}
use Rattle.theory.specs.Sentences.{Reads, Passes}
use Rattle.theory.specs.Sentences.Reads.{stop, arc, jump}
use Rattle.theory.specs.Laws.{AllLaws, Foundations}
use Rattle.theory.proofs.Items.{items_length, dotted_only, dotted_at, dotted_next}
use Rattle.theory.proofs.Closure.{closure_members, closure_ascending, goto_carried, goto_none, carried_members}
use Rattle.theory.proofs.Policies.{policy_laws}
use Rattle.theory.proofs.Ranges.{in_range}
use Rattle.theory.proofs.Subsets.{subset_laws}
use Rattle.theory.proofs.States.{machine_unique, machine_laws}
use Rattle.theory.proofs.Unfolding.{graph_lawful, final_node_one, unfolding_laws}
use Rattle.theory.proofs.Superset.{accepted}
use Rattle.theory.proofs.LeftExact.{left_exact}
use Rattle.theory.proofs.RightExact.{right_exact}
use Rattle.theory.proofs.Finer.{reads, refines, final_shared}
use Rattle.theory.proofs.Flattening.{final_holds, holds_final, flat_of, flat_unique, jump_laws}

-- what is read is made of words
pub reads_sentence : (g : Grammar) {m : Meaning} {f : Acceptor} → Flattened g m f → {q p : ℕ} {w : List ℕ} → Reads f q w p → Sentence g w
reads_sentence g h stop = tt
reads_sentence g h (arc {q = q} {r = r} {x = x} a t) = (((h.flat.arcs_are q x r).0 a).1, reads_sentence g h t)
reads_sentence g h (jump j t) = reads_sentence g h t

module _ (g : Grammar) (u : Sound g) where
  pub nothing_lost : (m : Meaning) (f : Acceptor) → Flattened g m f → (w : List ℕ) → Derives g w → Passes f w
  nothing_lost m f h w d =
      let a = accepted (graph_lawful g u h.machine m h.unfolded) (flat_of g u h.machine m h.unfolded h.flat) w d in
      let e : a.last ≡ f.final = final_node_one g u h.machine m h.unfolded a.last f.final (holds_final g u a.item) h.flat.final_is in
      subst (Reads f 0 w) e a.reads

  pub exact : LeftLinear g ⊎ RightLinear g → (m : Meaning) (f : Acceptor) → Flattened g m f → (w : List ℕ) → Passes f w → Derives g w
  exact linear m f h w p =
      let lawful = graph_lawful g u h.machine m h.unfolded in
      let fl = flat_of g u h.machine m h.unfolded h.flat in
      let i = final_holds g h.flat.final_is in
      record { sentence = reads_sentence g h p; steps = ⊎_elim (λ k. left_exact lawful k fl p i) (λ k. right_exact lawful k u.start_named fl p i) linear }

  -- over one machine
  finer_on : (m n : Meaning) → FinerOn g m n → (e f : Acceptor) {states : List (List ℕ)} {moves : List Arrow} → Machine g states moves
      → {ns os : List Node} {ms vs : List Arrow} → Unfolded m moves (symbols g) ns ms → Unfolded n moves (symbols g) os vs
      → FlattenedFrom g states ns ms e → FlattenedFrom g states os vs f → (w : List ℕ) → Passes e w → Passes f w
  finer_on m n finer e f {states} {moves} mt mn nn he hf w p =
      let r = refines g u mt m n (finer states moves mt) mn nn in
      let (d, t, s) = reads (graph_lawful g u mt m mn) r (flat_of g u mt m mn he) (flat_of g u mt n nn hf) p r.first in
      let q : d ≡ f.final = final_node_one g u mt n nn d f.final (final_shared g u mt m n (finer states moves mt) mn nn s he.final_is) hf.final_is in
      subst (Reads f 0 w) q t

  -- a flattened acceptor over a machine that is known
  record Over (n : Meaning) (f : Acceptor) (states : List (List ℕ)) (moves : List Arrow) : Type 0 where
    nodes : List Node
    arrows : List Arrow
    unfolds : Unfolded n moves (symbols g) nodes arrows
    flattens : FlattenedFrom g states nodes arrows f

  over : {n : Meaning} {f : Acceptor} → Flattened g n f → {states : List (List ℕ)} {moves : List Arrow} → Machine g states moves → Over n f states moves
  over {n} {f} h {states} {moves} mt =
      let (s, v) = machine_unique g h.machine mt in
      record {
        nodes = h.nodes;
        arrows = h.unfolded_moves;
        unfolds = subst (λ a. Unfolded n a (symbols g) h.nodes h.unfolded_moves) v h.unfolded;
        flattens = subst (λ a. FlattenedFrom g a h.nodes h.unfolded_moves f) s h.flat;
      }

  pub finer : (m n : Meaning) → FinerOn g m n → (e f : Acceptor) → Flattened g m e → Flattened g n f → (w : List ℕ) → Passes e w → Passes f w
  finer m n k e f h i w p = let o = over i h.machine in finer_on m n k e f h.machine h.unfolded o.unfolds h.flat o.flattens w p

  pub one_acceptor : (m : Meaning) (e f : Acceptor) → Flattened g m e → Flattened g m f → e ≡ f
  one_acceptor m e f h i =
      let o = over i h.machine in
      let (ns, vs) = numbered_unique o.unfolds h.unfolded in
      flat_unique g u h.machine m h.unfolded h.flat
      (subst (λ (a : List Arrow). FlattenedFrom g h.states h.nodes a f) vs (subst (λ (a : List Node). FlattenedFrom g h.states a o.arrows f) ns o.flattens))

pub all_laws : AllLaws
all_laws g u = record { nothing_lost = nothing_lost g u; exact = exact g u; finer = finer g u; in_range = λ m f h. in_range g m h; one = one_acceptor g u }

pub foundations : Foundations
foundations =
    record {
      item_numbers = items_length;
      item_at = λ g k a l r. (dotted_only g k, dotted_at g k);
      item_next = λ g k a x l r d. dotted_next g k d;
      closure_members = closure_members;
      closure_ascends = closure_ascending;
      goto_moves = λ g set x k c. goto_carried g set x c;
      goto_stays = goto_none;
      carried_members = carried_members;
      machine = λ g u states moves mt. machine_laws g u mt;
      unfolding_laws = λ g u states moves mt m nodes arrows un. unfolding_laws g u mt m un;
      jumps = λ g u states moves mt m nodes arrows un. jump_laws g u mt m un;
      policies = policy_laws;
      subsets = subset_laws;
    }
