-- What the table tells of the jumps of an unfolded machine.
use Rattle.std.proofs.Common.{◌≡◌, ℕ, ◌≤◌, ◌↔◌, List, [], map, length, take, Ok, Err, Result, sym, refl, ap, ◌∙◌, subst, inr, ⊎_elim, arith}
use mathlib.Core.List.Memᴰ
use mathlib.Core.List.{Memᴰ}
use Rattle.std.proofs.lemmas.List.{take_all, length-take-le, length-map}
use Rattle.table.specs.declared.numbers.NodeNo.{NodeNo}
use Rattle.table.specs.Lists.{StandsAt, InOrder}
use Rattle.table.proofs.Lists.{mem_at, at_mem, stands_map, stands_unmap}
use Rattle.finding.specs.Numbered.{Arrow}
use Rattle.theory.specs.Flattening.{Jump as JumpFrom, JumpLess, word_moves}
use Rattle.theory.specs.Unfolding.{FinalNode}
use Rattle.theory.proofs.Arcs.{word_moves_are, word_moves_rise}
use Rattle.machine.specs.declared.items.Items.{Items}
use Rattle.flattening.specs.declared.fault.JumpFault.{JumpFault}
use Rattle.flattening.specs.declared.jump.Jump.{Jump}
use Rattle.flattening.specs.declared.kept.JumpTable.{JumpTable}
use Rattle.flattening.specs.declared.flat.FlatSummary.{FlatSummary}
use Rattle.flattening.specs.Orders.{pair, Before}
use Rattle.flattening.specs.Keeping.{At, Counted}
use Rattle.flattening.specs.Walks.{Given, PutMore}
use Rattle.flattening.specs.Flat.{Unfolding, JumpsOf, told, Told, JumpsFound, FlatIn}
use Rattle.flattening.proofs.Linking.{moves_rise, jumps_are}

pairs_rise : (all : List Jump) → InOrder Before all → InOrder JumpLess (map pair all)
pairs_rise all o i k x y h s r =
    let (a, p, e) = stands_unmap pair all i x s in
    let (b, q, f) = stands_unmap pair all k y r in
    subst (λ (z : ℕ × ℕ). JumpLess z y) e (subst (λ (z : ℕ × ℕ). JumpLess (pair a) z) f (o i k a b h p q))

mem_pairs : (all : List Jump) (j : Jump) → Memᴰ j all → Memᴰ (pair j) (map pair all)
mem_pairs all j m = let (i, s) = at_mem all j m in mem_at (map pair all) i (pair j) (stands_map pair all i j s)

pairs_mem : (all : List Jump) (x : ℕ × ℕ) → Memᴰ x (map pair all) → (j : Jump) × Memᴰ j all × (pair j ≡ x)
pairs_mem all x m =
    let (i, s) = at_mem (map pair all) x m in
    let (j, p, e) = stands_unmap pair all i x s in (j, mem_at all i j p, e)

module _ (items : Items) (moves : List Arrow) (u : Unfolding items moves) (t : JumpTable) (p : PutMore [] (Given items moves moves) t) where
  abbrev all : List Jump
  all = p.keeps.all

  jumps_of : JumpsOf u.grammar u.states u.nodes moves (map pair p.keeps.all)
  jumps_of =
      record {
        rising = pairs_rise p.keeps.all p.keeps.rising;
        are = λ q to. (
          (λ m. let (j, i, e) = pairs_mem p.keeps.all (q, to) m in
              (jumps_are items moves u q to).0
              (subst (λ (x : ℕ × ℕ). Given items moves moves x) e (⊎_elim (λ n. absurd (Memᴰ.not-nil n)) (λ v. v) ((p.are j).0 ((p.keeps.are j).0 i))))),
          (λ v. let j : Jump = record { from = record { 0 = q }; to = record { 0 = to } } in
              mem_pairs p.keeps.all j ((p.keeps.are j).1 ((p.are j).1 (inr ((jumps_are items moves u q to).1 v))))),
        );
      }

  row_count : length (take t.len t.rows.now) ≡ t.len
  row_count = let f = t.few in let l = t.limited in length-take-le t.len t.rows.now (omega arith)

  tells : (r : Result ℕ JumpFault) → Counted t r → Told t.limit (map pair p.keeps.all) r t.rows.now
  tells (Ok n) (none, e) =
      let short : length p.keeps.all ≤ t.limit = subst (At p.keeps.all t.limit) none p.keeps.next in
      let whole : take t.len t.rows.now ≡ p.keeps.all = p.keeps.rows_are ∙ take_all t.limit p.keeps.all short in
      let long : length p.keeps.all ≡ t.len = sym (ap length whole) ∙ row_count in (
        (let c = length-map p.keeps.all pair in omega arith),
        (let f = t.few in omega arith),
        ap (λ k. map pair (take k t.rows.now)) e ∙ ap (map pair) whole,
      )
  tells (Err f) (j, past, from) =
      let at : StandsAt p.keeps.all t.limit j = subst (At p.keeps.all t.limit) past p.keeps.next in
      (pair j, stands_map pair p.keeps.all t.limit j at, ap (λ (n : NodeNo). told 15 n.0) from)

  pub jumps_found : (limit : ℕ) (r : Result ℕ JumpFault) (rows : List Jump) → t.limit ≡ limit → rows ≡ t.rows.now → Counted t r
      → JumpsFound u.grammar u.states u.nodes moves limit r rows
  jumps_found limit r rows l e c =
      record {
        all = map pair p.keeps.all;
        of = jumps_of;
        answer = subst (λ k. Told k (map pair p.keeps.all) r rows) l (subst (Told t.limit (map pair p.keeps.all) r) (sym e) (tells r c));
      }

-- ── the whole acceptor ──

module _ (items : Items) (moves : List Arrow) (u : Unfolding items moves) (limit : ℕ) (s : FlatSummary) (rows : List Jump) where
  pub flat_in : JumpsFound u.grammar u.states u.nodes moves limit (Ok s.jumps) rows → FinalNode u.states u.nodes s.final_node.0
      → s.arcs ≡ length (word_moves items.words moves) → FlatIn u.grammar u.states u.nodes moves limit s rows
  flat_in j f a =
      let (n, few, is) = j.answer in
      record {
        flat = record {
          words_are = refl;
          nodes_are = refl;
          final_is = f;
          arcs_are = word_moves_are u.grammar.words moves;
          arcs_rise = word_moves_rise u.grammar.words moves (moves_rise items moves u);
          jumps_are = λ p to. subst (λ l. Memᴰ (p, to) l ↔ JumpFrom u.grammar u.states u.nodes moves p to) (sym is) (j.of.are p to);
          jumps_rise = subst (InOrder JumpLess) (sym is) j.of.rising;
        };
        arcs_counted = a ∙ ap (λ w. length (word_moves w moves)) u.items_of.words;
        jumps_counted = n ∙ ap length (sym is);
        few = few;
      }
