-- The jumps that the moves over names give are those of the unfolded machine.
use Rattle.std.proofs.Common.{◌≡◌, ℕ, suc, ◌-◌, ◌<◌, ◌≤◌, true, ◌↔◌, List, [], ◌∷◌, ◌++◌, get_or, is_some, Some, None, Option, sym, refl, subst, add-one, arith}
use mathlib.Core.List.{Memᴰ}
use Rattle.book.specs.Grammar.{rule, symbols, Rewrites}
use Rattle.book.specs.Tables.{Name}
use Rattle.table.specs.Lists.{InOrder}
use Rattle.table.specs.Numbers.{value_in}
use Rattle.table.specs.declared.numbers.NodeNo.{NodeNo}
use Rattle.table.proofs.Lists.{mem_at}
use Rattle.finding.specs.Numbered.{Arrow, upto}
use Rattle.finding.specs.Laws.{Rises, Laws}
use Rattle.finding.proofs.Laws.{numbered_laws, upto_ascending, upto_below}
use Rattle.theory.specs.Items.{Sound, Dotted}
use Rattle.theory.specs.Unfolding.{FinalNode, onward, node}
use Rattle.theory.specs.Flattening.{Jump as JumpFrom, JumpLaws}
use Rattle.theory.proofs.Items.{fit_sound, dotted_below, dotted_next, after_known, rule_first, first_placed, item_zero}
use Rattle.theory.proofs.Flattening.{jump_laws}
use Rattle.theory.proofs.Unfolding.{final_node}
use Rattle.machine.specs.declared.items.Items.{Items}
use Rattle.machine.specs.Index.{Chain}
use Rattle.machine.proofs.Indexing.{follower_at}
use Rattle.flattening.specs.Places.{MoveOn}
use Rattle.flattening.specs.Walks.{Spells, Given, AllOpened}
use Rattle.flattening.specs.Walks.Spells.{end, more}
use Rattle.flattening.specs.Flat.{Unfolding}
use Rattle.flattening.proofs.Walking.{spells_one}
use Rattle.flattening.proofs.Gathering.{chain_one}

module _ (items : Items) (moves : List Arrow) (u : Unfolding items moves) where
  sound : Sound u.grammar
  sound = fit_sound u.grammar u.items_of.fit

  laws : JumpLaws u.grammar u.states u.nodes moves
  laws = jump_laws u.grammar sound u.machine u.meaning u.unfolded

  numbering : Laws (onward u.meaning u.state_moves) (upto (symbols u.grammar)) (node 0 u.meaning.first) u.nodes moves
  numbering = numbered_laws u.unfolded (upto_ascending (symbols u.grammar))

  pub moves_rise : InOrder Rises moves
  moves_rise = numbering.rising

  -- a move is on a symbol of the grammar
  symbol_known : (m : Arrow) → Memᴰ m moves → m.1 < symbols u.grammar
  symbol_known m i = upto_below (symbols u.grammar) m.1 (numbering.only m i).symbol

  -- ── right sides ──

  -- the items spell what follows a dot
  spelled : (r : List ℕ) (k a : ℕ) (l : List ℕ) → Dotted u.grammar k a l r → Spells items.after k r
  spelled [] k a l d =
      let s = u.items_of.fit.small in
      end (omega (arith, dotted_below u.grammar k d)) (follower_at u.items_of.indexed k a l [] d)
  spelled (x ∷ r) k a l d =
      let s = u.items_of.fit.small in let w = u.items_of.fit.words.1 in let n = u.items_of.fit.names.1 in
      more (omega (arith, dotted_below u.grammar k d)) (follower_at u.items_of.indexed k a l (x ∷ r) d)
      (omega (arith, after_known u.grammar sound k d))
      (subst (λ i. Spells items.after i r) (sym (add-one k)) (spelled r (suc k) a (l ++ (x ∷ [])) (dotted_next u.grammar k d)))

  -- a first item of a name is that of one of its rules
  first_rule : (n c : ℕ) (s : List ℕ) → Name u.grammar c → Dotted u.grammar n c [] s → Rewrites u.grammar c s
  first_rule n c s h d = let f = first_placed u.grammar n c s h.1 d in (h.0, mem_at u.grammar.rules f.place (rule c s) f.at)

  named : (m : Arrow) → Memᴰ m moves → items.words ≤ m.1 → Name u.grammar m.1
  named m i h = (omega (arith, u.items_of.words), symbol_known m i)

  opened_chain : (m : Arrow) (i : Memᴰ m moves) (h : items.words ≤ m.1)
      → Chain items.next (get_or items.head (m.1 - items.words) 0) (u.items_of.indexed.opens m.1 (named m i h)).numbers
  opened_chain m i h =
      subst (λ w. Chain items.next (get_or items.head (m.1 - w) 0) (u.items_of.indexed.opens m.1 (named m i h)).numbers) (sym u.items_of.words)
      (u.items_of.indexed.opens m.1 (named m i h)).chain

  -- each move over a name has the rules of the name, and ways over them
  pub all_opened : AllOpened items moves
  all_opened m i h =
      let p = u.items_of.indexed.opens m.1 (named m i h) in
      let b = named m i h in let ws = u.items_of.words in let ns = u.items_of.fit.names.1 in
      record {
        numbers = p.numbers;
        known = omega arith;
        chain = opened_chain m i h;
        ends = λ n k.
            let (s, d) = (p.are n).0 k in
            let (t, l) = laws.leads_over m.0 m.1 m.2 s (first_rule n m.1 s (named m i h) d) i in
            (t, record { side = s; spells = spelled s n m.1 [] d; leads = l });
      }

  -- ── the jumps ──

  given_jump : (p to : ℕ) → Given items moves moves (p, to) → JumpFrom u.grammar u.states u.nodes moves p to
  given_jump p to v =
      let m = v.move in
      let rules = u.items_of.indexed.opens m.1 (named m v.among v.named) in
      let same : v.numbers ≡ rules.numbers = chain_one v.chain (opened_chain m v.among v.named) in
      let (s, d) = (rules.are v.gives.first).0 (subst (Memᴰ v.gives.first) same v.gives.among) in
      let whole : s ≡ v.gives.ends.side = spells_one (spelled s v.gives.first m.1 [] d) v.gives.ends.spells in
      let r : Rewrites u.grammar m.1 v.gives.ends.side = subst (Rewrites u.grammar m.1) whole (first_rule v.gives.first m.1 s (named m v.among v.named) d) in
      record {
        left = m.1;
        side = v.gives.ends.side;
        from = m.0;
        rewrites = r;
        leads = v.gives.ends.leads;
        item = laws.over_completes m.0 p m.1 m.2 v.gives.ends.side r v.gives.ends.leads v.among;
        over = subst (λ z. Memᴰ (m.0, m.1, z) moves) (sym v.gives.to) v.among;
      }

  jump_given : (p to : ℕ) → JumpFrom u.grammar u.states u.nodes moves p to → Given items moves moves (p, to)
  jump_given p to j =
      let h : items.words ≤ j.left = (let b = j.rewrites.0 in omega (arith, u.items_of.words)) in
      let rules = u.items_of.indexed.opens j.left (named (j.from, j.left, to) j.over h) in
      let (n, d) = rule_first u.grammar j.rewrites.1 in
      record {
        move = (j.from, j.left, to);
        among = j.over;
        named = h;
        numbers = rules.numbers;
        chain = opened_chain (j.from, j.left, to) j.over h;
        gives = record { first = n; among = (rules.are n).1 (j.side, d); ends = record { side = j.side; spells = spelled j.side n j.left [] d; leads = j.leads }; to = refl };
      }

  pub jumps_are : (p to : ℕ) → Given items moves moves (p, to) ↔ JumpFrom u.grammar u.states u.nodes moves p to
  jumps_are p to = (given_jump p to, jump_given p to)

  -- ── the final node ──

  -- the start name follows the dot of item 0
  start_first : get_or items.after 0 0 ≡ u.grammar.start
  start_first = follower_at u.items_of.indexed 0 (symbols u.grammar) [] (u.grammar.start ∷ []) (item_zero u.grammar)

  record Final : Type 0 where
    node_number : ℕ
    move : Memᴰ (0, get_or items.after 0 0, node_number) moves
    final : FinalNode u.states u.nodes node_number

  final_move : Final
  final_move =
      let (p, m, f) = final_node u.grammar sound u.machine u.meaning u.unfolded in
      record { node_number = p; move = subst (λ x. Memᴰ (0, x, p) moves) (sym start_first) m; final = f }

  module _ (o : Option NodeNo) (found : MoveOn moves 0 (get_or items.after 0 0) (value_in (λ n. n.0) o)) where
    pub final_some : is_some o ≡ true
    final_some = some o found
      where
        some : (o : Option NodeNo) → MoveOn moves 0 (get_or items.after 0 0) (value_in (λ n. n.0) o) → is_some o ≡ true
        some None n = absurd (n final_move.node_number final_move.move)
        some (Some r) n = refl

    pub final_is : (r : NodeNo) → o ≡ Some r → FinalNode u.states u.nodes r.0
    final_is r e =
        let one : MoveOn moves 0 (get_or items.after 0 0) (Some r.0) = subst (λ z. MoveOn moves 0 (get_or items.after 0 0) (value_in (λ n. n.0) z)) e found in
        subst (FinalNode u.states u.nodes) (one.1 final_move.node_number final_move.move) final_move.final
