-- The jumps that moves over names give, move by move.
use Rattle.std.proofs.Common.{◌≡◌, ℕ, ◌+◌, ◌-◌, ◌<◌, ◌≤◌, ◌⊎◌, List, [], ◌∷◌, ◌++◌, length, get_or, take, sym, refl, ap, ◌∙◌, subst, inl, inr, ⊎_elim, arith}
use mathlib.Core.List.Memᴰ
use mathlib.Core.List.{Memᴰ}
use Rattle.std.proofs.lemmas.List.{take-map, map_more}
use Rattle.table.specs.declared.numbers.NodeNo.{NodeNo}
use Rattle.table.proofs.Lists.{mem_at, stands_map, stands_getD}
use Rattle.finding.specs.declared.moves.Move.{Move}
use Rattle.finding.specs.Numbered.{Arrow}
use Rattle.machine.specs.declared.items.Items.{Items}
use Rattle.machine.specs.Index.{Chain}
use Rattle.machine.specs.Index.Chain.{end, link}
use Rattle.flattening.specs.declared.jump.Jump.{Jump}
use Rattle.flattening.specs.declared.kept.JumpTable.{JumpTable}
use Rattle.flattening.specs.Keeping.{Keeps}
use Rattle.flattening.specs.Walks.{plain, arrows, Opened, Gives, Given, PutMore}

-- from a number one chain goes on
pub chain_one : {next : List ℕ} {k : ℕ} {ks js : List ℕ} → Chain next k ks → Chain next k js → ks ≡ js
chain_one end end = refl
chain_one end (link h f d) = absurd (omega arith)
chain_one (link h f d) end = absurd (omega arith)
chain_one (link {k = k} h f d) (link i g e) = ap (λ l. k ∷ l) (chain_one d e)

module _ (items : Items) (moves : List Arrow) where
  given_among : (some more : List Arrow) {j : ℕ × ℕ} → ((m : Arrow) → Memᴰ m some → Memᴰ m more) → Given items moves some j → Given items moves more j
  given_among some more h g = record { move = g.move; among = h g.move g.among; named = g.named; numbers = g.numbers; chain = g.chain; gives = g.gives }

  -- the last move gives the jump, or an earlier one does
  given_last : (some : List Arrow) (m : Arrow) {j : ℕ × ℕ} → Given items moves (some ++ (m ∷ [])) j → Given items moves some j ⊎ Given items moves (m ∷ []) j
  given_last some m g =
      ⊎_elim
      (λ h. inl (record { move = g.move; among = h; named = g.named; numbers = g.numbers; chain = g.chain; gives = g.gives }))
      (λ h. inr (record { move = g.move; among = h; named = g.named; numbers = g.numbers; chain = g.chain; gives = g.gives }))
      (Memᴰ.append_cases some g.among)

  module _ (m : Arrow) where
    one_move : {j : ℕ × ℕ} (g : Given items moves (m ∷ []) j) → g.move ≡ m
    one_move g = ⊎_elim (λ e. e) (λ n. absurd (Memᴰ.not-nil n)) (Memᴰ.cases_cons g.among)

    one_given : (o : Opened items moves m) → items.words ≤ m.1 → {j : ℕ × ℕ} → Gives items.after moves m o.numbers j → Given items moves (m ∷ []) j
    one_given o n g = record { move = m; among = Memᴰ.head refl; named = n; numbers = o.numbers; chain = o.chain; gives = g }

    given_one : (o : Opened items moves m) {j : ℕ × ℕ} → Given items moves (m ∷ []) j → Gives items.after moves m o.numbers j
    given_one o {j} g =
        let e = one_move g in
        let c : Chain items.next (get_or items.head (m.1 - items.words) 0) g.numbers = subst (λ (a : Arrow). Chain items.next (get_or items.head (a.1 - items.words) 0) g.numbers) e g.chain in
        let k : Gives items.after moves m g.numbers j = subst (λ (a : Arrow). Gives items.after moves a g.numbers j) e g.gives in
        subst (λ ns. Gives items.after moves m ns j) (chain_one c o.chain) k

    module _ (some : List Arrow) {t : JumpTable} (p : PutMore [] (Given items moves some) t) where
      -- a move on a word gives none
      pub gather_word : m.1 < items.words → PutMore [] (Given items moves (some ++ (m ∷ []))) t
      gather_word word =
          record {
            jumps = p.jumps;
            keeps = p.keeps;
            are = λ j. (
              (λ i. ⊎_elim inl (λ g. inr (given_among some (some ++ (m ∷ [])) (λ a h. Memᴰ.append_left _ h) g)) ((p.are j).0 i)),
              (λ h. (p.are j).1 (⊎_elim inl (λ g. ⊎_elim inr (λ k. absurd (let n = subst (λ (a : Arrow). items.words ≤ a.1) (one_move k) k.named in omega arith)) (given_last some m g)) h)),
            );
          }

      -- a move over a name gives what its rules give
      pub gather_name : (t' : JumpTable) (o : Opened items moves m) → items.words ≤ m.1 → ((found : List Jump) → Keeps found t → PutMore found (Gives items.after moves m o.numbers) t')
          → PutMore [] (Given items moves (some ++ (m ∷ []))) t'
      gather_name t' o n put =
          let q = put p.jumps p.keeps in
          record {
            jumps = q.jumps;
            keeps = q.keeps;
            are = λ j. (
              (λ i. ⊎_elim (λ h. ⊎_elim inl (λ g. inr (given_among some (some ++ (m ∷ [])) (λ a k. Memᴰ.append_left _ k) g)) ((p.are j).0 h))
                  (λ g. inr (given_among (m ∷ []) (some ++ (m ∷ [])) (λ a k. Memᴰ.append_right some k) (one_given o n g))) ((q.are j).0 i)),
              (λ h. (q.are j).1 (⊎_elim (λ i. absurd (Memᴰ.not-nil i)) (λ g. ⊎_elim (λ k. inl ((p.are j).1 (inr k))) (λ k. inr (given_one o k)) (given_last some m g)) h)),
            );
          }

-- the moves one by one

-- what is read past the end
abbrev pub no_move : Move NodeNo
no_move = record { from = record { 0 = 0 }; symbol = 0; to = record { 0 = 0 } }

module _ (moves : List (Move NodeNo)) (i : ℕ) (d : Move NodeNo) where
  pub arrows_more : i < length moves → take (i + 1) (arrows moves) ≡ take i (arrows moves) ++ (plain (get_or moves i d) ∷ [])
  arrows_more h =
      take-map plain (i + 1) moves ∙ map_more plain moves i d h ∙ ap (λ l. l ++ (plain (get_or moves i d) ∷ [])) (sym (take-map plain i moves))

  pub arrow_among : i < length moves → Memᴰ (plain (get_or moves i d)) (arrows moves)
  arrow_among h = mem_at (arrows moves) i (plain (get_or moves i d)) (stands_map plain moves i (get_or moves i d) (stands_getD moves i d h))
