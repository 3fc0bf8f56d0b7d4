-- The bytes of states: 1 where the final node is in the set.
use Rattle.std.proofs.Common.{◌≡◌, ℕ, Bool, true, false, eqb, List, [], ◌∷◌, map, length, Decides, sym, refl, ap, ◌∙◌, subst}
use Rattle.std.specs.List.{flat_map}
use Rattle.std.proofs.lemmas.List.{length-map}
use Rattle.std.proofs.lemmas.Simd.{map-map}
use Rattle.std.proofs.lemmas.Bool.{eqb-true, eq-eqb}
use Rattle.std.proofs.lemmas.List.Concat.{flat_map_single}
use Rattle.table.specs.declared.numbers.NodeNo.{NodeNo}
use Rattle.table.specs.declared.sets.NumberSet.{NumberSet}
use Rattle.table.specs.Sets.{Row, In, members}
use Rattle.table.proofs.Rows.{members_in, in_members}
use Rattle.theory.specs.Lists.{any}
use Rattle.theory.proofs.Lists.{any_mem, mem_any}
use Rattle.pgd.specs.Files.{final_byte}
use Rattle.pgd.specs.Writing.{sets, is_final}

same_truth : (a b : Bool) → (a ≡ true → b ≡ true) → (b ≡ true → a ≡ true) → a ≡ b
same_truth true b f g = sym (f refl)
same_truth false true f g = g refl
same_truth false false f g = refl

-- what decides whether k is a member finds it among the members
pub tells_member : (words : List ℕ) → Row words → (k : ℕ) (r : Bool) → Decides r (In words k) → r ≡ any (eqb k) (members words)
tells_member words row k r d =
    same_truth r (any (eqb k) (members words))
    (λ e. mem_any (eqb k) (members words) (in_members words row k (d.0 e)) (eq-eqb k k refl))
    (λ e. let (j, m, t) = any_mem (eqb k) (members words) e in d.1 (subst (In words) (sym (eqb-true k j t)) (members_in words j m)))

-- the byte of a state's row
abbrev pub row_byte : NodeNo → NumberSet NodeNo → ℕ
row_byte final e = final_byte (is_final final (members e.words))

module _ (final : NodeNo) (rows : List (NumberSet NodeNo)) where
  -- the bytes of rows, one by one, are those of their sets
  pub rows_bytes : flat_map (λ e. row_byte final e ∷ []) rows ≡ map final_byte (map (is_final final) (sets rows))
  rows_bytes =
      flat_map_single (row_byte final) rows ∙ sym (map-map final_byte (λ e. is_final final (members e.words)) rows)
      ∙ ap (map final_byte) (sym (map-map (is_final final) (λ e. members e.words) rows))

  pub length_rows_bytes : length (flat_map (λ e. row_byte final e ∷ []) rows) ≡ length rows
  length_rows_bytes = ap length (flat_map_single (row_byte final) rows) ∙ length-map rows (row_byte final)

  pub length_finals : length (map (is_final final) (sets rows)) ≡ length rows
  length_finals = length-map (sets rows) (is_final final) ∙ length-map rows (λ e. members e.words)
