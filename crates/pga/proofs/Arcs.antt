-- The moves on words, one move after the other, and the bytes of jumps.
use Rattle.std.proofs.Common.{◌≡◌, ℕ, ◌*◌, ◌≤◌, Bool, nat_lt, cond, List, [], ◌∷◌, map, length, sym, refl, ap, ◌∙◌, subst, ⊎_elim, arith}
use Rattle.std.specs.List.{filter, flat_map}
use Rattle.std.proofs.lemmas.List.{length-map}
use Rattle.std.proofs.lemmas.Bool.{cases_Bool}
use Rattle.book.specs.Files.{bytes_of}
use Rattle.book.proofs.Numbers.{length_bytes}
use Rattle.table.specs.declared.numbers.NodeNo.{NodeNo}
use Rattle.finding.specs.declared.moves.Move.{Move}
use Rattle.finding.specs.Finding.{arrow}
use Rattle.theory.specs.Flattening.{word_moves}
use Rattle.theory.proofs.Lists.{keep_take, keep_leave, keep_length}
use Rattle.flattening.specs.declared.jump.Jump.{Jump}
use Rattle.flattening.specs.Walks.{plain, arrows}
use Rattle.fields.specs.declared.output.Output.{Output}
use Rattle.fields.specs.Putting.{Puts, PutsArcs}
use Rattle.fields.proofs.Arcs.{arc_bytes}
use Rattle.pga.specs.Files.{jump_numbers}

-- the wanted moves are those on words
words_kept : (words : ℕ) (ms : List (Move NodeNo)) → map (arrow (λ n. n.0)) (filter (λ m. nat_lt m.symbol words) ms) ≡ word_moves words (arrows ms)
words_kept words [] = refl
words_kept words (m ∷ ms) =
    ⊎_elim
    (λ t. (λ i. map (arrow (λ n. n.0)) (cond (t i) (m ∷ filter (λ m. nat_lt m.symbol words) ms) (filter (λ m. nat_lt m.symbol words) ms)))
    ∙ ap (λ l. plain m ∷ l) (words_kept words ms) ∙ sym (keep_take (λ a. nat_lt a.1 words) (plain m) (arrows ms) t))
    (λ t. (λ i. map (arrow (λ n. n.0)) (cond (t i) (m ∷ filter (λ m. nat_lt m.symbol words) ms) (filter (λ m. nat_lt m.symbol words) ms)))
    ∙ words_kept words ms ∙ sym (keep_leave (λ a. nat_lt a.1 words) (plain m) (arrows ms) t))
    (cases_Bool (nat_lt m.symbol words))

-- they are put as arcs
pub puts_words : (words : ℕ) (ms : List (Move NodeNo)) (tells : Move NodeNo → Bool → Type 0) (o p : Output)
    → ((m : Move NodeNo) (r : Bool) → tells m r → r ≡ nat_lt m.symbol words) → PutsArcs (λ n. n.0) tells ms o p
    → Puts o (arc_bytes (word_moves words (arrows ms))) p
puts_words words ms tells o p told x =
    subst (λ l. Puts o (arc_bytes l) p) (words_kept words ms) (x (λ m. nat_lt m.symbol words) told)

pub arcs_few : (words : ℕ) (moves : List (Move NodeNo)) → length (word_moves words (arrows moves)) ≤ length moves
arcs_few words moves = omega (arith, keep_length (λ a. nat_lt a.1 words) (arrows moves), length-map moves plain)

-- a jump to stand in where a table is too short; it is never used
abbrev pub no_jump : Jump
no_jump = record { from = record { 0 = 0 }; to = record { 0 = 0 } }

-- the bytes of jumps
abbrev pub jump_bytes : List (ℕ × ℕ) → List ℕ
jump_bytes js = flat_map bytes_of (flat_map jump_numbers js)

length_jumps : (js : List (ℕ × ℕ)) → length (flat_map jump_numbers js) ≡ 2 * length js
length_jumps [] = refl
length_jumps (j ∷ js) = omega (arith, length_jumps js)

pub length_jump_bytes : (js : List (ℕ × ℕ)) → length (jump_bytes js) ≡ 4 * length js
length_jump_bytes js = omega (arith, length_bytes (flat_map jump_numbers js), length_jumps js)
