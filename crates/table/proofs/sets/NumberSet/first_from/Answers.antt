use Rattle.std.proofs.Common.{rules, ◌≡◌, ℕ, ◌*◌, ◌<◌, ◌≤◌, get_or, Some, None, sym, subst}
use borrow.Author.Tests.{tests}
use Rattle.std.proofs.lemmas.Iterator.{first_from_Range}
use Rattle.table.specs.Sets.{NextMember}
use Rattle.table.proofs.Rows.{no_words, first_word}
use Rattle.table.proofs.sets.NumberSet.first_from.Goals as goal

pub returns-in_err-i : goal.returns-in_err-i
returns-in_err-i g c =
    let words = c.args.self.now.words in
    let none : (i : ℕ) → c.args.first ≤ i → i < 64 → get_or words i 0 ≡ 0 = first_from_Range (record { start = c.args.first; end = 64 }) _ _ None (λ i. get_or words i 0 ≡ 0 → ⊥) (λ i. get_or words i 0 ≡ 0) c.in_err-i.ensures.ran (λ x q k. search (rules, tests)) (λ x q k. search (rules, tests)) in
    subst (λ r. NextMember words (64 * c.args.first) r) (sym c.from_residual.ensures) (no_words words c.args.self.now.row c.args.first none)

pub returns : goal.returns
returns g c =
    let words = c.args.self.now.words in
    let at = first_from_Range (record { start = c.args.first; end = 64 }) _ _ (Some c.in_ok-i.i) (λ i. get_or words i 0 ≡ 0 → ⊥) (λ i. get_or words i 0 ≡ 0) c.in_ok-i.ensures.ran (λ x q k. search (rules, tests)) (λ x q k. search (rules, tests)) in
    first_word words c.args.self.now.row c.args.first c.in_ok-i.i at.0 at.1 at.2 at.3

pub overflow_add-result : goal.overflow_add-result
overflow_add-result g c = let next = returns g c in search (rules, next.1)
