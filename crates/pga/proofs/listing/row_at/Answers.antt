use Rattle.std.proofs.Common.{◌≡◌, ℕ, zero, suc, ◌+◌, ◌*◌, ◌<◌, ◌≤◌, List, get_or, ⊎_elim, ◌∙◌, subst, arith, rules}
use Rattle.std.specs.Fn.{Mut, Called}
use Rattle.std.specs.Array.{IsFromFnResultFrom}
use Rattle.std.proofs.lemmas.Bool.{cases_lt}
use Rattle.std.proofs.lemmas.List.FromFn.{fill_by_all}
use Rattle.fields.specs.Reading.{number_at}
use Rattle.pga.proofs.listing.row_at.Goals as goal

-- where each call gives h of its index and changes nothing, each element is h of its index
filled : {F : Type 0} (g : Mut F (ℕ × Unit {0}) ℕ) (h : ℕ → ℕ) (ys : List ℕ) (f : F) → ((i y : ℕ) (q : F) → Called g f (i, tt) y q → (q ≡ f) × (y ≡ h i))
    → (i n : ℕ) → IsFromFnResultFrom g f ys i n → (k : ℕ) → i ≤ k → k < i + n → get_or ys k 0 ≡ h k
filled g h ys f gives i zero m k l u = absurd (omega arith)
filled g h ys f gives i (suc n) (q, y, at, called, rest) k l u =
    let (same, is) = gives i y q called in
    ⊎_elim (λ b. filled g h ys f gives (i + 1) n (subst (λ p. IsFromFnResultFrom g p ys (i + 1) n) same rest) k (omega arith) (omega arith))
    (λ b. (let e : i ≡ k = omega arith in subst (λ j. get_or ys j 0 ≡ h j) e (at.1 0 ∙ is)))
    (cases_lt i k)

pub returns : goal.returns
returns g c =
    let f : ℕ → ℕ = λ k. number_at c.args.file.now (c.args.at + 2 * k) in
    let items = c.from_fn.ensures.items in
    fill_by_all f c.from_fn.result g.row.N 0 items.long (λ k h. filled _ f c.from_fn.result _ (λ i y q called. search rules) 0 g.row.N items.each k (omega arith) (omega arith))
