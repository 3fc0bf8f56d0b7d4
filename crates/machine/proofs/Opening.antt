-- Opening a name: the first items of its rules, along their chain.
use Rattle.std.proofs.Common.{◌≡◌, ℕ, ◌+◌, ◌-◌, ◌<◌, List, [], ◌∷◌, ◌++◌, get_or, sym, refl, ap, ◌∙◌, subst, inl, inr, ⊎_elim, append_assoc, arith}
use mathlib.Core.List.Memᴰ
use mathlib.Core.List.{Memᴰ}
use Rattle.std.proofs.lemmas.List.{append-nil}
use Rattle.book.specs.Grammar.{Grammar}
use Rattle.book.specs.Tables.{Name}
use Rattle.table.specs.Sets.{In}
use Rattle.theory.proofs.Items.{dotted_below}
use Rattle.theory.specs.Closure.{Closed}
use Rattle.theory.specs.Closure.Closed.{opened}
use Rattle.machine.specs.declared.items.Items.{Items}
use Rattle.machine.specs.declared.closure.Closing.{Closing}
use Rattle.machine.specs.Index.{FirstOf, links}
use Rattle.machine.specs.Closing.{ItemsOf, AfterDot, Grown, ToOpen}
use Rattle.machine.proofs.Links.{links_chain, chain_head}

pub grown_none : (c : Closing) → Grown c c
grown_none c = record { more = []; names = sym (append-nil c.names); still = λ k h. h }

pub grown_more : (c d e : Closing) → Grown c d → Grown d e → Grown c e
grown_more c d e x y =
    record {
      more = x.more ++ y.more;
      names = y.names ∙ ap (λ l. l ++ y.more) x.names ∙ append_assoc c.names x.more y.more;
      still = λ k h. y.still k (x.still k h);
    }

pub open_start : (g : Grammar) (items : Items) (name : ℕ) (set rest : List ℕ) → ItemsOf g items → Name g (g.words + name)
    → rest ≡ links items.next (get_or items.head name 0) → ToOpen g (g.words + name) rest set
open_start g items name set rest of n is =
    let e : (g.words + name) - g.words ≡ name = omega arith in
    let p = of.indexed.opens (g.words + name) n in
    let head = get_or items.head ((g.words + name) - g.words) 0 in
    let here : head < 4096 =
    ⊎_elim (λ z. omega (arith, z)) (λ m. let f = (p.are head).0 m in omega (arith, dotted_below g head f.1, of.fit.small)) (chain_head p.chain) in
    let same : rest ≡ p.numbers = is ∙ ap (λ i. links items.next (get_or items.head i 0)) (sym e) ∙ links_chain here p.chain in
    record { firsts = λ j m. (p.are j).0 (subst (Memᴰ j) same m); done = λ j f. inr (subst (Memᴰ j) (sym same) ((p.are j).1 f)) }

module _ (g : Grammar) (c k : ℕ) (rest left set : List ℕ) (t : ToOpen g c rest set) (is : rest ≡ k ∷ left) where
  first : FirstOf g c k
  first = t.firsts k (subst (Memᴰ k) (sym is) (Memᴰ.head refl))

  pub open_closed : (K : List ℕ) → AfterDot g K c → Closed g K k
  open_closed K a = opened a.closed a.item first.1

  pub open_more : (set' : List ℕ) → ((j : ℕ) → In set j → In set' j) → In set' k → ToOpen g c left set'
  open_more set' still here =
      record {
        firsts = λ j m. t.firsts j (subst (Memᴰ j) (sym is) (Memᴰ.tail m));
        done = λ j f. ⊎_elim (λ h. inl (still j h))
            (λ m. ⊎_elim (λ e. inl (subst (In set') (sym e) here)) inr (Memᴰ.cases_cons (subst (Memᴰ j) is m))) (t.done j f);
      }
