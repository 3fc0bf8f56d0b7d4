-- Where a set of items leads, as the index tells it.
use Rattle.std.proofs.Common.{◌≡◌, ℕ, suc, ◌<◌, ◌≤◌, ◌↔◌, List, [], ◌∷◌, ◌++◌, get_or, Some, None, Option, sym, refl, ap, ◌∙◌, subst, ⊎_elim, arith}
use mathlib.Core.Option.{none, some}
use mathlib.Core.List.{Memᴰ}
use Rattle.book.specs.Grammar.{Grammar, symbols}
use Rattle.book.specs.Tables.{Holds}
use Rattle.book.proofs.Places.{rules_read}
use Rattle.table.specs.Lists.{StandsAt}
use Rattle.table.specs.Sets.{Row, In, members}
use Rattle.table.specs.declared.sets.NumberSet.{NumberSet}
use Rattle.table.specs.declared.numbers.ItemNo.{ItemNo}
use Rattle.table.proofs.Lists.{stands_push}
use Rattle.table.proofs.Rows.{members_in, in_members}
use Rattle.table.proofs.Same.{set_same_members}
use Rattle.finding.specs.Spaces.{LeastMove, Reached}
use Rattle.finding.proofs.Plain.{plain}
use Rattle.theory.specs.Items.{item_count, Dotted}
use Rattle.theory.specs.Closure.{closure, goto, Carried}
use Rattle.theory.proofs.Items.{dotted_below, dotted_next, after_known, fit_sound}
use Rattle.theory.proofs.Closure.{closure_members, goto_carried, goto_none, goto_is, goto_only}
use Rattle.machine.specs.declared.items.Items.{Items}
use Rattle.machine.specs.Closing.{ItemsOf, KernelOf}
use Rattle.machine.specs.Reading.{grammar_of, machine_search, item_search, Readied, LeastAfter, CarriedOver}
use Rattle.machine.proofs.Indexing.{after_symbol, has_after}
use Rattle.machine.proofs.Taking.{closed_below}

-- a table's grammar is read off it

pub grammar_read : {t : List ℕ} {g : Grammar} → Holds t g → grammar_of t ≡ g
grammar_read {t} {g} h =
    ap grammar_of h.is ∙ (λ i. record { words = g.words; names = g.names; start = g.start; rules = rules_read g.rules h.rest i })

-- the symbol after a dot

module _ (g : Grammar) (items : Items) (of : ItemsOf g items) where
  symbol_small : (k a x : ℕ) (l r : List ℕ) → Dotted g k a l (x ∷ r) → (x < symbols g) × (x < 65535)
  symbol_small k a x l r d =
      let u = after_known g (fit_sound g of.fit) k d in let w = of.fit.words.1 in let n = of.fit.names.1 in (u, omega arith)

  module _ (set : List ℕ) (row : Row set) (in-items : KernelOf g set) where
    carried_item : (k x : ℕ) → In set k → get_or items.after k 0 ≡ x → x < 65535 → Carried g (members set) x (suc k)
    carried_item k x i e s =
        let h = has_after of.indexed k x (in-items k i) e s in
        record { from = k; member = in_members set row k i; left = h.left; before = h.before; after = h.after; item = h.item; number = refl }

    no_step : (from x : ℕ) → from ≤ x → ((k : ℕ) → In set k → from ≤ get_or items.after k 0 → get_or items.after k 0 < 65535 → get_or items.after k 0 ≡ x → ⊥)
        → goto g (members set) x ≡ none
    no_step from x f off =
        goto_none g (members set) x (λ j c.
        let e = after_symbol of.indexed c.from c.left x c.before c.after c.item in
        let s = symbol_small c.from c.left x c.before c.after c.item in
        off c.from (members_in set c.from c.member) (omega arith) (omega arith) e)

    pub next_none : (from : ℕ) → LeastAfter items.after set from None → (x : ℕ) → from ≤ x → x < symbols g → goto g (members set) x ≡ none
    next_none from least x f b = no_step from x f (λ k i l s e. least k i l s)

    -- what is known where there is a least symbol
    pub record Next (from r : ℕ) : Type 0 where
      pub rests : (x : ℕ) → from ≤ x → x < r → goto g (members set) x ≡ none
      pub below : r < symbols g
      pub to : List ℕ
      pub goes : goto g (members set) r ≡ some to

    pub next_some : (from r : ℕ) → LeastAfter items.after set from (Some r) → Next from r
    next_some from r (f, s, (k, i, e), least) =
        let h = has_after of.indexed k r (in-items k i) e s in
        record {
          rests = λ x a b. no_step from x a (λ j m l t q. let o = least j m l in omega arith);
          below = (symbol_small k h.left r h.before h.after h.item).0;
          to = _;
          goes = goto_carried g (members set) r (carried_item k r i e s);
        }

    -- the carried items are the kernel of where the set leads
    module _ (x : ℕ) (r : List ℕ) (r-row : Row r) (c : CarriedOver items.after set x r) (to : List ℕ) (goes : goto g (members set) x ≡ some to) where
      carried_small : x < 65535
      carried_small = let b = (goto_only g (members set) x goes).by in (symbol_small b.from b.left x b.before b.after b.item).1

      carried_are : (j : ℕ) → Memᴰ j (members r) ↔ Carried g (members set) x j
      carried_are j = (
        (λ m. let (k, i, e, n) = c.only j (members_in r j m) in subst (Carried g (members set) x) (sym n) (carried_item k x i e carried_small)),
        (λ b. let next : suc b.from < 4096 = (let s = of.fit.small in omega (arith, dotted_below g (suc b.from) (dotted_next g b.from b.item))) in
            subst (λ z. Memᴰ z (members r)) (sym b.number)
            (in_members r r-row (suc b.from) (c.all b.from (members_in set b.from b.member) (after_symbol of.indexed b.from b.left x b.before b.after b.item) next))),
      )

      pub carried_kernel : KernelOf g r
      carried_kernel j h =
          let b = (carried_are j).0 (in_members r r-row j h) in
          subst (λ z. z < item_count g) (sym b.number) (dotted_below g (suc b.from) (dotted_next g b.from b.item))

      pub goes_to : to ≡ closure g (members r)
      goes_to =
          let k = goto_only g (members set) x goes in
          let e = goto_is g (members set) x (members r) ((carried_are k.number).1 k.by) carried_are in
          let f = sym goes ∙ e in cc

pub closed_kernel : (g : Grammar) (K words : List ℕ) → Row words → members words ≡ closure g K → KernelOf g words
closed_kernel g K words row e k h = closed_below ((closure_members g K k).0 (subst (Memᴰ k) e (in_members words row k h)))

-- the space stays ready with one set more
ready_push : {t : List ℕ} {items : Items} {es : List (NumberSet ItemNo)} (q : Readied t items es) (a : NumberSet ItemNo) → KernelOf q.grammar a.words → Readied t items (es ++ (a ∷ []))
ready_push {es = es} q a k =
    record {
      grammar = q.grammar;
      holds = q.holds;
      of = q.of;
      each = λ j e s. ⊎_elim (λ o. q.each j e o) (λ n. subst (λ (z : NumberSet ItemNo). KernelOf q.grammar z.words) n.1 k) (stands_push es a e j s);
    }

abbrev pub thing : NumberSet ItemNo → List ℕ
thing e = members e.words

-- what `next_symbol` and `reach` answer, at an entry of the search

module _ (t : List ℕ) (items : Items) (es : List (NumberSet ItemNo)) (k : ℕ) (e : NumberSet ItemNo) (q : Readied t items es) (at : StandsAt es k e) where
  abbrev g : Grammar
  g = q.grammar

  read : grammar_of t ≡ q.grammar
  read = grammar_read q.holds

  pub answers : (from : ℕ) (r : Option ℕ) → LeastAfter items.after e.words from r → LeastMove (item_search t) (members e.words) from r
  unfolding machine_search
  answers from None least =
      subst (λ (z : Grammar). (x : ℕ) → from ≤ x → x < symbols z → goto z (members e.words) x ≡ none) (sym read)
      (next_none g items q.of e.words e.row (q.each k e at) from least)
  answers from (Some r) least =
      let n = next_some g items q.of e.words e.row (q.each k e at) from r least in (
        least.0,
        least.1,
        subst (λ (z : Grammar). (x : ℕ) → from ≤ x → x < r → goto z (members e.words) x ≡ none) (sym read) n.rests,
        (
          subst (λ (z : Grammar). r < symbols z) (sym read) n.below,
          (n.to, subst (λ (z : Grammar). goto z (members e.words) r ≡ some n.to) (sym read) n.goes),
        ),
      )

  module _ (x : ℕ) (to : List ℕ) (goes : (item_search t).step (members e.words) x ≡ some to) (r : NumberSet ItemNo) (c : CarriedOver items.after e.words x r.words) where
    goes_g : goto q.grammar (members e.words) x ≡ some to
    unfolding machine_search
    goes_g = subst (λ (z : Grammar). goto z (members e.words) x ≡ some to) read goes

    pub kernel_of : KernelOf q.grammar r.words
    kernel_of = carried_kernel g items q.of e.words e.row (q.each k e at) x r.words r.row c to goes_g

    pub answers_reach : (a : NumberSet ItemNo) → ((h : Grammar) → ItemsOf h items → KernelOf h r.words → members a.words ≡ closure h (members r.words))
        → Reached thing thing (Readied t items) (item_search t).room es to (Some a)
    unfolding machine_search
    answers_reach a closes =
        let is : members a.words ≡ closure g (members r.words) = closes g q.of kernel_of in
        let that : to ≡ closure g (members r.words) = goes_to g items q.of e.words e.row (q.each k e at) x r.words r.row c to goes_g in
        plain thing (Readied t items) (item_search t).room es to a (λ j y s h. set_same_members y a h) (is ∙ sym that) q
        (ready_push q a (closed_kernel g (members r.words) a.words a.row is)) tt
