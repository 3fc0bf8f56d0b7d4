use Rattle.std.proofs.Common.{◌≡◌, ℕ, ◌<◌, List, length, Some, None, Option, MatchOption, subst, arith, rules, tests}
use Rattle.std.specs.List.{AllWithin, HoldsAt}
use Rattle.std.proofs.lemmas.Iterator.{IsFirst-from_position, YieldsList-from_slice}
use Rattle.table.specs.Sets.{In}
use Rattle.table.specs.declared.sets.NumberSet.{NumberSet}
use Rattle.table.specs.declared.numbers.ItemNo.{ItemNo}
use Rattle.table.proofs.Lists.{stands_below, stands_some, stands_is}
use Rattle.machine.specs.Machines.{FoundFinal}
use Rattle.machine.proofs.machine.find_final.Goals as goal
use Rattle.machine.proofs.machine.find_final.Goals.{After-position}

abbrev Final : NumberSet ItemNo → Type 0
Final e = In e.words 1

abbrev Other : NumberSet ItemNo → Type 0
Other e = In e.words 1 → ⊥

abbrev First : List (NumberSet ItemNo) → Option ℕ → Type 0
First rows r = MatchOption r (AllWithin Other rows 0 (length rows)) (λ i. (i < length rows) × HoldsAt Final rows i × AllWithin Other rows 0 i)

-- the search by place, at what it found
first : (c : After-position) (r : Option ℕ) → c.position.result ≡ r → First c.args.states.now r
first c r e =
    subst (First c.args.states.now) e
    (IsFirst-from_position _ _ _ Final Other c.position.ensures.ran (YieldsList-from_slice c.args.states.now cc) (λ x q k. search (rules, tests)) (λ x q k. search (rules, tests)))

found_none : (rows : List (NumberSet ItemNo)) → First rows None → FoundFinal rows None
found_none rows all k s at i = subst Other (stands_is rows k s s at) (all k s (omega arith) (stands_below rows k s at)) i

found_some : (rows : List (NumberSet ItemNo)) (i : ℕ) → First rows (Some i) → FoundFinal rows (Some (record { 0 = i }))
found_some rows i (l, h, _) = let (s, at) = stands_some rows i l in (s, at, subst Final (stands_is rows i s s at) (h s))

pub returns-in_err-i : goal.returns-in_err-i
returns-in_err-i c = rw c.from_residual.ensures (found_none _ (first (goal.at.returns-in_err-i c).After-position None c.in_err-i.was))

pub returns : goal.returns
returns c = found_some _ c.in_ok-i.i (first (goal.at.returns c).After-position (Some c.in_ok-i.i) c.in_ok-i.was)
