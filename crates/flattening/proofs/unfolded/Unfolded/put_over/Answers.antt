use Rattle.std.proofs.Common.{refl, ◌∙◌}
use Rattle.flattening.proofs.Chains.{put_start, put_ends, put_next, put_end}
use Rattle.flattening.proofs.unfolded.Unfolded.put_over.Goals as goal

pub loop-first-init : goal.loop-first-init
loop-first-init c =
    let all = c.into_iter-first-iterator.ensures.into_iter_gives ∙ c.rules_of-first-items.ensures in
    record { lent = refl; limit = refl; put = λ found o k. rw all (put_start _ _ _ found _ o k) }

pub walk-from-requires : goal.walk-from-requires
walk-from-requires c =
    let at = rw c.in-Some.ensures.steps at (c.loop-first.invariant.put _ c.requires.opened c.requires.keeps.1) in
    let ends = put_ends _ _ _ _ _ _ _ _ at in rw c.index.ensures.value ends

pub put-requires : goal.put-requires
put-requires c = let at = c.loop-first.invariant.put _ c.requires.opened c.requires.keeps.1 in (at.jumps, at.keeps)

pub loop-first-preserved : goal.loop-first-preserved
loop-first-preserved c =
    let i = c.loop-first.invariant in
    let first = c.index.ensures.value in
    record {
      lent = c.put.ensures.lent ∙ i.lent;
      limit = c.put.ensures.limit ∙ i.limit;
      put = λ found o k.
          let at = rw c.in-Some.ensures.steps at (i.put found o k) in
          let ends = rw first at c.walk-from.ensures.ends in
          put_next _ _ _ found o.numbers _ _ _ at c.walk-from.result c.args.over.to
          ends (λ p e. c.walk-from.ensures.one p (rw first e)) refl
          c.put.new.self c.put.ensures.keeps;
    }

pub returns-clause-more : goal.returns-clause-more
returns-clause-more c found o k = let at = rw c.in-None.ensures.steps.0 at (c.loop-first.invariant.put found o k) in put_end at
