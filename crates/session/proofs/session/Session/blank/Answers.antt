use Rattle.promise.specs.Histories.Reached.{fresh}
use Rattle.session.proofs.session.Session.blank.Goals as goal

pub returns : goal.returns
returns c =
    let w = c.in_ok-used.ensures in (
      fresh (record {
        used = c.in_ok-used.used;
        blanked = w;
        pga = c.clear.ensures;
        pgd = c.clear-2.ensures;
        turns = c.clear-3.ensures.turns;
        places = c.clear-3.ensures.places;
      }),
      w.length_used,
    )
