use Rattle.std.proofs.Common.{arith}
use Rattle.acceptor.specs.Flats.{acceptor_of}
use Rattle.acceptor.proofs.Fitting.{small_jumps}
use Rattle.acceptor.proofs.Sizes.{no_member}
use Rattle.acceptor.proofs.Spreading.{spreading_none, spreading_more, wave_falls, spread_all}
use Rattle.acceptor.proofs.flat.Flat.spread.Goals as goal

pub loop-reached-init : goal.loop-reached-init
loop-reached-init c = λ fit. spreading_none (acceptor_of c.args.self.now) c.args.set.words

pub loop-reached-smaller : goal.loop-reached-smaller
loop-reached-smaller c = wave_falls c.take_wave.ensures c.loop-reached.reached.set.row c.take_wave.new.reached.set.row (omega arith)

pub loop-reached-preserved : goal.loop-reached-preserved
loop-reached-preserved c = λ fit.
    spreading_more (c.loop-reached.invariant fit) c.take_wave.ensures fit.jumps_rise (small_jumps (acceptor_of c.args.self.now) fit)

pub returns : goal.returns
returns c = λ fit.
    let fresh = c.loop-reached.reached.fresh in spread_all (c.loop-reached.invariant fit) (no_member fresh.words fresh.row (omega arith))
