use Rattle.std.proofs.Common.{arith}
use Rattle.lab_keys.specs.Kinds.{each_from}
use Rattle.lab_hints.specs.Later.{crowd_words, crowded_words}
use Rattle.lab_hints.proofs.Lists.{each_goes_on, each_stops}
use Rattle.lab_hints.proofs.crowd.crowd_in.Goals as goal

pub returns-in-Some : goal.returns-in-Some
returns-in-Some c =
    let words = crowded_words c.args.peerings.now in
    each_stops words c.args.routers.now c.loop-i.i c.index-routers-i.result (omega arith) c.index-routers-i.is
    (crowd_words c.in-Some.crowd.router.now c.in-Some.crowd.peerings) (each_from words 0 c.args.routers.now) c.loop-i.invariant c.in-Some.ensures

pub loop-i-preserved : goal.loop-i-preserved
loop-i-preserved c =
    let words = crowded_words c.args.peerings.now in
    each_goes_on words c.args.routers.now c.loop-i.i c.index-routers-i.result (omega arith) c.index-routers-i.is
    (each_from words 0 c.args.routers.now) c.loop-i.invariant c.in-None.ensures
