use Rattle.std.proofs.Common.{◌∙◌, sym, arith}
use Rattle.lab_keys.specs.Kinds.{each_from}
use Rattle.lab_input.specs.Counts.{room_flaw}
use Rattle.lab_input.proofs.Afters.{from_goes_on, from_stops}
use Rattle.lab_input.proofs.counts.room_flaw.Goals as goal

pub returns-in-Some : goal.returns-in-Some
returns-in-Some c =
    from_stops (room_flaw c.args.peerings.now) c.args.routers.now c.loop-i.i c.index-routers-i.result (omega arith) c.index-routers-i.is c.in-Some.bad
    (each_from (room_flaw c.args.peerings.now) 0 c.args.routers.now) c.loop-i.invariant (sym c.in-Some.is ∙ c.in_ok-found.ensures)

pub loop-i-preserved : goal.loop-i-preserved
loop-i-preserved c =
    from_goes_on (room_flaw c.args.peerings.now) c.args.routers.now c.loop-i.i c.index-routers-i.result (omega arith) c.index-routers-i.is
    (each_from (room_flaw c.args.peerings.now) 0 c.args.routers.now) c.loop-i.invariant (sym c.in-None.is ∙ c.in_ok-found.ensures)
