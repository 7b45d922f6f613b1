use Rattle.std.proofs.Common.{take}
use Rattle.rib_stages.specs.Values.{rib_of}
use Rattle.router_tables.specs.Entering.{entry_here, EntersAll}
use Rattle.router_tables.proofs.heard.enter.Given as goal

abbrev pub invariant-loop-prefix : goal.invariant-loop-prefix
invariant-loop-prefix l = EntersAll (rib_of l.initial.rib) l.session.session.config.peering.0
    (entry_here l.home_as l.policies l.session.session) (take l.prefix-index l.prefixes) (rib_of l.rib)
