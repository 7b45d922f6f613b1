use Rattle.std.specs.FinMap as map
use Rattle.rib_stages.proofs.Tables.{call_becomes}
use Rattle.rib_stages.proofs.sources.Sources.remove.Goals as goal

pub returns-clause-removed : goal.returns-clause-removed
returns-clause-removed g c =
    call_becomes c.self.inside.tables.items c.args.self.now c.args.n c.from.result c.index_mut-table.result.now c.remove.new.self c.self.view_is
    c.from.ensures c.self.invariant c.ranges.n.fits c.index_mut-table.ensures.value (λ t. map.remove t c.args.prefix) c.remove.ensures.removed
