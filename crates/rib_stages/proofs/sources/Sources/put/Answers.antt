use Rattle.std.proofs.Common.{ap, ◌∙◌}
use Rattle.std.specs.FinMap as map
use Rattle.rib_stages.proofs.Tables.{call_becomes, call_stays}
use Rattle.rib_stages.proofs.sources.Sources.put.Goals as goal

pub returns-in_err-reserve-clause-same : goal.returns-in_err-reserve-clause-same
returns-in_err-reserve-clause-same g c =
    call_stays c.self.inside.tables.items c.args.self.now c.args.n c.from.result c.index_mut-table.result.now c.reserve.new.self c.self.view_is
    c.from.ensures c.self.invariant c.ranges.n.fits c.index_mut-table.ensures.value c.from_residual.result c.reserve.ensures.contents

pub returns-in_err-set_rank-clause-same : goal.returns-in_err-set_rank-clause-same
returns-in_err-set_rank-clause-same g c =
    call_stays c.self.inside.tables.items c.args.self.now c.args.n c.from.result c.index_mut-table.result.now c.reserve.new.self c.self.view_is
    c.from.ensures c.self.invariant c.ranges.n.fits c.index_mut-table.ensures.value c.from_residual-in_err-set_rank.result c.reserve.ensures.contents

pub returns-clause-table : goal.returns-clause-table
returns-clause-table g c =
    call_becomes c.self.inside.tables.items c.args.self.now c.args.n c.from.result c.index_mut-table.result.now c.set_reserved.new.self
    c.self.view_is c.from.ensures c.self.invariant c.ranges.n.fits c.index_mut-table.ensures.value (λ t. map.insert t c.args.prefix c.args.value)
    (c.set_reserved.ensures.set ∙ ap (λ t. map.insert t c.args.prefix c.args.value) c.reserve.ensures.contents)
