use Rattle.std.specs.FinMap as map
use Rattle.router_tables.proofs.DueSteps.{becomes}
use Rattle.router_tables.proofs.due.DueSets.remove.Goals as goal

pub returns-clause-removed : goal.returns-clause-removed
returns-clause-removed c = becomes c.self.inside.sets.items c.args.self.now c.args.n c.index_mut.result.now
    c.remove.new.self c.self.view_is c.requires c.index_mut.ensures.value (λ s. map.remove s c.args.prefix) c.remove.ensures
