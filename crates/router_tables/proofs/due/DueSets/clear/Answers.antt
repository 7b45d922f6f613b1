use Rattle.std.specs.FinMap as map
use Rattle.router_tables.proofs.DueSteps.{becomes}
use Rattle.router_tables.proofs.due.DueSets.clear.Goals as goal

pub returns-clause-cleared : goal.returns-clause-cleared
returns-clause-cleared c = becomes c.self.inside.sets.items c.args.self.now c.args.n c.index_mut.result.now
    c.clear.new.self c.self.view_is c.requires c.index_mut.ensures.value (λ _. map.empty) c.clear.ensures
