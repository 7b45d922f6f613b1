use Rattle.std.specs.FinMap as map
use Rattle.router_tables.proofs.DueSteps.{becomes_ok, stays_err}
use Rattle.router_tables.proofs.due.DueSets.add.Goals as goal

pub returns-clause-ok : goal.returns-clause-ok
returns-clause-ok c = becomes_ok c.self.inside.sets.items c.args.self.now c.args.n c.index_mut.result.now c.insert.new.self
    c.self.view_is c.requires c.index_mut.ensures.value c.insert.result (λ s. map.insert s c.args.prefix tt) c.insert.ensures.ok

pub returns-clause-err : goal.returns-clause-err
returns-clause-err c = stays_err c.self.inside.sets.items c.args.self.now c.args.n c.index_mut.result.now
    c.insert.new.self c.self.view_is c.requires c.index_mut.ensures.value c.insert.result c.insert.ensures.err
