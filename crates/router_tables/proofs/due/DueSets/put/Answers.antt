use Rattle.std.proofs.Common.{length, ap, ◌∙◌, List, arith}
use Rattle.session_value.specs.Points.{at}
use Rattle.session_value.specs.Sets.{Prefixes}
use Rattle.rib_stages.specs.Values.{table_at}
use Rattle.rib_stages.proofs.Tables.{table-set}
use Rattle.router_tables.proofs.due.DueSets.put.Goals as goal

pub returns-clause-put : goal.returns-clause-put
returns-clause-put c = table-set c.self.inside.sets.items c.args.n c.args.set (omega (arith, c.requires, ap (λ (ts : List Prefixes). length ts) c.self.view_is))
    ∙ ap (λ (ts : List Prefixes). at (table_at ts) c.args.n c.args.set) c.self.view_is
