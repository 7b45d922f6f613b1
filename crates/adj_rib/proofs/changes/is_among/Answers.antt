use Rattle.std.proofs.Common.{◌∙◌}
use Rattle.adj_rib.proofs.Indices.{searched}
use Rattle.adj_rib.proofs.changes.is_among.Goals as goal

pub returns : goal.returns
returns c = c.is_ok.ensures.value
    ∙ searched c.args.prefixes.now c.args.prefix c.binary_search.result c.requires c.binary_search.ensures.bound c.binary_search.ensures.position
