use Rattle.std.proofs.Common.{sym, ◌∙◌}
use Rattle.prefix_set.proofs.Sets.{removed_empty}
use Rattle.prefix_set.proofs.due.take_out.Goals as goal

pub returns-else-len-ne0 : goal.returns-else-len-ne0
returns-else-len-ne0 c = removed_empty c.args.table.now.contents c.args.prefix (sym c.len.ensures ∙ c.if-len-ne0.false)
