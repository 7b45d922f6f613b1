use Rattle.std.proofs.Common.{ap, ◌∙◌}
use Rattle.std.specs.Prelude.{reverse}
use Rattle.std.proofs.lemmas.List.{reverse-reverse}
use Rattle.audit_tables.proofs.pending.group_of.Goals as goal

pub returns-clause-prefixes : goal.returns-clause-prefixes
returns-clause-prefixes c =
    ap reverse c.reverse.ensures.items ∙ (reverse-reverse c.into_vec-prefixes.result.items ∙ c.into_vec-prefixes.ensures)
