use Rattle.std.proofs.Common.{take}
use Rattle.audit_tables.specs.Dues.{DropsAt}
use Rattle.audit_tables.proofs.Dropping.{clean_in}
use Rattle.audit_tables.proofs.sets.drop_clean.Given as goal

-- those of the first so many that aren't dirty are gone
abbrev pub invariant-loop-prefix : goal.invariant-loop-prefix
invariant-loop-prefix l = DropsAt l.p (clean_in l.rib.dirty (take l.prefix-index l.prefix-items)) l.initial.due l.due
