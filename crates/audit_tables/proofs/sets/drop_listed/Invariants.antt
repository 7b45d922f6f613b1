use Rattle.std.proofs.Common.{take}
use Rattle.std.specs.List.{list_any}
use Rattle.bgp_types.specs.Prefixes.{same_prefix}
use Rattle.audit_tables.specs.Dues.{DropsAt}
use Rattle.audit_tables.proofs.sets.drop_listed.Given as goal

-- the first so many are gone
abbrev pub invariant-loop-prefix : goal.invariant-loop-prefix
invariant-loop-prefix l = DropsAt l.p (λ x. list_any (same_prefix x) (take l.prefix-index l.prefixes)) l.initial.due l.due
