use Rattle.std.proofs.Common.{take}
use Rattle.std.specs.Prelude.{All}
use Rattle.bgp_types.specs.Prefixes.{IsPrefix}
use Rattle.audit_router.proofs.sessions.is_message.Given as goal

-- the first so many are prefixes
abbrev pub invariant-loop-prefix : goal.invariant-loop-prefix
invariant-loop-prefix l = All IsPrefix (take l.prefix-index l.prefix-items)
