use Rattle.std.proofs.Common.{ℕ, List, Option, None, [], ◌∷◌, ◌++◌, replicate, ap, ◌∙◌, arith}
use Rattle.audit_tables.specs.declared.pending.Pending.{Pending}
use Rattle.audit_tables.proofs.Beginning.{replicate_more}
use Rattle.audit_tables.proofs.tables.nothing_known.Goals as goal

pub loop-p-preserved : goal.loop-p-preserved
loop-p-preserved c = c.in_ok-push.ensures.items ∙ (ap (λ (xs : List (Option Pending)). xs ++ None ∷ []) c.loop-p.invariant ∙ replicate_more c.loop-p._p None)
