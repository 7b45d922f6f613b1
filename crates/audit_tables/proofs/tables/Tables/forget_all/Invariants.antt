use Rattle.std.proofs.Common.{◌≡◌, ℕ, ◌<◌, length, Some}
use Rattle.audit_tables.specs.Parts.{IsForgotten}
use Rattle.audit_tables.proofs.tables.Tables.forget_all.Given as goal

-- nothing is known of the first so many
abbrev pub invariant-loop-p : goal.invariant-loop-p
invariant-loop-p l = (l.self ≡ record l.initial.self { pending = l.self.pending })
    × (length l.self.pending.items ≡ length l.initial.self.pending.items)
    × ((q : ℕ) → q < l.p → IsForgotten q l.self)
