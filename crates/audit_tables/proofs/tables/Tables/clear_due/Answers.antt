use Rattle.std.proofs.Common.{arith}
use Rattle.std.specs.FinMap as map
use Rattle.audit_tables.proofs.Changes.{changes_then, due_then, forgotten_then}
use Rattle.audit_tables.proofs.tables.Tables.clear_due.Goals as goal

pub clear-requires : goal.clear-requires
clear-requires c = omega (arith, c.requires.there, c.requires.sound.due_out)

pub forget-requires : goal.forget-requires
forget-requires c = omega (arith, c.requires.there, c.requires.sound.pending)

pub returns-clause-due : goal.returns-clause-due
returns-clause-due c = due_then c.args.self.now c.forget.new.self c.requires.sound c.args.p c.clear.new.self c.forget.ensures.same
    c.forget.ensures.forgets c.clear.ensures.length map.empty c.clear.ensures.cleared

pub returns-clause-changes : goal.returns-clause-changes
returns-clause-changes c = changes_then c.args.self.now c.forget.new.self c.requires.sound c.args.p c.clear.new.self c.forget.ensures.same
    c.forget.ensures.forgets c.clear.ensures.length map.empty c.clear.ensures.cleared

pub returns-clause-forgets : goal.returns-clause-forgets
returns-clause-forgets c = forgotten_then c.args.self.now c.forget.new.self c.requires.sound c.args.p c.clear.new.self c.forget.ensures.same
    c.forget.ensures.forgets c.clear.ensures.length map.empty c.clear.ensures.cleared c.requires.there
