use Rattle.std.proofs.Common.{None, arith, not}
use Rattle.session_value.specs.Sets.{has}
use Rattle.rib_stages.specs.Values.{table_at}
use Rattle.audit_tables.proofs.Changes.{changes_then, forgotten_then}
use Rattle.audit_tables.proofs.Dropped.{due_dropped}
use Rattle.audit_tables.proofs.tables.Tables.settle.Goals as goal

pub drop_clean-requires : goal.drop_clean-requires
drop_clean-requires c = omega (arith, c.requires.there, c.requires.sound.due_out)

pub forget-requires : goal.forget-requires
forget-requires c = omega (arith, c.requires.there, c.requires.sound.pending)

pub returns-clause-due : goal.returns-clause-due
returns-clause-due c = due_dropped c.args.self.now c.requires.sound c.args.p c.requires.there (λ x. not (has c.args.self.now.rib.dirty x)) c.drop_clean.new.due
    c.in_ok-drop_clean.ensures c.forget.new.self None c.forget.ensures.same c.forget.ensures.forgets

pub returns-clause-changes : goal.returns-clause-changes
returns-clause-changes c = changes_then c.args.self.now c.forget.new.self c.requires.sound c.args.p c.drop_clean.new.due c.forget.ensures.same
    c.forget.ensures.forgets c.in_ok-drop_clean.ensures.size (table_at c.drop_clean.new.due c.args.p) c.in_ok-drop_clean.ensures.effect

pub returns-clause-forgets : goal.returns-clause-forgets
returns-clause-forgets c = forgotten_then c.args.self.now c.forget.new.self c.requires.sound c.args.p c.drop_clean.new.due c.forget.ensures.same
    c.forget.ensures.forgets c.in_ok-drop_clean.ensures.size (table_at c.drop_clean.new.due c.args.p) c.in_ok-drop_clean.ensures.effect c.requires.there
