use Rattle.std.proofs.Common.{sym, subst, arith}
use Rattle.router_tables.specs.Dues.{IsDueAgain}
use Rattle.audit_tables.proofs.Changes.{changes_then, due_then, forgotten_then}
use Rattle.audit_tables.proofs.tables.Tables.set_due_again.Goals as goal

pub put-requires : goal.put-requires
put-requires c = omega (arith, c.requires.there, c.requires.sound.due_out)

pub forget-requires : goal.forget-requires
forget-requires c = omega (arith, c.requires.there, c.requires.sound.pending)

pub returns-clause-due : goal.returns-clause-due
returns-clause-due c = subst (IsDueAgain c.args.session.now.session.adj_rib_out c.args.self.now.rib.best)
    (sym (due_then c.args.self.now c.forget.new.self c.requires.sound c.args.p c.put.new.self c.forget.ensures.same
    c.forget.ensures.forgets c.put.ensures.length c.in_ok-due.due c.put.ensures.put)) c.in_ok-due.ensures

pub returns-clause-changes : goal.returns-clause-changes
returns-clause-changes c = changes_then c.args.self.now c.forget.new.self c.requires.sound c.args.p c.put.new.self c.forget.ensures.same
    c.forget.ensures.forgets c.put.ensures.length c.in_ok-due.due c.put.ensures.put

pub returns-clause-forgets : goal.returns-clause-forgets
returns-clause-forgets c = forgotten_then c.args.self.now c.forget.new.self c.requires.sound c.args.p c.put.new.self c.forget.ensures.same
    c.forget.ensures.forgets c.put.ensures.length c.in_ok-due.due c.put.ensures.put c.requires.there
