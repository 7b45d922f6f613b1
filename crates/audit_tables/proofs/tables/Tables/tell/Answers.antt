use Rattle.std.proofs.Common.{sym, ◌∙◌}
use Rattle.audit_tables.proofs.Tellings.{due_within, tell_dirty, tell_made, tell_nothing}
use Rattle.audit_tables.proofs.tables.Tables.tell.Goals as goal

pub returns-then-not-is_due_to-clause-decides : goal.returns-then-not-is_due_to-clause-decides
returns-then-not-is_due_to-clause-decides c = λ places. tell_nothing c.args.self.now c.requires places c.args.q c.args.prefix
    (sym c.is_due_to.ensures ∙ c.if-not-is_due_to.true)

pub returns-then-is_dirty-clause-decides : goal.returns-then-is_dirty-clause-decides
returns-then-is_dirty-clause-decides c = λ places. tell_dirty c.args.self.now c.requires places c.args.q c.args.prefix
    (sym c.is_dirty.ensures ∙ c.if-is_dirty.true)

pub remove-requires : goal.remove-requires
remove-requires c = due_within c.args.self.now.due_in c.args.q c.args.prefix (sym c.is_due_to.ensures ∙ c.if-not-is_due_to.false)

pub returns-clause-decides : goal.returns-clause-decides
returns-clause-decides c = λ places. tell_made c.args.self.now c.requires places c.args.q c.args.prefix
    (sym c.is_due_to.ensures ∙ c.if-not-is_due_to.false) (sym c.is_dirty.ensures ∙ c.if-is_dirty.false) c.in_ok-route.route c.in_ok-route.ensures
    c.remove.new.self c.remove.ensures.length c.remove.ensures.removed
