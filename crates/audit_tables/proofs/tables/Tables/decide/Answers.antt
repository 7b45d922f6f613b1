use Rattle.std.proofs.Common.{sym, ap, ◌∙◌, arith, length}
use Rattle.std.proofs.lemmas.Bool.{not-true, not-false}
use Rattle.audit_tables.specs.declared.tables.Tables.{Tables}
use Rattle.audit_tables.proofs.Deciding.{decide_clean, forgotten_other, forgotten_same}
use Rattle.audit_tables.proofs.tables.Tables.decide.Goals as goal

pub returns-then-not-is_dirty-clause-decides : goal.returns-then-not-is_dirty-clause-decides
returns-then-not-is_dirty-clause-decides c = λ places up. decide_clean c.args.self.now c.requires.sound places c.args.prefix
    (sym c.is_dirty.ensures ∙ c.if-not-is_dirty.true)

pub due_where_up-requires : goal.due_where_up-requires
due_where_up-requires c =
    let dues = ap (λ (x : Tables). length x.due_out) c.forget_all.ensures.same in
    omega (arith, dues, c.requires.all, c.requires.sound.due_out)

pub returns-clause-decides : goal.returns-clause-decides
returns-clause-decides c =
    let dues = ap (λ (x : Tables). length x.due_out) c.forget_all.ensures.same in
    λ places up. forgotten_other c.args.self.now c.forget_all.new.self c.requires.sound c.forget_all.ensures.same c.forget_all.ensures.count places
    c.args.prefix (sym c.is_dirty.ensures ∙ c.if-not-is_dirty.false) c.decide.new.self c.in_ok-decide.ensures.ok _
    c.in_ok-decide.ensures.changed c.if-not-branch.false c.args.up.now c.due_to_others.new.due c.due_where_up.new.due c.in_ok-due_to_others.ensures
    c.in_ok-due_where_up.ensures (omega (arith, dues, c.requires.all, c.requires.sound.due_out)) up

pub returns-then-not-branch-clause-decides : goal.returns-then-not-branch-clause-decides
returns-then-not-branch-clause-decides c = λ places up. forgotten_same c.args.self.now c.forget_all.new.self c.requires.sound c.forget_all.ensures.same
    c.forget_all.ensures.count places c.args.prefix (sym c.is_dirty.ensures ∙ c.if-not-is_dirty.false) c.decide.new.self c.in_ok-decide.ensures.ok
    _ c.in_ok-decide.ensures.changed c.if-not-branch.true
