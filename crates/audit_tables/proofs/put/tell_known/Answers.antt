use Rattle.std.proofs.Common.{Some, None, ◌≡◌, subst, refl}
use Rattle.std.proofs.lemmas.Result.{on_ok_weaker}
use Rattle.audit_tables.specs.Groups.{LosesFirst}
use Rattle.audit_tables.specs.declared.pending.Pending.{Pending}
use Rattle.audit_tables.proofs.Keeping.{one_some}
use Rattle.audit_tables.proofs.put.tell_known.Goals as goal

pub returns-in-Some : goal.returns-in-Some
returns-in-Some c = on_ok_weaker c.was_told.result
    (λ loses now e. (
      c.in-Some.pending,
      c.in-Some.is,
      subst (λ (g : Pending). LosesFirst c.args.count c.in-Some.pending.groups.contents g.groups.contents) (one_some c.was_told.new.self now e) loses,
    ))
    c.was_told.ensures
