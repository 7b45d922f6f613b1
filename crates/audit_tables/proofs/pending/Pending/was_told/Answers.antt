use Rattle.std.proofs.Common.{◌≡◌, None, Some, true, false, is_some, sym, ap, ◌∙◌, refl, subst}
use Rattle.std.proofs.lemmas.Result.{on_ok_weaker}
use Rattle.rib_stages.proofs.Drops.{least_is}
use Rattle.audit_tables.proofs.Alike.{loses_first, loses_none, loses_nothing}
use Rattle.audit_tables.proofs.pending.Pending.was_told.Goals as goal

pub returns-in_default : goal.returns-in_default
returns-in_default c = loses_nothing c.args.self.now.groups.contents c.args.count (sym c.next_after.ensures ∙ c.in_default.is) c.args.self.now.groups.contents

pub unreachable-requires : goal.unreachable-requires
unreachable-requires c =
    let there = least_is c.args.self.now.groups.contents c.in-Some.first (sym c.next_after.ensures ∙ c.in-Some.is) in
    let both : false ≡ true = ap is_some (sym c.in_default-remove.is ∙ c.remove.ensures.before) ∙ there in
    cc

pub returns-in-None : goal.returns-in-None
returns-in-None c = loses_none c.args.self.now.groups.contents c.args.count c.in-Some.first c.in-Some-remove.group
    (sym c.next_after.ensures ∙ c.in-Some.is) (sym c.remove.ensures.before ∙ c.in-Some-remove.is) c.in-None.ensures.none c.remove.new.self.contents

pub returns-in-Some-without_first : goal.returns-in-Some-without_first
returns-in-Some-without_first c = on_ok_weaker c.add_group.result
    (λ adds. loses_first c.args.self.now.groups.contents c.args.count c.in-Some.first c.in-Some-remove.group
    (sym c.next_after.ensures ∙ c.in-Some.is) (sym c.remove.ensures.before ∙ c.in-Some-remove.is) c.remove.new.self.contents c.remove.ensures.removed
    c.in-Some-without_first.left c.in-Some-without_first.ensures.some.0 c.in-Some-without_first.ensures.some.1
    c.add_group.new.groups.contents adds) c.add_group.ensures
