use Rattle.std.proofs.Common.{List, length, ap, ◌∙◌, ◌-◌}
use Rattle.std.specs.Prelude.{slice_get}
use Rattle.std.proofs.lemmas.Result.{on_ok_weaker}
use Rattle.bgp_types.specs.Prefixes.{PrefixValue}
use Rattle.audit_tables.proofs.Grouping.{adds_last, adds_none}
use Rattle.audit_tables.proofs.pending.add_group.Goals as goal

pub returns-in_default : goal.returns-in_default
returns-in_default c = adds_none c.args.group c.args.groups.now.contents c.copied.result
    (c.copied.ensures ∙ (c.last.ensures.value ∙ ap (λ (l : List PrefixValue). slice_get l (length l - 1)) c.deref.ensures.value)) c.in_default.is

pub returns-in-Ok : goal.returns-in-Ok
returns-in-Ok c = adds_last c.args.group c.args.groups.now.contents c.copied.result
    (c.copied.ensures ∙ (c.last.ensures.value ∙ ap (λ (l : List PrefixValue). slice_get l (length l - 1)) c.deref.ensures.value))
    c.in-Some.first c.in-Some.is c.set.new.self.contents c.in-Ok.ensures.ok
