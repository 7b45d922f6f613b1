use Rattle.std.proofs.Common.{◌≡◌, Option, None, Some, true, false, is_some, sym, ap, ◌∙◌}
use Rattle.std.specs.Prelude.{IfNone, option_copied}
use Rattle.std.proofs.lemmas.Option.{IfSome_then}
use Rattle.std.proofs.lemmas.Result.{IfOk-weaker}
use Rattle.rib_stages.proofs.Drops.{least_is}
use Rattle.update_plan.specs.declared.batch.Batch.{Batch}
use Rattle.audit_tables.specs.Groups.{IsPending}
use Rattle.audit_tables.proofs.Alike.{batch_is, no_batch, nothing_first}
use Rattle.audit_tables.proofs.pending.Pending.batch.Goals as goal

none_then : {X P Q : Type 0} (o : Option X) → (P → Q) → IfNone o P → IfNone o Q
none_then None f p = f p
none_then (Some x) f p = tt

pub returns-in_default-clause-none : goal.returns-in_default-clause-none
returns-in_default-clause-none c = λ telling are. nothing_first c.args.self.now.groups.contents c.args.count
    (sym c.next_after.ensures ∙ c.in_default.is) (IsPending telling) telling.to_tell are

pub unreachable-requires : goal.unreachable-requires
unreachable-requires c =
    let none = ap option_copied c.in-None.is in
    let there = least_is c.args.self.now.groups.contents c.in-Some.first (sym c.next_after.ensures ∙ c.in-Some.is) in
    let both : false ≡ true = ap is_some (sym none ∙ c.get.ensures) ∙ there in
    cc

pub returns-clause-some : goal.returns-clause-some
returns-clause-some c = λ telling are. IfOk-weaker c.first_of.result _ _ (λ answer some. IfSome_then answer some
    (λ (batch : Batch) of. batch_is c.args.self.now.groups.contents c.args.count c.in-Some.first c.in-Some-get.group.now
    (sym c.next_after.ensures ∙ c.in-Some.is) (sym c.get.ensures ∙ ap option_copied c.in-Some-get.is) (IsPending telling) telling.to_tell are
    batch of)) c.first_of.ensures.some

pub returns-clause-none : goal.returns-clause-none
returns-clause-none c = λ telling are. IfOk-weaker c.first_of.result _ _ (λ answer none. none_then answer
    (λ few attrs prefixes. no_batch c.args.self.now.groups.contents c.args.count c.in-Some.first c.in-Some-get.group.now
    (sym c.next_after.ensures ∙ c.in-Some.is) (sym c.get.ensures ∙ ap option_copied c.in-Some-get.is) (IsPending telling) telling.to_tell are
    few attrs prefixes) none) c.first_of.ensures.none
