use Rattle.std.proofs.Common.{◌≤◌, ◌∙◌, List, length, ap, arith, subst, sym}
use Rattle.std.specs.Prelude.{count_by}
use Rattle.audit_router.specs.declared.place.Place.{Place}
use Rattle.audit_router.proofs.Taken.{held, taken_is}
use Rattle.audit_router.proofs.router.AuditedRouter.taken.Goals as goal

pub count_taken-requires : goal.count_taken-requires
count_taken-requires c =
    let few : length c.args.self.now.places.items ≤ 256 = omega (arith, c.requires.all, c.requires.tables.few_peerings) in
    subst (λ (xs : List Place). length xs ≤ 256) (sym c.deref.ensures.value) few

pub returns : goal.returns
returns c = c.count_taken.ensures ∙ ap (λ (xs : List Place). count_by held xs) c.deref.ensures.value ∙ taken_is c.args.self.now c.requires
