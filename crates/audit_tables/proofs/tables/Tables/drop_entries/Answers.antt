use Rattle.std.proofs.Common.{ap, subst}
use Rattle.std.proofs.lemmas.Result.{on_ok_weaker}
use Rattle.bgp_types.specs.declared.rank.From.TheVariants.{Peering}
use Rattle.rib_stages.specs.Steps.{DropsAll}
use Rattle.rib_stages.specs.Values.{rib_of}
use Rattle.audit_tables.specs.declared.tables.Tables.{Tables}
use Rattle.audit_tables.proofs.Changes.{drops_all, drops_dirty}
use Rattle.audit_tables.proofs.tables.Tables.drop_entries.Goals as goal

pub returns-clause-none : goal.returns-clause-none
returns-clause-none c = on_ok_weaker c.drop_from.result (λ drops. drops.1) c.drop_from.ensures.ok

pub returns-clause-dirty : goal.returns-clause-dirty
returns-clause-dirty c =
    let t = c.args.self.now in
    let u : Tables = record c.forget_all.new.self { rib = c.drop_from.new.self } in
    on_ok_weaker c.drop_from.result
    (λ drops. drops_dirty t u c.requires c.args.p.0
    (ap (λ (x : Tables). let y : Tables = record x { rib = c.drop_from.new.self } in y) c.forget_all.ensures.same)
    c.forget_all.ensures.count (record { none = c.forget_all.ensures.unknown.none })
    (subst (λ (x : Tables). DropsAll (rib_of x.rib) (Peering c.args.p) (rib_of u.rib)) c.forget_all.ensures.same drops)) c.drop_from.ensures.ok

pub returns-clause-changes : goal.returns-clause-changes
returns-clause-changes c =
    let t = c.args.self.now in
    let u : Tables = record c.forget_all.new.self { rib = c.drop_from.new.self } in
    on_ok_weaker c.drop_from.result
    (λ drops. drops_all t u c.requires c.args.p.0
    (ap (λ (x : Tables). let y : Tables = record x { rib = c.drop_from.new.self } in y) c.forget_all.ensures.same)
    c.forget_all.ensures.count (record { none = c.forget_all.ensures.unknown.none })
    (subst (λ (x : Tables). DropsAll (rib_of x.rib) (Peering c.args.p) (rib_of u.rib)) c.forget_all.ensures.same drops)) c.drop_from.ensures.ok
