use Rattle.std.proofs.Common.{ap, subst}
use Rattle.std.proofs.lemmas.Result.{on_ok_weaker}
use Rattle.rib_stages.specs.Values.{rib_of}
use Rattle.router_tables.specs.Entering.{EntersAll, entry_here}
use Rattle.audit_tables.specs.declared.tables.Tables.{Tables}
use Rattle.audit_tables.proofs.Changes.{enters_here}
use Rattle.audit_tables.proofs.tables.Tables.enter.Goals as goal

pub returns : goal.returns
returns c =
    let t = c.args.self.now in
    let s = c.args.session.now.session in
    let u : Tables = record c.forget_all.new.self { rib = c.enter.new.rib } in
    on_ok_weaker c.enter.result
    (λ entered. enters_here t u c.requires.sound s.config.peering.0
    (ap (λ (x : Tables). let y : Tables = record x { rib = c.enter.new.rib } in y) c.forget_all.ensures.same)
    c.forget_all.ensures.count (record { none = c.forget_all.ensures.unknown.none }) c.requires.there (entry_here t.home_as t.policies s) c.args.prefixes.now
    (subst (λ (x : Tables). EntersAll (rib_of x.rib) s.config.peering.0 (entry_here x.home_as x.policies s) c.args.prefixes.now (rib_of u.rib))
    c.forget_all.ensures.same entered)) c.enter.ensures
