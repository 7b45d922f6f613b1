use Rattle.std.proofs.Common.{◌≡◌, List, sym, ap, subst, ◌∙◌, option_copied, Option, Some}
use Rattle.std.specs.Prelude.{reverse}
use Rattle.std.proofs.lemmas.List.{reverse-reverse}
use Rattle.route_policy.specs.Telling.{OutSide}
use Rattle.session_value.specs.declared.config.SessionConfig.{SessionConfig}
use Rattle.update_plan.specs.declared.batch.Batch.{Batch}
use Rattle.router_core.specs.Parts.{router_part}
use Rattle.router_core.specs.Places.{place_at}
use Rattle.router_tables.specs.Entering.{rules_by}
use Rattle.router_core.specs.Putting.{PlannedAt}
use Rattle.router_core.specs.declared.place.Place.{Place}
use Rattle.router_core.specs.declared.place.Place.TheVariants.{Live}
use Rattle.router_core.proofs.PutPlans.{planned}
use Rattle.router_core.proofs.stages.put.planned.Goals as goal

pub returns-clause-planned : goal.returns-clause-planned
returns-clause-planned c =
    let f = c.args.router.now in
    let n = c.args.n in
    let s = c.in-Some-Live.session in
    let o = c.in-Some-Live.field-0-1 in
    let is : place_at f.places.places n ≡ Some (Live s o) = sym c.get.ensures ∙ ap option_copied c.in-Some-Live.is ∙ ap Some c.in-Some-Live.field-0-is in
    let all : reverse c.reverse.new.self.items ≡ c.in_ok-batches.batches =
    ap reverse c.reverse.ensures.items ∙ (reverse-reverse c.into_vec-batches.result.items ∙ c.into_vec-batches.ensures) in
    let config = c.config-config.result.now in
    let out : OutSide = record {
      peering = config.peering;
      remote_as = config.remote_as;
      local_address = config.local_address;
      export_rules = option_copied c.policy_of.result;
    } in
    let out_is : out ≡ record {
      peering = s.session.config.peering;
      remote_as = s.session.config.remote_as;
      local_address = s.session.config.local_address;
      export_rules = rules_by f.policies s.session.config.export;
    } =
    ap (λ x. let y : OutSide = record { peering = config.peering; remote_as = config.remote_as; local_address = config.local_address; export_rules = x } in
    y) c.policy_of.ensures
    ∙ ap (λ (k : SessionConfig). let y : OutSide =
    record { peering = k.peering; remote_as = k.remote_as; local_address = k.local_address; export_rules = rules_by f.policies k.export } in y)
    c.config-config.ensures in
    subst (λ (x : Option Place). PlannedAt f.known.setup f.number.0 (router_part f) n x (reverse c.reverse.new.self.items)) (sym is)
    (subst (λ (l : List Batch). PlannedAt f.known.setup f.number.0 (router_part f) n (Some (Live s o)) l) (sym all)
    (planned f n s o c.requires.keeps is c.set-due.result.now c.told.result.now c.wide.result out
    c.in_ok-batches.batches c.set-due.ensures c.told.ensures c.wide.ensures out_is c.in_ok-batches.ensures.planned))
