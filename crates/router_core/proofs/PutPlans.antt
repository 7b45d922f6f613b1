-- What is planned for the session at a place.
use Rattle.std.proofs.Common.{◌≡◌, ℕ, List, [], Option, Some, None, Bool, refl, ap, subst, ◌∙◌}
use Rattle.std.specs.FinMap as map
use Rattle.bgp_types.specs.declared.attrs.Attrs.{Attrs}
use Rattle.bgp_types.specs.declared.message.SessionState.TheVariants.{Established}
use Rattle.bgp_types.specs.Prefixes.{PrefixValue}
use Rattle.bgp_story.specs.Legal.{is_wide}
use Rattle.bgp_story.specs.Readings.{Routes}
use Rattle.router_core.specs.declared.place.Errand.{Errand}
use Rattle.route_policy.specs.Telling.{OutSide, tell_out}
use Rattle.route_policy.specs.declared.rule.Rule.{Rule}
use Rattle.session_value.specs.Sessions.{state, peering_of}
use Rattle.session_value.specs.Sets.{Prefixes}
use Rattle.bgp_session.specs.Running.{RunningSession}
use Rattle.rib_stages.specs.Values.{rib_of, table_at}
use Rattle.update_plan.specs.Plans.{IsPlan}
use Rattle.update_plan.specs.ToTell as plans
use Rattle.update_plan.specs.declared.batch.Batch.{Batch}
use Rattle.graft_model.specs.Decisions.{out_side, to_tell}
use Rattle.graft_model.specs.Setups.{Setup, rules_for}
use Rattle.actor_configs.specs.Configs.{ArePoliciesOf}
use Rattle.router_core.specs.Parts.{router_part, RouterInvariant}
use Rattle.router_core.specs.Places.{place_at}
use Rattle.router_tables.specs.Entering.{rules_by}
use Rattle.router_core.specs.Putting.{PlannedAt}
use Rattle.actor_configs.specs.declared.router.NamedPolicy.{NamedPolicy}
use Rattle.router_core.specs.declared.fields.Fields.{Fields}
use Rattle.router_core.specs.declared.place.Place.TheVariants.{Live}
use Rattle.router_core.proofs.PutPlaces.{established}

rules_are : (setup : Setup) (r : ℕ) (policies : List NamedPolicy) (name : Option (List ℕ)) → ArePoliciesOf setup r policies
    → rules_by policies name ≡ rules_for setup r name
rules_are setup r policies None are = refl
rules_are setup r policies (Some name) are = are.each name

module _ (f : Fields) (n : ℕ) (s : RunningSession) (o : Option Errand) (keeps : RouterInvariant f) (is : place_at f.places.places n ≡ Some (Live s o)) where
  -- a session that isn't established is told of nothing
  pub none_planned : (state s.session ≡ Established → ⊥) → PlannedAt f.known.setup f.number.0 (router_part f) n (Some (Live s o)) []
  none_planned not x to_tell = not (established f n s o keeps is x to_tell.0.0)

  pub planned : (due : Prefixes) (adj_rib_out : Routes) (wide : Bool) (out : OutSide) (batches : List Batch) → due ≡ table_at f.due_out n
      → adj_rib_out ≡ s.session.adj_rib_out → wide ≡ is_wide (peering_of s.session.config) s.session.story
      → out ≡ record {
        peering = s.session.config.peering;
        remote_as = s.session.config.remote_as;
        local_address = s.session.config.local_address;
        export_rules = rules_by f.policies s.session.config.export;
      }
      → IsPlan (plans.IsPrefixToTell due f.rib.dirty adj_rib_out (plans.rib_to_tell (rib_of f.rib) out)) (plans.rib_to_tell (rib_of f.rib) out) wide batches
      → PlannedAt f.known.setup f.number.0 (router_part f) n (Some (Live s o)) batches
  planned due adj_rib_out wide out batches due_is told_is wide_is out_is plan =
      let rules = rules_are f.known.setup f.number.0 f.policies s.session.config.export keeps.policies in
      let out_same : out ≡ out_side f.known.setup f.number.0 s.session.config = out_is ∙ ap (λ (x : Option (List Rule)). let y : OutSide = record {
        peering = s.session.config.peering;
        remote_as = s.session.config.remote_as;
        local_address = s.session.config.local_address;
        export_rules = x;
      } in y) rules in
      let tells : plans.rib_to_tell (rib_of f.rib) out ≡ to_tell f.known.setup f.number.0 (router_part f) s.session =
      λ i x. tell_out (keeps.rib.home_as i) (out_same i) x (map.get f.rib.best x) in
      subst (λ (t : PrefixValue → Option Attrs). IsPlan (plans.IsPrefixToTell (table_at f.due_out n) f.rib.dirty s.session.adj_rib_out t) t
      (is_wide (peering_of s.session.config) s.session.story) batches) tells
      (subst (λ (w : Bool). IsPlan (plans.IsPrefixToTell (table_at f.due_out n) f.rib.dirty s.session.adj_rib_out (plans.rib_to_tell (rib_of f.rib) out))
      (plans.rib_to_tell (rib_of f.rib) out) w batches) wide_is
      (subst (λ (t : Routes). IsPlan (plans.IsPrefixToTell (table_at f.due_out n) f.rib.dirty t (plans.rib_to_tell (rib_of f.rib) out))
      (plans.rib_to_tell (rib_of f.rib) out) wide batches) told_is
      (subst (λ (d : Prefixes). IsPlan (plans.IsPrefixToTell d f.rib.dirty adj_rib_out (plans.rib_to_tell (rib_of f.rib) out))
      (plans.rib_to_tell (rib_of f.rib) out) wide batches) due_is plan)))
