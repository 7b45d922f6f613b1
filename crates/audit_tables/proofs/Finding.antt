-- What is to be told on a session: by the tables and by the model, and once an UPDATE has told some of it.
use Rattle.std.proofs.Common.{◌≡◌, ℕ, true, List, Option, sym, ap, ◌∙◌, subst}
use Rattle.std.specs.FinMap as map
use Rattle.std.specs.List.{list_any}
use Rattle.bgp_types.specs.declared.attrs.Attrs.{Attrs}
use Rattle.bgp_types.specs.Prefixes.{PrefixValue, same_prefix}
use Rattle.bgp_story.specs.Readings.{Routes, apply}
use Rattle.route_policy.specs.Telling.{OutSide, tell_out}
use Rattle.route_policy.specs.declared.rule.Rule.{Rule}
use Rattle.session_value.specs.declared.config.SessionConfig.{SessionConfig}
use Rattle.session_value.specs.Cases.{update_for}
use Rattle.session_value.specs.Sessions.{SessionValue}
use Rattle.session_value.specs.Sets.{BestRoutes, Prefixes}
use Rattle.rib_stages.specs.Values.{rib_of}
use Rattle.update_plan.specs.Plans.{AreWholeBatches, Without}
use Rattle.update_plan.specs.ToTell.{IsPrefixToTell, rib_to_tell}
use Rattle.update_plan.specs.declared.batch.Batch.{Batch}
use Rattle.update_plan.proofs.PlanLaws.{left_then, then_left}
use Rattle.graft_model.specs.Decisions.{out_side, to_tell}
use Rattle.graft_model.specs.Parts.{Place, RouterPart}
use Rattle.graft_model.specs.Points.{at}
use Rattle.graft_model.specs.RouterRows.{IsToTell}
use Rattle.graft_model.specs.Sets.{Drops}
use Rattle.graft_model.specs.Setups.{Setup}
use Rattle.router_tables.specs.Entering.{rules_by}
use Rattle.router_tables.proofs.EnterSteps.{rules_is}
use Rattle.audit_tables.specs.Changes.{ChangesDue, PutsFirstAlike}
use Rattle.audit_tables.specs.Groups.{AreGroups, GroupTable}
use Rattle.audit_tables.specs.Parts.{TablesInvariant, due_at, part_with}
use Rattle.audit_tables.specs.declared.tables.Tables.{Tables}
use Rattle.audit_tables.proofs.Alike.{groups_of_same}

-- ---- what the tables find

module _ (t : Tables) (k : TablesInvariant t) (places : ℕ → Place) (p : ℕ) (s : SessionValue) where
  abbrev out_here : SessionConfig → OutSide
  out_here config = record {
    peering = config.peering;
    remote_as = config.remote_as;
    local_address = config.local_address;
    export_rules = rules_by t.policies config.export;
  }

  out_is : out_here s.config ≡ out_side t.known.setup t.number.0 s.config
  out_is = ap (λ (x : Option (List Rule)). let y : OutSide = record {
    peering = s.config.peering;
    remote_as = s.config.remote_as;
    local_address = s.config.local_address;
    export_rules = x;
  } in y) (rules_is t.known.setup t.number.0 t.policies s.config.export k.policies)

  pub found_here : (due : Prefixes) (told : Routes) (out : OutSide) (batches : List Batch) → due ≡ due_at t p → told ≡ s.adj_rib_out → out ≡ out_here s.config
      → AreWholeBatches (IsPrefixToTell due t.rib.dirty told (rib_to_tell (rib_of t.rib) out)) (rib_to_tell (rib_of t.rib) out) batches
      → AreWholeBatches (IsToTell t.known.setup t.number.0 (part_with places t) p s) (to_tell t.known.setup t.number.0 (part_with places t) s) batches
  found_here due told out batches due_is told_is is whole =
      let tells : rib_to_tell (rib_of t.rib) out ≡ to_tell t.known.setup t.number.0 (part_with places t) s =
      λ i x. tell_out (k.rib.home_as i) ((is ∙ out_is) i) x (map.get t.rib.best x) in
      subst (λ (f : PrefixValue → Option Attrs). AreWholeBatches (IsPrefixToTell (due_at t p) t.rib.dirty s.adj_rib_out f) f batches) tells
      (subst (λ (r : Routes). AreWholeBatches (IsPrefixToTell (due_at t p) t.rib.dirty r (rib_to_tell (rib_of t.rib) out)) (rib_to_tell (rib_of t.rib) out)
      batches) told_is
      (subst (λ (d : Prefixes). AreWholeBatches (IsPrefixToTell d t.rib.dirty told (rib_to_tell (rib_of t.rib) out)) (rib_to_tell (rib_of t.rib) out)
      batches) due_is whole))

-- ---- what an UPDATE leaves

-- what is to be told, of the parts that it goes by
abbrev tells_by : Setup → ℕ → BestRoutes → SessionConfig → PrefixValue → Option Attrs
tells_by setup r best config x = tell_out setup.home_as (out_side setup r config) x (map.get best x)

module _ (t u : Tables) (places : ℕ → Place) (p : ℕ) (before after : SessionValue) (prefixes : List PrefixValue)
    (puts : PutsFirstAlike t places p before prefixes after) (due : Drops (due_at t p) (λ x. list_any (same_prefix x) prefixes) (due_at u p))
    (changes : ChangesDue p t u) where
  abbrev told_then : Routes
  told_then = apply before.adj_rib_out (update_for puts.attrs prefixes)

  part_then : part_with places u ≡ record (part_with places t) { due_out = at (part_with places t).due_out p (due_at u p) }
  part_then = changes.effect places

  dirty_same : u.rib.dirty ≡ t.rib.dirty
  dirty_same = ap (λ (part : RouterPart). part.dirty) part_then

  best_same : u.rib.best ≡ t.rib.best
  best_same = ap (λ (part : RouterPart). part.best) part_then

  tells_same : to_tell t.known.setup t.number.0 (part_with places t) before ≡ to_tell u.known.setup u.number.0 (part_with places u) after
  tells_same = λ i. tells_by (sym changes.keeps.setup i) (sym changes.keeps.number i).0 (sym best_same i)
      (sym (ap (λ (s : SessionValue). s.config) puts.puts.effect) i)

  pub left_groups : (groups : GroupTable)
      → AreGroups (Without (IsToTell t.known.setup t.number.0 (part_with places t) p before) prefixes)
      (to_tell t.known.setup t.number.0 (part_with places t) before) groups
      → AreGroups (IsToTell u.known.setup u.number.0 (part_with places u) p after) (to_tell u.known.setup u.number.0 (part_with places u) after) groups
  left_groups groups are =
      let tells : PrefixValue → Option Attrs = to_tell t.known.setup t.number.0 (part_with places t) before in
      let batch : Batch = record { attrs = puts.attrs; prefixes = prefixes } in
      let then = groups_of_same (Without (IsToTell t.known.setup t.number.0 (part_with places t) p before) prefixes)
      (IsPrefixToTell (due_at u p) t.rib.dirty told_then tells) tells
      (left_then (due_at t p) (due_at u p) t.rib.dirty before.adj_rib_out tells true batch due.members)
      (then_left (due_at t p) (due_at u p) t.rib.dirty before.adj_rib_out tells true batch due.members) groups are in
      subst (λ (f : PrefixValue → Option Attrs). AreGroups (IsPrefixToTell (due_at u p) u.rib.dirty after.adj_rib_out f) f groups) tells_same
      (subst (λ (r : Routes). AreGroups (IsPrefixToTell (due_at u p) u.rib.dirty r tells) tells groups)
      (sym (ap (λ (s : SessionValue). s.adj_rib_out) puts.puts.effect))
      (subst (λ (d : Prefixes). AreGroups (IsPrefixToTell (due_at u p) d told_then tells) tells groups) (sym dirty_same) then))
