-- The configuration of a router.
use Rattle.std.proofs.Common.{◌≡◌, ℕ, zero, suc, ◌<◌, Bool, true, false, cond, List, [], ◌∷◌, length, map, refl, sym, ap, ◌∙◌, subst, arith}
use Rattle.std.specs.Prelude.{◌==◌, Option, Some, None, option_map, unwrap_or, slice_get, find}
use Rattle.std.specs.List.{list_any}
use Rattle.std.specs.Str.{bytes_eq}
use Rattle.std.proofs.lemmas.Option.{slice_get-map, slice_get_past, slice_get_within}
use Rattle.bgp_types.specs.Prefixes.{same_prefix}
use Rattle.rib_stages.specs.declared.config.RibConfig.{RibConfig}
use Rattle.session_value.specs.declared.config.SessionConfig.{SessionConfig}
use Rattle.graft_model.specs.Setups.{RouterSetup, PeeringSetup, NamedRules, of_router, peerings_in}
use Rattle.graft_model.specs.Setups as model
use Rattle.lab_tables.specs.declared.input.LabInput.{LabInput}
use Rattle.lab_tables.specs.declared.input.PeeringInput.{PeeringInput}
use Rattle.lab_tables.specs.declared.input.PolicyInput.{PolicyInput}
use Rattle.lab_tables.specs.declared.input.RouterInput.{RouterInput}
use Rattle.lab_setup.specs.Setups.{costs_from, named_rules, router_setup, peering_config, peering_setup, setup_of}
use Rattle.actor_configs.specs.declared.router.Firsts.{Firsts}
use Rattle.actor_configs.specs.declared.router.NamedPolicy.{NamedPolicy}
use Rattle.actor_configs.specs.declared.router.RouterConfig.{RouterConfig}
use Rattle.actor_configs.specs.Configs.{rules_at, ArePoliciesOf, firsts_at, AreFirstsOf, IsRibOf, starting_here, IsRouterConfigOf}
use Rattle.node_configs.specs.Accepted.{IsAccepted}
use Rattle.node_configs.specs.Tables.{named_policy, firsts_of, session_configs_at}
use Rattle.node_configs.proofs.Accepted.{HasFew, few}
use Rattle.node_configs.proofs.Lists.{filter_numbered}
use Rattle.lab_setup.proofs.Ready.{as_many_routers, as_many_peerings, router_there}
use Rattle.lab_setup.proofs.Setups.{router_at, peering_at}

-- ---- policies

same_rules : (name : List ℕ) (ps : List PolicyInput)
    → rules_at (map named_policy ps) name
    ≡ option_map (λ (policy : NamedRules). policy.rules) (find (λ (policy : NamedRules). bytes_eq name policy.name) (map named_rules ps))
same_rules name [] = refl
same_rules name (p ∷ ps) = by_test (bytes_eq name p.name) (same_rules name ps) where
  by_test : (t : Bool)
      → rules_at (map named_policy ps) name
      ≡ option_map (λ (policy : NamedRules). policy.rules) (find (λ (policy : NamedRules). bytes_eq name policy.name) (map named_rules ps))
      → option_map (λ (q : NamedPolicy). q.policy) (cond t (Some (named_policy p)) (find (λ (q : NamedPolicy). bytes_eq name q.name) (map named_policy ps)))
      ≡ option_map (λ (policy : NamedRules). policy.rules)
      (cond t (Some (named_rules p)) (find (λ (policy : NamedRules). bytes_eq name policy.name) (map named_rules ps)))
  by_test true rest = refl
  by_test false rest = rest

-- the numbers of the first bytes that both sides send
abbrev numbers_of : Firsts → ℕ × ℕ
numbers_of f = (f.home.0, f.remote.0)

abbrev numbers_in : SessionConfig → ℕ × ℕ
numbers_in config = (config.send_first.0, config.receive_first.0)

module _ (input : LabInput) where
  -- a field of a router
  field_is : {A : Type 0} (field : RouterSetup → A) (none : A) (r : ℕ) (x : RouterInput) → slice_get input.routers r ≡ Some x
      → of_router field none (setup_of input) r ≡ field (router_setup input (r, x))
  field_is field none r x there = ap (λ o. unwrap_or (option_map field o) none) (router_there input r x there)

  are_policies : (r : ℕ) (x : RouterInput) → slice_get input.routers r ≡ Some x → (policies : List NamedPolicy)
      → policies ≡ map named_policy x.policies → ArePoliciesOf (setup_of input) r policies
  are_policies r x there policies made = record {
    each = λ name. ap (λ ps. rules_at ps name) made ∙ same_rules name x.policies
        ∙ sym (ap (λ ps. option_map (λ (policy : NamedRules). policy.rules) (find (λ (policy : NamedRules). bytes_eq name policy.name) ps))
        (field_is (λ router. router.policies) [] r x there));
  }

  -- ---- first numbers

  first_by : (o : Option PeeringInput) (p : ℕ) → option_map numbers_of (option_map firsts_of o)
      ≡ option_map numbers_in (option_map (λ (peering : PeeringSetup). peering.config) (option_map (λ x. peering_setup input (p, x)) o))
  first_by None p = refl
  first_by (Some x) p = refl

  firsts_are : (firsts : List Firsts) → firsts ≡ map firsts_of input.peerings → (p : ℕ) → firsts_at firsts p
      ≡ option_map numbers_in (model.config_of (setup_of input) p)
  firsts_are firsts made p =
      ap (λ fs. firsts_at fs p) made ∙ ap (option_map numbers_of) (slice_get-map firsts_of input.peerings p)
      ∙ first_by (slice_get input.peerings p) p
      ∙ ap (λ o. option_map numbers_in (option_map (λ (peering : PeeringSetup). peering.config) o)) (sym (peering_at input p))

  pairs : (o : Option SessionConfig) → (c : SessionConfig) → o ≡ Some c → option_map numbers_in o
      ≡ Some (
        unwrap_or (option_map (λ (config : SessionConfig). config.send_first.0) o) 0,
        unwrap_or (option_map (λ (config : SessionConfig). config.receive_first.0) o) 0,
      )
  pairs o c e = subst (λ (x : Option SessionConfig). option_map numbers_in x
      ≡ Some (
        unwrap_or (option_map (λ (config : SessionConfig). config.send_first.0) x) 0,
        unwrap_or (option_map (λ (config : SessionConfig). config.receive_first.0) x) 0,
      )) (sym e) refl

  are_firsts : (firsts : List Firsts) → firsts ≡ map firsts_of input.peerings → AreFirstsOf (setup_of input) firsts
  are_firsts firsts made = record {
    each = λ p below. firsts_are firsts made p ∙ pairs (model.config_of (setup_of input) p) (config p below).0 (config p below).1;
    none = λ p past. firsts_are firsts made p
        ∙ ap (λ o. option_map numbers_in (option_map (λ (peering : PeeringSetup). peering.config) o)) (slice_get_past (setup_of input).peerings p past);
  }
    where
      config : (p : ℕ) → p < peerings_in (setup_of input) → (c : SessionConfig) × (model.config_of (setup_of input) p ≡ Some c)
      config p below = by_peering (slice_get input.peerings p) (peering_at input p) where
        by_peering : (o : Option PeeringInput) → slice_get (setup_of input).peerings p ≡ option_map (λ x. peering_setup input (p, x)) o
            → (c : SessionConfig) × (model.config_of (setup_of input) p ≡ Some c)
        by_peering (Some x) e = (peering_config input (p, x), ap (option_map (λ (peering : PeeringSetup). peering.config)) e)
        by_peering None e = absurd (past (setup_of input).peerings p below e)
          where
            past : (xs : List PeeringSetup) (k : ℕ) → k < length xs → slice_get xs k ≡ None → ⊥
            past [] k below e = omega (arith, below)
            past (x ∷ xs) zero below e = (let none : Option PeeringSetup = None in let f : Some x ≡ none = e in cc)
            past (x ∷ xs) (suc k) below e = past xs k (omega (arith, below)) e

  -- ---- tables

  identifier_by : (o : Option RouterInput) (q : ℕ)
      → unwrap_or (option_map (λ (router : RouterInput). router.id) o) 0
      ≡ unwrap_or (option_map (λ (router : RouterSetup). router.identifier) (option_map (λ x. router_setup input (q, x)) o)) 0
  identifier_by None q = refl
  identifier_by (Some x) q = refl

  is_rib : (r : ℕ) (x : RouterInput) → slice_get input.routers r ≡ Some x → (rib : RibConfig) → rib.home_as ≡ input.home_as → rib.router.0 ≡ r
      → rib.identifiers ≡ map (λ (router : RouterInput). router.id) input.routers
      → rib.costs ≡ costs_from input r → rib.networks ≡ x.networks → IsRibOf (setup_of input) r rib
  unfolding setup_of
  is_rib r x there rib home number identifiers costs networks = record {
    home_as = home;
    number = number;
    networks = λ prefix. ap (list_any (same_prefix prefix)) (networks ∙ sym (field_is (λ router. router.networks) [] r x there));
    identifiers = λ q. ap (λ ns. unwrap_or (slice_get ns q) 0) identifiers
        ∙ ap (λ o. unwrap_or o 0) (slice_get-map (λ (router : RouterInput). router.id) input.routers q)
        ∙ identifier_by (slice_get input.routers q) q
        ∙ sym (ap (λ o. unwrap_or (option_map (λ (router : RouterSetup). router.identifier) o) 0) (router_at input q));
    costs = λ q. ap (λ ns. unwrap_or (slice_get ns q) 1) (costs ∙ sym (field_is (λ router. router.costs) [] r x there));
  }

  -- ---- sessions

  sessions_are : (r : ℕ) → session_configs_at input r ≡ starting_here (setup_of input) r
  unfolding setup_of
  sessions_are r = filter_numbered (peering_setup input) (λ (peering : PeeringSetup). peering.config)
      (λ (peering : PeeringSetup). peering.start == r) input.peerings 0

  -- ---- the whole

  pub is_config : IsAccepted input → (config : RouterConfig) (x : RouterInput) → slice_get input.routers config.number.0 ≡ Some x
      → config.routers ≡ length input.routers → config.room ≡ x.sessions → config.policies ≡ map named_policy x.policies
      → config.rib.home_as ≡ input.home_as → config.rib.router.0 ≡ config.number.0
      → config.rib.identifiers ≡ map (λ (router : RouterInput). router.id) input.routers
      → config.rib.costs ≡ costs_from input config.number.0 → config.rib.networks ≡ x.networks
      → config.firsts ≡ map firsts_of input.peerings → config.sessions ≡ session_configs_at input config.number.0
      → IsRouterConfigOf (setup_of input) config
  is_config accepted config x there routers room policies home number identifiers costs networks firsts sessions =
      let counts : HasFew input = few input accepted in
      let most_routers = counts.routers in
      let most_peerings = counts.peerings in
      let many = as_many_routers input in
      let others = as_many_peerings input in
      record {
        there = (let h = slice_get_within input.routers config.number.0 x there in omega arith);
        few_routers = omega arith;
        few_peerings = omega arith;
        routers = routers ∙ sym many;
        room = room ∙ sym (field_is (λ router. router.room) 0 config.number.0 x there);
        policies = are_policies config.number.0 x there config.policies policies;
        firsts = are_firsts config.firsts firsts;
        rib = is_rib config.number.0 x there config.rib home number identifiers costs networks;
        sessions = sessions ∙ sessions_are config.number.0;
      }
