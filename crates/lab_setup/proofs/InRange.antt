-- The numbers of the laboratory that an input describes are in the ranges of their types, and what its remotes say are octets.
use Rattle.std.proofs.Common.{◌≡◌, ℕ, ◌^◌, ◌<◌, true, false, List, [], ◌∷◌, length, map, refl, sym, subst, arith}
use Rattle.std.specs.Prelude.{Option, Some, None, option_map, unwrap_or, slice_get, find, codes}
use Rattle.std.specs.List.{AllByRecursion}
use Rattle.std.specs.Str.{bytes_eq}
use Rattle.std.proofs.lemmas.Bool.{false≢true}
use Rattle.std.proofs.lemmas.List.{length-map}
use Rattle.toml.specs.Data.{Members, get_member}
use Rattle.bgp_types.specs.OctetLists.{AreOctets}
use Rattle.bgp_types.specs.Values.{is_no_host}
use Rattle.route_policy.specs.declared.rule.Rule.{Rule}
use Rattle.session_value.specs.declared.config.SessionConfig.{SessionConfig}
use Rattle.graft_model.specs.Setups.{RouterSetup, PeeringSetup, NamedRules, ScriptStep, SayStep, MoveStep, EvacuateStep, SettleStep, of_router, rules_named}
use Rattle.graft_model.specs.Setups.{config_of as config_in_model}
use Rattle.graft_laws.specs.Ranges.{HasMedInRange, IsInRange}
use Rattle.lab_keys.specs.Values.{has_member, number_or, text_at, tables_at}
use Rattle.lab_keys.proofs.NoFlaws.{maybe_fits}
use Rattle.lab_tables.specs.declared.input.LabInput.{LabInput}
use Rattle.lab_tables.specs.declared.input.PeeringInput.{PeeringInput}
use Rattle.lab_tables.specs.declared.input.RouterInput.{RouterInput}
use Rattle.lab_tables.specs.declared.input.Step.{Step}
use Rattle.lab_tables.specs.declared.input.Step.TheVariants.{Announce, Withdraw}
use Rattle.lab_keys.specs.declared.words.StepWord.{StepWord}
use Rattle.lab_keys.specs.declared.words.StepWord.TheVariants.{Announces, Withdraws, SaysRaw, Grafts, Settles, Evacuates}
use Rattle.lab_tables.specs.Meanings.{index_of_name, word_at}
use Rattle.lab_tables.specs.Routers.{rule_of, policy_of, router_of}
use Rattle.lab_tables.specs.Peerings.{remote_id_of, remote_as4_of, peering_input}
use Rattle.lab_tables.specs.Scripts.{said_prefixes, said_attrs, peering_number, worded_step, step_of}
use Rattle.lab_tables.specs.Documents.{routers_of, router_names_of, peerings_of, peering_names_of, lab_of}
use Rattle.lab_input.specs.Labs.{InputOf}
use Rattle.lab_input.specs.Names.{unknown, worded_named, step_named}
use Rattle.lab_input.specs.Said.{step_update}
use Rattle.lab_input.proofs.Ready.{accepted, Says, says_update, SaysWell, IsRemoteOf}
use Rattle.lab_setup.specs.Setups.{named_rules, router_setup, peering_setup, is_wide_at, script_step, setup_of}
use Rattle.lab_setup.proofs.Kept.{IsPeeringTable, HasTables, tables_kept, number_below}
use Rattle.lab_setup.proofs.Lists.{IsIn, made_of, all_at, all_mapped, all_both, all_numbered, below_get, found_is}
use Rattle.lab_setup.proofs.Names.{known, HasNames, names_kept}
use Rattle.lab_setup.proofs.Names.{number_below as index_below}
use Rattle.lab_setup.proofs.Octets.{update_octets, hex_octets, opening_octets}
use Rattle.lab_setup.proofs.Said.{all_ended}

-- ---- policies

abbrev HasMeds : NamedRules → Type 0
HasMeds policy = AllByRecursion HasMedInRange policy.rules

rules_ranged : (ts : List Members) → AllByRecursion HasMedInRange (map rule_of ts)
rules_ranged [] = tt
rules_ranged (t ∷ ts) = (maybe_fits 32 (get_member (codes "med") t), rules_ranged ts)

policies_ranged : (ts : List Members) → AllByRecursion HasMeds (map named_rules (map policy_of ts))
policies_ranged [] = tt
policies_ranged (t ∷ ts) = (rules_ranged (tables_at (codes "rule") t), policies_ranged ts)

routers_ranged : (ts : List Members) → AllByRecursion (λ (r : RouterInput). AllByRecursion HasMeds (map named_rules r.policies)) (map router_of ts)
routers_ranged [] = tt
routers_ranged (t ∷ ts) = (policies_ranged (tables_at (codes "policy") t), routers_ranged ts)

-- ---- peerings

record HasRange (peering : PeeringInput) : Type 0 where
  remote_as : peering.remote_as < 2 ^ 32
  opening : AreOctets peering.opening

peerings_ranged : (doc : Members) (routers : List (List ℕ)) (ts : List Members) → AllByRecursion HasRange (map (peering_input doc routers) ts)
peerings_ranged doc routers [] = tt
peerings_ranged doc routers (t ∷ ts) =
    let here : HasRange (peering_input doc routers t) = record {
      remote_as = number_below 32 0 (codes "remote_as") t (omega arith);
      opening = opening_octets (has_member (codes "opening") t) (text_at (codes "opening") t)
          (number_or 32 0 (codes "remote_as") t) (number_or 16 180 (codes "hold") t) (remote_id_of t) (remote_as4_of t);
    } in
    (here, peerings_ranged doc routers ts)

-- ---- steps

abbrev SaysOctets : ScriptStep → Type 0
SaysOctets (SayStep p bytes) = AreOctets bytes
SaysOctets (MoveStep p target) = Unit {0}
SaysOctets (EvacuateStep router) = Unit {0}
SaysOctets SettleStep = Unit {0}

none_unknown : (o : Option PeeringInput) (t : Members) → (said_attrs o t).unknown ≡ []
none_unknown None t = refl
none_unknown (Some p) t = refl

step_octets : (word : StepWord) (routers : List (List ℕ)) (ps : List PeeringInput) (t : Members)
    → (says_update (worded_step word routers ps t) ≡ true → Says (worded_step word routers ps t))
    → SaysOctets (script_step ps (worded_step word routers ps t))
step_octets Announces routers ps t says =
    let body = (says refl false).body in
    let o : Option PeeringInput = slice_get ps (peering_number ps t) in
    update_octets (is_wide_at ps (peering_number ps t))
    (step_update (Announce (record { 0 = peering_number ps t }) (said_prefixes t) (said_attrs o t))) body.withdrawn body.nlri
    (record { path = body.attrs.1.path; unknown = none_unknown o t })
step_octets Withdraws routers ps t says =
    let body = (says refl false).body in
    update_octets (is_wide_at ps (peering_number ps t))
    (step_update (Withdraw (record { 0 = peering_number ps t }) (said_prefixes t))) body.withdrawn body.nlri tt
step_octets SaysRaw routers ps t says = hex_octets (text_at (codes "hex") t)
step_octets Grafts routers ps t says = tt
step_octets Settles routers ps t says = tt
step_octets Evacuates routers ps t says = tt

-- ---- the whole

module _ (doc : Members) (tables : HasTables doc) (names : HasNames doc) where
  abbrev input : LabInput
  input = lab_of doc

  abbrev called : List (List ℕ)
  called = router_names_of doc

  abbrev remotes : List (List ℕ)
  remotes = peering_names_of doc

  abbrev IsRemote : PeeringInput → Type 0
  IsRemote p = (p.remote_as < 2 ^ 32) × (is_no_host p.remote_address ≡ false)

  are_remotes : AllByRecursion IsRemote (peerings_of doc)
  are_remotes = all_mapped (peering_input doc called) IsPeeringTable IsRemote
      (λ t is. (number_below 32 0 (codes "remote_as") t (omega arith), is.address)) (tables_at (codes "peering") doc) tables.peerings

  -- what a step of a known peering names is a remote
  remote_at : (t : Members) → unknown remotes (text_at (codes "peering") t) ≡ None
      → IsRemoteOf (slice_get (peerings_of doc) (peering_number (peerings_of doc) t))
  remote_at t none =
      let text = text_at (codes "peering") t in
      let as_many = length-map (peerings_of doc) (λ (q : PeeringInput). q.name) in
      let below : index_of_name remotes text < length remotes = index_below remotes text (known remotes text none) in
      let here : IsIn (peerings_of doc) (index_of_name remotes text) = below_get (peerings_of doc) (index_of_name remotes text) (omega arith) in
      subst IsRemoteOf (sym here.is) (all_at IsRemote (peerings_of doc) (index_of_name remotes text) here.x are_remotes here.is)

  remote_of_step : (word : StepWord) (t : Members) → worded_named word called remotes t ≡ None
      → says_update (worded_step word called (peerings_of doc) t) ≡ true
      → IsRemoteOf (slice_get (peerings_of doc) (peering_number (peerings_of doc) t))
  remote_of_step Announces t none says = remote_at t none
  remote_of_step Withdraws t none says = remote_at t none
  remote_of_step SaysRaw t none says = absurd (false≢true says)
  remote_of_step Grafts t none says = absurd (false≢true says)
  remote_of_step Settles t none says = absurd (false≢true says)
  remote_of_step Evacuates t none says = absurd (false≢true says)

  step_ranged : (t : Members) → step_named called remotes t ≡ None → SaysWell called (peerings_of doc) t
      → SaysOctets (script_step (peerings_of doc) (step_of called (peerings_of doc) t))
  step_ranged t none well = step_octets (word_at t) called (peerings_of doc) t (λ says. well (remote_of_step (word_at t) t none) says)

  steps_ranged : AllByRecursion SaysOctets (setup_of input).steps
  unfolding setup_of
  steps_ranged =
      let ts : List Members = tables_at (codes "step") doc in
      let of : Members → Step = step_of called (peerings_of doc) in
      let of_tables : AllByRecursion (λ t. SaysOctets (script_step (peerings_of doc) (of t))) ts =
      all_both (λ t. step_named called remotes t ≡ None) (SaysWell called (peerings_of doc))
      (λ t. SaysOctets (script_step (peerings_of doc) (of t))) step_ranged ts names.steps (tables.steps called (peerings_of doc)) in
      let of_steps : AllByRecursion (λ step. SaysOctets (script_step (peerings_of doc) step)) (map of ts) =
      all_mapped of (λ t. SaysOctets (script_step (peerings_of doc) (of t)))
      (λ step. SaysOctets (script_step (peerings_of doc) step)) (λ t is. is) ts of_tables in
      all_ended SaysOctets tt (map (script_step (peerings_of doc)) (map of ts))
      (all_mapped (script_step (peerings_of doc)) (λ step. SaysOctets (script_step (peerings_of doc) step)) SaysOctets (λ step is. is) (map of ts) of_steps)

  abbrev InModel : PeeringSetup → Type 0
  InModel peering = (peering.config.remote_as < 2 ^ 32) × AreOctets peering.opening

  peerings_in_model : AllByRecursion InModel (setup_of input).peerings
  unfolding setup_of
  peerings_in_model = all_numbered (peering_setup input) HasRange InModel (λ n x is. (is.remote_as, is.opening))
      (peerings_of doc) 0 (peerings_ranged doc called (tables_at (codes "peering") doc))

  routers_in_model : AllByRecursion (λ (router : RouterSetup). AllByRecursion HasMeds router.policies) (setup_of input).routers
  unfolding setup_of
  routers_in_model = all_numbered (router_setup input) (λ (r : RouterInput). AllByRecursion HasMeds (map named_rules r.policies))
      (λ (router : RouterSetup). AllByRecursion HasMeds router.policies)
      (λ n r is. is) (routers_of doc) 0 (routers_ranged (tables_at (codes "router") doc))

  policies_at_router : (r : ℕ) (o : Option RouterSetup) → slice_get (setup_of input).routers r ≡ o
      → AllByRecursion HasMeds (unwrap_or (option_map (λ (router : RouterSetup). router.policies) o) [])
  policies_at_router r None e = tt
  policies_at_router r (Some router) e = all_at (λ (x : RouterSetup). AllByRecursion HasMeds x.policies) (setup_of input).routers r router routers_in_model e

  meds : (r : ℕ) (name : List ℕ) (rules : List Rule) → rules_named (setup_of input) r name ≡ Some rules → AllByRecursion HasMedInRange rules
  meds r name rules e =
      let policies : List NamedRules = of_router (λ router. router.policies) [] (setup_of input) r in
      let made = made_of (λ (policy : NamedRules). policy.rules) (find (λ policy. bytes_eq name policy.name) policies) rules e in
      let all : AllByRecursion HasMeds policies = policies_at_router r (slice_get (setup_of input).routers r) refl in
      subst (AllByRecursion HasMedInRange) made.is (found_is HasMeds (λ policy. bytes_eq name policy.name) policies made.x all made.there)

  remote_ases : (p : ℕ) (config : SessionConfig) → config_in_model (setup_of input) p ≡ Some config → config.remote_as < 2 ^ 32
  remote_ases p config e =
      let made = made_of (λ (peering : PeeringSetup). peering.config) (slice_get (setup_of input).peerings p) config e in
      subst (λ (c : SessionConfig). c.remote_as < 2 ^ 32) made.is (all_at InModel (setup_of input).peerings p made.x peerings_in_model made.there).0

  home_ranged : (setup_of input).home_as < 2 ^ 32
  unfolding setup_of
  home_ranged = number_below 32 0 (codes "home_as") doc (omega arith)

  pub setup_in_range : IsInRange (setup_of (lab_of doc))
  setup_in_range = record {
    home_as = home_ranged;
    remote_as = remote_ases;
    openings = λ p peering e. (all_at InModel (setup_of input).peerings p peering peerings_in_model e).1;
    says = λ n p bytes e. all_at SaysOctets (setup_of input).steps n (SayStep p bytes) steps_ranged e;
    meds = meds;
  }

pub accepted_in_range : (bytes : List ℕ) (input : LabInput) → InputOf bytes input → IsInRange (setup_of input)
accepted_in_range bytes input e =
    let a = accepted bytes input e in
    subst (λ (i : LabInput). IsInRange (setup_of i)) a.is (setup_in_range a.doc (tables_kept a.doc a.no_flaw) (names_kept a.doc a.no_name))
