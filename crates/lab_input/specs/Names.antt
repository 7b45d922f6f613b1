-- The names of an input: which are repeated, and which are unknown.
use Rattle.std.specs.Prelude.{ℕ, ◌==◌, Bool, ◌&&◌, List, [], ◌∷◌, ◌++◌, map, Option, Some, None, codes, if◌then◌else◌}
use Rattle.std.specs.List.{list_any, find}
use Rattle.std.specs.Option.{option_or, option_map_or}
use Rattle.std.specs.Str.{bytes_eq}
use Rattle.toml.specs.Data.{Members}
use Rattle.bgp_types.specs.Prefixes.{PrefixValue, same_prefix}
use Rattle.bgp_types.specs.Texts.{address_text, prefix_text}
use Rattle.lab_keys.specs.Kinds.{first_of}
use Rattle.lab_keys.specs.Values.{text_at, maybe_text, address_or, tables_at}
use Rattle.lab_input.specs.declared.bad.BadInput.{BadInput}
use Rattle.lab_input.specs.declared.bad.BadInput.TheVariants.{Unknown, Repeated}
use Rattle.lab_tables.specs.declared.input.RouterInput.{RouterInput}
use Rattle.lab_tables.specs.declared.input.PolicyInput.{PolicyInput}
use Rattle.lab_tables.specs.declared.input.CostInput.{CostInput}
use Rattle.link_bag.specs.declared.plan.Fault.{Fault}
use Rattle.link_bag.specs.Planned.{is_fault_for}
use Rattle.lab_tables.specs.Documents.{routers_of, router_names_of, peering_names_of}
use Rattle.lab_tables.specs.Peerings.{cost_of, fault_of}
use Rattle.lab_keys.specs.declared.words.StepWord.{StepWord}
use Rattle.lab_keys.specs.declared.words.StepWord.TheVariants.{Grafts, Settles, Evacuates}
use Rattle.lab_tables.specs.Meanings.{word_at}
use Rattle.lab_keys.specs.Reported.{first_word, further_words}

-- the first fault in a list, each member checked against those before it
abbrev pub each_after : {A : Type 0} → (List A → A → Option BadInput) → List A → List A → Option BadInput
each_after bad before [] = None
each_after bad before (x ∷ xs) = option_or (bad before x) (each_after bad (before ++ x ∷ []) xs)

abbrev pub repeated_if : Bool → List ℕ → Option BadInput
repeated_if again text = if again then Some (Repeated text) else None

abbrev pub unknown : List (List ℕ) → List ℕ → Option BadInput
unknown names text = if list_any (bytes_eq text) names then None else Some (Unknown text)

abbrev pub unknown_at : List (List ℕ) → Option (List ℕ) → Option BadInput
unknown_at names None = None
unknown_at names (Some text) = unknown names text

-- ---- routers

abbrev pub network_again : List PrefixValue → PrefixValue → Option BadInput
network_again before p = repeated_if (list_any (λ q. same_prefix q p) before) (prefix_text p)

abbrev pub policy_again : List PolicyInput → PolicyInput → Option BadInput
policy_again before p = repeated_if (list_any (λ q. bytes_eq q.name p.name) before) p.name

abbrev pub router_again : List RouterInput → RouterInput → Option BadInput
router_again before r = first_of (
    repeated_if (list_any (λ q. bytes_eq q.name r.name) before) r.name
    ∷ repeated_if (list_any (λ q. q.id == r.id) before) (address_text r.id)
    ∷ each_after network_again [] r.networks
    ∷ each_after policy_again [] r.policies
    ∷ [])

-- ---- costs

-- two costs have the same two ends
abbrev pub same_ends : CostInput → CostInput → Bool
same_ends c d = (c.from.0 == d.from.0) && (c.to.0 == d.to.0)

abbrev pub cost_named : List (List ℕ) → List Members → Members → Option BadInput
cost_named routers before t = first_of (
    unknown routers (text_at (codes "from") t)
    ∷ unknown routers (text_at (codes "to") t)
    ∷ repeated_if (list_any (λ u. same_ends (cost_of routers u) (cost_of routers t)) before) (text_at (codes "to") t)
    ∷ [])

-- ---- peerings

abbrev pub remote_address_of : Members → ℕ
remote_address_of t = address_or 0 (codes "remote_address") t

-- the names of the policies of the router of this name
abbrev pub policies_at : List RouterInput → List ℕ → List (List ℕ)
policies_at routers name = option_map_or (λ r. map (λ p. p.name) r.policies) (find (λ r. bytes_eq name r.name) routers) []

-- given whether earlier peerings have its name and its remote's address
abbrev pub peering_fault : List RouterInput → (again_name again_remote : Bool) → Members → Option BadInput
peering_fault routers again_name again_remote t =
    let policies = policies_at routers (text_at (codes "at") t) in
    first_of (
    repeated_if again_name (text_at (codes "name") t)
    ∷ unknown (map (λ r. r.name) routers) (text_at (codes "at") t)
    ∷ repeated_if again_remote (address_text (remote_address_of t))
    ∷ unknown_at policies (maybe_text (codes "import") t)
    ∷ unknown_at policies (maybe_text (codes "export") t)
    ∷ [])

abbrev pub peering_named : List RouterInput → List Members → Members → Option BadInput
peering_named routers before t =
    peering_fault routers
    (list_any (λ u. bytes_eq (text_at (codes "name") u) (text_at (codes "name") t)) before)
    (list_any (λ u. remote_address_of u == remote_address_of t) before)
    t

-- ---- faults

-- two faults are of the same segment
abbrev pub same_segment : Fault → Fault → Bool
same_segment fault other = is_fault_for other.peering other.way other.segment fault

abbrev pub fault_named : List (List ℕ) → List Members → Members → Option BadInput
fault_named peerings before t = first_of (
    unknown peerings (text_at (codes "peering") t)
    ∷ repeated_if (list_any (λ u. same_segment (fault_of peerings u) (fault_of peerings t)) before) (text_at (codes "peering") t)
    ∷ [])

-- ---- steps

abbrev pub worded_named : StepWord → (routers peerings : List (List ℕ)) → Members → Option BadInput
worded_named Settles routers peerings t = None
worded_named Evacuates routers peerings t = unknown routers (text_at (codes "router") t)
worded_named Grafts routers peerings t = first_of (unknown peerings (text_at (codes "peering") t) ∷ unknown routers (text_at (codes "to") t) ∷ [])
worded_named _ routers peerings t = unknown peerings (text_at (codes "peering") t)

abbrev pub step_named : (routers peerings : List (List ℕ)) → Members → Option BadInput
step_named routers peerings t = worded_named (word_at t) routers peerings t

-- ---- expectations

-- the peering or the router from which a best route is to come
abbrev pub source_named : (routers peerings : List (List ℕ)) → List ℕ → Option BadInput
source_named routers peerings text =
    if bytes_eq (first_word text) (codes "peering") then unknown peerings (further_words text)
    else if bytes_eq (first_word text) (codes "router") then unknown routers (further_words text)
    else None

abbrev pub expect_named : (routers peerings : List (List ℕ)) → Members → Option BadInput
expect_named routers peerings t = first_of (
    unknown_at peerings (maybe_text (codes "peering") t)
    ∷ unknown_at routers (maybe_text (codes "at") t)
    ∷ unknown_at routers (maybe_text (codes "router") t)
    ∷ source_named routers peerings (text_at (codes "best") t)
    ∷ [])

-- ---- the whole

abbrev pub named : Members → Option BadInput
named doc =
    let routers = routers_of doc in
    let names = router_names_of doc in
    let peerings = peering_names_of doc in
    first_of (
    each_after router_again [] routers
    ∷ each_after (cost_named names) [] (tables_at (codes "cost") doc)
    ∷ each_after (peering_named routers) [] (tables_at (codes "peering") doc)
    ∷ each_after (fault_named peerings) [] (tables_at (codes "fault") doc)
    ∷ first_of (map (step_named names peerings) (tables_at (codes "step") doc))
    ∷ first_of (map (expect_named names peerings) (tables_at (codes "expect") doc))
    ∷ [])
