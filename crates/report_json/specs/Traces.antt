-- Where packets go at the end of a run, as JSON.
use Rattle.std.specs.Prelude.{ℕ, ◌≡◌, List, [], ◌∷◌, ◌++◌, Option, Some, None, option_map, codes}
use Rattle.serde_json.specs.Data.{Data, string}
use Rattle.graft_edge.specs.declared.ids.PeeringId.{PeeringId}
use Rattle.graft_edge.specs.declared.ids.RouterId.{RouterId}
use Rattle.bgp_types.specs.Prefixes.{PrefixValue}
use Rattle.bgp_types.specs.Texts.{address_text, prefix_text}
use Rattle.forward_walk.specs.Tables.{ForwardMap}
use Rattle.forward_walk.specs.Walks.{WalksTo}
use Rattle.forward_walk.specs.declared.walk.Walk.{Walk}
use Rattle.forward_walk.specs.declared.walk.Walk.TheVariants.{Leaves, Local, NoRoute, Loop}
use Rattle.lab_tables.specs.declared.input.LabInput.{LabInput}
use Rattle.lab_tables.specs.declared.input.RouterInput.{RouterInput}
use Rattle.lab_report.specs.declared.lab.Lab.{Lab}
use Rattle.lab_report.specs.Report.{router_name, peering_name}
use Rattle.lab_report.specs.Traces.{forward_maps_of, numbered_routers}
use Rattle.report_json.specs.Run.{report_json}
use Rattle.report_json.specs.Values.{text_or_null, list_of, fields, json_line}

-- ---- how a walk ends

abbrev pub ends_word : Walk → List ℕ
ends_word (Leaves r p prefix) = codes "leaves"
ends_word (Local r prefix) = codes "local"
ends_word (NoRoute r) = codes "none"
ends_word (Loop r) = codes "loop"

-- the router at which it ends
abbrev pub end_router : Walk → RouterId
end_router (Leaves r p prefix) = r
end_router (Local r prefix) = r
end_router (NoRoute r) = r
end_router (Loop r) = r

-- the peering over which it leaves
abbrev pub leaves_over : Walk → Option PeeringId
leaves_over (Leaves r p prefix) = Some p
leaves_over (Local r prefix) = None
leaves_over (NoRoute r) = None
leaves_over (Loop r) = None

-- the prefix by which it leaves or is at home
abbrev pub ends_by : Walk → Option PrefixValue
ends_by (Leaves r p prefix) = Some prefix
ends_by (Local r prefix) = Some prefix
ends_by (NoRoute r) = None
ends_by (Loop r) = None

-- the walk to an address from the router of this name
abbrev pub trace_json : LabInput → (address : ℕ) → (name : List ℕ) → Walk → Data
trace_json input address name walk = fields
    ((codes "address", string (address_text address)) ∷ (codes "ends", string (ends_word walk)) ∷ (codes "from", string name)
    ∷ (codes "peering", text_or_null (option_map (λ p. peering_name input p.0) (leaves_over walk)))
    ∷ (codes "prefix", text_or_null (option_map prefix_text (ends_by walk)))
    ∷ (codes "router", string (router_name input (end_router walk).0)) ∷ [])

-- ---- the walks to all addresses

-- One for each router, in their order: the walk that begins there.
abbrev pub TracesFrom : LabInput → List ForwardMap → (address : ℕ) → List (ℕ × RouterInput) → List Data → Type 0
TracesFrom input maps address [] traces = traces ≡ []
TracesFrom input maps address (r ∷ routers) traces =
    (walk : Walk) × WalksTo maps address [] (record { 0 = r.0 }) walk
    × (rest : List Data) × (traces ≡ trace_json input address r.1.name walk ∷ rest) × TracesFrom input maps address routers rest

-- Such walks for each address, in their order.
abbrev pub Traces : LabInput → List ForwardMap → (addresses : List ℕ) → List Data → Type 0
Traces input maps [] traces = traces ≡ []
Traces input maps (address ∷ addresses) traces =
    (first : List Data) × TracesFrom input maps address (numbered_routers input) first
    × (rest : List Data) × (traces ≡ first ++ rest) × Traces input maps addresses rest

-- Values of which this holds stand behind those of before.
abbrev pub Appends : (List Data → Type 0) → (before after : List Data) → Type 0
Appends Is before after = (values : List Data) × Is values × (after ≡ before ++ values)

-- an array of values of which this holds
abbrev pub IsListOf : (List Data → Type 0) → Data → Type 0
IsListOf Is value = (values : List Data) × Is values × (value ≡ list_of values)

-- ---- the whole

-- The text is the report of a run as JSON, with the walks to the addresses of its input.
pub record IsReportJson (lab : Lab) (text : List ℕ) : Type 0 where
  pub traces : List Data
  pub traced : Traces lab.input (forward_maps_of lab) lab.input.trace traces
  pub is : text ≡ json_line (report_json lab (list_of traces))
