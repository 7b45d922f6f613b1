-- The tables of an input: the first flaw of a document, and its value.
use Rattle.std.specs.Prelude.{ℕ, List, [], ◌∷◌, ◌++◌, map, Option, codes}
use Rattle.toml.specs.Data.{Members}
use Rattle.lab_keys.specs.declared.flaw.Flaw.{Flaw}
use Rattle.lab_keys.specs.declared.key.Kind.TheVariants.{Number, Address, Table}
use Rattle.lab_keys.specs.declared.table_at.TableAt.TheVariants.{Top}
use Rattle.lab_keys.specs.KeyRows.{KeyRow}
use Rattle.lab_keys.specs.Kinds.{first_of}
use Rattle.lab_keys.specs.Keys.{required, required_array, optional_array, keys_flaw, row_flaw, stray_flaw, names_of}
use Rattle.lab_keys.specs.Values.{number_or, tables_at, addresses_at, items_at}
use Rattle.lab_tables.specs.declared.input.LabInput.{LabInput}
use Rattle.lab_tables.specs.declared.input.PeeringInput.{PeeringInput}
use Rattle.lab_tables.specs.declared.input.RouterInput.{RouterInput}
use Rattle.lab_tables.specs.Routers.{router_flaw, router_of}
use Rattle.lab_tables.specs.Peerings.{cost_flaw, cost_of, peering_flaw, peering_input, fault_flaw, fault_of}
use Rattle.lab_tables.specs.Scripts.{step_flaw, step_of}
use Rattle.lab_tables.specs.Expects.{most_graft, expect_flaw, expectation_of}

-- ---- shapes and limits of all tables, in the order of the input

abbrev pub home_keys : List KeyRow
home_keys = required (codes "home_as") (Number 1 4294967295) ∷ []

abbrev pub trace_keys : List KeyRow
trace_keys = optional_array (codes "trace") 0 64 Address ∷ []

abbrev pub router_row : KeyRow
router_row = required_array (codes "router") 1 8 Table

abbrev pub cost_row : KeyRow
cost_row = optional_array (codes "cost") 0 56 Table

abbrev pub peering_row : KeyRow
peering_row = optional_array (codes "peering") 0 32 Table

abbrev pub fault_row : KeyRow
fault_row = optional_array (codes "fault") 0 1024 Table

abbrev pub step_row : KeyRow
step_row = optional_array (codes "step") 0 4096 Table

abbrev pub expect_row : KeyRow
expect_row = optional_array (codes "expect") 0 1024 Table

abbrev pub top_tables : List KeyRow
top_tables = router_row ∷ cost_row ∷ peering_row ∷ fault_row ∷ step_row ∷ expect_row ∷ []

abbrev pub top_keys : List KeyRow
top_keys = home_keys ++ trace_keys ++ top_tables

abbrev pub top_names : List (List ℕ)
top_names = names_of top_keys

abbrev pub shaped : Members → Option Flaw
shaped doc = first_of (
    keys_flaw Top home_keys doc
    ∷ stray_flaw Top top_names doc
    ∷ row_flaw Top router_row router_flaw doc
    ∷ row_flaw Top cost_row cost_flaw doc
    ∷ row_flaw Top peering_row (peering_flaw doc) doc
    ∷ row_flaw Top fault_row fault_flaw doc
    ∷ row_flaw Top step_row (step_flaw (items_at (codes "step") doc)) doc
    ∷ keys_flaw Top trace_keys doc
    ∷ row_flaw Top expect_row (expect_flaw (most_graft doc)) doc
    ∷ [])

-- ---- the value of a document, with defaults filled in, and names of routers and peerings resolved

abbrev pub routers_of : Members → List RouterInput
routers_of doc = map router_of (tables_at (codes "router") doc)

abbrev pub router_names_of : Members → List (List ℕ)
router_names_of doc = map (λ r. r.name) (routers_of doc)

abbrev pub peerings_of : Members → List PeeringInput
peerings_of doc = map (peering_input doc (router_names_of doc)) (tables_at (codes "peering") doc)

abbrev pub peering_names_of : Members → List (List ℕ)
peering_names_of doc = map (λ p. p.name) (peerings_of doc)

abbrev pub lab_of : Members → LabInput
lab_of doc = record {
  home_as = number_or 32 0 (codes "home_as") doc;
  routers = routers_of doc;
  costs = map (cost_of (router_names_of doc)) (tables_at (codes "cost") doc);
  peerings = peerings_of doc;
  faults = map (fault_of (peering_names_of doc)) (tables_at (codes "fault") doc);
  steps = map (step_of (router_names_of doc) (peerings_of doc)) (tables_at (codes "step") doc);
  trace = addresses_at (codes "trace") doc;
  expects = map (expectation_of (router_names_of doc) (peering_names_of doc)) (tables_at (codes "expect") doc);
}
