-- Where packets go at the end of a run, as the report says it.
use Rattle.std.specs.Prelude.{ℕ, ◌≡◌, List, [], ◌∷◌, ◌++◌, map, take, codes}
use Rattle.std.specs.List.{enumerate_from}
use Rattle.std.specs.FinMap.{from_entries}
use Rattle.bgp_types.specs.Texts.{address_text, prefix_text}
use Rattle.forward_walk.specs.Tables.{ForwardMap}
use Rattle.forward_walk.specs.Walks.{WalksTo}
use Rattle.forward_walk.specs.declared.walk.Walk.{Walk}
use Rattle.forward_walk.specs.declared.walk.Walk.TheVariants.{Leaves, Local, NoRoute, Loop}
use Rattle.lab_tables.specs.declared.input.LabInput.{LabInput}
use Rattle.lab_tables.specs.declared.input.RouterInput.{RouterInput}
use Rattle.lab_report.specs.declared.lab.Lab.{Lab}
use Rattle.lab_report.specs.declared.lab.RouterTable.{RouterTable}
use Rattle.lab_report.specs.Report.{router_name, peering_name, line_end, report_text}

-- where a router's best route to each prefix comes from
abbrev pub forwards_of : RouterTable → ForwardMap
forwards_of t = from_entries (map (λ b. (b.prefix, b.from)) t.best)

-- the same of all routers of a lab
abbrev pub forward_maps_of : Lab → List ForwardMap
forward_maps_of lab = map forwards_of lab.tables

-- how a walk ends: the router at which it does, and the peering over which it leaves and the prefix by which it does
abbrev pub walk_words : LabInput → Walk → List ℕ
walk_words input (Leaves r p prefix) = codes "leaves " ++ router_name input r.0 ++ codes " " ++ peering_name input p.0 ++ codes " " ++ prefix_text prefix
walk_words input (Local r prefix) = codes "local " ++ router_name input r.0 ++ codes " " ++ prefix_text prefix
walk_words input (NoRoute r) = codes "none " ++ router_name input r.0
walk_words input (Loop r) = codes "loop " ++ router_name input r.0

abbrev pub trace_line : LabInput → (address : ℕ) → (name : List ℕ) → Walk → List ℕ
trace_line input address name walk = codes "trace " ++ address_text address ++ codes " from " ++ name ++ codes " " ++ walk_words input walk ++ line_end

-- A line for each router, in their order: the walk that begins there.
abbrev pub TracesFrom : LabInput → List ForwardMap → (address : ℕ) → List (ℕ × RouterInput) → List ℕ → Type 0
TracesFrom input maps address [] text = text ≡ []
TracesFrom input maps address (r ∷ routers) text =
    (walk : Walk) × WalksTo maps address [] (record { 0 = r.0 }) walk
    × (rest : List ℕ) × (text ≡ trace_line input address r.1.name walk ++ rest) × TracesFrom input maps address routers rest

-- The routers with their numbers. A number is one octet, so there are 256 of them at most.
abbrev pub numbered_routers : LabInput → List (ℕ × RouterInput)
numbered_routers input = enumerate_from 0 (take 256 input.routers)

-- Such lines for each address, in their order.
abbrev pub Traces : LabInput → List ForwardMap → (addresses : List ℕ) → List ℕ → Type 0
Traces input maps [] text = text ≡ []
Traces input maps (address ∷ addresses) text =
    (lines : List ℕ) × TracesFrom input maps address (numbered_routers input) lines
    × (rest : List ℕ) × (text ≡ lines ++ rest) × Traces input maps addresses rest

-- Lines of which this holds stand behind the text of before.
abbrev pub Appends : (List ℕ → Type 0) → (before after : List ℕ) → Type 0
Appends Is before after = (lines : List ℕ) × Is lines × (after ≡ before ++ lines)

-- The report of a run: how it ended, its routers, peerings and grafts, and where packets go to the addresses of its input.
pub record IsReport (lab : Lab) (text : List ℕ) : Type 0 where
  pub traces : List ℕ
  pub traced : Traces lab.input (forward_maps_of lab) lab.input.trace traces
  pub is : text ≡ report_text lab ++ traces
