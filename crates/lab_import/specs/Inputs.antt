-- The laboratory that a text of imported sessions stands for.
use Rattle.std.specs.Prelude.{ℕ, ◌≡◌, ◌+◌, ◌==◌, false, List, [], ◌∷◌, ◌++◌, codes, map, position, unwrap_or, None}
use Rattle.lab_tables.specs.declared.input.LabInput.{LabInput}
use Rattle.lab_tables.specs.declared.input.RouterInput.{RouterInput}
use Rattle.lab_tables.specs.declared.input.PeeringInput.{PeeringInput}
use Rattle.lab_tables.specs.declared.input.Step.{Step}
use Rattle.lab_tables.specs.declared.input.Step.TheVariants.{Raw, Settle}
use Rattle.lab_input.specs.Labs.{InputOf}
use Rattle.imported_sessions.specs.declared.imported.Said.{Said}
use Rattle.imported_sessions.specs.declared.imported.ImportedPeering.{ImportedPeering}
use Rattle.imported_sessions.specs.declared.imported.Imported.{Imported}
use Rattle.lab_import.specs.Texts.{first_id, peering_name, second_id, text_of}
use Rattle.lab_import.specs.Limits.{Fits}

-- a router with room for all sessions
abbrev pub router_of : (name : List ℕ) → (id : ℕ) → RouterInput
router_of name id = record {
  name = name;
  id = id;
  sessions = 32;
  by_bytes = false;
  networks = [];
  policies = [];
}

abbrev pub peering_of : ImportedPeering → PeeringInput
peering_of p = record {
  name = peering_name p.peer;
  at = record { 0 = 0 };
  remote_as = p.remote_as;
  remote_address = p.remote_address;
  local_address = p.local_address;
  remote_id = p.remote_id;
  «import» = None;
  export = None;
  home_seq = 1000;
  remote_seq = 5000;
  hold = p.hold;
  opening = p.opening;
  as4 = p.as4;
  remote_as4 = p.remote_as4;
  home_hold = p.home_hold;
  beats = false;
  unicast = p.unicast;
}

-- the number of a connection's peering
abbrev pub number_of : List ImportedPeering → (peer : ℕ) → ℕ
number_of peerings peer = unwrap_or (position (λ p. p.peer == peer) peerings) 0

abbrev pub step_of : List ImportedPeering → Said → Step
step_of peerings step = Raw (record { 0 = number_of peerings step.peer }) step.octets

-- two routers with room for all, the peerings at the first one, and the steps with a settle behind them
abbrev pub input_of_import : Imported → LabInput
input_of_import i = record {
  home_as = i.home_as;
  routers = router_of (codes "r1") (first_id i) ∷ router_of (codes "r2") (second_id i) ∷ [];
  costs = [];
  peerings = map peering_of i.peerings;
  faults = [];
  steps = map (step_of i.peerings) i.steps ++ Settle None 0 ∷ [];
  trace = [];
  expects = [];
}

-- ---- its parts

pub record HasEnds (p : PeeringInput) (q : ImportedPeering) : Type 0 where
  pub at : p.at.0 ≡ 0
  pub remote_as : p.remote_as ≡ q.remote_as
  pub remote_address : p.remote_address ≡ q.remote_address
  pub local_address : p.local_address ≡ q.local_address
  pub remote_id : p.remote_id ≡ q.remote_id

pub record HasDefaults (p : PeeringInput) : Type 0 where
  pub «import» : p.«import» ≡ None
  pub export : p.export ≡ None
  pub home_seq : p.home_seq ≡ 1000
  pub remote_seq : p.remote_seq ≡ 5000
  pub beats : p.beats ≡ false

pub record HasOpens (p : PeeringInput) (q : ImportedPeering) : Type 0 where
  pub hold : p.hold ≡ q.hold
  pub opening : p.opening ≡ q.opening
  pub as4 : p.as4 ≡ q.as4
  pub remote_as4 : p.remote_as4 ≡ q.remote_as4
  pub home_hold : p.home_hold ≡ q.home_hold
  pub unicast : p.unicast ≡ q.unicast

pub record HasNothingElse (lab : LabInput) : Type 0 where
  pub costs : lab.costs ≡ []
  pub faults : lab.faults ≡ []
  pub trace : lab.trace ≡ []
  pub expects : lab.expects ≡ []

-- ---- a text

-- This is the text of imported sessions that have room in an input, and it is read as just their laboratory.
pub record IsTextOf (i : Imported) (text : List ℕ) : Type 0 where
  pub fits : Fits i
  pub text_is : text ≡ text_of i
  pub reads : InputOf text (input_of_import i)
