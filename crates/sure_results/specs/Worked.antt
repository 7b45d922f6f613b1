-- A worked laboratory that is sure: two routers, and a peering that starts at the first one. Its remote announces a prefix. Once all is settled the script
-- moves its session to the second router, twice, and then back to the first.
use Rattle.std.specs.Prelude.{ℕ, List, [], ◌∷◌, Option}
use Rattle.graft_model.specs.Setups.{Setup, PeeringSetup, ScriptGraft, SayStep, MoveStep, SettleStep}
use Rattle.even_inputs.specs.Worked.{router, peering, with_med}

-- a session that names this export policy
abbrev pub exporting : Option (List ℕ) → PeeringSetup
exporting name = record (peering 0) { config = record (peering 0).config { export = name } }

abbrev pub moving_laboratory : Option (List ℕ) → Setup
moving_laboratory name = record {
  home_as = 65000;
  routers = router 0x0AFF0001 [] ∷ router 0x0AFF0002 [] ∷ [];
  peerings = exporting name ∷ [];
  steps = SayStep 0 (with_med 0) ∷ SettleStep ∷ MoveStep 0 1 ∷ MoveStep 0 1 ∷ MoveStep 0 0 ∷ SettleStep ∷ [];
}

-- the grafts of the script
abbrev pub graft : (number : ℕ) → (step : ℕ) → ScriptGraft
graft number step = record { graft = number; peering = 0; step = step }
