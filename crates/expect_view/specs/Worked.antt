-- A worked run of two routers that met the limit of events: the session of c1 has moved from the first router to the second, and that of c2 is on its way
-- there.
use Rattle.std.specs.Prelude.{ℕ, ◌+◌, List, [], ◌∷◌, ◌++◌, Some, None, false, codes}
use Rattle.bgp_types.specs.declared.attrs.Attrs.{Attrs}
use Rattle.bgp_types.specs.declared.attrs.Origin.TheVariants.{Igp}
use Rattle.bgp_types.specs.declared.message.SessionState.TheVariants.{Established, Closed}
use Rattle.bgp_types.specs.declared.path.PathPart.TheVariants.{Sequence}
use Rattle.bgp_types.specs.declared.rank.From.TheVariants.{Own, Peering as FromPeering, Router}
use Rattle.bgp_types.specs.Prefixes.{PrefixValue}
use Rattle.bgp_story.specs.WorkedSessions.{joined_lines}
use Rattle.graft_steps.specs.declared.log.GraftEntry.{GraftEntry}
use Rattle.graft_steps.specs.declared.log.GraftStage.{GraftStage}
use Rattle.graft_steps.specs.declared.log.GraftStage.TheVariants.{Issued, Ended}
use Rattle.graft_steps.specs.declared.refusal.Outcome.TheVariants.{Accepted}
use Rattle.lab_tables.specs.declared.expectation.ExpectedValue.{ExpectedValue}
use Rattle.lab_tables.specs.declared.expectation.ExpectedValue.TheVariants.{Outcome, At, State, Heard, Told, Best}
use Rattle.lab_tables.specs.declared.input.LabInput.{LabInput}
use Rattle.lab_tables.specs.declared.input.PeeringInput.{PeeringInput}
use Rattle.lab_tables.specs.declared.input.RouterInput.{RouterInput}
use Rattle.lab_report.specs.declared.lab.Lab.{Lab}
use Rattle.lab_report.specs.declared.lab.Place.TheVariants.{Held, Moving}
use Rattle.lab_report.specs.declared.lab.RunEnd.TheVariants.{JournalFull}
use Rattle.lab_report.specs.declared.lab.SessionView.{SessionView}

abbrev worked_router : List ℕ → (id : ℕ) → RouterInput
worked_router name id = record { name = name; id = id; sessions = 2; by_bytes = false; networks = []; policies = [] }

abbrev worked_peering : List ℕ → (remote_as address : ℕ) → PeeringInput
worked_peering name remote_as address = record {
  name = name;
  at = record { 0 = 0 };
  remote_as = remote_as;
  remote_address = address;
  local_address = address + 1;
  remote_id = address;
  «import» = None;
  export = None;
  home_seq = 0;
  remote_seq = 0;
  hold = 180;
  opening = [];
  as4 = false;
  remote_as4 = false;
  home_hold = 90;
  beats = false;
  unicast = false;
}

-- 10.0.0.0/8, to which both routers have a route, and 10.1.0.0/16, to which none has
abbrev eight : PrefixValue
eight = record { len = 8; address = 0x0A000000 }

abbrev sixteen : PrefixValue
sixteen = record { len = 16; address = 0x0A010000 }

-- What holds: how the first graft ended; all of c1; where the first router's route comes from, and that there is none to the other prefix. What
-- doesn't: the second graft hasn't ended, and nothing is known of a third one; a session that is on its way isn't at a router; the keys of c2, of
-- which the first one that differs is named; and the second router's route is from c1.
abbrev worked_expects : List (List ExpectedValue)
worked_expects =
    (Outcome 1 (codes "accepted") ∷ [])
    ∷ (At (record { 0 = 0 }) (record { 0 = 1 }) ∷ State (record { 0 = 0 }) Established ∷ Heard (record { 0 = 0 }) 1 ∷ Told (record { 0 = 0 }) 0 ∷ [])
    ∷ (Best (record { 0 = 0 }) eight (Some (Router (record { 0 = 1 }))) ∷ [])
    ∷ (Best (record { 0 = 0 }) sixteen None ∷ [])
    ∷ (Outcome 2 (codes "refused RouterFull(1)") ∷ [])
    ∷ (Outcome 3 (codes "accepted") ∷ [])
    ∷ (At (record { 0 = 1 }) (record { 0 = 0 }) ∷ State (record { 0 = 1 }) Closed ∷ [])
    ∷ (State (record { 0 = 1 }) Closed ∷ [])
    ∷ (Heard (record { 0 = 1 }) 1 ∷ Told (record { 0 = 1 }) 0 ∷ [])
    ∷ (Heard (record { 0 = 1 }) 0 ∷ Told (record { 0 = 1 }) 0 ∷ [])
    ∷ (Best (record { 0 = 1 }) eight (Some Own) ∷ [])
    ∷ (Best (record { 0 = 1 }) eight None ∷ [])
    ∷ []

abbrev worked_input : LabInput
worked_input = record {
  home_as = 65000;
  routers = worked_router (codes "a") 0x0AFF0001 ∷ worked_router (codes "b") 0x0AFF0002 ∷ [];
  costs = [];
  peerings = worked_peering (codes "c1") 65001 0xC0000201 ∷ worked_peering (codes "c2") 65002 0xC0000205 ∷ [];
  faults = [];
  steps = [];
  trace = [];
  expects = worked_expects;
}

abbrev worked_graft : (graft peering : ℕ) → GraftStage → GraftEntry
worked_graft graft peering stage =
    record { graft = graft; peering = record { 0 = peering }; source = Some (record { 0 = 0 }); target = record { 0 = 1 }; stage = stage }

abbrev worked_view : (heard told : ℕ) → SessionView
worked_view heard told = record { story = record { lines = joined_lines 90; remote_as = 65001 }; heard = heard; told = told }

abbrev worked_attrs : Attrs
worked_attrs = record {
  origin = Igp;
  path = Sequence (65001 ∷ []) ∷ [];
  next_hop = 0xC0000201;
  med = None;
  atomic = false;
  aggregator = None;
  unknown = [];
}

abbrev pub worked_lab : Lab
worked_lab = record {
  input = worked_input;
  end = JournalFull 4194304;
  log = worked_graft 1 0 (Ended Accepted) ∷ worked_graft 2 1 Issued ∷ [];
  placement = Held (record { 0 = 1 }) ∷ Moving ∷ [];
  sessions = worked_view 1 0 ∷ worked_view 0 1 ∷ [];
  far = [];
  tables =
      record { best = record { prefix = eight; from = Router (record { 0 = 1 }); route = record { attrs = worked_attrs; pref = 100 } } ∷ []; heard = [] }
      ∷ record { best = record { prefix = eight; from = FromPeering (record { 0 = 0 }); route = record { attrs = worked_attrs; pref = 100 } } ∷ []; heard = [] }
      ∷ [];
  journal = [];
  marks = [];
  rounds = [];
}

abbrev pub worked_text : List ℕ
worked_text = codes "ok 1\n"
    ++ codes "ok 2\n"
    ++ codes "ok 3\n"
    ++ codes "ok 4\n"
    ++ codes "failed 5 wanted outcome refused RouterFull(1) got open\n"
    ++ codes "failed 6 wanted outcome accepted got none\n"
    ++ codes "failed 7 wanted at a got moving\n"
    ++ codes "failed 8 wanted state Closed got Established\n"
    ++ codes "failed 9 wanted heard 1 got 0\n"
    ++ codes "failed 10 wanted told 0 got 1\n"
    ++ codes "failed 11 wanted best own got peering c1\n"
    ++ codes "failed 12 wanted best none got peering c1\n"
    ++ codes "expectations 12 failed 8\n"
