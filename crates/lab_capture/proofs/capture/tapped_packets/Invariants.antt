use Rattle.std.proofs.Common.{◌≡◌, take}
use Rattle.lab_setup.specs.Setups.{setup_of}
use Rattle.run_auditor.specs.Sound.{AuditorInvariant}
use Rattle.lab_capture.specs.Tapping.{AllShort, AreOfRun, StandsBehind}
use Rattle.lab_capture.proofs.capture.tapped_packets.Given as goal

-- the auditor stands behind the entries so far, and these packets were tapped at them
abbrev pub invariant-loop-index : goal.invariant-loop-index
invariant-loop-index l = record {
  setup : l.auditor.known.setup ≡ setup_of l.input;
  sound : AuditorInvariant l.auditor;
  stands : StandsBehind l.input (take l.index l.journal) l.auditor;
  tapped : AreOfRun l.input l.rounds (take l.index l.journal) l.packets.items;
  short : AllShort l.packets.items;
}
