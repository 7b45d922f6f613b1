use Rattle.std.proofs.Common.{take}
use Rattle.lab_setup.specs.Setups.{setup_of}
use Rattle.run_auditor.specs.Sound.{AuditorInvariant}
use Rattle.run_auditor.proofs.Replays.{Replayed}
use Rattle.run_auditor.proofs.audit.audit_journal.Given as goal

-- the entries so far are those of a run, to a world for which the auditor stands, with the clocks behind them
abbrev pub invariant-loop-event : goal.invariant-loop-event
invariant-loop-event l = AuditorInvariant l.auditor × Replayed (setup_of l.input) (take l.event l.journal) l.last l.auditor l.clocks
