use Rattle.std.proofs.Common.{◌≡◌, ℕ, List, map, drop}
use Rattle.std.specs.Prelude.{Option, codes}
use Rattle.toml.specs.Data.{Data}
use Rattle.toml.specs.View.{view}
use Rattle.lab_keys.specs.declared.flaw.Flaw.{Flaw}
use Rattle.lab_keys.specs.declared.table_at.TableAt.TheVariants.{Top}
use Rattle.lab_keys.specs.Spots.{spot_of, member_of}
use Rattle.lab_keys.specs.Kinds.{each_from, table_flaw}
use Rattle.lab_tables.specs.Scripts.{step_flaw}
use Rattle.lab_tables.proofs.Groups.{IsGrouped}
use Rattle.lab_tables.proofs.scripts.items_flaw.Given as goal

abbrev pub step_at : List Data → ℕ → Data → Option Flaw
step_at xs i = table_flaw (member_of (spot_of Top (codes "step")) i) (step_flaw xs i)

abbrev pub invariant-loop-i : goal.invariant-loop-i
invariant-loop-i l = record {
  grouped : IsGrouped (map view l.steps) l.i l.before l.whole;
  walk : each_from (step_at (map view l.steps)) l.i (map view (drop l.i l.steps)) ≡ each_from (step_at (map view l.steps)) 0 (map view l.steps);
}
