-- What a fault does to its segment.
use Rattle.std.specs.Prelude.{ℕ}
use Rattle.link_bag.specs.declared.plan.Fault.{Fault}
use Rattle.link_bag.specs.declared.plan.FaultKind.{FaultKind}
use Rattle.link_bag.specs.declared.plan.FaultKind.TheVariants.{Lose, Repeat, Hold, Stray}
use Rattle.link_bag.specs.declared.plan.Fate.{Fate}
use Rattle.link_bag.specs.declared.plan.Fate.TheVariants as fate

abbrev pub fate_of_kind : FaultKind → ℕ → Fate
fate_of_kind Lose after = fate.Lose
fate_of_kind Repeat after = fate.Repeat after
fate_of_kind Hold after = fate.Hold after
fate_of_kind Stray after = fate.Stray after

abbrev pub fate_by : Fault → Fate
fate_by fault = fate_of_kind fault.kind fault.after
