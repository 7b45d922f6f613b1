use Rattle.std.proofs.Common.{sym, subst}
use Rattle.std.specs.List.Sorted.{IsStrictlySortedBy}
use Rattle.decision_groups.specs.Groups.{AreNumbered}
use Rattle.decision_groups.proofs.groups.Groups.new.Goals as goal

pub invariant_of-result : goal.invariant_of-result
unfolding IsStrictlySortedBy
invariant_of-result c = subst AreNumbered (sym c.new.ensures.items) tt
