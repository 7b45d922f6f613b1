-- Where routes are even, each has the MED of the first one to its prefix from its neighbour AS.
use Rattle.std.proofs.Common.{◌≡◌, List, true}
use Rattle.std.specs.Prelude.{◌==◌}
use Rattle.std.specs.List.{AllByRecursion}
use Rattle.std.proofs.lemmas.Bool.{eqb-true}
use Rattle.graft_laws.proofs.Lists.{all_map}
use Rattle.even_inputs.specs.Evenness.{Med, first_med, are_even}
use Rattle.even_inputs.proofs.Lists.{all_true}

abbrev pub IsFirst : List Med → Med → Type 0
IsFirst meds m = m.med ≡ first_med meds m.prefix m.neighbour

pub each_first : (meds : List Med) → are_even meds ≡ true → AllByRecursion (IsFirst meds) meds
each_first meds even = all_map (λ (m : Med). (m.med == first_med meds m.prefix m.neighbour) ≡ true) (IsFirst meds) meds
    (λ m e. eqb-true m.med (first_med meds m.prefix m.neighbour) e) (all_true _ meds even)
