-- The entries of what was done, one after another.
use Rattle.std.proofs.Common.{List, [], ◌∷◌, ◌++◌}
use Rattle.ring_net.specs.Deeds.{Deed}
use Rattle.graft_model.specs.declared.code.Code.{Code}
use Rattle.graft_actors.specs.Makes.{AreDeeds}

pub are_deeds-append : {E I : Type 0} (code : E → Code) (es fs : List E) (ds gs : List (Deed I)) → AreDeeds code es ds → AreDeeds code fs gs
    → AreDeeds code (es ++ fs) (ds ++ gs)
are_deeds-append code [] fs [] gs h k = k
are_deeds-append code [] fs (d ∷ ds) gs h k = absurd h
are_deeds-append code (e ∷ es) fs [] gs h k = absurd h
are_deeds-append code (e ∷ es) fs (d ∷ ds) gs h k = (h.0, are_deeds-append code es fs ds gs h.1 k)
