-- What whole calls of the operator promise, beside their events.
use Rattle.std.specs.Prelude.{List}
use Rattle.std.specs.List.{AllByRecursion}
use Rattle.ring_net.specs.Deeds.{Deed}
use Rattle.graft_steps.specs.declared.item.Item.{Item}
use Rattle.graft_actors.specs.Laws.{IsGo}

-- none of these events begins a group
abbrev pub BeginNoGroup : {C : Type 0} → List (Deed (Item C)) → Type 0
BeginNoGroup deeds = AllByRecursion (λ d. IsGo d.entry → ⊥) deeds
