use Rattle.std.proofs.Common.{◌≡◌, map, take}
use Rattle.lab_hints.proofs.stray.names_of.Given as goal

abbrev pub invariant-loop-key : goal.invariant-loop-key
invariant-loop-key l = map (λ name. name.now) l.names ≡ map (λ key. key.name) (take l.key-index l.keys)
