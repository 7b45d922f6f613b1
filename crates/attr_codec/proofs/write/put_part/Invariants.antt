use Rattle.std.proofs.Common.{◌≡◌, ◌∷◌, ◌++◌, length, take}
use Rattle.std.specs.List.{flat_map}
use Rattle.attr_codec.specs.Writing.{as_octets}
use Rattle.attr_codec.proofs.write.put_part.Given as goal

abbrev pub invariant-loop-as_number : goal.invariant-loop-as_number
invariant-loop-as_number l = l.out ≡ l.fn.out ++ l.kind ∷ length l.ases ∷ flat_map (as_octets l.wide) (take l.as_number-index l.ases)
