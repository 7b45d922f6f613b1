-- The octets of an attribute at the front of its field.
use Rattle.std.proofs.Common.{◌≡◌, ℕ, ◌-◌, List, length, take, Some, ap, ◌∙◌, arith, length-append}
use Rattle.std.proofs.lemmas.List.{take_at}
use Rattle.bgp_types.specs.OctetLists.{AreOctets}
use Rattle.bgp_types.specs.WireAttrs.{WireAttr, attr_at, attr_octets}
use Rattle.bgp_types.proofs.AttrLaws.{attr_takes}

pub front_is : (bytes : List ℕ) (a : WireAttr) (rest front : List ℕ) → AreOctets bytes → attr_at bytes ≡ Some (a, rest)
    → front ≡ take (length bytes - length rest) bytes → front ≡ attr_octets a
front_is bytes a rest front fits e f =
    let t = (attr_takes bytes (a, rest) fits e).parts in
    let n : length (attr_octets a) ≡ length bytes - length rest = rw t (omega (arith, length-append (attr_octets a) rest)) in
    f ∙ (ap (λ (y : List ℕ). take (length bytes - length rest) y) t ∙ take_at (attr_octets a) rest (length bytes - length rest) n)
