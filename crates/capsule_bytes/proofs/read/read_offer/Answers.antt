use Rattle.std.proofs.Common.{[], ◌∷◌, refl, arith, false}
use Rattle.std.specs.Int.{w8, is_in_range}
use Rattle.capsule_bytes.specs.Fields.{number}
use Rattle.capsule_bytes.specs.Capsules.{offer}
use Rattle.capsule_bytes.proofs.Checked.{within_range}
use Rattle.capsule_bytes.proofs.Readings.{field_behind, exit}
use Rattle.capsule_bytes.proofs.read.read_offer.Goals as goal

pub returns-in_err-octet : goal.returns-in_err-octet
returns-in_err-octet c =
    exit _ _ _ _ _ c.from_residual.ensures.1 (field_behind (λ o. number w8 (is_in_range 0 3) (offer o.0 o.1) ∷ []) [] (false, false) (number w8
    (is_in_range 0 3) 0) []
    refl _ _ refl _ (c.in_err-octet.ensures.stops 0))

pub offers_in-requires : goal.offers_in-requires
offers_in-requires c = omega (arith, (within_range 0 3 c.in_ok-octet.octet _ _ c.in_ok-octet.ensures.passed).1)
