use Rattle.std.proofs.Common.{[], ◌∷◌, refl}
use Rattle.std.specs.Int.{w8, w16, w32, is_in_range}
use Rattle.capsule_bytes.specs.Fields.{any_number, number}
use Rattle.capsule_bytes.specs.Capsules.{offer}
use Rattle.capsule_bytes.proofs.Written.{written}
use Rattle.capsule_bytes.proofs.write.push_config.Goals as goal

pub returns : goal.returns
returns c =
    let p = c.args.parts.now in
    written ((any_number w8 p.peering.0 ∷ []) ∷ (any_number w32 p.remote_as ∷ []) ∷ (any_number w32 p.home_as ∷ []) ∷ (any_number w32 p.identifier ∷ [])
    ∷ (any_number w32 p.remote_address ∷ []) ∷ (any_number w32 p.local_address ∷ []) ∷ (any_number w16 p.home_hold ∷ []) ∷ [])
    (number w8 (is_in_range 0 3) (offer p.offered p.unicast) ∷ []) _ _ _ (
      _,
      c.in_ok-push_u8.ensures,
      (
        _,
        c.in_ok-push_u32.ensures,
        (
          _,
          c.in_ok-push_u32-2.ensures,
          (
            _,
            c.in_ok-push_u32-3.ensures,
            (_, c.in_ok-push_u32-4.ensures, (_, c.in_ok-push_u32-5.ensures, (_, c.in_ok-push_u16.ensures, refl))),
          ),
        ),
      ),
    ) (rw c.offer.ensures at
    c.in_ok-push_u8-2.ensures)
