use Rattle.std.proofs.Common.{◌≡◌, rules, arith, Some}
use Rattle.bgp_types.specs.WireAttrs.{attr_at}
use Rattle.attr_codec.specs.Pieces.{wire_of}
use Rattle.attr_codec.proofs.PieceLaws.{front_is}
use Rattle.attr_codec.proofs.piece.piece_at.Goals as goal

pub returns-clause-octets : goal.returns-clause-octets
returns-clause-octets c =
    let f = c.in_ok-flags in
    let e : attr_at c.args.bytes.now ≡ Some (wire_of f.flags f.kind f.value.now, f.after.now) = search rules in
    front_is c.args.bytes.now (wire_of f.flags f.kind f.value.now) f.after.now c.octets_before-octets.result.now
    (λ i. omega (arith, c.type_inv.bytes i)) e c.octets_before-octets.ensures
