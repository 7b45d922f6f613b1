use Rattle.std.specs.Int.{w32, to_be_bytes}
use Rattle.std.specs.Net.Addr.{ipv4_bits}
use Rattle.bgp_types.proofs.TextLemmas.{IsAddressText-dotted, IsDotted-address}
use Rattle.bgp_types.proofs.text.read_address.Goals as goal

pub returns-in-Ok : goal.returns-in-Ok
unfolding ipv4_bits
returns-in-Ok c = IsAddressText-dotted c.args.text.now c.in-Ok.address.octets c.to_bits.result c.to_bits.type_inv c.to_bits.ensures c.in-Ok.ensures.value

pub returns-in-Err : goal.returns-in-Err
returns-in-Err c = λ address is. c.in-Err.ensures.value (record { octets = to_be_bytes w32 address }) (IsDotted-address c.args.text.now address is)
