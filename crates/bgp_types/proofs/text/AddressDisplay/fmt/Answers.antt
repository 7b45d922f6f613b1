use Rattle.std.proofs.Common.{◌≡◌, refl, subst}
use Rattle.std.specs.Fmt.{HasWritten}
use Rattle.std.specs.Net.Addr.{IsIpv4OfBits}
use Rattle.std.specs.Net.Text.{ipv4_text}
use Rattle.bgp_types.specs.Texts.{address_text}
use Rattle.bgp_types.proofs.text.AddressDisplay.fmt.Goals as goal

pub returns-clause-writes : goal.returns-clause-writes
unfolding IsIpv4OfBits
returns-clause-writes g c = λ plain ok.
    let written : ipv4_text c.from_bits-address.result.octets ≡ address_text c.args.self.now.0 = rw (c.from_bits-address.ensures) refl in
    subst (λ bs. HasWritten {W = g.row.W.Denot} g.W.Write.write_str_gives c.args.f.now bs c.write.new.self) written (c.write.ensures.writes plain ok)
