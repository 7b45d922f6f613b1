use Rattle.bgp_types.proofs.PrintedTexts.{IsAddressText-printed}
use Rattle.bgp_types.proofs.laws.printed_address_reads.Goals as goal

pub returns : goal.returns
returns c = IsAddressText-printed
