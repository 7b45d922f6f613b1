use Rattle.bgp_types.proofs.PrintedTexts.{IsPrefixText-printed}
use Rattle.bgp_types.proofs.laws.printed_prefix_reads.Goals as goal

pub returns : goal.returns
returns c = IsPrefixText-printed
