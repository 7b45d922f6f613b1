use Rattle.std.proofs.Common.{refl}
use Rattle.bgp_story.proofs.Ends.{cause_of}
use Rattle.bgp_story.proofs.laws.notifications_have_causes.Goals as goal

pub returns : goal.returns
returns c = λ p lines more n state l. cause_of p _ state l n lines more refl
