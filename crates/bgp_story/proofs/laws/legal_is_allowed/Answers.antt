use Rattle.std.proofs.Common.{refl}
use Rattle.bgp_story.proofs.Shapes.{allowed_of}
use Rattle.bgp_story.proofs.laws.legal_is_allowed.Goals as goal

pub returns : goal.returns
returns c = record {
  allowed = allowed_of;
  begins = λ p lines more state l. record { peering = p; remote = refl; rest = more; state = state; legal = allowed_of p _ state l };
}
