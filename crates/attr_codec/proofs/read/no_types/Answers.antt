use Rattle.std.proofs.Common.{◌≡◌, false, refl}
use Rattle.std.proofs.lemmas.List.Elements.{All-replicate}
use Rattle.attr_codec.proofs.read.no_types.Goals as goal

pub returns-clause-none : goal.returns-clause-none
returns-clause-none c = All-replicate (λ there. there ≡ false) 256 false refl
