use Rattle.std.proofs.Common.{rules}
use Rattle.capsule_bytes.proofs.Names.{name_text}
use Rattle.capsule_bytes.proofs.name.name_in.Goals as goal

pub returns : goal.returns
returns c = rw c.ok.ensures.value (name_text c.args.octets.now (λ t. t.now) _ c.from_utf8.result c.from_utf8.ensures.cases (search rules))
