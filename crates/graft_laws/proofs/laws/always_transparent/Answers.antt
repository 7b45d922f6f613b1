use Rattle.graft_laws.proofs.StreamLaws.{always_transparent_is}
use Rattle.graft_laws.proofs.laws.always_transparent.Goals as goal

pub returns : goal.returns
returns c setup events w p sound run below = always_transparent_is setup w p sound (record { events = events; run = run }) below
