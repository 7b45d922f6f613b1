-- A list of events leads from a world that is reached to one world.
use Rattle.std.proofs.Common.{◌≡◌, List, [], ◌∷◌, sym, ◌∙◌, subst}
use Rattle.graft_model.specs.Setups.{Setup, IsSetup}
use Rattle.graft_model.specs.Parts.{World}
use Rattle.graft_model.specs.Steps.{Event, Run}
use Rattle.graft_model.proofs.OneWorld.{one_step}
use Rattle.graft_laws.specs.Keeps.{Reached}
use Rattle.graft_laws.proofs.Runs.{reached_more, always_owned}
use Rattle.graft_laws.proofs.OneGraft.{at_one_place}

pub one_run : (setup : Setup) (events : List Event) (w u v : World) → IsSetup setup → Reached setup w → Run setup w events u → Run setup w events v → v ≡ u
one_run setup [] w u v ok reached x y = y ∙ sym x
one_run setup (event ∷ events) w u v ok reached (next, step, run) (other, another, more) =
    let same = one_step setup event w next other (λ r k. at_one_place setup w r k (always_owned setup ok w reached)) step another in
    one_run setup events next u v ok (reached_more setup event w next reached step) run (subst (λ (z : World). Run setup z events v) same more)
