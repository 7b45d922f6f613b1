-- A quiet world solves the decision equations.
use Rattle.graft_model.specs.Claims.{Solves}
use Rattle.graft_model.specs.Parts.{World}
use Rattle.graft_model.specs.Quiet.{Quiet}
use Rattle.graft_model.specs.Setups.{Setup, IsSetup}
use Rattle.graft_laws.specs.Keeps.{Has, Reached}
use Rattle.graft_laws.specs.Tables.{IsWhole}
use Rattle.graft_laws.proofs.Solves.{solves}
use Rattle.graft_laws.proofs.TableLaws.{always_decided, always_informed, always_answered, always_whole}

pub quiet_solves_is : (setup : Setup) (w : World) → IsSetup setup → Reached setup w → Quiet setup w → Solves setup w
quiet_solves_is setup w sound reached quiet =
    solves setup sound w reached quiet
    (λ p below. let h : Has setup (IsWhole setup) w p = always_whole setup w p sound reached below in
    record { phase = h.phase; session = h.session; stands = h.stands; more = h.more.entered })
    (λ r known. always_decided setup w reached r)
    (always_informed setup w reached)
    (λ r known. always_answered setup w sound reached r)
