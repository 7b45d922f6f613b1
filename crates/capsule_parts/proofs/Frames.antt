-- What octets begin with, and whether they are a whole message.
use Rattle.std.proofs.Common.{◌≡◌, ℕ, false, List, [], Option, Some, None, sym, ◌∙◌}
use Rattle.std.specs.Prelude.{IsTrue, ◌↔◌}
use Rattle.bgp_types.specs.declared.fault.HeaderFault.{HeaderFault}
use Rattle.bgp_types.specs.Header.{frame_at, header_fault}
use Rattle.bgp_types.proofs.FrameLaws.{frame_is}
use Rattle.session_value.specs.Fronts.{BeginsNothing}
use Rattle.bgp_session.specs.Fronts.{BeginsSome}

pub begins_some : (octets : List ℕ) → BeginsSome octets → ¬ BeginsNothing octets
begins_some octets s nothing = nothing s.front s.rest s.is s.got

pub whole_err : (octets : List ℕ) (fault : HeaderFault) → header_fault octets ≡ Some fault → IsTrue false ↔ (frame_at octets ≡ Some (octets, []))
whole_err octets fault faulty = (
  λ e. absurd cc,
  λ whole.
      let sound = frame_is octets (octets, []) whole in
      let e : ◌≡◌ {A = Option HeaderFault} (Some fault) None = sym faulty ∙ sound.1 in
      absurd cc,
)
