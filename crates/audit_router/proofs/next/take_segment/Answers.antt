use Rattle.std.proofs.Common.{◌∙◌, List, ap, sym}
use Rattle.std.specs.Prelude.{slice_get}
use Rattle.audit_ruling.specs.Rulings.{Parcel}
use Rattle.audit_router.specs.Nexts.{is_segment}
use Rattle.audit_router.proofs.next.take_segment.Goals as goal

pub returns-in_err-segment-clause-none : goal.returns-in_err-segment-clause-none
returns-in_err-segment-clause-none c = rw c.from_residual.ensures (
  ap (λ (xs : List Parcel). is_segment (slice_get xs 0)) c.in_err-segment.ensures.none.0,
  c.in_err-segment.ensures.none.1 ∙ sym c.in_err-segment.ensures.none.0,
)
