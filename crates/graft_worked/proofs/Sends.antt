-- Where all is acknowledged nothing is sent but a segment without bytes.
use Rattle.std.proofs.Common.{◌≡◌, ◌≢◌, ℕ, suc, length, Option, None, refl, sym, ap, ◌∙◌, subst, inl, inr, arith}
use Rattle.tcp_seq.specs.Endpoint.{Endpoint, PlacedSegment}
use Rattle.session_value.specs.Sessions.{SessionValue}
use Rattle.graft_model.specs.Slices.{EmitsAt}
use Rattle.graft_model.specs.Parts.{Errand, Live, World}
use Rattle.graft_model.specs.declared.event.RouterEvent.TheVariants.{Emit}
use Rattle.graft_model.specs.declared.event.FarEvent.TheVariants.{Send}
use Rattle.graft_model.specs.Steps.{ByRouter, ByFar, Step}
use Rattle.graft_worked.specs.Base.{base}
use Rattle.graft_worked.specs.Graft.{session, home_end, remote_end, after_graft}

no_bytes : (e after : Endpoint) (from n : ℕ) (segment : PlacedSegment) → e.acked ≡ length e.stream → EmitsAt from (suc n) e segment after → ⊥
no_bytes e after from n segment all emits = elim emits.emits [
  | inl slice ↦ let a = slice.from in let b = slice.within in let c = emits.size in absurd (omega arith)
  | inr empty ↦ let a : length segment.bytes ≡ 0 = ap (λ (s : PlacedSegment). length s.bytes) empty.empty in let c = emits.size in absurd (omega arith)
]

at_the_next : (e after : Endpoint) (from len : ℕ) (segment : PlacedSegment) → e.acked ≡ length e.stream → EmitsAt from len e segment after → from ≡ e.emitted
at_the_next e after from len segment all emits = elim emits.emits [
  | inl slice ↦ let a = slice.from in let b = slice.within in let c = slice.some in absurd (omega arith)
  | inr empty ↦ sym emits.offset ∙ ap (λ (s : PlacedSegment). s.offset) empty.empty
]

home_acked : home_end.acked ≡ length home_end.stream
home_acked = refl

remote_acked : remote_end.acked ≡ length remote_end.stream
remote_acked = refl

pub same_session : (s t : SessionValue) (o u : Option Errand) → Live s o ≡ Live t u → s ≡ t
same_session s t o u e = cc

pub no_emit : (from n : ℕ) (after : World) → Step base (ByRouter 1 (Emit 0 from (suc n))) after_graft after → ⊥
no_emit from n after step =
    let same : session ≡ step.row.session = same_session session step.row.session None step.row.errand step.row.live.is in
    no_bytes session.end step.row.end from n step.row.segment home_acked
    (subst (λ (s : SessionValue). EmitsAt from (suc n) s.end step.row.segment step.row.end) (sym same) step.row.emits)

pub no_send : (from n : ℕ) (after : World) → Step base (ByFar 0 (Send from (suc n))) after_graft after → ⊥
no_send from n after step = no_bytes remote_end step.row.end from n step.row.segment remote_acked step.row.emits

pub no_send_elsewhere : (from len : ℕ) (after : World) → from ≢ 91 → Step base (ByFar 0 (Send from len)) after_graft after → ⊥
no_send_elsewhere from len after other step = other (at_the_next remote_end step.row.end from len step.row.segment remote_acked step.row.emits)
