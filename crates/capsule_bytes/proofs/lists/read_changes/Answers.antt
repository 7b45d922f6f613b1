use Rattle.std.proofs.Common.{◌≡◌, ◌∙◌, ◌-◌, length, refl, ap, subst, arith}
use Rattle.std.specs.Prelude.{None, option_copied}
use Rattle.std.specs.Int.{w32}
use Rattle.std.specs.List.{last_or, slice_get}
use Rattle.capsule_bytes.specs.Stops.{Passes, Stops}
use Rattle.std.proofs.lemmas.List.{length_push}
use Rattle.capsule_bytes.specs.Fields.{any_number, counted}
use Rattle.capsule_bytes.specs.Capsules.{change_fields}
use Rattle.capsule_bytes.proofs.Readings.{Passes-none, exit}
use Rattle.capsule_bytes.proofs.MemberLists.{last_is, Passes-push, Passes-counted, count_stops, member_stops}
use Rattle.capsule_bytes.proofs.lists.read_changes.Goals as goal

pub returns-in_err-count : goal.returns-in_err-count
returns-in_err-count c = exit (counted change_fields) _ _ _ _ c.from_residual.ensures.1 (count_stops change_fields _ _ (c.in_err-count.ensures.stops
    (any_number w32 0) refl))

pub loop-init : goal.loop-init
loop-init c = rw c.new-changes.ensures (refl, Passes-none _)

pub returns-in_err-change : goal.returns-in_err-change
returns-in_err-change c =
    let before : option_copied c.last.result ≡ last_or None c.loop.changes =
    c.last.ensures.value ∙ ap (λ xs. slice_get xs (length xs - 1)) c.deref.ensures ∙ last_is c.loop.changes in
    exit (counted change_fields) _ _ _ _ c.from_residual-in_err-change.ensures.1 (member_stops change_fields c.in_ok-count.count c.loop.changes _ _ _
    (omega (arith, c.loop.invariant.0))
    c.in_ok-count.ensures.passed c.loop.invariant.1 _
    (subst (λ b. Stops (change_fields b) c.loop.cursor c.in_err-change.field-0.0) before c.in_err-change.ensures))

pub loop-preserved : goal.loop-preserved
loop-preserved c =
    let before : option_copied c.last.result ≡ last_or None c.loop.changes =
    c.last.ensures.value ∙ ap (λ xs. slice_get xs (length xs - 1)) c.deref.ensures ∙ last_is c.loop.changes in
    rw c.in_ok-push.ensures.ok (
      omega (
        arith,
        length_push c.loop.changes
            c.in_ok-change.change,
        c.loop.invariant.0,
      ),
      Passes-push change_fields c.loop.changes c.in_ok-change.change _ _ _ c.loop.invariant.1
          (subst (λ b. Passes (change_fields b c.in_ok-change.change) c.loop.cursor c.read_change.new.cursor) before c.in_ok-change.ensures),
    )

pub returns : goal.returns
returns c =
    Passes-counted change_fields c.in_ok-count.count c.loop.changes _ _ _ (omega (arith, c.loop.invariant.0))
    c.in_ok-count.ensures.passed c.loop.invariant.1
