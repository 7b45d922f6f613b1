use Rattle.std.proofs.Common.{◌≡◌, [], ◌∷◌, refl, arith}
use Rattle.std.specs.Int.{w8, w16, w32, is_in_range}
use Rattle.capsule_bytes.specs.declared.parts.PartLine.TheVariants.{Put, Got, Tick}
use Rattle.capsule_bytes.specs.Fields.{any_number, text}
use Rattle.capsule_bytes.specs.Capsules.{line_fields, line_kind}
use Rattle.capsule_bytes.proofs.Checked.{within_range, Passes-number}
use Rattle.capsule_bytes.proofs.Readings.{behind, field_behind, exit}
use Rattle.capsule_bytes.proofs.lists.read_line.Goals as goal

pub returns-in_err-kind : goal.returns-in_err-kind
returns-in_err-kind c = λ before.
    exit (line_fields before) _ _ _ _ c.from_residual.ensures.1 (field_behind (line_fields before) [] (Tick 0) (line_kind 3) _ refl _ _ refl _
    (c.in_err-kind.ensures.stops 3))

pub returns-in_err-put : goal.returns-in_err-put
returns-in_err-put c = λ before.
    let kind = Passes-number w8 (is_in_range 1 3) c.in_ok-kind.kind 1 c.if-kind-eq-PUT.true _ _ c.in_ok-kind.ensures.passed in
    exit (line_fields before) _ _ _ _ c.from_residual-in_err-put.ensures.1 (behind (text w16) (line_fields before) ((line_kind 1 ∷ []) ∷ [])
    (λ o. record { value = Put o; after = []; is = refl }) _ _ (_, kind, refl) _ c.in_err-put.ensures)

pub returns-in_err-got : goal.returns-in_err-got
returns-in_err-got c = λ before.
    let kind = Passes-number w8 (is_in_range 1 3) c.in_ok-kind.kind 2 c.if-kind-eq-GOT.true _ _ c.in_ok-kind.ensures.passed in
    exit (line_fields before) _ _ _ _ c.from_residual-in_err-got.ensures.1 (behind (text w16) (line_fields before) ((line_kind 2 ∷ []) ∷ [])
    (λ o. record { value = Got o; after = []; is = refl }) _ _ (_, kind, refl) _ c.in_err-got.ensures)

pub returns-in_err-round : goal.returns-in_err-round
returns-in_err-round c = λ before.
    let range = within_range 1 3 c.in_ok-kind.kind _ _ c.in_ok-kind.ensures.passed in
    let third : c.in_ok-kind.kind ≡ 3 = omega (arith, range.0, range.1, c.if-kind-eq-PUT.false, c.if-kind-eq-GOT.false) in
    let kind = Passes-number w8 (is_in_range 1 3) c.in_ok-kind.kind 3 third _ _ c.in_ok-kind.ensures.passed in
    exit (line_fields before) _ _ _ _ c.from_residual-in_err-round.ensures.1 (field_behind (line_fields before) ((line_kind 3 ∷ []) ∷ []) (Tick 0)
    (any_number w32 0) [] refl _ _
    (_, kind, refl) _ (c.in_err-round.ensures.stops (any_number w32 0) refl))
