use Rattle.std.proofs.Common.{[], ◌∷◌, refl, Bool, true, false, rules}
use Rattle.std.specs.Prelude.{None, Some}
use Rattle.std.specs.Int.{w16}
use Rattle.capsule_bytes.specs.Fields.{flag, text}
use Rattle.capsule_bytes.specs.Capsules.{attrs_fields}
use Rattle.capsule_bytes.proofs.Checked.{Passes-flag}
use Rattle.capsule_bytes.proofs.Readings.{Extends, behind, passes_joined, exit}
use Rattle.capsule_bytes.proofs.lists.read_attrs.Goals as goal

flagged : (b : Bool) → Extends attrs_fields [] (flag b ∷ [])
flagged true = record { value = Some []; after = text w16 []; is = refl }
flagged false = record { value = None; after = []; is = refl }

pub returns-in_err-present : goal.returns-in_err-present
returns-in_err-present c =
    exit attrs_fields _ _ _ _ c.from_residual.ensures.1 (behind (λ b. flag b ∷ []) attrs_fields [] flagged _ _ refl _ c.in_err-present.ensures)

pub returns-then-not-present : goal.returns-then-not-present
returns-then-not-present c = Passes-flag c.in_ok-present.present false (search rules) _ _ c.in_ok-present.ensures

pub returns-in_err-attrs : goal.returns-in_err-attrs
returns-in_err-attrs c =
    let there = Passes-flag c.in_ok-present.present true (search rules) _ _ c.in_ok-present.ensures in
    exit attrs_fields _ _ _ _ c.from_residual-in_err-attrs.ensures.1 (behind (text w16) attrs_fields ((flag true ∷ []) ∷ [])
    (λ o. record { value = Some o; after = []; is = refl }) _ _ (_, there, refl) _ c.in_err-attrs.ensures)

pub returns : goal.returns
returns c =
    let there = Passes-flag c.in_ok-present.present true (search rules) _ _ c.in_ok-present.ensures in
    passes_joined ((flag true ∷ []) ∷ []) (text w16 c.in_ok-attrs.attrs) _ _ _ (_, there, refl) c.in_ok-attrs.ensures
