use Rattle.std.proofs.Common.{◌≡◌, ℕ, Bool, true, false, [], ◌∷◌, refl, subst, rules, arith}
use Rattle.std.specs.Prelude.{◌&&◌, option_copied}
use Rattle.std.specs.Int.{w8, w32}
use Rattle.bgp_types.specs.Prefixes.{PrefixValue}
use Rattle.capsule_bytes.specs.declared.stop.CapsuleStop.TheVariants as stops
use Rattle.capsule_bytes.specs.Fields.{any_number}
use Rattle.capsule_bytes.specs.Capsules.{is_above, is_prefix, prefix_len}
use Rattle.capsule_bytes.proofs.Numbers.{back_8}
use Rattle.capsule_bytes.proofs.Checked.{wrong_checked, none_left}
use Rattle.capsule_bytes.proofs.Readings.{field_behind, exit}
use Rattle.capsule_bytes.proofs.lists.read_prefix.Goals as goal

wrong_left : (a b : Bool) → a ≡ false → (a && b) ≡ false
wrong_left a b e = rw e refl

wrong_right : (a b : Bool) → b ≡ false → (a && b) ≡ false
wrong_right true b e = e
wrong_right false b e = refl

pub returns-in_err-address : goal.returns-in_err-address
returns-in_err-address c =
    let before = option_copied c.args.before in
    exit _ _ _ _ _ c.from_residual.ensures.1 (field_behind (λ (p : PrefixValue). any_number w32 p.address ∷ prefix_len before c.args.side p ∷ []) []
    (record { address = 0; len = 0 }) (any_number w32 0) _ refl _ _ refl _ (c.in_err-address.ensures.stops (any_number w32 0) refl))

pub returns-in_err-len : goal.returns-in_err-len
returns-in_err-len c =
    let before = option_copied c.args.before in
    let p : PrefixValue = record { address = c.in_ok-address.address; len = 0 } in
    exit _ _ _ _ _ c.from_residual-in_err-len.ensures.1 (field_behind (λ (q : PrefixValue). any_number w32 q.address ∷ prefix_len before c.args.side q ∷ [])
    ((any_number w32 p.address ∷ []) ∷ []) p (prefix_len before c.args.side p) [] refl _ _
    (_, c.in_ok-address.ensures.passed, refl) _ (c.in_err-len.ensures.stops (prefix_len before c.args.side p) refl))

pub returns-in_default : goal.returns-in_default
returns-in_default c =
    let before = option_copied c.args.before in
    let side = c.args.side in
    let p : PrefixValue = record { address = c.in_ok-address.address; len = c.in_ok-len.len } in
    let closes : ℕ → Bool = λ len. let q : PrefixValue = record p { len = len } in is_prefix q && is_above before side q in
    field_behind (λ (q : PrefixValue). any_number w32 q.address ∷ prefix_len before side q ∷ []) ((any_number w32 p.address ∷ []) ∷ []) p
    (prefix_len before side p) [] refl _ _ (_, c.in_ok-address.ensures.passed, refl) (stops.Value c.place-place.result) (
      c.place-place.ensures,
      wrong_checked w8 back_8 (omega arith) (λ k. refl) closes p.len p.len _ _ c.in_ok-len.ensures.passed
          (wrong_left (is_prefix p) (is_above before side p) (none_left _ c.prefix_of.result (search rules) c.prefix_of.ensures)),
    )

pub returns-then-not-is_above : goal.returns-then-not-is_above
returns-then-not-is_above c =
    let before = option_copied c.args.before in
    let side = c.args.side in
    let p : PrefixValue = record { address = c.in_ok-address.address; len = c.in_ok-len.len } in
    let closes : ℕ → Bool = λ len. let q : PrefixValue = record p { len = len } in is_prefix q && is_above before side q in
    let below : is_above before side p ≡ false = subst (λ q. is_above before side q ≡ false) c.in-Some.ensures.0 (search rules) in
    field_behind (λ (q : PrefixValue). any_number w32 q.address ∷ prefix_len before side q ∷ []) ((any_number w32 p.address ∷ []) ∷ []) p
    (prefix_len before side p) [] refl _ _ (_, c.in_ok-address.ensures.passed, refl) (stops.Value c.place-place.result) (
      c.place-place.ensures,
      wrong_checked w8 back_8 (omega arith) (λ k. refl) closes p.len p.len _ _ c.in_ok-len.ensures.passed
          (wrong_right (is_prefix p) (is_above before side p) below),
    )
