-- The values of the OPEN with which a legal story begins.
use Rattle.std.proofs.Common.{◌≡◌, ℕ, zero, suc, ◌*◌, ◌^◌, ◌<◌, ◌≤◌, List, Bool, true, false, Some, refl, sym, ap, ◌∙◌, ◌⊎◌, inl, inr, subst, arith}
use Rattle.std.specs.Int.{w32, from_be_bytes, to_be_bytes}
use Rattle.std.proofs.lemmas.Bool.Decides.{nat_tests}
use Rattle.std.proofs.lemmas.Nat.{from_be_bytes-to_be_bytes_4}
use Rattle.std.proofs.lemmas.Option.{same_Some}
use Rattle.bgp_types.specs.declared.message.OpenMsg.{OpenMsg}
use Rattle.bgp_types.specs.declared.message.SessionState.{SessionState}
use Rattle.bgp_types.specs.declared.message.SessionState.TheVariants.{Established}
use Rattle.bgp_types.specs.OpenBody.{as_said}
use Rattle.bgp_types.specs.PathOctets.{narrow_as}
use Rattle.bgp_types.specs.Values.{is_no_host, is_short_hold}
use Rattle.bgp_story.specs.declared.line.Line.{Line}
use Rattle.bgp_story.specs.Legal.{Peering, IsPeering, Allowed, opened, got, updated, passed}
use Rattle.bgp_story.specs.Opens.{IsHomeOpen, home_caps, home_open, offers}

pub peering_of : (p : Peering) (lines : List Line) (state : SessionState) → Allowed p lines state → IsPeering p
peering_of p _ _ (opened lines h e) = h
peering_of p _ _ (got before state bytes answer next lines l o w r e) = peering_of p before state l
peering_of p _ _ (updated before u lines l w c e) = peering_of p before Established l
peering_of p _ _ (passed before state round answer next lines l up h a r e) = peering_of p before state l

hold_cases : (hold : ℕ) → hold < 2 ^ 16 → is_short_hold hold ≡ false → (hold ≡ 0) ⊎ ((3 ≤ hold) × (hold < 2 ^ 16))
hold_cases zero fits long = inl refl
hold_cases (suc zero) fits long = absurd cc
hold_cases (suc (suc zero)) fits long = absurd cc
hold_cases (suc (suc (suc n))) fits long = inr (omega arith, fits)

pub hold_range : (first : OpenMsg) → IsHomeOpen first → (first.hold ≡ 0) ⊎ ((3 ≤ first.hold) × (first.hold < 2 ^ 16))
hold_range first is = hold_cases first.hold is.hold_fits is.hold_time

host_range : (address : ℕ) → is_no_host address ≡ false → (0 < address) × (address < 224 * 2 ^ 24)
host_range address host = (grind (arith, nat_tests), grind (arith, nat_tests))

pub identifier_range : (first : OpenMsg) → IsHomeOpen first → (0 < first.identifier) × (first.identifier < 224 * 2 ^ 24)
identifier_range first is = host_range first.identifier is.host

narrow_range : (as_number : ℕ) → 1 ≤ as_number → (0 < narrow_as as_number) × (narrow_as as_number < 2 ^ 16)
narrow_range as_number some = (grind (arith, nat_tests), grind (arith, nat_tests))

pub field_range : (first : OpenMsg) → IsHomeOpen first → (0 < first.as_number) × (first.as_number < 2 ^ 16)
field_range first is =
    let field : narrow_as is.home_as ≡ first.as_number = sym (ap (λ (o : OpenMsg). o.as_number) is.is) in
    subst (λ (n : ℕ). (0 < n) × (n < 2 ^ 16)) field (narrow_range is.home_as is.as_number.some)

-- with or without the capability of IPv4 unicast
pub offers_home : (home_as hold identifier : ℕ) (offered unicast : Bool) → offers (home_open home_as hold identifier offered unicast) ≡ offered
offers_home home_as hold identifier true true = refl
offers_home home_as hold identifier true false = refl
offers_home home_as hold identifier false true = refl
offers_home home_as hold identifier false false = refl

said_home : (home_as as_number : ℕ) (offered unicast : Bool) → home_as < 2 ^ 32 → as_said (home_caps home_as offered unicast) ≡ Some as_number
    → as_number ≡ home_as
said_home home_as as_number true true fits e = sym (same_Some (from_be_bytes w32 (to_be_bytes w32 home_as)) as_number e)
    ∙ from_be_bytes-to_be_bytes_4 home_as fits
said_home home_as as_number true false fits e = sym (same_Some (from_be_bytes w32 (to_be_bytes w32 home_as)) as_number e)
    ∙ from_be_bytes-to_be_bytes_4 home_as fits
said_home home_as as_number false true fits e = absurd cc
said_home home_as as_number false false fits e = absurd cc

pub said_range : (first : OpenMsg) → IsHomeOpen first → (as_number : ℕ) → as_said first.caps ≡ Some as_number
    → (0 < as_number) × (as_number < 2 ^ 32) × (first.as_number ≡ narrow_as as_number)
said_range first is as_number e =
    let same : as_number ≡ is.home_as =
    said_home is.home_as as_number is.offered is.unicast is.as_number.fits (sym (ap (λ (o : OpenMsg). as_said o.caps) is.is) ∙ e) in
    let field : first.as_number ≡ narrow_as is.home_as = ap (λ (o : OpenMsg). o.as_number) is.is in
    subst (λ (n : ℕ). (0 < n) × (n < 2 ^ 32) × (first.as_number ≡ narrow_as n)) (sym same) (is.as_number.some, is.as_number.fits, field)
