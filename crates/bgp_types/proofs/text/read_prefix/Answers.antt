use Rattle.std.proofs.Common.{◌≡◌, Option, Some, None}
use Rattle.bgp_types.specs.Finds.{Finds}
use Rattle.bgp_types.specs.Texts.{IsPrefixText}
use Rattle.bgp_types.proofs.TextLemmas.{prefix_parts, IsPrefixText-parts}
use Rattle.bgp_types.proofs.text.read_prefix.Goals as goal

none_found : {A : Type 0} (Is : A → Type 0) (answer : Option A) → answer ≡ None → ((x : A) → ¬ (Is x)) → Finds Is answer
none_found Is None e none = none
none_found Is (Some x) e none = absurd cc

pub returns-in_err-address : goal.returns-in_err-address
returns-in_err-address c = none_found (IsPrefixText c.args.text.now) c.from_residual.result c.from_residual.ensures
    (prefix_parts c.args.text.now None c.in_err-address.ensures.cases)

pub returns-in_err-address-2 : goal.returns-in_err-address-2
returns-in_err-address-2 c = none_found (IsPrefixText c.args.text.now) c.from_residual-in_err-address-2.result c.from_residual-in_err-address-2.ensures (λ p is.
    let parts = prefix_parts c.args.text.now (Some (c.in_ok-address.address, c.in_ok-address.len)) c.in_ok-address.ensures.cases p is in
    c.in_err-address-2.ensures is.address (record { fits = is.fits; text = parts.0 }))

pub returns-in_err-len : goal.returns-in_err-len
returns-in_err-len c = none_found (IsPrefixText c.args.text.now) c.from_residual-in_err-len.result c.from_residual-in_err-len.ensures (λ p is.
    let parts = prefix_parts c.args.text.now (Some (c.in_ok-address.address, c.in_ok-address.len)) c.in_ok-address.ensures.cases p is in
    c.in_err-len.ensures p.len (is.short, parts.1))

pub returns : goal.returns
returns c =
    IsPrefixText-parts c.args.text.now (c.in_ok-address.address, c.in_ok-address.len) c.in_ok-address.ensures.cases c.in_ok-address-2.address c.in_ok-len.len
    c.in_ok-address-2.ensures c.in_ok-len.ensures c.new.result c.new.ensures.some c.new.ensures.value
