-- How many octets an UPDATE has that tells one prefix more.
use Rattle.std.proofs.Common.{◌≡◌, ◌+◌, List, [], ◌∷◌, ◌++◌, Option, Some, None, Bool, arith}
use Rattle.std.specs.Prelude.{sum_by}
use Rattle.std.proofs.lemmas.List.Sums.{sum_by-append}
use Rattle.bgp_types.specs.declared.attrs.Attrs.{Attrs}
use Rattle.bgp_types.specs.Lengths.{prefix_size}
use Rattle.bgp_types.specs.Prefixes.{PrefixValue}
use Rattle.bgp_types.proofs.Lengths.{update_size}
use Rattle.session_value.specs.Cases.{update_for}
use Rattle.update_plan.specs.Plans.{octets}

size_of : (wide : Bool) (attrs : Option Attrs) (prefixes : List PrefixValue) → octets wide attrs prefixes ≡ octets wide attrs [] + sum_by prefix_size prefixes
size_of wide None prefixes =
    let a = update_size wide (update_for None prefixes) in
    let b = update_size wide (update_for None []) in
    omega arith
size_of wide (Some attrs) prefixes =
    let a = update_size wide (update_for (Some attrs) prefixes) in
    let b = update_size wide (update_for (Some attrs) []) in
    omega arith

pub one_more : (wide : Bool) (attrs : Option Attrs) (prefixes : List PrefixValue) (prefix : PrefixValue)
    → octets wide attrs (prefixes ++ prefix ∷ []) ≡ octets wide attrs prefixes + prefix_size prefix
one_more wide attrs prefixes prefix =
    let a = size_of wide attrs prefixes in
    let b = size_of wide attrs (prefixes ++ prefix ∷ []) in
    let c = sum_by-append prefix_size prefixes (prefix ∷ []) in
    omega arith
