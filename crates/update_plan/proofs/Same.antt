-- Parts of attributes are equal by `==` exactly where they are the same.
use Rattle.std.proofs.Common.{◌≡◌, [], List, Bool, true, false, ◌&&◌, Option, None, refl, sym, ap, ◌∙◌}
use Rattle.std.specs.Prelude.{◌↔◌, IsTrue}
use Rattle.std.specs.Cmp.Lexicographic.{pointwise}
use Rattle.std.specs.Option.{option_eq}
use Rattle.bgp_types.specs.declared.attrs.Aggregator.{Aggregator}
use Rattle.bgp_types.specs.declared.attrs.Attrs.{Attrs}
use Rattle.bgp_types.specs.declared.attrs.Origin.{Origin}
use Rattle.bgp_types.specs.declared.attrs.Origin.TheVariants.{Igp}
use Rattle.bgp_types.specs.declared.path.PathPart.{PathPart}
use Rattle.bgp_types.specs.contracts.attrs.AggregatorPartialEq.TheImpl as aggregator_eq
use Rattle.bgp_types.specs.contracts.attrs.Origin as origin
use Rattle.bgp_types.specs.contracts.path.PathPartPartialEq.TheImpl as part_eq
use Rattle.bgp_types.proofs.Equality.{attrs_equal}
use denote.Enum.Bare.{sameb}

-- attributes that have these parts, and no others
abbrev only : Origin → List PathPart → Option Aggregator → Attrs
only origin path aggregator = record { origin = origin; path = path; next_hop = 0; med = None; atomic = false; aggregator = aggregator; unknown = [] }

and_true : (b : Bool) → (b && true) ≡ b
and_true true = refl
and_true false = refl

pub paths_equal : (p q : List PathPart) → IsTrue (pointwise part_eq.eq-value.it p q) ↔ (p ≡ q)
paths_equal p q =
    let equal = attrs_equal (only Igp p None) (only Igp q None) in
    let test = and_true (pointwise part_eq.eq-value.it p q) in
    (λ e. ap (λ (a : Attrs). a.path) (equal.0 (test ∙ e)), λ e. sym test ∙ equal.1 (ap (λ (path : List PathPart). only Igp path None) e))

pub aggregators_equal : (a b : Option Aggregator) → IsTrue (option_eq aggregator_eq.eq-value.it a b) ↔ (a ≡ b)
aggregators_equal a b =
    let equal = attrs_equal (only Igp [] a) (only Igp [] b) in
    let test = and_true (option_eq aggregator_eq.eq-value.it a b) in
    (λ e. ap (λ (x : Attrs). x.aggregator) (equal.0 (test ∙ e)), λ e. sym test ∙ equal.1 (ap (λ (x : Option Aggregator). only Igp [] x) e))

pub origins_equal : (a b : Origin) → IsTrue (sameb origin.the_type a b) ↔ (a ≡ b)
origins_equal a b =
    let equal = attrs_equal (only a [] None) (only b [] None) in
    let test = and_true (sameb origin.the_type a b) in
    (λ e. ap (λ (x : Attrs). x.origin) (equal.0 (test ∙ e)), λ e. sym test ∙ equal.1 (ap (λ (x : Origin). only x [] None) e))
