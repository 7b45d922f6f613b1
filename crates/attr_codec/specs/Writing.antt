-- Attributes as they are written, group by group.
use Rattle.std.specs.Prelude.{◌≡◌, ℕ, ◌+◌, ◌<◌, ◌≤◌, ◌==◌, List, [], ◌∷◌, ◌++◌, length, bit_and, Bool, true, false, if◌then◌else◌}
use Rattle.std.specs.List.{flat_map, AllByRecursion}
use Rattle.std.specs.Int.{to_be_bytes}
use Rattle.bgp_types.specs.declared.attrs.Attrs.{Attrs}
use Rattle.bgp_types.specs.declared.attrs.RawAttr.{RawAttr}
use Rattle.bgp_types.specs.declared.path.PathPart.{PathPart}
use Rattle.bgp_types.specs.declared.path.PathPart.TheVariants.{Set, Sequence}
use Rattle.bgp_types.specs.PathOctets.{as_width, narrow_as, has_long_as}
use Rattle.bgp_types.specs.Rising.{IsRising}
use Rattle.bgp_types.specs.Spelling.{origin_written, path_written, next_hop_written, med_written, atomic_written}
use Rattle.bgp_types.specs.Spelling.{aggregator_written, as4_path_written, as4_aggregator_written}
use Rattle.bgp_types.specs.Values.{other_kind}
use Rattle.bgp_types.specs.WireAttrs.{WireAttr}
use Rattle.bgp_types.specs.Writable.{IsOther}

-- flags without extended length, to which that flag can be added
pub record AreFlags (flags : ℕ) : Type 0 where
  pub small : flags + 16 < 256
  pub short : (bit_and flags 16 == 0) ≡ true
  pub long : (bit_and (flags + 16) 16 == 0) ≡ false

abbrev pub as_in_width : Bool → ℕ → ℕ
as_in_width wide as_number = if wide then as_number else narrow_as as_number

abbrev pub as_octets : Bool → ℕ → List ℕ
as_octets wide as_number = to_be_bytes (as_width wide) (as_in_width wide as_number)

-- the octets of a part in the width of a message
abbrev pub part_in_width : Bool → PathPart → List ℕ
part_in_width wide (Set ases) = 1 ∷ length ases ∷ flat_map (as_octets wide) ases
part_in_width wide (Sequence ases) = 2 ∷ length ases ∷ flat_map (as_octets wide) ases

-- types 1 to 7
abbrev pub known_written : Bool → Attrs → List WireAttr
known_written wide a =
    origin_written a.origin ∷ path_written wide a.path ∷ next_hop_written a.next_hop ∷ []
    ++ (med_written a.med ++ (atomic_written a.atomic ++ aggregator_written wide a.aggregator))

-- types 17 and 18
abbrev pub as4_written : Bool → Attrs → List WireAttr
as4_written wide a = as4_path_written wide a.path ++ as4_aggregator_written wide a.aggregator

-- AS4_PATH has to be written
pub record NeedsLong (wide : Bool) (path : List PathPart) : Type 0 where
  pub narrow : wide ≡ false
  pub long : has_long_as path ≡ true

-- attributes of unknown types: those below type 1, below type 17, and above
pub record AreParts (others first middle last : List RawAttr) : Type 0 where
  pub parts : others ≡ first ++ (middle ++ last)
  pub rising : IsRising other_kind first × IsRising other_kind middle × IsRising other_kind last
  pub kinds : AllByRecursion IsOther first × AllByRecursion IsOther middle × AllByRecursion IsOther last
  pub first_below : AllByRecursion (λ u. other_kind u < 1) first
  pub middle_from : AllByRecursion (λ u. 1 ≤ other_kind u) middle
  pub middle_below : AllByRecursion (λ u. other_kind u < 17) middle
  pub last_from : AllByRecursion (λ u. 17 ≤ other_kind u) last
