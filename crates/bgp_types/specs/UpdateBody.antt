-- The body of an UPDATE (RFC 4271, sections 4.3 and 6.3).
use Rattle.std.specs.Prelude.{ℕ, List, [], ◌∷◌, Option, Some, None, Result, Ok, Err, Bool, not, filter}
use Rattle.std.specs.List.{list_any}
use Rattle.std.specs.Int.{w16}
use Rattle.bgp_types.specs.declared.attrs.Attrs.{Attrs}
use Rattle.bgp_types.specs.declared.attrs.Origin.{Origin}
use Rattle.bgp_types.specs.declared.fault.FoundAttrs.{FoundAttrs}
use Rattle.bgp_types.specs.declared.message.Notice.{Notice}
use Rattle.bgp_types.specs.declared.message.Update.{Update}
use Rattle.bgp_types.specs.declared.path.PathPart.{PathPart}
use Rattle.bgp_types.specs.Faults.{bare, about}
use Rattle.bgp_types.specs.Found.{attrs_in}
use Rattle.bgp_types.specs.Many.{number_at, told_at}
use Rattle.bgp_types.specs.Prefixes.{PrefixValue, same_prefix, prefixes_of}

pub record Fields : Type 0 where
  pub withdrawn : List ℕ
  pub attrs : List ℕ
  pub nlri : List ℕ

abbrev pub with_attrs_field : List ℕ → Option (List ℕ × List ℕ) → Option Fields
with_attrs_field withdrawn None = None
with_attrs_field withdrawn (Some a) = Some (record { withdrawn = withdrawn; attrs = a.0; nlri = a.1 })

abbrev pub with_withdrawn_field : Option (List ℕ × List ℕ) → Option Fields
with_withdrawn_field None = None
with_withdrawn_field (Some w) = with_attrs_field w.0 (told_at (number_at w16 w.1))

-- two fields behind their lengths, and the rest; nothing where a field runs past the end
unfoldable pub fields_of : List ℕ → Option Fields
fields_of body = with_withdrawn_field (told_at (number_at w16 body))

-- what an announcement needs, or the first type that is missing
abbrev pub with_known : Option Origin → Option (List PathPart) → Option ℕ → FoundAttrs → Result Attrs Notice
with_known None path next_hop found = Err (about 3 (1 ∷ []))
with_known (Some o) None next_hop found = Err (about 3 (2 ∷ []))
with_known (Some o) (Some p) None found = Err (about 3 (3 ∷ []))
with_known (Some o) (Some p) (Some n) found =
    Ok (record { origin = o; path = p; next_hop = n; med = found.med; atomic = found.atomic; aggregator = found.aggregator; unknown = found.unknown })

unfoldable pub all_known : FoundAttrs → Result Attrs Notice
all_known found = with_known found.origin found.path found.next_hop found

-- the withdrawn prefixes without those that are announced too
abbrev pub apart : List PrefixValue → List PrefixValue → List PrefixValue
apart withdrawn nlri = filter (λ p. not (list_any (same_prefix p) nlri)) withdrawn

abbrev pub with_nlri : List PrefixValue → Result Attrs Notice → Option (List PrefixValue) → Result Update Notice
with_nlri withdrawn (Err n) nlri = Err n
with_nlri withdrawn (Ok a) None = Err (bare 10)
with_nlri withdrawn (Ok a) (Some nlri) = Ok (record { withdrawn = apart withdrawn nlri; attrs = Some a; nlri = nlri })

-- without announced prefixes the attributes are checked and then dropped
abbrev pub with_found : List PrefixValue → Result FoundAttrs Notice → List ℕ → Result Update Notice
with_found withdrawn (Err n) nlri = Err n
with_found withdrawn (Ok found) [] = Ok (record { withdrawn = withdrawn; attrs = None; nlri = [] })
with_found withdrawn (Ok found) (b ∷ nlri) = with_nlri withdrawn (all_known found) (prefixes_of (b ∷ nlri))

abbrev pub with_withdrawn : Bool → Option (List PrefixValue) → Fields → Result Update Notice
with_withdrawn wide None f = Err (bare 10)
with_withdrawn wide (Some withdrawn) f = with_found withdrawn (attrs_in wide f.attrs) f.nlri

abbrev pub with_fields : Bool → Option Fields → Result Update Notice
with_fields wide None = Err (bare 1)
with_fields wide (Some f) = with_withdrawn wide (prefixes_of f.withdrawn) f

-- the UPDATE of a body, or its first fault
unfoldable pub update_of : Bool → List ℕ → Result Update Notice
update_of wide body = with_fields wide (fields_of body)
