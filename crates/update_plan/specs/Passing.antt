-- Best routes that are passed on unchanged, except that the home AS is put in front of the path and the session's own address is the next hop (RFC
-- 4271, sections 5.1.2, 5.1.3 and 5.1.4).
use Rattle.std.specs.Prelude.{ℕ, ◌≡◌, ◌≤◌, nat_lt, List, [], ◌∷◌, length, Some, None, All, if◌then◌else◌}
use Rattle.bgp_types.specs.declared.attrs.Attrs.{Attrs}
use Rattle.bgp_types.specs.declared.path.PathPart.{PathPart}
use Rattle.bgp_types.specs.declared.path.PathPart.TheVariants.{Sequence}
use Rattle.bgp_types.specs.Paths.{ases_of}
use Rattle.bgp_types.specs.Prefixes.{PrefixValue}
use Rattle.rib_stages.specs.Values.{RibValue}
use Rattle.route_policy.specs.Paths.{prepend}
use Rattle.route_policy.specs.Telling.{OutSide}
use Rattle.update_plan.specs.ToTell.{rib_to_tell}

-- ---- the two parts into which a path is split when an AS is put in front of it

-- the ASes of a leading sequence that has room for one more
abbrev pub first_ases : List PathPart → List ℕ
first_ases (Sequence ases ∷ parts) = if nat_lt (length ases) 255 then ases else []
first_ases parts = []

-- the parts behind that sequence
abbrev pub parts_behind : List PathPart → List PathPart
parts_behind (Sequence ases ∷ parts) = if nat_lt (length ases) 255 then parts else Sequence ases ∷ parts
parts_behind parts = parts

-- ---- plain attributes

abbrev pub IsShort : PathPart → Type 0
IsShort part = length (ases_of part) ≤ 32

-- no attribute of an unknown type, and a short path
pub record IsPlain (attrs : Attrs) : Type 0 where
  pub known : attrs.unknown ≡ []
  pub few : length attrs.path ≤ 8
  pub short : All IsShort attrs.path

-- attributes as they are passed on
abbrev pub passed_on : ℕ → ℕ → Attrs → Attrs
passed_on home_as local_address attrs = record attrs { path = prepend home_as attrs.path; next_hop = local_address; med = None; unknown = [] }

-- what a router has to tell of a prefix is these attributes as they are passed on, so the best route didn't go through the remote's AS
abbrev pub TellsPassedOn : RibValue → OutSide → PrefixValue → Attrs → Type 0
TellsPassedOn rib out prefix attrs = rib_to_tell rib out prefix ≡ Some (passed_on rib.config.home_as out.local_address attrs)
