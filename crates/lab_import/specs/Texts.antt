-- The text of a laboratory that is imported.
use Rattle.std.specs.Prelude.{ℕ, ◌+◌, ◌==◌, if◌then◌else◌, Bool, true, false, List, [], ◌∷◌, ◌++◌, codes, decimal, unwrap_or}
use Rattle.std.specs.List.{flat_map}
use Rattle.hex.specs.Hex.{encode_lower}
use Rattle.bgp_types.specs.Texts.{address_text}
use Rattle.imported_sessions.specs.declared.imported.Said.{Said}
use Rattle.imported_sessions.specs.declared.imported.ImportedPeering.{ImportedPeering}
use Rattle.imported_sessions.specs.declared.imported.Imported.{Imported}

-- ---- keys

abbrev pub line : List ℕ → List ℕ
line text = text ++ 10 ∷ []

unfoldable pub number_key : (key : List ℕ) → ℕ → List ℕ
number_key key n = line (key ++ codes " = " ++ decimal n)

unfoldable pub text_key : (key text : List ℕ) → List ℕ
text_key key text = line (key ++ codes " = \"" ++ text ++ codes "\"")

abbrev pub flag_text : Bool → List ℕ
flag_text true = codes "true"
flag_text false = codes "false"

unfoldable pub flag_key : (key : List ℕ) → Bool → List ℕ
flag_key key flag = line (key ++ codes " = " ++ flag_text flag)

-- ---- tables

-- The peering of the first connection is `p1`.
abbrev pub peering_name : (peer : ℕ) → List ℕ
peering_name peer = codes "p" ++ decimal (peer + 1)

-- the identifier of the first router: that of the home side's OPEN, or 10.255.0.1 if none was captured
abbrev pub first_id : Imported → ℕ
first_id i = unwrap_or i.home_id 0x0AFF0001

-- that of the second one is another
abbrev pub second_id : Imported → ℕ
second_id i = if first_id i == 0x0AFF0002 then 0x0AFF0001 else 0x0AFF0002

unfoldable pub router_table : (name : List ℕ) → (id : ℕ) → List ℕ
router_table name id =
    line (codes "[[router]]") ++ text_key (codes "name") name ++ text_key (codes "id") (address_text id)
    ++ line (number_key (codes "sessions") 32)

unfoldable pub peering_names : ImportedPeering → List ℕ
peering_names p =
    line (codes "[[peering]]") ++ text_key (codes "name") (peering_name p.peer) ++ text_key (codes "at") (codes "r1")
    ++ number_key (codes "remote_as") p.remote_as

unfoldable pub peering_addresses : ImportedPeering → List ℕ
peering_addresses p =
    text_key (codes "remote_address") (address_text p.remote_address) ++ text_key (codes "local_address") (address_text p.local_address)
    ++ text_key (codes "remote_id") (address_text p.remote_id)

unfoldable pub peering_opens : ImportedPeering → List ℕ
peering_opens p =
    number_key (codes "hold") p.hold ++ text_key (codes "opening") (encode_lower p.opening) ++ flag_key (codes "as4") p.as4
    ++ flag_key (codes "remote_as4") p.remote_as4 ++ number_key (codes "home_hold") p.home_hold ++ line (flag_key (codes "unicast") p.unicast)

unfoldable pub peering_table : ImportedPeering → List ℕ
peering_table p = peering_names p ++ peering_addresses p ++ peering_opens p

-- ---- steps

unfoldable pub step_text : Said → List ℕ
step_text step =
    line (codes "[[step]]") ++ text_key (codes "do") (codes "raw") ++ text_key (codes "peering") (peering_name step.peer)
    ++ line (text_key (codes "hex") (encode_lower step.octets))

-- the step that would move a session, as a comment
unfoldable pub graft_text : ImportedPeering → List ℕ
graft_text p =
    line (codes "# [[step]]") ++ text_key (codes "# do") (codes "graft") ++ text_key (codes "# peering") (peering_name p.peer)
    ++ line (text_key (codes "# to") (codes "r2"))

-- ---- the whole

unfoldable pub left_out_text : Imported → List ℕ
left_out_text i =
    line (codes "# Imported from a capture. Left out were, in packets and in sessions:")
    ++ line (codes "# fragments " ++ decimal i.fragments ++ codes ", of other connections " ++ decimal i.others ++ codes ", within the home AS "
    ++ decimal i.internal)

unfoldable pub head_text : Imported → List ℕ
head_text i =
    line (left_out_text i) ++ line (number_key (codes "home_as") i.home_as) ++ router_table (codes "r1") (first_id i) ++ router_table (codes "r2") (second_id i)
    ++ flat_map peering_table i.peerings

unfoldable pub tail_text : Imported → List ℕ
tail_text i =
    line (codes "[[step]]") ++ line (text_key (codes "do") (codes "settle"))
    ++ line (line (codes "# Without the signs in front of it, each of these steps moves a session to the other router."))
    ++ flat_map graft_text i.peerings

abbrev pub steps_text : List Said → List ℕ
steps_text steps = flat_map step_text steps

unfoldable pub text_of : Imported → List ℕ
text_of i = head_text i ++ steps_text i.steps ++ tail_text i
