-- The hint for names and counts that don't fit together, where all shapes are right.
use Rattle.std.specs.Prelude.{ℕ, nat_lt, Bool, List, [], ◌++◌, map, Option, Some, None, unwrap_or, codes, decimal, if◌then◌else◌}
use Rattle.std.specs.List.{flat_map, list_any}
use Rattle.std.specs.Str.{bytes_eq}
use Rattle.lab_keys.specs.Kinds.{each_from}
use Rattle.lab_keys.specs.Texts.{is_name}
use Rattle.lab_tables.specs.declared.input.LabInput.{LabInput}
use Rattle.lab_tables.specs.declared.input.PeeringInput.{PeeringInput}
use Rattle.lab_tables.specs.declared.input.RouterInput.{RouterInput}
use Rattle.lab_input.specs.declared.bad.BadInput.{BadInput}
use Rattle.lab_input.specs.declared.bad.BadInput.TheVariants.{Limit, Unknown, Repeated}
use Rattle.lab_input.specs.Counts.{peering_count_at, most_grafts, most_settles, most_prefixes, most_octets, most_octets_beating}
use Rattle.near_names.specs.Nearness.{nearest}
use Rattle.lab_hints.specs.Wanted.{name_words}

-- ---- names

abbrev pub is_router : LabInput → List ℕ → Bool
is_router lab name = list_any (λ r. bytes_eq name r.name) lab.routers

abbrev pub is_peering : LabInput → List ℕ → Bool
is_peering lab name = list_any (λ p. bytes_eq name p.name) lab.peerings

abbrev pub is_policy : LabInput → List ℕ → Bool
is_policy lab name = list_any (λ r. list_any (λ p. bytes_eq name p.name) r.policies) lab.routers

-- the names of routers, of peerings and of the policies of routers
abbrev pub all_names : LabInput → List (List ℕ)
all_names lab =
    map (λ r. r.name) lab.routers ++ map (λ p. p.name) lab.peerings ++ flat_map (λ r. map (λ p. p.name) r.policies) lab.routers

abbrev pub meant_words : Option (List ℕ) → List ℕ
meant_words (Some near) = codes "; did you mean " ++ near ++ codes "?"
meant_words None = []

-- nothing has this name
abbrev pub unnamed_words : LabInput → List ℕ → List ℕ
unnamed_words lab name =
    if is_name name then codes "no router, peering or policy is called " ++ name ++ meant_words (nearest (all_names lab) name)
    else codes "a name is " ++ name_words

-- nothing that may be named there has this name
abbrev pub unknown_words : LabInput → List ℕ → List ℕ
unknown_words lab name =
    if is_router lab name then name ++ codes " is a router; another kind of name belongs here"
    else if is_peering lab name then name ++ codes " is a peering; another kind of name belongs here"
    else if is_policy lab name then name ++ codes " is a policy; a peering names policies of its own router, and nothing else does"
    else unnamed_words lab name

abbrev pub repeated_words : List ℕ → List ℕ
repeated_words text =
    text
    ++ codes " stands there again; each of these stands once: the name and id of a router, its networks and the names of its policies, "
    ++ codes "the name and remote address of a peering, the ends of a cost and the segment of a fault"

-- ---- counts

-- a router with fewer places than peerings start there
abbrev pub crowd_words : RouterInput → (peerings : ℕ) → List ℕ
crowd_words router peerings =
    codes "router " ++ router.name ++ codes " has sessions = " ++ decimal router.sessions
    ++ codes ", and the peerings that start there are " ++ decimal peerings

abbrev pub crowded_words : List PeeringInput → ℕ → RouterInput → Option (List ℕ)
crowded_words peerings number router =
    if nat_lt router.sessions (peering_count_at peerings number) then Some (crowd_words router (peering_count_at peerings number)) else None

-- the first router that hasn't room for its peerings
abbrev pub sessions_words : LabInput → List ℕ
sessions_words lab =
    unwrap_or (each_from (crowded_words lab.peerings) 0 lab.routers) (codes "a router has room for all peerings that start there")

abbrev pub said_words : List ℕ
said_words =
    codes "a remote says at most " ++ decimal most_octets ++ codes " octets, and at most " ++ decimal most_octets_beating ++ codes " where beats is true"

abbrev pub grafts_words : List ℕ
grafts_words = codes "at most " ++ decimal most_grafts ++ codes " grafts; an evacuate step counts as one for each peering"

abbrev pub settles_words : List ℕ
settles_words = codes "at most " ++ decimal most_settles ++ codes " settle steps; one is added where the last step isn't one"

abbrev pub prefixes_words : List ℕ
prefixes_words = codes "at most " ++ decimal most_prefixes ++ codes " different prefixes of networks and steps"

-- by the name of the count
abbrev pub count_words : LabInput → List ℕ → List ℕ
count_words lab what =
    if bytes_eq what (codes "sessions") then sessions_words lab
    else if bytes_eq what (codes "said") then said_words
    else if bytes_eq what (codes "grafts") then grafts_words
    else if bytes_eq what (codes "settles") then settles_words
    else prefixes_words

-- ---- the hint

-- by the fault that is reported; one of another kind is none of names or counts
abbrev pub later_words : LabInput → BadInput → List ℕ
later_words lab (Unknown name) = unknown_words lab name
later_words lab (Repeated text) = repeated_words text
later_words lab (Limit what n) = count_words lab what
later_words lab bad = codes "an input is a TOML document with the keys of docs/INPUT.md"
