-- Counts over a whole input.
use Rattle.std.specs.Prelude.{◌≡◌, ℕ, ◌+◌, ◌-◌, ◌<◌, ◌==◌, nat_lt, Bool, ◌&&◌, List, [], ◌∷◌, ◌++◌, length, slice_get}
use Rattle.std.specs.Prelude.{slice_index_or, sum_by, count_by, Option, Some, None, codes, if◌then◌else◌}
use Rattle.std.specs.List.{flat_map}
use Rattle.bgp_types.specs.declared.message.Message.TheVariants.{UpdateMsg}
use Rattle.bgp_types.specs.Prefixes.{PrefixValue, once_after}
use Rattle.bgp_types.specs.Spelling.{spell}
use Rattle.lab_keys.specs.Kinds.{first_of, each_from}
use Rattle.lab_input.specs.declared.bad.BadInput.{BadInput}
use Rattle.lab_input.specs.declared.bad.BadInput.TheVariants.{Limit}
use Rattle.lab_input.specs.declared.counts.Tally.{Tally}
use Rattle.lab_tables.specs.declared.input.LabInput.{LabInput}
use Rattle.lab_tables.specs.declared.input.PeeringInput.{PeeringInput}
use Rattle.lab_tables.specs.declared.input.RouterInput.{RouterInput}
use Rattle.lab_tables.specs.declared.input.Step.{Step}
use Rattle.lab_tables.specs.declared.input.Step.TheVariants.{Announce, Withdraw, Raw, Graft, Settle, Evacuate}
use Rattle.lab_input.specs.Said.{step_update}

-- ---- limits

-- an evacuate step counts as one graft for each peering
abbrev pub most_grafts : ℕ
most_grafts = 256

-- an added settle counts too
abbrev pub most_settles : ℕ
most_settles = 64

-- different prefixes of networks and of announce and withdraw steps
abbrev pub most_prefixes : ℕ
most_prefixes = 4096

-- octets that a remote says
abbrev pub most_octets : ℕ
most_octets = 1048576

-- one that sends KEEPALIVEs of its own has half the limit, so that they have room
abbrev pub most_octets_beating : ℕ
most_octets_beating = 524288

abbrev pub over_limit : List ℕ → (most n : ℕ) → Option BadInput
over_limit name most n = if nat_lt most n then Some (Limit name n) else None

-- an evacuate step may move each peering
abbrev pub step_grafts : ℕ → Step → ℕ
step_grafts peerings (Graft peering target) = 1
step_grafts peerings (Evacuate router) = peerings
step_grafts peerings _ = 0

abbrev pub settles_of : Step → ℕ
settles_of (Settle rounds least) = 1
settles_of _ = 0

abbrev pub added_to : Option Step → ℕ
added_to (Some (Settle rounds least)) = 0
added_to _ = 1

-- if the last step isn't a settle, one is added
abbrev pub added_settle : List Step → ℕ
added_settle steps = added_to (slice_get steps (length steps - 1))

abbrev pub step_prefixes : Step → List PrefixValue
step_prefixes (Announce peering prefixes attrs) = prefixes
step_prefixes (Withdraw peering prefixes) = prefixes
step_prefixes _ = []

-- the prefixes of networks and of announce and withdraw steps
abbrev pub prefixes_named : LabInput → List PrefixValue
prefixes_named input = flat_map (λ r. r.networks) input.routers ++ flat_map step_prefixes input.steps

-- ---- peerings at a router

abbrev pub peering_count_at : List PeeringInput → ℕ → ℕ
peering_count_at peerings router = count_by (λ p. p.at.0 == router) peerings

abbrev pub room_flaw : List PeeringInput → ℕ → RouterInput → Option BadInput
room_flaw peerings number router = over_limit (codes "sessions") router.sessions (peering_count_at peerings number)

-- ---- what a remote says

-- a remote uses four-octet AS numbers if both sides support them
abbrev pub is_wide : PeeringInput → Bool
is_wide p = p.as4 && p.remote_as4

abbrev pub octets_if : Bool → ℕ → ℕ
octets_if said n = if said then n else 0

-- the number of octets that a step says on a peering
abbrev pub octets_said : Bool → ℕ → Step → ℕ
octets_said wide number (Announce peering prefixes a) =
    octets_if (peering.0 == number) (length (spell (UpdateMsg (step_update (Announce peering prefixes a))) wide))
octets_said wide number (Withdraw peering prefixes) =
    octets_if (peering.0 == number) (length (spell (UpdateMsg (step_update (Withdraw peering prefixes))) wide))
octets_said wide number (Raw peering bytes) = octets_if (peering.0 == number) (length bytes)
octets_said wide number _ = 0

abbrev pub said_on : List Step → ℕ → PeeringInput → ℕ
said_on steps number p = length p.opening + sum_by (octets_said (is_wide p) number) steps

-- the number of the peering on which a step says something
abbrev pub speaker : Step → ℕ
speaker (Announce peering prefixes a) = peering.0
speaker (Withdraw peering prefixes) = peering.0
speaker (Raw peering bytes) = peering.0
speaker _ = 0

-- the number of octets that the remote of each peering says
abbrev pub AreSaid : List Step → List PeeringInput → List ℕ → Type 0
AreSaid steps peerings said =
    (length said ≡ length peerings)
    × ((k : ℕ) (p : PeeringInput) → k < length peerings → p ≡ slice_index_or peerings k p → slice_index_or said k 0 ≡ said_on steps k p)

-- what steps count, with these networks
pub record IsTally (networks : List PrefixValue) (peerings : List PeeringInput) (steps : List Step) (t : Tally) : Type 0 where
  pub grafts : t.grafts ≡ sum_by (step_grafts (length peerings)) steps
  pub settles : t.settles ≡ sum_by settles_of steps
  pub prefixes : t.prefixes ≡ networks ++ flat_map step_prefixes steps
  pub said : AreSaid steps peerings t.said.items

abbrev pub most_said : PeeringInput → ℕ
most_said p = if p.beats then most_octets_beating else most_octets

abbrev pub said_flaw : List Step → ℕ → PeeringInput → Option BadInput
said_flaw steps number peering = over_limit (codes "said") (most_said peering) (said_on steps number peering)

-- ---- the whole

abbrev pub count_fault : LabInput → Option BadInput
count_fault input = first_of (
    over_limit (codes "grafts") most_grafts (sum_by (step_grafts (length input.peerings)) input.steps)
    ∷ over_limit (codes "settles") most_settles (sum_by settles_of input.steps + added_settle input.steps)
    ∷ over_limit (codes "prefixes") most_prefixes (length (once_after [] (prefixes_named input)))
    ∷ each_from (room_flaw input.peerings) 0 input.routers
    ∷ each_from (said_flaw input.steps) 0 input.peerings
    ∷ [])
