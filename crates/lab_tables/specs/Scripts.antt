-- Steps.
use Rattle.std.specs.Prelude.{ℕ, Bool, true, false, ◌||◌, nat_lt, List, [], ◌∷◌, take, drop, reverse, Option}
use Rattle.std.specs.Prelude.{Some, None, unwrap_or, map, codes, if◌then◌else◌, slice_get}
use Rattle.std.specs.List.{list_any, before_first}
use Rattle.toml.specs.Data.{Data, table, Members}
use Rattle.bgp_types.specs.declared.attrs.Attrs.{Attrs}
use Rattle.bgp_types.specs.declared.attrs.Origin.TheVariants.{Igp}
use Rattle.bgp_types.specs.declared.path.PathPart.{PathPart}
use Rattle.bgp_types.specs.declared.path.PathPart.TheVariants.{Sequence}
use Rattle.bgp_types.specs.Prefixes.{PrefixValue, once_after}
use Rattle.lab_keys.specs.declared.flaw.Flaw.{Flaw}
use Rattle.lab_keys.specs.declared.flaw.Flaw.TheVariants.{Shape, Limit}
use Rattle.lab_keys.specs.declared.key.Kind.TheVariants as kinds
use Rattle.lab_keys.specs.declared.key.Kind.TheVariants.{Number, Name, Host, Prefix, Origin, Hex}
use Rattle.lab_keys.specs.declared.table_at.TableAt.TheVariants as tables
use Rattle.lab_keys.specs.KeyRows.{KeyRow}
use Rattle.lab_keys.specs.Spots.{spot_of}
use Rattle.lab_keys.specs.Kinds.{first_of, flaw_if}
use Rattle.lab_keys.specs.Keys.{required, optional, required_array, optional_array, keys_flaw, stray_flaw, names_of}
use Rattle.lab_keys.specs.Values.{has_member, text_at, number_or, maybe_number, address_or, octets_at, prefixes_at, numbers_at}
use Rattle.lab_tables.specs.declared.input.PeeringInput.{PeeringInput}
use Rattle.lab_tables.specs.declared.input.Step.{Step}
use Rattle.lab_tables.specs.declared.input.Step.TheVariants.{Announce, Withdraw, Raw, Graft, Settle, Evacuate}
use Rattle.lab_keys.specs.declared.words.StepWord.{StepWord}
use Rattle.lab_keys.specs.declared.words.StepWord.TheVariants.{Announces, Withdraws, SaysRaw, Grafts, Settles, Evacuates}
use Rattle.lab_tables.specs.Meanings.{index_of_name, origin_at, word_at}

-- ---- the groups of a script, which settle steps end

-- the test on the word of a value in the array of steps
abbrev pub is_word : (StepWord → Bool) → Data → Bool
is_word test (table t) = test (word_at t)
is_word test _ = false

-- whether a step ends a group
abbrev pub is_settle_step : Step → Bool
is_settle_step (Settle rounds least) = true
is_settle_step step = false

abbrev pub is_settle_word : StepWord → Bool
is_settle_word Settles = true
is_settle_word _ = false

abbrev pub is_evacuate : StepWord → Bool
is_evacuate Evacuates = true
is_evacuate _ = false

-- Each step belongs to one group. The steps of the group of step i: from i on up to the next settle, and backwards from i up to the previous one.
abbrev pub group_from : List Data → ℕ → List Data
group_from steps i = before_first (is_word is_settle_word) (drop i steps)

abbrev pub group_before : List Data → ℕ → List Data
group_before steps i = before_first (is_word is_settle_word) (reverse (take i steps))

abbrev pub evacuates : List Data → Bool
evacuates steps = list_any (is_word is_evacuate) steps

-- beside an evacuate step, a group has neither a graft nor a second evacuate step
abbrev pub is_crowded : (before whole : Bool) → StepWord → Bool
is_crowded before whole Grafts = whole
is_crowded before whole Evacuates = before
is_crowded before whole _ = false

-- ---- the keys of a step, by its word

abbrev pub announce_keys : List KeyRow
announce_keys =
    required (codes "peering") Name
    ∷ required_array (codes "prefixes") 1 200 Prefix
    ∷ optional_array (codes "path") 0 64 (Number 1 4294967295)
    ∷ optional (codes "origin") Origin
    ∷ optional (codes "med") (Number 0 4294967295)
    ∷ optional (codes "next_hop") Host
    ∷ []

abbrev pub withdraw_keys : List KeyRow
withdraw_keys = required (codes "peering") Name ∷ required_array (codes "prefixes") 1 200 Prefix ∷ []

abbrev pub raw_keys : List KeyRow
raw_keys = required (codes "peering") Name ∷ required (codes "hex") (Hex 1 4096) ∷ []

abbrev pub graft_keys : List KeyRow
graft_keys = required (codes "peering") Name ∷ required (codes "to") Name ∷ []

abbrev pub settle_keys : List KeyRow
settle_keys = optional (codes "rounds") (Number 1 16384) ∷ optional (codes "least") (Number 0 1024) ∷ []

abbrev pub evacuate_keys : List KeyRow
evacuate_keys = required (codes "router") Name ∷ []

abbrev pub keys_of : StepWord → List KeyRow
keys_of Announces = announce_keys
keys_of Withdraws = withdraw_keys
keys_of SaysRaw = raw_keys
keys_of Grafts = graft_keys
keys_of Settles = settle_keys
keys_of Evacuates = evacuate_keys

abbrev pub do_keys : List KeyRow
do_keys = required (codes "do") kinds.StepWord ∷ []

-- The least number of rounds is at most the greatest, if that is given.
abbrev pub least_flaw : StepWord → ℕ → Members → Option Flaw
least_flaw Settles i t =
    let least = number_or 32 0 (codes "least") t in
    flaw_if (nat_lt (number_or 32 least (codes "rounds") t) least) (Limit (spot_of (tables.Step i) (codes "least")) least)
least_flaw word i t = None

abbrev pub worded_flaw : StepWord → ℕ → Members → Option Flaw
worded_flaw word i t = first_of (
    keys_flaw (tables.Step i) (keys_of word) t
    ∷ least_flaw word i t
    ∷ stray_flaw (tables.Step i) (codes "do" ∷ names_of (keys_of word)) t
    ∷ [])

-- given whether a step evacuates before this one in its group, and anywhere in it
abbrev pub grouped_flaw : (before whole : Bool) → ℕ → Members → Option Flaw
grouped_flaw before whole i t = first_of (
    keys_flaw (tables.Step i) do_keys t
    ∷ flaw_if (is_crowded before whole (word_at t)) (Shape (spot_of (tables.Step i) (codes "do")))
    ∷ worded_flaw (word_at t) i t
    ∷ [])

abbrev pub step_flaw : List Data → ℕ → Members → Option Flaw
step_flaw steps i t =
    let before = evacuates (group_before steps i) in
    grouped_flaw before (before || evacuates (group_from steps i)) i t

-- ---- what a step says

-- a path of one sequence, or none
abbrev pub sequence_path : List ℕ → List PathPart
sequence_path [] = []
sequence_path (as_number ∷ ases) = Sequence (as_number ∷ ases) ∷ []

abbrev pub step_ases : ℕ → Members → List ℕ
step_ases remote_as t = if has_member (codes "path") t then numbers_at (codes "path") t else remote_as ∷ []

-- Defaults of what is left out: its own AS as path, ORIGIN IGP, no MULTI_EXIT_DISC, and its own address as next hop.
abbrev pub attrs_of : (remote_as remote_address : ℕ) → Members → Attrs
attrs_of remote_as remote_address t = record {
  origin = unwrap_or (origin_at (codes "origin") t) Igp;
  path = sequence_path (step_ases remote_as t);
  next_hop = address_or remote_address (codes "next_hop") t;
  med = maybe_number 32 (codes "med") t;
  atomic = false;
  aggregator = None;
  unknown = [];
}

-- a prefix that occurs more than once is said once, where it first stands
abbrev pub said_prefixes : Members → List PrefixValue
said_prefixes t = once_after [] (prefixes_at (codes "prefixes") t)

abbrev pub peering_number : List PeeringInput → Members → ℕ
peering_number peerings t = index_of_name (map (λ p. p.name) peerings) (text_at (codes "peering") t)

-- the attributes that a remote announces
abbrev pub said_attrs : Option PeeringInput → Members → Attrs
said_attrs None t = attrs_of 0 0 t
said_attrs (Some remote) t = attrs_of remote.remote_as remote.remote_address t

abbrev pub worded_step : StepWord → List (List ℕ) → List PeeringInput → Members → Step
worded_step Announces routers peerings t =
    Announce (record { 0 = peering_number peerings t }) (said_prefixes t) (said_attrs (slice_get peerings (peering_number peerings t)) t)
worded_step Withdraws routers peerings t = Withdraw (record { 0 = peering_number peerings t }) (said_prefixes t)
worded_step SaysRaw routers peerings t = Raw (record { 0 = peering_number peerings t }) (octets_at (codes "hex") t)
worded_step Grafts routers peerings t = Graft (record { 0 = peering_number peerings t }) (record { 0 = index_of_name routers (text_at (codes "to") t) })
worded_step Settles routers peerings t = Settle (maybe_number 32 (codes "rounds") t) (number_or 32 0 (codes "least") t)
worded_step Evacuates routers peerings t = Evacuate (record { 0 = index_of_name routers (text_at (codes "router") t) })

abbrev pub step_of : List (List ℕ) → List PeeringInput → Members → Step
step_of routers peerings t = worded_step (word_at t) routers peerings t
