-- How prefixes are gathered into UPDATEs, one by one.
use Rattle.std.specs.Prelude.{ℕ, ◌≡◌, ◌≢◌, ◌≤◌, ◌<◌, ◌⊎◌, List, [], ◌∷◌, ◌++◌, length, map, Option, Some, None, Bool, All}
use Rattle.std.specs.BTreeMap.{get}
use Rattle.std.specs.Cmp.Lexicographic.{slice_cmp}
use Rattle.std.specs.Ordering.{nat_cmp}
use Rattle.bgp_types.specs.declared.attrs.Attrs.{Attrs}
use Rattle.bgp_types.specs.Prefixes.{PrefixValue, IsPrefix}
use Rattle.update_plan.specs.declared.batch.Batch.{Batch}
use Rattle.update_plan.specs.declared.gather.Gathered.{Gathered}
use Rattle.update_plan.specs.declared.grouping.Grouped.{Grouped}
use Rattle.update_plan.specs.Codes.{value_code}
use Rattle.update_plan.specs.Plans.{octets}

-- no UPDATE tells this
abbrev pub NoneTells : Option Attrs → List Batch → Type 0
NoneTells attrs batches = All (λ batch. batch.attrs ≢ attrs) batches

-- the last UPDATE that tells this
pub record LastThatTells (attrs : Option Attrs) (batches before : List Batch) (batch : Batch) (after : List Batch) : Type 0 where
  pub is : batches ≡ before ++ batch ∷ after
  pub told : batch.attrs ≡ attrs
  pub last : NoneTells attrs after

-- a batch with one more prefix
abbrev pub with_prefix : Batch → PrefixValue → Batch
with_prefix batch prefix = record batch { prefixes = batch.prefixes ++ prefix ∷ [] }

-- A prefix joins the last UPDATE that tells what is to be told of it, if it then has at most 4,096 octets.
pub record Joins (wide : Bool) (attrs : Option Attrs) (prefix : PrefixValue) (old new : List Batch) : Type 0 where
  pub before : List Batch
  pub batch : Batch
  pub after : List Batch
  pub there : LastThatTells attrs old before batch after
  pub fits : octets wide attrs (batch.prefixes ++ prefix ∷ []) ≤ 4096
  pub effect : new ≡ before ++ with_prefix batch prefix ∷ after

-- If there is no such UPDATE, or it is full, the prefix begins another behind all others.
pub record BeginsUpdate (wide : Bool) (attrs : Option Attrs) (prefix : PrefixValue) (old new : List Batch) : Type 0 where
  pub full : (before : List Batch) (batch : Batch) (after : List Batch) → LastThatTells attrs old before batch after
      → 4096 < octets wide attrs (batch.prefixes ++ prefix ∷ [])
  pub effect : new ≡ old ++ record { attrs = attrs; prefixes = prefix ∷ [] } ∷ []

abbrev pub AddsToUpdates : Bool → Option Attrs → PrefixValue → List Batch → List Batch → Type 0
AddsToUpdates wide attrs prefix old new = Joins wide attrs prefix old new ⊎ BeginsUpdate wide attrs prefix old new

-- If what was told of a prefix is what is to be told, nothing changes. Else the prefix is added.
abbrev pub GathersBy : (Option Attrs → PrefixValue → List Batch → List Batch → Type 0) → Option Attrs → (PrefixValue → Option Attrs)
    → PrefixValue → List Batch → List Batch → Type 0
GathersBy Adds told to_tell prefix old new = ((told ≡ to_tell prefix) × (new ≡ old)) ⊎ ((told ≢ to_tell prefix) × Adds (to_tell prefix) prefix old new)

abbrev pub Gathers : Bool → Option Attrs → (PrefixValue → Option Attrs) → PrefixValue → List Batch → List Batch → Type 0
Gathers wide told to_tell prefix old new = GathersBy (AddsToUpdates wide) told to_tell prefix old new

-- ---- into one batch for each value, however many octets that has

pub record JoinsBatch (attrs : Option Attrs) (prefix : PrefixValue) (old new : List Batch) : Type 0 where
  pub before : List Batch
  pub batch : Batch
  pub after : List Batch
  pub there : LastThatTells attrs old before batch after
  pub effect : new ≡ before ++ with_prefix batch prefix ∷ after

pub record BeginsBatch (attrs : Option Attrs) (prefix : PrefixValue) (old new : List Batch) : Type 0 where
  pub none : NoneTells attrs old
  pub effect : new ≡ old ++ record { attrs = attrs; prefixes = prefix ∷ [] } ∷ []

-- A prefix joins the batch that tells what is to be told of it. If none does, it begins one.
abbrev pub AddsToBatches : Option Attrs → PrefixValue → List Batch → List Batch → Type 0
AddsToBatches attrs prefix old new = JoinsBatch attrs prefix old new ⊎ BeginsBatch attrs prefix old new

-- ---- how the UPDATEs that may be joined are found

-- the index of the last UPDATE that tells this
pub record IsIndexOfUpdate (attrs : Option Attrs) (batches : List Batch) (number : ℕ) : Type 0 where
  pub before : List Batch
  pub batch : Batch
  pub after : List Batch
  pub there : LastThatTells attrs batches before batch after
  pub is_number : number ≡ length before

abbrev pub IndexFor : Option Attrs → List Batch → Option ℕ → Type 0
IndexFor attrs batches None = NoneTells attrs batches
IndexFor attrs batches (Some number) = IsIndexOfUpdate attrs batches number

-- the number of octets in the UPDATE that tells a batch
abbrev pub batch_octets : Bool → Batch → ℕ
batch_octets wide batch = octets wide batch.attrs batch.prefixes

-- For each value that can be told, the last UPDATE that tells it is found by its code. The octets of each UPDATE are counted.
pub record GatheredInvariant (gathered : Gathered) : Type 0 where
  pub found : (attrs : Option Attrs) → IndexFor attrs gathered.batches.items (get (slice_cmp nat_cmp) gathered.indices (value_code attrs))
  pub counted : gathered.octets.items ≡ map (batch_octets gathered.wide) gathered.batches.items

-- For each value that can be told, the batch that tells it is found by its code.
pub record GroupedInvariant (grouped : Grouped) : Type 0 where
  pub found : (attrs : Option Attrs) → IndexFor attrs grouped.batches.items (get (slice_cmp nat_cmp) grouped.indices (value_code attrs))

-- All prefixes in UPDATEs are valid prefixes.
abbrev pub AreSound : List Batch → Type 0
AreSound batches = All (λ batch. All IsPrefix batch.prefixes) batches
