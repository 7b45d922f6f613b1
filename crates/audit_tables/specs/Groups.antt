-- Prefixes that are to be told on a session, in groups of those that are told the same.
use Rattle.std.specs.Prelude.{ℕ, ◌≡◌, ◌≤◌, List, [], ◌∷◌, ◌++◌, length, reverse, take, Option, Some}
use Rattle.std.specs.FinMap as map
use Rattle.bgp_types.specs.declared.attrs.Attrs.{Attrs}
use Rattle.bgp_types.specs.Prefixes.{PrefixValue}
use Rattle.bgp_types.specs.Tables.{prefix_cmp}
use Rattle.bgp_story.specs.Readings.{Routes}
use Rattle.session_value.specs.Sets.{Lists, Prefixes}
use Rattle.update_plan.specs.Plans.{IsLeastPrefix, Without}
use Rattle.update_plan.specs.ToTell.{IsPrefixToTell}
use Rattle.update_plan.specs.declared.batch.Batch.{Batch}
use Rattle.audit_tables.specs.declared.pending.Group.{Group}

-- What a router tells on a session: the prefixes that are due there, those that are dirty, what was told of each, and what is to be told now.
pub record Telling : Type 0 where
  pub due : Prefixes
  pub dirty : Prefixes
  pub told : Routes
  pub to_tell : PrefixValue → Option Attrs

-- the prefix is to be told
abbrev pub IsPending : Telling → PrefixValue → Type 0
IsPending telling = IsPrefixToTell telling.due telling.dirty telling.told telling.to_tell

-- groups by their least prefixes
abbrev pub GroupTable : Type 0
GroupTable = map.FinMap prefix_cmp Group

-- the prefixes of a group, in ascending order: it has the least one last
abbrev pub prefixes_of : Group → List PrefixValue
prefixes_of group = reverse group.prefixes.items

-- All prefixes of a kind that are to be told what the group has, the least of which is this one.
pub record IsGroup (Is : PrefixValue → Type 0) (to_tell : PrefixValue → Option Attrs) (first : PrefixValue) (group : Group) : Type 0 where
  pub later : List PrefixValue
  pub begins : prefixes_of group ≡ first ∷ later
  pub all : Lists (λ x. Is x × (to_tell x ≡ group.attrs)) (prefixes_of group)

-- The groups are those of all prefixes of a kind, by what is to be told of them.
pub record AreGroups (Is : PrefixValue → Type 0) (to_tell : PrefixValue → Option Attrs) (groups : GroupTable) : Type 0 where
  pub each : (first : PrefixValue) (group : Group) → map.get groups first ≡ Some group → IsGroup Is to_tell first group
  pub all : (x : PrefixValue) → Is x → (first : PrefixValue) × (group : Group) × (map.get groups first ≡ Some group) × (group.attrs ≡ to_tell x)

-- The first prefixes, so many, of those that are to be told the same as the least one of all.
pub record AreFirstAlike (Is : PrefixValue → Type 0) (to_tell : PrefixValue → Option Attrs) (count : ℕ)
    (attrs : Option Attrs) (prefixes : List PrefixValue) : Type 0 where
  pub first : PrefixValue
  pub least : IsLeastPrefix Is first
  pub told_first : attrs ≡ to_tell first
  pub later : List PrefixValue
  pub alike : Lists (λ x. Is x × (to_tell x ≡ attrs)) (prefixes ++ later)
  pub size : length prefixes ≡ count

-- ---- what becomes of groups

-- A group is added by its least prefix, if it has prefixes.
pub record AddsGroup (group : Group) (before after : GroupTable) : Type 0 where
  pub none : prefixes_of group ≡ [] → after ≡ before
  pub some : (first : PrefixValue) (later : List PrefixValue) → prefixes_of group ≡ first ∷ later → after ≡ map.insert before first group

-- the batch has the first prefixes of a group, so many
pub record IsFirstOf (count : ℕ) (group : Group) (batch : Batch) : Type 0 where
  pub enough : count ≤ length (prefixes_of group)
  pub attrs : batch.attrs ≡ group.attrs
  pub prefixes : batch.prefixes ≡ take count (prefixes_of group)

-- Of groups of what is to be told, the first prefixes, so many, of those that are told the same as the least one are no longer there.
abbrev pub LosesFirst : ℕ → GroupTable → GroupTable → Type 0
LosesFirst count before after = (telling : Telling) (attrs : Option Attrs) (prefixes : List PrefixValue) → AreGroups (IsPending telling) telling.to_tell before
    → AreFirstAlike (IsPending telling) telling.to_tell count attrs prefixes → AreGroups (Without (IsPending telling) prefixes) telling.to_tell after
