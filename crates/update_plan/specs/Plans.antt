-- The UPDATEs that tell prefixes, each with as many as fit (RFC 4271, sections 4.1, 4.3 and 9.2).
use Rattle.std.specs.Prelude.{ℕ, ◌≡◌, ◌≢◌, ◌≤◌, ◌<◌, List, [], ◌∷◌, ◌++◌, length, Option, IfSome, Bool, false, All, AllPairs, Contains}
use Rattle.std.specs.List.{list_any}
use Rattle.std.specs.Ordering.{is_lt}
use Rattle.bgp_types.specs.declared.attrs.Attrs.{Attrs}
use Rattle.bgp_types.specs.declared.message.Message.TheVariants.{UpdateMsg}
use Rattle.bgp_types.specs.Prefixes.{PrefixValue, same_prefix}
use Rattle.bgp_types.specs.Spelling.{spell}
use Rattle.bgp_types.specs.Tables.{prefix_cmp}
use Rattle.bgp_types.specs.Writable.{IsWritableAttrs}
use Rattle.session_value.specs.Cases.{update_for}
use Rattle.session_value.specs.Sets.{Lists}
use Rattle.update_plan.specs.declared.batch.Batch.{Batch}

-- ---- the least

-- the prefix is of this kind, and none of the kind is below it
pub record IsLeastPrefix (Is : PrefixValue → Type 0) (prefix : PrefixValue) : Type 0 where
  pub is : Is prefix
  pub least : (x : PrefixValue) → Is x → is_lt (prefix_cmp x prefix) ≡ false

-- ---- plans

-- the number of octets in the UPDATE that tells this of prefixes
abbrev pub octets : Bool → Option Attrs → List PrefixValue → ℕ
octets wide attrs prefixes = length (spell (UpdateMsg (update_for attrs prefixes)) wide)

-- The next UPDATE: of the prefixes that are to be told the same as the least one of all, the first in ascending order, as many as fit in one message
-- of 4,096 octets (RFC 4271, section 4.1).
pub record IsNext (Is : PrefixValue → Type 0) (to_tell : PrefixValue → Option Attrs) (wide : Bool) (batch : Batch) : Type 0 where
  pub first : PrefixValue
  pub least : IsLeastPrefix Is first
  pub told_first : batch.attrs ≡ to_tell first
  pub later : List PrefixValue
  pub alike : Lists (λ x. Is x × (to_tell x ≡ batch.attrs)) (batch.prefixes ++ later)
  pub some : batch.prefixes ≢ []
  pub fits : octets wide batch.attrs batch.prefixes ≤ 4096
  pub whole : (next : PrefixValue) (rest : List PrefixValue) → later ≡ next ∷ rest → 4096 < octets wide batch.attrs (batch.prefixes ++ next ∷ [])

-- those of a kind that aren't in a list
abbrev pub Without : (PrefixValue → Type 0) → List PrefixValue → PrefixValue → Type 0
Without Is prefixes x = Is x × (list_any (same_prefix x) prefixes ≡ false)

-- Each UPDATE is the next one for what those before it leave, and the last one leaves nothing.
abbrev pub IsPlan : (PrefixValue → Type 0) → (PrefixValue → Option Attrs) → Bool → List Batch → Type 0
IsPlan Is to_tell wide [] = (x : PrefixValue) → Is x → ⊥
IsPlan Is to_tell wide (batch ∷ batches) = IsNext Is to_tell wide batch × IsPlan (Without Is batch.prefixes) to_tell wide batches

-- The batches have all prefixes of a kind, one batch for each value that is to be told.
pub record AreWholeBatches (Is : PrefixValue → Type 0) (to_tell : PrefixValue → Option Attrs) (batches : List Batch) : Type 0 where
  pub each : All (λ batch. Lists (λ x. Is x × (to_tell x ≡ batch.attrs)) batch.prefixes × (batch.prefixes ≢ [])) batches
  pub all : (x : PrefixValue) → Is x → (batch : Batch) × Contains batches batch × (batch.attrs ≡ to_tell x)
  pub once : AllPairs (λ one other. one.attrs ≢ other.attrs) batches

-- the attributes that a batch announces, if it announces any, have a written form (RFC 4271, section 4.3)
abbrev pub IsWritableFor : Batch → Type 0
IsWritableFor batch = IfSome batch.attrs IsWritableAttrs
