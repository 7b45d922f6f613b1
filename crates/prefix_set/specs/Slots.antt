-- Sets of prefixes that are kept in slots, each of which says whether its prefix is in the set.
use Rattle.std.specs.Prelude.{◌≡◌, ℕ, ◌≤◌, Bool, true, false, T, List, [], ◌∷◌, length, map as list_map, take, fold, Option, Some, None, if◌then◌else◌}
use Rattle.std.specs.Ordering.{is_lt}
use Rattle.std.specs.FinMap as map
use Rattle.std.specs.List.{AllByRecursion, filter}
use Rattle.bgp_types.specs.Prefixes.{PrefixValue}
use Rattle.bgp_types.specs.Tables.{prefix_cmp}

-- a set of prefixes
abbrev pub PrefixSet : Type 0
PrefixSet = map.FinMap prefix_cmp (Unit {0})

-- a prefix, and whether it is in the set
abbrev pub Slot : Type 0
Slot = PrefixValue × Bool

-- the set, with the prefix of a slot if that says that it is in
abbrev pub with_slot : Slot → PrefixSet → PrefixSet
with_slot (p, true) set = map.insert set p tt
with_slot (p, false) set = set

-- the prefixes that slots say are in, together with those of another set
abbrev pub united : List Slot → PrefixSet → PrefixSet
united [] beside = beside
united (slot ∷ slots) beside = with_slot slot (united slots beside)

-- The prefixes of the slots are in ascending order, and none of the first ones is in the set.
pub record AreSlots (slots : List Slot) (start : ℕ) : Type 0 where
  pub rise : T (map.is_sorted prefix_cmp slots)
  pub within : start ≤ length slots
  pub out : AllByRecursion (λ slot. slot.1 ≡ false) (take start slots)

-- whether a slot that is found says that its prefix is in the set
abbrev pub is_held : Option Bool → Bool
is_held None = false
is_held (Some is_in) = is_in

-- the prefixes that slots say are in
abbrev pub those_in : List Slot → List PrefixValue
those_in slots = list_map (λ slot. slot.0) (filter (λ slot. slot.1) slots)

-- the first of them
abbrev pub first_due_slot : List Slot → Option PrefixValue
first_due_slot [] = None
first_due_slot (slot ∷ slots) = if slot.1 then Some slot.0 else first_due_slot slots

-- the lesser of two prefixes, or the one that there is
abbrev pub lesser_of : Option PrefixValue → Option PrefixValue → Option PrefixValue
lesser_of None other = other
lesser_of (Some one) None = Some one
lesser_of (Some one) (Some other) = if is_lt (prefix_cmp other one) then Some other else Some one

-- a set, with further prefixes
abbrev pub with_all : PrefixSet → List PrefixValue → PrefixSet
with_all set prefixes = fold (λ s p. map.insert s p tt) set prefixes
