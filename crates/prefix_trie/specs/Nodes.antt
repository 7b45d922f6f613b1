-- What a node has, and how prefixes are arranged below it.
use Rattle.std.specs.Prelude.{◌≡◌, ℕ, ◌+◌, ◌≤◌, List, [], ◌∷◌, Option, Some, None, Result, Ok, Err}
use Rattle.std.specs.FinMap.{find, put}
use Rattle.bgp_types.specs.Tables.{prefix_cmp}
use Rattle.std.specs.List.{AllByRecursion}
use Rattle.bgp_types.specs.Prefixes.{PrefixValue, IsPrefix}
use Rattle.prefix_trie.specs.Halves.{middle, past, Within}

abbrev pub own : {V : Type 0} → PrefixValue → Option V → List (PrefixValue × V)
own p None = []
own p (Some v) = (p, v) ∷ []

-- Below a prefix, the longer ones of its first half are in one branch, and those of its second half in the other.
pub record IsNode {V : Type 0} (p : PrefixValue) (zero one : List (PrefixValue × V)) : Type 0 where
  pub is : IsPrefix p
  pub zeros : AllByRecursion (λ e. Within p.address (middle p) p.len e.0) zero
  pub ones : AllByRecursion (λ e. Within (middle p) (past p) p.len e.0) one

-- ---- changes, from the entries es and n spare nodes to the entries fs and m spare nodes

-- p has the value, and the value that it had is returned.
pub record IsPut {V : Type 0} (p : PrefixValue) (value : V) (back : Option V) (es fs : List (PrefixValue × V)) (n m : ℕ) : Type 0 where
  pub entries : fs ≡ put prefix_cmp p value es
  pub before : back ≡ find prefix_cmp p es
  pub used : n ≤ m + 2

-- There was no memory for a new prefix, and nothing changed.
pub record IsRefused {V : Type 0} (p : PrefixValue) (value back : V) (es fs : List (PrefixValue × V)) (n m : ℕ) : Type 0 where
  pub entries : fs ≡ es
  pub returned : back ≡ value
  pub new : find prefix_cmp p es ≡ None
  pub few : n ≤ 1
  pub few_left : m ≤ 1

abbrev pub PutResult : {V : Type 0} → Result (Option V) V → PrefixValue → V → List (PrefixValue × V) → List (PrefixValue × V) → ℕ → ℕ → Type 0
PutResult (Ok back) p value es fs n m = IsPut p value back es fs n m
PutResult (Err back) p value es fs n m = IsRefused p value back es fs n m
