-- What is due to whom, and what is heard next.
use Rattle.std.specs.Prelude.{ℕ, ◌≡◌, ◌==◌, ◌&&◌, not, nat_lt, Bool, true, false, List, length, Option, Some, slice_index_or}
use Rattle.bgp_types.specs.Prefixes.{PrefixValue}
use Rattle.session_value.specs.Sets.{Prefixes}
use Rattle.rib_stages.specs.Values.{table_at}
use Rattle.graft_steps.specs.declared.item.Item.TheVariants as items
use Rattle.graft_model.specs.Points.{at}
use Rattle.graft_model.specs.Sets.{Drops}
use Rattle.audit_ruling.specs.Rulings.{Parcel}

-- one of so many routers, other than this one
abbrev pub is_other : ℕ → ℕ → ℕ → Bool
is_other routers own q = nat_lt q routers && not (q == own)

abbrev pub is_up_in : List Bool → ℕ → Bool
is_up_in up p = slice_index_or up p false

-- The set of this number loses what passes a test, and the others stay.
pub record DropsAt (p : ℕ) (test : PrefixValue → Bool) (before after : List Prefixes) : Type 0 where
  pub size : length after ≡ length before
  pub effect : table_at after ≡ at (table_at before) p (table_at after p)
  pub drops : Drops (table_at before p) test (table_at after p)

-- a router tells of a prefix
abbrev pub is_telling : Option Parcel → Bool
is_telling (Some (items.Told prefix route)) = true
is_telling next = false
