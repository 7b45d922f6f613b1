-- Where a value is in an input.
use Rattle.std.specs.Prelude.{ℕ, List, [], ◌++◌, Option, Some, None, codes, decimal}
use Rattle.lab_keys.specs.declared.table_at.TableAt.{TableAt}
use Rattle.lab_keys.specs.declared.table_at.TableAt.TheVariants.{Top, Router, Policy, Rule, Cost, Peering, Fault, Step, Expect}

-- a key of a table and, for a member of the array at that key, its index
pub record KeySpot : Type 0 where
  pub table : TableAt
  pub key : List ℕ
  pub member : Option ℕ

abbrev pub spot_of : TableAt → List ℕ → KeySpot
spot_of at key = record { table = at; key = key; member = None }

abbrev pub member_of : KeySpot → ℕ → KeySpot
member_of p i = record p { member = Some i }

-- ---- paths, with indices from 0, like `router[0].policy[1].rule[0].ge` or `step[3].prefixes[2]`

abbrev pub index_text : ℕ → List ℕ
index_text i = codes "[" ++ decimal i ++ codes "]"

abbrev pub table_text : TableAt → List ℕ
table_text Top = []
table_text (Router i) = codes "router" ++ index_text i ++ codes "."
table_text (Policy i j) = codes "router" ++ index_text i ++ codes ".policy" ++ index_text j ++ codes "."
table_text (Rule i j k) = codes "router" ++ index_text i ++ codes ".policy" ++ index_text j ++ codes ".rule" ++ index_text k ++ codes "."
table_text (Cost i) = codes "cost" ++ index_text i ++ codes "."
table_text (Peering i) = codes "peering" ++ index_text i ++ codes "."
table_text (Fault i) = codes "fault" ++ index_text i ++ codes "."
table_text (Step i) = codes "step" ++ index_text i ++ codes "."
table_text (Expect i) = codes "expect" ++ index_text i ++ codes "."

abbrev pub member_text : Option ℕ → List ℕ
member_text None = []
member_text (Some i) = index_text i

abbrev pub key_spot_text : KeySpot → List ℕ
key_spot_text p = table_text p.table ++ p.key ++ member_text p.member
