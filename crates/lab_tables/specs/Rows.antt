-- The rows of each table: the keys by which it is tested, arrays of tables among them.
use Rattle.std.specs.Prelude.{ℕ, List, [], ◌∷◌, ◌++◌, Option, Some, None, option_and_then, slice_get, codes}
use Rattle.toml.specs.Data.{Members, as_table}
use Rattle.lab_keys.specs.declared.table_at.TableAt.{TableAt}
use Rattle.lab_keys.specs.declared.table_at.TableAt.TheVariants.{Top, Router, Policy, Rule, Cost, Peering, Fault, Step, Expect}
use Rattle.lab_keys.specs.KeyRows.{KeyRow}
use Rattle.lab_keys.specs.Values.{has_member, items_at}
use Rattle.lab_tables.specs.Meanings.{fault_kind_at, word_at}
use Rattle.lab_tables.specs.Routers.{rule_keys, policy_keys, rule_row, router_keys, policy_row}
use Rattle.lab_tables.specs.Peerings.{cost_ends, cost_rest, peering_ends, peering_rest, peering_last, fault_keys, after_keys, is_lost}
use Rattle.lab_tables.specs.Scripts.{do_keys, keys_of}
use Rattle.lab_tables.specs.declared.expects.ExpectForm.{ExpectForm}
use Rattle.lab_tables.specs.Expects.{form_of, expect_keys}
use Rattle.lab_tables.specs.Documents.{top_keys}

-- the table at an index of the array at a key
abbrev pub table_in : List ℕ → ℕ → Members → Option Members
table_in key i t = option_and_then as_table (slice_get (items_at key t) i)

-- the table of a document that stands there
abbrev pub table_at : TableAt → Members → Option Members
table_at Top doc = Some doc
table_at (Router i) doc = table_in (codes "router") i doc
table_at (Policy i j) doc = option_and_then (table_in (codes "policy") j) (table_in (codes "router") i doc)
table_at (Rule i j k) doc =
    option_and_then (table_in (codes "rule") k) (option_and_then (table_in (codes "policy") j) (table_in (codes "router") i doc))
table_at (Cost i) doc = table_in (codes "cost") i doc
table_at (Peering i) doc = table_in (codes "peering") i doc
table_at (Fault i) doc = table_in (codes "fault") i doc
table_at (Step i) doc = table_in (codes "step") i doc
table_at (Expect i) doc = table_in (codes "expect") i doc

-- the rows of an expectation of a form; none where it has no form
abbrev pub form_rows : Option ExpectForm → List KeyRow
form_rows None = []
form_rows (Some form) = expect_keys form

-- the rows of the table that stands there; some tables have other rows by what is in them
abbrev pub rows_at : TableAt → Members → List KeyRow
rows_at Top t = top_keys
rows_at (Router i) t = router_keys ++ policy_row ∷ []
rows_at (Policy i j) t = policy_keys ++ rule_row ∷ []
rows_at (Rule i j k) t = rule_keys (has_member (codes "prefix") t)
rows_at (Cost i) t = cost_ends ++ cost_rest
rows_at (Peering i) t = peering_ends ++ peering_rest ++ peering_last
rows_at (Fault i) t = fault_keys ++ after_keys (is_lost (fault_kind_at t))
rows_at (Step i) t = do_keys ++ keys_of (word_at t)
rows_at (Expect i) t = form_rows (form_of t)
