-- An input that expects nothing of its run: its rules and its value are those of its other keys.
use Rattle.std.specs.Prelude.{◌≡◌, ℕ, true, false, List, [], ◌∷◌, ◌++◌, map, Option, codes}
use Rattle.toml.specs.Data.{Members}
use Rattle.lab_keys.specs.declared.flaw.Flaw.{Flaw}
use Rattle.lab_keys.specs.declared.table_at.TableAt.TheVariants.{Top}
use Rattle.lab_keys.specs.Kinds.{first_of}
use Rattle.lab_keys.specs.Keys.{keys_flaw, tables_flaw, stray_flaw, names_of}
use Rattle.lab_keys.specs.Values.{tables_at, items_at}
use Rattle.lab_tables.specs.Routers.{router_flaw}
use Rattle.lab_tables.specs.Peerings.{cost_flaw, peering_flaw, fault_flaw}
use Rattle.lab_tables.specs.Scripts.{step_flaw}
use Rattle.lab_tables.specs.Documents.{home_keys, trace_keys, shaped, routers_of, router_names_of, peering_names_of, lab_of}
use Rattle.lab_input.specs.declared.bad.BadInput.{BadInput}
use Rattle.lab_input.specs.Names.{each_after, router_again, cost_named, peering_named, fault_named, step_named, named}

abbrev pub plain_names : List (List ℕ)
plain_names = names_of (home_keys ++ trace_keys) ++ codes "router" ∷ codes "cost" ∷ codes "peering" ∷ codes "fault" ∷ codes "step" ∷ []

-- the first flaw of the other keys
abbrev pub plain_shaped : Members → Option Flaw
plain_shaped doc = first_of (
    keys_flaw Top home_keys doc
    ∷ stray_flaw Top plain_names doc
    ∷ tables_flaw Top (codes "router") true 1 8 router_flaw doc
    ∷ tables_flaw Top (codes "cost") false 0 56 cost_flaw doc
    ∷ tables_flaw Top (codes "peering") false 0 32 (peering_flaw doc) doc
    ∷ tables_flaw Top (codes "fault") false 0 1024 fault_flaw doc
    ∷ tables_flaw Top (codes "step") false 0 4096 (step_flaw (items_at (codes "step") doc)) doc
    ∷ keys_flaw Top trace_keys doc
    ∷ [])

-- the first of their names that is repeated or unknown
abbrev pub plain_named : Members → Option BadInput
plain_named doc = first_of (
    each_after router_again [] (routers_of doc)
    ∷ each_after (cost_named (router_names_of doc)) [] (tables_at (codes "cost") doc)
    ∷ each_after (peering_named (routers_of doc)) [] (tables_at (codes "peering") doc)
    ∷ each_after (fault_named (peering_names_of doc)) [] (tables_at (codes "fault") doc)
    ∷ first_of (map (step_named (router_names_of doc) (peering_names_of doc)) (tables_at (codes "step") doc))
    ∷ [])

pub record IsPlain (doc : Members) : Type 0 where
  pub shapes : shaped doc ≡ plain_shaped doc
  pub names : named doc ≡ plain_named doc
  pub nothing : (lab_of doc).expects ≡ []
