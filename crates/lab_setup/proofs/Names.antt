-- What is known of a document whose names are known.
use Rattle.std.proofs.Common.{◌≡◌, ℕ, ◌<◌, Bool, true, false, cond, eqb, List, [], ◌∷◌, length, map, refl, sym, ap, subst}
use Rattle.std.specs.Prelude.{Option, Some, None, codes, is_some}
use Rattle.std.specs.List.{AllByRecursion, list_any, position_or_len}
use Rattle.std.specs.Str.{bytes_eq}
use Rattle.std.proofs.lemmas.Bool.{false≢true}
use Rattle.toml.specs.Data.{Members}
use Rattle.bgp_types.specs.Texts.{address_text}
use Rattle.lab_keys.specs.Kinds.{first_of}
use Rattle.lab_keys.specs.Values.{text_at, maybe_text, tables_at}
use Rattle.lab_tables.specs.declared.input.RouterInput.{RouterInput}
use Rattle.lab_tables.specs.Meanings.{index_of_name}
use Rattle.lab_tables.specs.Documents.{routers_of, router_names_of, peering_names_of}
use Rattle.lab_input.specs.declared.bad.BadInput.{BadInput}
use Rattle.lab_input.specs.declared.bad.BadInput.TheVariants.{Unknown}
use Rattle.lab_input.specs.Names.{each_after, repeated_if, unknown, unknown_at, router_again, cost_named, policies_at}
use Rattle.lab_input.specs.Names.{remote_address_of, peering_named, fault_named, step_named, expect_named, named}
use Rattle.lab_setup.proofs.Lists.{none_of, none_after, none_mapped, first_below, index_of}

some_bad : (bad : BadInput) → Some bad ≡ None → ⊥
some_bad bad e = false≢true (sym (ap is_some e))

-- ---- a name that is known

abbrev pub IsKnown : List (List ℕ) → List ℕ → Type 0
IsKnown names text = list_any (bytes_eq text) names ≡ true

pub known : (names : List (List ℕ)) (text : List ℕ) → unknown names text ≡ None → IsKnown names text
known names text none = by_test (list_any (bytes_eq text) names) none where
  by_test : (t : Bool) → cond t None (Some (Unknown text)) ≡ None → t ≡ true
  by_test true none = refl
  by_test false none = absurd (some_bad (Unknown text) none)

pub number_below : (names : List (List ℕ)) (text : List ℕ) → IsKnown names text → index_of_name names text < length names
number_below names text known =
    let index : index_of_name names text ≡ position_or_len (bytes_eq text) names = index_of (bytes_eq text) names known in
    subst (λ n. n < length names) (sym index) (first_below (bytes_eq text) names known)

-- ---- tables whose names are known

pub record IsNamedPeering (routers : List RouterInput) (t : Members) : Type 0 where
  pub at : IsKnown (map (λ r. r.name) routers) (text_at (codes "at") t)
  pub «import» : unknown_at (policies_at routers (text_at (codes "at") t)) (maybe_text (codes "import") t) ≡ None
  pub export : unknown_at (policies_at routers (text_at (codes "at") t)) (maybe_text (codes "export") t) ≡ None

peering_is_named : (routers : List RouterInput) (before : List Members) (t : Members) → peering_named routers before t ≡ None → IsNamedPeering routers t
peering_is_named routers before t none =
    let names = map (λ r. r.name) routers in
    let policies = policies_at routers (text_at (codes "at") t) in
    let again_name = list_any (λ u. bytes_eq (text_at (codes "name") u) (text_at (codes "name") t)) before in
    let again_remote = list_any (λ u. eqb (remote_address_of u) (remote_address_of t)) before in
    let flaws : List (Option BadInput) = repeated_if again_name (text_at (codes "name") t)
    ∷ unknown names (text_at (codes "at") t)
    ∷ repeated_if again_remote (address_text (remote_address_of t))
    ∷ unknown_at policies (maybe_text (codes "import") t)
    ∷ unknown_at policies (maybe_text (codes "export") t)
    ∷ [] in
    record {
      at = known names (text_at (codes "at") t) (none_of flaws 1 (unknown names (text_at (codes "at") t)) none refl);
      «import» = none_of flaws 3 (unknown_at policies (maybe_text (codes "import") t)) none refl;
      export = none_of flaws 4 (unknown_at policies (maybe_text (codes "export") t)) none refl;
    }

pub record HasNames (doc : Members) : Type 0 where
  pub peerings : AllByRecursion (IsNamedPeering (routers_of doc)) (tables_at (codes "peering") doc)
  pub steps : AllByRecursion (λ t. step_named (router_names_of doc) (peering_names_of doc) t ≡ None) (tables_at (codes "step") doc)

pub names_kept : (doc : Members) → named doc ≡ None → HasNames doc
names_kept doc none =
    let routers = routers_of doc in
    let names = router_names_of doc in
    let remotes = peering_names_of doc in
    let peering = each_after (peering_named routers) [] (tables_at (codes "peering") doc) in
    let step = first_of (map (step_named names remotes) (tables_at (codes "step") doc)) in
    let flaws : List (Option BadInput) = each_after router_again [] routers
    ∷ each_after (cost_named names) [] (tables_at (codes "cost") doc)
    ∷ peering
    ∷ each_after (fault_named remotes) [] (tables_at (codes "fault") doc)
    ∷ step
    ∷ first_of (map (expect_named names remotes) (tables_at (codes "expect") doc))
    ∷ [] in
    record {
      peerings = none_after (peering_named routers) (IsNamedPeering routers) (peering_is_named routers) []
          (tables_at (codes "peering") doc) (none_of flaws 2 peering none refl);
      steps = none_mapped (step_named names remotes) (tables_at (codes "step") doc) (none_of flaws 4 step none refl);
    }
