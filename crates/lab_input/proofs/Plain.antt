-- Without the key `expect` nothing hangs on it.
use Rattle.std.proofs.Common.{◌≡◌, ℕ, Bool, true, false, ◌||◌, List, [], ◌∷◌, map, refl, sym, ap, ◌∙◌}
use Rattle.std.specs.Prelude.{Option, Some, None, is_some, codes, if◌then◌else◌}
use Rattle.std.specs.List.{filter_map}
use Rattle.std.proofs.Common.{Ordering, Less, Equal, Greater, nat_cmp}
use Rattle.std.specs.Ordering.{match_ordering}
use Rattle.std.specs.Cmp.Lexicographic.{slice_cmp}
use Rattle.std.specs.Str.{bytes_eq}
use Rattle.std.proofs.lemmas.Bool.{false_from_ne_true}
use Rattle.std.proofs.lemmas.List.Folds.{list_any-append}
use Rattle.std.proofs.lemmas.Slice.Eq.{bytes_eq-Decides}
use Rattle.toml.specs.Data.{Data, Members, no_members, member, get_member, as_table}
use Rattle.lab_keys.specs.declared.flaw.Flaw.{Flaw}
use Rattle.lab_keys.specs.declared.table_at.TableAt.TheVariants.{Top}
use Rattle.lab_keys.specs.Spots.{spot_of, member_of}
use Rattle.lab_keys.specs.Kinds.{first_of, array_flaw, table_flaw}
use Rattle.lab_keys.specs.Keys.{present, is_one_of, stray_in, stray_at, keys_flaw, tables_flaw, row_flaw, stray_flaw}
use Rattle.lab_keys.specs.Values.{has_member, items_in, items_at, tables_at}
use Rattle.lab_tables.specs.Routers.{router_flaw}
use Rattle.lab_tables.specs.Peerings.{cost_flaw, peering_flaw, fault_flaw}
use Rattle.lab_tables.specs.Scripts.{step_flaw}
use Rattle.lab_tables.specs.Documents.{home_keys, trace_keys, router_row, cost_row, peering_row, fault_row, step_row}
use Rattle.lab_tables.specs.Documents.{top_names, routers_of, router_names_of, peering_names_of}
use Rattle.lab_tables.specs.Expects.{most_graft, expect_flaw, expectation_of}
use Rattle.lab_input.specs.declared.bad.BadInput.{BadInput}
use Rattle.lab_input.specs.Names.{each_after, router_again, cost_named, peering_named, fault_named, step_named, expect_named}
use Rattle.lab_input.specs.Plain.{plain_names, IsPlain}

abbrev Key : List ℕ
Key = codes "expect"

none_there : {A : Type 0} (o : Option A) → is_some o ≡ false → o ≡ None
none_there None e = refl
none_there (Some x) e = absurd (let h : true ≡ false = e in cc)

-- ---- keys that are known

or_false : (b : Bool) → (b || (false || false)) ≡ b
or_false true = refl
or_false false = refl

-- the key is no member
record IsOther (key : List ℕ) (ms : Members) : Type 0 where
  other : bytes_eq key Key ≡ false
  rest : get_member Key ms ≡ None

differs : (key : List ℕ) (o : Ordering) → slice_cmp nat_cmp Key key ≡ o → (o ≡ Equal → ⊥) → bytes_eq key Key ≡ false
differs key o is other =
    false_from_ne_true (bytes_eq key Key) (λ same. other (sym is ∙ ap (slice_cmp nat_cmp Key) ((bytes_eq-Decides key Key).0 same)))

some_none : {A : Type 0} (x : A) → Some x ≡ None → ⊥
some_none x e = cc

less_other : Less ≡ Equal → ⊥
less_other e = cc

greater_other : Greater ≡ Equal → ⊥
greater_other e = cc

is_other : (key : List ℕ) (d : Data) (ms : Members) → get_member Key (member key d ms) ≡ None → IsOther key ms
is_other key d ms none = by_order (slice_cmp nat_cmp Key key) refl none where
  by_order : (o : Ordering) → slice_cmp nat_cmp Key key ≡ o → match_ordering o (get_member Key ms) (Some d) (get_member Key ms) ≡ None → IsOther key ms
  by_order Less is none = record { other = differs key Less is less_other; rest = none }
  by_order Equal is none = absurd (some_none d none)
  by_order Greater is none = record { other = differs key Greater is greater_other; rest = none }

known_same : (key : List ℕ) → bytes_eq key Key ≡ false → is_one_of top_names key ≡ is_one_of plain_names key
known_same key other =
    list_any-append (λ name. bytes_eq key name) plain_names (Key ∷ [])
    ∙ ap (λ (b : Bool). is_one_of plain_names key || (b || false)) other ∙ or_false (is_one_of plain_names key)

strays_same : (ms : Members) → get_member Key ms ≡ None → stray_in top_names ms ≡ stray_in plain_names ms
strays_same no_members none = refl
strays_same (member key d ms) none =
    let is = is_other key d ms none in
    ap (λ (b : Bool). if b then stray_in top_names ms else Some key) (known_same key is.other)
    ∙ ap (λ (o : Option (List ℕ)). if is_one_of plain_names key then o else Some key) (strays_same ms is.rest)

-- ---- the parts

abbrev expects_flaw : Members → Option Flaw
expects_flaw doc = tables_flaw Top Key false 0 1024 (expect_flaw (most_graft doc)) doc

no_flaw : (doc : Members) → get_member Key doc ≡ None → expects_flaw doc ≡ None
no_flaw doc none =
    let at = spot_of Top Key in
    ap (present at false (array_flaw at 0 1024 (λ i. table_flaw (member_of at i) (expect_flaw (most_graft doc) i)))) none

no_tables : (doc : Members) → get_member Key doc ≡ None → tables_at Key doc ≡ []
no_tables doc none = ap (λ o. filter_map as_table (items_in o)) none

-- the rules, given the flaws of unknown keys and of expectations
abbrev shaped_by : Members → (strays expects : Option Flaw) → Option Flaw
shaped_by doc strays expects = first_of (
    keys_flaw Top home_keys doc
    ∷ strays
    ∷ row_flaw Top router_row router_flaw doc
    ∷ row_flaw Top cost_row cost_flaw doc
    ∷ row_flaw Top peering_row (peering_flaw doc) doc
    ∷ row_flaw Top fault_row fault_flaw doc
    ∷ row_flaw Top step_row (step_flaw (items_at (codes "step") doc)) doc
    ∷ keys_flaw Top trace_keys doc
    ∷ expects
    ∷ [])

-- the wrong names, given that of the expectations
abbrev named_by : Members → (expects : Option BadInput) → Option BadInput
named_by doc expects = first_of (
    each_after router_again [] (routers_of doc)
    ∷ each_after (cost_named (router_names_of doc)) [] (tables_at (codes "cost") doc)
    ∷ each_after (peering_named (routers_of doc)) [] (tables_at (codes "peering") doc)
    ∷ each_after (fault_named (peering_names_of doc)) [] (tables_at (codes "fault") doc)
    ∷ first_of (map (step_named (router_names_of doc) (peering_names_of doc)) (tables_at (codes "step") doc))
    ∷ expects
    ∷ [])

pub plain : (doc : Members) → has_member Key doc ≡ false → IsPlain doc
plain doc absent =
    let none = none_there (get_member Key doc) absent in
    let tables = no_tables doc none in
    record {
      shapes =
          ap (λ ks. shaped_by doc (stray_at Top ks) (expects_flaw doc)) (strays_same doc none)
          ∙ ap (shaped_by doc (stray_flaw Top plain_names doc)) (no_flaw doc none);
      names = ap (λ ts. named_by doc (first_of (map (expect_named (router_names_of doc) (peering_names_of doc)) ts))) tables;
      nothing = ap (map (expectation_of (router_names_of doc) (peering_names_of doc))) tables;
    }
