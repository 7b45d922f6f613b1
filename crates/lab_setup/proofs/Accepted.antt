-- What is known of an input that was accepted.
use Rattle.std.proofs.Common.{◌≡◌, ℕ, ◌^◌, ◌<◌, ◌≤◌, Bool, true, false, List, [], ◌∷◌, length, map, refl, sym, ◌∙◌, subst, arith, nat_lt, ◌||◌}
use Rattle.std.specs.Prelude.{Option, Some, None, All, codes, slice_get}
use Rattle.std.specs.Option.{option_or}
use Rattle.std.specs.List.{AllByRecursion, IsDistinct}
use Rattle.std.proofs.lemmas.Bool.{false≢true}
use Rattle.std.proofs.lemmas.Bool.Decides.{nat_tests}
use Rattle.std.proofs.lemmas.List.{length-map}
use Rattle.std.proofs.lemmas.List.Elements.{All-from_recursion, All-nil}
use Rattle.toml.specs.Data.{Data, string, integer, float, boolean, datetime, array, table, Members, get_member}
use Rattle.bgp_types.specs.declared.message.Message.TheVariants.{UpdateMsg}
use Rattle.bgp_types.specs.Prefixes.{IsPrefix}
use Rattle.bgp_types.specs.Spelling.{spell}
use Rattle.bgp_types.specs.Values.{is_no_host}
use Rattle.bgp_types.specs.Writable.{IsWritable}
use Rattle.graft_model.specs.Setups.{IsSetup}
use Rattle.graft_laws.specs.Emptied.{EmptyAlone}
use Rattle.lab_keys.specs.declared.flaw.Flaw.{Flaw}
use Rattle.lab_keys.specs.declared.flaw.Flaw.TheVariants.{Shape, Limit}
use Rattle.lab_keys.specs.declared.table_at.TableAt.{TableAt}
use Rattle.lab_keys.specs.declared.table_at.TableAt.TheVariants as tables
use Rattle.lab_keys.specs.Spots.{KeySpot, spot_of, member_of}
use Rattle.lab_keys.specs.Kinds.{each_from, flaw_if, beyond, list_of, array_flaw, table_flaw}
use Rattle.lab_keys.specs.Keys.{present, keys_flaw, stray_flaw, tables_flaw}
use Rattle.lab_keys.specs.Values.{text_at, items_at, tables_at}
use Rattle.lab_keys.proofs.NoFlaws.{none_left, none_right, tables_few, tables_all}
use Rattle.lab_tables.specs.declared.input.LabInput.{LabInput}
use Rattle.lab_tables.specs.declared.input.PeeringInput.{PeeringInput}
use Rattle.lab_tables.specs.declared.input.Step.{Step}
use Rattle.lab_tables.specs.declared.input.Step.TheVariants.{Announce, Withdraw, Raw, Graft, Settle, Evacuate}
use Rattle.lab_keys.specs.declared.words.StepWord.{StepWord}
use Rattle.lab_keys.specs.declared.words.StepWord.TheVariants.{Announces, Withdraws, SaysRaw, Grafts, Settles, Evacuates}
use Rattle.lab_tables.specs.Meanings.{index_of_name, word_at}
use Rattle.lab_tables.specs.Routers.{router_flaw, router_of}
use Rattle.lab_tables.specs.Peerings.{cost_flaw, peering_flaw, peering_input, fault_flaw}
use Rattle.lab_tables.specs.Scripts.{step_flaw, peering_number, worded_step, step_of}
use Rattle.lab_tables.specs.Expects.{most_graft, expect_flaw}
use Rattle.lab_tables.specs.Documents.{home_keys, top_names, trace_keys, shaped, router_names_of, peerings_of, peering_names_of, lab_of}
use Rattle.lab_input.specs.Names.{unknown, worded_named, step_named}
use Rattle.lab_input.specs.Said.{step_update}
use Rattle.lab_input.proofs.Ready.{accepted, IsRemote, IsRemoteOf, remote_kept, says_update, Says, SaysWell, steps_well}
use Rattle.lab_setup.specs.Setups.{setup_of}
use Rattle.lab_setup.proofs.Lists.{none_of, all_mapped, all_at, below_get}
use Rattle.lab_setup.proofs.Names.{known, number_below, names_kept}
use Rattle.lab_setup.proofs.Ready.{accepted_ready}
use Rattle.lab_setup.proofs.Alone.{accepted_alone}
use Rattle.lab_setup.specs.Accepted.{IsAccepted}

-- ---- how many there are

pub record HasFew (input : LabInput) : Type 0 where
  pub routers : length input.routers ≤ 8
  pub peerings : length input.peerings ≤ 32
  pub steps : length input.steps ≤ 4096

none_some : {A : Type 0} (x : A) → Some x ≡ None → ⊥
none_some x e = cc

none_both : {A : Type 0} (a b : Option A) → a ≡ None → b ≡ None → option_or a b ≡ None
none_both None b e f = f
none_both (Some x) b e f = absurd (none_some x e)

-- a count that isn't beyond its limits isn't beyond the upper one
not_above : (at : KeySpot) (low high n : ℕ) → beyond at low high n ≡ None → beyond at 0 high n ≡ None
not_above at low high n none = by_tests (nat_lt n low) (nat_lt high n) (nat_lt n 0) none refl where
  by_tests : (a b c : Bool) → flaw_if (a || b) (Limit at n) ≡ None → nat_lt n 0 ≡ c → flaw_if (c || b) (Limit at n) ≡ None
  by_tests a b true none e = absurd (let f : nat_lt n 0 ≡ false = grind (arith, nat_tests) in false≢true (sym f ∙ e))
  by_tests true b false none e = absurd (none_some (Limit at n) none)
  by_tests false b false none e = none

array_not_above : (at : KeySpot) (low high : ℕ) (flaw : ℕ → Data → Option Flaw) (d : Data) → array_flaw at low high flaw d ≡ None
    → array_flaw at 0 high flaw d ≡ None
array_not_above at low high flaw (array items) none =
    let count = beyond at low high (length (list_of items)) in
    let each = each_from flaw 0 (list_of items) in
    none_both (beyond at 0 high (length (list_of items))) each
    (not_above at low high (length (list_of items)) (none_left count each none)) (none_right count each none)
array_not_above at low high flaw (string _) none = absurd (none_some (Shape at) none)
array_not_above at low high flaw (integer _) none = absurd (none_some (Shape at) none)
array_not_above at low high flaw (float _) none = absurd (none_some (Shape at) none)
array_not_above at low high flaw (boolean _) none = absurd (none_some (Shape at) none)
array_not_above at low high flaw (datetime _) none = absurd (none_some (Shape at) none)
array_not_above at low high flaw (table _) none = absurd (none_some (Shape at) none)

few_of : (at : TableAt) (t : Members) (key : List ℕ) (needed : Bool) (low high : ℕ) (flaw : ℕ → Members → Option Flaw)
    → tables_flaw at key needed low high flaw t ≡ None → length (tables_at key t) ≤ high
few_of at t key needed low high flaw none = tables_few at t key high flaw (by_value (get_member key t) none) where
  flaws : ℕ → Data → Option Flaw
  flaws i = table_flaw (member_of (spot_of at key) i) (flaw i)

  by_value : (o : Option Data) → present (spot_of at key) needed (array_flaw (spot_of at key) low high flaws) o ≡ None
      → present (spot_of at key) false (array_flaw (spot_of at key) 0 high flaws) o ≡ None
  by_value None none = refl
  by_value (Some d) none = array_not_above (spot_of at key) low high flaws d none

-- what is known of a document whose tables have no flaw
record HasTables (doc : Members) : Type 0 where
  routers : length (tables_at (codes "router") doc) ≤ 8
  peerings : length (tables_at (codes "peering") doc) ≤ 32
  steps : length (tables_at (codes "step") doc) ≤ 4096
  remotes : AllByRecursion IsRemote (tables_at (codes "peering") doc)
  said : AllByRecursion (SaysWell (router_names_of doc) (peerings_of doc)) (tables_at (codes "step") doc)

tables_kept : (doc : Members) → shaped doc ≡ None → HasTables doc
tables_kept doc none =
    let step : ℕ → Members → Option Flaw = step_flaw (items_at (codes "step") doc) in
    let router : Option Flaw = tables_flaw tables.Top (codes "router") true 1 8 router_flaw doc in
    let peering : Option Flaw = tables_flaw tables.Top (codes "peering") false 0 32 (peering_flaw doc) doc in
    let steps : Option Flaw = tables_flaw tables.Top (codes "step") false 0 4096 step doc in
    let flaws : List (Option Flaw) = keys_flaw tables.Top home_keys doc
    ∷ stray_flaw tables.Top top_names doc
    ∷ router
    ∷ tables_flaw tables.Top (codes "cost") false 0 56 cost_flaw doc
    ∷ peering
    ∷ tables_flaw tables.Top (codes "fault") false 0 1024 fault_flaw doc
    ∷ steps
    ∷ keys_flaw tables.Top trace_keys doc
    ∷ tables_flaw tables.Top (codes "expect") false 0 1024 (expect_flaw (most_graft doc)) doc
    ∷ [] in
    let no_router : router ≡ None = none_of flaws 2 router none refl in
    let no_peering : peering ≡ None = none_of flaws 4 peering none refl in
    let no_step : steps ≡ None = none_of flaws 6 steps none refl in
    record {
      routers = few_of tables.Top doc (codes "router") true 1 8 router_flaw no_router;
      peerings = few_of tables.Top doc (codes "peering") false 0 32 (peering_flaw doc) no_peering;
      steps = few_of tables.Top doc (codes "step") false 0 4096 step no_step;
      remotes = tables_all tables.Top doc (codes "peering") false 0 32 (peering_flaw doc) IsRemote (remote_kept doc) no_peering;
      said = steps_well doc (router_names_of doc) (peerings_of doc) no_step;
    }

lab_few : (doc : Members) → HasTables doc → HasFew (lab_of doc)
lab_few doc kept =
    let routers = length-map (tables_at (codes "router") doc) router_of in
    let peerings = length-map (tables_at (codes "peering") doc) (peering_input doc (router_names_of doc)) in
    let steps = length-map (tables_at (codes "step") doc) (step_of (router_names_of doc) (peerings_of doc)) in
    let a = kept.routers in
    let b = kept.peerings in
    let c = kept.steps in
    record { routers = omega arith; peerings = omega arith; steps = omega arith }

pub few : (input : LabInput) → IsAccepted input → HasFew input
few input from = let a = accepted from.bytes input from.is in subst HasFew a.is (lab_few a.doc (tables_kept a.doc a.no_flaw))

pub is_setup : (input : LabInput) → IsAccepted input → IsSetup (setup_of input)
is_setup input from = accepted_ready from.bytes input from.is

pub is_alone : (input : LabInput) → IsAccepted input → EmptyAlone (setup_of input)
is_alone input from = accepted_alone from.bytes input from.is

-- ---- what steps say

-- an UPDATE without prefixes can be written
nothing_said : (wide : Bool) → IsWritable (UpdateMsg (record { withdrawn = []; attrs = None; nlri = [] })) wide
unfolding spell IsDistinct
nothing_said wide = record {
  body = record { withdrawn = All-nil IsPrefix; nlri = All-nil IsPrefix; once = tt; attrs = refl };
  size = omega arith;
}

not_said : (step : Step) → says_update step ≡ false → Says step
not_said (Announce peering prefixes a) e = absurd (false≢true (sym e))
not_said (Withdraw peering prefixes) e = absurd (false≢true (sym e))
not_said (Raw peering bytes) e = nothing_said
not_said (Graft peering target) e = nothing_said
not_said (Settle rounds least) e = nothing_said
not_said (Evacuate router) e = nothing_said

module _ (doc : Members) (kept : HasTables doc) where
  abbrev routers : List (List ℕ)
  routers = router_names_of doc

  abbrev peerings : List PeeringInput
  peerings = peerings_of doc

  -- what is known of a peering
  abbrev Speaks : PeeringInput → Type 0
  Speaks p = (p.remote_as < 2 ^ 32) × (is_no_host p.remote_address ≡ false)

  all_speak : AllByRecursion Speaks peerings
  all_speak = all_mapped (peering_input doc routers) IsRemote Speaks
      (λ t is. (let few = is.remote_as.few in omega arith, is.address)) (tables_at (codes "peering") doc) kept.remotes

  speaks : (text : List ℕ) → unknown (peering_names_of doc) text ≡ None → IsRemoteOf (slice_get peerings (index_of_name (peering_names_of doc) text))
  speaks text none =
      let as_many = length-map peerings (λ (p : PeeringInput). p.name) in
      let below = number_below (peering_names_of doc) text (known (peering_names_of doc) text none) in
      let there = below_get peerings (index_of_name (peering_names_of doc) text) (omega arith) in
      subst IsRemoteOf (sym there.is) (all_at Speaks peerings (index_of_name (peering_names_of doc) text) there.x all_speak there.is)

  named : (word : StepWord) (t : Members) → worded_named word routers (peering_names_of doc) t ≡ None → says_update (worded_step word routers peerings t) ≡ true
      → IsRemoteOf (slice_get peerings (peering_number peerings t))
  named Announces t none says = speaks (text_at (codes "peering") t) none
  named Withdraws t none says = speaks (text_at (codes "peering") t) none
  named SaysRaw t none says = absurd (false≢true says)
  named Grafts t none says = absurd (false≢true says)
  named Settles t none says = absurd (false≢true says)
  named Evacuates t none says = absurd (false≢true says)

  said_well : (t : Members) → SaysWell routers peerings t → step_named routers (peering_names_of doc) t ≡ None → Says (step_of routers peerings t)
  said_well t well none = by_test (says_update (step_of routers peerings t)) refl where
    by_test : (says : Bool) → says_update (step_of routers peerings t) ≡ says → Says (step_of routers peerings t)
    by_test true e = well (named (word_at t) t none) e
    by_test false e = not_said (step_of routers peerings t) e

  all_said : (ts : List Members) → AllByRecursion (SaysWell routers peerings) ts
      → AllByRecursion (λ t. step_named routers (peering_names_of doc) t ≡ None) ts → AllByRecursion Says (map (step_of routers peerings) ts)
  all_said [] wells nones = tt
  all_said (t ∷ ts) wells nones = (said_well t wells.0 nones.0, all_said ts wells.1 nones.1)

in_width : (wide : Bool) (steps : List Step) → AllByRecursion Says steps → AllByRecursion (λ step. IsWritable (UpdateMsg (step_update step)) wide) steps
in_width wide [] all = tt
in_width wide (step ∷ steps) all = (all.0 wide, in_width wide steps all.1)

-- the UPDATE of each step can be written with AS numbers of two octets and of four
pub writable : (input : LabInput) → IsAccepted input → (wide : Bool) → All (λ step. IsWritable (UpdateMsg (step_update step)) wide) input.steps
writable input from wide =
    let a = accepted from.bytes input from.is in
    let kept : HasTables a.doc = tables_kept a.doc a.no_flaw in
    let said : AllByRecursion Says (lab_of a.doc).steps = all_said a.doc kept (tables_at (codes "step") a.doc) kept.said (names_kept a.doc a.no_name).steps in
    All-from_recursion (λ (step : Step). IsWritable (UpdateMsg (step_update step)) wide) input.steps
    (in_width wide input.steps (subst (λ (i : LabInput). AllByRecursion Says i.steps) a.is said))
