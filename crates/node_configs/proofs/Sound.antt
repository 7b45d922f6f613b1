-- Each budget of an accepted input is one that a settle can keep.
use Rattle.std.proofs.Common.{◌≡◌, ℕ, ◌+◌, ◌*◌, ◌^◌, ◌<◌, ◌≤◌, Bool, true, false, List, [], ◌∷◌, length, map, refl, sym, ap, ◌∙◌, subst, arith, nat_lt}
use Rattle.std.specs.Prelude.{Option, Some, None, option_and_then, unwrap_or, codes}
use Rattle.std.specs.Option.{option_or}
use Rattle.std.specs.List.{AllByRecursion, flat_map}
use Rattle.std.proofs.lemmas.Bool.Decides.{nat_tests}
use Rattle.toml.specs.Data.{Data, Members, get_member}
use Rattle.lab_keys.specs.declared.flaw.Flaw.{Flaw}
use Rattle.lab_keys.specs.declared.flaw.Flaw.TheVariants.{Shape, Limit}
use Rattle.lab_keys.specs.declared.key.Kind.TheVariants.{Number}
use Rattle.lab_keys.specs.declared.table_at.TableAt.{TableAt}
use Rattle.lab_keys.specs.declared.table_at.TableAt.TheVariants as tables
use Rattle.lab_keys.specs.Spots.{spot_of}
use Rattle.lab_keys.specs.Kinds.{flaw_if, kind_flaw}
use Rattle.lab_keys.specs.Keys.{optional, present, key_flaw, keys_flaw, stray_flaw, tables_flaw, names_of}
use Rattle.lab_keys.specs.Values.{number_in, number_or, maybe_number, items_at, tables_at}
use Rattle.lab_keys.proofs.NoFlaws.{none_left, none_right, IsWithin, number_within, tables_all}
use Rattle.lab_tables.specs.declared.input.LabInput.{LabInput}
use Rattle.lab_tables.specs.declared.input.PeeringInput.{PeeringInput}
use Rattle.lab_keys.specs.declared.words.StepWord.{StepWord}
use Rattle.lab_keys.specs.declared.words.StepWord.TheVariants.{Announces, Withdraws, SaysRaw, Grafts, Settles, Evacuates}
use Rattle.lab_tables.specs.Routers.{router_flaw}
use Rattle.lab_tables.specs.Peerings.{cost_flaw, peering_flaw, fault_flaw}
use Rattle.lab_tables.specs.Meanings.{word_at}
use Rattle.lab_tables.specs.Scripts.{settle_keys, do_keys, is_crowded, least_flaw, worded_flaw, grouped_flaw, step_flaw, worded_step, step_of}
use Rattle.lab_tables.specs.Expects.{most_graft, expect_flaw}
use Rattle.lab_tables.specs.Documents.{home_keys, trace_keys, top_names, shaped, router_names_of, peerings_of, lab_of}
use Rattle.lab_input.specs.Labs.{InputOf}
use Rattle.lab_input.proofs.Ready.{accepted}
use Rattle.lab_setup.proofs.Lists.{none_of, all_append}
use Rattle.node_configs.specs.declared.budget.Budget.{Budget}
use Rattle.node_configs.specs.Budgets.{usual_rounds, budget_of, ends_itself, added_budget, budgets_in, IsSoundBudget}

-- ---- a number that may be left out

module _ (at : TableAt) (t : Members) (key : List ℕ) (bits default low high : ℕ) (fits : high < 2 ^ bits) where
  -- it is within its limits, or the default
  optional_is : (P : ℕ → Type 0) → ((n : ℕ) → IsWithin low high n → P n) → P default → key_flaw at t (optional key (Number low high)) ≡ None
      → P (number_or bits default key t)
  optional_is P each other none = by_value (get_member key t) refl where
    by_value : (o : Option Data) → get_member key t ≡ o → P (number_or bits default key t)
    by_value None e = subst P (sym (ap (λ x. unwrap_or (option_and_then (number_in bits) x) default) e)) other
    by_value (Some d) e =
        let flaw : kind_flaw (Number low high) (spot_of at key) d ≡ None =
        sym (ap (present (spot_of at key) false (kind_flaw (Number low high) (spot_of at key))) e) ∙ none in
        each (number_or bits default key t) (number_within at t key bits default low high fits
        (ap (present (spot_of at key) true (kind_flaw (Number low high) (spot_of at key))) e ∙ flaw))

-- ---- one settle

not_some : (flaw : Flaw) → Some flaw ≡ None → ⊥
not_some flaw e = cc

no_less : (rounds least : ℕ) (flaw : Flaw) → flaw_if (nat_lt rounds least) flaw ≡ None → least ≤ rounds
no_less rounds least flaw none = by_test (nat_lt rounds least) refl none where
  no_more : (a b : ℕ) → nat_lt b a ≡ false → a ≤ b
  no_more a b e = grind (arith, nat_tests)

  by_test : (b : Bool) → nat_lt rounds least ≡ b → flaw_if b flaw ≡ None → least ≤ rounds
  by_test true e none = absurd (not_some flaw none)
  by_test false e none = no_more least rounds e

enough_rounds : (usual least : ℕ) (rounds : Option ℕ) → 2048 ≤ usual → least ≤ 1024 → least ≤ unwrap_or rounds least → least ≤ unwrap_or rounds usual
enough_rounds usual least None long few at_least = omega arith
enough_rounds usual least (Some n) long few at_least = at_least

module _ (usual : ℕ) (long : 2048 ≤ usual) where
  settle_sound : (i : ℕ) (t : Members) → worded_flaw Settles i t ≡ None
      → IsSoundBudget (record { rounds = number_or 32 usual (codes "rounds") t; least = number_or 32 0 (codes "least") t })
  settle_sound i t none =
      let at : TableAt = tables.Step i in
      let rounds_key : Option Flaw = key_flaw at t (optional (codes "rounds") (Number 1 16384)) in
      let least_key : Option Flaw = key_flaw at t (optional (codes "least") (Number 0 1024)) in
      let least : ℕ = number_or 32 0 (codes "least") t in
      let stray : Option Flaw = stray_flaw at (codes "do" ∷ names_of settle_keys) t in
      let keys : keys_flaw at settle_keys t ≡ None = none_left (keys_flaw at settle_keys t) (option_or (least_flaw Settles i t) (option_or stray None)) none in
      let behind = none_right (keys_flaw at settle_keys t) (option_or (least_flaw Settles i t) (option_or stray None)) none in
      let at_least = no_less (number_or 32 least (codes "rounds") t) least (Limit (spot_of at (codes "least")) least)
      (none_left (least_flaw Settles i t) (option_or stray None) behind) in
      let rounds_good = none_left rounds_key (option_or least_key None) keys in
      let least_good = none_left least_key None (none_right rounds_key (option_or least_key None) keys) in
      let few : least ≤ 1024 = optional_is at t (codes "least") 32 0 0 1024 (omega arith) (λ n. n ≤ 1024) (λ n within. within.few) (omega arith) least_good in
      record {
        some = optional_is at t (codes "rounds") 32 usual 1 16384 (omega arith) (λ n. 1 ≤ n) (λ n within. within.enough) (omega arith) rounds_good;
        enough = enough_rounds usual least (maybe_number 32 (codes "rounds") t) long few at_least;
      }

  abbrev AreSound : List Budget → Type 0
  AreSound budgets = AllByRecursion IsSoundBudget budgets

  worded_sound : (word : StepWord) (routers : List (List ℕ)) (ps : List PeeringInput) (i : ℕ) (t : Members) → worded_flaw word i t ≡ None
      → AreSound (budget_of usual (worded_step word routers ps t))
  worded_sound Announces routers ps i t none = tt
  worded_sound Withdraws routers ps i t none = tt
  worded_sound SaysRaw routers ps i t none = tt
  worded_sound Grafts routers ps i t none = tt
  worded_sound Settles routers ps i t none = (settle_sound i t none, tt)
  worded_sound Evacuates routers ps i t none = tt

  step_sound : (routers : List (List ℕ)) (ps : List PeeringInput) (before whole : Bool) (i : ℕ) (t : Members) → grouped_flaw before whole i t ≡ None
      → AreSound (budget_of usual (step_of routers ps t))
  step_sound routers ps before whole i t none =
      let crowded = flaw_if (is_crowded before whole (word_at t)) (Shape (spot_of (tables.Step i) (codes "do"))) in
      let last = option_or (worded_flaw (word_at t) i t) None in
      let behind = none_right (keys_flaw (tables.Step i) do_keys t) (option_or crowded last) none in
      worded_sound (word_at t) routers ps i t (none_left (worded_flaw (word_at t) i t) None (none_right crowded last behind))

  steps_sound : (routers : List (List ℕ)) (ps : List PeeringInput) (ts : List Members)
      → AllByRecursion (λ t. AreSound (budget_of usual (step_of routers ps t))) ts
      → AreSound (flat_map (budget_of usual) (map (step_of routers ps) ts))
  steps_sound routers ps [] all = tt
  steps_sound routers ps (t ∷ ts) all =
      all_append IsSoundBudget (budget_of usual (step_of routers ps t))
      (flat_map (budget_of usual) (map (step_of routers ps) ts)) all.0 (steps_sound routers ps ts all.1)

  added_sound : (ended : Bool) → AreSound (added_budget usual ended)
  added_sound true = tt
  added_sound false = (record { some = omega arith; enough = omega arith }, tt)

-- ---- the whole

long_enough : (faults : ℕ) → 2048 ≤ 2048 + 8 * faults
long_enough faults = omega arith

document_sound : (doc : Members) → shaped doc ≡ None → AllByRecursion IsSoundBudget (budgets_in (lab_of doc))
document_sound doc none =
    let step = step_flaw (items_at (codes "step") doc) in
    let steps : Option Flaw = tables_flaw tables.Top (codes "step") false 0 4096 step doc in
    let flaws : List (Option Flaw) = keys_flaw tables.Top home_keys doc
    ∷ stray_flaw tables.Top top_names doc
    ∷ tables_flaw tables.Top (codes "router") true 1 8 router_flaw doc
    ∷ tables_flaw tables.Top (codes "cost") false 0 56 cost_flaw doc
    ∷ tables_flaw tables.Top (codes "peering") false 0 32 (peering_flaw doc) doc
    ∷ tables_flaw tables.Top (codes "fault") false 0 1024 fault_flaw doc
    ∷ steps
    ∷ keys_flaw tables.Top trace_keys doc
    ∷ tables_flaw tables.Top (codes "expect") false 0 1024 (expect_flaw (most_graft doc)) doc
    ∷ [] in
    let input : LabInput = lab_of doc in
    let usual : ℕ = usual_rounds input in
    let long : 2048 ≤ usual = long_enough (length input.faults) in
    let names : List (List ℕ) = router_names_of doc in
    let ps : List PeeringInput = peerings_of doc in
    let ts : List Members = tables_at (codes "step") doc in
    let each : AllByRecursion (λ t. AllByRecursion IsSoundBudget (budget_of usual (step_of names ps t))) ts =
    tables_all tables.Top doc (codes "step") false 0 4096 step (λ t. AllByRecursion IsSoundBudget (budget_of usual (step_of names ps t)))
    (λ i t good. step_sound usual long names ps _ _ i t good) (none_of flaws 6 steps none refl) in
    all_append IsSoundBudget (flat_map (budget_of usual) (map (step_of names ps) ts))
    (added_budget usual (ends_itself input.steps)) (steps_sound usual long names ps ts each)
    (added_sound usual long (ends_itself input.steps))

pub accepted_sound : (bytes : List ℕ) (input : LabInput) → InputOf bytes input → AllByRecursion IsSoundBudget (budgets_in input)
accepted_sound bytes input e =
    let a = accepted bytes input e in
    subst (λ (i : LabInput). AllByRecursion IsSoundBudget (budgets_in i)) a.is (document_sound a.doc a.no_flaw)
