-- In a group with an evacuate step no other step moves a session.
use Rattle.std.proofs.Common.{◌≡◌, ℕ, zero, suc, ◌-◌, ◌<◌, ◌≤◌, Bool, true, false, cond, List, [], ◌∷◌}
use Rattle.std.proofs.Common.{length, take, map, refl, sym, ap, ◌∙◌, subst, arith, ◌⊎◌, inl, inr}
use Rattle.std.specs.Prelude.{Option, Some, None, option_map, slice_get, filter, codes}
use Rattle.std.specs.Option.{option_or}
use Rattle.std.specs.List.{last_or}
use Rattle.std.proofs.lemmas.Bool.{false≢true, cases_lt}
use Rattle.std.proofs.lemmas.List.{length-map, take-append-le}
use Rattle.toml.specs.Data.{Data, table, Members}
use Rattle.tcp_seq.proofs.Lookups.{get-append_left, get-append_right}
use Rattle.graft_model.specs.Setups.{Setup, ScriptStep, SayStep, MoveStep, EvacuateStep, SettleStep, group_of, moved_by}
use Rattle.graft_model.specs.Setups.{is_settle as ends_group}
use Rattle.graft_model.proofs.Numbers.{step_of_graft}
use Rattle.graft_laws.specs.Emptied.{EmptyAlone}
use Rattle.lab_keys.specs.declared.flaw.Flaw.{Flaw}
use Rattle.lab_keys.specs.declared.flaw.Flaw.TheVariants.{Shape}
use Rattle.lab_keys.specs.declared.table_at.TableAt.TheVariants as tables
use Rattle.lab_keys.specs.Spots.{spot_of}
use Rattle.lab_keys.specs.Kinds.{flaw_if}
use Rattle.lab_keys.specs.Keys.{keys_flaw}
use Rattle.lab_keys.specs.Values.{items_at, tables_at}
use Rattle.lab_keys.proofs.NoFlaws.{none_left, none_right}
use Rattle.lab_tables.specs.declared.input.LabInput.{LabInput}
use Rattle.lab_tables.specs.declared.input.PeeringInput.{PeeringInput}
use Rattle.lab_tables.specs.declared.input.Step.{Step}
use Rattle.lab_keys.specs.declared.words.StepWord.{StepWord}
use Rattle.lab_keys.specs.declared.words.StepWord.TheVariants.{Announces, Withdraws, SaysRaw, Grafts, Settles, Evacuates}
use Rattle.lab_tables.specs.Meanings.{word_at}
use Rattle.lab_tables.specs.Scripts.{is_word, is_settle_word, is_evacuate, is_crowded, do_keys, worded_flaw, step_flaw, worded_step, step_of}
use Rattle.lab_tables.specs.Documents.{router_names_of, peerings_of, lab_of}
use Rattle.lab_input.specs.Labs.{InputOf}
use Rattle.lab_input.proofs.Ready.{accepted}
use Rattle.lab_setup.specs.Setups.{script_step, ended_by, ended, setup_of}
use Rattle.lab_setup.proofs.Groups.{StepsAreTables, ends, before, whole, one_group, evacuates_before, evacuates_whole}
use Rattle.lab_setup.proofs.Kept.{HasTables, tables_kept}
use Rattle.lab_setup.proofs.Lists.{get_below, get_mapped, made_of, some_is, none_is}

-- ---- one step

no_flaw : (crowded : Bool) (flaw : Flaw) → flaw_if crowded flaw ≡ None → crowded ≡ false
no_flaw true flaw none = absurd (let some : Option Flaw = Some flaw in let e : some ≡ None = none in cc)
no_flaw false flaw none = refl

uncrowded : (steps : List Data) (i : ℕ) (t : Members) → step_flaw steps i t ≡ None → is_crowded (before steps i) (whole steps i) (word_at t) ≡ false
uncrowded steps i t none =
    let crowded = flaw_if (is_crowded (before steps i) (whole steps i) (word_at t)) (Shape (spot_of (tables.Step i) (codes "do"))) in
    let last = option_or (worded_flaw (word_at t) i t) None in
    let behind = none_right (keys_flaw (tables.Step i) do_keys t) (option_or crowded last) none in
    no_flaw _ (Shape (spot_of (tables.Step i) (codes "do"))) (none_left crowded last behind)

module _ (setup : Setup) (called : List (List ℕ)) (ps : List PeeringInput) where
  abbrev made : StepWord → Members → ScriptStep
  made word t = script_step ps (worded_step word called ps t)

  ends_as : (word : StepWord) (t : Members) → ends_group (made word t) ≡ is_settle_word word
  ends_as Announces t = refl
  ends_as Withdraws t = refl
  ends_as SaysRaw t = refl
  ends_as Grafts t = refl
  ends_as Settles t = refl
  ends_as Evacuates t = refl

  evacuates_by : (word : StepWord) (t : Members) (router : ℕ) → made word t ≡ EvacuateStep router → word ≡ Evacuates
  evacuates_by Announces t router e = absurd (cc)
  evacuates_by Withdraws t router e = absurd (cc)
  evacuates_by SaysRaw t router e = absurd (cc)
  evacuates_by Grafts t router e = absurd (cc)
  evacuates_by Settles t router e = absurd (cc)
  evacuates_by Evacuates t router e = refl

  moves_by : (word : StepWord) (t : Members) (i p : ℕ) → slice_get (moved_by setup (made word t)) i ≡ Some p
      → (word ≡ Grafts) ⊎ (word ≡ Evacuates)
  moves_by Announces t i p e = absurd (none_is p e)
  moves_by Withdraws t i p e = absurd (none_is p e)
  moves_by SaysRaw t i p e = absurd (none_is p e)
  moves_by Grafts t i p e = inl refl
  moves_by Settles t i p e = absurd (none_is p e)
  moves_by Evacuates t i p e = inr refl

-- ---- the script

added_settles : (o : Option ScriptStep) (j : ℕ) (s : ScriptStep) → slice_get (ended_by o) j ≡ Some s → s ≡ SettleStep
added_settles None zero s e = sym (some_is SettleStep s e)
added_settles None (suc j) s e = absurd (none_is s e)
added_settles (Some (SayStep q bytes)) zero s e = sym (some_is SettleStep s e)
added_settles (Some (SayStep q bytes)) (suc j) s e = absurd (none_is s e)
added_settles (Some (MoveStep q target)) zero s e = sym (some_is SettleStep s e)
added_settles (Some (MoveStep q target)) (suc j) s e = absurd (none_is s e)
added_settles (Some (EvacuateStep router)) zero s e = sym (some_is SettleStep s e)
added_settles (Some (EvacuateStep router)) (suc j) s e = absurd (none_is s e)
added_settles (Some SettleStep) j s e = absurd (none_is s e)

same_counts : {A B C : Type 0} (f : C → A) (g : C → B) (p : A → Bool) (q : B → Bool) → ((c : C) → p (f c) ≡ q (g c)) → (cs : List C) (n : ℕ)
    → length (filter p (take n (map f cs))) ≡ length (filter q (take n (map g cs)))
same_counts f g p q same [] zero = refl
same_counts f g p q same [] (suc n) = refl
same_counts f g p q same (c ∷ cs) zero = refl
same_counts f g p q same (c ∷ cs) (suc n) = by_test (p (f c)) (q (g c)) (same c) (same_counts f g p q same cs n) where
  by_test : (a b : Bool) → a ≡ b → length (filter p (take n (map f cs))) ≡ length (filter q (take n (map g cs)))
      → length (cond a (f c ∷ filter p (take n (map f cs))) (filter p (take n (map f cs))))
      ≡ length (cond b (g c ∷ filter q (take n (map g cs))) (filter q (take n (map g cs))))
  by_test true true e rest = ap suc rest
  by_test true false e rest = absurd (false≢true (sym e))
  by_test false true e rest = absurd (false≢true e)
  by_test false false e rest = rest

map_twice : {A B C : Type 0} (f : B → C) (g : A → B) (xs : List A) → map f (map g xs) ≡ map (λ x. f (g x)) xs
map_twice f g [] = refl
map_twice f g (x ∷ xs) = ap (λ ys. f (g x) ∷ ys) (map_twice f g xs)

module _ (doc : Members) (tables : StepsAreTables doc) where
  abbrev setup : Setup
  setup = setup_of (lab_of doc)

  abbrev called : List (List ℕ)
  called = router_names_of doc

  abbrev ps : List PeeringInput
  ps = peerings_of doc

  abbrev steps : List Data
  steps = items_at (codes "step") doc

  abbrev ts : List Members
  ts = tables_at (codes "step") doc

  abbrev of : Members → Step
  of = step_of called ps

  abbrev script : List ScriptStep
  script = map (script_step ps) (map of ts)

  script_is : setup.steps ≡ ended script
  unfolding setup_of
  script_is = refl

  many : length script ≡ length ts
  many = length-map (map of ts) (script_step ps) ∙ length-map ts of

  -- where a step of the script comes from that ends no group
  record IsFrom (n : ℕ) (s : ScriptStep) : Type 0 where
    t : Members
    at : slice_get ts n ≡ Some t
    is : made setup called ps (word_at t) t ≡ s

  from_script : (n : ℕ) (s : ScriptStep) → slice_get script n ≡ Some s → IsFrom n s
  from_script n s at =
      let one = made_of (script_step ps) (slice_get (map of ts) n) s (sym (get_mapped (script_step ps) (map of ts) n) ∙ at) in
      let two = made_of of (slice_get ts n) one.x (sym (get_mapped of ts n) ∙ one.there) in
      record { t = two.x; at = two.there; is = ap (script_step ps) two.is ∙ one.is }

  step_from : (n : ℕ) (s : ScriptStep) → slice_get setup.steps n ≡ Some s → (s ≡ SettleStep → ⊥) → IsFrom n s
  step_from n s at goes_on = elim (cases_lt n (length script)) [
    | inl below ↦ from_script n s (sym (get-append_left script (ended_by (last_or None script)) n below) ∙ sym (ap (λ ss. slice_get ss n) script_is) ∙ at)
    | inr above ↦ absurd (goes_on (added_settles (last_or None script) (n - length script) s
        (sym (get-append_right script (ended_by (last_or None script)) n (n - length script) (omega (arith, above)))
        ∙ sym (ap (λ ss. slice_get ss n) script_is) ∙ at)))
  ]

  -- groups of the script are those of the document
  group_as : (n : ℕ) → n ≤ length ts → group_of setup n ≡ ends steps n
  group_as n within =
      let few : n ≤ length script = omega (arith, many, within) in
      ap (λ ss. length (filter ends_group (take n ss))) script_is
      ∙ ap (λ ss. length (filter ends_group ss)) (take-append-le n script (ended_by (last_or None script)) few)
      ∙ ap (λ ss. length (filter ends_group (take n ss))) (map_twice (script_step ps) of ts)
      ∙ same_counts (λ t. script_step ps (of t)) table ends_group (is_word is_settle_word) (λ t. ends_as setup called ps (word_at t) t) ts n
      ∙ sym (ap (λ ds. length (filter (is_word is_settle_word) (take n ds))) tables.whole)

  -- ---- two steps of one group

  module _ (n m : ℕ) (t u : Members) (at : slice_get ts n ≡ Some t) (too : slice_get ts m ≡ Some u)
      (empties : word_at t ≡ Evacuates) (group : ends steps m ≡ ends steps n) where
    item : (k : ℕ) (v : Members) → slice_get ts k ≡ Some v → slice_get steps k ≡ Some (table v)
    item k v there = ap (λ ds. slice_get ds k) tables.whole ∙ get_mapped table ts k ∙ ap (option_map table) there

    within : (k : ℕ) (v : Members) → slice_get ts k ≡ Some v → k < length steps
    within k v there = get_below steps k (table v) (item k v there)

    is_evac : is_evacuate (word_at t) ≡ true
    is_evac = ap is_evacuate empties

    whole_there : whole steps n ≡ true
    whole_there = evacuates_whole steps n (table t) (item n t at) is_evac (ap is_settle_word empties)

    crowded : (k : ℕ) (v : Members) → slice_get ts k ≡ Some v → is_crowded (before steps k) (whole steps k) (word_at v) ≡ false
    crowded k v there = uncrowded steps k v (tables.each k v there)

    -- a graft stands in a group where a step evacuates
    no_graft : word_at u ≡ Grafts → whole steps m ≡ true → ⊥
    no_graft grafts holds = false≢true (sym (crowded m u too) ∙ ap (is_crowded (before steps m) (whole steps m)) grafts ∙ holds)

    -- a step evacuates behind another one that does
    no_second : (k : ℕ) (v : Members) → slice_get ts k ≡ Some v → word_at v ≡ Evacuates → before steps k ≡ true → ⊥
    no_second k v there evacuates holds = false≢true (sym (crowded k v there) ∙ ap (is_crowded (before steps k) (whole steps k)) evacuates ∙ holds)

    behind : m < n → (word_at u ≡ Grafts) ⊎ (word_at u ≡ Evacuates) → ⊥
    behind less (inl grafts) =
        no_graft grafts (sym (one_group steps m (n - m) n (omega (arith, less)) (let lt = within n t at in omega arith) (sym group)) ∙ whole_there)
    behind less (inr evacuates) = no_second n t at empties
        (evacuates_before steps m (table u) (item m u too) (ap is_evacuate evacuates)
        (n - m - 1) n (omega (arith, less)) (let lt = within n t at in omega arith) (sym group))

    ahead : n < m → (word_at u ≡ Grafts) ⊎ (word_at u ≡ Evacuates) → ⊥
    ahead less (inl grafts) = no_graft grafts (one_group steps n (m - n) m (omega (arith, less)) (let lt = within m u too in omega arith) group ∙ whole_there)
    ahead less (inr evacuates) = no_second m u too evacuates
        (evacuates_before steps n (table t) (item n t at) is_evac (m - n - 1) m (omega (arith, less)) (let lt = within m u too in omega arith) group)

    one_index : (word_at u ≡ Grafts) ⊎ (word_at u ≡ Evacuates) → m ≡ n
    one_index moves = elim (cases_lt m n) [
      | inl less ↦ absurd (behind less moves)
      | inr least ↦ elim (cases_lt n m) [ inl more ↦ absurd (ahead more moves) | inr most ↦ omega (arith, least, most) ]
    ]

  moves_none : (i p : ℕ) → slice_get (moved_by setup SettleStep) i ≡ Some p → ⊥
  moves_none i p e = none_is p e

  -- a step of the group of an evacuate step that moves a session is that step
  pub only_one : (n router m i p : ℕ) (s : ScriptStep) → slice_get setup.steps n ≡ Some (EvacuateStep router) → slice_get setup.steps m ≡ Some s
      → slice_get (moved_by setup s) i ≡ Some p
      → group_of setup m ≡ group_of setup n → m ≡ n
  only_one n router m i p s at too moved group =
      let here = step_from n (EvacuateStep router) at (λ e. cc) in
      let there = step_from m s too (λ e. moves_none i p (sym (ap (λ z. slice_get (moved_by setup z) i) e) ∙ moved)) in
      let a = get_below ts n here.t here.at in
      let b = get_below ts m there.t there.at in
      let same : ends steps m ≡ ends steps n = sym (group_as m (omega (arith, b))) ∙ group ∙ group_as n (omega (arith, a)) in
      one_index n m here.t there.t here.at there.at (evacuates_by setup called ps (word_at here.t) here.t router here.is) same
      (moves_by setup called ps (word_at there.t) there.t i p (ap (λ z. slice_get (moved_by setup z) i) there.is ∙ moved))

pub accepted_alone : (bytes : List ℕ) (input : LabInput) → InputOf bytes input → EmptyAlone (setup_of input)
accepted_alone bytes input e =
    let a = accepted bytes input e in
    subst (λ (i : LabInput). EmptyAlone (setup_of i)) a.is (alone a.doc (tables_kept a.doc a.no_flaw))
  where
    alone : (doc : Members) → HasTables doc → EmptyAlone (setup_of (lab_of doc))
    alone doc kept step router g at found group =
        let of = step_of_graft (setup_of (lab_of doc)) g.graft g found in
        only_one doc kept.grouped step router g.step of.index g.peering of.step at of.there of.moved group
