-- The laboratory that an input describes is one that the model's world can begin with.
use Rattle.std.proofs.Common.{◌≡◌, ℕ, ◌+◌, ◌^◌, ◌<◌, ◌≤◌, Bool, true, false, cond, eqb, List, [], ◌∷◌, length, map, refl, sym, ap, ◌∙◌, subst, arith}
use Rattle.std.specs.Prelude.{◌||◌, Option, Some, None, option_map, unwrap_or, slice_get, sum_by, All, find, is_none, codes, nat_lt, is_some, if◌then◌else◌}
use Rattle.std.specs.Option.{option_or, option_map_or}
use Rattle.std.specs.List.{AllByRecursion, enumerate_from, list_any}
use Rattle.std.specs.Str.{bytes_eq}
use Rattle.std.proofs.lemmas.Bool.{false≢true}
use Rattle.std.proofs.lemmas.Bool.Decides.{nat_tests}
use Rattle.std.proofs.lemmas.List.{length-map}
use Rattle.std.proofs.lemmas.List.Sums.{length-filter}
use Rattle.std.proofs.lemmas.List.Elements.{All-from_recursion}
use Rattle.toml.specs.Data.{Members}
use Rattle.bgp_types.specs.Prefixes.{IsPrefix, once_after}
use Rattle.bgp_types.specs.Values.{is_no_host}
use Rattle.bgp_story.specs.Opens.{IsAsNumber}
use Rattle.graft_model.specs.Setups.{RouterSetup, PeeringSetup, NamedRules, ScriptStep, routers_in, peerings_in, identifier_of, room_of, of_router}
use Rattle.graft_model.specs.Setups.{rules_named, unknown_policy, first_name, said_length, starting_at, IsPeeringSetup, IsStep, IsSetup}
use Rattle.lab_keys.specs.Values.{text_at, maybe_text, prefixes_at, items_at, tables_at}
use Rattle.lab_keys.specs.Kinds.{each_from}
use Rattle.lab_keys.proofs.NoFlaws.{none_left, none_right, IsWithin, prefixes_formed}
use Rattle.lab_tables.specs.declared.input.LabInput.{LabInput}
use Rattle.lab_tables.specs.declared.input.PeeringInput.{PeeringInput}
use Rattle.lab_tables.specs.declared.input.PolicyInput.{PolicyInput}
use Rattle.lab_tables.specs.declared.input.RouterInput.{RouterInput}
use Rattle.lab_tables.specs.declared.input.Step.{Step}
use Rattle.lab_keys.specs.declared.words.StepWord.{StepWord}
use Rattle.lab_keys.specs.declared.words.StepWord.TheVariants.{Announces, Withdraws, SaysRaw, Grafts, Settles, Evacuates}
use Rattle.lab_tables.specs.Meanings.{index_of_name, word_at}
use Rattle.lab_tables.specs.Routers.{router_of}
use Rattle.lab_tables.specs.Peerings.{peering_input}
use Rattle.lab_tables.specs.Scripts.{worded_step, step_of}
use Rattle.lab_tables.specs.Documents.{routers_of, router_names_of, peerings_of, peering_names_of, lab_of}
use Rattle.lab_input.specs.declared.bad.BadInput.{BadInput}
use Rattle.lab_input.specs.declared.bad.BadInput.TheVariants.{Limit}
use Rattle.lab_input.specs.Labs.{InputOf}
use Rattle.lab_input.specs.Names.{unknown, unknown_at, policies_at, worded_named, step_named}
use Rattle.lab_input.specs.Counts.{over_limit, step_grafts, settles_of, added_settle, prefixes_named}
use Rattle.lab_input.specs.Counts.{peering_count_at, room_flaw, said_on, most_said, said_flaw, count_fault}
use Rattle.lab_setup.specs.Setups.{named_rules, router_setup, identifier_at, peering_setup, script_step, ended, setup_of}
use Rattle.lab_input.proofs.Ready.{accepted}
use Rattle.lab_setup.proofs.Kept.{IsPeeringTable, IsRouterTable, HasTables, tables_kept, number_below}
use Rattle.lab_setup.proofs.Lists.{made_of, none_of, none_here, all_at, all_mapped, all_numbered, first_of_text}
use Rattle.lab_setup.proofs.Lists.{get_mapped, get_numbered, length_numbered, IsIn, below_get, count_numbered}
use Rattle.lab_setup.proofs.Names.{known, IsNamedPeering, HasNames, names_kept}
use Rattle.lab_setup.proofs.Names.{number_below as index_below}
use Rattle.lab_setup.proofs.Said.{said_whole, ends_with_settle, all_ended}

-- ---- counts

some_bad : (bad : BadInput) → Some bad ≡ None → ⊥
some_bad bad e = false≢true (sym (ap is_some e))

not_over : (name : List ℕ) (most n : ℕ) → over_limit name most n ≡ None → n ≤ most
not_over name most n none = by_test (nat_lt most n) refl none where
  by_test : (t : Bool) → nat_lt most n ≡ t → cond t (Some (Limit name n)) None ≡ None → n ≤ most
  by_test true e none = absurd (some_bad (Limit name n) none)
  by_test false e none = no_more n most e
    where
      no_more : (a b : ℕ) → nat_lt b a ≡ false → a ≤ b
      no_more a b e = grind (arith, nat_tests)

-- what is known of an input whose counts are within their limits
pub record HasCounts (input : LabInput) : Type 0 where
  room : (r : ℕ) (router : RouterInput) → slice_get input.routers r ≡ Some router → peering_count_at input.peerings r ≤ router.sessions
  said : (p : ℕ) (peering : PeeringInput) → slice_get input.peerings p ≡ Some peering → said_on input.steps p peering ≤ most_said peering

counts_kept : (input : LabInput) → count_fault input ≡ None → HasCounts input
counts_kept input none =
    let rooms = each_from (room_flaw input.peerings) 0 input.routers in
    let saids = each_from (said_flaw input.steps) 0 input.peerings in
    let flaws : List (Option BadInput) = over_limit (codes "grafts") 256 (sum_by (step_grafts (length input.peerings)) input.steps)
    ∷ over_limit (codes "settles") 64 (sum_by settles_of input.steps + added_settle input.steps)
    ∷ over_limit (codes "prefixes") 4096 (length (once_after [] (prefixes_named input)))
    ∷ rooms
    ∷ saids
    ∷ [] in
    let no_room : rooms ≡ None = none_of flaws 3 rooms none refl in
    let no_said : saids ≡ None = none_of flaws 4 saids none refl in
    record {
      room = λ r router there. not_over (codes "sessions") router.sessions (peering_count_at input.peerings r)
          (none_here (room_flaw input.peerings) input.routers r router no_room there);
      said = λ p peering there. not_over (codes "said") (most_said peering) (said_on input.steps p peering)
          (none_here (said_flaw input.steps) input.peerings p peering no_said there);
    }

at_most : (a b c : ℕ) → a ≡ b → b ≤ c → c ≤ 2 ^ 20 → a ≤ 2 ^ 20
at_most a b c same few most = omega arith

most_is : (beats : Bool) → (if beats then 524288 else 1048576) ≤ 2 ^ 20
most_is true = omega arith
most_is false = omega arith

-- ---- policies

found : {A : Type 0} (test : A → Bool) (xs : List A) → list_any test xs ≡ true → is_none (find test xs) ≡ false
found test [] any = absurd (false≢true any)
found test (x ∷ xs) any = by_test (test x) any (found test xs) where
  by_test : (t : Bool) → (t || list_any test xs) ≡ true → (list_any test xs ≡ true → is_none (find test xs) ≡ false)
      → is_none (cond t (Some x) (find test xs)) ≡ false
  by_test true any rest = refl
  by_test false any rest = rest any

none_mapped : {A B : Type 0} (f : A → B) (o : Option A) → is_none (option_map f o) ≡ is_none o
none_mapped f None = refl
none_mapped f (Some x) = refl

any_named : (name : List ℕ) (ps : List PolicyInput)
    → list_any (bytes_eq name) (map (λ p. p.name) ps) ≡ list_any (λ policy. bytes_eq name policy.name) (map named_rules ps)
any_named name [] = refl
any_named name (p ∷ ps) = ap (λ t. bytes_eq name p.name || t) (any_named name ps)

-- ---- the routers of the setup

module _ (input : LabInput) where
  pub router_there : (r : ℕ) (x : RouterInput) → slice_get input.routers r ≡ Some x → slice_get (setup_of input).routers r ≡ Some (router_setup input (r, x))
  unfolding setup_of
  router_there r x e = get_numbered (router_setup input) input.routers r ∙ ap (option_map (λ y. router_setup input (r, y))) e

  pub as_many_routers : routers_in (setup_of input) ≡ length input.routers
  unfolding setup_of
  as_many_routers = length_numbered (router_setup input) input.routers

  pub as_many_peerings : peerings_in (setup_of input) ≡ length input.peerings
  unfolding setup_of
  as_many_peerings = length_numbered (peering_setup input) input.peerings

  home_is : input.home_as ≡ (setup_of input).home_as
  unfolding setup_of
  home_is = refl

  identifier_is : (r : ℕ) (x : RouterInput) → slice_get input.routers r ≡ Some x → identifier_at input r ≡ identifier_of (setup_of input) r
  identifier_is r x e =
      ap (λ o. unwrap_or (option_map (λ (y : RouterInput). y.id) o) 0) e
      ∙ sym (ap (λ o. unwrap_or (option_map (λ (y : RouterSetup). y.identifier) o) 0) (router_there r x e))

  room_kept : HasCounts input → (r : ℕ) → r < routers_in (setup_of input) → starting_at (setup_of input) r ≤ room_of (setup_of input) r
  unfolding setup_of
  room_kept counts r below =
      let here = below_get input.routers r (subst (λ n. r < n) as_many_routers below) in
      let starts : starting_at (setup_of input) r ≡ peering_count_at input.peerings r =
      length-filter (λ peering. eqb peering.start r) (setup_of input).peerings
      ∙ count_numbered (λ peering. eqb peering.start r) (λ p. eqb p.at.0 r) (peering_setup input) (λ n x. refl) input.peerings 0 in
      let room : room_of (setup_of input) r ≡ here.x.sessions =
      ap (λ o. unwrap_or (option_map (λ (y : RouterSetup). y.room) o) 0) (router_there r here.x here.is) in
      let few = counts.room r here.x here.is in
      omega arith

  -- a name that the router at an index has a policy of
  policy_there : (r : ℕ) (x : RouterInput) → slice_get input.routers r ≡ Some x → (name : List ℕ)
      → list_any (bytes_eq name) (map (λ p. p.name) x.policies) ≡ true
      → unknown_policy (setup_of input) r (Some name) ≡ None
  policy_there r x e name any =
      let policies : of_router (λ router. router.policies) [] (setup_of input) r ≡ map named_rules x.policies =
      ap (λ o. unwrap_or (option_map (λ (y : RouterSetup). y.policies) o) []) (router_there r x e) in
      let rules : is_none (rules_named (setup_of input) r name) ≡ false =
      ap (λ ps. is_none (option_map (λ (policy : NamedRules). policy.rules) (find (λ policy. bytes_eq name policy.name) ps))) policies
      ∙ none_mapped (λ (policy : NamedRules). policy.rules) (find (λ policy. bytes_eq name policy.name) (map named_rules x.policies))
      ∙ found (λ policy. bytes_eq name policy.name) (map named_rules x.policies) (sym (any_named name x.policies) ∙ any) in
      ap (λ (t : Bool). if t then Some name else None) rules

-- ---- the peerings of the setup

beats_kept : (beats : Bool) (interval said : ℕ) → said ≤ (if beats then 524288 else 1048576) → 0 < (if beats then interval else 0) → said ≤ 524288
beats_kept true interval said few some = few
beats_kept false interval said few some = absurd (omega arith)

module _ (doc : Members) (tables : HasTables doc) (names : HasNames doc) (counts : HasCounts (lab_of doc)) where
  abbrev input : LabInput
  input = lab_of doc

  abbrev called : List (List ℕ)
  called = router_names_of doc

  hosts : AllByRecursion (λ (r : RouterInput). is_no_host r.id ≡ false) (routers_of doc)
  hosts = all_mapped router_of IsRouterTable (λ (r : RouterInput). is_no_host r.id ≡ false) (λ t is. is.host) (tables_at (codes "router") doc) tables.routers

  module _ (p : ℕ) (t : Members) (at : slice_get (tables_at (codes "peering") doc) p ≡ Some t)
      (table : IsPeeringTable t) (name : IsNamedPeering (routers_of doc) t) where
    abbrev x : PeeringInput
    x = peering_input doc called t

    there : slice_get (peerings_of doc) p ≡ Some x
    there = get_mapped (peering_input doc called) (tables_at (codes "peering") doc) p ∙ ap (option_map (peering_input doc called)) at

    abbrev start : ℕ
    start = index_of_name called (text_at (codes "at") t)

    start_below : start < length (routers_of doc)
    start_below = let as_many = length-map (routers_of doc) (λ (r : RouterInput). r.name) in
        let below = index_below called (text_at (codes "at") t) name.at in omega arith

    router : IsIn (routers_of doc) start
    router = below_get (routers_of doc) start start_below

    first_so : find (λ (r : RouterInput). bytes_eq (text_at (codes "at") t) r.name) (routers_of doc) ≡ Some router.x
    first_so = sym (first_of_text (bytes_eq (text_at (codes "at") t)) (λ (r : RouterInput). r.name) (routers_of doc) name.at) ∙ router.is

    policies_are : policies_at (routers_of doc) (text_at (codes "at") t) ≡ map (λ (q : PolicyInput). q.name) router.x.policies
    policies_are = ap (λ o. option_map_or (λ (r : RouterInput). map (λ (q : PolicyInput). q.name) r.policies) o []) first_so

    policy_known : (o : Option (List ℕ)) → unknown_at (policies_at (routers_of doc) (text_at (codes "at") t)) o ≡ None
        → unknown_policy (setup_of input) start o ≡ None
    policy_known None none = refl
    policy_known (Some policy) none =
        policy_there input start router.x router.is policy
        (sym (ap (list_any (bytes_eq policy)) policies_are) ∙ known (policies_at (routers_of doc) (text_at (codes "at") t)) policy none)

    host : is_no_host (identifier_at input start) ≡ false
    host = ap (λ o. is_no_host (unwrap_or (option_map (λ (r : RouterInput). r.id) o) 0)) router.is
        ∙ all_at (λ (r : RouterInput). is_no_host r.id ≡ false) (routers_of doc) start router.x hosts router.is

    as_number : (n : ℕ) → IsWithin 1 4294967295 n → IsAsNumber n
    as_number n within = let some = within.enough in let few = within.few in record { some = some; fits = omega arith }

    said_is : said_length (setup_of input) p (peering_setup input (p, x)) ≡ said_on input.steps p x
    unfolding setup_of
    said_is = ap (λ n. length x.opening + n) (said_whole input.peerings p x there input.steps)

    peering_ready : IsPeeringSetup (setup_of input) p (peering_setup input (p, x))
    peering_ready =
        let few = counts.said p x there in
        let most = most_is x.beats in
        let said = said_is in
        record {
          start = subst (λ n. start < n) (sym (as_many_routers input)) start_below;
          number = refl;
          home_as = home_is input;
          identifier = identifier_is input start router.x router.is;
          valid = record {
            home = record {
              home_as = input.home_as;
              offered = x.as4;
              unicast = x.unicast;
              is = refl;
              as_number = as_number input.home_as tables.home_as;
              hold_fits = number_below 16 0 (codes "home_hold") t (omega arith);
              hold_time = table.home_hold;
              host = host;
            };
            remote_as = as_number x.remote_as table.remote_as;
          };
          policies = ap (λ o. first_name o (unknown_policy (setup_of input) start x.export)) (policy_known (maybe_text (codes "import") t) name.import)
              ∙ policy_known (maybe_text (codes "export") t) name.export;
          next_hop = table.local;
          opening = table.opening;
          said = at_most _ _ _ said few most;
          beats = beats_kept x.beats _ (said_length (setup_of input) p (peering_setup input (p, x))) (subst (λ n. n ≤ most_said x) (sym said) few);
        }

  peerings_ready : (p : ℕ) (peering : PeeringSetup) → slice_get (setup_of input).peerings p ≡ Some peering → IsPeeringSetup (setup_of input) p peering
  unfolding setup_of
  peerings_ready p peering e =
      let ts : List Members = tables_at (codes "peering") doc in
      let made = made_of (λ y. peering_setup input (p, y)) (slice_get (peerings_of doc) p) peering
      (sym (get_numbered (peering_setup input) (peerings_of doc) p) ∙ e) in
      let from = made_of (peering_input doc called) (slice_get ts p) made.x (sym (get_mapped (peering_input doc called) ts p) ∙ made.there) in
      let ready = peering_ready p from.x from.there (all_at IsPeeringTable ts p from.x tables.peerings from.there)
      (all_at (IsNamedPeering (routers_of doc)) ts p from.x names.peerings from.there) in
      subst (IsPeeringSetup (setup_of input) p) made.is (subst (λ y. IsPeeringSetup (setup_of input) p (peering_setup input (p, y))) from.is ready)

  -- ---- steps

  abbrev remotes : List (List ℕ)
  remotes = peering_names_of doc

  peering_below : (text : List ℕ) → unknown remotes text ≡ None → index_of_name remotes text < peerings_in (setup_of input)
  peering_below text none =
      let as_many = length-map (peerings_of doc) (λ (q : PeeringInput). q.name) in
      let below = index_below remotes text (known remotes text none) in
      let whole = as_many_peerings input in
      omega arith

  router_below : (text : List ℕ) → unknown called text ≡ None → index_of_name called text < routers_in (setup_of input)
  router_below text none =
      let as_many = length-map (routers_of doc) (λ (r : RouterInput). r.name) in
      let below = index_below called text (known called text none) in
      let whole = as_many_routers input in
      omega arith

  step_ready : (word : StepWord) (t : Members) → worded_named word called remotes t ≡ None
      → IsStep (setup_of input) (script_step (peerings_of doc) (worded_step word called (peerings_of doc) t))
  step_ready Announces t none = peering_below (text_at (codes "peering") t) none
  step_ready Withdraws t none = peering_below (text_at (codes "peering") t) none
  step_ready SaysRaw t none = peering_below (text_at (codes "peering") t) none
  step_ready Grafts t none =
      let peering = unknown remotes (text_at (codes "peering") t) in
      let target = unknown called (text_at (codes "to") t) in (
        peering_below (text_at (codes "peering") t) (none_left peering (option_or target None) none),
        router_below (text_at (codes "to") t) (none_left target None (none_right peering (option_or target None) none)),
      )
  step_ready Settles t none = tt
  step_ready Evacuates t none = router_below (text_at (codes "router") t) none

  steps_ready : AllByRecursion (IsStep (setup_of input))
      (ended (map (script_step (peerings_of doc)) (map (step_of called (peerings_of doc)) (tables_at (codes "step") doc))))
  steps_ready =
      let ts : List Members = tables_at (codes "step") doc in
      let of : Members → Step = step_of called (peerings_of doc) in
      let script : List ScriptStep = map (script_step (peerings_of doc)) (map of ts) in
      let inputs : AllByRecursion (λ step. IsStep (setup_of input) (script_step (peerings_of doc) step)) (map of ts) =
      all_mapped of (λ t. step_named called remotes t ≡ None) (λ step. IsStep (setup_of input) (script_step (peerings_of doc) step))
      (λ t. step_ready (word_at t) t) ts names.steps in
      let whole : AllByRecursion (IsStep (setup_of input)) script =
      all_mapped (script_step (peerings_of doc)) (λ step. IsStep (setup_of input) (script_step (peerings_of doc) step))
      (IsStep (setup_of input)) (λ step is. is) (map of ts) inputs in
      all_ended (IsStep (setup_of input)) tt script whole

  networks_ready : AllByRecursion (λ (r : RouterInput). All IsPrefix r.networks) (routers_of doc)
  networks_ready = all_mapped router_of IsRouterTable (λ (r : RouterInput). All IsPrefix r.networks)
      (λ t is. All-from_recursion IsPrefix (prefixes_at (codes "networks") t) (prefixes_formed (items_at (codes "networks") t)))
      (tables_at (codes "router") doc) tables.routers

  pub setup_ready : IsSetup (setup_of (lab_of doc))
  unfolding setup_of
  setup_ready = record {
    peerings = peerings_ready;
    room = room_kept input counts;
    networks = All-from_recursion (λ router. All IsPrefix router.networks) (map (router_setup input) (enumerate_from 0 (routers_of doc)))
        (all_numbered (router_setup input) (λ (r : RouterInput). All IsPrefix r.networks)
        (λ router. All IsPrefix router.networks) (λ n r is. is) (routers_of doc) 0 networks_ready);
    steps = All-from_recursion (IsStep (setup_of input)) (setup_of input).steps steps_ready;
    ended = ends_with_settle (map (script_step (peerings_of doc)) input.steps);
  }

pub accepted_ready : (bytes : List ℕ) (input : LabInput) → InputOf bytes input → IsSetup (setup_of input)
accepted_ready bytes input e =
    let a = accepted bytes input e in
    subst (λ (i : LabInput). IsSetup (setup_of i)) a.is
    (setup_ready a.doc (tables_kept a.doc a.no_flaw) (names_kept a.doc a.no_name) (counts_kept (lab_of a.doc) a.no_count))
