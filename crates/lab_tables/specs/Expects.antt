-- Expectations: what an input wants of the end of its run.
use Rattle.std.specs.Prelude.{ℕ, Bool, true, false, ◌||◌, not, nat_lt, min, List, [], ◌∷◌, ◌++◌, length, sum_by, Option, Some, None}
use Rattle.std.specs.Prelude.{option_map, option_and_then, codes, if◌then◌else◌}
use Rattle.std.specs.List.{cons_option}
use Rattle.std.specs.Str.{bytes_eq}
use Rattle.toml.specs.Data.{Data, table, Members}
use Rattle.bgp_types.specs.declared.rank.From.{From}
use Rattle.bgp_types.specs.declared.rank.From.TheVariants as sources
use Rattle.lab_keys.specs.declared.flaw.Flaw.{Flaw}
use Rattle.lab_keys.specs.declared.flaw.Flaw.TheVariants.{Shape, Limit}
use Rattle.lab_keys.specs.declared.key.Kind.TheVariants as kinds
use Rattle.lab_keys.specs.declared.key.Kind.TheVariants.{Number, Name}
use Rattle.lab_keys.specs.declared.table_at.TableAt.TheVariants as tables
use Rattle.lab_keys.specs.declared.words.StepWord.{StepWord}
use Rattle.lab_keys.specs.declared.words.StepWord.TheVariants.{Grafts, Evacuates}
use Rattle.lab_keys.specs.KeyRows.{KeyRow}
use Rattle.lab_keys.specs.Spots.{KeySpot, spot_of, member_of}
use Rattle.lab_keys.specs.Kinds.{first_of, flaw_if}
use Rattle.lab_keys.specs.Keys.{required, optional, keys_flaw, stray_flaw, names_of}
use Rattle.lab_keys.specs.Values.{has_member, text_at, maybe_text, number_or, maybe_number, maybe_prefix, items_at}
use Rattle.lab_keys.specs.Reported.{state_in, first_word, further_words}
use Rattle.lab_tables.specs.declared.expectation.ExpectedValue.{ExpectedValue}
use Rattle.lab_tables.specs.declared.expectation.ExpectedValue.TheVariants.{Outcome, At, State, Heard, Told, Best}
use Rattle.lab_tables.specs.declared.expects.ExpectForm.{ExpectForm}
use Rattle.lab_tables.specs.declared.expects.ExpectForm.TheVariants as forms
use Rattle.lab_tables.specs.Meanings.{index_of_name, word_at}

-- ---- the three forms: of a graft, of the session of a peering, and of a router's best route

abbrev pub form_by : (graft peering router : Bool) → Option ExpectForm
form_by true false false = Some forms.Graft
form_by false true false = Some forms.Session
form_by false false true = Some forms.Route
form_by _ _ _ = None

-- exactly one of three keys is there, and tells the form
abbrev pub form_of : Members → Option ExpectForm
form_of t = form_by (has_member (codes "graft") t) (has_member (codes "peering") t) (has_member (codes "router") t)

-- ---- the numbers of grafts that a script has

abbrev pub word_grafts : (peerings : ℕ) → StepWord → ℕ
word_grafts peerings Grafts = 1
word_grafts peerings Evacuates = peerings
word_grafts peerings _ = 0

-- one for a graft, and for an evacuation one for each peering
abbrev pub grafts_of : (peerings : ℕ) → Data → ℕ
grafts_of peerings (table t) = word_grafts peerings (word_at t)
grafts_of peerings _ = 0

-- how many there are; as a limit it is a number of 32 bits
abbrev pub graft_numbers : Members → ℕ
graft_numbers doc = sum_by (grafts_of (length (items_at (codes "peering") doc))) (items_at (codes "step") doc)

abbrev pub most_graft : Members → ℕ
most_graft doc = min 4294967295 (graft_numbers doc)

-- ---- the keys of each form

abbrev pub graft_expect_ends : List KeyRow
graft_expect_ends = required (codes "graft") (Number 1 4294967295) ∷ []

abbrev pub graft_expect_rest : List KeyRow
graft_expect_rest = required (codes "outcome") kinds.Outcome ∷ []

abbrev pub session_expect_keys : List KeyRow
session_expect_keys =
    required (codes "peering") Name
    ∷ optional (codes "at") Name
    ∷ optional (codes "state") kinds.State
    ∷ optional (codes "heard") (Number 0 4294967295)
    ∷ optional (codes "told") (Number 0 4294967295)
    ∷ []

abbrev pub route_expect_keys : List KeyRow
route_expect_keys = required (codes "router") Name ∷ required (codes "prefix") kinds.Prefix ∷ required (codes "best") kinds.Best ∷ []

abbrev pub expect_keys : ExpectForm → List KeyRow
expect_keys forms.Graft = graft_expect_ends ++ graft_expect_rest
expect_keys forms.Session = session_expect_keys
expect_keys forms.Route = route_expect_keys

-- ---- flaws

-- a graft's number is one that the script has
abbrev pub graft_expect_flaw : (most i : ℕ) → Members → Option Flaw
graft_expect_flaw most i t =
    let graft = number_or 32 0 (codes "graft") t in
    first_of (
    keys_flaw (tables.Expect i) graft_expect_ends t
    ∷ flaw_if (nat_lt most graft) (Limit (spot_of (tables.Expect i) (codes "graft")) graft)
    ∷ keys_flaw (tables.Expect i) graft_expect_rest t
    ∷ stray_flaw (tables.Expect i) (names_of (expect_keys forms.Graft)) t
    ∷ [])

-- the spot of a table as a whole
abbrev pub expect_spot : ℕ → KeySpot
expect_spot i = member_of (spot_of tables.Top (codes "expect")) i

abbrev pub wants_nothing : Members → Bool
wants_nothing t = not (has_member (codes "at") t || has_member (codes "state") t || has_member (codes "heard") t || has_member (codes "told") t)

-- something is wanted of a session
abbrev pub session_expect_flaw : ℕ → Members → Option Flaw
session_expect_flaw i t = first_of (
    keys_flaw (tables.Expect i) session_expect_keys t
    ∷ stray_flaw (tables.Expect i) (names_of session_expect_keys) t
    ∷ flaw_if (wants_nothing t) (Shape (expect_spot i))
    ∷ [])

abbrev pub route_expect_flaw : ℕ → Members → Option Flaw
route_expect_flaw i t = first_of (
    keys_flaw (tables.Expect i) route_expect_keys t
    ∷ stray_flaw (tables.Expect i) (names_of route_expect_keys) t
    ∷ [])

abbrev pub flaw_by_form : (most i : ℕ) → Option ExpectForm → Members → Option Flaw
flaw_by_form most i None t = Some (Shape (expect_spot i))
flaw_by_form most i (Some forms.Graft) t = graft_expect_flaw most i t
flaw_by_form most i (Some forms.Session) t = session_expect_flaw i t
flaw_by_form most i (Some forms.Route) t = route_expect_flaw i t

-- given the greatest number of a graft
abbrev pub expect_flaw : (most i : ℕ) → Members → Option Flaw
expect_flaw most i t = flaw_by_form most i (form_of t) t

-- ---- values: what is wanted, in the order of the keys

abbrev pub one_if : {A : Type 0} → Option A → List A
one_if wanted = cons_option wanted []

-- of the session of a peering, by its number
abbrev pub at_wanted : List (List ℕ) → (peering : ℕ) → Members → Option ExpectedValue
at_wanted routers peering t = option_map (λ name. At (record { 0 = peering }) (record { 0 = index_of_name routers name })) (maybe_text (codes "at") t)

abbrev pub state_wanted : (peering : ℕ) → Members → Option ExpectedValue
state_wanted peering t = option_map (State (record { 0 = peering })) (option_and_then state_in (maybe_text (codes "state") t))

abbrev pub heard_wanted : (peering : ℕ) → Members → Option ExpectedValue
heard_wanted peering t = option_map (Heard (record { 0 = peering })) (maybe_number 32 (codes "heard") t)

abbrev pub told_wanted : (peering : ℕ) → Members → Option ExpectedValue
told_wanted peering t = option_map (Told (record { 0 = peering })) (maybe_number 32 (codes "told") t)

abbrev pub session_wanted : List (List ℕ) → (peering : ℕ) → Members → List ExpectedValue
session_wanted routers peering t =
    one_if (at_wanted routers peering t) ++ one_if (state_wanted peering t) ++ one_if (heard_wanted peering t) ++ one_if (told_wanted peering t)

-- where a best route is to come from; none where there is to be no route
abbrev pub source_in : (routers peerings : List (List ℕ)) → List ℕ → Option From
source_in routers peerings text =
    if bytes_eq text (codes "own") then Some sources.Own
    else if bytes_eq (first_word text) (codes "peering") then Some (sources.Peering (record { 0 = index_of_name peerings (further_words text) }))
    else if bytes_eq (first_word text) (codes "router") then Some (sources.Router (record { 0 = index_of_name routers (further_words text) }))
    else None

abbrev pub best_wanted : (routers peerings : List (List ℕ)) → Members → Option ExpectedValue
best_wanted routers peerings t =
    let router = index_of_name routers (text_at (codes "router") t) in
    option_map (λ prefix. Best (record { 0 = router }) prefix (source_in routers peerings (text_at (codes "best") t))) (maybe_prefix (codes "prefix") t)

abbrev pub wanted_by_form : Option ExpectForm → (routers peerings : List (List ℕ)) → Members → List ExpectedValue
wanted_by_form None routers peerings t = []
wanted_by_form (Some forms.Graft) routers peerings t = Outcome (number_or 32 0 (codes "graft") t) (text_at (codes "outcome") t) ∷ []
wanted_by_form (Some forms.Session) routers peerings t = session_wanted routers (index_of_name peerings (text_at (codes "peering") t)) t
wanted_by_form (Some forms.Route) routers peerings t = one_if (best_wanted routers peerings t)

-- the values that a table wants of a run
abbrev pub expectation_of : (routers peerings : List (List ℕ)) → Members → List ExpectedValue
expectation_of routers peerings t = wanted_by_form (form_of t) routers peerings t
