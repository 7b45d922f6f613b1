-- What is kept after the calls of a whole change.
use Rattle.std.proofs.Common.{◌≡◌, ℕ, ◌<◌, Bool, true, false, List, Option, Some, None, refl, sym, ap, subst, ◌∙◌, inl, inr}
use Rattle.std.specs.Prelude.{◌≢◌, MatchBool, Result, Ok, Err, OnOk, OnErr}
use Rattle.std.specs.FinMap as map
use Rattle.std.specs.Option.{option_map}
use Rattle.bgp_types.specs.Prefixes.{PrefixValue}
use Rattle.bgp_types.specs.Tables.{prefix_cmp}
use Rattle.bgp_types.specs.declared.attrs.Route.{Route}
use Rattle.bgp_types.specs.declared.rank.From.{From}
use Rattle.bgp_types.specs.declared.rank.From.TheVariants.{Own, Peering, Router}
use Rattle.bgp_types.specs.declared.rank.Rank.{Rank}
use Rattle.loc_rib.specs.Values.{LocValue, with_best, with_value}
use Rattle.route_policy.specs.Candidates.{own_rank, own_route}
use Rattle.route_policy.specs.declared.best.Best.{Best}
use Rattle.route_policy.specs.declared.entry.Entry.{Entry}
use Rattle.prefix_trie.specs.Table.{TableValue}
use Rattle.rib_stages.specs.declared.config.InEntry.{InEntry}
use Rattle.rib_stages.specs.declared.ranks.Choices.{Choices}
use Rattle.rib_stages.specs.declared.rib.Rib.TheInside.{Inside}
use Rattle.rib_stages.specs.Values.{RibStore, RibValue, Given, rib_of, contents_of, set_of, table_at, table_from, tables_of}
use Rattle.rib_stages.specs.Choosing.{rib_choice}
use Rattle.rib_stages.specs.Ranks.{SetsRank, HasOwnRanks, MarksRank, MarksAtMost, IsRib}
use Rattle.rib_stages.specs.Steps.{Enters, Sets, SetsIn, IsOther, entries_with, tellings_with, with_table, given, given_from, taken}
use Rattle.rib_stages.proofs.Drops.{same_table}
use Rattle.rib_stages.proofs.Kept.{number_of, rank_given, entered, kept_entered, kept_marked, kept_ranks, kept_decided, kept_fresh}
use Rattle.rib_stages.proofs.Marks.{with_same}
use Rattle.rib_stages.proofs.Tables.{empties, empty_tables}

-- the routes, as a Rib's fields hold them
abbrev pub value_of : Inside → RibValue
value_of i =
    record { config = i.config; entries = tables_of i.peerings; tellings = tables_of i.routers; best = i.choices.loc.best; dirty = i.choices.loc.dirty }

abbrev store_of : Inside → RibStore
store_of i =
    record { config = i.config; entries = contents_of i.peerings; tellings = contents_of i.routers; best = i.choices.loc.best; dirty = i.choices.loc.dirty }

abbrev IsWhole : Inside → Type 0
IsWhole i = IsRib (value_of i) i.choices.groups.contents i.networks.contents i.own_route

module _ (i : Inside) (whole : IsWhole i) (prefix : PrefixValue) where
  module _ (peerings : List (TableValue Entry)) (routers : List (TableValue Route)) (choices : Choices) where
    abbrev then : Inside
    then = record i { peerings = peerings; routers = routers; choices = choices }

    -- a source gave something else
    module _ (source from : From) (is : source ≡ from) (given : source ≢ Own) (value : (f : From) → Option (Given f)) (rank : Option Rank)
        (ranked : rank ≡ option_map (rank_given i.config from) (value from)) (named : From)
        (named_is : named ≡ from) (marks : MarksRank i.choices prefix named rank choices)
        (here : tables_of peerings ≡ entries_with (value_of i) from (with_value (table_from (value_of i) from) prefix (value from)))
        (there : tables_of routers ≡ tellings_with (value_of i) from (with_value (table_from (value_of i) from) prefix (value from))) where
      entered_is : value_of then ≡ entered (value_of i) prefix from (value from)
      entered_is = λ n. record { config = i.config; entries = here n; tellings = there n; best = (marks.loc n).best; dirty = (marks.loc n).dirty }

      pub enters : (s : RibStore) → store_of i ≡ s → Enters (rib_of s) source prefix (value source) (value_of then)
      enters s view = subst (λ (t : RibStore). Enters (rib_of t) source prefix (value source) (value_of then)) view
          (subst (λ (f : From). Enters (value_of i) f prefix (value f) (value_of then)) (sym is) (record { effect = entered_is }))

      pub whole_entered : number_of from < 256 → IsWhole then
      whole_entered octet = subst (λ (r : RibValue). IsRib r choices.groups.contents i.networks.contents i.own_route) (sym entered_is)
          (kept_entered (value_of i) i.choices.groups.contents choices.groups.contents i.networks.contents i.own_route whole prefix from
          (value from) (subst (λ (f : From). f ≢ Own) is given) octet
          (subst (λ (p : From × Option Rank). SetsRank i.choices.groups.contents prefix p.0 p.1 choices.groups.contents)
          (λ n. (named_is n, ranked n)) marks.ranks))

    -- memory ran out
    pub whole_marked : MarksAtMost i.choices prefix choices → tables_of peerings ≡ tables_of i.peerings → tables_of routers ≡ tables_of i.routers → IsWhole then
    whole_marked marks here there =
        kept_ranks (value_of then) i.choices.groups.contents choices.groups.contents i.networks.contents i.own_route (elim marks.loc [
          | inl still ↦ subst (λ (r : RibValue). IsRib r i.choices.groups.contents i.networks.contents i.own_route) (sym (now_is i.choices.loc still)) whole
          | inr is ↦ subst (λ (r : RibValue). IsRib r i.choices.groups.contents i.networks.contents i.own_route)
              (sym (now_is (record i.choices.loc { dirty = map.insert i.choices.loc.dirty prefix tt }) is))
              (kept_marked (value_of i) i.choices.groups.contents i.choices.groups.contents i.networks.contents i.own_route whole prefix)
        ]) marks.ranks where
          now_is : (l : LocValue) → choices.loc ≡ l → value_of then ≡ record (value_of i) { best = l.best; dirty = l.dirty }
          now_is l is = λ n. record { config = i.config; entries = here n; tellings = there n; best = (is n).best; dirty = (is n).dirty }

  -- a mark was tried
  pub whole_tried : {A E : Type 0} (r : Result A E) (marked : LocValue)
      → OnOk r (marked ≡ record i.choices.loc { dirty = map.insert i.choices.loc.dirty prefix tt }) → OnErr r (marked ≡ i.choices.loc)
      → IsWhole (record i { choices = record i.choices { loc = marked } })
  whole_tried (Ok v) marked is still = subst (λ (l : LocValue). IsWhole (record i { choices = record i.choices { loc = l } })) (sym is)
      (kept_marked (value_of i) i.choices.groups.contents i.choices.groups.contents i.networks.contents i.own_route whole prefix)
  whole_tried (Err e) marked is still = subst (λ (l : LocValue). IsWhole (record i { choices = record i.choices { loc = l } })) (sym still) whole

  -- the prefix was decided
  pub whole_decided : (decided : LocValue)
      → decided ≡ record { best = with_best i.choices.loc.best prefix (rib_choice (value_of i) prefix); dirty = map.remove i.choices.loc.dirty prefix }
      → IsWhole (record i { choices = record i.choices { loc = decided } })
  whole_decided decided is = subst (λ (l : LocValue). IsWhole (record i { choices = record i.choices { loc = l } })) (sym is)
      (kept_decided (value_of i) i.choices.groups.contents i.choices.groups.contents i.networks.contents i.own_route whole prefix)

-- a best route is set, and its prefix is settled
pub decided_is : (loc set settled : LocValue) (prefix : PrefixValue) (best chose : Option Best)
    → set ≡ record loc { best = with_best loc.best prefix best } → settled ≡ record set { dirty = map.remove set.dirty prefix } → chose ≡ best
    → settled ≡ record { best = with_best loc.best prefix chose; dirty = map.remove loc.dirty prefix }
decided_is loc set settled prefix best chose sets settles is =
    settles
    ∙ (ap (λ (l : LocValue). record l { dirty = map.remove l.dirty prefix }) sets
    ∙ ap (λ (b : Option Best). record { best = with_best loc.best prefix b; dirty = map.remove loc.dirty prefix }) (sym is))

-- ---- what was given

sets_same : (rib : RibValue) (from : From) (prefix : PrefixValue) (value : Option (Given from)) → value ≡ map.get (table_from rib from) prefix
    → Sets rib from prefix value rib
sets_same rib from prefix value is = record {
  dirty = inl (is, refl);
  effect = sym (ap (λ (t : map.FinMap prefix_cmp (Given from)). with_table rib from t rib.dirty) (with_same (table_from rib from) prefix value is)
      ∙ same_table rib from);
}

pub not_own-peering : (p : ℕ) → Peering (record { 0 = p }) ≢ Own
not_own-peering p e = cc

pub not_own-router : (q : ℕ) → Router (record { 0 = q }) ≢ Own
not_own-router q e = cc

-- whether it is what the source gives already
pub set_or_other : (rib : RibValue) (from : From) (entry : InEntry) (same : Bool) → from ≢ Own
    → MatchBool same (given_from from entry ≡ map.get (table_from rib from) entry.prefix) (given_from from entry ≢ map.get (table_from rib from) entry.prefix)
    → MatchBool same (SetsIn rib from entry rib) (IsOther rib from entry)
set_or_other rib Own entry true not is = absurd (not refl)
set_or_other rib (Peering p) entry true not is = sets_same rib (Peering p) entry.prefix (given entry) is
set_or_other rib (Router q) entry true not is = sets_same rib (Router q) entry.prefix entry.route is
set_or_other rib from entry false not differs = record { not_own = not; differs = differs }

sets_other : (rib after : RibValue) (from : From) (prefix : PrefixValue) (value : Option (Given from)) → value ≢ map.get (table_from rib from) prefix
    → Enters rib from prefix value after → Sets rib from prefix value after
sets_other rib after from prefix value differs enters =
    let dirty : after.dirty ≡ map.insert rib.dirty prefix tt = ap (λ (r : RibValue). r.dirty) enters.effect in record {
      dirty = inr (differs, dirty);
      effect = enters.effect ∙ ap (with_table rib from (with_value (table_from rib from) prefix value)) (sym dirty);
    }

sets_in : (rib after : RibValue) (from : From) (entry : InEntry) → IsOther rib from entry
    → Enters rib from entry.prefix (given_from from entry) after → SetsIn rib from entry after
sets_in rib after Own entry other enters = absurd (other.not_own refl)
sets_in rib after (Peering p) entry other enters = sets_other rib after (Peering p) entry.prefix (given entry) other.differs enters
sets_in rib after (Router q) entry other enters = sets_other rib after (Router q) entry.prefix entry.route other.differs enters

given_is : (from : From) (entry : InEntry) (route : Option Route) → from ≢ Own → entry.route ≡ route
    → given_from from entry ≡ option_map (λ r. taken from (record { route = r; identifier = entry.identifier; address = entry.address })) route
given_is Own entry route not is = absurd (not refl)
given_is (Peering p) entry route not is = ap (λ (o : Option Route). given (record entry { route = o })) is
given_is (Router q) entry None not is = is
given_is (Router q) entry (Some r) not is = is

pub sets_in_ok : {A E : Type 0} (r : Result A E) (rib after : RibValue) (from : From) (entry : InEntry) (route : Option Route)
    → IsOther rib from entry → entry.route ≡ route
    → OnOk r (Enters rib from entry.prefix
    (option_map (λ r. taken from (record { route = r; identifier = entry.identifier; address = entry.address })) route) after)
    → OnOk r (SetsIn rib from entry after)
sets_in_ok (Ok v) rib after from entry route other is enters = sets_in rib after from entry other
    (subst (λ (o : Option (Given from)). Enters rib from entry.prefix o after) (sym (given_is from entry route other.not_own is)) enters)
sets_in_ok (Err e) rib after from entry route other is enters = tt

-- ---- at the start

module _ (i : Inside) (no_entries : contents_of i.peerings ≡ empties 256) (no_tellings : contents_of i.routers ≡ empties 256)
    (begins : i.choices.loc ≡ record { best = map.empty; dirty = set_of i.config.networks }) where
  pub fresh_is : value_of i
      ≡ record { config = i.config; entries = λ p. map.empty; tellings = λ q. map.empty; best = map.empty; dirty = set_of i.config.networks }
  fresh_is = λ n. record {
    config = i.config;
    entries = (ap table_at no_entries ∙ empty_tables 256) n;
    tellings = (ap table_at no_tellings ∙ empty_tables 256) n;
    best = (begins n).best;
    dirty = (begins n).dirty;
  }

  pub whole_fresh : HasOwnRanks (own_rank i.config.home_as) i.config.networks i.choices.groups.contents
      → i.networks.contents ≡ set_of i.config.networks → i.own_route ≡ own_route → IsWhole i
  whole_fresh has_own set route = subst (λ (r : RibValue). IsRib r i.choices.groups.contents i.networks.contents i.own_route)
      (sym fresh_is) (kept_fresh i.config i.choices.groups.contents i.networks.contents i.own_route has_own set route)
