-- The choice among the candidates for a prefix is the choice among ranks that belong to them.
use Rattle.std.proofs.Common.{◌≡◌, ℕ, ◌<◌, ◌≤◌, ◌==◌, Bool, true, false, cond, List, [], ◌∷◌, ◌++◌}
use Rattle.std.proofs.Common.{Option, Some, None, refl, sym, ap, subst, ◌∙◌, arith, inl, inr}
use Rattle.std.specs.Prelude.{option_and_then}
use Rattle.std.specs.FinMap as table
use Rattle.std.specs.BTreeMap.{is_at}
use Rattle.std.specs.List.{AllByRecursion, filter_map, find, list_any, range_with_len}
use Rattle.std.specs.List.Sorted.{IsStrictlySortedBy}
use Rattle.std.specs.Map.{keys_of, lookup}
use Rattle.std.specs.Option.{option_map, option_or}
use Rattle.std.specs.Ordering.{nat_cmp, is_eq}
use Rattle.std.specs.declared.cmp.Ordering.TheVariants.{Less}
use Rattle.std.proofs.lemmas.Bool.{cases_lt, lt-ltb}
use Rattle.std.proofs.lemmas.Bool.Decides.{nat_tests}
use Rattle.std.proofs.lemmas.List.Folds.{find-append}
use Rattle.bgp_types.specs.Prefixes.{PrefixValue}
use Rattle.bgp_types.specs.Tables.{prefix_cmp}
use Rattle.bgp_types.specs.declared.attrs.Route.{Route}
use Rattle.bgp_types.specs.declared.rank.From.{From}
use Rattle.bgp_types.specs.declared.rank.From.TheVariants.{Own, Peering, Router}
use Rattle.bgp_types.specs.declared.rank.Rank.{Rank}
use Rattle.decision_core.specs.Choice.{choice, left_of, keep}
use Rattle.decision_groups.specs.Order.{RankedSource, IsInOrder, from_order, rank_at}
use Rattle.decision_groups.specs.Sources.{candidate_from, ranked_sources}
use Rattle.decision_groups.proofs.OrderLaws.{from_order_total, from_order_exact}
use Rattle.decision_groups.proofs.Sources.{candidate-chosen}
use Rattle.route_policy.specs.Candidates.{Candidate, own_candidates, own_rank, own_route, entry_candidate, rank_of}
use Rattle.route_policy.specs.declared.best.Best.{Best}
use Rattle.route_policy.specs.declared.entry.Entry.{Entry}
use Rattle.rib_stages.specs.declared.config.RibConfig.{RibConfig}
use Rattle.rib_stages.specs.Values.{RibValue}
use Rattle.rib_stages.specs.Choosing.{cost_to, identifier_of, has_network, telling_candidate, source_numbers}
use Rattle.rib_stages.specs.Choosing.{candidates_among, candidates_of, rib_choice, NoneBehind, route_from}
use Rattle.rib_stages.specs.Ranks.{rank_in, entry_rank}
use Rattle.rib_stages.proofs.Sorted.{alike_is_same}
use Rattle.rib_stages.proofs.Numbered.{sources, both_all, both_sorted, sources-append, all_from, sorted_numbers, none_found, found_among, among_range, fewer}

-- ---- where the candidates of numbers come from

abbrev peering_of : ℕ → From
peering_of k = Peering (record { 0 = k })

abbrev router_of : ℕ → From
router_of k = Router (record { 0 = k })

abbrev source_of : Option Candidate → From → From
source_of None from = from
source_of (Some c) from = c.0.from

entry_from : (home k : ℕ) (o : Option Entry) (c : Candidate) → entry_candidate home k o ≡ Some c → c.0.from ≡ peering_of k
entry_from home k None c is = absurd cc
entry_from home k (Some e) c is = sym (ap (λ o. source_of o (peering_of k)) is)

telling_from : (config : RibConfig) (k : ℕ) (o : Option Route) (c : Candidate) → telling_candidate config k o ≡ Some c → c.0.from ≡ router_of k
telling_from config k None c is = absurd cc
telling_from config k (Some route) c is = sym (ap (λ o. source_of o (router_of k)) is)

-- ---- what a test of one source tells

tells_number : (p k : ℕ) → is_eq (nat_cmp p k) ≡ (k == p)
tells_number p k = grind (arith, nat_tests)

rises_number : (j k : ℕ) → j < k → nat_cmp j k ≡ Less
rises_number j k lt = ap (λ (b : Bool). cond b Less
    (cond (j == k) Rattle.std.specs.declared.cmp.Ordering.TheVariants.Equal Rattle.std.specs.declared.cmp.Ordering.TheVariants.Greater)) (lt-ltb j k lt)

or_none : {A : Type 0} (o : Option A) → option_or o None ≡ o
or_none None = refl
or_none (Some x) = refl

-- ---- ranked candidates

abbrev pub from_of : Best → From
from_of best = best.from

keys_are : (cs : List Candidate) → keys_of (ranked_sources from_of cs) ≡ sources cs
keys_are [] = refl
keys_are (c ∷ cs) = ap (λ (xs : List From). c.0.from ∷ xs) (keys_are cs)

rank_step : (c : Candidate) (ranks : List RankedSource) (found : Option Rank) (o : Option Candidate) → found ≡ option_map (λ c. c.1) o → (b : Bool)
    → cond b (Some c.1) found ≡ option_map (λ c. c.1) (cond b (Some c) o)
rank_step c ranks found o is true = refl
rank_step c ranks found o is false = is

rank_found : (test : From → Bool) (cs : List Candidate) → lookup test (ranked_sources from_of cs) ≡ option_map (λ c. c.1) (find (λ c. test c.0.from) cs)
rank_found test [] = refl
rank_found test (c ∷ cs) = rank_step c (ranked_sources from_of cs) (lookup test (ranked_sources from_of cs))
    (find (λ c. test c.0.from) cs) (rank_found test cs) (test c.0.from)

-- nothing stands at a number that no octet has
pub record IsShort (rib : RibValue) : Type 0 where
  pub entries : (p : ℕ) → 256 ≤ p → rib.entries p ≡ table.empty
  pub tellings : (q : ℕ) → 256 ≤ q → rib.tellings q ≡ table.empty

module _ (rib : RibValue) (prefix : PrefixValue) where
  abbrev own : List Candidate
  own = own_candidates rib.config.home_as (has_network rib.config prefix)

  abbrev entry_at : ℕ → Option Candidate
  entry_at p = entry_candidate rib.config.home_as p (table.get (rib.entries p) prefix)

  abbrev telling_at : ℕ → Option Candidate
  telling_at q = telling_candidate rib.config q (table.get (rib.tellings q) prefix)

  entry_named : (k : ℕ) (c : Candidate) → entry_at k ≡ Some c → c.0.from ≡ peering_of k
  entry_named k c is = entry_from rib.config.home_as k (table.get (rib.entries k) prefix) c is

  telling_named : (k : ℕ) (c : Candidate) → telling_at k ≡ Some c → c.0.from ≡ router_of k
  telling_named k c is = telling_from rib.config k (table.get (rib.tellings k) prefix) c is

  -- ---- in order

  own_below : (ys : List From) → AllByRecursion (λ y. from_order Own y ≡ Less) ys → (b : Bool)
      → AllByRecursion (λ x. AllByRecursion (λ y. from_order x y ≡ Less) ys) (sources (own_candidates rib.config.home_as b))
  own_below ys below true = (below, tt)
  own_below ys below false = tt

  own_sorted : (b : Bool) → IsStrictlySortedBy from_order (sources (own_candidates rib.config.home_as b))
  unfolding IsStrictlySortedBy
  own_sorted true = (tt, tt)
  own_sorted false = tt

  abbrev rest : List Candidate
  rest = filter_map entry_at source_numbers ++ filter_map telling_at source_numbers

  entries_sorted : IsStrictlySortedBy from_order (sources (filter_map entry_at source_numbers))
  unfolding source_numbers
  entries_sorted = sorted_numbers entry_at peering_of entry_named (λ j k lt. rises_number j k lt) 256 0

  tellings_sorted : IsStrictlySortedBy from_order (sources (filter_map telling_at source_numbers))
  unfolding source_numbers
  tellings_sorted = sorted_numbers telling_at router_of telling_named (λ j k lt. rises_number j k lt) 256 0

  entries_all : (P : From → Type 0) → ((k : ℕ) → P (peering_of k)) → AllByRecursion P (sources (filter_map entry_at source_numbers))
  unfolding source_numbers
  entries_all P h = all_from entry_at peering_of entry_named P 256 0 (λ k le. h k)

  tellings_all : (P : From → Type 0) → ((k : ℕ) → P (router_of k)) → AllByRecursion P (sources (filter_map telling_at source_numbers))
  unfolding source_numbers
  tellings_all P h = all_from telling_at router_of telling_named P 256 0 (λ k le. h k)

  three_sorted : IsStrictlySortedBy from_order ((sources own ++ sources (filter_map entry_at source_numbers)) ++ sources (filter_map telling_at source_numbers))
  three_sorted =
      let es = sources (filter_map entry_at source_numbers) in
      let ts = sources (filter_map telling_at source_numbers) in
      both_sorted (sources own ++ es) ts
      (both_sorted (sources own) es (own_sorted (has_network rib.config prefix)) entries_sorted
      (own_below es (entries_all (λ y. from_order Own y ≡ Less) (λ k. refl)) (has_network rib.config prefix)))
      tellings_sorted
      (both_all (λ x. AllByRecursion (λ y. from_order x y ≡ Less) ts) (sources own) es
      (own_below ts (tellings_all (λ y. from_order Own y ≡ Less) (λ k. refl)) (has_network rib.config prefix))
      (entries_all (λ x. AllByRecursion (λ y. from_order x y ≡ Less) ts) (λ k. tellings_all (λ y. from_order (peering_of k) y ≡ Less) (λ j. refl))))

  sources_are : sources (candidates_of rib prefix)
      ≡ (sources own ++ sources (filter_map entry_at source_numbers)) ++ sources (filter_map telling_at source_numbers)
  unfolding candidates_of
  sources_are =
      sources-append (own ++ filter_map entry_at source_numbers) (filter_map telling_at source_numbers)
      ∙ ap (λ (xs : List From). xs ++ sources (filter_map telling_at source_numbers)) (sources-append own (filter_map entry_at source_numbers))

  in_order : IsInOrder (ranked_sources from_of (candidates_of rib prefix))
  in_order = subst (IsStrictlySortedBy from_order) (sym (keys_are (candidates_of rib prefix) ∙ sources_are)) three_sorted

  -- ---- what is found by source

  abbrev candidate_at : From → Option Candidate
  candidate_at Own = cond (has_network rib.config prefix) (Some (record { from = Own; route = own_route }, own_rank rib.config.home_as)) None
  candidate_at (Peering p) = entry_at p.0
  candidate_at (Router q) = telling_at q.0

  found_three : (test : From → Bool)
      → find (λ c. test c.0.from) (candidates_of rib prefix) ≡ option_or (option_or (find (λ c. test c.0.from) own)
      (find (λ c. test c.0.from) (filter_map entry_at source_numbers))) (find (λ c. test c.0.from) (filter_map telling_at source_numbers))
  unfolding candidates_of
  found_three test =
      find-append (λ c. test c.0.from) (own ++ filter_map entry_at source_numbers) (filter_map telling_at source_numbers)
      ∙ ap (λ o. option_or o (find (λ c. test c.0.from) (filter_map telling_at source_numbers)))
      (find-append (λ c. test c.0.from) own (filter_map entry_at source_numbers))

  own_found : (b : Bool)
      → find (λ (c : Candidate). is_at (from_order Own) c.0.from) (own_candidates rib.config.home_as b)
      ≡ cond b (Some (record { from = Own; route = own_route }, own_rank rib.config.home_as)) None
  own_found true = refl
  own_found false = refl

  own_passed : (test : From → Bool) → test Own ≡ false → (b : Bool) → find (λ (c : Candidate). test c.0.from) (own_candidates rib.config.home_as b) ≡ None
  own_passed test fails true = ap (λ (b : Bool). cond b (Some (record { from = Own; route = own_route }, own_rank rib.config.home_as)) None) fails
  own_passed test fails false = refl

  here_or_none : (b : Bool) (p : ℕ) (g : ℕ → Option Candidate) → (p < 256 → b ≡ true) → (256 ≤ p → g p ≡ None) → cond b (g p) None ≡ g p
  here_or_none true p g there none = refl
  here_or_none false p g there none = elim (cases_lt p 256) [ inl lt ↦ absurd (let e : ◌≡◌ {A = Bool} false true = there lt in cc) | inr le ↦ sym (none le) ]

  no_entry : IsShort rib → (p : ℕ) → 256 ≤ p → entry_at p ≡ None
  no_entry short p le = ap (entry_candidate rib.config.home_as p)
      (ap (λ (t : Rattle.session_value.specs.Sets.Entries). table.get t prefix) (short.entries p le) ∙ table.get-empty prefix_cmp prefix)

  no_telling : IsShort rib → (q : ℕ) → 256 ≤ q → telling_at q ≡ None
  no_telling short q le = ap (telling_candidate rib.config q)
      (ap (λ (t : Rattle.session_value.specs.Sets.Tellings). table.get t prefix) (short.tellings q le) ∙ table.get-empty prefix_cmp prefix)

  among : (p : ℕ) → p < 256 → list_any (λ k. k == p) source_numbers ≡ true
  unfolding source_numbers
  among p lt = among_range 256 0 p (omega arith) lt

  found_is : IsShort rib → (from : From) → find (λ c. is_at (from_order from) c.0.from) (candidates_of rib prefix) ≡ candidate_at from
  found_is short Own =
      found_three (is_at (from_order Own))
      ∙ (ap (λ o. option_or (option_or (find (λ (c : Candidate). is_at (from_order Own) c.0.from) own) o)
      (find (λ (c : Candidate). is_at (from_order Own) c.0.from) (filter_map telling_at source_numbers)))
      (none_found entry_at peering_of entry_named (is_at (from_order Own)) (λ k. refl) source_numbers)
      ∙ (ap (option_or (option_or (find (λ (c : Candidate). is_at (from_order Own) c.0.from) own) None))
      (none_found telling_at router_of telling_named (is_at (from_order Own)) (λ k. refl) source_numbers)
      ∙ (or_none (option_or (find (λ (c : Candidate). is_at (from_order Own) c.0.from) own) None)
      ∙ (or_none (find (λ (c : Candidate). is_at (from_order Own) c.0.from) own) ∙ own_found (has_network rib.config prefix)))))
  found_is short (Peering p) =
      found_three (is_at (from_order (Peering p)))
      ∙ (ap (λ o. option_or (option_or o (find (λ (c : Candidate). is_at (from_order (Peering p)) c.0.from) (filter_map entry_at source_numbers)))
      (find (λ (c : Candidate). is_at (from_order (Peering p)) c.0.from) (filter_map telling_at source_numbers)))
      (own_passed (is_at (from_order (Peering p))) refl (has_network rib.config prefix))
      ∙ (ap (option_or (option_or None (find (λ (c : Candidate). is_at (from_order (Peering p)) c.0.from) (filter_map entry_at source_numbers))))
      (none_found telling_at router_of telling_named (is_at (from_order (Peering p))) (λ k. refl) source_numbers)
      ∙ (or_none (find (λ (c : Candidate). is_at (from_order (Peering p)) c.0.from) (filter_map entry_at source_numbers))
      ∙ (found_among entry_at peering_of entry_named (is_at (from_order (Peering p))) p.0 (tells_number p.0) source_numbers
      ∙ here_or_none (list_any (λ k. k == p.0) source_numbers) p.0 entry_at (among p.0) (no_entry short p.0)))))
  found_is short (Router q) =
      found_three (is_at (from_order (Router q)))
      ∙ (ap (λ o. option_or (option_or o (find (λ (c : Candidate). is_at (from_order (Router q)) c.0.from) (filter_map entry_at source_numbers)))
      (find (λ (c : Candidate). is_at (from_order (Router q)) c.0.from) (filter_map telling_at source_numbers)))
      (own_passed (is_at (from_order (Router q))) refl (has_network rib.config prefix))
      ∙ (ap (λ o. option_or (option_or None o) (find (λ (c : Candidate). is_at (from_order (Router q)) c.0.from) (filter_map telling_at source_numbers)))
      (none_found entry_at peering_of entry_named (is_at (from_order (Router q))) (λ k. refl) source_numbers)
      ∙ (found_among telling_at router_of telling_named (is_at (from_order (Router q))) q.0 (tells_number q.0) source_numbers
      ∙ here_or_none (list_any (λ k. k == q.0) source_numbers) q.0 telling_at (among q.0) (no_telling short q.0))))

  -- ---- ranks and routes by source

  entry_ranked : (p : ℕ) (o : Option Entry)
      → option_map (λ (c : Candidate). c.1) (entry_candidate rib.config.home_as p o) ≡ option_map (entry_rank rib.config.home_as) o
  entry_ranked p None = refl
  entry_ranked p (Some e) = refl

  telling_ranked : (q : ℕ) (o : Option Route)
      → option_map (λ (c : Candidate). c.1) (telling_candidate rib.config q o)
      ≡ option_map (rank_of rib.config.home_as false (cost_to rib.config q) (identifier_of rib.config q) (identifier_of rib.config q)) o
  telling_ranked q None = refl
  telling_ranked q (Some route) = refl

  own_ranked : (b : Bool)
      → option_map (λ (c : Candidate). c.1) (cond b (Some (record { from = Own; route = own_route }, own_rank rib.config.home_as)) None)
      ≡ cond b (Some (own_rank rib.config.home_as)) None
  own_ranked true = refl
  own_ranked false = refl

  ranked_at : (from : From) → option_map (λ (c : Candidate). c.1) (candidate_at from) ≡ rank_in rib prefix from
  ranked_at Own = own_ranked (has_network rib.config prefix)
  ranked_at (Peering p) = entry_ranked p.0 (table.get (rib.entries p.0) prefix)
  ranked_at (Router q) = telling_ranked q.0 (table.get (rib.tellings q.0) prefix)

  abbrev pub best_from_there : From → Option Best
  best_from_there from = option_map (λ route. record { from = from; route = route }) (route_from rib from prefix)

  entry_best : (p : ℕ) (o : Option Entry)
      → option_map (λ (c : Candidate). c.0) (entry_candidate rib.config.home_as p o)
      ≡ option_map (λ (route : Route). record { from = peering_of p; route = route }) (option_map (λ (e : Entry). e.route) o)
  entry_best p None = refl
  entry_best p (Some e) = refl

  telling_best : (q : ℕ) (o : Option Route)
      → option_map (λ (c : Candidate). c.0) (telling_candidate rib.config q o) ≡ option_map (λ (route : Route). record { from = router_of q; route = route }) o
  telling_best q None = refl
  telling_best q (Some route) = refl

  own_best : (b : Bool)
      → option_map (λ (c : Candidate). c.0) (cond b (Some (record { from = Own; route = own_route }, own_rank rib.config.home_as)) None)
      ≡ option_map (λ (route : Route). record { from = Own; route = route }) (cond b (Some own_route) None)
  own_best true = refl
  own_best false = refl

  best_at : (from : From) → option_map (λ (c : Candidate). c.0) (candidate_at from) ≡ best_from_there from
  best_at Own = own_best (has_network rib.config prefix)
  best_at (Peering p) = entry_best p.0 (table.get (rib.entries p.0) prefix)
  best_at (Router q) = telling_best q.0 (table.get (rib.tellings q.0) prefix)

  -- ---- the choice

  ranks_same : IsShort rib → (ranks : List RankedSource) → ((from : From) → rank_at ranks from ≡ rank_in rib prefix from) → (from : From)
      → rank_at ranks from ≡ rank_at (ranked_sources from_of (candidates_of rib prefix)) from
  ranks_same short ranks are from =
      are from
      ∙ sym (rank_found (is_at (from_order from)) (candidates_of rib prefix)
      ∙ (ap (option_map (λ (c : Candidate). c.1)) (found_is short from) ∙ ranked_at from))

  pub ranks_same_lists : IsShort rib → (ranks : List RankedSource) → IsInOrder ranks → ((from : From) → rank_at ranks from ≡ rank_in rib prefix from)
      → ranks ≡ ranked_sources from_of (candidates_of rib prefix)
  ranks_same_lists short ranks ordered are = alike_is_same from_order from_order_total from_order_exact ranks
      (ranked_sources from_of (candidates_of rib prefix)) ordered in_order (ranks_same short ranks are)

  -- the chosen one of ranks that belong to the candidates names the chosen candidate
  pub choice_named : IsShort rib → (ranks : List RankedSource) → IsInOrder ranks → ((from : From) → rank_at ranks from ≡ rank_in rib prefix from)
      → rib_choice rib prefix ≡ option_and_then best_from_there (choice ranks)
  unfolding rib_choice
  choice_named short ranks ordered are =
      let by_source : candidate_from from_of (candidates_of rib prefix) ≡ best_from_there =
      λ i from. (ap (option_map (λ (c : Candidate). c.0)) (found_is short from) ∙ best_at from) i in
      sym (ap (λ (xs : List RankedSource). option_and_then best_from_there (choice xs)) (ranks_same_lists short ranks ordered are)
      ∙ (ap (λ (f : From → Option Best). option_and_then f (choice (ranked_sources from_of (candidates_of rib prefix)))) (sym by_source)
      ∙ candidate-chosen from_of (candidates_of rib prefix) in_order))

-- further numbers at which nothing stands don't matter
module _ (rib : RibValue) (prefix : PrefixValue) (peerings routers most : ℕ) (few_peerings : peerings ≤ most)
    (few_routers : routers ≤ most) (none : NoneBehind peerings routers rib prefix) where
  fewer_entries : filter_map (entry_at rib prefix) (range_with_len 0 most) ≡ filter_map (entry_at rib prefix) (range_with_len 0 peerings)
  fewer_entries = fewer (entry_at rib prefix) peerings most 0 few_peerings
      (λ k le. ap (entry_candidate rib.config.home_as k) (none.entries k (omega (arith, le))))

  fewer_tellings : filter_map (telling_at rib prefix) (range_with_len 0 most) ≡ filter_map (telling_at rib prefix) (range_with_len 0 routers)
  fewer_tellings = fewer (telling_at rib prefix) routers most 0 few_routers (λ k le. ap (telling_candidate rib.config k) (none.tellings k (omega (arith, le))))

  pub fewer_candidates : candidates_among (range_with_len 0 most) (range_with_len 0 most) rib prefix
      ≡ candidates_among (range_with_len 0 peerings) (range_with_len 0 routers) rib prefix
  fewer_candidates = λ i. (own rib prefix ++ fewer_entries i) ++ fewer_tellings i

pub chosen_among : (rib : RibValue) (prefix : PrefixValue) (peerings routers : ℕ) → peerings ≤ 256 → routers ≤ 256
    → NoneBehind peerings routers rib prefix
    → rib_choice rib prefix ≡ choice (candidates_among (range_with_len 0 peerings) (range_with_len 0 routers) rib prefix)
unfolding rib_choice candidates_of source_numbers
chosen_among rib prefix peerings routers few_peerings few_routers none =
    ap choice (fewer_candidates rib prefix peerings routers 256 few_peerings few_routers none)

-- ---- where the choice is one

-- the choice goes by what stands at the prefix
pub chosen_by : (a b : RibValue) (q : PrefixValue) → a.config ≡ b.config → ((p : ℕ) → table.get (a.entries p) q ≡ table.get (b.entries p) q)
    → ((r : ℕ) → table.get (a.tellings r) q ≡ table.get (b.tellings r) q) → rib_choice a q ≡ rib_choice b q
unfolding rib_choice candidates_of
chosen_by a b q config entries tellings = λ i. choice (
    own_candidates (config i).home_as (has_network (config i) q)
    ++ filter_map (λ p. entry_candidate (config i).home_as p (entries p i)) source_numbers
    ++ filter_map (λ r. telling_candidate (config i) r (tellings r i)) source_numbers)

nothing_chosen : choice {K = Best} [] ≡ None
unfolding choice left_of keep
nothing_chosen = refl

-- without candidates there is none
pub none_chosen : (rib : RibValue) (prefix : PrefixValue) → has_network rib.config prefix ≡ false
    → ((p : ℕ) → table.get (rib.entries p) prefix ≡ None) → ((q : ℕ) → table.get (rib.tellings q) prefix ≡ None) → rib_choice rib prefix ≡ None
none_chosen rib prefix network entries tellings =
    chosen_among rib prefix 0 0 (omega arith) (omega arith) (record { entries = λ p le. entries p; tellings = λ q le. tellings q })
    ∙ (ap (λ (b : Bool). choice (own_candidates rib.config.home_as b ++ [] ++ [])) network ∙ nothing_chosen)
