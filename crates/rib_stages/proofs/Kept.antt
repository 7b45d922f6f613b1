-- What belongs to the routes still does after each change.
use Rattle.std.proofs.Common.{◌≡◌, ℕ, ◌<◌, ◌≤◌, ◌==◌, Bool, true, false, cond, ◌||◌, List, [], ◌∷◌, Option, None, refl, sym, ap, ◌∙◌, arith, inl, inr}
use Rattle.std.specs.Prelude.{◌≢◌, ◌⊎◌, fold, is_some}
use Rattle.std.specs.FinMap as map
use Rattle.std.specs.List.{list_any}
use Rattle.std.specs.Option.{option_map}
use Rattle.std.specs.Ordering.{eq_by_cmp, is_eq}
use Rattle.std.specs.declared.cmp.Ordering.{Ordering}
use Rattle.std.specs.declared.cmp.Ordering.TheVariants.{Less, Equal, Greater}
use Rattle.std.proofs.lemmas.Cmp.{tied_itself}
use Rattle.std.proofs.lemmas.Bool.{eqb-true}
use Rattle.std.proofs.lemmas.Bool.Decides.{nat_tests}
use Rattle.bgp_types.specs.Prefixes.{PrefixValue, same_prefix}
use Rattle.bgp_types.specs.Tables.{prefix_cmp}
use Rattle.bgp_types.specs.declared.attrs.Route.{Route}
use Rattle.bgp_types.specs.declared.rank.From.{From}
use Rattle.bgp_types.specs.declared.rank.From.TheVariants.{Own, Peering, Router}
use Rattle.bgp_types.specs.declared.rank.Rank.{Rank}
use Rattle.bgp_types.proofs.TableLaws.{prefix_total, tied}
use Rattle.decision_groups.specs.Order.{RankedSource, from_order, rank_at}
use Rattle.decision_groups.proofs.OrderLaws.{from_order_total, from_order_exact}
use Rattle.loc_rib.specs.Values.{with_best, with_value}
use Rattle.route_policy.specs.Candidates.{own_rank, own_route, rank_of}
use Rattle.session_value.specs.Points.{at}
use Rattle.session_value.specs.Sets.{Prefixes, has}
use Rattle.rib_stages.specs.declared.config.RibConfig.{RibConfig}
use Rattle.rib_stages.specs.Values.{RibValue, Given, set_of, table_from}
use Rattle.rib_stages.specs.Choosing.{cost_to, identifier_of, rib_choice}
use Rattle.rib_stages.specs.Ranks.{RankSets, ranks_at, SetsRank, rank_in, entry_rank, IsRib, HasOwnRanks}
use Rattle.rib_stages.specs.Steps.{with_table}
use Rattle.rib_stages.proofs.Candidates.{chosen_by, none_chosen}
use Rattle.rib_stages.proofs.Marks.{with_gives, with_here, with_there, has_inserted, itself}
use Rattle.rib_stages.proofs.Tables.{there_at}

-- ---- prefixes

pub tests_same : (q p : PrefixValue) → eq_by_cmp prefix_cmp q p ≡ same_prefix q p
tests_same q p = grind (arith, nat_tests)

set_has_from : (networks : List PrefixValue) (set : Prefixes) (q : PrefixValue)
    → has (fold (λ s network. map.insert s network tt) set networks) q ≡ (has set q || list_any (same_prefix q) networks)
set_has_from [] set q = or_false (has set q) where
  or_false : (b : Bool) → b ≡ (b || false)
  or_false true = refl
  or_false false = refl
set_has_from (n ∷ ns) set q = set_has_from ns (map.insert set n tt) q
    ∙ (ap (λ (b : Bool). b || list_any (same_prefix q) ns) (has_inserted set n q ∙ ap (λ (t : Bool). cond t true (has set q)) (tests_same q n))
    ∙ by_test (same_prefix q n) (has set q) (list_any (same_prefix q) ns)) where
      by_test : (t b r : Bool) → (cond t true b || r) ≡ (b || (t || r))
      by_test true true r = refl
      by_test true false r = refl
      by_test false b r = refl

-- the set of a list has what is in the list
pub set_has : (networks : List PrefixValue) (q : PrefixValue) → has (set_of networks) q ≡ list_any (same_prefix q) networks
set_has networks q = set_has_from networks map.empty q ∙ ap (λ (b : Bool). b || list_any (same_prefix q) networks) (ap is_some (map.get-empty prefix_cmp q))

-- what isn't dirty beside one more dirty prefix is another one, and wasn't dirty
pub clean : (set : Prefixes) (p q : PrefixValue) → has (map.insert set p tt) q ≡ false → (q ≢ p) × (has set q ≡ false)
clean set p q is = by_test (eq_by_cmp prefix_cmp q p) refl (sym (has_inserted set p q) ∙ is) where
  by_test : (b : Bool) → eq_by_cmp prefix_cmp q p ≡ b → cond b true (has set q) ≡ false → (q ≢ p) × (has set q ≡ false)
  by_test true e no_set = absurd cc
  by_test false e no_set =
      ((λ same. let t : eq_by_cmp prefix_cmp q p ≡ true = ap (λ (x : PrefixValue). eq_by_cmp prefix_cmp x p) same ∙ itself p in absurd cc), no_set)

behind : (p k : ℕ) → p < 256 → 256 ≤ k → (k == p) ≡ false
behind p k lt le = grind (arith, nat_tests)

module _ {A : Type 0} (f : ℕ → map.FinMap prefix_cmp A) (p : ℕ) (prefix : PrefixValue) (value : Option A) where
  abbrev changed : ℕ → map.FinMap prefix_cmp A
  changed = at f p (with_value (f p) prefix value)

  -- at the number and the prefix that changed
  changed_here : map.get (changed p) prefix ≡ value
  changed_here = ap (λ (t : map.FinMap prefix_cmp A). map.get t prefix) (there_at f p (with_value (f p) prefix value)) ∙ with_here (f p) prefix value

  -- at another number or another prefix
  changed_else : (k : ℕ) (q : PrefixValue) → (k ≡ p → q ≢ prefix) → map.get (changed k) q ≡ map.get (f k) q
  changed_else k q differs = by_test (k == p) refl where
    by_test : (b : Bool) → (k == p) ≡ b → map.get (cond b (with_value (f p) prefix value) (f k)) q ≡ map.get (f k) q
    by_test true e = with_there (f p) prefix value q (differs (eqb-true k p e)) ∙ ap (λ (n : ℕ). map.get (f n) q) (sym (eqb-true k p e))
    by_test false e = refl

  -- at a number that no octet has
  changed_behind : (k : ℕ) → p < 256 → 256 ≤ k → f k ≡ map.empty → changed k ≡ map.empty
  changed_behind k lt le none = ap (λ (b : Bool). cond b (with_value (f p) prefix value) (f k)) (behind p k lt le) ∙ none

-- ---- what a source gives for a prefix is another thing

abbrev pub number_of : From → ℕ
number_of Own = 0
number_of (Peering p) = p.0
number_of (Router q) = q.0

abbrev pub rank_given : RibConfig → (from : From) → Given from → Rank
rank_given config Own given = own_rank config.home_as
rank_given config (Peering p) entry = entry_rank config.home_as entry
rank_given config (Router q) route = rank_of config.home_as false (cost_to config q.0) (identifier_of config q.0) (identifier_of config q.0) route

module _ (rib : RibValue) (prefix : PrefixValue) where
  abbrev pub entered : (from : From) → Option (Given from) → RibValue
  entered from value = with_table rib from (with_value (table_from rib from) prefix value) (map.insert rib.dirty prefix tt)

  rank_here : (from : From) → from ≢ Own → (value : Option (Given from))
      → rank_in (entered from value) prefix from ≡ option_map (rank_given rib.config from) value
  rank_here Own not value = absurd (not refl)
  rank_here (Peering p) not value = ap (option_map (rank_given rib.config (Peering p))) (changed_here rib.entries p.0 prefix value)
  rank_here (Router q) not value = ap (option_map (rank_given rib.config (Router q))) (changed_here rib.tellings q.0 prefix value)

  rank_else : (from : From) (value : Option (Given from)) (other : From) (q : PrefixValue) → (other ≡ from → q ≢ prefix)
      → rank_in (entered from value) q other ≡ rank_in rib q other
  rank_else Own value Own q differs = refl
  rank_else Own value (Peering k) q differs = refl
  rank_else Own value (Router k) q differs = refl
  rank_else (Peering p) value Own q differs = refl
  rank_else (Peering p) value (Peering k) q differs = ap (option_map (rank_given rib.config (Peering k)))
      (changed_else rib.entries p.0 prefix value k.0 q (λ same. differs (ap (λ (n : ℕ). Peering (record { 0 = n })) same)))
  rank_else (Peering p) value (Router k) q differs = refl
  rank_else (Router p) value Own q differs = refl
  rank_else (Router p) value (Peering k) q differs = refl
  rank_else (Router p) value (Router k) q differs = ap (option_map (rank_given rib.config (Router k)))
      (changed_else rib.tellings p.0 prefix value k.0 q (λ same. differs (ap (λ (n : ℕ). Router (record { 0 = n })) same)))

  entries_else : (from : From) (value : Option (Given from)) (q : PrefixValue) → q ≢ prefix → (k : ℕ)
      → map.get (rib.entries k) q ≡ map.get ((entered from value).entries k) q
  entries_else Own value q differs k = refl
  entries_else (Peering p) value q differs k = sym (changed_else rib.entries p.0 prefix value k q (λ same. differs))
  entries_else (Router p) value q differs k = refl

  tellings_else : (from : From) (value : Option (Given from)) (q : PrefixValue) → q ≢ prefix → (k : ℕ)
      → map.get (rib.tellings k) q ≡ map.get ((entered from value).tellings k) q
  tellings_else Own value q differs k = refl
  tellings_else (Peering p) value q differs k = refl
  tellings_else (Router p) value q differs k = sym (changed_else rib.tellings p.0 prefix value k q (λ same. differs))

  entries_behind : (from : From) (value : Option (Given from)) → number_of from < 256 → (k : ℕ) → 256 ≤ k → rib.entries k ≡ map.empty
      → (entered from value).entries k ≡ map.empty
  entries_behind Own value lt k le none = none
  entries_behind (Peering p) value lt k le none = changed_behind rib.entries p.0 prefix value k lt le none
  entries_behind (Router p) value lt k le none = none

  tellings_behind : (from : From) (value : Option (Given from)) → number_of from < 256 → (k : ℕ) → 256 ≤ k → rib.tellings k ≡ map.empty
      → (entered from value).tellings k ≡ map.empty
  tellings_behind Own value lt k le none = none
  tellings_behind (Peering p) value lt k le none = none
  tellings_behind (Router p) value lt k le none = changed_behind rib.tellings p.0 prefix value k lt le none

pub is_equal : (o : Ordering) → is_eq o ≡ true → o ≡ Equal
is_equal Less e = absurd cc
is_equal Equal e = refl
is_equal Greater e = absurd cc

same_source_or_not : (a b : From) → (a ≡ b) ⊎ (a ≢ b)
same_source_or_not a b = by_test (is_eq (from_order a b)) refl where
  by_test : (t : Bool) → is_eq (from_order a b) ≡ t → (a ≡ b) ⊎ (a ≢ b)
  by_test true e = inl (from_order_exact a b (is_equal (from_order a b) e))
  by_test false e = inr (λ same. let t : is_eq (from_order a b) ≡ true =
      ap (λ (x : From). is_eq (from_order a x)) (sym same) ∙ ap is_eq (tied_itself from_order_total a) in absurd cc)

same_prefix_or_not : (q p : PrefixValue) → (q ≡ p) ⊎ (q ≢ p)
same_prefix_or_not q p = by_test (eq_by_cmp prefix_cmp q p) refl where
  by_test : (t : Bool) → eq_by_cmp prefix_cmp q p ≡ t → (q ≡ p) ⊎ (q ≢ p)
  by_test true e = inl (tied q p e)
  by_test false e = inr (λ same. let t : eq_by_cmp prefix_cmp q p ≡ true = ap (λ (x : PrefixValue). eq_by_cmp prefix_cmp x p) same ∙ itself p in absurd cc)

-- ---- after a change

module _ (rib : RibValue) (sets after : RankSets) (networks : Prefixes) (own : Route) (kept : IsRib rib sets networks own) where
  -- a prefix is dirty
  pub kept_marked : (prefix : PrefixValue) → IsRib (record rib { dirty = map.insert rib.dirty prefix tt }) sets networks own
  kept_marked prefix = record {
    ranks = kept.ranks;
    entries = kept.entries;
    tellings = kept.tellings;
    networks = kept.networks;
    own = kept.own;
    decided = record {
      best = λ q is. kept.decided.best q (clean rib.dirty prefix q is).1
          ∙ chosen_by rib (record rib { dirty = map.insert rib.dirty prefix tt }) q refl (λ p. refl) (λ r. refl);
    };
  }

  -- the sets of ranks have the same
  pub kept_ranks : ranks_at after ≡ ranks_at sets → IsRib rib after networks own
  kept_ranks same = record {
    ranks = λ prefix from. ap (λ (f : PrefixValue → List RankedSource). rank_at (f prefix) from) same ∙ kept.ranks prefix from;
    entries = kept.entries;
    tellings = kept.tellings;
    networks = kept.networks;
    own = kept.own;
    decided = kept.decided;
  }

  -- the prefix gets the chosen route
  module _ (prefix : PrefixValue) where
    abbrev decided_rib : RibValue
    decided_rib = record rib { best = with_best rib.best prefix (rib_choice rib prefix); dirty = map.remove rib.dirty prefix }

    chosen_still : (q : PrefixValue) → rib_choice rib q ≡ rib_choice decided_rib q
    chosen_still q = chosen_by rib decided_rib q refl (λ p. refl) (λ r. refl)

    best_then : (q : PrefixValue) → has (map.remove rib.dirty prefix) q ≡ false
        → map.get (with_best rib.best prefix (rib_choice rib prefix)) q ≡ rib_choice decided_rib q
    best_then q is = by_test (eq_by_cmp prefix_cmp q prefix) refl where
      by_test : (b : Bool) → eq_by_cmp prefix_cmp q prefix ≡ b → map.get (with_best rib.best prefix (rib_choice rib prefix)) q ≡ rib_choice decided_rib q
      by_test true e = with_gives rib.best prefix q (rib_choice rib prefix)
          ∙ (ap (λ (b : Bool). cond b (rib_choice rib prefix) (map.get rib.best q)) e ∙ (ap (rib_choice rib) (sym (tied q prefix e)) ∙ chosen_still q))
      by_test false e =
          let no_dirty : has rib.dirty q ≡ false =
          ap is_some (sym (map.get-remove prefix_total rib.dirty prefix q ∙ ap (λ (b : Bool). cond b None (map.get rib.dirty q)) e)) ∙ is in
          with_gives rib.best prefix q (rib_choice rib prefix)
          ∙ (ap (λ (b : Bool). cond b (rib_choice rib prefix) (map.get rib.best q)) e ∙ (kept.decided.best q no_dirty ∙ chosen_still q))

    pub kept_decided : IsRib decided_rib sets networks own
    kept_decided = record {
      ranks = kept.ranks;
      entries = kept.entries;
      tellings = kept.tellings;
      networks = kept.networks;
      own = kept.own;
      decided = record { best = best_then };
    }

  -- a peering or another router gives something else
  pub kept_entered : (prefix : PrefixValue) (from : From) (value : Option (Given from)) → from ≢ Own → number_of from < 256
      → SetsRank sets prefix from (option_map (rank_given rib.config from) value) after → IsRib (entered rib prefix from value) after networks own
  kept_entered prefix from value not octet set = record {
    ranks = λ q other. elim (same_prefix_or_not q prefix) [
      | inl here ↦ elim (same_source_or_not other from) [
        | inl same ↦ (λ i. rank_at (ranks_at after (here i)) (same i))
            ∙ (set.there ∙ sym ((λ i. rank_in (entered rib prefix from value) (here i) (same i)) ∙ rank_here rib prefix from not value))
        | inr apart ↦ ap (λ (x : PrefixValue). rank_at (ranks_at after x) other) here
            ∙ (set.others other apart ∙ (ap (λ (x : PrefixValue). rank_at (ranks_at sets x) other) (sym here)
            ∙ (kept.ranks q other ∙ sym (rank_else rib prefix from value other q (λ same. absurd (apart same))))))
      ]
      | inr there ↦ ap (λ (rs : List RankedSource). rank_at rs other) (set.elsewhere q there)
          ∙ (kept.ranks q other ∙ sym (rank_else rib prefix from value other q (λ same. there)))
    ];
    entries = λ k le. entries_behind rib prefix from value octet k le (kept.entries k le);
    tellings = λ k le. tellings_behind rib prefix from value octet k le (kept.tellings k le);
    networks = kept.networks;
    own = kept.own;
    decided = record {
      best = λ q is.
          let c = clean rib.dirty prefix q is in
          kept.decided.best q c.1
          ∙ chosen_by rib (entered rib prefix from value) q refl (entries_else rib prefix from value q c.0) (tellings_else rib prefix from value q c.0);
    };
  }

-- ---- at the start

module _ (config : RibConfig) (sets : RankSets) (networks : Prefixes) (own : Route) where
  abbrev fresh : RibValue
  fresh = record { config = config; entries = λ p. map.empty; tellings = λ q. map.empty; best = map.empty; dirty = set_of config.networks }

  fresh_ranks : HasOwnRanks (own_rank config.home_as) config.networks sets → (q : PrefixValue) (from : From)
      → rank_at (ranks_at sets q) from ≡ rank_in fresh q from
  fresh_ranks has_own q Own = has_own.own q
  fresh_ranks has_own q (Peering p) = has_own.others q (Peering p) (λ e. absurd (not_own e))
      ∙ sym (ap (option_map (entry_rank config.home_as)) (map.get-empty prefix_cmp q)) where
        not_own : Peering p ≡ Own → ⊥
        not_own e = cc
  fresh_ranks has_own q (Router r) = has_own.others q (Router r) (λ e. absurd (not_own e))
      ∙ sym (ap (option_map (rank_of config.home_as false (cost_to config r.0) (identifier_of config r.0) (identifier_of config r.0)))
      (map.get-empty prefix_cmp q)) where
        not_own : Router r ≡ Own → ⊥
        not_own e = cc

  pub kept_fresh : HasOwnRanks (own_rank config.home_as) config.networks sets → networks ≡ set_of config.networks → own ≡ own_route
      → IsRib fresh sets networks own
  kept_fresh has_own set route = record {
    ranks = fresh_ranks has_own;
    entries = λ p le. refl;
    tellings = λ q le. refl;
    networks = set;
    own = route;
    decided = record {
      best = λ q is. map.get-empty prefix_cmp q
          ∙ sym (none_chosen fresh q (sym (set_has config.networks q) ∙ is) (λ p. map.get-empty prefix_cmp q) (λ r. map.get-empty prefix_cmp q));
    };
  }
