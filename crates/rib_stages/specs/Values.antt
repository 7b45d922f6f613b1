-- The routes of a router as its callers see them (RFC 4271, section 3.2).
use Rattle.std.specs.Prelude.{ℕ, List, unwrap_or, slice_get, fold, map as list_map, refl}
use Rattle.std.specs.Coded.{Coded, code_by, coded×, coded_list, coded_ℕ}
use base.Stored.{coded_unit}
use Rattle.std.specs.FinMap as map
use Rattle.bgp_types.specs.declared.attrs.Route.{Route}
use Rattle.bgp_types.specs.declared.rank.From.{From}
use Rattle.bgp_types.specs.declared.rank.From.TheVariants.{Own, Peering, Router}
use Rattle.prefix_trie.specs.Table.{TableValue}
use Rattle.bgp_types.specs.Prefixes.{PrefixValue}
use Rattle.bgp_types.specs.Tables.{prefix_cmp, coded_prefix}
use Rattle.route_policy.specs.declared.best.Best.{Best}
use Rattle.route_policy.specs.declared.entry.Entry.{Entry}
use Rattle.session_value.specs.Sets.{BestRoutes, Entries, Prefixes, Tellings}
use Rattle.rib_stages.specs.declared.config.RibConfig.{RibConfig}

-- What is configured; what each peering and each other router gave, by number; the best route to each prefix; and the prefixes that have to be
-- decided again.
pub record RibValue : Type 0 where
  pub config : RibConfig
  pub entries : ℕ → Entries
  pub tellings : ℕ → Tellings
  pub best : BestRoutes
  pub dirty : Prefixes

-- The same as it is stored: the tables of the peerings and of the routers are in lists, by number.
pub record RibStore : Type 0 where
  pub config : RibConfig
  pub entries : List Entries
  pub tellings : List Tellings
  pub best : BestRoutes
  pub dirty : Prefixes

-- the table at an index, which is empty past the last
abbrev pub table_at : {A : Type 0} → List (map.FinMap prefix_cmp A) → ℕ → map.FinMap prefix_cmp A
table_at tables n = unwrap_or (slice_get tables n) map.empty

-- the contents of tables, without their room
abbrev pub contents_of : {A : Type 0} → List (TableValue A) → List (map.FinMap prefix_cmp A)
contents_of tables = list_map (λ t. t.contents) tables

abbrev pub tables_of : {A : Type 0} → List (TableValue A) → ℕ → map.FinMap prefix_cmp A
tables_of tables = table_at (contents_of tables)

abbrev pub rib_of : RibStore → RibValue
rib_of store = record {
  config = store.config;
  entries = table_at store.entries;
  tellings = table_at store.tellings;
  best = store.best;
  dirty = store.dirty;
}

abbrev pub coded_config : Coded RibConfig
coded_config = code_by
    (ℕ × (ℕ × (List ℕ × (List ℕ × List PrefixValue))))
    (coded× coded_ℕ (coded× coded_ℕ (coded× (coded_list coded_ℕ) (coded× (coded_list coded_ℕ) (coded_list coded_prefix)))))
    (λ c. (c.home_as, (c.router.0, (c.identifiers, (c.costs, c.networks)))))
    (λ p. record { home_as = p.0; router = record { 0 = p.1.0 }; identifiers = p.1.1.0; costs = p.1.1.1.0; networks = p.1.1.1.1 })
    (λ _. refl)

-- it is stored as the tuple of the five
abbrev pub coded_rib : Coded Entry → Coded Route → Coded Best → Coded RibStore
coded_rib entry route best = code_by
    (RibConfig × (List Entries × (List Tellings × (BestRoutes × Prefixes))))
    (coded× coded_config (coded× (coded_list (map.code coded_prefix entry))
    (coded× (coded_list (map.code coded_prefix route)) (coded× (map.code coded_prefix best) (map.code coded_prefix coded_unit)))))
    (λ r. (r.config, (r.entries, (r.tellings, (r.best, r.dirty)))))
    (λ p. record { config = p.0; entries = p.1.0; tellings = p.1.1.0; best = p.1.1.1.0; dirty = p.1.1.1.1 })
    (λ _. refl)

-- the set of the prefixes in a list
abbrev pub set_of : List PrefixValue → Prefixes
set_of prefixes = fold (λ set prefix. map.insert set prefix tt) map.empty prefixes

-- ---- by source

-- what a source gives for a prefix: a peering an entry, another router a route, and the router itself nothing but the network
abbrev pub Given : From → Type 0
Given Own = Unit {0}
Given (Peering p) = Entry
Given (Router q) = Route

-- what a source gives
abbrev pub table_from : RibValue → (from : From) → map.FinMap prefix_cmp (Given from)
table_from rib Own = set_of rib.config.networks
table_from rib (Peering p) = rib.entries p.0
table_from rib (Router q) = rib.tellings q.0
