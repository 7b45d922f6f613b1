-- What is due on a peering changes, or what it gives.
use Rattle.std.proofs.Common.{◌≡◌, ◌≢◌, ℕ, zero, suc, ◌+◌, ◌<◌, ◌≤◌, below_more, List, [], ◌∷◌, length, Option, Some, None}
use Rattle.std.proofs.Common.{refl, sym, ap, ◌∙◌, subst, ◌⊎◌, inl, inr, arith}
use Rattle.std.specs.Prelude.{slice_get, slice_set}
use Rattle.std.specs.FinMap as map
use Rattle.std.proofs.lemmas.Bool.{cases_lt}
use Rattle.std.proofs.lemmas.List.{length-set}
use Rattle.std.proofs.lemmas.Option.{slice_get_past}
use Rattle.bgp_types.specs.Prefixes.{PrefixValue}
use Rattle.bgp_types.specs.Tables.{prefix_cmp}
use Rattle.bgp_types.specs.declared.rank.From.TheVariants.{Peering}
use Rattle.rib_stages.specs.Choosing.{NoneBehind}
use Rattle.rib_stages.specs.Steps.{DropsAll}
use Rattle.rib_stages.specs.Values.{RibValue, rib_of, table_at}
use Rattle.route_policy.specs.declared.entry.Entry.{Entry}
use Rattle.session_value.specs.Sets.{Entries, Marks, Prefixes}
use Rattle.graft_model.specs.Parts.{RouterPart}
use Rattle.graft_model.specs.Points.{at}
use Rattle.graft_model.specs.Setups.{peerings_in, routers_in}
use Rattle.router_tables.specs.Entering.{EntersAll}
use Rattle.router_tables.proofs.Points.{at_else, at_is, at_own, one_or_other}
use Rattle.audit_tables.specs.Changes.{ChangesDue, ChangesEntries, EntersHere}
use Rattle.audit_tables.specs.Parts.{IsForgotten, NothingIsKnown, TablesInvariant, due_at, entries_at, part_with}
use Rattle.audit_tables.specs.declared.pending.Pending.{Pending}
use Rattle.audit_tables.specs.declared.tables.Tables.{Tables}
use Rattle.audit_tables.proofs.Keeping.{keeps_then, no_some}

pub get_set_other : {A : Type 0} (xs : List A) (i j : ℕ) (x : A) → j ≢ i → slice_get (slice_set xs i x) j ≡ slice_get xs j
get_set_other [] i j x not = refl
get_set_other (y ∷ xs) zero zero x not = absurd (not refl)
get_set_other (y ∷ xs) zero (suc j) x not = refl
get_set_other (y ∷ xs) (suc i) zero x not = refl
get_set_other (y ∷ xs) (suc i) (suc j) x not = get_set_other xs i j x (λ e. not (ap suc e))

pub get_set_here : {A : Type 0} (xs : List A) (i : ℕ) (x : A) → i < length xs → slice_get (slice_set xs i x) i ≡ Some x
get_set_here [] i x below = absurd (omega (arith, below))
get_set_here (y ∷ xs) zero x below = refl
get_set_here (y ∷ xs) (suc i) x below = get_set_here xs i x (omega (arith, below))

-- what was known of a peering is forgotten
pub forgotten : (t u : Tables) (p : ℕ) → p < length t.pending.items → u.pending.items ≡ slice_set t.pending.items p None → IsForgotten p u
forgotten t u p there holds pending e =
    let none : ◌≡◌ {A = Option (Option Pending)} (Some None) (Some (Some pending)) =
    sym (ap (λ (xs : List (Option Pending)). slice_get xs p) holds ∙ get_set_here t.pending.items p None there) ∙ e in
    let f : ⊥ = cc in f

-- what is known of one peering more is forgotten
pub forgotten_more : (t u : Tables) (p : ℕ) → p < length t.pending.items → u.pending.items ≡ slice_set t.pending.items p None
    → ((q : ℕ) → q < p → IsForgotten q t) → (q : ℕ) → q < p + 1 → IsForgotten q u
forgotten_more t u p there holds before = below_more (λ q. IsForgotten q u) p
    (λ q below pending e. before q below pending (sym (ap (λ (xs : List (Option Pending)). slice_get xs q) holds
    ∙ get_set_other t.pending.items p q None (λ same. let b : ⊥ = omega (arith, same, below) in b)) ∙ e))
    (forgotten t u p there holds)

-- the same in tables that stay as they were but for that
pub forgotten_next : (t u v : Tables) (p : ℕ) → u ≡ record t { pending = u.pending } → length u.pending.items ≡ length t.pending.items
    → ((q : ℕ) → q < p → IsForgotten q u) → v ≡ record u { pending = v.pending } → v.pending.items ≡ slice_set u.pending.items p None
    → p < length u.pending.items
    → (v ≡ record t { pending = v.pending }) × (length v.pending.items ≡ length t.pending.items) × ((q : ℕ) → q < p + 1 → IsForgotten q v)
forgotten_next t u v p same size before then_same holds there = (
  then_same ∙ ap (λ (x : Tables). let y : Tables = record x { pending = v.pending } in y) same,
  ap (λ (xs : List (Option Pending)). length xs) holds ∙ (length-set u.pending.items p None ∙ size),
  forgotten_more u v p there holds before,
)

-- what is known of all of them
pub forgotten_all : (t : Tables) (n : ℕ) → length t.pending.items ≤ n → ((q : ℕ) → q < n → IsForgotten q t) → NothingIsKnown t
forgotten_all t n all before = record {
  none = λ q. elim (cases_lt q n) as (λ _. IsForgotten q t) [
    | inl below ↦ before q below
    | inr from ↦ λ pending e. no_some (slice_get t.pending.items q) (Some pending) (slice_get_past t.pending.items q (omega (arith, all, from))) e
  ];
}

module _ (t u : Tables) (k : TablesInvariant t) (p : ℕ) where
  -- ---- what is due

  module _ (same : u ≡ record t { due_out = u.due_out; pending = u.pending }) (sizes : length u.due_out ≡ length t.due_out) (due : Prefixes)
      (put : table_at u.due_out ≡ at (table_at t.due_out) p due) (o : Option Pending) (holds : u.pending.items ≡ slice_set t.pending.items p o) where
    pub due_is : due_at u p ≡ due
    due_is = ap (λ (d : ℕ → Prefixes). d p) put ∙ at_own (table_at t.due_out) p due

    pub changes_due : ChangesDue p t u
    changes_due = record {
      effect = λ places. ap (part_with places) same
          ∙ ap (λ (d : ℕ → Prefixes). let part : RouterPart = record (part_with places t) { due_out = d } in part)
          (at_is (table_at t.due_out) (table_at u.due_out) p (due_at u p) refl
          (λ q not. ap (λ (d : ℕ → Prefixes). d q) put ∙ at_else (table_at t.due_out) p due q not));
      others = λ q not. ap (λ (xs : List (Option Pending)). slice_get xs q) holds ∙ get_set_other t.pending.items p q o not;
      keeps = keeps_then t u k
          (subst (λ (x : Tables). x ≡ record t { rib = x.rib; due_in = x.due_in; due_out = x.due_out; pending = x.pending }) (sym same) refl)
          (record {
            due_in = ap (λ (x : Tables). length x.due_in) same;
            due_out = sizes;
            pending = ap length holds ∙ length-set t.pending.items p o;
            config = ap (λ (x : Tables). x.rib.config) same;
            behind = λ x. subst (λ (y : Tables). NoneBehind (peerings_in t.known.setup) (routers_in t.known.setup) (rib_of y.rib) x) (sym same)
                (k.none_behind x);
          });
    }

  -- what is due is another set, and what was known is forgotten
  module _ (dues : List Prefixes) (set : u ≡ record t { due_out = dues; pending = u.pending }) (holds : u.pending.items ≡ slice_set t.pending.items p None)
      (sizes : length dues ≡ length t.due_out) (due : Prefixes) (put : table_at dues ≡ at (table_at t.due_out) p due) where
    steady : u ≡ record t { due_out = u.due_out; pending = u.pending }
    steady = subst (λ (x : Tables). x ≡ record t { due_out = x.due_out; pending = x.pending }) (sym set) refl

    sizes_then : length u.due_out ≡ length t.due_out
    sizes_then = ap (λ (x : Tables). length x.due_out) set ∙ sizes

    put_then : table_at u.due_out ≡ at (table_at t.due_out) p due
    put_then = ap (λ (x : Tables). table_at x.due_out) set ∙ put

    pub due_then : due_at u p ≡ due
    due_then = due_is steady sizes_then due put_then None holds

    pub changes_then : ChangesDue p t u
    changes_then = changes_due steady sizes_then due put_then None holds

    pub forgotten_then : p < peerings_in t.known.setup → IsForgotten p u
    forgotten_then there = forgotten t u p (omega (arith, there, k.pending)) holds

  -- ---- its entries

  module _ (same : u ≡ record t { rib = u.rib; pending = u.pending }) (pending : length u.pending.items ≡ length t.pending.items)
      (unknown : NothingIsKnown u) where
    changes_entries : rib_of u.rib ≡ record (rib_of t.rib) { entries = at (rib_of t.rib).entries p (entries_at u p); dirty = u.rib.dirty }
        → ((x : PrefixValue) → peerings_in t.known.setup ≤ p → map.get (entries_at u p) x ≡ None) → ChangesEntries p t u
    changes_entries rib beyond = record {
      effect = λ places. ap (part_with places) same ∙ ap (λ (v : RibValue). let part : RouterPart = record (part_with places t) {
        entries = v.entries;
        tellings = v.tellings;
        best = v.best;
        dirty = v.dirty;
      } in part) rib;
      unknown = unknown;
      keeps = keeps_then t u k
          (subst (λ (x : Tables). x ≡ record t { rib = x.rib; due_in = x.due_in; due_out = x.due_out; pending = x.pending }) (sym same) refl)
          (record {
            due_in = ap (λ (x : Tables). length x.due_in) same;
            due_out = ap (λ (x : Tables). length x.due_out) same;
            pending = pending;
            config = ap (λ (v : RibValue). v.config) rib;
            behind = λ x. record {
              entries = λ q from. ap (λ (v : RibValue). map.get (v.entries q) x) rib ∙ none x q from (one_or_other p q);
              tellings = λ q from. ap (λ (v : RibValue). map.get (v.tellings q) x) rib ∙ (k.none_behind x).tellings q from;
            };
          });
    }
      where
        none : (x : PrefixValue) (q : ℕ) → peerings_in t.known.setup ≤ q → (q ≡ p) ⊎ (q ≢ p)
            → map.get (at (rib_of t.rib).entries p (entries_at u p) q) x ≡ None
        none x q from (inl e) = ap (λ (es : Entries). map.get es x)
            (ap (at (rib_of t.rib).entries p (entries_at u p)) e ∙ at_own (rib_of t.rib).entries p (entries_at u p)) ∙ beyond x (omega (arith, from, e))
        none x q from (inr not) =
            ap (λ (es : Entries). map.get es x) (at_else (rib_of t.rib).entries p (entries_at u p) q not) ∙ (k.none_behind x).entries q from

    pub enters_here : p < peerings_in t.known.setup → (values : PrefixValue → Option Entry) (prefixes : List PrefixValue)
        → EntersAll (rib_of t.rib) p values prefixes (rib_of u.rib) → EntersHere p values prefixes t u
    enters_here there values prefixes entered =
        record { entered = entered; changes = changes_entries entered.effect (λ x past. absurd (let b : ⊥ = omega (arith, there, past) in b)) }

    module _ (drops : DropsAll (rib_of t.rib) (Peering (record { 0 = p })) (rib_of u.rib)) where
      pub drops_all : ChangesEntries p t u
      drops_all = changes_entries drops.0.effect (λ x past. ap (λ (es : Entries). map.get es x) drops.1 ∙ map.get-empty prefix_cmp x)

      pub drops_dirty : Marks t.rib.dirty (entries_at t p) map.empty u.rib.dirty
      drops_dirty = subst (λ (es : Entries). Marks t.rib.dirty (entries_at t p) es u.rib.dirty) drops.1 drops.0.dirty
