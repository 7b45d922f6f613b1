-- A router's tables as they begin.
use Rattle.std.proofs.Common.{◌≡◌, ℕ, zero, suc, ◌+◌, ◌<◌, ◌≤◌, List, [], ◌∷◌, ◌++◌, length, replicate, false, Option, Some, None, is_some}
use Rattle.std.proofs.Common.{refl, sym, ap, ◌∙◌, subst, arith}
use Rattle.std.specs.Prelude.{slice_get}
use Rattle.std.specs.FinMap as map
use Rattle.bgp_types.specs.Prefixes.{PrefixValue}
use Rattle.bgp_types.specs.Tables.{prefix_cmp}
use Rattle.bgp_types.proofs.TableLaws.{exact_prefixes, prefix_total}
use Rattle.session_value.specs.Sets.{Prefixes, has}
use Rattle.rib_stages.specs.Values.{RibValue, rib_of, set_of, table_at}
use Rattle.rib_stages.specs.declared.config.RibConfig.{RibConfig}
use Rattle.rib_stages.proofs.Kept.{set_has}
use Rattle.rib_stages.proofs.Tables.{length_replicate}
use Rattle.actor_configs.specs.Configs.{ArePoliciesOf, IsRibOf}
use Rattle.graft_model.specs.First.{first_router}
use Rattle.graft_model.specs.Parts.{Place}
use Rattle.graft_model.specs.Setups.{of_router, peerings_in, routers_in}
use Rattle.audit_tables.specs.Parts.{NothingIsKnown, TablesInvariant, part_with}
use Rattle.audit_tables.specs.declared.pending.Pending.{Pending}
use Rattle.audit_tables.specs.declared.tables.Tables.{Tables}

-- ---- lists of one value

pub replicate_more : {A : Type 0} (n : ℕ) (x : A) → replicate n x ++ x ∷ [] ≡ replicate (n + 1) x
replicate_more zero x = refl
replicate_more {A} (suc n) x =
    let more : suc (n + 1) ≡ suc n + 1 = omega arith in
    ap (λ (xs : List A). x ∷ xs) (replicate_more n x) ∙ ap (λ (k : ℕ). replicate k x) more

none_at : (n p : ℕ) (pending : Pending) → slice_get (replicate n None) p ≡ Some (Some pending) → ⊥
none_at zero p pending e = let f : ◌≡◌ {A = Option (Option Pending)} None (Some (Some pending)) = e in let b : ⊥ = cc in b
none_at (suc n) zero pending e = let f : ◌≡◌ {A = Option (Option Pending)} (Some None) (Some (Some pending)) = e in let b : ⊥ = cc in b
none_at (suc n) (suc p) pending e = none_at n p pending e

pub first_unknown : (t : Tables) (n : ℕ) → t.pending.items ≡ replicate n None → NothingIsKnown t
first_unknown t n none = record {
  none = λ p pending e. none_at n p pending (sym (ap (λ (xs : List (Option Pending)). slice_get xs p) none) ∙ e);
}

-- ---- sets

unit_same : (o q : Option (Unit {0})) → is_some o ≡ is_some q → o ≡ q
unit_same None None e = refl
unit_same None (Some y) e = absurd (let z : ⊥ = cc in z)
unit_same (Some x) None e = absurd (let z : ⊥ = cc in z)
unit_same (Some x) (Some y) e = refl

sets_same : (a b : Prefixes) → ((x : PrefixValue) → has a x ≡ has b x) → a ≡ b
sets_same a b same = map.same_map prefix_total exact_prefixes a b (λ x. unit_same (map.get a x) (map.get b x) (same x))

-- ---- the tables

module _ (t : Tables) (config : RibConfig) (rib : rib_of t.rib
    ≡ record { config = config; entries = λ p. map.empty; tellings = λ q. map.empty; best = map.empty; dirty = set_of config.networks })
    (is : IsRibOf t.known.setup t.number.0 config) (in_none : (n : ℕ) → table_at t.due_in n ≡ map.empty)
    (out_none : (n : ℕ) → table_at t.due_out n ≡ map.empty) where
  dirty_is : t.rib.dirty ≡ set_of (of_router (λ router. router.networks) [] t.known.setup t.number.0)
  dirty_is = ap (λ (v : RibValue). v.dirty) rib
      ∙ sets_same (set_of config.networks) (set_of (of_router (λ router. router.networks) [] t.known.setup t.number.0))
      (λ x. set_has config.networks x ∙ (is.networks x ∙ sym (set_has (of_router (λ router. router.networks) [] t.known.setup t.number.0) x)))

  pub first_part : (places : ℕ → Place) → places ≡ (first_router t.known.setup t.number.0).places → part_with places t ≡ first_router t.known.setup t.number.0
  first_part places first = λ i. record {
    places = first i;
    entries = ap (λ (v : RibValue). v.entries) rib i;
    tellings = ap (λ (v : RibValue). v.tellings) rib i;
    best = ap (λ (v : RibValue). v.best) rib i;
    dirty = dirty_is i;
    due_in = λ q. in_none q i;
    due_out = λ p. out_none p i;
  }

  pub first_sound : t.number.0 < routers_in t.known.setup → routers_in t.known.setup ≤ 256
      → peerings_in t.known.setup ≤ 256 → t.home_as ≡ config.home_as → ArePoliciesOf t.known.setup t.number.0 t.policies
      → length t.due_in ≡ routers_in t.known.setup → length t.due_out ≡ peerings_in t.known.setup
      → t.pending.items ≡ replicate (peerings_in t.known.setup) None → TablesInvariant t
  first_sound there few_routers few_peerings home policies in_count out_count pending = record {
    there = there;
    few_routers = few_routers;
    few_peerings = few_peerings;
    home_as = home ∙ is.home_as;
    policies = policies;
    rib = subst (IsRibOf t.known.setup t.number.0) (sym (ap (λ (v : RibValue). v.config) rib)) is;
    due_in = in_count;
    due_out = out_count;
    pending = ap (λ (xs : List (Option Pending)). length xs) pending ∙ length_replicate (peerings_in t.known.setup) None;
    none_behind = λ x. record {
      entries = λ p from. ap (λ (v : RibValue). map.get (v.entries p) x) rib ∙ map.get-empty prefix_cmp x;
      tellings = λ n from. ap (λ (v : RibValue). map.get (v.tellings n) x) rib ∙ map.get-empty prefix_cmp x;
    };
  }
