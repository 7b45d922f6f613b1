-- What is kept where a router's tables change.
use Rattle.std.proofs.Common.{◌≡◌, ℕ, List, length, Option, Some, None, refl, sym, ap, ◌∙◌, subst}
use Rattle.bgp_types.specs.Prefixes.{PrefixValue}
use Rattle.graft_model.specs.Setups.{peerings_in, routers_in}
use Rattle.graft_model.specs.Parts.{Place, RouterPart}
use Rattle.graft_model.specs.RouterRows.{RouterSent}
use Rattle.graft_model.specs.declared.event.RouterEvent.{RouterEvent}
use Rattle.graft_model.specs.Steps.{router_row}
use Rattle.rib_stages.specs.Choosing.{NoneBehind}
use Rattle.rib_stages.specs.Values.{rib_of}
use Rattle.actor_configs.specs.Configs.{IsRibOf}
use Rattle.graft_actors.specs.Actors.{ActorName}
use Rattle.audit_ruling.specs.Rulings.{Parcel}
use Rattle.audit_ruling.specs.declared.ruling.Ruling.{Ruling}
use Rattle.audit_ruling.specs.declared.ruling.Ruling.TheVariants.{Refused}
use Rattle.audit_tables.specs.Changes.{KeepsTables}
use Rattle.audit_tables.specs.Decides.{DecidesTables, DecidesTablesTaking}
use Rattle.audit_tables.specs.Parts.{TablesInvariant, part_with}
use Rattle.audit_tables.specs.declared.tables.Tables.{Tables}

pub no_some : {A : Type 0} (o : Option A) (x : A) → o ≡ None → o ≡ Some x → ⊥
no_some o x none some = let e : None ≡ Some x = sym none ∙ some in cc

pub one_some : {A : Type 0} (x y : A) → ◌≡◌ {A = Option A} (Some x) (Some y) → x ≡ y
one_some x y e = cc

-- all but the routes, what is due and what is known to be to tell is as it was
abbrev pub IsSteady : Tables → Tables → Type 0
IsSteady t u = u ≡ record t { rib = u.rib; due_in = u.due_in; due_out = u.due_out; pending = u.pending }

-- There are as many sets of what is due, and nothing of a peering or a router that isn't there.
pub record IsAlike (t u : Tables) : Type 0 where
  pub due_in : length u.due_in ≡ length t.due_in
  pub due_out : length u.due_out ≡ length t.due_out
  pub pending : length u.pending.items ≡ length t.pending.items
  pub config : u.rib.config ≡ t.rib.config
  pub behind : (x : PrefixValue) → NoneBehind (peerings_in t.known.setup) (routers_in t.known.setup) (rib_of u.rib) x

pub keeps_then : (t u : Tables) → TablesInvariant t → IsSteady t u → IsAlike t u → KeepsTables t u
keeps_then t u k steady alike = record {
  setup = ap (λ (x : Tables). x.known.setup) steady;
  number = ap (λ (x : Tables). x.number) steady;
  sound = subst TablesInvariant (sym steady) (record {
    there = k.there;
    few_routers = k.few_routers;
    few_peerings = k.few_peerings;
    home_as = k.home_as;
    policies = k.policies;
    rib = subst (IsRibOf t.known.setup t.number.0) (sym alike.config) k.rib;
    due_in = alike.due_in ∙ k.due_in;
    due_out = alike.due_out ∙ k.due_out;
    pending = alike.pending ∙ k.pending;
    none_behind = alike.behind;
  });
}

pub keeps_itself : (t : Tables) → TablesInvariant t → KeepsTables t t
keeps_itself t k = record { setup = refl; number = refl; sound = k }

pub refused : (t u : Tables) (places : ℕ → Place) → TablesInvariant t → (event : RouterEvent) → u ≡ t
    → ((gave : List RouterSent) (after : RouterPart) → ¬ router_row t.known.setup t.number.0 event (part_with places t) None gave after)
    → DecidesTables event places t Refused u
refused t u places k event same never =
    subst (DecidesTables event places t Refused) (sym same) (record { rules = (refl, never); keeps = keeps_itself t k })

-- ---- only what is known to be to tell changes

module _ (t f : Tables) (forgot : f ≡ record t { pending = f.pending }) where
  pub keeps_pending : length f.pending.items ≡ length t.pending.items → TablesInvariant t → KeepsTables t f
  keeps_pending count k = keeps_then t f k
      (subst (λ (x : Tables). x ≡ record t { rib = x.rib; due_in = x.due_in; due_out = x.due_out; pending = x.pending }) (sym forgot) refl)
      (record {
        due_in = ap (λ (x : Tables). length x.due_in) forgot;
        due_out = ap (λ (x : Tables). length x.due_out) forgot;
        pending = count;
        config = ap (λ (x : Tables). x.rib.config) forgot;
        behind = λ x. subst (λ (y : Tables). NoneBehind (peerings_in t.known.setup) (routers_in t.known.setup) (rib_of y.rib) x) (sym forgot) (k.none_behind x);
      })

  module _ (event : RouterEvent) (places : ℕ → Place) (ruling : Ruling) (u : Tables) where
    pub forgotten_decides : DecidesTables event places f ruling u → DecidesTables event places t ruling u
    forgotten_decides = subst (λ (x : Tables). DecidesTables event places x ruling u → DecidesTables event places t ruling u) (sym forgot)
        (λ d. record { rules = d.rules; keeps = record { setup = d.keeps.setup; number = d.keeps.number; sound = d.keeps.sound } })

    pub forgotten_takes : (from : ActorName) (channel rest : List Parcel) → DecidesTablesTaking event from places f channel ruling u rest
        → DecidesTablesTaking event from places t channel ruling u rest
    forgotten_takes from channel rest = subst (λ (x : Tables). DecidesTablesTaking event from places x channel ruling u rest
        → DecidesTablesTaking event from places t channel ruling u rest) (sym forgot)
        (λ d. record { rules = d.rules; keeps = record { setup = d.keeps.setup; number = d.keeps.number; sound = d.keeps.sound } })
