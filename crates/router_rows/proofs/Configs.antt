-- The configurations of the rows are those of their laboratory's routers.
use Rattle.std.proofs.Common.{◌≡◌, ℕ, zero, suc, ◌<◌, ◌≤◌, List, [], ◌∷◌, Bool, true, false, Some, None, refl, arith, lit<, lit≤}
use Rattle.std.specs.Prelude.{option_map, if◌then◌else◌}
use Rattle.std.specs.Str.{bytes_eq}
use Rattle.bgp_types.specs.Prefixes.{PrefixValue}
use Rattle.actor_configs.specs.declared.router.NamedPolicy.{NamedPolicy}
use Rattle.rib_stages.specs.Choosing as of_rib
use Rattle.graft_model.specs.Setups.{NamedRules, identifier_of, room_of}
use Rattle.graft_actors.specs.Items.{home_first, remote_first}
use Rattle.actor_configs.specs.Configs.{AreFirstsOf, ArePoliciesOf, IsRouterConfigOf, IsRibOf, firsts_at, starting_here}
use Rattle.router_rows.specs.Laboratory.{laboratory, all_firsts, config_with, in_name, out_name, prefers}

each_first : (p : ℕ) → p < 5 → firsts_at all_firsts p ≡ Some (home_first laboratory p, remote_first laboratory p)
each_first zero h = refl
each_first (suc zero) h = refl
each_first (suc (suc zero)) h = refl
each_first (suc (suc (suc zero))) h = refl
each_first (suc (suc (suc (suc zero)))) h = refl
each_first (suc (suc (suc (suc (suc p))))) h = absurd (omega arith)

no_first : (p : ℕ) → 5 ≤ p → firsts_at all_firsts p ≡ None
no_first zero h = absurd (omega arith)
no_first (suc zero) h = absurd (omega arith)
no_first (suc (suc zero)) h = absurd (omega arith)
no_first (suc (suc (suc zero))) h = absurd (omega arith)
no_first (suc (suc (suc (suc zero)))) h = absurd (omega arith)
no_first (suc (suc (suc (suc (suc p))))) h = refl

pub firsts_are : AreFirstsOf laboratory all_firsts
firsts_are = record { each = each_first; none = no_first }

abbrev pub policies_0 : List NamedPolicy
policies_0 = record { name = in_name; policy = [] } ∷ []

abbrev pub policies_1 : List NamedPolicy
policies_1 = record { name = in_name; policy = prefers ∷ [] } ∷ record { name = out_name; policy = [] } ∷ []

-- a list of one policy, by whether it has the name that is looked for
one_by : (a : Bool) (p : NamedPolicy) (r : NamedRules) → p.policy ≡ r.rules
    → option_map (λ (x : NamedPolicy). x.policy) (if a then Some p else None) ≡ option_map (λ (x : NamedRules). x.rules) (if a then Some r else None)
one_by true p r e = grind arith
one_by false p r e = refl

two_by : (a b : Bool) (p q : NamedPolicy) (r s : NamedRules) → p.policy ≡ r.rules → q.policy ≡ s.rules
    → option_map (λ (x : NamedPolicy). x.policy) (if a then Some p else if b then Some q else None)
    ≡ option_map (λ (x : NamedRules). x.rules) (if a then Some r else if b then Some s else None)
two_by true b p q r s e f = grind arith
two_by false true p q r s e f = grind arith
two_by false false p q r s e f = refl

pub policies_of_0 : ArePoliciesOf laboratory 0 policies_0
policies_of_0 = record { each = λ name. one_by (bytes_eq name in_name) (record { name = in_name; policy = [] }) (record { name = in_name; rules = [] }) refl }

pub policies_of_1 : ArePoliciesOf laboratory 1 policies_1
policies_of_1 = record {
  each = λ name. two_by (bytes_eq name in_name) (bytes_eq name out_name)
      (record { name = in_name; policy = prefers ∷ [] }) (record { name = out_name; policy = [] })
      (record { name = in_name; rules = prefers ∷ [] }) (record { name = out_name; rules = [] }) refl refl;
}

pub policies_of_2 : ArePoliciesOf laboratory 2 []
policies_of_2 = record { each = λ name. refl }

identifiers_are : (q : ℕ) → of_rib.identifier_of (config_with 0 0 [] [] []).rib q ≡ identifier_of laboratory q
identifiers_are zero = refl
identifiers_are (suc zero) = refl
identifiers_are (suc (suc zero)) = refl
identifiers_are (suc (suc (suc q))) = refl

-- a router of the laboratory, by what is its own
config_is : (number room : ℕ) (policies : List NamedPolicy) (networks : List PrefixValue) → number < 3 → room ≡ room_of laboratory number
    → ArePoliciesOf laboratory number policies → IsRibOf laboratory number (config_with number room policies networks (starting_here laboratory number)).rib
    → IsRouterConfigOf laboratory (config_with number room policies networks (starting_here laboratory number))
config_is number room policies networks there enough are rib =
    record {
      there = there;
      few_routers = lit≤ tt;
      few_peerings = lit≤ tt;
      routers = refl;
      room = enough;
      policies = are;
      firsts = firsts_are;
      rib = rib;
      sessions = refl;
    }

pub config_of_0 : IsRouterConfigOf laboratory (config_with 0 4 policies_0 [] (starting_here laboratory 0))
config_of_0 = config_is 0 4 policies_0 [] (lit< tt) refl policies_of_0
    (record { home_as = refl; number = refl; networks = λ x. refl; identifiers = identifiers_are; costs = λ q. refl })

pub config_of_1 : IsRouterConfigOf laboratory (config_with 1 4 policies_1 [] (starting_here laboratory 1))
config_of_1 = config_is 1 4 policies_1 [] (lit< tt) refl policies_of_1
    (record { home_as = refl; number = refl; networks = λ x. refl; identifiers = identifiers_are; costs = λ q. refl })

pub config_of_2 : IsRouterConfigOf laboratory (config_with 2 2 [] (record { address = 0xC6336400; len = 24 } ∷ []) (starting_here laboratory 2))
config_of_2 = config_is 2 2 [] (record { address = 0xC6336400; len = 24 } ∷ []) (lit< tt) refl policies_of_2
    (record { home_as = refl; number = refl; networks = λ x. refl; identifiers = identifiers_are; costs = λ q. refl })
