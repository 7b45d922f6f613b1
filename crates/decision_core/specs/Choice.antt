-- The choice between the routes to one prefix (RFC 4271, section 9.1.2): the home network's own
-- routes, then the degree of preference, then the tie-breaks of section 9.1.2.2.
use Rattle.std.specs.Prelude.{◌≡◌, ℕ, ◌==◌, nat_lt, Bool, not, ◌&&◌, List, [], ◌∷◌, filter, fold, map, Option, Some, None, option_map}
use Rattle.std.specs.List.{list_any, enumerate_from}
use Rattle.bgp_types.specs.declared.rank.Rank.{Rank}

-- A rule says whether the first of two ranks is better than the second.
abbrev pub Rule : Type 0
Rule = Rank → Rank → Bool

-- an own network before every other route
abbrev pub is_own : Rule
is_own a b = a.own && not b.own

-- the highest degree of preference (section 9.1.2)
abbrev pub has_higher_preference : Rule
has_higher_preference a b = nat_lt b.pref a.pref

-- (a) the fewest ASes in the path
abbrev pub has_shorter_path : Rule
has_shorter_path a b = nat_lt a.path_len b.path_len

-- (b) the lowest ORIGIN
abbrev pub has_lower_origin : Rule
has_lower_origin a b = nat_lt a.origin b.origin

-- (c) the lowest MED, which is compared only between routes of the same neighbour AS
abbrev pub has_lower_med : Rule
has_lower_med a b = (a.neighbour == b.neighbour) && nat_lt a.med b.med

-- (d) a route heard from outside before a route that another home router told
abbrev pub is_external : Rule
is_external a b = a.external && not b.external

-- (e) the lowest interior cost
abbrev pub has_lower_cost : Rule
has_lower_cost a b = nat_lt a.cost b.cost

-- (f) the lowest BGP Identifier of the speaker
abbrev pub has_lower_identifier : Rule
has_lower_identifier a b = nat_lt a.identifier b.identifier

-- (g) the lowest peer address
abbrev pub has_lower_address : Rule
has_lower_address a b = nat_lt a.address b.address

-- the nine rules, in the order in which they are applied
abbrev pub nine_rules : List Rule
nine_rules = is_own ∷ has_higher_preference ∷ has_shorter_path ∷ has_lower_origin ∷ has_lower_med
    ∷ is_external ∷ has_lower_cost ∷ has_lower_identifier ∷ has_lower_address ∷ []

-- A filter keeps those elements for which no element of the list is better.
unfoldable pub keep : {X : Type 0} → (X → X → Bool) → List X → List X
keep better xs = filter (λ x. not (list_any (λ y. better y x) xs)) xs

-- A candidate is a rank together with its name: its index in a list, or the source of its route. Each rule is applied to all candidates that the
-- rules before it left.
unfoldable pub left_of : {K : Type 0} → List (K × Rank) → List (K × Rank)
left_of candidates = fold (λ rest better. keep (λ c d. better c.1 d.1) rest) candidates nine_rules

abbrev pub first : {X : Type 0} → List X → Option X
first [] = None
first (x ∷ _) = Some x

-- The choice is the first candidate that is left, given by its name.
unfoldable pub choice : {K : Type 0} → List (K × Rank) → Option K
choice candidates = option_map (λ c. c.0) (first (left_of candidates))

-- the ranks of a list, each named by its index from 0
abbrev pub ranks_by_index : List Rank → List (ℕ × Rank)
ranks_by_index ranks = enumerate_from 0 ranks

-- the ranks that the nine rules leave, in the order of the list
abbrev pub ranks_left : List Rank → List Rank
ranks_left ranks = map (λ c. c.1) (left_of (ranks_by_index ranks))

-- neither of two ranks is better by any of the nine rules
pub record AreEqual (a b : Rank) : Type 0 where
  pub own : a.own ≡ b.own
  pub preference : a.pref ≡ b.pref
  pub path : a.path_len ≡ b.path_len
  pub origin : a.origin ≡ b.origin
  pub med : a.neighbour ≡ b.neighbour → a.med ≡ b.med
  pub external : a.external ≡ b.external
  pub cost : a.cost ≡ b.cost
  pub identifier : a.identifier ≡ b.identifier
  pub address : a.address ≡ b.address
