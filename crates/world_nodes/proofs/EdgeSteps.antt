-- The edges of a laboratory, actor by actor.
use Rattle.std.proofs.Common.{◌≡◌, ◌≢◌, ◌≤◌, ◌<◌, ◌+◌, ℕ, Bool, true, false, List, [], ◌∷◌, ◌++◌, refl, ap, sym, ◌∙◌, arith, inl, inr}
use Rattle.std.specs.Prelude.{◌==◌, ◌&&◌, ◌||◌, ◌⊎◌, ◌-◌, nat_lt, if◌then◌else◌, Option, Some, None}
use Rattle.std.proofs.lemmas.Bool.Decides.{eqb_tells, nat_tests}
use Rattle.ring_net.specs.Phases.{is_edge}
use Rattle.ring_net.specs.Fresh.{AreEdges}
use Rattle.graft_model.specs.Setups.{Setup}
use Rattle.graft_actors.specs.Actors.{ActorName, Router, FarSide, Operator, actor_at}
use Rattle.world_nodes.specs.Edges.{AddsEdgesFrom, AreEdgesOf, HasCounts, NoneFrom, has_channel, talks}
use Rattle.world_nodes.proofs.EdgeLists.{edge_in_more, one_edge_more}

-- ---- tests

or_false : (t : Bool) → (t || false) ≡ t
or_false true = refl
or_false false = refl

flip : (a b : ℕ) → (b == a) ≡ (a == b)
flip a b = grind (arith, nat_tests)

next_below : (b n : ℕ) → b ≢ n → nat_lt b (n + 1) ≡ nat_lt b n
next_below b n ne = grind (arith, nat_tests)

below_next : (n : ℕ) → nat_lt n (n + 1) ≡ true
below_next n = grind (arith, nat_tests)

not_below : (n b : ℕ) → n ≤ b → nat_lt b n ≡ false
not_below n b past = grind (arith, nat_tests)

-- ---- numbers that are nobody's

nobody : (setup : Setup) (routers peerings n : ℕ) → HasCounts setup (routers, peerings) → routers + peerings + 1 ≤ n → actor_at setup n ≡ None
nobody setup routers peerings n counts past = rw (counts.routers, counts.peerings) (by_tests n routers peerings past)
  where
    by_tests : (n r p : ℕ) → r + p + 1 ≤ n
        → (if nat_lt n r then Some (Router n) else if nat_lt n (r + p) then Some (FarSide (n - r)) else if n == r + p then Some Operator else None) ≡ None
    by_tests n r p past = rw (not_below r n (omega arith), not_below (r + p) n (omega arith), not_it n (r + p) (omega arith)) refl
      where
        not_it : (n m : ℕ) → m < n → (n == m) ≡ false
        not_it n m l = grind (arith, nat_tests)

silent_to : (from : Option ActorName) → talks from None ≡ false
silent_to None = refl
silent_to (Some (Router r)) = refl
silent_to (Some (FarSide p)) = refl
silent_to (Some Operator) = refl

to_nobody : (setup : Setup) (routers peerings a b : ℕ) → HasCounts setup (routers, peerings) → routers + peerings + 1 ≤ b → has_channel setup a b ≡ false
to_nobody setup routers peerings a b counts past = ap (λ o. talks (actor_at setup a) o) (nobody setup routers peerings b counts past)
    ∙ silent_to (actor_at setup a)

from_nobody : (setup : Setup) (routers peerings a b : ℕ) → HasCounts setup (routers, peerings) → routers + peerings + 1 ≤ a → has_channel setup a b ≡ false
from_nobody setup routers peerings a b counts past = ap (λ o. talks o (actor_at setup b)) (nobody setup routers peerings a counts past)

-- ---- the edges from one actor

-- those to the actors before this one were added, and there is none ahead
pub record RowUpTo (routers peerings from to : ℕ) (first edges : List (ℕ × ℕ)) : Type 0 where
  pub sound : AreEdges (routers + peerings + 1) edges
  pub none : (a b : ℕ) → from ≤ a → (a ≡ from → to ≤ b) → is_edge edges a b ≡ false
  pub added : (setup : Setup) → HasCounts setup (routers, peerings) → (a b : ℕ)
      → is_edge edges a b ≡ (is_edge first a b || (a == from && (nat_lt b to && has_channel setup a b)))

pub row_none : (routers peerings from : ℕ) (first : List (ℕ × ℕ)) → AreEdges (routers + peerings + 1) first → NoneFrom from first
    → RowUpTo routers peerings from 0 first first
row_none routers peerings from first sound none = record {
  sound = sound;
  none = λ a b past ahead. none a b past;
  added = λ setup counts a b. sym (ap (λ t. is_edge first a b || (a == from && (t && has_channel setup a b))) (not_below 0 b (omega arith))
      ∙ ap (λ t. is_edge first a b || t) (and_false (a == from)) ∙ or_false (is_edge first a b));
}
  where
    and_false : (t : Bool) → (t && false) ≡ false
    and_false true = refl
    and_false false = refl

-- one test more
more : (f t : Bool) (a b from to : ℕ) → (a ≡ from → b ≡ to → t ≡ true)
    → ((f || (a == from && (nat_lt b to && t))) || (from == a && to == b)) ≡ (f || (a == from && (nat_lt b (to + 1) && t)))
more f t a b from to is = elim (eqb_tells a from) [
  | inl s ↦ elim (eqb_tells b to) [
    | inl r ↦ rw (flip a from, flip b to, s.0, r.0, is s.1 r.1, r.1, below_next to) (rw (not_below to to (omega arith)) (ends f))
    | inr ne ↦ rw (flip a from, flip b to, s.0, ne.0, next_below b to ne.1) (or_false (f || (true && (nat_lt b to && t))))
  ]
  | inr ne ↦ rw (flip a from, ne.0) (or_false (f || false))
]
  where
    ends : (f : Bool) → ((f || false) || true) ≡ (f || true)
    ends true = refl
    ends false = refl

same : (f t : Bool) (a b from to : ℕ) → (a ≡ from → b ≡ to → t ≡ false)
    → (f || (a == from && (nat_lt b to && t))) ≡ (f || (a == from && (nat_lt b (to + 1) && t)))
same f t a b from to not = elim (eqb_tells a from) [
  | inl s ↦ elim (eqb_tells b to) [
    | inl r ↦ rw (s.0, not s.1 r.1) (ap (λ u. f || (true && u)) (and_false (nat_lt b to) ∙ sym (and_false (nat_lt b (to + 1)))))
    | inr ne ↦ rw (next_below b to ne.1) refl
  ]
  | inr ne ↦ rw (ne.0) refl
]
  where
    and_false : (t : Bool) → (t && false) ≡ false
    and_false true = refl
    and_false false = refl

pub row_more : (routers peerings from to : ℕ) (first edges : List (ℕ × ℕ)) → from ≤ routers + peerings → to < routers + peerings + 1
    → ((setup : Setup) → HasCounts setup (routers, peerings) → true ≡ has_channel setup from to) → from ≢ to
    → RowUpTo routers peerings from to first edges → RowUpTo routers peerings from (to + 1) first (edges ++ (from, to) ∷ [])
row_more routers peerings from to first edges from_in to_in may apart row = record {
  sound = one_edge_more (routers + peerings + 1) edges from to row.sound (omega arith) to_in apart (row.none from to (omega arith) (λ _. omega arith));
  none = λ a b past ahead. edge_in_more edges from to a b ∙ rw (row.none a b past (λ e. let l : to + 1 ≤ b = ahead e in omega arith)) (other a b ahead);
  added = λ setup counts a b. edge_in_more edges from to a b
      ∙ rw (row.added setup counts a b) (more (is_edge first a b) (has_channel setup a b) a b from to (λ s r. rw (s, r) (sym (may setup counts))));
}
  where
    other : (a b : ℕ) → (a ≡ from → to + 1 ≤ b) → (from == a && to == b) ≡ false
    other a b ahead = elim (eqb_tells from a) [
      | inl s ↦ elim (eqb_tells to b) [ inl r ↦ absurd (let l : to + 1 ≤ b = ahead (sym s.1) in omega (arith, l, r.1)) | inr ne ↦ rw (s.0, ne.0) refl ]
      | inr ne ↦ rw (ne.0) refl
    ]

pub row_same : (routers peerings from to : ℕ) (first edges : List (ℕ × ℕ))
    → ((setup : Setup) → HasCounts setup (routers, peerings) → false ≡ has_channel setup from to)
    → RowUpTo routers peerings from to first edges → RowUpTo routers peerings from (to + 1) first edges
row_same routers peerings from to first edges not row = record {
  sound = row.sound;
  none = λ a b past ahead. row.none a b past (λ e. let l : to + 1 ≤ b = ahead e in omega arith);
  added = λ setup counts a b. row.added setup counts a b
      ∙ same (is_edge first a b) (has_channel setup a b) a b from to (λ s r. rw (s, r) (sym (not setup counts)));
}

pub row_all : (routers peerings from : ℕ) (first edges : List (ℕ × ℕ)) → RowUpTo routers peerings from (routers + peerings + 1) first edges
    → (setup : Setup) → HasCounts setup (routers, peerings) → AddsEdgesFrom setup from first edges
row_all routers peerings from first edges row setup counts a b = row.added setup counts a b
    ∙ ap (λ t. is_edge first a b || (a == from && t)) (by_number (below b (routers + peerings + 1)))
  where
    below : (b n : ℕ) → (nat_lt b n ≡ true) ⊎ (n ≤ b)
    below b n = grind (arith, nat_tests)

    by_number : ((nat_lt b (routers + peerings + 1) ≡ true) ⊎ (routers + peerings + 1 ≤ b))
        → (nat_lt b (routers + peerings + 1) && has_channel setup a b) ≡ has_channel setup a b
    by_number (inl l) = rw l refl
    by_number (inr past) = rw (to_nobody setup routers peerings a b counts past, not_below (routers + peerings + 1) b past) refl

pub row_ahead : (routers peerings from : ℕ) (first edges : List (ℕ × ℕ)) → RowUpTo routers peerings from (routers + peerings + 1) first edges
    → NoneFrom (from + 1) edges
row_ahead routers peerings from first edges row a b past = row.none a b (omega arith) (λ e. absurd (omega (arith, past, e)))

-- ---- the edges from all actors

-- those from the actors before this one are there
pub record RowsUpTo (routers peerings from : ℕ) (edges : List (ℕ × ℕ)) : Type 0 where
  pub sound : AreEdges (routers + peerings + 1) edges
  pub none : NoneFrom from edges
  pub each : (setup : Setup) → HasCounts setup (routers, peerings) → (a b : ℕ) → is_edge edges a b ≡ (nat_lt a from && has_channel setup a b)

pub rows_more : (routers peerings from : ℕ) (edges new : List (ℕ × ℕ)) → AreEdges (routers + peerings + 1) new → NoneFrom (from + 1) new
    → ((setup : Setup) → HasCounts setup (routers, peerings) → AddsEdgesFrom setup from edges new)
    → RowsUpTo routers peerings from edges → RowsUpTo routers peerings (from + 1) new
rows_more routers peerings from edges new sound none added rows = record {
  sound = sound;
  none = none;
  each = λ setup counts a b. added setup counts a b ∙ rw (rows.each setup counts a b) (joined a (has_channel setup a b));
}
  where
    joined : (a : ℕ) (t : Bool) → ((nat_lt a from && t) || (a == from && t)) ≡ (nat_lt a (from + 1) && t)
    joined a t = elim (eqb_tells a from) [
      | inl s ↦ rw (s.0, s.1, below_next from, not_below from from (omega arith)) refl
      | inr ne ↦ rw (ne.0, next_below a from ne.1) (or_false (nat_lt a from && t))
    ]

pub rows_all : (routers peerings : ℕ) (edges : List (ℕ × ℕ)) → RowsUpTo routers peerings (routers + peerings + 1) edges → (setup : Setup)
    → HasCounts setup (routers, peerings) → AreEdgesOf setup edges
rows_all routers peerings edges rows setup counts = record {
  sound = rw (counts.routers, counts.peerings) (rows.sound);
  each = λ a b. rows.each setup counts a b ∙ by_number a b (below a (routers + peerings + 1));
}
  where
    below : (b n : ℕ) → (nat_lt b n ≡ true) ⊎ (n ≤ b)
    below b n = grind (arith, nat_tests)

    by_number : (a b : ℕ) → ((nat_lt a (routers + peerings + 1) ≡ true) ⊎ (routers + peerings + 1 ≤ a))
        → (nat_lt a (routers + peerings + 1) && has_channel setup a b) ≡ has_channel setup a b
    by_number a b (inl l) = rw l refl
    by_number a b (inr past) = rw (from_nobody setup routers peerings a b counts past, not_below (routers + peerings + 1) a past) refl
