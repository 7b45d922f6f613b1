-- A router as it begins.
use Rattle.std.proofs.Common.{◌≡◌, ℕ, zero, suc, ◌+◌, ◌<◌, ◌==◌, List, [], ◌∷◌, ◌++◌, length, replicate, map, Bool, true, false, cond}
use Rattle.std.proofs.Common.{Option, Some, None, option_map, is_some, ◌⊎◌, inl, inr, append_assoc, append-nil, refl, sym, ap, ◌∙◌, subst, arith}
use Rattle.std.specs.Prelude.{if◌then◌else◌, slice_get, slice_set, unwrap_or}
use Rattle.std.specs.FinMap as table
use Rattle.std.specs.List.{AllByRecursion, filter, find}
use Rattle.std.proofs.lemmas.Bool.{cases_lt, eq-eqb, ne_eqb}
use Rattle.std.proofs.lemmas.List.{get_or_past, get_or-set_other, get_or-set_same, length-replicate, length-set}
use Rattle.std.proofs.lemmas.Option.{slice_get-get_or, slice_get_past, slice_get_within}
use Rattle.bgp_types.specs.Tables.{prefix_cmp}
use Rattle.bgp_session.specs.Running.{RunningSession}
use Rattle.session_value.specs.declared.config.SessionConfig.{SessionConfig}
use Rattle.session_value.specs.Sessions.{begun}
use Rattle.graft_model.specs.First.{first_router, place_in}
use Rattle.graft_model.specs.Parts as model
use Rattle.graft_model.specs.Setups.{IsSetup, PeeringSetup, Setup, peerings_in, room_of, routers_in}
use Rattle.actor_configs.specs.Configs.{AreFirstsOf, IsRouterConfigOf, firsts_at, starting_here}
use Rattle.actor_configs.specs.declared.router.Firsts.{Firsts}
use Rattle.actor_configs.specs.declared.router.RouterConfig.{RouterConfig}
use Rattle.router_tables.specs.Owned.{HasNoEntry, IsOfPeering}
use Rattle.router_tables.proofs.Points.{one_or_other}
use Rattle.audit_tables.specs.Parts.{NothingIsKnown, TablesInvariant, entries_at, part_with}
use Rattle.audit_router.specs.Begins.{AreBegun, CanBegin, begun_place}
use Rattle.audit_router.specs.Parts.{RouterInvariant, places_of, router_part, setup_of_router}
use Rattle.audit_router.specs.Places.{place_at, place_of}
use Rattle.audit_router.specs.declared.place.Place.{Place}
use Rattle.audit_router.specs.declared.place.Place.TheVariants.{Live, Vacant}
use Rattle.audit_router.specs.declared.router.AuditedRouter.{AuditedRouter}
use Rattle.audit_router.proofs.Kept.{KeepsPlaceIn, of_tables}

-- ---- places one after another

abbrev begun_session : SessionConfig → RunningSession
begun_session config = record { session = begun config; acked_at_turn = 0 }

-- the place that the sessions of a list give a peering
abbrev begun_at : List SessionConfig → ℕ → Place
begun_at configs p = begun_place (find (λ config. config.peering.0 == p) configs)

vacant_at : (n p : ℕ) → place_at (replicate n Vacant) p ≡ Vacant
vacant_at zero p = refl
vacant_at (suc n) zero = refl
vacant_at (suc n) (suc p) = vacant_at n p

pub begun_none : (count : ℕ) (places : List Place) → places ≡ replicate count Vacant → AreBegun count [] places
begun_none count places is = record {
  all = ap (λ (xs : List Place). length xs) is ∙ length-replicate count Vacant;
  each = λ p below. ap (λ (xs : List Place). place_at xs p) is ∙ vacant_at count p;
}

find_first : (config : SessionConfig) (configs : List SessionConfig) (p : ℕ) (b : Bool) → (config.peering.0 == p) ≡ b
    → begun_at (config ∷ configs) p ≡ (if b then Live (begun_session config) None else begun_at configs p)
find_first config configs p true e =
    ap (λ (b : Bool). begun_place (if b then Some config else find (λ c. c.peering.0 == p) configs)) e
find_first config configs p false e =
    ap (λ (b : Bool). begun_place (if b then Some config else find (λ c. c.peering.0 == p) configs)) e

pub begun_more : (count : ℕ) (config : SessionConfig) (configs : List SessionConfig) (places : List Place) → config.peering.0 < count
    → AreBegun count configs places → AreBegun count (config ∷ configs) (slice_set places config.peering.0 (Live (begun_session config) None))
begun_more count config configs places there begun = record {
  all = length-set places config.peering.0 (Live (begun_session config) None) ∙ begun.all;
  each = λ p below. elim (one_or_other config.peering.0 p) [
    | inl e ↦
        ap (place_at (slice_set places config.peering.0 (Live (begun_session config) None))) e
        ∙ (get_or-set_same places config.peering.0 (Live (begun_session config) None) Vacant (omega (arith, there, begun.all))
        ∙ sym (find_first config configs p true (eq-eqb config.peering.0 p (sym e))))
    | inr not ↦
        get_or-set_other places config.peering.0 p (Live (begun_session config) None) Vacant not
        ∙ (begun.each p below ∙ sym (find_first config configs p false (ne_eqb config.peering.0 p (λ e. not (sym e)))))
  ];
}

-- ---- the sessions are taken from the last on

-- so many are left, and the others have begun
pub record Begun (count : ℕ) (all left : List SessionConfig) (places : List Place) : Type 0 where
  pub done : List SessionConfig
  pub is : all ≡ left ++ done
  pub begun : AreBegun count done places

pub begun_first : (count : ℕ) (all : List SessionConfig) (places : List Place) → places ≡ replicate count Vacant → Begun count all all places
begun_first count all places none = record { done = []; is = sym (append-nil all); begun = begun_none count places none }

last_can : (P : SessionConfig → Type 0) (xs ys : List SessionConfig) (x : SessionConfig) → AllByRecursion P (xs ++ x ∷ ys) → P x
last_can P [] ys x h = h.0
last_can P (y ∷ xs) ys x h = last_can P xs ys x h.1

module _ (count : ℕ) (all left less : List SessionConfig) (places : List Place) (config : SessionConfig) (can : AllByRecursion (CanBegin count) all)
    (so_far : Begun count all left places) (last : left ≡ less ++ config ∷ []) where
  split : all ≡ less ++ config ∷ so_far.done
  split = so_far.is ∙ (ap (λ (xs : List SessionConfig). xs ++ so_far.done) last ∙ append_assoc less (config ∷ []) so_far.done)

  pub this_can : CanBegin count config
  this_can = last_can (CanBegin count) less so_far.done config (subst (AllByRecursion (CanBegin count)) split can)

  pub begun_next : (n : ℕ) → n ≡ config.peering.0 → (session : RunningSession) → session ≡ begun_session config
      → Begun count all less (slice_set places n (Live session None))
  begun_next n at session is = record {
    done = config ∷ so_far.done;
    is = split;
    begun = subst (AreBegun count (config ∷ so_far.done)) (λ i. slice_set places (sym at i) (Live (sym is i) None))
        (begun_more count config so_far.done places this_can.there so_far.begun);
  }

pub begun_all : (count : ℕ) (all left : List SessionConfig) (places : List Place) → Begun count all left places → left ≡ [] → AreBegun count all places
begun_all count all left places so_far none =
    subst (λ (xs : List SessionConfig). AreBegun count xs places) (sym (so_far.is ∙ ap (λ (xs : List SessionConfig). xs ++ so_far.done) none)) so_far.begun

-- ---- the sessions that start at a router

pub place_from : ℕ → Option PeeringSetup → Place
place_from r None = Vacant
place_from r (Some x) = if x.start == r then Live (begun_session x.config) None else Vacant

-- the peerings from a number on have their numbers
Numbered : ℕ → List PeeringSetup → Type 0
Numbered k ps = (i : ℕ) (x : PeeringSetup) → slice_get ps i ≡ Some x → x.config.peering.0 ≡ k + i

abbrev here : ℕ → List PeeringSetup → List SessionConfig
here r ps = map (λ x. x.config) (filter (λ x. x.start == r) ps)

by_test : (b : Bool) → (b ≡ true) ⊎ (b ≡ false)
by_test true = inl refl
by_test false = inr refl

numbered_rest : (k : ℕ) (x : PeeringSetup) (ps : List PeeringSetup) → Numbered k (x ∷ ps) → Numbered (k + 1) ps
unfolding Numbered
numbered_rest k x ps each i y is = let e : y.config.peering.0 ≡ k + suc i = each (suc i) y is in omega (arith, e)

-- the first of them begins here, or doesn't
starts : (r : ℕ) (x : PeeringSetup) (ps : List PeeringSetup) (p : ℕ) → (x.start == r) ≡ true → (b : Bool) → (x.config.peering.0 == p) ≡ b
    → begun_at (here r (x ∷ ps)) p ≡ (if b then Live (begun_session x.config) None else begun_at (here r ps) p)
starts r x ps p e b same =
    ap (λ (c : Bool). begun_at (map (λ y. y.config) (cond c (x ∷ filter (λ y. y.start == r) ps) (filter (λ y. y.start == r) ps))) p) e
    ∙ find_first x.config (here r ps) p b same

starts_not : (r : ℕ) (x : PeeringSetup) (ps : List PeeringSetup) (p : ℕ) → (x.start == r) ≡ false → begun_at (here r (x ∷ ps)) p ≡ begun_at (here r ps) p
starts_not r x ps p e = ap (λ (b : Bool). begun_at (map (λ y. y.config) (cond b (x ∷ filter (λ y. y.start == r) ps) (filter (λ y. y.start == r) ps))) p) e

begun_before : (r k : ℕ) (ps : List PeeringSetup) → Numbered k ps → (p : ℕ) → p < k → begun_at (here r ps) p ≡ Vacant
unfolding Numbered
begun_before r k [] each p below = refl
begun_before r k (x ∷ ps) each p below =
    let first : x.config.peering.0 ≡ k + 0 = each 0 x refl in
    let rest : begun_at (here r ps) p ≡ Vacant = begun_before r (k + 1) ps (numbered_rest k x ps each) p (omega (arith, below)) in
    elim (by_test (x.start == r)) [
      | inl e ↦ starts r x ps p e false (ne_eqb x.config.peering.0 p (λ same. let no : ⊥ = omega (arith, same, first, below) in no)) ∙ rest
      | inr e ↦ starts_not r x ps p e ∙ rest
    ]

begun_from : (r k : ℕ) (ps : List PeeringSetup) → Numbered k ps → (i : ℕ) → begun_at (here r ps) (k + i) ≡ place_from r (slice_get ps i)
unfolding Numbered place_from
begun_from r k [] each i = refl
begun_from r k (x ∷ ps) each zero =
    let first : x.config.peering.0 ≡ k + 0 = each 0 x refl in
    elim (by_test (x.start == r)) [
      | inl e ↦ starts r x ps (k + 0) e true (eq-eqb x.config.peering.0 (k + 0) first)
          ∙ sym (ap (λ (b : Bool). let y : Place = if b then Live (begun_session x.config) None else Vacant in y) e)
      | inr e ↦ starts_not r x ps (k + 0) e ∙ (begun_before r (k + 1) ps (numbered_rest k x ps each) (k + 0) (omega arith)
          ∙ sym (ap (λ (b : Bool). let y : Place = if b then Live (begun_session x.config) None else Vacant in y) e))
    ]
begun_from r k (x ∷ ps) each (suc i) =
    let first : x.config.peering.0 ≡ k + 0 = each 0 x refl in
    let rest : begun_at (here r ps) (k + suc i) ≡ place_from r (slice_get ps i) =
    ap (begun_at (here r ps)) (let e : k + suc i ≡ k + 1 + i = omega arith in e) ∙ begun_from r (k + 1) ps (numbered_rest k x ps each) i in
    elim (by_test (x.start == r)) [
      | inl e ↦ starts r x ps (k + suc i) e false (ne_eqb x.config.peering.0 (k + suc i) (λ same. let no : ⊥ = omega (arith, same, first) in no)) ∙ rest
      | inr e ↦ starts_not r x ps (k + suc i) e ∙ rest
    ]

-- each place is that of its peering
pub begun_is : (setup : Setup) (r p : ℕ) → IsSetup setup → begun_at (starting_here setup r) p ≡ place_from r (slice_get setup.peerings p)
unfolding Numbered
begun_is setup r p sound = ap (begun_at (starting_here setup r)) (let e : p ≡ 0 + p = omega arith in e) ∙ begun_from r 0 setup.peerings numbered p
  where
    numbered : Numbered 0 setup.peerings
    numbered i x is = (sound.peerings i x is).number ∙ (let e : i ≡ 0 + i = omega arith in e)

pub model_is : (r : ℕ) (o : Option PeeringSetup) → place_of (place_from r o) ≡ place_in r o
unfolding place_from
model_is r None = refl
model_is r (Some x) = by_flag (x.start == r)
  where
    by_flag : (b : Bool) → place_of (if b then Live (begun_session x.config) None else Vacant) ≡ (if b then model.Live (begun x.config) None else model.Vacant)
    by_flag true = refl
    by_flag false = refl

-- ---- what a configuration has

abbrev numbers_in : Option Firsts → Option (ℕ × ℕ)
numbers_in o = option_map (λ x. (x.home.0, x.remote.0)) o

abbrev no_numbers : Firsts
no_numbers = record { home = record { 0 = 0 }; remote = record { 0 = 0 } }

-- there are first numbers for each peering
count_is : (setup : Setup) (firsts : List Firsts) → AreFirstsOf setup firsts → length firsts ≡ peerings_in setup
count_is setup firsts are = elim (cases_lt (length firsts) (peerings_in setup)) [
  | inl below ↦
      let none : firsts_at firsts (length firsts) ≡ None = ap numbers_in (slice_get_past firsts (length firsts) (omega arith)) in
      let some = are.each (length firsts) below in
      absurd (let no : ⊥ = cc in no)
  | inr from ↦ elim (cases_lt (peerings_in setup) (length firsts)) [
    | inl above ↦
        let some = ap numbers_in (slice_get-get_or firsts (peerings_in setup) no_numbers above) in
        let none = are.none (peerings_in setup) (omega arith) in
        absurd (let no : ⊥ = cc in no)
    | inr to ↦ omega (arith, from, to)
  ]
]

can_among : (count r : ℕ) (ps : List PeeringSetup) → ((i : ℕ) (x : PeeringSetup) → slice_get ps i ≡ Some x → CanBegin count x.config)
    → AllByRecursion (CanBegin count) (here r ps)
can_among count r [] each = tt
can_among count r (x ∷ ps) each = by_flag (x.start == r) (can_among count r ps (λ i y is. each (suc i) y is))
  where
    by_flag : (b : Bool) → AllByRecursion (CanBegin count) (here r ps)
        → AllByRecursion (CanBegin count) (map (λ y. y.config) (cond b (x ∷ filter (λ y. y.start == r) ps) (filter (λ y. y.start == r) ps)))
    by_flag true rest = (each 0 x refl, rest)
    by_flag false rest = rest

-- ---- a router that begins with a configuration

module _ (setup : Setup) (config : RouterConfig) (sound : IsSetup setup) (is : IsRouterConfigOf setup config) where
  pub as_many : length config.firsts ≡ peerings_in setup
  as_many = count_is setup config.firsts is.firsts

  -- its sessions can begin
  pub can_begin : AllByRecursion (CanBegin (length config.firsts)) config.sessions
  can_begin = subst (λ (n : ℕ). AllByRecursion (CanBegin n) config.sessions) (sym as_many)
      (subst (AllByRecursion (CanBegin (peerings_in setup))) (sym is.sessions)
      (can_among (peerings_in setup) config.number.0 setup.peerings (λ i x at. record {
        there = omega (arith, slice_get_within setup.peerings i x at, (sound.peerings i x at).number);
        valid = (sound.peerings i x at).valid;
      })))

  module _ (r : AuditedRouter) (setup_is : setup_of_router r ≡ setup) (number : r.tables.number ≡ config.number)
      (each_begun : AreBegun (length config.firsts) config.sessions r.places.items)
      (first : (places : ℕ → model.Place) → places ≡ (first_router setup config.number.0).places
      → part_with places r.tables ≡ first_router setup config.number.0) where
    place_is : (p : ℕ) → place_at r.places.items p ≡ place_from config.number.0 (slice_get setup.peerings p)
    unfolding place_from
    place_is p = elim (cases_lt p (length config.firsts)) [
      | inl below ↦ each_begun.each p below ∙ (ap (λ (xs : List SessionConfig). begun_at xs p) is.sessions ∙ begun_is setup config.number.0 p sound)
      | inr from ↦ get_or_past r.places.items p Vacant (omega (arith, from, each_begun.all))
          ∙ sym (ap (place_from config.number.0) (slice_get_past setup.peerings p (omega (arith, from, as_many))))
    ]

    pub first_is : router_part r ≡ first_router setup config.number.0
    first_is = first (places_of r)
        (λ i p. (ap place_of (place_is p) ∙ model_is config.number.0 (slice_get setup.peerings p)) i)

    no_entry : (p : ℕ) → HasNoEntry (entries_at r.tables p)
    no_entry p x = ap (λ (part : model.RouterPart). is_some (table.get (part.entries p) x)) first_is ∙ ap is_some (table.get-empty prefix_cmp x)

    -- what its place requires
    keeps_from : NothingIsKnown r.tables → (p : ℕ) (o : Option PeeringSetup) → slice_get setup.peerings p ≡ o
        → KeepsPlaceIn r.tables p (place_from config.number.0 o)
    unfolding place_from
    keeps_from unknown p None at = no_entry p
    keeps_from unknown p (Some x) at = by_flag (x.start == config.number.0)
      where
        by_flag : (b : Bool) → KeepsPlaceIn r.tables p (if b then Live (begun_session x.config) None else Vacant)
        by_flag true = (
          subst (λ (s : Setup). IsOfPeering s p (begun x.config)) (sym setup_is) (record {
            peering = (sound.peerings p x at).number;
            sends = sym (ap (λ (o : Option PeeringSetup).
                unwrap_or (option_map (λ c. c.send_first.0) (option_map (λ peering. peering.config) o)) 0) at);
            receives = sym (ap (λ (o : Option PeeringSetup).
                unwrap_or (option_map (λ c. c.receive_first.0) (option_map (λ peering. peering.config) o)) 0) at);
          }),
          tt,
          λ found has. absurd (unknown.none p found has),
        )
        by_flag false = no_entry p

    pub sound_is : TablesInvariant r.tables → NothingIsKnown r.tables → r.routers ≡ config.routers → r.room ≡ config.room → RouterInvariant r
    sound_is tables unknown routers room = record {
      tables = tables;
      routers = routers ∙ (is.routers ∙ ap routers_in (sym setup_is));
      room = room ∙ (is.room ∙ (λ i. room_of (sym setup_is i) (sym number i).0));
      all = each_begun.all ∙ (as_many ∙ ap peerings_in (sym setup_is));
      each = λ p. of_tables r p (place_at r.places.items p)
          (subst (KeepsPlaceIn r.tables p) (sym (place_is p)) (keeps_from unknown p (slice_get setup.peerings p) refl));
    }
