-- A router as it begins.
use Rattle.std.proofs.Common.{◌≡◌, ℕ, zero, suc, ◌+◌, ◌<◌, ◌≤◌, ◌==◌, List, [], ◌∷◌, ◌++◌, length, map as list_map}
use Rattle.std.proofs.Common.{filter, replicate, set, Option, option_map, unwrap_or, Some, None, Bool, true, false, cond}
use Rattle.std.proofs.Common.{is_some, inl, inr, ◌⊎◌, refl, sym, ap, subst, ◌∙◌, arith, append_assoc}
use Rattle.std.specs.Prelude.{count_by, if◌then◌else◌, slice_get}
use Rattle.std.specs.FinMap as map
use Rattle.std.specs.List.{AllByRecursion}
use Rattle.std.proofs.lemmas.Bool.{cases_lt, eq-eqb, ne_eqb}
use Rattle.std.proofs.lemmas.List.{append-nil, length-append, length-map, length-set}
use Rattle.std.specs.Ordering.{nat_cmp}
use Rattle.bgp_types.specs.Prefixes.{PrefixValue}
use Rattle.bgp_types.specs.Tables.{prefix_cmp}
use Rattle.bgp_types.specs.Header.{frame_at}
use Rattle.bgp_types.specs.declared.attrs.Route.{Route}
use Rattle.route_policy.specs.declared.entry.Entry.{Entry}
use Rattle.bgp_types.proofs.TableLaws.{prefix_total, exact_prefixes}
use Rattle.bgp_story.specs.Legal.{IsGot}
use Rattle.tcp_seq.specs.Endpoint.{run_from, fresh_endpoint}
use Rattle.session_value.specs.declared.config.SessionConfig.{SessionConfig}
use Rattle.session_value.specs.Sessions.{begun, unread}
use Rattle.session_value.specs.Sets.{Prefixes, has}
use Rattle.bgp_session.specs.Running.{RunningSession}
use Rattle.router_tables.proofs.Points.{one_or_other}
use Rattle.router_core.specs.declared.place.Errand.{Errand}
use Rattle.rib_stages.specs.Values.{RibValue, rib_of, set_of, table_at}
use Rattle.rib_stages.proofs.Kept.{set_has}
use Rattle.graft_model.specs.First.{first_router, place_in}
use Rattle.graft_model.specs.Setups.{Setup, PeeringSetup, IsSetup, of_router, peerings_in, starting_at}
use Rattle.graft_model.specs.Parts as model
use Rattle.graft_actors.specs.Actors.{Router, RouterIs}
use Rattle.session_places.specs.Places.{PlaceList, with_place}
use Rattle.router_core.proofs.PlaceLists.{count_first, count_with, count_without, listed, rooms, set_again}
use Rattle.router_core.specs.Beginning.{AreBegun, CanBegin, begun_session, begun_at}
use Rattle.router_core.specs.Begins.{BeginsAs}
use Rattle.actor_configs.specs.Configs.{AreFirstsOf, IsRouterConfigOf, IsRibOf, starting_here}
use Rattle.router_core.specs.Parts.{router_part, RouterInvariant, KeepsPlace, HasReadAll}
use Rattle.router_core.specs.Places.{place_of, place_at}
use Rattle.actor_configs.specs.declared.router.Firsts.{Firsts}
use Rattle.actor_configs.specs.declared.router.RouterConfig.{RouterConfig}
use Rattle.router_core.specs.declared.fields.Fields.{Fields}
use Rattle.router_core.specs.declared.place.Place.{Place}
use Rattle.router_core.specs.declared.place.Place.TheVariants.{Live, Shadow}
use Rattle.router_tables.proofs.DueSteps.{none_in}
use Rattle.router_core.proofs.VisitSteps.{set_here, set_other}

-- ---- places one after another

pub vacant_at : (n p : ℕ) → place_at (replicate n None) p ≡ None
vacant_at zero p = refl
vacant_at (suc n) zero = refl
vacant_at (suc n) (suc p) = vacant_at n p

length_vacant : (n : ℕ) → length {A = Option Place} (replicate n None) ≡ n
length_vacant zero = refl
length_vacant (suc n) = omega (arith, length_vacant n)

pub begun_none : (count : ℕ) (places : List (Option Place)) → places ≡ replicate count None → AreBegun count [] places
begun_none count places is = record {
  length = ap (λ (xs : List (Option Place)). length xs) is ∙ length_vacant count;
  each = λ p. ap (λ (xs : List (Option Place)). place_at xs p) is ∙ vacant_at count p;
}

pub begun_more : (count : ℕ) (config : SessionConfig) (configs : List SessionConfig) (places : List (Option Place)) → config.peering.0 < count
    → AreBegun count configs places
    → AreBegun count (config ∷ configs) (set places config.peering.0 (Some (Live (begun_session config) None)))
begun_more count config configs places there begun = record {
  length = length-set places config.peering.0 (Some (Live (begun_session config) None)) ∙ begun.length;
  each = λ p. elim (one_or_other config.peering.0 p) [
    | inl e ↦
        ap (λ (k : ℕ). place_at (set places config.peering.0 (Some (Live (begun_session config) None))) k) e
        ∙ set_here places config.peering.0 (Some (Live (begun_session config) None)) (omega (arith, there, begun.length))
        ∙ sym (ap (λ (b : Bool). let x : Option Place = if b then Some (Live (begun_session config) None) else begun_at configs p in x)
        (eq-eqb p config.peering.0 e))
    | inr not ↦
        set_other places config.peering.0 (Some (Live (begun_session config) None)) (omega (arith, there, begun.length)) p not ∙ begun.each p
        ∙ sym (ap (λ (b : Bool). let x : Option Place = if b then Some (Live (begun_session config) None) else begun_at configs p in x)
        (ne_eqb p config.peering.0 not))
  ];
}

-- ---- the sessions that start at a router

place_from : ℕ → Option PeeringSetup → Option Place
place_from r None = None
place_from r (Some x) = if x.start == r then Some (Live (begun_session x.config) None) else None

-- the peerings from a number on have their numbers
Numbered : ℕ → List PeeringSetup → Type 0
Numbered k ps = (i : ℕ) (x : PeeringSetup) → slice_get ps i ≡ Some x → x.config.peering.0 ≡ k + i

abbrev here : ℕ → List PeeringSetup → List SessionConfig
here r ps = list_map (λ x. x.config) (filter (λ x. x.start == r) ps)

by_test : (b : Bool) → (b ≡ true) ⊎ (b ≡ false)
by_test true = inl refl
by_test false = inr refl

numbered_rest : (k : ℕ) (x : PeeringSetup) (ps : List PeeringSetup) → Numbered k (x ∷ ps) → Numbered (k + 1) ps
unfolding Numbered
numbered_rest k x ps each i y is = let e : y.config.peering.0 ≡ k + suc i = each (suc i) y is in omega (arith, e)

-- the first of them begins here, or doesn't
starts : (r : ℕ) (x : PeeringSetup) (ps : List PeeringSetup) (p : ℕ) → (x.start == r) ≡ true
    → begun_at (here r (x ∷ ps)) p ≡ (if p == x.config.peering.0 then Some (Live (begun_session x.config) None) else begun_at (here r ps) p)
starts r x ps p e = ap (λ (b : Bool). begun_at (list_map (λ y. y.config) (cond b (x ∷ filter (λ y. y.start == r) ps) (filter (λ y. y.start == r) ps))) p) e

starts_not : (r : ℕ) (x : PeeringSetup) (ps : List PeeringSetup) (p : ℕ) → (x.start == r) ≡ false → begun_at (here r (x ∷ ps)) p ≡ begun_at (here r ps) p
starts_not r x ps p e = ap (λ (b : Bool). begun_at (list_map (λ y. y.config) (cond b (x ∷ filter (λ y. y.start == r) ps) (filter (λ y. y.start == r) ps))) p) e

begun_before : (r k : ℕ) (ps : List PeeringSetup) → Numbered k ps → (p : ℕ) → p < k → begun_at (here r ps) p ≡ None
unfolding Numbered
begun_before r k [] each p below = refl
begun_before r k (x ∷ ps) each p below =
    let first : x.config.peering.0 ≡ k + 0 = each 0 x refl in
    let rest : begun_at (here r ps) p ≡ None = begun_before r (k + 1) ps (numbered_rest k x ps each) p (omega (arith, below)) in
    elim (by_test (x.start == r)) [
      | inl e ↦
          starts r x ps p e
          ∙ ap (λ (b : Bool). let y : Option Place = if b then Some (Live (begun_session x.config) None) else begun_at (here r ps) p in y)
          (ne_eqb p x.config.peering.0 (λ same. let no : ⊥ = omega (arith, same, first, below) in no)) ∙ rest
      | inr e ↦ starts_not r x ps p e ∙ rest
    ]

begun_from : (r k : ℕ) (ps : List PeeringSetup) → Numbered k ps → (i : ℕ) → begun_at (here r ps) (k + i) ≡ place_from r (slice_get ps i)
unfolding Numbered place_from
begun_from r k [] each i = refl
begun_from r k (x ∷ ps) each zero =
    let first : x.config.peering.0 ≡ k + 0 = each 0 x refl in
    elim (by_test (x.start == r)) [
      | inl e ↦
          starts r x ps (k + 0) e
          ∙ ap (λ (b : Bool). let y : Option Place = if b then Some (Live (begun_session x.config) None) else begun_at (here r ps) (k + 0) in y)
          (eq-eqb (k + 0) x.config.peering.0 (sym first))
          ∙ sym (ap (λ (b : Bool). let y : Option Place = if b then Some (Live (begun_session x.config) None) else None in y) e)
      | inr e ↦
          starts_not r x ps (k + 0) e ∙ begun_before r (k + 1) ps (numbered_rest k x ps each) (k + 0) (omega arith)
          ∙ sym (ap (λ (b : Bool). let y : Option Place = if b then Some (Live (begun_session x.config) None) else None in y) e)
    ]
begun_from r k (x ∷ ps) each (suc i) =
    let first : x.config.peering.0 ≡ k + 0 = each 0 x refl in
    let rest : begun_at (here r ps) (k + suc i) ≡ place_from r (slice_get ps i) =
    ap (begun_at (here r ps)) (let e : k + suc i ≡ k + 1 + i = omega arith in e) ∙ begun_from r (k + 1) ps (numbered_rest k x ps each) i in
    elim (by_test (x.start == r)) [
      | inl e ↦
          starts r x ps (k + suc i) e
          ∙ ap (λ (b : Bool). let y : Option Place = if b then Some (Live (begun_session x.config) None) else begun_at (here r ps) (k + suc i) in y)
          (ne_eqb (k + suc i) x.config.peering.0 (λ same. let no : ⊥ = omega (arith, same, first) in no)) ∙ rest
      | inr e ↦ starts_not r x ps (k + suc i) e ∙ rest
    ]

-- each place is that of its peering
begun_is : (setup : Setup) (r p : ℕ) → IsSetup setup → begun_at (starting_here setup r) p ≡ place_from r (slice_get setup.peerings p)
unfolding Numbered
begun_is setup r p sound = ap (begun_at (starting_here setup r)) (let e : p ≡ 0 + p = omega arith in e) ∙ begun_from r 0 setup.peerings numbered p
  where
    numbered : Numbered 0 setup.peerings
    numbered i x is = (sound.peerings i x is).number ∙ (let e : i ≡ 0 + i = omega arith in e)

model_is : (r : ℕ) (o : Option PeeringSetup) → place_of (place_from r o) ≡ place_in r o
unfolding place_from
model_is r None = refl
model_is r (Some x) = by_flag (x.start == r)
  where
    by_flag : (b : Bool)
        → place_of (if b then Some (Live (begun_session x.config) None) else None) ≡ (if b then model.Live (begun x.config) None else model.Vacant)
    by_flag true = refl
    by_flag false = refl

abbrev turn_in : Option Place → ℕ
turn_in None = 0
turn_in (Some (Live u o)) = u.acked_at_turn
turn_in (Some (Shadow away)) = 0

no_turn : (r : ℕ) (o : Option PeeringSetup) (s : RunningSession) (q : Option Errand) → place_from r o ≡ Some (Live s q) → s.acked_at_turn ≡ 0
unfolding place_from
no_turn r None s q e = absurd (let x : ⊥ = cc in x)
no_turn r (Some x) s q e = by_flag (x.start == r) e
  where
    by_flag : (b : Bool) → (if b then Some (Live (begun_session x.config) None) else None) ≡ Some (Live s q) → s.acked_at_turn ≡ 0
    by_flag true is = sym (ap turn_in is)
    by_flag false is = sym (ap turn_in is)

-- ---- what it keeps

none_got : (front rest : List ℕ) → [] ≡ front ++ rest → IsGot front → ⊥
unfolding frame_at
none_got [] rest is (inl got) = let x : ⊥ = cc in x
none_got [] rest is (inr (len, fault)) = let x : ⊥ = omega (arith, len) in x
none_got (b ∷ front) rest is got = let x : ⊥ = cc in x

none_unread : (config : SessionConfig) → unread (begun config) ≡ []
none_unread config = ap (λ (entries : List (ℕ × ℕ)). run_from 0 entries)
    (no_entries (map.entries fresh_endpoint.arrived) (sym (map.len-entries fresh_endpoint.arrived) ∙ map.len-empty nat_cmp ℕ))
  where
    no_entries : (xs : List (ℕ × ℕ)) → length xs ≡ 0 → xs ≡ []
    no_entries [] e = refl
    no_entries (x ∷ xs) e = absurd (omega (arith, e))

all_read : (config : SessionConfig) → HasReadAll (begun config)
all_read config unclosed front rest is got = none_got front rest (sym (none_unread config) ∙ is) got

none_at : (A : Type 0) (x : PrefixValue) → is_some (map.get (let t : map.FinMap prefix_cmp A = map.empty in t) x) ≡ false
none_at A x = ap is_some (map.get-empty prefix_cmp x)

keeps_from : (setup : Setup) (r p : ℕ) → IsSetup setup → (o : Option PeeringSetup) → slice_get setup.peerings p ≡ o
    → KeepsPlace setup r p map.empty map.empty (place_from r o)
unfolding place_from
keeps_from setup r p sound None is = (none_at Entry, none_in)
keeps_from setup r p sound (Some x) is = by_flag (x.start == r)
  where
    by_flag : (b : Bool) → KeepsPlace setup r p map.empty map.empty (if b then Some (Live (begun_session x.config) None) else None)
    by_flag true = (
      record {
        peering = (sound.peerings p x is).number;
        sends = sym (ap (λ (o : Option PeeringSetup). unwrap_or (option_map (λ config. config.send_first.0) (option_map (λ peering. peering.config) o)) 0) is);
        receives = sym
            (ap (λ (o : Option PeeringSetup). unwrap_or (option_map (λ config. config.receive_first.0) (option_map (λ peering. peering.config) o)) 0) is);
      },
      all_read x.config,
      tt,
      λ y has_y. absurd (let e : ◌≡◌ {A = Bool} false true = sym (none_in y) ∙ has_y in let z : ⊥ = cc in z),
    )
    by_flag false = (none_at Entry, none_in)

-- there are first numbers for each peering
no_more : {A : Type 0} (xs : List A) → slice_get xs (length xs) ≡ None
no_more [] = refl
no_more (x ∷ xs) = no_more xs

there_is : {A : Type 0} (xs : List A) (n : ℕ) → n < length xs → is_some (slice_get xs n) ≡ true
there_is [] n below = absurd (omega (arith, below))
there_is (x ∷ xs) zero below = refl
there_is (x ∷ xs) (suc n) below = there_is xs n (omega (arith, below))

pub count_is : (setup : Setup) (firsts : List Firsts) → AreFirstsOf setup firsts → length firsts ≡ peerings_in setup
count_is setup firsts are = elim (cases_lt (length firsts) (peerings_in setup)) [
  | inl below ↦ absurd (let e : ◌≡◌ {A = Bool} false true =
      sym (ap (λ (o : Option Firsts). is_some {T = ℕ × ℕ} (option_map (λ x. (x.home.0, x.remote.0)) o)) (no_more firsts))
      ∙ ap is_some (are.each (length firsts) below) in let z : ⊥ = cc in z)
  | inr from ↦ elim (cases_lt (peerings_in setup) (length firsts)) [
    | inl above ↦ absurd (let e : ◌≡◌ {A = Bool} true false = sym (some_mapped (slice_get firsts (peerings_in setup))
        (there_is firsts (peerings_in setup) above)) ∙ ap is_some (are.none (peerings_in setup) (omega arith)) in let z : ⊥ = cc in z)
    | inr to ↦ omega (arith, from, to)
  ]
]
  where
    some_mapped : (o : Option Firsts) → is_some o ≡ true → is_some {T = ℕ × ℕ} (option_map (λ (x : Firsts). (x.home.0, x.remote.0)) o) ≡ true
    some_mapped None e = e
    some_mapped (Some x) e = refl

-- the sessions that start here can begin
get_below : {A : Type 0} (xs : List A) (i : ℕ) (x : A) → slice_get xs i ≡ Some x → i < length xs
get_below [] i x is = absurd (let e : ⊥ = cc in e)
get_below (y ∷ xs) zero x is = omega arith
get_below (y ∷ xs) (suc i) x is = let h : i < length xs = get_below xs i x is in omega (arith, h)

can_among : (count r : ℕ) (ps : List PeeringSetup) → ((i : ℕ) (x : PeeringSetup) → slice_get ps i ≡ Some x → CanBegin count x.config)
    → AllByRecursion (CanBegin count) (here r ps)
can_among count r [] each = tt
can_among count r (x ∷ ps) each = by_flag (x.start == r) (can_among count r ps (λ i y is. each (suc i) y is))
  where
    by_flag : (b : Bool) → AllByRecursion (CanBegin count) (here r ps)
        → AllByRecursion (CanBegin count) (list_map (λ y. y.config) (cond b (x ∷ filter (λ y. y.start == r) ps) (filter (λ y. y.start == r) ps)))
    by_flag true rest = (each 0 x refl, rest)
    by_flag false rest = rest

pub can_begin : (setup : Setup) (r : ℕ) → IsSetup setup → AllByRecursion (CanBegin (peerings_in setup)) (starting_here setup r)
can_begin setup r sound = can_among (peerings_in setup) r setup.peerings
    (λ i x is. record { there = omega (arith, get_below setup.peerings i x is, (sound.peerings i x is).number); valid = (sound.peerings i x is).valid })

pub config_can_begin : (setup : Setup) (config : RouterConfig) → IsSetup setup → IsRouterConfigOf setup config
    → AllByRecursion (CanBegin (length config.firsts)) config.sessions
config_can_begin setup config sound is =
    subst (λ (n : ℕ). AllByRecursion (CanBegin n) config.sessions) (sym (count_is setup config.firsts is.firsts))
    (subst (AllByRecursion (CanBegin (peerings_in setup))) (sym is.sessions) (can_begin setup config.number.0 sound))

-- ---- the sessions are taken from the last on

-- so many begin, and the others begun already
pub record Begun (count room : ℕ) (all left : List SessionConfig) (places : PlaceList Place) : Type 0 where
  pub done : List SessionConfig
  pub is : all ≡ left ++ done
  pub begun : AreBegun count done places.places
  pub reserved : places.room ≡ room
  pub few : count_by is_some places.places + length left ≤ room

none_counted : (count : ℕ) → (let xs : List (Option Place) = replicate count None in count_by is_some xs) ≡ 0
none_counted zero = refl
none_counted (suc count) = let e = count_first None (replicate count None) in let r = none_counted count in omega (arith, e, r)

pub begun_first : (count room : ℕ) (all : List SessionConfig) (places : PlaceList Place) → places.places ≡ replicate count None → places.room ≡ room
    → length all ≤ room → Begun count room all all places
begun_first count room all places is has few = record {
  done = [];
  is = sym (append-nil all);
  begun = begun_none count places.places is;
  reserved = has;
  few = let none : count_by is_some places.places ≡ 0 = ap (count_by is_some) is ∙ none_counted count in omega (arith, none, few);
}

all_at : (P : SessionConfig → Type 0) (xs ys : List SessionConfig) (x : SessionConfig) → AllByRecursion P (xs ++ x ∷ ys) → P x
all_at P [] ys x h = h.0
all_at P (y ∷ xs) ys x h = all_at P xs ys x h.1

module _ (count room : ℕ) (all left less : List SessionConfig) (places : PlaceList Place) (config : SessionConfig)
    (can : AllByRecursion (CanBegin count) all) (so_far : Begun count room all left places) (last : left ≡ less ++ config ∷ []) where
  all_is : all ≡ less ++ config ∷ so_far.done
  all_is = so_far.is ∙ ap (λ (xs : List SessionConfig). xs ++ so_far.done) last ∙ append_assoc less (config ∷ []) so_far.done

  pub this_can : CanBegin count config
  this_can = all_at (CanBegin count) less so_far.done config (subst (AllByRecursion (CanBegin count)) all_is can)

  one_less : length left ≡ length less + 1
  one_less = ap (λ (xs : List SessionConfig). length xs) last ∙ length-append less (config ∷ [])

  -- the place of the session is made vacant
  module _ (mid : PlaceList Place) (n : ℕ) (at : n ≡ config.peering.0) (cleared : mid ≡ with_place places n None) where
    pub this_there : n < length mid.places
    this_there = let size : length mid.places ≡ length places.places = ap length (listed cleared) ∙ length-set places.places n None in
        omega (arith, at, size, this_can.there, so_far.begun.length)

    pub this_vacant : place_at mid.places n ≡ None
    this_vacant = ap (λ (xs : List (Option Place)). place_at xs n) (listed cleared)
        ∙ set_here places.places n None (let there = this_can.there in let size = so_far.begun.length in omega (arith, at, there, size))

    pub this_room : count_by is_some mid.places < mid.room
    this_room =
        let count_is : count_by is_some mid.places ≡ count_by is_some (set places.places n None) = ap (count_by is_some) (listed cleared) in
        let fewer = count_without places.places n in
        let same : mid.room ≡ room = rooms cleared ∙ so_far.reserved in
        omega (arith, count_is, fewer, same, one_less, so_far.few)

    pub begun_next : (s : RunningSession) → s ≡ begun_session config → (new : PlaceList Place) → new ≡ with_place mid n (Some (Live s None))
        → Begun count room all less new
    begun_next s s_is new put = record {
      done = config ∷ so_far.done;
      is = all_is;
      begun = subst (AreBegun count (config ∷ so_far.done)) (sym list_is) (begun_more count config so_far.done places.places this_can.there so_far.begun);
      reserved = rooms put ∙ (rooms cleared ∙ so_far.reserved);
      few =
          let count_is : count_by is_some new.places ≡ count_by is_some (set places.places config.peering.0 (Some (Live (begun_session config) None))) =
          ap (count_by is_some) list_is in
          let more = count_with places.places config.peering.0 (Live (begun_session config) None) in
          omega (arith, count_is, more, one_less, so_far.few);
    }
      where
        list_is : new.places ≡ set places.places config.peering.0 (Some (Live (begun_session config) None))
        list_is = listed put ∙ ap (λ (xs : List (Option Place)). set xs n (Some (Live s None))) (listed cleared)
            ∙ set_again places.places n None (Some (Live s None))
            ∙ (λ i. set places.places (at i) (Some (Live (s_is i) None)))

pub begun_all : (count room : ℕ) (all left : List SessionConfig) (places : PlaceList Place) → Begun count room all left places → left ≡ []
    → AreBegun count all places.places
begun_all count room all left places so_far none = subst (λ (cs : List SessionConfig). AreBegun count cs places.places)
    (sym (so_far.is ∙ ap (λ (xs : List SessionConfig). xs ++ so_far.done) none)) so_far.begun

-- ---- there is room for the sessions that begin

pub begin_in_room : (setup : Setup) (config : RouterConfig) → IsSetup setup → IsRouterConfigOf setup config → length config.sessions ≤ config.room
begin_in_room setup config sound is =
    let count : length config.sessions ≡ starting_at setup config.number.0 = ap (λ (xs : List SessionConfig). length xs) is.sessions
    ∙ length-map (filter (λ (x : PeeringSetup). x.start == config.number.0) setup.peerings) (λ x. x.config) in
    let few = sound.room config.number.0 is.there in
    omega (arith, count, few, is.room)

-- ---- the whole router

unit_same : (o q : Option (Unit {0})) → is_some o ≡ is_some q → o ≡ q
unit_same None None e = refl
unit_same None (Some y) e = absurd (let z : ⊥ = cc in z)
unit_same (Some x) None e = absurd (let z : ⊥ = cc in z)
unit_same (Some x) (Some y) e = refl

sets_same : (a b : Prefixes) → ((x : PrefixValue) → has a x ≡ has b x) → a ≡ b
sets_same a b same = map.same_map prefix_total exact_prefixes a b (λ x. unit_same (map.get a x) (map.get b x) (same x))

-- what the tables are at first
abbrev pub fresh_rib : RouterConfig → RibValue
fresh_rib config = record { config = config.rib; entries = λ p. map.empty; tellings = λ q. map.empty; best = map.empty; dirty = set_of config.rib.networks }

module _ (f : Fields) (config : RouterConfig) (sound : IsSetup f.known.setup) (is : IsRouterConfigOf f.known.setup config) (rib : rib_of f.rib
    ≡ fresh_rib config) (begun : AreBegun (length config.firsts) config.sessions f.places.places) (reserved : f.places.room ≡ config.room)
    (in_count : length f.due_in ≡ config.routers) (in_none : (n : ℕ) → table_at f.due_in n ≡ map.empty)
    (out_count : length f.due_out ≡ length config.firsts) (out_none : (n : ℕ) → table_at f.due_out n ≡ map.empty) where
  abbrev whole : Fields
  whole = record f {
    number = config.number;
    routers = config.routers;
    room = config.room;
    home_as = config.rib.home_as;
    policies = config.policies;
    firsts = config.firsts;
    turns = 0;
  }

  place_is : (p : ℕ) → place_at f.places.places p ≡ place_from config.number.0 (slice_get f.known.setup.peerings p)
  place_is p = begun.each p ∙ ap (λ (cs : List SessionConfig). begun_at cs p) is.sessions ∙ begun_is f.known.setup config.number.0 p sound

  dirty_is : f.rib.dirty ≡ set_of (of_router (λ router. router.networks) [] f.known.setup config.number.0)
  dirty_is = ap (λ (v : RibValue). v.dirty) rib
      ∙ sets_same (set_of config.rib.networks) (set_of (of_router (λ router. router.networks) [] f.known.setup config.number.0))
      (λ x. set_has config.rib.networks x ∙ is.rib.networks x ∙ sym (set_has (of_router (λ router. router.networks) [] f.known.setup config.number.0) x))

  part_is : router_part whole ≡ first_router f.known.setup config.number.0
  part_is = λ i. record {
    places = λ p. (ap place_of (place_is p) ∙ model_is config.number.0 (slice_get f.known.setup.peerings p)) i;
    entries = ap (λ (v : RibValue). v.entries) rib i;
    tellings = ap (λ (v : RibValue). v.tellings) rib i;
    best = ap (λ (v : RibValue). v.best) rib i;
    dirty = dirty_is i;
    due_in = λ q. in_none q i;
    due_out = λ p. out_none p i;
  }

  keeps_whole : RouterInvariant whole
  keeps_whole = record {
    there = is.there;
    routers = is.routers;
    few_routers = omega (arith, is.routers, is.few_routers);
    few_peerings = is.few_peerings;
    room = is.room;
    reserved = reserved;
    home_as = is.rib.home_as;
    policies = is.policies;
    firsts = is.firsts;
    rib = subst (λ c. IsRibOf f.known.setup config.number.0 c) (sym (ap (λ (v : RibValue). v.config) rib)) is.rib;
    places = begun.length ∙ count_is f.known.setup config.firsts is.firsts;
    due_in = in_count ∙ is.routers;
    due_out = out_count ∙ count_is f.known.setup config.firsts is.firsts;
    tellings = λ q from x. ap (λ (v : RibValue). is_some (map.get (v.tellings q) x)) rib ∙ none_at Route x;
    each = λ p. subst (λ (v : RibValue). KeepsPlace f.known.setup config.number.0 p (v.entries p) (table_at f.due_out p) (place_at f.places.places p)) (sym rib)
        (subst (λ (d : Prefixes). KeepsPlace f.known.setup config.number.0 p map.empty d (place_at f.places.places p)) (sym (out_none p))
        (subst (λ (x : Option Place). KeepsPlace f.known.setup config.number.0 p map.empty map.empty x) (sym (place_is p))
        (keeps_from f.known.setup config.number.0 p sound (slice_get f.known.setup.peerings p) refl)));
  }

  pub begins_as : BeginsAs f.known.setup config whole
  begins_as = record {
    is = λ i. record { setup = f.known.setup; name = Router config.number.0; part = RouterIs (part_is i) };
    turns = refl;
    at_turn = λ p s o runs. no_turn config.number.0 (slice_get f.known.setup.peerings p) s o (sym (place_is p) ∙ runs.is);
    keeps = keeps_whole;
  }
