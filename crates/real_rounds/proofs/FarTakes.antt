-- Takes of a far side, one after another.
use Rattle.std.proofs.Common.{◌≡◌, ◌≢◌, ◌+◌, ◌∙◌, ℕ, zero, suc, List, [], ◌∷◌, ◌++◌, length, map, refl}
use Rattle.std.proofs.Common.{ap, sym, subst, inl, inr, arith, append_assoc, length-append}
use Rattle.std.specs.Prelude.{Option, Some, None, option_map, filter}
use Rattle.std.specs.List.{AllByRecursion, range_with_len}
use Rattle.std.proofs.Math.Path.{subst⁻¹}
use Rattle.std.proofs.lemmas.List.{append-nil, map-append}
use Rattle.std.proofs.lemmas.List.Elements.{filter-append}
use Rattle.ring_net.specs.Deeds.{Deed, Replay, TakesFirst}
use Rattle.link_bag.specs.declared.plan.Fate.{Fate}
use Rattle.link_bag.specs.Planned.{fate_in}
use Rattle.graft_model.specs.Codes.{far_code}
use Rattle.graft_model.specs.Parts.{FarPart}
use Rattle.graft_model.specs.FarRows.{FarTaken, FarSent}
use Rattle.graft_model.specs.Setups.{Setup}
use Rattle.graft_model.specs.declared.event.FarEvent.{FarEvent}
use Rattle.graft_model.specs.declared.event.FarEvent.TheVariants.{Say, Send, Take, Pass, Reach, Lose, Point, Beat}
use Rattle.graft_model.specs.Steps.{far_row}
use Rattle.graft_actors.specs.Makes.{HasCode, AreDeeds}
use Rattle.graft_actors.specs.Acts.{OwnPart, ActsAs, acts}
use Rattle.bgp_session.specs.Running.{carried}
use Rattle.far_side.specs.Parts.{far_part, own_part}
use Rattle.far_side.specs.Passes.{SameLink, fates_in, plans_put}
use Rattle.far_side.specs.Takes.{TookAsFar, segments_taken_in}
use Rattle.far_side.specs.Turns.{FarGoes}
use Rattle.far_side.specs.declared.fields.Fields.{Fields}
use Rattle.far_side.specs.declared.link.InLink.{InLink}
use Rattle.world_nodes.specs.Nodes.{Mail}
use Rattle.real_rounds.proofs.Calls.{FarTakesAreOne, FarTakesKeepLinks}
use Rattle.real_rounds.specs.Fars.{IsFarTake, is_take}
use Rattle.real_rounds.proofs.RouterDeeds.{IsKept}
use Rattle.graft_actors.proofs.Deeds.{are_deeds-append}

-- ---- events after events

pub far_append : (Allowed : FarPart → FarEvent → Type 0) (setup : Setup) (p : ℕ) (a b c : FarPart) (es fs : List FarEvent)
    → FarGoes setup p Allowed a es b → FarGoes setup p Allowed b fs c → FarGoes setup p Allowed a (es ++ fs) c
far_append Allowed setup p a b c [] fs h k = subst (λ (x : FarPart). FarGoes setup p Allowed x fs c) h k
far_append Allowed setup p a b c (e ∷ es) fs (taken, sent, m, row, allowed, rest) k =
    (taken, sent, m, row, allowed, far_append Allowed setup p m b c es fs rest k)

-- ---- fates

abbrev pub fates_by : (ℕ → Fate) → (from n : ℕ) → List (Fate × ℕ)
fates_by fate from n = map (λ k. (fate k, 0)) (range_with_len (from + 1) n)

pub fates_put : (fate : ℕ → Fate) (router from n : ℕ) → map (λ (x : InLink). (x.fate, x.turns)) (plans_put fate router from n) ≡ fates_by fate from n
fates_put fate router from zero = refl
fates_put fate router from (suc n) = ap (λ (xs : List (Fate × ℕ)). (fate (from + 1), 0) ∷ xs) (fates_put fate router (from + 1) n)

pub fates_then : (fate : ℕ → Fate) (from m n k next : ℕ) → k ≡ m + n → next ≡ from + m → fates_by fate from k ≡ fates_by fate from m ++ fates_by fate next n
fates_then fate from zero n k next e f =
    ap (λ (i : ℕ). fates_by fate from i) (let h : k ≡ n = omega (arith, e) in h)
    ∙ ap (λ (i : ℕ). fates_by fate i n) (let h : from ≡ next = omega (arith, f) in h)
fates_then fate from (suc m) n zero next e f = absurd (omega (arith, e))
fates_then fate from (suc m) n (suc k) next e f =
    ap (λ (xs : List (Fate × ℕ)). (fate (from + 1), 0) ∷ xs) (fates_then fate (from + 1) m n k next (omega (arith, e)) (omega (arith, f)))

-- ---- one take

counts : (event : FarEvent) (d : Deed Mail) → HasCode (far_code event) d.entry → segments_taken_in (d ∷ []) ≡ length (filter is_take (event ∷ []))
counts (Say step) d coded = rw (coded.kind) refl
counts (Send from len) d coded = rw (coded.kind) refl
counts (Take router) d coded = rw (coded.kind) refl
counts (Pass index keep router) d coded = rw (coded.kind) refl
counts (Reach index keep) d coded = rw (coded.kind) refl
counts (Lose way index) d coded = rw (coded.kind) refl
counts (Point router) d coded = rw (coded.kind) refl
counts (Beat round) d coded = rw (coded.kind) refl

taking_row : (setup : Setup) (p : ℕ) (event : FarEvent) (a b : FarPart) (taken : Option FarTaken) (sent : List FarSent)
    → far_row setup p event a taken sent b → taken ≢ None → IsFarTake a event
taking_row setup p (Say step) a b taken sent row some = tt
taking_row setup p (Send from len) a b taken sent row some = absurd (some row.takes)
taking_row setup p (Take router) a b taken sent row some = tt
taking_row setup p (Pass index keep router) a b taken sent row some = absurd (some row.takes)
taking_row setup p (Reach index keep) a b taken sent row some = absurd (some row.takes)
taking_row setup p (Lose way index) a b taken sent row some = absurd (some row.takes)
taking_row setup p (Point router) a b taken sent row some = tt
taking_row setup p (Beat round) a b taken sent row some = absurd (some row.takes)

-- ---- several takes

-- What takes leave: their events, each of which takes an item, and what is put into the link to the remote.
pub record TookFar (a : Fields) (ds : List (Deed Mail)) (b : Fields) : Type 0 where
  pub setup : b.known.setup ≡ a.known.setup
  pub peering : b.peering ≡ a.peering
  pub events : List FarEvent
  pub coded : AreDeeds far_code events ds
  pub goes : FarGoes a.known.setup a.peering.0 IsFarTake (far_part a) events (far_part b)
  pub took : List InLink
  pub fates : map (λ (x : InLink). (x.fate, x.turns)) took ≡ fates_by (fates_in a.plan a.remoteward) a.remoteward.put (length (filter is_take events))
  pub plans : b.remoteward.plans ≡ a.remoteward.plans ++ took
  pub put : b.remoteward.put ≡ a.remoteward.put + length (filter is_take events)
  pub link : SameLink a.remoteward b.remoteward
  pub homeward : b.homeward ≡ a.homeward
  pub acked : b.remote.end.acked ≡ a.remote.end.acked
  pub emitted : b.remote.end.emitted ≡ a.remote.end.emitted
  pub at_turn : b.remote.at_turn ≡ a.remote.at_turn
  pub turns : b.turns ≡ a.turns
  pub keepalive_interval : b.keepalive_interval ≡ a.keepalive_interval
  pub plan : b.plan ≡ a.plan

pub far_none : (a : Fields) → TookFar a [] a
far_none a = record {
  setup = refl;
  peering = refl;
  events = [];
  coded = tt;
  goes = refl;
  took = [];
  fates = refl;
  plans = sym (append-nil a.remoteward.plans);
  put = omega arith;
  link = record { way = refl; peering = refl; seq_first = refl; ack_first = refl };
  homeward = refl;
  acked = refl;
  emitted = refl;
  at_turn = refl;
  turns = refl;
  keepalive_interval = refl;
  plan = refl;
}

some_taken : {A B : Type 0} (f : A → B) (x : B) (o : Option A) → Some x ≡ option_map f o → o ≢ None
some_taken f x None e h = absurd cc
some_taken f x (Some y) e h = absurd cc

-- the row of the one event of a take
module _ (a b : Fields) (d : Deed Mail) (from : ℕ) (item : Mail) (first : d.taken ≡ Some (from, item))
    (act : ActsAs carried (own_part a) d.entry d.taken d.sent (own_part b)) (kept : d.entry.kind ≢ 0) where
  abbrev Row : Type 0
  Row = (event : FarEvent) × (taken : Option FarTaken) × (sent : List FarSent) × HasCode (far_code event) d.entry
      × far_row a.known.setup a.peering.0 event (far_part a) taken sent (far_part b) × IsFarTake (far_part a) event

  row_of : (o : Option (ℕ × Mail)) → o ≡ Some (from, item) → ActsAs carried (own_part a) d.entry o d.sent (own_part b) → Row
  row_of None e act = absurd cc
  row_of (Some x) e act = elim act.does [
    | inl makes ↦ (
      makes.row.event,
      makes.row.took,
      makes.row.gave,
      makes.row.coded,
      makes.row.holds,
      taking_row a.known.setup a.peering.0 makes.row.event (far_part a)
          (far_part b) makes.row.took makes.row.gave makes.row.holds (some_taken _ _ makes.row.took makes.row.is_taken),
    )
    | inr drops ↦ absurd (kept drops.kind)
  ]

  one_row : Row
  one_row = row_of d.taken first act

one_more : (a b : Fields) (from : ℕ) (item : Mail) (d : Deed Mail) → FarTakesKeepLinks → TookAsFar a from item (d ∷ []) b
    → d.taken ≡ Some (from, item) → ActsAs carried (own_part a) d.entry d.taken d.sent (own_part b) → d.entry.kind ≢ 0 → TookFar a (d ∷ []) b
one_more a b from item d links took first act kept =
    let (event, taken, sent, code, row, taking) = one_row a b d from item first act kept in
    let n : segments_taken_in (d ∷ []) ≡ length (filter is_take (event ∷ [])) = counts event d code in
    record {
      setup = ap (λ (x : Fields). x.known.setup) took.same;
      peering = ap (λ (x : Fields). x.peering) took.same;
      events = event ∷ [];
      coded = (code, tt);
      goes = (taken, sent, far_part b, row, taking, refl);
      took = plans_put (fates_in a.plan a.remoteward) a.pointer.0 a.remoteward.put (segments_taken_in (d ∷ []));
      fates = fates_put (fates_in a.plan a.remoteward) a.pointer.0 a.remoteward.put (segments_taken_in (d ∷ []))
          ∙ ap (λ (k : ℕ). fates_by (fates_in a.plan a.remoteward) a.remoteward.put k) n;
      plans = took.plans;
      put = took.put ∙ ap (λ (k : ℕ). a.remoteward.put + k) n;
      link = links a b from item (d ∷ []) took;
      homeward = ap (λ (x : Fields). x.homeward) took.same;
      acked = ap (λ x. x.end.acked) took.remote;
      emitted = ap (λ x. x.end.emitted) took.remote;
      at_turn = ap (λ x. x.at_turn) took.remote;
      turns = ap (λ (x : Fields). x.turns) took.same;
      keepalive_interval = ap (λ (x : Fields). x.keepalive_interval) took.same;
      plan = ap (λ (x : Fields). x.plan) took.same;
    }

pub far_one : FarTakesAreOne → FarTakesKeepLinks → (a b : Fields) (n from : ℕ) (item : Mail) (ds : List (Deed Mail)) → TookAsFar a from item ds b
    → TakesFirst from item ds → Replay (acts carried) n (own_part a) ds (own_part b) → AllByRecursion IsKept ds
    → TookFar a ds b
far_one law links a b n from item [] took first replay kept = absurd first
far_one law links a b n from item (d ∷ []) took first replay kept =
    one_more a b from item d links took first.0 (subst⁻¹ (λ (x : OwnPart). ActsAs carried (own_part a) d.entry d.taken d.sent x) replay.2 replay.1) kept.0
far_one law links a b n from item (d ∷ e ∷ ds) took first replay kept = absurd (let h = law a b from item (d ∷ e ∷ ds) took in omega (arith, h))

-- the fates of a link depend on its way and peering alone
same_fates : (a b : Fields) → b.plan ≡ a.plan → SameLink a.remoteward b.remoteward → fates_in b.plan b.remoteward ≡ fates_in a.plan a.remoteward
same_fates a b plan link = λ i n. fate_in (plan i) (record { 0 = link.peering i }) (link.way i) n

-- what a far side does is the same of what it was
pub far_goes_at : (Allowed : FarPart → FarEvent → Type 0) (a b : Fields) (x y : FarPart) (es : List FarEvent) → b.known.setup ≡ a.known.setup
    → b.peering ≡ a.peering → FarGoes b.known.setup b.peering.0 Allowed x es y
    → FarGoes a.known.setup a.peering.0 Allowed x es y
far_goes_at Allowed a b x y es setup peering h =
    subst (λ (s : Setup). FarGoes s a.peering.0 Allowed x es y) setup (subst (λ (k : ℕ). FarGoes b.known.setup k Allowed x es y) (ap (λ k. k.0) peering) h)

pub far_then : (a b c : Fields) (ds es : List (Deed Mail)) → TookFar a ds b → TookFar b es c → TookFar a (ds ++ es) c
far_then a b c ds es x y = record {
  setup = y.setup ∙ x.setup;
  peering = y.peering ∙ x.peering;
  events = x.events ++ y.events;
  coded = are_deeds-append far_code x.events y.events ds es x.coded y.coded;
  goes = far_append IsFarTake a.known.setup a.peering.0 (far_part a) (far_part b) (far_part c) x.events y.events x.goes
      (far_goes_at IsFarTake a b (far_part b) (far_part c) y.events x.setup x.peering y.goes);
  took = x.took ++ y.took;
  fates = map-append (λ (l : InLink). (l.fate, l.turns)) x.took y.took
      ∙ (λ i. x.fates i ++ (y.fates ∙ ap (λ (f : ℕ → Fate). fates_by f b.remoteward.put (length (filter is_take y.events))) (same_fates a b x.plan x.link)) i)
      ∙ sym (fates_then (fates_in a.plan a.remoteward) a.remoteward.put (length (filter is_take x.events))
      (length (filter is_take y.events)) (length (filter is_take (x.events ++ y.events))) b.remoteward.put many x.put);
  plans = y.plans ∙ ap (λ (xs : List InLink). xs ++ y.took) x.plans ∙ append_assoc a.remoteward.plans x.took y.took;
  put = omega (arith, y.put, x.put, many);
  link = record {
    way = y.link.way ∙ x.link.way;
    peering = y.link.peering ∙ x.link.peering;
    seq_first = y.link.seq_first ∙ x.link.seq_first;
    ack_first = y.link.ack_first ∙ x.link.ack_first;
  };
  homeward = y.homeward ∙ x.homeward;
  acked = y.acked ∙ x.acked;
  emitted = y.emitted ∙ x.emitted;
  at_turn = y.at_turn ∙ x.at_turn;
  turns = y.turns ∙ x.turns;
  keepalive_interval = y.keepalive_interval ∙ x.keepalive_interval;
  plan = y.plan ∙ x.plan;
}
  where
    many : length (filter is_take (x.events ++ y.events)) ≡ length (filter is_take x.events) + length (filter is_take y.events)
    many = ap (λ (xs : List FarEvent). length xs) (filter-append is_take x.events y.events) ∙ length-append (filter is_take x.events) (filter is_take y.events)
