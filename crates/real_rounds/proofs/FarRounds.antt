-- Takes of a far side, one after another, and then its turn are a real round.
use Rattle.std.proofs.Common.{◌≡◌, ◌≤◌, ◌<◌, ◌+◌, ◌∙◌, ℕ, zero, suc, Bool, true, false, List, [], ◌∷◌, ◌++◌}
use Rattle.std.proofs.Common.{length, nat_lt, if◌then◌else◌, ap, sym, subst, inl, inr, arith}
use Rattle.std.specs.Prelude.{◌%◌, ◌^◌, Some, option_map, slice_get, filter}
use Rattle.std.proofs.lemmas.Bool.{lt-ltb, le-ltb}
use Rattle.ring_net.specs.Deeds.{Deed}
use Rattle.link_bag.specs.declared.plan.Fault.{Fault}
use Rattle.link_bag.specs.declared.plan.Fate.{Fate}
use Rattle.link_bag.specs.Planned.{fate_in, fate_of}
use Rattle.tcp_seq.specs.Endpoint.{Endpoint, next_length, again_length}
use Rattle.tcp_seq.specs.declared.segment.Way.{Way}
use Rattle.tcp_seq.specs.declared.segment.Way.TheVariants.{Home, Remote}
use Rattle.graft_model.specs.Setups.{keepalive_interval_of}
use Rattle.graft_model.specs.Parts.{FarPart}
use Rattle.graft_model.specs.declared.event.FarEvent.{FarEvent}
use Rattle.graft_model.specs.declared.event.FarEvent.TheVariants.{Send, Beat}
use Rattle.far_side.specs.Links.{home_events, remote_events, left_in_link, LinkValue}
use Rattle.far_side.specs.Parts.{far_part, HasLinks}
use Rattle.far_side.specs.Passes as passes
use Rattle.far_side.specs.Passes.{fates_in, plans_put, again_events, FreshEvents, answer_events}
use Rattle.remote_end.specs.Remotes.{RemoteValue}
use Rattle.far_side.specs.Turned.{FarTurned}
use Rattle.far_side.specs.Turns.{FarRetransmits, SendsNew, SendsAnswer, SendsNone, FarGoes}
use Rattle.far_side.specs.declared.fields.Fields.{Fields}
use Rattle.far_side.specs.declared.link.InLink.{InLink}
use Rattle.world_nodes.specs.Nodes.{Mail}
use Rattle.real_rounds.proofs.Calls.{FarTurnsKeepLinks}
use Rattle.real_rounds.specs.Ends.{AcksOrResends}
use Rattle.real_rounds.specs.Fars.{Links, ArePut, PointAt, IsKeepaliveDue, BeatsIfDue, RealFar, is_take}
use Rattle.real_rounds.proofs.Goes.{goes_on}
use Rattle.real_rounds.proofs.FarTakes.{TookFar, far_goes_at, fates_by, fates_put}
use Rattle.graft_actors.specs.Makes.{AreDeeds}
use Rattle.graft_model.specs.Codes.{far_code}
use Rattle.graft_actors.proofs.Deeds.{are_deeds-append}

-- ---- what stands in links

abbrev pub links_of : Fields → Links
links_of f = record { home = record { plans = f.homeward.plans; put = f.homeward.put }; remote = record { plans = f.remoteward.plans; put = f.remoteward.put } }

-- a far side at a mark after so many rounds
pub record FarAt (faults : List Fault) (n : ℕ) (f : Fields) : Type 0 where
  pub turns : f.turns ≡ n
  pub level : f.remote.at_turn ≡ f.remote.end.acked
  pub links : HasLinks f
  pub keepalive_interval : option_map keepalive_interval_of (slice_get f.known.setup.peerings f.peering.0) ≡ Some f.keepalive_interval
  pub fates : (way : Way) (segment : ℕ) → fate_in f.plan f.peering way segment ≡ fate_of faults f.peering way segment

-- the plan's fates are those of the faults
fates_are : (faults : List Fault) (f : Fields) (link : LinkValue) (way : Way)
    → ((segment : ℕ) → fate_in f.plan f.peering way segment ≡ fate_of faults f.peering way segment) → link.way ≡ way → link.peering ≡ f.peering.0
    → fates_in f.plan link ≡ (λ k. fate_of faults f.peering way k)
fates_are faults f link way same leads own = (λ i n. fate_in f.plan (record { 0 = own i }) (leads i) n) ∙ (λ i n. same n i)

point_all : (fate : ℕ → Fate) (router pointer from n : ℕ) → router ≡ pointer → PointAt pointer (plans_put fate router from n)
point_all fate router pointer from zero is = tt
point_all fate router pointer from (suc n) is = (is, point_all fate router pointer (from + 1) n is)

-- ---- what is sent

again_few : (r : RemoteValue) → length (again_events r) ≤ 1
again_few r = by_flags (nat_lt r.at_turn r.end.acked) (nat_lt 0 (again_length r.end)) (Send r.end.acked (again_length r.end))
  where
    by_flags : (b c : Bool) (e : FarEvent) → length (if b then [] else (if c then e ∷ [] else [])) ≤ 1
    by_flags true c e = omega arith
    by_flags false true e = omega arith
    by_flags false false e = omega arith

-- where nothing was acknowledged since the last turn, what is outstanding is sent again
again_once : (r : RemoteValue) → r.at_turn ≡ r.end.acked → r.end.acked < r.end.emitted → length (again_events r) ≡ 1
again_once r level out =
    ap (λ (b : Bool). length (if b then [] else (if nat_lt 0 (again_length r.end) then Send r.end.acked (again_length r.end) ∷ [] else [])))
    (le-ltb r.at_turn r.end.acked (omega (arith, level)))
    ∙ ap (λ (b : Bool). length (if b then Send r.end.acked (again_length r.end) ∷ [] else [])) (lt-ltb 0 (again_length r.end) (omega (arith, out)))

fresh_acked : (e f : Endpoint) (events : List FarEvent) → FreshEvents e events f → f.acked ≡ e.acked
fresh_acked e f [] fresh = ap (λ (x : Endpoint). x.acked) fresh.1
fresh_acked e f (event ∷ events) fresh = fresh_acked (record e { emitted = e.emitted + next_length e }) f events fresh.2

beaten_acked : (a b : Fields) (events : List FarEvent) → passes.Beats a events b → b.remote.end.acked ≡ a.remote.end.acked
beaten_acked a b events (inl h) = ap (λ (x : Fields). x.remote.end.acked) h.2
beaten_acked a b events (inr h) = ap (λ (x : Fields). x.remote.end.acked) h.2

-- ---- the round

module _ (keep : FarTurnsKeepLinks) (faults : List Fault) (a b c : Fields) (ds es : List (Deed Mail))
    (took : TookFar a ds b) (turned : FarTurned b es c) (n : ℕ) (at : FarAt faults n a) where
  abbrev pub rest : List FarEvent
  rest = again_events turned.reached ++ (turned.keepalives ++ (turned.fresh ++ answer_events turned.sent))

  abbrev pub turn : List FarEvent
  turn = home_events b.pointer.0 b.homeward.plans ++ (remote_events b.remoteward.plans ++ rest)

  abbrev count : ℕ
  count = length (again_events turned.reached) + (length turned.fresh + length (answer_events turned.sent))

  -- a piece of the turn
  piece : (Allowed : FarPart → FarEvent → Type 0) (x y : FarPart) (events : List FarEvent) → FarGoes b.known.setup b.peering.0 Allowed x events y
      → FarGoes a.known.setup a.peering.0 Allowed x events y
  piece Allowed x y events h = far_goes_at Allowed a b x y events took.setup took.peering h

  number_is : c.turns ≡ n + 1
  number_is = omega (arith, turned.turns, took.turns, at.turns)

  pointer_is : b.pointer.0 ≡ c.pointer.0
  pointer_is = sym (ap (λ (x : Fields). x.pointer.0) turned.same)

  peering_is : c.peering ≡ a.peering
  peering_is = ap (λ (x : Fields). x.peering) turned.same ∙ took.peering

  reached_at_turn : turned.reached.at_turn ≡ a.remote.end.acked
  reached_at_turn = ap (λ (x : RemoteValue). x.at_turn) turned.is_reached.is ∙ took.at_turn ∙ at.level

  end_acked : c.remote.end.acked ≡ turned.reached.end.acked
  end_acked = ap (λ (x : Endpoint). x.acked) turned.end ∙ fresh_acked turned.beaten.remote.end turned.sent turned.fresh turned.is_fresh
      ∙ beaten_acked turned.before turned.beaten turned.keepalives turned.are_keepalives
      ∙ ap (λ (x : RemoteValue). x.end.acked) turned.is_before.0

  stood : AcksOrResends a.remote.end c.remote.end (length (again_events turned.reached))
  stood = goes_on a.remote.end turned.reached.end c.remote.end (length (again_events turned.reached))
      (omega (arith, turned.is_reached.acked, took.acked)) (turned.is_reached.emitted ∙ took.emitted) end_acked
      (λ same out. again_once turned.reached (reached_at_turn ∙ same) out)

  -- the timer
  due : passes.IsDue turned.before → IsKeepaliveDue a.known.setup a.peering.0 (n + 1) (far_part b)
  due d = record {
    keepalive_interval = turned.before.keepalive_interval;
    is = at.keepalive_interval ∙ ap (λ (k : ℕ). Some k) (sym (turned.is_before.2 ∙ took.keepalive_interval));
    some = d.some;
    multiple = subst (λ (k : ℕ). k % turned.before.keepalive_interval ≡ 0) round_is d.multiple;
    later = omega (arith, d.later, turned.is_before.4, round_is);
    few = omega (arith, d.few, turned.is_before.3);
    fits = subst (λ (k : ℕ). k + 19 ≤ 2 ^ 20) stream_is d.room;
  }
    where
      round_is : turned.before.turns ≡ n + 1
      round_is = omega (arith, turned.is_before.1, took.turns, at.turns)

      stream_is : length turned.before.remote.end.stream ≡ length b.remote.end.stream
      stream_is = ap (λ (x : RemoteValue). length x.end.stream) turned.is_before.0 ∙ ap (λ (xs : List ℕ). length xs) turned.is_reached.stream

  undue : IsKeepaliveDue a.known.setup a.peering.0 (n + 1) (far_part b) → passes.IsDue turned.before
  undue d = record {
    some = omega (arith, d.some, interval_is);
    multiple = subst (λ (k : ℕ). turned.before.turns % k ≡ 0) (sym interval_is) (subst (λ (k : ℕ). k % d.keepalive_interval ≡ 0) (sym round_is) d.multiple);
    later = omega (arith, d.later, turned.is_before.4, round_is);
    few = omega (arith, d.few, turned.is_before.3);
    room = subst (λ (k : ℕ). k + 19 ≤ 2 ^ 20) (sym stream_is) d.fits;
  }
    where
      same : {x y : ℕ} → Some x ≡ Some y → x ≡ y
      same h = cc

      interval_is : turned.before.keepalive_interval ≡ d.keepalive_interval
      interval_is = turned.is_before.2 ∙ took.keepalive_interval ∙ same (sym at.keepalive_interval ∙ d.is)

      round_is : turned.before.turns ≡ n + 1
      round_is = omega (arith, turned.is_before.1, took.turns, at.turns)

      stream_is : length turned.before.remote.end.stream ≡ length b.remote.end.stream
      stream_is = ap (λ (x : RemoteValue). length x.end.stream) turned.is_before.0 ∙ ap (λ (xs : List ℕ). length xs) turned.is_reached.stream

  beats_due : BeatsIfDue a.known.setup a.peering.0 (n + 1) (far_part b) turned.keepalives
  beats_due = elim (turned.are_keepalives) [
    | inl h ↦ inl
        (due h.0, h.1 ∙ ap (λ (k : ℕ). Beat k ∷ []) (let e : turned.before.turns ≡ n + 1 = omega (arith, turned.is_before.1, took.turns, at.turns) in e))
    | inr h ↦ inr (λ d. h.0 (undue d), h.1)
  ]

  turn_is : turn ≡ home_events c.pointer.0 a.homeward.plans ++ (remote_events (a.remoteward.plans ++ took.took) ++ rest)
  turn_is = λ i. home_events (pointer_is i) (took.homeward i).plans ++ (remote_events (took.plans i) ++ rest)

  -- the plans of the links, as they stood at the start and with what was taken
  delivered_is : home_events b.pointer.0 b.homeward.plans ++ remote_events b.remoteward.plans
      ≡ home_events c.pointer.0 a.homeward.plans ++ remote_events (a.remoteward.plans ++ took.took)
  delivered_is = λ i. home_events (pointer_is i) (took.homeward i).plans ++ remote_events (took.plans i)

  delivers : FarGoes a.known.setup a.peering.0 SendsNone (far_part b)
      (home_events c.pointer.0 a.homeward.plans ++ remote_events (a.remoteward.plans ++ took.took)) turned.delivered
  delivers = subst (λ (events : List FarEvent). FarGoes a.known.setup a.peering.0 SendsNone (far_part b) events turned.delivered) delivered_is
      (piece SendsNone (far_part b) turned.delivered (home_events b.pointer.0 b.homeward.plans ++ remote_events b.remoteward.plans) turned.delivers)

  -- the links
  abbrev sent : List InLink
  sent = plans_put (fates_in b.plan b.homeward) b.pointer.0 b.homeward.put count

  home_fates : fates_in b.plan b.homeward ≡ (λ k. fate_of faults a.peering Home k)
  home_fates = (λ i. fates_in (took.plan i) (took.homeward i)) ∙ fates_are faults a a.homeward Home (at.fates Home) at.links.homeward.0 at.links.homeward.1

  are_sent : ArePut faults a.peering.0 Home a.homeward.put count sent
  are_sent = record {
    fates = fates_put (fates_in b.plan b.homeward) b.pointer.0 b.homeward.put count ∙ (λ i. fates_by (home_fates i) (took.homeward i).put count);
  }

  are_taken : ArePut faults a.peering.0 Remote a.remoteward.put (length (filter is_take took.events)) took.took
  are_taken = record {
    fates = took.fates ∙ (λ i. fates_by (fates_are faults a a.remoteward Remote (at.fates Remote) at.links.remoteward.0 at.links.remoteward.1 i)
        a.remoteward.put (length (filter is_take took.events)));
  }

  pub real_far : RealFar a.known.setup faults a.peering.0 (n + 1) (far_part a) (links_of a) (took.events ++ turn) (far_part c) (links_of c)
  real_far = record {
    taken = took.events;
    again = again_events turned.reached;
    keepalives = turned.keepalives;
    fresh = turned.fresh;
    answers = answer_events turned.sent;
    took = took.took;
    sent = sent;
    is = ap (λ (events : List FarEvent). took.events ++ events) turn_is;
    turning = far_part b;
    delivered = turned.delivered;
    resent = turned.resent;
    said = turned.said;
    level = turned.level;
    takes = took.goes;
    delivers = delivers;
    resends = piece FarRetransmits turned.delivered turned.resent (again_events turned.reached) turned.resends;
    says = piece SendsNone turned.resent turned.said turned.keepalives turned.says;
    sends = piece SendsNew turned.said turned.level turned.fresh turned.sends;
    replies = piece SendsAnswer turned.level (far_part c) (answer_events turned.sent) turned.answers;
    due = beats_due;
    rested = turned.rested;
    few = again_few turned.reached;
    goes_on = stood;
    are_taken = are_taken;
    are_sent = (are_sent, point_all (fates_in b.plan b.homeward) b.pointer.0 c.pointer.0 b.homeward.put count pointer_is);
    home = λ i. record {
      plans = (turned.homeward ∙ (λ j. left_in_link (took.homeward j).plans ++ sent)) i;
      put = (turned.put ∙ (λ j. (took.homeward j).put + count)) i;
    };
    remote = λ i. record { plans = (turned.remoteward.0 ∙ (λ j. left_in_link (took.plans j))) i; put = (turned.remoteward.1 ∙ took.put) i };
  }

  pub far_coded : AreDeeds far_code (took.events ++ turn) (ds ++ es)
  far_coded = are_deeds-append far_code took.events turn ds es took.coded turned.events

  pub far_after : FarAt faults (n + 1) c
  far_after = record {
    turns = number_is;
    level = turned.at_turn ∙ sym end_acked;
    links = record {
      homeward = (
        (keep b c es turned).0.way ∙ ap (λ (l : LinkValue). l.way) took.homeward ∙ at.links.homeward.0,
        (keep b c es turned).0.peering ∙ ap (λ (l : LinkValue). l.peering) took.homeward ∙ at.links.homeward.1 ∙ own,
      );
      remoteward = (
        (keep b c es turned).1.way ∙ took.link.way ∙ at.links.remoteward.0,
        (keep b c es turned).1.peering ∙ took.link.peering ∙ at.links.remoteward.1 ∙ own,
      );
    };
    keepalive_interval = (λ i. option_map keepalive_interval_of (slice_get (setup_is i).peerings (peering_is i).0)) ∙ at.keepalive_interval
        ∙ ap (λ (k : ℕ). Some k) (sym (ap (λ (x : Fields). x.keepalive_interval) turned.same ∙ took.keepalive_interval));
    fates = λ way segment. (λ i. fate_in (plan_is i) (peering_is i) way segment) ∙ at.fates way segment ∙ (λ i. fate_of faults (sym peering_is i) way segment);
  }
    where
      own : a.peering.0 ≡ c.peering.0
      own = sym (ap (λ k. k.0) peering_is)

      setup_is : c.known.setup ≡ a.known.setup
      setup_is = ap (λ (x : Fields). x.known.setup) turned.same ∙ took.setup

      plan_is : c.plan ≡ a.plan
      plan_is = ap (λ (x : Fields). x.plan) turned.same ∙ took.plan
