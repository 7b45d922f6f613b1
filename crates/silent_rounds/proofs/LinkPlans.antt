-- A link of a far side holds as many segments as the plan has fates for it, and none of these waits for more than six turns.
use Rattle.std.proofs.Common.{◌≡◌, ◌≤◌, ◌<◌, ◌+◌, ◌∙◌, ℕ, zero, suc, Bool, true, false, List, [], ◌∷◌, ◌++◌, length, map, filter, get_or}
use Rattle.std.proofs.Common.{if◌then◌else◌, refl, sym, ap, subst, inl, inr, arith, append_assoc, length-append, length-drop}
use Rattle.std.specs.Prelude.{Option, Some, None, find, not, option_map, slice_get, unwrap_or}
use Rattle.std.specs.List.{AllByRecursion}
use Rattle.std.proofs.lemmas.List.{append-nil, length-map, length-take}
use Rattle.std.proofs.lemmas.List.FromFn.{length-map-range_with_len}
use Rattle.std.proofs.lemmas.Option.{slice_get-get_or, slice_get_within}
use Rattle.ring_net.specs.declared.entry.JournalEntry.{JournalEntry}
use Rattle.ring_net.proofs.Replays.{all-append}
use Rattle.graft_edge.specs.declared.ids.PeeringId.{PeeringId}
use Rattle.link_bag.specs.Fates.{fate_of_kind, fate_by}
use Rattle.link_bag.specs.Planned.{is_fault_for, fate_of}
use Rattle.link_bag.specs.declared.plan.Fault.{Fault}
use Rattle.link_bag.specs.declared.plan.FaultKind.{FaultKind}
use Rattle.link_bag.specs.declared.plan.FaultKind.TheVariants as kinds
use Rattle.link_bag.specs.declared.plan.Fate.{Fate}
use Rattle.link_bag.specs.declared.plan.Fate.TheVariants.{Pass}
use Rattle.tcp_seq.specs.Endpoint.{Endpoint, PlacedSegment}
use Rattle.tcp_seq.specs.declared.segment.Way.{Way}
use Rattle.graft_model.specs.Setups.{Setup, PeeringSetup, peerings_in}
use Rattle.graft_model.specs.Parts.{FarPart, World}
use Rattle.graft_model.specs.First.{first_far}
use Rattle.graft_model.specs.FarRows.{without}
use Rattle.graft_model.specs.declared.event.FarEvent.{FarEvent}
use Rattle.graft_model.specs.declared.event.FarEvent.TheVariants.{Say, Send, Take, Point, Beat}
use Rattle.far_side.specs.Links.{act_in, is_gone, last_turn, older, left_in_link, home_act, home_event, home_events}
use Rattle.far_side.specs.Links.{remote_act, remote_event, remote_events, pass_events, next_index}
use Rattle.far_side.specs.Turns.{FarRetransmits, SendsNew, SendsAnswer, SendsNone, FarGoes}
use Rattle.far_side.specs.declared.link.InLink.{InLink}
use Rattle.far_side.specs.declared.link.Act.{Act}
use Rattle.far_side.specs.declared.link.Act.TheVariants.{Stays, Delivered, Copied, Lost}
use Rattle.real_rounds.specs.Entries.{between}
use Rattle.real_rounds.specs.Fars.{IsFarTake, Links, ArePut, BeatsIfDue, RealFar, is_take}
use Rattle.real_rounds.specs.Whole.{FarDid, RealRounds}
use Rattle.real_rounds.proofs.Lists.{all_filter}
use Rattle.silent_rounds.specs.Silence.{AreShort}

-- ---- what a part's links hold

-- the two links of a far side hold so many segments
pub record Holds (part : FarPart) (home remote : ℕ) : Type 0 where
  pub homeward : length part.homeward ≡ home
  pub remoteward : length part.remoteward ≡ remote

holds_at : (part : FarPart) (h r h' r' : ℕ) → h ≡ h' → r ≡ r' → Holds part h r → Holds part h' r'
holds_at part h r h' r' same_h same_r holds = record { homeward = holds.homeward ∙ same_h; remoteward = holds.remoteward ∙ same_r }

-- a part that is this one
holds_by : (a b : FarPart) (h r : ℕ) → b ≡ a → length a.homeward ≡ h → length a.remoteward ≡ r → Holds b h r
holds_by a b h r same is_h is_r =
    record { homeward = ap (λ (q : FarPart). length q.homeward) same ∙ is_h; remoteward = ap (λ (q : FarPart). length q.remoteward) same ∙ is_r }

one_more : (xs : List PlacedSegment) (x : PlacedSegment) (n : ℕ) → length xs ≡ n → length (xs ++ x ∷ []) ≡ n + 1
one_more xs x n is = omega (arith, is, length-append xs (x ∷ []))

one_less : (index : ℕ) (xs : List PlacedSegment) (n : ℕ) → index < length xs → length xs ≡ n + 1 → length (without index xs) ≡ n + 0
one_less index xs n within is = simp (length-append, length-take, length-drop) (omega (arith, within, is))

-- ---- stages

-- its takes
takes_hold : (setup : Setup) (p : ℕ) (a b : FarPart) (es : List FarEvent) (h r : ℕ) → FarGoes setup p IsFarTake a es b → Holds a h r
    → Holds b h (r + length (filter is_take es))
takes_hold setup p a b [] h r goes holds = holds_by _ b h (r + 0) goes holds.homeward (omega (arith, holds.remoteward))
takes_hold setup p a b (Say step ∷ es) h r (taken, sent, m, row, allowed, rest) holds = takes_hold setup p m b es h r rest
    (holds_by _ m h r row.effect holds.homeward holds.remoteward)
takes_hold setup p a b (Point router ∷ es) h r (taken, sent, m, row, allowed, rest) holds = takes_hold setup p m b es h r rest
    (holds_by _ m h r row.effect holds.homeward holds.remoteward)
takes_hold setup p a b (Take router ∷ es) h r (taken, sent, m, row, allowed, rest) holds =
    holds_at b h ((r + 1) + length (filter is_take es)) h (r + length (Take router ∷ filter is_take es)) refl (omega arith)
    (takes_hold setup p m b es h (r + 1) rest
    (holds_by _ m h (r + 1) row.effect holds.homeward (one_more a.remoteward row.segment r holds.remoteward)))
takes_hold setup p a b (event ∷ es) h r (taken, sent, m, row, allowed, rest) holds = absurd allowed

IsSend : FarEvent → Type 0
IsSend (Send from len) = Unit {0}
IsSend event = ⊥

only_old : (part : FarPart) (event : FarEvent) → FarRetransmits part event → IsSend event
unfolding IsSend
only_old part (Send from len) allowed = tt
only_old part event allowed = absurd allowed

only_new : (part : FarPart) (event : FarEvent) → SendsNew part event → IsSend event
unfolding IsSend
only_new part (Send from len) allowed = tt
only_new part event allowed = absurd allowed

only_answers : (part : FarPart) (event : FarEvent) → SendsAnswer part event → IsSend event
unfolding IsSend
only_answers part (Send from len) allowed = tt
only_answers part event allowed = absurd allowed

-- the segments that it sends
sends_hold : (setup : Setup) (p : ℕ) (Allowed : FarPart → FarEvent → Type 0)
    (only : (part : FarPart) (event : FarEvent) → Allowed part event → IsSend event) (a b : FarPart) (es : List FarEvent) (h r : ℕ)
    → FarGoes setup p Allowed a es b → Holds a h r → Holds b (h + length es) r
unfolding IsSend
sends_hold setup p Allowed only a b [] h r goes holds = holds_by _ b (h + 0) r goes (omega (arith, holds.homeward)) holds.remoteward
sends_hold setup p Allowed only a b (Send from len ∷ es) h r (taken, sent, m, row, allowed, rest) holds =
    holds_at b ((h + 1) + length es) r (h + length (Send from len ∷ es)) r (omega arith) refl
    (sends_hold setup p Allowed only m b es (h + 1) r rest
    (holds_by _ m (h + 1) r row.effect (one_more a.homeward row.segment h holds.homeward) holds.remoteward))
sends_hold setup p Allowed only a b (event ∷ es) h r (taken, sent, m, row, allowed, rest) holds = absurd (only a event allowed)

-- the KEEPALIVE that it says
beats_hold : (setup : Setup) (p round : ℕ) (turning a b : FarPart) (es : List FarEvent) (h r : ℕ) → BeatsIfDue setup p round turning es
    → FarGoes setup p SendsNone a es b → Holds a h r → Holds b h r
beats_hold setup p round turning a b es h r (inl (due, is)) goes holds = one (subst (λ (fs : List FarEvent). FarGoes setup p SendsNone a fs b) is goes)
  where
    one : FarGoes setup p SendsNone a (Beat round ∷ []) b → Holds b h r
    one (taken, sent, m, row, allowed, rest) = holds_by _ b h r (rest ∙ row.effect) holds.homeward holds.remoteward
beats_hold setup p round turning a b es h r (inr (due, is)) goes holds = none (subst (λ (fs : List FarEvent). FarGoes setup p SendsNone a fs b) is goes)
  where
    none : b ≡ a → Holds b h r
    none rest = holds_by _ b h r rest holds.homeward holds.remoteward

-- ---- deliveries

-- how many segments an act leaves of one
abbrev kept : Act → ℕ
kept act = if is_gone act then 0 else 1

length_left : (x : InLink) (xs : List InLink) → length (left_in_link (x ∷ xs)) ≡ kept (act_in x) + length (left_in_link xs)
length_left x xs = by_flag (is_gone (act_in x)) (filter (λ y. not (is_gone (act_in y))) xs)
  where
    by_flag : (gone : Bool) (rest : List InLink) → length (map older (if not gone then x ∷ rest else rest)) ≡ (if gone then 0 else 1) + length (map older rest)
    by_flag true rest = omega arith
    by_flag false rest = omega arith

-- the part behind one piece of the deliveries, and the others
record Behind (setup : Setup) (p : ℕ) (Has : FarPart → Type 0) (es : List FarEvent) (end : FarPart) : Type 0 where
  part : FarPart
  has : Has part
  rest : FarGoes setup p SendsNone part es end

home_gone : (index : ℕ) (a b : FarPart) (n r : ℕ) → Holds a (n + 1) r → index < length a.homeward
    → b ≡ record a { homeward = without index a.homeward } → Holds b (n + 0) r
home_gone index a b n r holds within is = holds_by _ b (n + 0) r is (one_less index a.homeward n within holds.homeward) holds.remoteward

home_one : (setup : Setup) (p pointer index : ℕ) (x : InLink) (act : Act) (es : List FarEvent) (a b : FarPart) (n r : ℕ) → Holds a (n + 1) r
    → FarGoes setup p SendsNone a (home_act pointer index x act ++ es) b
    → Behind setup p (λ part. Holds part (n + kept act) r) es b
home_one setup p pointer index x Stays es a b n r holds goes = record { part = a; has = holds; rest = goes }
home_one setup p pointer index x (Delivered true) es a b n r holds (taken, sent, m, row, allowed, rest) =
    record { part = m; has = holds_by _ m (n + 1) r row.effect holds.homeward holds.remoteward; rest = rest }
home_one setup p pointer index x (Delivered false) es a b n r holds (taken, sent, m, row, allowed, rest) =
    record { part = m; has = home_gone index a m n r holds (slice_get_within a.homeward index row.segment row.there) row.effect; rest = rest }
home_one setup p pointer index x Copied es a b n r holds (taken, sent, m, row, allowed, rest) =
    record { part = m; has = home_gone index a m n r holds (slice_get_within a.homeward index row.segment row.there) row.effect; rest = rest }
home_one setup p pointer index x Lost es a b n r holds (taken, sent, m, row, allowed, rest) =
    record { part = m; has = home_gone index a m n r holds row.there row.effect; rest = rest }

remote_gone : (index : ℕ) (a b : FarPart) (h n : ℕ) (end : Endpoint) → Holds a h (n + 1) → index < length a.remoteward
    → b ≡ record a { end = end; remoteward = without index a.remoteward } → Holds b h (n + 0)
remote_gone index a b h n end holds within is = holds_by _ b h (n + 0) is holds.homeward (one_less index a.remoteward n within holds.remoteward)

remote_one : (setup : Setup) (p index : ℕ) (act : Act) (es : List FarEvent) (a b : FarPart) (h n : ℕ) → Holds a h (n + 1)
    → FarGoes setup p SendsNone a (remote_act index act ++ es) b
    → Behind setup p (λ part. Holds part h (n + kept act)) es b
remote_one setup p index Stays es a b h n holds goes = record { part = a; has = holds; rest = goes }
remote_one setup p index (Delivered true) es a b h n holds (taken, sent, m, row, allowed, rest) =
    record { part = m; has = holds_by _ m h (n + 1) row.effect holds.homeward holds.remoteward; rest = rest }
remote_one setup p index (Delivered false) es a b h n holds (taken, sent, m, row, allowed, rest) =
    record { part = m; has = remote_gone index a m h n row.end holds (slice_get_within a.remoteward index row.segment row.there) row.effect; rest = rest }
remote_one setup p index Copied es a b h n holds (taken, sent, m, row, allowed, rest) =
    record { part = m; has = remote_gone index a m h n row.end holds (slice_get_within a.remoteward index row.segment row.there) row.effect; rest = rest }
remote_one setup p index Lost es a b h n holds (taken, sent, m, row, allowed, rest) =
    record { part = m; has = remote_gone index a m h n a.end holds row.there row.effect; rest = rest }

-- all of a link: it holds the plans that are left, and so many more
module _ (setup : Setup) (p : ℕ) (event : ℕ → InLink → List FarEvent) (Has : FarPart → ℕ → Type 0)
    (one : (index : ℕ) (x : InLink) (es : List FarEvent) (a b : FarPart) (n : ℕ) → Has a (n + 1)
    → FarGoes setup p SendsNone a (event index x ++ es) b → Behind setup p (λ part. Has part (n + kept (act_in x))) es b) where
  passes_hold : (index : ℕ) (plans : List InLink) (es : List FarEvent) (a b : FarPart) (n : ℕ) → Has a (n + length plans)
      → FarGoes setup p SendsNone a (pass_events event index plans ++ es) b
      → Behind setup p (λ part. Has part (n + length (left_in_link plans))) es b
  passes_hold index [] es a b n has goes = record { part = a; has = has; rest = goes }
  passes_hold index (x ∷ xs) es a b n has goes =
      let first : Behind setup p (λ part. Has part ((n + length xs) + kept (act_in x))) (pass_events event (next_index index x) xs ++ es) b
      = one index x (pass_events event (next_index index x) xs ++ es) a b (n + length xs) (subst (Has a) (omega arith) has)
      (subst (λ (fs : List FarEvent). FarGoes setup p SendsNone a fs b) (append_assoc (event index x) (pass_events event (next_index index x) xs) es) goes) in
      let others : Behind setup p (λ part. Has part ((n + kept (act_in x)) + length (left_in_link xs))) es b
      = passes_hold (next_index index x) xs es first.part b (n + kept (act_in x)) (subst (Has first.part) (omega arith) first.has) first.rest in
      record { part = others.part; has = subst (Has others.part) (omega (arith, length_left x xs)) others.has; rest = others.rest }

ends_with : (setup : Setup) (p : ℕ) (b : FarPart) (h n r : ℕ) → n ≡ r → Behind setup p (λ part. Holds part h n) [] b → Holds b h r
ends_with setup p b h n r same behind = holds_by behind.part b h r behind.rest behind.has.homeward (behind.has.remoteward ∙ same)

delivers_hold : (setup : Setup) (p pointer : ℕ) (home remote : List InLink) (a b : FarPart)
    → FarGoes setup p SendsNone a (home_events pointer home ++ remote_events remote) b → Holds a (length home) (length remote)
    → Holds b (length (left_in_link home)) (length (left_in_link remote))
delivers_hold setup p pointer home remote a b goes holds = remotes (passes_hold setup p (home_event pointer) (λ part n. Holds part n (length remote))
    (λ index x es c d n. home_one setup p pointer index x (act_in x) es c d n (length remote)) 0 home (remote_events remote) a b 0
    (holds_at a (length home) (length remote) (0 + length home) (length remote) (omega arith) refl holds) goes)
  where
    remotes : Behind setup p (λ part. Holds part (0 + length (left_in_link home)) (length remote)) (remote_events remote) b
        → Holds b (length (left_in_link home)) (length (left_in_link remote))
    remotes homes = ends_with setup p b (length (left_in_link home)) (0 + length (left_in_link remote)) (length (left_in_link remote)) (omega arith)
        (passes_hold setup p remote_event (λ part n. Holds part (length (left_in_link home)) n)
        (λ index x es c d n. remote_one setup p index (act_in x) es c d (length (left_in_link home)) n) 0 remote [] homes.part b 0
        (holds_at homes.part (0 + length (left_in_link home)) (length remote)
        (length (left_in_link home)) (0 + length remote) (omega arith) (omega arith) homes.has)
        (subst (λ (fs : List FarEvent). FarGoes setup p SendsNone homes.part fs b) (sym (append-nil (remote_events remote))) homes.rest))

-- ---- fates

abbrev pub IsShort : InLink → Type 0
IsShort x = last_turn x.fate ≤ 6

-- no fault has a segment wait for longer
fate_short : (faults : List Fault) → AreShort faults → (peering : PeeringId) (way : Way) (segment : ℕ) → last_turn (fate_of faults peering way segment) ≤ 6
fate_short [] short peering way segment = omega arith
fate_short (fault ∷ faults) short peering way segment =
    by_flag (is_fault_for peering way segment fault) (find (is_fault_for peering way segment) faults) (fate_short faults short.1 peering way segment)
  where
    of_kind : (kind : FaultKind) (after : ℕ) → after ≤ 6 → last_turn (fate_of_kind kind after) ≤ 6
    of_kind kinds.Lose after h = omega arith
    of_kind kinds.Repeat after h = h
    of_kind kinds.Hold after h = h
    of_kind kinds.Stray after h = h

    by_flag : (b : Bool) (found : Option Fault) → last_turn (unwrap_or (option_map fate_by found) Pass) ≤ 6
        → last_turn (unwrap_or (option_map fate_by (if b then Some fault else found)) Pass) ≤ 6
    by_flag true found rest = of_kind fault.kind fault.after short.0
    by_flag false found rest = rest

abbrev fate_in : InLink → Fate × ℕ
fate_in x = (x.fate, x.turns)

abbrev put_now : (ℕ → Fate) → ℕ → Fate × ℕ
put_now fate k = (fate k, 0)

fates_short : (new : List InLink) (ks : List ℕ) (fate : ℕ → Fate) → ((k : ℕ) → last_turn (fate k) ≤ 6) → map fate_in new ≡ map (put_now fate) ks
    → AllByRecursion IsShort new
fates_short [] ks fate short same = tt
fates_short (x ∷ xs) [] fate short same = absurd (let e : ⊥ = cc in e)
fates_short (x ∷ xs) (k ∷ ks) fate short same =
    let head : put_now fate k ≡ fate_in x = cc in
    let is : fate k ≡ x.fate = ap (λ (y : Fate × ℕ). y.0) head in
    let rest : map fate_in xs ≡ map (put_now fate) ks = cc in
    (subst (λ (f : Fate). last_turn f ≤ 6) is (short k), fates_short xs ks fate short rest)

left_short : (xs : List InLink) → AllByRecursion IsShort xs → AllByRecursion IsShort (left_in_link xs)
left_short xs short = older_short (filter (λ x. not (is_gone (act_in x))) xs) (all_filter IsShort (λ x. not (is_gone (act_in x))) xs short)
  where
    older_short : (ys : List InLink) → AllByRecursion IsShort ys → AllByRecursion IsShort (map older ys)
    older_short [] all = tt
    older_short (y ∷ ys) all = (all.0, older_short ys all.1)

put_length : (faults : List Fault) (p : ℕ) (way : Way) (from n : ℕ) (new : List InLink) → ArePut faults p way from n new → length new ≡ n
put_length faults p way from n new put =
    sym (length-map new fate_in) ∙ ap (λ (fates : List (Fate × ℕ)). length fates) put.fates
    ∙ length-map-range_with_len (put_now (fate_of faults (record { 0 = p }) way)) (from + 1) n

-- ---- a round

-- the links hold as many segments as there are plans, none of which waits for long
pub record Planned (links : Links) (part : FarPart) : Type 0 where
  pub holds : Holds part (length links.home.plans) (length links.remote.plans)
  pub home : AllByRecursion IsShort links.home.plans
  pub remote : AllByRecursion IsShort links.remote.plans

module _ (setup : Setup) (faults : List Fault) (short : AreShort faults) (p round : ℕ) (start end : FarPart)
    (before after : Links) (events : List FarEvent) (real : RealFar setup faults p round start before events end after)
    (planned : Planned before start) where
  taken_n : length real.took ≡ length (filter is_take real.taken)
  taken_n = put_length faults p _ before.remote.put (length (filter is_take real.taken)) real.took real.are_taken

  sent_n : length real.sent ≡ length real.again + (length real.fresh + length real.answers)
  sent_n = put_length faults p _ before.home.put (length real.again + (length real.fresh + length real.answers)) real.sent real.are_sent.0

  delivered : Holds real.delivered (length (left_in_link before.home.plans)) (length (left_in_link (before.remote.plans ++ real.took)))
  delivered = delivers_hold setup p end.pointer before.home.plans (before.remote.plans ++ real.took) real.turning real.delivered real.delivers
      (holds_at real.turning (length before.home.plans) (length before.remote.plans + length (filter is_take real.taken))
      (length before.home.plans) (length (before.remote.plans ++ real.took)) refl
      (omega (arith, taken_n, length-append before.remote.plans real.took))
      (takes_hold setup p start real.turning real.taken (length before.home.plans) (length before.remote.plans) real.takes planned.holds))

  abbrev left : ℕ
  left = length (left_in_link before.home.plans)

  abbrev others : ℕ
  others = length (left_in_link (before.remote.plans ++ real.took))

  ended : Holds end (((left + length real.again) + length real.fresh) + length real.answers) others
  ended = sends_hold setup p SendsAnswer only_answers real.level end real.answers ((left + length real.again) + length real.fresh) others real.replies
      (sends_hold setup p SendsNew only_new real.said real.level real.fresh (left + length real.again) others real.sends
      (beats_hold setup p round real.turning real.resent real.said real.keepalives (left + length real.again) others real.due real.says
      (sends_hold setup p FarRetransmits only_old real.delivered real.resent real.again left others real.resends delivered)))

  home_is : after.home.plans ≡ left_in_link before.home.plans ++ real.sent
  home_is = ap (λ x. x.plans) real.home

  remote_is : after.remote.plans ≡ left_in_link (before.remote.plans ++ real.took)
  remote_is = ap (λ x. x.plans) real.remote

  pub round_planned : Planned after end
  round_planned = record {
    holds = holds_at end (((left + length real.again) + length real.fresh) + length real.answers) others (length after.home.plans) (length after.remote.plans)
        (omega (arith, sent_n, length-append (left_in_link before.home.plans) real.sent, ap (λ (xs : List InLink). length xs) home_is))
        (sym (ap (λ (xs : List InLink). length xs) remote_is)) ended;
    home = subst (AllByRecursion IsShort) (sym home_is)
        (all-append IsShort (left_in_link before.home.plans) real.sent (left_short before.home.plans planned.home)
        (fates_short real.sent _ (λ k. fate_of faults (record { 0 = p }) _ k) (fate_short faults short (record { 0 = p }) _) real.are_sent.0.fates));
    remote = subst (AllByRecursion IsShort) (sym remote_is)
        (left_short (before.remote.plans ++ real.took) (all-append IsShort before.remote.plans real.took planned.remote
        (fates_short real.took _ (λ k. fate_of faults (record { 0 = p }) _ k) (fate_short faults short (record { 0 = p }) _) real.are_taken.fates)));
  }

-- ---- all rounds

module _ (setup : Setup) (faults : List Fault) (journal : List JournalEntry) (marks : List (List ℕ)) (real : RealRounds setup faults journal marks) where
  pub mark_is : (k : ℕ) → k < length marks → slice_get marks k ≡ Some (get_or marks k [])
  mark_is k within = slice_get-get_or marks k [] within

  -- a far side's round
  pub far_did : (k p : ℕ) → k + 1 < length marks → p < peerings_in setup
      → FarDid setup faults p (k + 1) (real.world k) (real.links k p)
      (between journal (get_or marks k []) (get_or marks (k + 1) [])) (real.world (k + 1)) (real.links (k + 1) p)
  far_did k p within known =
      (real.each k (get_or marks k []) (get_or marks (k + 1) []) (mark_is k (omega (arith, within))) (mark_is (k + 1) within)).far_sides p known

  first_holds : (peering : Option PeeringSetup) → Holds (first_far peering) 0 0
  first_holds None = record { homeward = refl; remoteward = refl }
  first_holds (Some peering) = record { homeward = refl; remoteward = refl }

  pub all_planned : AreShort faults → (p : ℕ) → p < peerings_in setup → (k : ℕ) → k < length marks → Planned (real.links k p) ((real.world k).far p)
  all_planned short p known zero within = subst (λ (links : Links). Planned links ((real.world 0).far p)) (sym (real.empty p)) (record {
    holds = subst (λ (w : World). Holds (w.far p) 0 0) (sym (real.begins (get_or marks 0 []) (mark_is 0 within))) (first_holds (slice_get setup.peerings p));
    home = tt;
    remote = tt;
  })
  all_planned short p known (suc k) within =
      let next : k + 1 ≡ suc k = omega arith in
      let did = far_did k p (omega (arith, within)) known in
      subst (λ (n : ℕ). Planned (real.links n p) ((real.world n).far p)) next
      (round_planned setup faults short p (k + 1) ((real.world k).far p) ((real.world (k + 1)).far p) (real.links k p)
      (real.links (k + 1) p) did.events did.real (all_planned short p known k (omega (arith, within))))
