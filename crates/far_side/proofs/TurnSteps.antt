-- The pieces of a turn, one after another.
use Rattle.std.proofs.Common.{◌≡◌, ℕ, ◌+◌, List, [], ◌++◌, length, false, refl, sym, ap, subst, ◌∙◌, arith, inl, inr, append_assoc}
use Rattle.ring_net.specs.declared.post.Post.{Post}
use Rattle.graft_steps.specs.declared.item.Item.{Item}
use Rattle.tcp_seq.specs.Endpoint.{Endpoint, PlacedSegment}
use Rattle.tcp_seq.specs.declared.segment.Way.TheVariants.{Home, Remote}
use Rattle.link_bag.specs.declared.plan.Fate.{Fate}
use Rattle.session_value.specs.Sessions.{SessionValue}
use Rattle.graft_model.specs.Parts.{FarPart}
use Rattle.graft_model.specs.declared.event.FarEvent.{FarEvent}
use Rattle.graft_actors.specs.Emissions.{zero_tally, Tally, reach_of}
use Rattle.remote_end.specs.Remotes.{RemoteValue}
use Rattle.far_side.specs.Links.{LinkValue, home_events, remote_events, left_in_link}
use Rattle.far_side.specs.Parts.{far_part}
use Rattle.far_side.specs.Turns.{FarRetransmits, SendsNew, SendsAnswer, SendsNone, FarGoes, DidAsFar}
use Rattle.far_side.specs.Passes.{fates_in, plans_put, SameRemote, LinkPass, Sent, SentAgain, SentFresh}
use Rattle.far_side.specs.Passes.{SentAnswer, Beats, Beaten, again_events, answer_events, SameLink}
use Rattle.far_side.specs.Turned.{FarTurnsOnce}
use Rattle.far_side.specs.declared.fields.Fields.{Fields}
use Rattle.far_side.specs.declared.link.InLink.{InLink}
use Rattle.far_side.proofs.Dids.{did_same, did_then}
use Rattle.far_side.proofs.EmitSteps.{plans_put-append}
use Rattle.far_side.proofs.Goes.{silent_goes, silent_deliveries, silent_beats, again_goes, fresh_goes, answer_goes, round_by}

-- what a KEEPALIVE leaves alone
beats_same : (f g : Fields) (events : List FarEvent) → Beats f events g
    → (g.homeward ≡ f.homeward) × (g.remoteward ≡ f.remoteward) × (g.plan ≡ f.plan)
    × (g.pointer ≡ f.pointer) × (g.turns ≡ f.turns) × (g.remote.at_turn ≡ f.remote.at_turn)
    × (g ≡ record f { remote = g.remote; keepalives = g.keepalives; last_keepalive = g.last_keepalive })
beats_same f g events (inl b) = let is = b.2 in (
  ap (λ (h : Fields). h.homeward) is,
  ap (λ (h : Fields). h.remoteward) is,
  ap (λ (h : Fields). h.plan) is,
  ap (λ (h : Fields). h.pointer) is,
  ap (λ (h : Fields). h.turns) is,
  ap (λ (h : Fields). h.remote.at_turn) is,
  subst (λ (h : Fields). h ≡ record f { remote = h.remote; keepalives = h.keepalives; last_keepalive = h.last_keepalive }) (sym is) refl,
)
beats_same f g events (inr b) = let is = b.2 in (
  ap (λ (h : Fields). h.homeward) is,
  ap (λ (h : Fields). h.remoteward) is,
  ap (λ (h : Fields). h.plan) is,
  ap (λ (h : Fields). h.pointer) is,
  ap (λ (h : Fields). h.turns) is,
  ap (λ (h : Fields). h.remote.at_turn) is,
  subst (λ (h : Fields). h ≡ record f { remote = h.remote; keepalives = h.keepalives; last_keepalive = h.last_keepalive }) (sym is) refl,
)

-- f0 is the far side before the turn, a after its turn was counted, b and c after the two passes, d after the retransmission turn, e after the KEEPALIVE,
-- g after the new slices, h after the answer
module _ {C : Type 0} (session : C → SessionValue) (f0 a b c d e g h : Fields)
    (p0 p1 p2 p3 p4 p5 p6 : Post (Item C)) (counted : a ≡ record f0 { turns = f0.turns + 1 })
    (home : LinkPass session Home a p0 b p1) (remote : LinkPass session Remote b p1 c p2) (again : SentAgain session c p2 d p3)
    (beaten : Beaten session d p3 e p4) (fresh : SentFresh session e p4 g p5) (answer : SentAnswer session g p5 h p6) where
  did_tail : DidAsFar session c p2 zero_tally (again_events c.remote ++ (beaten.events ++ (fresh.events ++ answer_events g.remote.end))) h p6
      (record { again = length (again_events c.remote); answers = length (answer_events g.remote.end) })
  did_tail =
      let n = length (again_events c.remote) in
      let t : Tally = record { again = 0 + n; answers = 0 } in
      let u : Tally = record { again = 0 + n; answers = 0 + length (answer_events g.remote.end) } in
      let all : DidAsFar session c p2 zero_tally (again_events c.remote ++ (beaten.events ++ (fresh.events ++ answer_events g.remote.end))) h p6 u =
      did_then session c d h p2 p3 p6 zero_tally t u (again_events c.remote)
      (beaten.events ++ (fresh.events ++ answer_events g.remote.end)) (again.sent zero_tally).did
      (did_then session d e h p3 p4 p6 t t u beaten.events (fresh.events ++ answer_events g.remote.end) (beaten.did t)
      (did_then session e g h p4 p5 p6 t t u fresh.events (answer_events g.remote.end) (fresh.sent t).did (answer.sent t).did)) in
      subst (λ (v : Tally). DidAsFar session c p2 zero_tally (again_events c.remote ++ (beaten.events ++ (fresh.events ++ answer_events g.remote.end))) h p6 v)
      (λ i. record {
        again = (let z : 0 + n ≡ n = omega arith in z) i;
        answers = (let z : 0 + length (answer_events g.remote.end) ≡ length (answer_events g.remote.end) = omega arith in z) i;
      }) all

  did_all : DidAsFar session f0 p0 zero_tally (home_events a.pointer.0 a.homeward.plans
      ++ (remote_events b.remoteward.plans ++ (again_events c.remote ++ (beaten.events ++ (fresh.events ++ answer_events g.remote.end))))) h p6
      (record { again = length (again_events c.remote); answers = length (answer_events g.remote.end) })
  did_all =
      let u : Tally = record { again = length (again_events c.remote); answers = length (answer_events g.remote.end) } in
      let rest = again_events c.remote ++ (beaten.events ++ (fresh.events ++ answer_events g.remote.end)) in
      did_then session f0 a h p0 p0 p6 zero_tally zero_tally u [] (home_events a.pointer.0 a.homeward.plans ++ (remote_events b.remoteward.plans ++ rest))
      (did_same session f0 a p0 zero_tally (ap (λ (k : Fields). k.known.setup) counted) (ap (λ (k : Fields). k.peering) counted) (ap far_part counted))
      (did_then session a b h p0 p1 p6 zero_tally zero_tally u (home_events a.pointer.0 a.homeward.plans)
      (remote_events b.remoteward.plans ++ rest) (home.did zero_tally)
      (did_then session b c h p1 p2 p6 zero_tally zero_tally u (remote_events b.remoteward.plans) rest (remote.did zero_tally) did_tail))

-- ---- plans that were put

puts_then : (fate : ℕ → Fate) (router k m n : ℕ) (xs ys zs : List InLink) → ys ≡ xs ++ plans_put fate router k m
    → zs ≡ ys ++ plans_put fate router (k + m) n → zs ≡ xs ++ plans_put fate router k (m + n)
puts_then fate router k m n xs ys zs first second =
    second ∙ ap (λ (us : List InLink). us ++ plans_put fate router (k + m) n) first
    ∙ append_assoc xs (plans_put fate router k m) (plans_put fate router (k + m) n)
    ∙ ap (λ (us : List InLink). xs ++ us) (sym (plans_put-append fate router k m n))

-- what pieces put into the link to home, by the fates of the first
record Puts (fate : ℕ → Fate) (router : ℕ) (old new : LinkValue) (n : ℕ) : Type 0 where
  plans : new.plans ≡ old.plans ++ plans_put fate router old.put n
  put : new.put ≡ old.put + n

puts_on : (fate : ℕ → Fate) (router : ℕ) (a b c : LinkValue) (m n : ℕ) → Puts fate router a b m → Puts fate router b c n → Puts fate router a c (m + n)
puts_on fate router a b c m n x y = record {
  plans = puts_then fate router a.put m n a.plans b.plans c.plans x.plans (y.plans ∙ ap (λ (k : ℕ). b.plans ++ plans_put fate router k n) x.put);
  put = let e : c.put ≡ a.put + (m + n) = omega (arith, y.put, x.put) in e;
}

-- the fates that the plan has for a link, and the router that it points at
record SameFates (f g : Fields) : Type 0 where
  fates : fates_in g.plan g.homeward ≡ fates_in f.plan f.homeward
  router : g.pointer.0 ≡ f.pointer.0

fates_on : (f g h : Fields) → SameFates f g → SameFates g h → SameFates f h
fates_on f g h x y = record { fates = y.fates ∙ x.fates; router = y.router ∙ x.router }

module _ {C : Type 0} (session : C → SessionValue) where
  sent_puts : (f g : Fields) (p q : Post (Item C)) (t u : Tally) (es : List FarEvent) → Sent session f p t es g q u
      → Puts (fates_in f.plan f.homeward) f.pointer.0 f.homeward g.homeward (length es) × SameFates f g
  sent_puts f g p q t u es x = (
    record { plans = x.plans; put = x.put },
    record {
      fates = ap (λ (k : Fields). fates_in k.plan g.homeward) x.same ∙ ap (λ (l : LinkValue). fates_in f.plan l) x.link;
      router = ap (λ (k : Fields). k.pointer.0) x.same;
    },
  )

puts_by : (f g : Fields) (a b : LinkValue) (n : ℕ) → SameFates f g → Puts (fates_in g.plan g.homeward) g.pointer.0 a b n
    → Puts (fates_in f.plan f.homeward) f.pointer.0 a b n
puts_by f g a b n same puts = subst (λ v. Puts v f.pointer.0 a b n) same.fates (subst (λ (r : ℕ). Puts (fates_in g.plan g.homeward) r a b n) same.router puts)

-- a link that leads where it led
link_with : (a b : LinkValue) (segments : List PlacedSegment) (plans : List InLink) (put : ℕ)
    → b ≡ record a { segments = segments; plans = plans; put = put } → SameLink a b
link_with a b segments plans put e = record {
  way = ap (λ (l : LinkValue). l.way) e;
  peering = ap (λ (l : LinkValue). l.peering) e;
  seq_first = ap (λ (l : LinkValue). l.seq_first) e;
  ack_first = ap (λ (l : LinkValue). l.ack_first) e;
}

link_then : (a b c : LinkValue) → SameLink a b → SameLink b c → SameLink a c
link_then a b c x y =
    record { way = y.way ∙ x.way; peering = y.peering ∙ x.peering; seq_first = y.seq_first ∙ x.seq_first; ack_first = y.ack_first ∙ x.ack_first }

module _ {C : Type 0} (session : C → SessionValue) (f0 b c d e g h : Fields) (p0 p1 p2 p3 p4 p5 p6 : Post (Item C))
    (home : LinkPass session Home (record f0 { turns = f0.turns + 1 }) p0 b p1) (remote : LinkPass session Remote b p1 c p2)
    (again : SentAgain session c p2 d p3) (beaten : Beaten session d p3 e p4)
    (fresh : SentFresh session e p4 g p5) (answer : SentAnswer session g p5 h p6) where
  -- before anything is sent
  b_remoteward : b.remoteward ≡ f0.remoteward
  b_remoteward = ap (λ (k : Fields). k.remoteward) home.same

  c_same : c ≡ record f0 { turns = f0.turns + 1; remote = c.remote; homeward = b.homeward; remoteward = c.remoteward }
  c_same = remote.same ∙ ap (λ (k : Fields). let m : Fields = record k { remote = c.remote; remoteward = c.remoteward } in m) home.same

  d_same : d ≡ record f0 { turns = f0.turns + 1; remote = d.remote; homeward = d.homeward; remoteward = c.remoteward }
  d_same = (again.sent zero_tally).same ∙ ap (λ (k : Fields). let m : Fields = record k { remote = d.remote; homeward = d.homeward } in m) c_same

  e_same : e ≡ record f0 {
    turns = f0.turns + 1;
    remote = e.remote;
    homeward = d.homeward;
    remoteward = c.remoteward;
    keepalives = e.keepalives;
    last_keepalive = e.last_keepalive;
  }
  e_same = (beats_same d e beaten.events beaten.keepalives).6
      ∙ ap (λ (k : Fields). let m : Fields = record k { remote = e.remote; keepalives = e.keepalives; last_keepalive = e.last_keepalive } in m) d_same

  g_same : g ≡ record f0 {
    turns = f0.turns + 1;
    remote = g.remote;
    homeward = g.homeward;
    remoteward = c.remoteward;
    keepalives = e.keepalives;
    last_keepalive = e.last_keepalive;
  }
  g_same = (fresh.sent zero_tally).same ∙ ap (λ (k : Fields). let m : Fields = record k { remote = g.remote; homeward = g.homeward } in m) e_same

  h_same : h ≡ record f0 {
    turns = f0.turns + 1;
    remote = h.remote;
    homeward = h.homeward;
    remoteward = c.remoteward;
    keepalives = e.keepalives;
    last_keepalive = e.last_keepalive;
  }
  h_same = (answer.sent zero_tally).same ∙ ap (λ (k : Fields). let m : Fields = record k { remote = h.remote; homeward = h.homeward } in m) g_same

  -- the links
  first_fates : SameFates f0 c
  first_fates = record {
    fates = ap (λ (k : Fields). fates_in k.plan c.homeward) c_same ∙ ap (λ (l : LinkValue). fates_in f0.plan l) (ap (λ (k : Fields). k.homeward) c_same)
        ∙ ap (λ (l : LinkValue). fates_in f0.plan l) home.link;
    router = ap (λ (k : Fields). k.pointer.0) c_same;
  }

  first_puts : Puts (fates_in f0.plan f0.homeward) f0.pointer.0 c.homeward d.homeward (length (again_events c.remote)) × SameFates f0 d
  first_puts = let x = sent_puts session c d p2 p3 zero_tally _ (again_events c.remote) (again.sent zero_tally) in
      (puts_by f0 c c.homeward d.homeward (length (again_events c.remote)) first_fates x.0, fates_on f0 c d first_fates x.1)

  beat_fates : SameFates d e
  beat_fates = let s = beats_same d e beaten.events beaten.keepalives in record {
    fates = ap (λ pl. fates_in pl e.homeward) s.2 ∙ ap (λ (l : LinkValue). fates_in d.plan l) s.0;
    router = ap (λ r. r.0) s.3;
  }

  all_puts : Puts (fates_in f0.plan f0.homeward) f0.pointer.0 c.homeward h.homeward
      (length (again_events c.remote) + (length fresh.events + length (answer_events g.remote.end)))
  all_puts =
      let before : SameFates f0 e = fates_on f0 d e first_puts.1 beat_fates in
      let x = sent_puts session e g p4 p5 zero_tally zero_tally fresh.events (fresh.sent zero_tally) in
      let y = sent_puts session g h p5 p6 zero_tally _ (answer_events g.remote.end) (answer.sent zero_tally) in
      let second : Puts (fates_in f0.plan f0.homeward) f0.pointer.0 e.homeward g.homeward (length fresh.events) =
      puts_by f0 e e.homeward g.homeward (length fresh.events) before x.0 in
      let third : Puts (fates_in f0.plan f0.homeward) f0.pointer.0 g.homeward h.homeward (length (answer_events g.remote.end)) =
      puts_by f0 g g.homeward h.homeward (length (answer_events g.remote.end)) (fates_on f0 e g before x.1) y.0 in
      let start : Puts (fates_in f0.plan f0.homeward) f0.pointer.0 d.homeward g.homeward (length fresh.events) =
      subst (λ (l : LinkValue). Puts (fates_in f0.plan f0.homeward) f0.pointer.0 l g.homeward (length fresh.events))
      (beats_same d e beaten.events beaten.keepalives).0 second in
      puts_on _ _ c.homeward d.homeward h.homeward _ _ first_puts.0 (puts_on _ _ d.homeward g.homeward h.homeward _ _ start third)

  homeward_link : SameLink f0.homeward h.homeward
  homeward_link =
      link_then f0.homeward b.homeward h.homeward (link_with f0.homeward b.homeward _ _ _ home.link)
      (link_then b.homeward c.homeward h.homeward (link_with b.homeward c.homeward _ _ _ (ap (λ (k : Fields). k.homeward) c_same))
      (link_then c.homeward d.homeward h.homeward (link_with c.homeward d.homeward _ _ _ (again.sent zero_tally).link)
      (link_then d.homeward e.homeward h.homeward (link_with d.homeward e.homeward _ _ _ (beats_same d e beaten.events beaten.keepalives).0)
      (link_then e.homeward g.homeward h.homeward (link_with e.homeward g.homeward _ _ _ (fresh.sent zero_tally).link)
      (link_with g.homeward h.homeward _ _ _ (answer.sent zero_tally).link)))))

  remoteward_link : SameLink f0.remoteward h.remoteward
  remoteward_link =
      link_then f0.remoteward b.remoteward h.remoteward (link_with f0.remoteward b.remoteward _ _ _ b_remoteward)
      (link_then b.remoteward c.remoteward h.remoteward (link_with b.remoteward c.remoteward _ _ _ remote.link)
      (link_with c.remoteward h.remoteward _ _ _ (ap (λ (k : Fields). k.remoteward) h_same)))

  -- what is sent at each stage
  abbrev GoesBy : (FarPart → FarEvent → Type 0) → Fields → List FarEvent → Fields → Type 0
  GoesBy Allowed k events m = FarGoes f0.known.setup f0.peering.0 Allowed (far_part k) events (far_part m)

  delivers : GoesBy SendsNone f0 (home_events f0.pointer.0 f0.homeward.plans ++ remote_events f0.remoteward.plans) c
  delivers =
      let homes : List FarEvent = home_events f0.pointer.0 f0.homeward.plans in
      let first : Fields = record f0 { turns = f0.turns + 1 } in
      let did : DidAsFar session first p0 zero_tally (homes ++ remote_events b.remoteward.plans) c p2 zero_tally =
      did_then session first b c p0 p1 p2 zero_tally zero_tally zero_tally homes
      (remote_events b.remoteward.plans) (home.did zero_tally) (remote.did zero_tally) in
      subst (λ (l : LinkValue). GoesBy SendsNone f0 (homes ++ remote_events l.plans) c) b_remoteward
      (silent_goes f0.known.setup f0.peering.0 (far_part f0) (far_part c) zero_tally zero_tally
      (homes ++ remote_events b.remoteward.plans) (silent_deliveries f0.pointer.0 f0.homeward.plans b.remoteward.plans) did.round)

  resends : GoesBy FarRetransmits c (again_events c.remote) d
  resends =
      let u : Tally = record { again = 0 + length (again_events c.remote); answers = 0 } in
      again_goes f0.known.setup f0.peering.0 (far_part c) (far_part d) c.remote u
      (round_by session f0 c d p2 p3 zero_tally u (again_events c.remote) (ap (λ (k : Fields). k.known.setup) c_same)
      (ap (λ (k : Fields). k.peering) c_same) (again.sent zero_tally).did) (omega arith)

  says : GoesBy SendsNone d beaten.events e
  says =
      silent_goes f0.known.setup f0.peering.0 (far_part d) (far_part e) zero_tally zero_tally beaten.events (silent_beats d e beaten.events beaten.keepalives)
      (round_by session f0 d e p3 p4 zero_tally zero_tally beaten.events (ap (λ (k : Fields). k.known.setup) d_same)
      (ap (λ (k : Fields). k.peering) d_same) (beaten.did zero_tally))

  sends : GoesBy SendsNew e fresh.events g
  sends = (fresh_goes f0.known.setup f0.peering.0 e.remote.end g.remote.end (far_part e) (far_part g) zero_tally zero_tally fresh.events fresh.fresh
      (round_by session f0 e g p4 p5 zero_tally zero_tally fresh.events (ap (λ (k : Fields). k.known.setup) e_same)
      (ap (λ (k : Fields). k.peering) e_same) (fresh.sent zero_tally).did)).1 (omega arith)

  answers : GoesBy SendsAnswer g (answer_events g.remote.end) h
  answers =
      let u : Tally = record { again = 0; answers = 0 + length (answer_events g.remote.end) } in
      answer_goes f0.known.setup f0.peering.0 (far_part g) (far_part h) zero_tally u g.remote.end
      (round_by session f0 g h p5 p6 zero_tally u (answer_events g.remote.end) (ap (λ (k : Fields). k.known.setup) g_same)
      (ap (λ (k : Fields). k.peering) g_same) (answer.sent zero_tally).did)

  -- the whole turn
  pub turns_once : FarTurnsOnce session f0 p0 h p6
  turns_once =
      let rest : List FarEvent = again_events c.remote ++ (beaten.events ++ (fresh.events ++ answer_events g.remote.end)) in
      let u : Tally = record { again = length (again_events c.remote); answers = length (answer_events g.remote.end) } in
      let did : DidAsFar session f0 p0 zero_tally (home_events f0.pointer.0 f0.homeward.plans ++ (remote_events f0.remoteward.plans ++ rest)) h p6 u =
      subst (λ (l : LinkValue). DidAsFar session f0 p0 zero_tally (home_events f0.pointer.0 f0.homeward.plans ++ (remote_events l.plans ++ rest)) h p6 u)
      b_remoteward
      (did_all session f0 (let k : Fields = record f0 { turns = f0.turns + 1 } in k) b
      c d e g h p0 p1 p2 p3 p4 p5 p6 refl home remote again beaten fresh answer) in
      let end_is : h.remote.end ≡ record g.remote.end { owed = false } = ap (λ (v : RemoteValue). v.end) answer.remote in
      record {
        moved = record {
          deeds = did.deeds;
          wrote = did.wrote;
          none = did.none;
          replay = did.replay;
          moved = record {
            keepalives = beaten.events;
            fresh = fresh.events;
            reached = c.remote;
            before = d;
            beaten = e;
            sent = g.remote.end;
            is_reached = subst (λ (v : RemoteValue). SameRemote v c.remote) home.remote remote.remote;
            is_before = (
              again.remote,
              ap (λ (k : Fields). k.turns) d_same,
              ap (λ (k : Fields). k.keepalive_interval) d_same,
              ap (λ (k : Fields). k.keepalives) d_same,
              ap (λ (k : Fields). k.last_keepalive) d_same,
            );
            are_keepalives = beaten.keepalives;
            is_fresh = fresh.fresh;
            events = did.coded;
            delivered = far_part c;
            resent = far_part d;
            said = far_part e;
            level = far_part g;
            delivers = delivers;
            resends = resends;
            says = says;
            sends = sends;
            answers = answers;
            end = end_is;
            rested = record {
              emitted = ap (λ (x : Endpoint). x.emitted) end_is ∙ fresh.all ∙ sym (ap reach_of end_is);
              answered = ap (λ (x : Endpoint). x.owed) end_is;
            };
            at_turn = ap (λ (v : RemoteValue). v.at_turn) answer.remote ∙ fresh.at_turn ∙ (beats_same d e beaten.events beaten.keepalives).5
                ∙ ap (λ (v : RemoteValue). v.at_turn) again.remote;
            homeward = all_puts.plans
                ∙ ap (λ (xs : List InLink). xs ++ plans_put (fates_in f0.plan f0.homeward) f0.pointer.0 c.homeward.put
                (length (again_events c.remote) + (length fresh.events + length (answer_events g.remote.end))))
                (ap (λ (k : Fields). k.homeward.plans) remote.same ∙ home.plans)
                ∙ ap (λ (n : ℕ). left_in_link f0.homeward.plans ++ plans_put (fates_in f0.plan f0.homeward) f0.pointer.0 n
                (length (again_events c.remote) + (length fresh.events + length (answer_events g.remote.end)))) put_is;
            put = all_puts.put ∙ ap (λ (n : ℕ). n + (length (again_events c.remote) + (length fresh.events + length (answer_events g.remote.end)))) put_is;
            remoteward = (
              ap (λ (k : Fields). k.remoteward.plans) h_same ∙ remote.plans ∙ ap (λ (l : LinkValue). left_in_link l.plans) b_remoteward,
              ap (λ (k : Fields). k.remoteward.put) h_same ∙ ap (λ (l : LinkValue). l.put) remote.link ∙ ap (λ (l : LinkValue). l.put) b_remoteward,
            );
            links = (homeward_link, remoteward_link);
            turns = ap (λ (k : Fields). k.turns) h_same;
            same = subst (λ (k : Fields). k ≡ record f0 {
              remote = k.remote;
              homeward = k.homeward;
              remoteward = k.remoteward;
              turns = k.turns;
              keepalives = k.keepalives;
              last_keepalive = k.last_keepalive;
            }) (sym h_same) refl;
          };
        };
        keeps = (answer.sent zero_tally).keeps;
      }
    where
      put_is : c.homeward.put ≡ f0.homeward.put
      put_is = ap (λ (k : Fields). k.homeward.put) remote.same ∙ ap (λ (l : LinkValue). l.put) home.link
