-- What the remote sends in a turn.
use Rattle.std.proofs.Common.{◌≡◌, ℕ, zero, suc, ◌+◌, ◌-◌, ◌<◌, ◌≤◌, List, [], ◌∷◌, ◌++◌, length, Option, Some}
use Rattle.std.proofs.Common.{Bool, refl, sym, ap, subst, ◌∙◌, arith, inl, inr, ◌⊎◌, append_assoc}
use Rattle.std.specs.Prelude.{nat_lt, IsNone, ◌↔◌, if◌then◌else◌}
use Rattle.std.proofs.lemmas.List.{append-nil}
use Rattle.std.proofs.lemmas.Bool.{cases_lt, lt-ltb, le-ltb}
use Rattle.ring_net.specs.declared.post.Post.{Post}
use Rattle.graft_steps.specs.declared.item.Item.{Item}
use Rattle.link_bag.specs.declared.plan.Fate.{Fate}
use Rattle.tcp_seq.specs.Endpoint.{Endpoint, PlacedSegment, IsInStreams, EmitsNext, EmitsAgain, EmitsAnswer, next_length, again_length}
use Rattle.tcp_seq.specs.Placed.{placed}
use Rattle.tcp_seq.specs.declared.segment.Segment.{Segment}
use Rattle.tcp_seq.proofs.Emitting.{next_is_slice, again_is_slice}
use Rattle.session_value.specs.Sessions.{SessionValue}
use Rattle.graft_model.specs.Setups.{routers_in}
use Rattle.graft_model.specs.Slices.{EmitsAt}
use Rattle.graft_model.specs.declared.event.FarEvent.{FarEvent}
use Rattle.graft_model.specs.declared.event.FarEvent.TheVariants.{Send}
use Rattle.graft_actors.specs.Emissions.{reach_of, IsCareful, Tally, tallied}
use Rattle.graft_actors.proofs.Careful.{at_again, at_answer, at_next, careful_again, careful_next, counted_again, counted_next}
use Rattle.remote_end.specs.Remotes.{RemoteValue, IsFrom, SendingInvariant, EmitsOf}
use Rattle.far_side.specs.Links.{LinkValue, IsOn, put_now}
use Rattle.graft_actors.specs.Notes.{WroteOne}
use Rattle.far_side.specs.Parts.{far_part, FarSideInvariant, ForEach}
use Rattle.far_side.specs.Turns.{DidAsFar}
use Rattle.far_side.specs.Passes.{fates_in, put_in, plans_put, Sent, again_events, FreshEvents, answer_events, SentAgain, SentFresh, SentAnswer}
use Rattle.far_side.specs.declared.fields.Fields.{Fields}
use Rattle.far_side.specs.declared.link.InLink.{InLink}
use Rattle.far_side.proofs.Sessions.{for_each}
use Rattle.far_side.proofs.Dids.{did_same, did_then, did_one}
use Rattle.far_side.proofs.Kept.{keeps_home, keeps_remote, all_push}
use Rattle.graft_model.specs.Codes.{far_code}

-- a segment of the remote may go into the link to home
pub from_on : (f : Fields) (g : Segment) → FarSideInvariant f → IsFrom f.remote g → IsOn f.homeward g
from_on f g k from = record {
  way = from.way ∙ sym k.homeward.way;
  peering = from.peering ∙ k.remote ∙ sym k.homeward.peering;
  in_streams = subst (λ (n : ℕ). IsInStreams (placed n f.homeward.ack_first g)) (k.sends ∙ sym k.homeward.seq_first)
      (subst (λ (n : ℕ). IsInStreams (placed f.remote.send_first n g)) (k.receives ∙ sym k.homeward.ack_first) from.in_streams);
  short = omega (arith, from.short);
}

-- its offsets are the same there
pub same_offsets : (f : Fields) (g : Segment) → FarSideInvariant f
    → placed f.homeward.seq_first f.homeward.ack_first g ≡ placed f.remote.send_first f.remote.receive_first g
same_offsets f g k = ap (λ (n : ℕ). placed n f.homeward.ack_first g) (k.homeward.seq_first ∙ sym k.sends)
    ∙ ap (λ (n : ℕ). placed f.remote.send_first n g) (k.homeward.ack_first ∙ sym k.receives)

-- ---- one segment

emits_at_next : (e f : Endpoint) (p : PlacedSegment) → SendingInvariant e → EmitsNext e p f → EmitsAt e.emitted (next_length e) e p f
emits_at_next e f p sound step = at_next e f p (next_is_slice e f p sound.acked step) step

emits_at_again : (e f : Endpoint) (p : PlacedSegment) → SendingInvariant e → EmitsAgain e p f → EmitsAt e.acked (again_length e) e p f
emits_at_again e f p sound step = at_again e f p sound.emitted (again_is_slice e f p sound.emitted sound.flight step) step

-- the far side with another remote and one more segment on its way home
put_on : Fields → RemoteValue → PlacedSegment → Fields
put_on f r segment = record f { remote = r; homeward = put_in f.homeward f segment }

module _ {C : Type 0} (session : C → SessionValue) (f g : Fields) (p q : Post (Item C))
    (r : RemoteValue) (segment : PlacedSegment) (from len : ℕ) (keeps : FarSideInvariant f)
    (same : g ≡ record f { remote = r; homeward = put_in f.homeward f segment }) (is : r ≡ record f.remote { end = r.end; at_turn = r.at_turn })
    (wrote : WroteOne p (far_code (Send from len)) [] q)
    (emits : EmitsAt from len f.remote.end segment r.end) (careful : IsCareful f.remote.end from len) where
  did_send : (t : Tally) → DidAsFar session f p t (Send from len ∷ []) g q (tallied f.remote.end from len t)
  did_send t = did_one session f g p q t (Send from len) (ap (λ (h : Fields). h.known.setup) same) (ap (λ (h : Fields). h.peering) same) wrote
      (record { segment = segment; end = r.end; emits = emits; takes = refl; sends = refl; effect = ap far_part same }) careful

  pub sent_one : (t : Tally) → Sent session f p t (Send from len ∷ []) g q (tallied f.remote.end from len t)
  sent_one t = record {
    did = did_send t;
    plans = ap (λ (h : Fields). h.homeward.plans) same;
    put = ap (λ (h : Fields). h.homeward.put) same;
    link = subst (λ (h : Fields). h.homeward ≡ record f.homeward { segments = h.homeward.segments; plans = h.homeward.plans; put = h.homeward.put })
        (sym same) refl;
    remote = subst (λ (h : Fields). h.remote ≡ record f.remote { end = h.remote.end; at_turn = h.remote.at_turn }) (sym same) is;
    same = subst (λ (h : Fields). h ≡ record f { remote = h.remote; homeward = h.homeward }) (sym same) refl;
    keeps = subst FarSideInvariant (sym same) (keeps_home (record f { remote = r }) (put_in f.homeward f segment)
        (keeps_remote f r keeps (ap (λ (v : RemoteValue). v.peering) is)
        (ap (λ (v : RemoteValue). v.send_first) is) (ap (λ (v : RemoteValue). v.receive_first) is))
        (record { way = refl; peering = refl; seq_first = refl; ack_first = refl })
        (all_push (λ x. x.pointed.0 < routers_in f.known.setup) f.homeward.plans _ keeps.pointed keeps.pointer));
  }

-- ---- one after another

pub plans_put-append : (fate : ℕ → Fate) (router from m n : ℕ)
    → plans_put fate router from (m + n) ≡ plans_put fate router from m ++ plans_put fate router (from + m) n
plans_put-append fate router from zero n = ap (λ (k : ℕ). plans_put fate router from k) (let e : 0 + n ≡ n = omega arith in e)
    ∙ ap (λ (k : ℕ). plans_put fate router k n) (let e : from ≡ from + 0 = omega arith in e)
plans_put-append fate router from (suc m) n =
    ap (plans_put fate router from) (let e : suc m + n ≡ suc (m + n) = omega arith in e)
    ∙ ap (λ (xs : List InLink). put_now (fate (from + 1)) router ∷ xs) (plans_put-append fate router (from + 1) m n
    ∙ ap (λ (k : ℕ). plans_put fate router (from + 1) m ++ plans_put fate router k n) (let e : from + 1 + m ≡ from + suc m = omega arith in e))

length_append : (es fs : List FarEvent) → length (es ++ fs) ≡ length es + length fs
length_append [] fs = let e : length fs ≡ 0 + length fs = omega arith in e
length_append (e ∷ es) fs = let h : length (es ++ fs) ≡ length es + length fs = length_append es fs in omega (arith, h)

module _ {C : Type 0} (session : C → SessionValue) where
  pub sent_none : (f g : Fields) (p : Post (Item C)) (t : Tally) → FarSideInvariant f → (r : RemoteValue) → g ≡ record f { remote = r }
      → r ≡ record f.remote { at_turn = r.at_turn } → Sent session f p t [] g p t
  sent_none f g p t keeps r same is = record {
    did = did_same session f g p t (ap (λ (h : Fields). h.known.setup) same) (ap (λ (h : Fields). h.peering) same)
        (ap far_part same ∙ ap (λ (v : RemoteValue). far_part (let h : Fields = record f { remote = v } in h)) is);
    plans = ap (λ (h : Fields). h.homeward.plans) same ∙ sym (append-nil f.homeward.plans);
    put = ap (λ (h : Fields). h.homeward.put) same ∙ (let e : f.homeward.put ≡ f.homeward.put + 0 = omega arith in e);
    link = subst (λ (h : Fields). h.homeward ≡ record f.homeward { segments = h.homeward.segments; plans = h.homeward.plans; put = h.homeward.put })
        (sym same) refl;
    remote = subst (λ (h : Fields). h.remote ≡ record f.remote { end = h.remote.end; at_turn = h.remote.at_turn }) (sym same)
        (is ∙ ap (λ (e : Endpoint). let v : RemoteValue = record f.remote { end = e; at_turn = r.at_turn } in v) (sym (ap (λ (v : RemoteValue). v.end) is)));
    same = subst (λ (h : Fields). h ≡ record f { remote = h.remote; homeward = h.homeward }) (sym same) refl;
    keeps = subst FarSideInvariant (sym same) (keeps_remote f r keeps (ap (λ (v : RemoteValue). v.peering) is)
        (ap (λ (v : RemoteValue). v.send_first) is) (ap (λ (v : RemoteValue). v.receive_first) is));
  }

  pub sent_then : (f g h : Fields) (p q s : Post (Item C)) (t u w : Tally) (es fs : List FarEvent) → Sent session f p t es g q u
      → Sent session g q u fs h s w → Sent session f p t (es ++ fs) h s w
  sent_then f g h p q s t u w es fs x y =
      let router : g.pointer.0 ≡ f.pointer.0 = ap (λ (k : Fields). k.pointer.0) x.same in
      let plan : g.plan ≡ f.plan = ap (λ (k : Fields). k.plan) x.same in
      let fates : fates_in g.plan g.homeward ≡ fates_in f.plan f.homeward =
      ap (λ pl. fates_in pl g.homeward) plan ∙ ap (λ (l : LinkValue). fates_in f.plan l) x.link in
      let count : g.homeward.put ≡ f.homeward.put + length es = x.put in
      record {
        did = did_then session f g h p q s t u w es fs x.did y.did;
        plans = y.plans
            ∙ ap (λ (xs : List InLink). xs ++ plans_put (fates_in g.plan g.homeward) g.pointer.0 g.homeward.put (length fs)) x.plans
            ∙ append_assoc f.homeward.plans (plans_put (fates_in f.plan f.homeward) f.pointer.0 f.homeward.put (length es))
            (plans_put (fates_in g.plan g.homeward) g.pointer.0 g.homeward.put (length fs))
            ∙ ap (λ (xs : List InLink). f.homeward.plans ++ (plans_put (fates_in f.plan f.homeward) f.pointer.0 f.homeward.put (length es) ++ xs))
            (ap (λ v. plans_put v g.pointer.0 g.homeward.put (length fs)) fates
            ∙ ap (λ (n : ℕ). plans_put (fates_in f.plan f.homeward) n g.homeward.put (length fs)) router
            ∙ ap (λ (n : ℕ). plans_put (fates_in f.plan f.homeward) f.pointer.0 n (length fs)) count)
            ∙ ap (λ (xs : List InLink). f.homeward.plans ++ xs)
            (sym (plans_put-append (fates_in f.plan f.homeward) f.pointer.0 f.homeward.put (length es) (length fs)))
            ∙ ap (λ (n : ℕ). f.homeward.plans ++ plans_put (fates_in f.plan f.homeward) f.pointer.0 f.homeward.put n) (sym (length_append es fs));
        put = let e : h.homeward.put ≡ f.homeward.put + length (es ++ fs) = omega (arith, y.put, x.put, length_append es fs) in e;
        link = y.link
            ∙ ap (λ (l : LinkValue). let m : LinkValue = record l { segments = h.homeward.segments; plans = h.homeward.plans; put = h.homeward.put } in m)
            x.link;
        remote = y.remote ∙ ap (λ (v : RemoteValue). let m : RemoteValue = record v { end = h.remote.end; at_turn = h.remote.at_turn } in m) x.remote;
        same = y.same ∙ ap (λ (k : Fields). let m : Fields = record k { remote = h.remote; homeward = h.homeward } in m) x.same;
        keeps = y.keeps;
      }

-- so many new slices were sent
pub record Freshly {C : Type 0} (session : C → SessionValue) (f : Fields) (p : Post (Item C)) (g : Fields) (q : Post (Item C)) : Type 0 where
  pub events : List FarEvent
  pub sent : (t : Tally) → Sent session f p t events g q t
  pub fresh : (more : List FarEvent) (e : Endpoint) → FreshEvents g.remote.end more e → FreshEvents f.remote.end (events ++ more) e
  pub at_turn : g.remote.at_turn ≡ f.remote.at_turn

module _ {C : Type 0} (session : C → SessionValue) where
  pub freshly_none : (f : Fields) (p : Post (Item C)) → FarSideInvariant f → Freshly session f p f p
  freshly_none f p keeps = record { events = []; sent = λ t. sent_none session f f p t keeps f.remote refl refl; fresh = λ more e h. h; at_turn = refl }

  -- one more: the remote emitted the next slice, and it was put into the link
  pub freshly_more : (f g h : Fields) (p q s : Post (Item C)) (r : RemoteValue) (segment : PlacedSegment) (len : ℕ) → Freshly session f p g q
      → FarSideInvariant g → SendingInvariant g.remote.end → EmitsNext g.remote.end segment r.end → r ≡ record g.remote { end = r.end }
      → h ≡ record g { remote = r; homeward = put_in g.homeward g segment } → len ≡ next_length g.remote.end
      → WroteOne q (far_code (Send g.remote.end.emitted len)) [] s → Freshly session f p h s
  freshly_more f g h p q s r segment len fresh keeps sound step is same size wrote =
      let event : FarEvent = Send g.remote.end.emitted (next_length g.remote.end) in
      let wrote' : WroteOne q (far_code (Send g.remote.end.emitted (next_length g.remote.end))) [] s =
      subst (λ (n : ℕ). WroteOne q (far_code (Send g.remote.end.emitted n)) [] s) size wrote in
      let r_is : r ≡ record g.remote { end = r.end; at_turn = r.at_turn } =
      subst (λ (v : RemoteValue). v ≡ record g.remote { end = v.end; at_turn = v.at_turn }) (sym is) refl in
      let end_is : r.end ≡ record g.remote.end { emitted = g.remote.end.emitted + next_length g.remote.end } = step.rises in
      let h_remote : h.remote ≡ r = ap (λ (k : Fields). k.remote) same in
      record {
        events = fresh.events ++ event ∷ [];
        sent = λ t. sent_then session f g h p q s t t t fresh.events (event ∷ []) (fresh.sent t)
            (subst (λ (u : Tally). Sent session g q t (event ∷ []) h s u) (counted_next g.remote.end (next_length g.remote.end) t step.some)
            (sent_one session g h q s r segment g.remote.end.emitted (next_length g.remote.end) keeps same r_is wrote'
            (emits_at_next g.remote.end r.end segment sound step) (careful_next g.remote.end step.some) t));
        fresh = λ more e k. subst (λ (es : List FarEvent). FreshEvents f.remote.end es e) (sym (append_assoc fresh.events (event ∷ []) more))
            (fresh.fresh (event ∷ more) e
            (step.some, refl, subst (λ (x : Endpoint). FreshEvents x more e) (ap (λ (v : RemoteValue). v.end) h_remote ∙ end_is) k));
        at_turn = ap (λ (v : RemoteValue). v.at_turn) (h_remote ∙ is) ∙ fresh.at_turn;
      }

  -- all of them
  pub freshly_all : (f g : Fields) (p q : Post (Item C)) → Freshly session f p g q → next_length g.remote.end ≡ 0
      → g.remote.end.emitted ≡ reach_of g.remote.end → SentFresh session f p g q
  freshly_all f g p q fresh none all = record {
    events = fresh.events;
    sent = fresh.sent;
    fresh = subst (λ (es : List FarEvent). FreshEvents f.remote.end es g.remote.end) (append-nil fresh.events) (fresh.fresh [] g.remote.end (none, refl));
    at_turn = fresh.at_turn;
    all = all;
  }

  -- ---- the retransmission turn

  again_is : (r : RemoteValue) → r.end.acked ≤ r.at_turn → 0 < again_length r.end → again_events r ≡ Send r.end.acked (again_length r.end) ∷ []
  again_is r late some =
      ap (λ (b : Bool). let es : List FarEvent = if b then [] else
      (if nat_lt 0 (again_length r.end) then Send r.end.acked (again_length r.end) ∷ [] else []) in es) (le-ltb r.at_turn r.end.acked late)
      ∙ ap (λ (b : Bool). let es : List FarEvent = if b then Send r.end.acked (again_length r.end) ∷ [] else [] in es) (lt-ltb 0 (again_length r.end) some)

  none_raised : (r : RemoteValue) → r.at_turn < r.end.acked → again_events r ≡ []
  none_raised r raised = ap (λ (b : Bool). let es : List FarEvent = if b then [] else
      (if nat_lt 0 (again_length r.end) then Send r.end.acked (again_length r.end) ∷ [] else []) in es) (lt-ltb r.at_turn r.end.acked raised)

  again_none : (r : RemoteValue) → (again_length r.end ≡ 0) ⊎ (r.at_turn < r.end.acked) → again_events r ≡ []
  again_none r (inr raised) = none_raised r raised
  again_none r (inl none) = elim (cases_lt r.at_turn r.end.acked) [
    | inl raised ↦ none_raised r raised
    | inr late ↦
        ap (λ (b : Bool). let es : List FarEvent = if b then [] else
        (if nat_lt 0 (again_length r.end) then Send r.end.acked (again_length r.end) ∷ [] else []) in es) (le-ltb r.at_turn r.end.acked late)
        ∙ ap (λ (b : Bool). let es : List FarEvent = if b then Send r.end.acked (again_length r.end) ∷ [] else [] in es)
        (le-ltb 0 (again_length r.end) (omega (arith, none)))
  ]

  pub sent_again : (f g : Fields) (p q : Post (Item C)) (r : RemoteValue) (segment : PlacedSegment) (len : ℕ) → FarSideInvariant f
      → SendingInvariant f.remote.end → f.remote.end.acked ≤ f.remote.at_turn → EmitsAgain f.remote.end segment r.end
      → r ≡ record f.remote { end = r.end; at_turn = f.remote.end.acked } → g ≡ record f { remote = r; homeward = put_in f.homeward f segment }
      → len ≡ again_length f.remote.end → WroteOne p (far_code (Send f.remote.end.acked len)) [] q → SentAgain session f p g q
  sent_again f g p q r segment len keeps sound late step is same size wrote =
      let wrote' : WroteOne p (far_code (Send f.remote.end.acked (again_length f.remote.end))) [] q =
      subst (λ (n : ℕ). WroteOne p (far_code (Send f.remote.end.acked n)) [] q) size wrote in
      let r_is : r ≡ record f.remote { end = r.end; at_turn = r.at_turn } =
      subst (λ (v : RemoteValue). v ≡ record f.remote { end = v.end; at_turn = v.at_turn }) (sym is) refl in
      let out : f.remote.end.acked < f.remote.end.emitted = omega (arith, step.some) in
      let events : again_events f.remote ≡ Send f.remote.end.acked (again_length f.remote.end) ∷ [] = again_is f.remote late step.some in
      record {
        sent = λ t. subst (λ (es : List FarEvent). Sent session f p t es g q (record t { again = t.again + length es })) (sym events)
            (subst (λ (u : Tally). Sent session f p t (Send f.remote.end.acked (again_length f.remote.end) ∷ []) g q u)
            (counted_again f.remote.end (again_length f.remote.end) t step.some out)
            (sent_one session f g p q r segment f.remote.end.acked (again_length f.remote.end) keeps same r_is wrote'
            (emits_at_again f.remote.end r.end segment sound step) (careful_again f.remote.end step.some) t));
        remote = ap (λ (k : Fields). k.remote) same ∙ is
            ∙ ap (λ (e : Endpoint). let v : RemoteValue = record f.remote { end = e; at_turn = f.remote.end.acked } in v) step.stays;
        sound = sound;
      }

  pub sent_again_none : (f g : Fields) (p : Post (Item C)) (r : RemoteValue) → FarSideInvariant f → SendingInvariant f.remote.end
      → (again_length f.remote.end ≡ 0) ⊎ (f.remote.at_turn < f.remote.end.acked) → r ≡ record f.remote { at_turn = f.remote.end.acked }
      → g ≡ record f { remote = r } → SentAgain session f p g p
  sent_again_none f g p r keeps sound why is same =
      let r_is : r ≡ record f.remote { at_turn = r.at_turn } = subst (λ (v : RemoteValue). v ≡ record f.remote { at_turn = v.at_turn }) (sym is) refl in
      record {
        sent = λ t. subst (λ (es : List FarEvent). Sent session f p t es g p (record t { again = t.again + length es })) (sym (again_none f.remote why))
            (subst (λ (n : ℕ). Sent session f p t [] g p (let u : Tally = record t { again = n } in u))
            (let e : t.again ≡ t.again + 0 = omega arith in e) (sent_none session f g p t keeps r same r_is));
        remote = ap (λ (k : Fields). k.remote) same ∙ is;
        sound = sound;
      }

  -- ---- the answer

  pub sent_answer : (f g : Fields) (p q : Post (Item C)) (r : RemoteValue) (segment : PlacedSegment) (len : ℕ) → FarSideInvariant f
      → EmitsAnswer f.remote.end segment r.end → r ≡ record f.remote { end = r.end }
      → g ≡ record f { remote = r; homeward = put_in f.homeward f segment } → len ≡ 0
      → WroteOne p (far_code (Send f.remote.end.emitted len)) [] q → SentAnswer session f p g q
  sent_answer f g p q r segment len keeps step is same size wrote =
      let wrote' : WroteOne p (far_code (Send f.remote.end.emitted 0)) [] q =
      subst (λ (n : ℕ). WroteOne p (far_code (Send f.remote.end.emitted n)) [] q) size wrote in
      let r_is : r ≡ record f.remote { end = r.end; at_turn = r.at_turn } =
      subst (λ (v : RemoteValue). v ≡ record f.remote { end = v.end; at_turn = v.at_turn }) (sym is) refl in
      let events : answer_events f.remote.end ≡ Send f.remote.end.emitted 0 ∷ [] =
      ap (λ (b : Bool). let es : List FarEvent = if b then Send f.remote.end.emitted 0 ∷ [] else [] in es) step.owed in
      record {
        sent = λ t. subst (λ (es : List FarEvent). Sent session f p t es g q (record t { answers = t.answers + length es })) (sym events)
            (sent_one session f g p q r segment f.remote.end.emitted 0 keeps same r_is wrote' (at_answer f.remote.end r.end segment step) step.owed t);
        remote = ap (λ (k : Fields). k.remote) same ∙ is ∙ ap (λ (e : Endpoint). let v : RemoteValue = record f.remote { end = e } in v) step.answer.given;
      }

-- ---- the same for every session

-- what `send` needs after the remote emitted a segment
pub keeps_emitted : (f : Fields) (r : RemoteValue) → FarSideInvariant f → r ≡ record f.remote { end = r.end; at_turn = r.at_turn }
    → FarSideInvariant (let g : Fields = record f { remote = r } in g)
keeps_emitted f r keeps is = keeps_remote f r keeps (ap (λ (v : RemoteValue). v.peering) is)
    (ap (λ (v : RemoteValue). v.send_first) is) (ap (λ (v : RemoteValue). v.receive_first) is)

pub emitted_end : (r v : RemoteValue) → v ≡ record r { end = v.end } → v ≡ record r { end = v.end; at_turn = v.at_turn }
emitted_end r v is = subst (λ (u : RemoteValue). u ≡ record r { end = u.end; at_turn = u.at_turn }) (sym is) refl

pub emitted_turn : (r v : RemoteValue) → v ≡ record r { end = v.end; at_turn = r.end.acked } → v ≡ record r { end = v.end; at_turn = v.at_turn }
emitted_turn r v is = subst (λ (u : RemoteValue). u ≡ record r { end = u.end; at_turn = u.at_turn }) (sym is) refl

-- the offsets of the segment
same_placed : (f : Fields) (r : RemoteValue) (g : Segment) → r ≡ record f.remote { end = r.end; at_turn = r.at_turn }
    → placed r.send_first r.receive_first g ≡ placed f.remote.send_first f.remote.receive_first g
same_placed f r g is = ap (λ (v : RemoteValue). placed v.send_first v.receive_first g) is

put_same : (f : Fields) (r : RemoteValue) (g : Segment) (h : Fields) → r ≡ record f.remote { end = r.end; at_turn = r.at_turn }
    → h ≡ (let k : Fields =
    record f { remote = r; homeward = put_in f.homeward (let l : Fields = record f { remote = r } in l) (placed r.send_first r.receive_first g) } in k)
    → h ≡ (let k : Fields = record f { remote = r; homeward = put_in f.homeward f (placed f.remote.send_first f.remote.receive_first g) } in k)
put_same f r g h is same = same
    ∙ ap (λ (p : PlacedSegment). let k : Fields = record f { remote = r; homeward = put_in f.homeward f p } in k) (same_placed f r g is)

size_is : (e f : Endpoint) (s : PlacedSegment) (from len n : ℕ) → EmitsAt from len e s f → n ≡ length s.bytes → n ≡ len
size_is e f s from len n emits is = is ∙ emits.size

-- a segment that was sent again is one that nothing of was acknowledged since the last turn
some_not_none : (g : Segment) → IsNone (Some g) → ⊥
some_not_none g e = let x : ⊥ = cc in x

pub late_from : (r : RemoteValue) (o : Option Segment) (g : Segment) → o ≡ Some g
    → (IsNone o ↔ ((again_length r.end ≡ 0) ⊎ (r.at_turn < r.end.acked))) → r.end.acked ≤ r.at_turn
late_from r o g is none = elim (cases_lt r.at_turn
    r.end.acked) [ inl raised ↦ absurd (some_not_none g (subst (λ (x : Option Segment). IsNone x) is (none.1 (inr raised)))) | inr late ↦ late ]

module _ {C : Type 0} (f h : Fields) (p q : Post (Item C)) (r : RemoteValue) (keeps : FarSideInvariant f) where
  pub sent_again_each : (g : Segment) → SendingInvariant f.remote.end → f.remote.end.acked ≤ f.remote.at_turn
      → EmitsOf EmitsAgain f.remote (Some g) r.end → r ≡ record f.remote { end = r.end; at_turn = f.remote.end.acked }
      → h ≡ (let k : Fields =
      record f { remote = r; homeward = put_in f.homeward (let l : Fields = record f { remote = r } in l) (placed r.send_first r.receive_first g) } in k)
      → WroteOne p (far_code (Send f.remote.end.acked (length g.bytes))) [] q → ForEach (λ (session : C → SessionValue). SentAgain session f p h q) h
  sent_again_each g sound late emits is same wrote = for_each _ _
      (λ session. sent_again session f h p q r (placed f.remote.send_first f.remote.receive_first g)
      (length g.bytes) keeps sound late emits.1 is (put_same f r g h (emitted_turn f.remote r is) same)
      (size_is f.remote.end r.end (placed f.remote.send_first f.remote.receive_first g) f.remote.end.acked (again_length f.remote.end)
      (length g.bytes) (emits_at_again f.remote.end r.end (placed f.remote.send_first f.remote.receive_first g) sound emits.1) refl) wrote)
      (λ session s. (s.sent (record { again = 0; answers = 0 })).keeps)

  pub sent_again_none_each : SendingInvariant f.remote.end → (again_length f.remote.end ≡ 0) ⊎ (f.remote.at_turn < f.remote.end.acked)
      → r.end ≡ f.remote.end → r ≡ record f.remote { end = r.end; at_turn = f.remote.end.acked } → h ≡ (let k : Fields = record f { remote = r } in k)
      → ForEach (λ (session : C → SessionValue). SentAgain session f p h p) h
  sent_again_none_each sound why stays is same = for_each _ _
      (λ session. sent_again_none session f h p r keeps sound why
      (is ∙ ap (λ (e : Endpoint). let v : RemoteValue = record f.remote { end = e; at_turn = f.remote.end.acked } in v) stays) same)
      (λ session s. (s.sent (record { again = 0; answers = 0 })).keeps)

  pub sent_answer_each : (g : Segment) → EmitsOf EmitsAnswer f.remote (Some g) r.end → r ≡ record f.remote { end = r.end }
      → h ≡ (let k : Fields =
      record f { remote = r; homeward = put_in f.homeward (let l : Fields = record f { remote = r } in l) (placed r.send_first r.receive_first g) } in k)
      → WroteOne p (far_code (Send f.remote.end.emitted (length g.bytes))) [] q → ForEach (λ (session : C → SessionValue). SentAnswer session f p h q) h
  sent_answer_each g emits is same wrote = for_each _ _
      (λ session. sent_answer session f h p q r (placed f.remote.send_first f.remote.receive_first g)
      (length g.bytes) keeps emits.1 is (put_same f r g h (emitted_end f.remote r is) same)
      (size_is f.remote.end r.end (placed f.remote.send_first f.remote.receive_first g) f.remote.end.emitted 0 (length g.bytes)
      (at_answer f.remote.end r.end (placed f.remote.send_first f.remote.receive_first g) emits.1) refl) wrote)
      (λ session s. (s.sent (record { again = 0; answers = 0 })).keeps)

-- so many new slices, for every session
abbrev pub FreshlyEach : {C : Type 0} → Fields → Post (Item C) → Fields → Post (Item C) → Type 0
FreshlyEach {C} f p g q = ForEach (λ (session : C → SessionValue). Freshly session f p g q) g

pub freshly_first : {C : Type 0} (f : Fields) (p : Post (Item C)) → FarSideInvariant f → FreshlyEach f p f p
freshly_first f p keeps = record { keeps = keeps; each = λ session. freshly_none session f p keeps }

pub freshly_next : {C : Type 0} (f g h : Fields) (p q s : Post (Item C)) (r : RemoteValue) (x : Segment) → FreshlyEach f p g q
    → SendingInvariant g.remote.end → EmitsOf EmitsNext g.remote (Some x) r.end → r ≡ record g.remote { end = r.end }
    → h ≡ (let k : Fields =
    record g { remote = r; homeward = put_in g.homeward (let l : Fields = record g { remote = r } in l) (placed r.send_first r.receive_first x) } in k)
    → WroteOne q (far_code (Send g.remote.end.emitted (length x.bytes))) [] s → FreshlyEach f p h s
freshly_next f g h p q s r x fresh sound emits is same wrote = for_each _ _
    (λ session. freshly_more session f g h p q s r (placed g.remote.send_first g.remote.receive_first x) (length x.bytes)
    (fresh.each session) fresh.keeps sound emits.1 is (put_same g r x h (emitted_end g.remote r is) same)
    (size_is g.remote.end r.end (placed g.remote.send_first g.remote.receive_first x) g.remote.end.emitted (next_length g.remote.end)
    (length x.bytes) (emits_at_next g.remote.end r.end (placed g.remote.send_first g.remote.receive_first x) sound emits.1) refl) wrote)
    (λ session k. (k.sent (record { again = 0; answers = 0 })).keeps)

pub freshly_last : {C : Type 0} (f g h : Fields) (p q : Post (Item C)) (r : RemoteValue) → FreshlyEach f p g q → next_length g.remote.end ≡ 0
    → g.remote.end.emitted ≡ reach_of g.remote.end → r.end ≡ g.remote.end → r ≡ record g.remote { end = r.end }
    → h ≡ (let k : Fields = record g { remote = r } in k)
    → ForEach (λ (session : C → SessionValue). SentFresh session f p h q) h
freshly_last f g h p q r fresh none all stays is same =
    let r_is : r ≡ g.remote = is ∙ ap (λ (e : Endpoint). let v : RemoteValue = record g.remote { end = e } in v) stays in
    let h_is : g ≡ h = sym (same ∙ ap (λ (v : RemoteValue). let k : Fields = record g { remote = v } in k) r_is) in
    subst (λ (k : Fields). ForEach (λ session. SentFresh session f p k q) k) h_is
    (record { keeps = fresh.keeps; each = λ session. freshly_all session f g p q (fresh.each session) none all })

-- less is left to emit
less_next : (e f : Endpoint) (p : PlacedSegment) → EmitsNext e p f → length f.stream - f.emitted < length e.stream - e.emitted
less_next e f p step = subst (λ (x : Endpoint). length x.stream - x.emitted < length e.stream - e.emitted) (sym step.rises) (omega (arith, step.some))

pub less_left : (g h : Fields) (r : RemoteValue) (x : Segment) → EmitsOf EmitsNext g.remote (Some x) r.end
    → h ≡ (let k : Fields =
    record g { remote = r; homeward = put_in g.homeward (let l : Fields = record g { remote = r } in l) (placed r.send_first r.receive_first x) } in k)
    → length h.remote.end.stream - h.remote.end.emitted < length g.remote.end.stream - g.remote.end.emitted
less_left g h r x emits same = subst (λ (k : Fields). length k.remote.end.stream - k.remote.end.emitted < length g.remote.end.stream - g.remote.end.emitted)
    (sym same) (less_next g.remote.end r.end _ emits.1)
