-- Rounds of a far side in which one field is false.
use Rattle.std.proofs.Common.{◌≡◌, ◌≢◌, ◌<◌, ◌≤◌, ◌+◌, ℕ, zero, suc, Bool, true, false, List, [], ◌∷◌, ◌++◌, length, Option}
use Rattle.std.proofs.Common.{Some, None, refl, sym, ap, ◌∙◌, subst, inl, inr, ◌⊎◌, lit<, lit≤, arith, unwrap_or}
use Rattle.std.specs.Prelude.{map, filter, slice_get}
use Rattle.std.specs.List.{AllByRecursion}
use Rattle.link_bag.specs.declared.plan.Fault.{Fault}
use Rattle.link_bag.specs.declared.plan.Fate.{Fate}
use Rattle.link_bag.specs.declared.plan.Fate.TheVariants as fate
use Rattle.tcp_seq.specs.Endpoint.{Endpoint, slice_at}
use Rattle.tcp_seq.specs.declared.segment.Way.TheVariants as way
use Rattle.graft_model.specs.Setups.{Setup}
use Rattle.graft_model.specs.Parts.{FarPart, Seg}
use Rattle.graft_model.specs.FarRows.{FarTaken, FarSent, OutwardIn, SendsSegment}
use Rattle.graft_model.specs.declared.event.FarEvent.{FarEvent}
use Rattle.graft_model.specs.declared.event.FarEvent.TheVariants.{Say, Send, Take, Pass, Reach, Lose, Point, Beat}
use Rattle.graft_model.specs.Steps.{far_row}
use Rattle.graft_actors.specs.Emissions.{IsRested}
use Rattle.far_side.specs.Links.{act_of, remote_act, home_events, remote_events, left_in_link, put_now}
use Rattle.far_side.specs.Turns.{FarRetransmits, SendsNew, SendsAnswer, SendsNone, FarGoes}
use Rattle.far_side.specs.declared.link.InLink.{InLink}
use Rattle.real_rounds.specs.Ends as ends
use Rattle.real_rounds.specs.Fars as fars
use Rattle.real_rounds.specs.Fars.{is_take, Links, empty_links, nothing_lies, fates_put, ArePut, PointAt, IsKeepaliveDue, RealFar}
use Rattle.graft_worked.specs.Base.{base}
use Rattle.graft_worked.specs.Places.{idle_far}
use Rattle.graft_worked.specs.Others.{beating}
use Rattle.rounds_worked.specs.Fars.{FarField, Is, Takes, Delivers, Resends, Says, Sends, Replies, Due, Rested, GoesOn, AreTaken, AreSent, Home}
use Rattle.rounds_worked.specs.Fars.{Remote, NoField, RealFarBut, FalseAloneInFar, saying, with_slice_sent, one_put, two_put, one_to_lose}
use Rattle.rounds_worked.specs.Fars.{one_elsewhere, one_never_put, one_to_remote, one_gone, both_octets, one_octet, other_octet, an_answer}
use Rattle.rounds_worked.specs.Fars.{a_delivery, a_segment, with_taken, one_taken, a_take, a_loss, a_point, a_beat}
use Rattle.rounds_worked.proofs.Marks.{heads, tails, not_some, not_empty, apart, less}
use Rattle.rounds_worked.proofs.Routers.{emits_at}

-- ---- all fields, and all but one

pub far_of : (setup : Setup) (faults : List Fault) (p round : ℕ) (start : FarPart) (before : Links) (events : List FarEvent) (end : FarPart) (after : Links)
    → RealFarBut NoField setup faults p round start before events end after → RealFar setup faults p round start before events end after
far_of setup faults p round start before events end after b = record {
  taken = b.taken;
  again = b.again;
  keepalives = b.keepalives;
  fresh = b.fresh;
  answers = b.answers;
  took = b.took;
  sent = b.sent;
  is = b.is (λ e. cc);
  turning = b.turning;
  delivered = b.delivered;
  resent = b.resent;
  said = b.said;
  level = b.level;
  takes = b.takes (λ e. cc);
  delivers = b.delivers (λ e. cc);
  resends = b.resends (λ e. cc);
  says = b.says (λ e. cc);
  sends = b.sends (λ e. cc);
  replies = b.replies (λ e. cc);
  due = b.due (λ e. cc);
  rested = b.rested (λ e. cc);
  few = b.few (λ e. cc);
  goes_on = b.goes_on (λ e. cc);
  are_taken = b.are_taken (λ e. cc);
  are_sent = b.are_sent (λ e. cc);
  home = b.home (λ e. cc);
  remote = b.remote (λ e. cc);
}

pub of_far : (but : FarField) (setup : Setup) (faults : List Fault) (p round : ℕ) (start : FarPart) (before : Links) (events : List FarEvent) (end : FarPart)
    (after : Links)
    → RealFar setup faults p round start before events end after → RealFarBut but setup faults p round start before events end after
of_far but setup faults p round start before events end after h = record {
  taken = h.taken;
  again = h.again;
  keepalives = h.keepalives;
  fresh = h.fresh;
  answers = h.answers;
  took = h.took;
  sent = h.sent;
  is = λ other. h.is;
  turning = h.turning;
  delivered = h.delivered;
  resent = h.resent;
  said = h.said;
  level = h.level;
  takes = λ other. h.takes;
  delivers = λ other. h.delivers;
  resends = λ other. h.resends;
  says = λ other. h.says;
  sends = λ other. h.sends;
  replies = λ other. h.replies;
  due = λ other. h.due;
  rested = λ other. h.rested;
  few = λ other. h.few;
  goes_on = λ other. h.goes_on;
  are_taken = λ other. h.are_taken;
  are_sent = λ other. h.are_sent;
  home = λ other. h.home;
  remote = λ other. h.remote;
}

-- ---- what a round of events may be

goes_nowhere : (setup : Setup) (p : ℕ) (Allowed : FarPart → FarEvent → Type 0) (before after : FarPart) → FarGoes setup p Allowed before [] after
    → after ≡ before
goes_nowhere setup p Allowed before after g = g

-- no take puts nothing into the link to the remote
none_took : (faults : List Fault) (p from : ℕ) (took : List InLink) → ArePut faults p way.Remote from 0 took → took ≡ []
none_took faults p from [] are = refl
none_took faults p from (x ∷ took) are = let e = are.fates in absurd cc

never_due : (round : ℕ) (part : FarPart) → IsKeepaliveDue base 0 round part → ⊥
never_due round part due =
    let none : ◌≡◌ {A = ℕ} 0 due.keepalive_interval = ap (λ o. unwrap_or o 0) due.is in
    let some = due.some in absurd (omega (arith, none, some))

-- the first segment is an old slice, a new one, or an owed answer
abbrev SendsAny : FarPart → FarEvent → Type 0
SendsAny part x = FarRetransmits part x ⊎ (SendsNew part x ⊎ SendsAnswer part x)

no_beat : (round : ℕ) (part : FarPart) (y : FarEvent) (keepalives : List FarEvent) → fars.BeatsIfDue base 0 round part (y ∷ keepalives) → ⊥
no_beat round part y keepalives (inl due) = never_due round part due.0
no_beat round part y keepalives (inr none) = let e : y ∷ keepalives ≡ [] = none.1 in absurd cc

turn_from : (round : ℕ) (x : FarEvent) (start turning delivered resent said level end : FarPart) (xs again keepalives fresh answers : List FarEvent)
    → x ∷ xs ≡ again ++ (keepalives ++ (fresh ++ answers))
    → fars.BeatsIfDue base 0 round turning keepalives → turning ≡ start → delivered ≡ turning → FarGoes base 0 FarRetransmits delivered again resent
    → FarGoes base 0 SendsNone resent keepalives said
    → FarGoes base 0 SendsNew said fresh level → FarGoes base 0 SendsAnswer level answers end → SendsAny start x
turn_from round x start turning delivered resent said level end xs (y ∷ again) keepalives fresh answers e due takes delivers resends says sends replies =
    inl (subst (FarRetransmits start) (sym (heads _ _ _ _ e)) (subst (λ part. FarRetransmits part y) (delivers ∙ takes) resends.4))
turn_from round x start turning delivered resent said level end xs [] (y ∷ keepalives) fresh answers e due takes delivers resends says sends replies = absurd
    (no_beat round turning y keepalives due)
turn_from round x start turning delivered resent said level end xs [] [] (y ∷ fresh) answers e due takes delivers resends says sends replies =
    inr (inl (subst (SendsNew start) (sym (heads _ _ _ _ e)) (subst (λ part. SendsNew part y) (says ∙ (resends ∙ (delivers ∙ takes))) sends.4)))
turn_from round x start turning delivered resent said level end xs [] [] [] (y ∷ answers) e due takes delivers resends says sends replies =
    inr (inr (subst (SendsAnswer start) (sym (heads _ _ _ _ e)) (subst (λ part. SendsAnswer part y) (sends ∙ (says ∙ (resends ∙ (delivers ∙ takes))))
    replies.4)))
turn_from round x start turning delivered resent said level end xs [] [] [] [] e due takes delivers resends says sends replies = absurd cc

first_from : (pointer round from len : ℕ) (start turning delivered resent said level end : FarPart) (xs taken again keepalives fresh answers : List FarEvent)
    (took : List InLink)
    → Send from len ∷ xs ≡ taken ++ (home_events pointer [] ++ (remote_events ([] ++ took) ++ (again ++ (keepalives ++ (fresh ++ answers)))))
    → ArePut [] 0 way.Remote 0 (length (filter is_take taken)) took → fars.BeatsIfDue base 0 round turning keepalives
    → FarGoes base 0 fars.IsFarTake start taken turning → FarGoes base 0 SendsNone turning (home_events pointer [] ++ remote_events ([] ++ took)) delivered
    → FarGoes base 0 FarRetransmits delivered again resent
    → FarGoes base 0 SendsNone resent keepalives said → FarGoes base 0 SendsNew said fresh level → FarGoes base 0 SendsAnswer level answers end
    → SendsAny start (Send from len)
first_from pointer round from len start turning delivered resent said level end xs (y ∷ taken) again keepalives fresh answers took e are due takes delivers
    resends says sends replies =
    absurd (subst (fars.IsFarTake start) (sym (heads _ _ _ _ e)) takes.4)
first_from pointer round from len start turning delivered resent said level end xs [] again keepalives fresh answers (y ∷ took) e are due takes delivers resends
    says sends replies =
    absurd (not_empty y took (none_took [] 0 0 (y ∷ took) are))
first_from pointer round from len start turning delivered resent said level end xs [] again keepalives fresh answers [] e are due takes delivers resends says
    sends replies =
    turn_from round (Send from len) start turning delivered resent said level end xs again keepalives fresh answers
    e due takes delivers resends says sends replies

first_is : (round from len : ℕ) (start end : FarPart) (xs : List FarEvent) (after : Links)
    → RealFar base [] 0 round start empty_links (Send from len ∷ xs) end after → SendsAny start (Send from len)
first_is round from len start end xs after h = first_from end.pointer round from len start h.turning h.delivered h.resent h.said h.level end xs h.taken
    h.again h.keepalives h.fresh h.answers h.took
    h.is h.are_taken h.due h.takes h.delivers h.resends h.says h.sends h.replies

-- where nothing happens, nothing is taken or sent again, and the remote says nothing by its timer
nothing_from : (setup : Setup) (pointer : ℕ) (start turning : FarPart) (taken again keepalives fresh answers : List FarEvent) (took : List InLink)
    → [] ≡ taken ++ (home_events pointer [] ++ (remote_events ([] ++ took) ++ (again ++ (keepalives ++ (fresh ++ answers)))))
    → ArePut [] 0 way.Remote 0 (length (filter is_take taken)) took → FarGoes setup 0 fars.IsFarTake start taken turning → (took ≡ []) × (again ≡ [])
    × (keepalives ≡ []) × (turning ≡ start)
nothing_from setup pointer start turning (y ∷ taken) again keepalives fresh answers took e are takes = absurd cc
nothing_from setup pointer start turning [] again keepalives fresh answers (y ∷ took) e are takes = absurd (not_empty y took (none_took [] 0 0 (y ∷ took) are))
nothing_from setup pointer start turning [] (y ∷ again) keepalives fresh answers [] e are takes = absurd cc
nothing_from setup pointer start turning [] [] (y ∷ keepalives) fresh answers [] e are takes = absurd cc
nothing_from setup pointer start turning [] [] [] fresh answers [] e are takes = (refl, refl, refl, takes)

nothing_is : (setup : Setup) (round : ℕ) (start end : FarPart) (after : Links) (h : RealFar setup [] 0 round start empty_links [] end after)
    → (h.took ≡ []) × (h.again ≡ []) × (h.keepalives ≡ []) × (h.turning ≡ start)
nothing_is setup round start end after h = nothing_from setup end.pointer start h.turning h.taken h.again h.keepalives h.fresh h.answers h.took h.is h.are_taken
    h.takes

-- what lies in the link to home at the end, where nothing lay there at the start
home_is : (round : ℕ) (start end : FarPart) (events : List FarEvent) (after : Links) (h : RealFar base [] 0 round start empty_links events end after)
    → after.home.plans ≡ h.sent
home_is round start end events after h = ap (λ l. l.plans) h.home

fates_are : (round : ℕ) (start end : FarPart) (events : List FarEvent) (after : Links) → RealFar base [] 0 round start empty_links events end after
    → map (λ x. (x.fate, x.turns)) after.home.plans ≡ fates_put [] 0 way.Home 0 after.home.put
fates_are round start end events after h =
    let put : after.home.put ≡ 0 + (length h.again + (length h.fresh + length h.answers)) = ap (λ l. l.put) h.home in
    ap (map (λ x. (x.fate, x.turns))) (home_is round start end events after h) ∙ (h.are_sent.0.fates ∙ ap (fates_put [] 0 way.Home 0) (omega (arith, put)))

-- ---- rounds

-- a round without takes in which the timer has the remote say nothing, with links that were empty
plain : (but : FarField) (setup : Setup) (round : ℕ) (start : FarPart) (events : List FarEvent) (end : FarPart) (after : Links) (resent level : FarPart)
    (again fresh answers : List FarEvent) (sent : List InLink)
    → (but ≢ Is → events ≡ again ++ (fresh ++ answers)) → (but ≢ Due → fars.BeatsIfDue setup 0 round start []) → (but ≢ Resends
    → FarGoes setup 0 FarRetransmits start again resent)
    → (but ≢ Sends → FarGoes setup 0 SendsNew resent fresh level) → (but ≢ Replies → FarGoes setup 0 SendsAnswer level answers end)
    → (but ≢ Rested → IsRested end.end) → length again ≤ 1 → (but ≢ GoesOn → ends.AcksOrResends start.end end.end (length again))
    → (but ≢ AreSent → ArePut [] 0 way.Home 0 (length again + (length fresh + length answers)) sent × PointAt end.pointer sent)
    → (but ≢ Home → after.home ≡ record { plans = sent; put = 0 + (length again + (length fresh + length answers)) }) → (but ≢ Remote
    → after.remote ≡ nothing_lies)
    → RealFarBut but setup [] 0 round start empty_links events end after
plain but setup round start events end after resent level again fresh answers sent is due resends sends replies rested few goes_on are_sent home remote =
    record {
      taken = [];
      again = again;
      keepalives = [];
      fresh = fresh;
      answers = answers;
      took = [];
      sent = sent;
      is = is;
      turning = start;
      delivered = start;
      resent = resent;
      said = resent;
      level = level;
      takes = λ other. refl;
      delivers = λ other. refl;
      resends = resends;
      says = λ other. refl;
      sends = sends;
      replies = replies;
      due = due;
      rested = rested;
      few = λ other. few;
      goes_on = goes_on;
      are_taken = λ other. record { fates = refl };
      are_sent = are_sent;
      home = home;
      remote = remote;
    }

not_due : (round : ℕ) (part : FarPart) → fars.BeatsIfDue base 0 round part []
not_due round part = inr (never_due round part, refl)

none_out : (again : ℕ) → ends.AcksOrResends idle_far.end idle_far.end again
none_out again out = absurd (less 0 1 (lit< tt) out)

-- nothing happens at a far side that has nothing to do, but for what is left out
idle : (but : FarField) (events : List FarEvent) (after : Links) (sent : List InLink) → (but ≢ Is → events ≡ []) → (but ≢ AreSent
    → ArePut [] 0 way.Home 0 0 sent × PointAt 0 sent)
    → (but ≢ Home → after.home ≡ record { plans = sent; put = 0 }) → (but ≢ Remote → after.remote ≡ nothing_lies)
    → RealFarBut but base [] 0 1 idle_far empty_links events idle_far after
idle but events after sent is are_sent home remote = plain but base 1 idle_far events idle_far after idle_far idle_far [] [] [] sent is
    (λ other. not_due 1 idle_far) (λ other. refl) (λ other. refl) (λ other. refl)
    (λ other. record { emitted = refl; answered = refl }) (lit≤ tt) (λ other. none_out 0) are_sent home remote

pub idle_far_is_real : RealFar base [] 0 1 idle_far empty_links [] idle_far empty_links
idle_far_is_real = far_of base [] 0 1 idle_far empty_links [] idle_far empty_links
    (idle NoField [] empty_links [] (λ other. refl) (λ other. (record { fates = refl }, tt)) (λ other. refl) (λ other. refl))

nothing_to_send : SendsAny idle_far one_octet → ⊥
nothing_to_send (inl old) = less 0 1 (lit< tt) old.out
nothing_to_send (inr (inl (new))) = elim new.all [
  | inl full ↦ apart 1 1024 (lit< tt) full
  | inr end ↦ apart 0 1 (lit< tt) (sym end)
]
nothing_to_send (inr (inr answer)) = answer

pub another_event : FalseAloneInFar Is base 1 idle_far empty_links (one_octet ∷ []) idle_far empty_links
another_event = (
  idle Is (one_octet ∷ []) empty_links [] (λ other. absurd (other refl)) (λ other. (record { fates = refl }, tt)) (λ other. refl) (λ other. refl),
  λ h. nothing_to_send (first_is 1 0 1 idle_far idle_far [] empty_links h),
)

-- ---- what lies in a link at the end

-- a segment is to be lost that no fault names
lose_or_pass : ◌≡◌ {A = List (Fate × ℕ)} ((fate.Lose, 0) ∷ []) ((fate.Pass, 0) ∷ []) → ⊥
lose_or_pass e = let apart : ◌≡◌ {A = Fate} fate.Lose fate.Pass = ap (λ (x : Fate × ℕ). x.0) (heads _ _ _ _ e) in absurd cc

some_or_none : (x : InLink) → x ∷ [] ≡ [] → ⊥
some_or_none x e = cc

one_or_none : (x : Fate × ℕ) → x ∷ [] ≡ [] → ⊥
one_or_none x e = cc

sends_both : FarGoes base 0 SendsNew (saying 0) (both_octets ∷ []) (with_slice_sent (saying 0) 0 2)
sends_both = (
  None,
  [],
  _,
  record {
    segment = slice_at (saying 0).end 0 2;
    end = (saying 2).end;
    emits = emits_at (saying 0).end 0 2 (lit≤ tt) (lit≤ tt) (lit< tt) (lit≤ tt) (lit≤ tt)
        (lit≤ tt) refl;
    takes = refl;
    sends = refl;
    effect = refl;
  },
  record { next = refl; all = inr refl },
  refl,
)

-- both octets are sent
sending : (but : FarField) (after : Links) (sent : List InLink) → (but ≢ AreSent → ArePut [] 0 way.Home 0 1 sent × PointAt 0 sent)
    → after.home ≡ record { plans = sent; put = 1 } → after.remote ≡ nothing_lies
    → RealFarBut but base [] 0 1 (saying 0) empty_links (both_octets ∷ []) (with_slice_sent (saying 0) 0 2) after
sending but after sent are_sent home remote = plain but base 1 (saying 0) (both_octets ∷ []) (with_slice_sent (saying 0) 0 2) after (saying 0)
    (with_slice_sent (saying 0) 0 2) [] (both_octets ∷ []) [] sent (λ other. refl)
    (λ other. not_due 1 (saying 0)) (λ other. refl) (λ other. sends_both) (λ other. refl) (λ other. record { emitted = refl; answered = refl })
    (lit≤ tt)
    (λ other out. absurd (less 0 1 (lit< tt) out)) are_sent (λ other. home) (λ other. remote)

pub sends_new : RealFar base [] 0 1 (saying 0) empty_links (both_octets ∷ []) (with_slice_sent (saying 0) 0 2) one_put
sends_new = far_of base [] 0 1 (saying 0) empty_links (both_octets ∷ []) (with_slice_sent (saying 0) 0 2) one_put
    (sending NoField one_put (put_now fate.Pass 0 ∷ []) (λ other. (record { fates = refl }, (refl, tt))) refl refl)

pub loss_unplanned : FalseAloneInFar AreSent base 1 (saying 0) empty_links (both_octets ∷ []) (with_slice_sent (saying 0) 0 2) one_to_lose
loss_unplanned = (
  sending AreSent one_to_lose (put_now fate.Lose 0 ∷ []) (λ other. absurd (other refl)) refl refl,
  λ h. lose_or_pass
      (fates_are 1 _ _ _ one_to_lose h),
)

pub points_elsewhere : FalseAloneInFar AreSent base 1 (saying 0) empty_links (both_octets ∷ []) (with_slice_sent (saying 0) 0 2) one_elsewhere
points_elsewhere = (
  sending AreSent one_elsewhere (put_now fate.Pass 1 ∷ []) (λ other. absurd (other refl)) refl refl,
  λ h. apart 0 1 (lit< tt) (sym (subst (PointAt 0) (sym (home_is 1 _ _ _ one_elsewhere h)) h.are_sent.1).0),
)

pub never_put : FalseAloneInFar Home base 1 idle_far empty_links [] idle_far one_never_put
never_put = (
  idle Home [] one_never_put [] (λ other. refl) (λ other. (record { fates = refl }, tt)) (λ other. absurd (other refl)) (λ other. refl),
  λ h. one_or_none _ (fates_are 1 _ _ _ one_never_put h),
)

lies_in_remote : RealFar base [] 0 1 idle_far empty_links [] idle_far one_to_remote → ⊥
lies_in_remote h =
    let plans : (put_now fate.Pass 0 ∷ []) ≡ left_in_link ([] ++ h.took) = ap (λ l. l.plans) h.remote in
    some_or_none _ (plans ∙ ap left_in_link (nothing_is base 1 idle_far idle_far one_to_remote h).0)

pub never_taken : FalseAloneInFar Remote base 1 idle_far empty_links [] idle_far one_to_remote
never_taken = (
  idle Remote [] one_to_remote [] (λ other. refl) (λ other. (record { fates = refl }, tt)) (λ other. refl) (λ other. absurd (other refl)),
  lies_in_remote,
)

-- ---- what is left to send

nothing_put : ArePut [] 0 way.Home 0 0 [] × PointAt 0 []
nothing_put = (record { fates = refl }, tt)

pub left_unsent : FalseAloneInFar Rested base 1 (saying 0) empty_links [] (saying 0) empty_links
left_unsent = (
  plain Rested base 1 (saying 0) [] (saying 0) empty_links (saying 0) (saying 0) [] [] [] [] (λ other. refl) (λ other. not_due 1 (saying 0)) (λ other. refl)
      (λ other. refl) (λ other. refl)
      (λ other. absurd (other refl)) (lit≤ tt) (λ other out. absurd (less 0 1 (lit< tt) out)) (λ other. nothing_put) (λ other. refl) (λ other. refl),
  λ h. apart 0 2 (lit< tt) h.rested.emitted,
)

nothing_sent : RealFar base [] 0 1 (saying 2) empty_links [] (saying 2) empty_links → ⊥
nothing_sent h = elim (h.goes_on (lit< tt)) [
  | inl more ↦ less 0 1 (lit< tt) more
  | inr again ↦ apart 0 1 (lit< tt) (sym (ap length (nothing_is base 1 (saying 2) (saying 2) empty_links h).1) ∙ again)
]

saying_rested : IsRested (saying 2).end
saying_rested = record { emitted = refl; answered = refl }

pub not_sent_again : FalseAloneInFar GoesOn base 1 (saying 2) empty_links [] (saying 2) empty_links
not_sent_again = (
  plain GoesOn base 1 (saying 2) [] (saying 2) empty_links (saying 2) (saying 2) [] [] [] [] (λ other. refl) (λ other. not_due 1 (saying 2)) (λ other. refl)
      (λ other. refl) (λ other. refl)
      (λ other. saying_rested) (lit≤ tt) (λ other. absurd (other refl)) (λ other. nothing_put) (λ other. refl) (λ other. refl),
  nothing_sent,
)

-- ---- the timer

is_due : IsKeepaliveDue beating 0 30 idle_far
is_due = record { keepalive_interval = 30; is = refl; some = lit< tt; multiple = refl; later = lit< tt; few = lit< tt; fits = lit≤ tt }

nothing_said : fars.BeatsIfDue beating 0 30 idle_far [] → ⊥
nothing_said (inl due) = let e = due.1 in absurd cc
nothing_said (inr none) = none.0 is_due

no_keepalive : RealFar beating [] 0 30 idle_far empty_links [] idle_far empty_links → ⊥
no_keepalive h =
    let n = nothing_is beating 30 idle_far idle_far empty_links h in
    nothing_said (subst (fars.BeatsIfDue beating 0 30 idle_far) n.2 (subst (λ part. fars.BeatsIfDue beating 0 30 part h.keepalives) n.3 h.due))

pub keepalive_unsaid : FalseAloneInFar Due beating 30 idle_far empty_links [] idle_far empty_links
keepalive_unsaid = (
  plain Due beating 30 idle_far [] idle_far empty_links idle_far idle_far [] [] [] [] (λ other. refl) (λ other. absurd (other refl)) (λ other. refl)
      (λ other. refl) (λ other. refl)
      (λ other. record { emitted = refl; answered = refl }) (lit≤ tt) (λ other. none_out 0) (λ other. nothing_put) (λ other. refl) (λ other. refl),
  no_keepalive,
)

-- ---- segments that may not be sent at their stage

-- the first octet where both are outstanding: an old slice has both
no_first_alone : SendsAny (saying 2) one_octet → ⊥
no_first_alone (inl old) = apart 1 2 (lit< tt) old.all
no_first_alone (inr (inl new)) = apart 0 2 (lit< tt) new.next
no_first_alone (inr (inr answer)) = answer

one_segment_put : ArePut [] 0 way.Home 0 1 (put_now fate.Pass 0 ∷ []) × PointAt 0 (put_now fate.Pass 0 ∷ [])
one_segment_put = (record { fates = refl }, (refl, tt))

pub short_again : FalseAloneInFar Resends base 1 (saying 2) empty_links (one_octet ∷ []) (with_slice_sent (saying 2) 0 1) one_put
short_again = (
  plain Resends base 1 (saying 2) (one_octet ∷ []) (with_slice_sent (saying 2) 0 1) one_put
      (with_slice_sent (saying 2) 0 1) (with_slice_sent (saying 2) 0 1) (one_octet ∷ []) [] []
      (put_now fate.Pass 0 ∷ [])
      (λ other. refl) (λ other. not_due 1 (saying 2)) (λ other. absurd (other refl)) (λ other. refl) (λ other. refl)
      (λ other. record { emitted = refl; answered = refl }) (lit≤ tt)
      (λ other out. inr refl) (λ other. one_segment_put) (λ other. refl) (λ other. refl),
  λ h. no_first_alone (first_is 1 0 1 (saying 2) (with_slice_sent (saying 2) 0 1) [] one_put h),
)

-- the same where none is outstanding: a new slice has both
no_octet_alone : SendsAny (saying 0) one_octet → ⊥
no_octet_alone (inl old) = less 0 1 (lit< tt) old.out
no_octet_alone (inr (inl new)) = elim new.all [
  | inl full ↦ apart 1 1024 (lit< tt) full
  | inr end ↦ apart 1 2 (lit< tt) end
]
no_octet_alone (inr (inr answer)) = answer

pub short_slices : FalseAloneInFar Sends base 1 (saying 0) empty_links
    (one_octet ∷ other_octet ∷ []) (with_slice_sent (with_slice_sent (saying 0) 0 1) 1 1) two_put
short_slices = (
  plain Sends base 1 (saying 0) (one_octet ∷ other_octet ∷ []) (with_slice_sent (with_slice_sent (saying 0) 0 1) 1 1) two_put
      (saying 0) (with_slice_sent (with_slice_sent (saying 0) 0 1) 1 1)
      [] (one_octet ∷ other_octet ∷ []) [] (put_now fate.Pass 0 ∷ put_now fate.Pass 0 ∷ []) (λ other. refl) (λ other. not_due 1 (saying 0)) (λ other. refl)
      (λ other. absurd (other refl)) (λ other. refl)
      (λ other. record { emitted = refl; answered = refl }) (lit≤ tt) (λ other out. absurd (less 0 1 (lit< tt) out))
      (λ other. (record { fates = refl }, (refl, (refl, tt)))) (λ other. refl) (λ other. refl),
  λ h. no_octet_alone (first_is 1 0 1 (saying 0) (with_slice_sent (with_slice_sent (saying 0) 0 1) 1 1) (other_octet ∷ []) two_put h),
)

-- no answer is owed
no_answer : SendsAny idle_far an_answer → ⊥
no_answer (inl old) = less 0 1 (lit< tt) old.out
no_answer (inr (inl new)) = new
no_answer (inr (inr answer)) = let owed : ◌≡◌ {A = Bool} false true = answer in absurd cc

pub answer_unowed : FalseAloneInFar Replies base 1 idle_far empty_links (an_answer ∷ []) (with_slice_sent idle_far 0 0) one_put
answer_unowed = (
  plain Replies base 1 idle_far (an_answer ∷ []) (with_slice_sent idle_far 0 0) one_put idle_far idle_far [] [] (an_answer ∷ []) (put_now fate.Pass 0 ∷ [])
      (λ other. refl) (λ other. not_due 1 idle_far) (λ other. refl) (λ other. refl) (λ other. absurd (other refl))
      (λ other. record { emitted = refl; answered = refl }) (lit≤ tt)
      (λ other. none_out 0) (λ other. one_segment_put) (λ other. refl) (λ other. refl),
  λ h. no_answer (first_is 1 0 0 idle_far (with_slice_sent idle_far 0 0) [] one_put h),
)

-- ---- what is delivered

-- of the link to home, which holds nothing, nothing is delivered
delivers_from : (start turning delivered : FarPart) (taken rest more : List FarEvent) → start.homeward ≡ [] → a_delivery ∷ [] ≡ taken ++ (a_delivery ∷ rest)
    → FarGoes base 0 fars.IsFarTake start taken turning → FarGoes base 0 SendsNone turning (a_delivery ∷ more) delivered → ⊥
delivers_from start turning delivered [] rest more empty e takes delivers =
    not_some _ (sym (ap (λ (part : FarPart). slice_get part.homeward 0) takes ∙ ap (λ l. slice_get l 0) empty) ∙ delivers.3.there)
delivers_from start turning delivered (y ∷ taken) rest more empty e takes delivers = subst (fars.IsFarTake start) (sym (heads _ _ _ _ e)) takes.4

pub delivers_nothing : FalseAloneInFar Delivers base 1 idle_far one_put (a_delivery ∷ []) idle_far one_gone
delivers_nothing = (
  record {
    taken = [];
    again = [];
    keepalives = [];
    fresh = [];
    answers = [];
    took = [];
    sent = [];
    is = λ other. refl;
    turning = idle_far;
    delivered = idle_far;
    resent = idle_far;
    said = idle_far;
    level = idle_far;
    takes = λ other. refl;
    delivers = λ other. absurd (other refl);
    resends = λ other. refl;
    says = λ other. refl;
    sends = λ other. refl;
    replies = λ other. refl;
    due = λ other. not_due 1 idle_far;
    rested = λ other. record { emitted = refl; answered = refl };
    few = λ other. lit≤ tt;
    goes_on = λ other. none_out 0;
    are_taken = λ other. record { fates = refl };
    are_sent = λ other. (record { fates = refl }, tt);
    home = λ other. refl;
    remote = λ other. refl;
  },
  λ h. delivers_from idle_far h.turning h.delivered h.taken _ _ refl h.is h.takes h.delivers,
)

-- ---- what is taken

-- an event that takes a segment isn't one of the turn
not_of_turn : SendsAny idle_far a_take → ⊥
not_of_turn (inl old) = old
not_of_turn (inr (inl new)) = new
not_of_turn (inr (inr answer)) = answer

loss_or_reach : a_loss ≡ Reach 0 false → ⊥
loss_or_reach e = cc

-- the one segment passes, by a plan without faults
passes_one : (took : List InLink) (rest : List FarEvent) → ArePut [] 0 way.Remote 0 1 took → a_loss ∷ [] ≡ remote_events ([] ++ took) ++ rest → ⊥
passes_one [] rest are e = let none = are.fates in absurd cc
passes_one (x ∷ []) rest are e = loss_or_reach (heads _ _ _ _ (e ∙ ap (λ (t : Fate
    × ℕ). (remote_act 0 (act_of t.0 t.1) ++ []) ++ rest) (heads _ _ _ _ are.fates)))
passes_one (x ∷ y ∷ took) rest are e = let none = tails _ _ _ _ are.fates in absurd cc

lost_from : (pointer : ℕ) (turning delivered resent said level end : FarPart) (taken again keepalives fresh answers : List FarEvent) (took : List InLink)
    → a_take ∷ a_loss ∷ [] ≡ taken ++ (home_events pointer [] ++ (remote_events ([] ++ took) ++ (again ++ (keepalives ++ (fresh ++ answers)))))
    → ArePut [] 0 way.Remote 0 (length (filter is_take taken)) took → fars.BeatsIfDue base 0 1 turning keepalives
    → FarGoes base 0 fars.IsFarTake idle_far taken turning → FarGoes base 0 SendsNone turning (home_events pointer [] ++ remote_events ([] ++ took)) delivered
    → FarGoes base 0 FarRetransmits delivered again resent
    → FarGoes base 0 SendsNone resent keepalives said → FarGoes base 0 SendsNew said fresh level → FarGoes base 0 SendsAnswer level answers end → ⊥
lost_from pointer turning delivered resent said level end [] again keepalives fresh answers (y ∷ took) e are due takes delivers resends says sends replies =
    not_empty y took (none_took [] 0 0 (y ∷ took) are)
lost_from pointer turning delivered resent said level end [] again keepalives fresh answers [] e are due takes delivers resends says sends replies =
    not_of_turn (turn_from 1 a_take idle_far turning delivered resent said level end (a_loss ∷ []) again keepalives fresh answers e due takes delivers resends
    says sends replies)
lost_from pointer turning delivered resent said level end (y ∷ []) again keepalives fresh answers took e are due takes delivers resends says sends replies =
    passes_one took _ (subst (λ x. ArePut [] 0 way.Remote 0 (length (filter is_take (x ∷ []))) took) (sym (heads _ _ _ _ e)) are) (tails _ _ _ _ e)
lost_from pointer turning delivered resent said level end
    (y ∷ z ∷ taken) again keepalives fresh answers took e are due takes delivers resends says sends replies =
    subst (fars.IsFarTake takes.2) (sym (heads _ _ _ _ (tails _ _ _ _ e))) takes.5.4

lost_unplanned : RealFar base [] 0 1 idle_far empty_links (a_take ∷ a_loss ∷ []) idle_far one_taken → ⊥
lost_unplanned h =
    lost_from 0 h.turning h.delivered h.resent h.said h.level idle_far h.taken h.again h.keepalives h.fresh h.answers h.took h.is h.are_taken h.due
    h.takes h.delivers h.resends h.says h.sends h.replies

takes_one : FarGoes base 0 fars.IsFarTake idle_far (a_take ∷ []) with_taken
takes_one = (Some (OutwardIn 0 (Seg a_segment)), [], with_taken, record { segment = a_segment; takes = refl; sends = refl; effect = refl }, tt, refl)

loses_one : FarGoes base 0 SendsNone with_taken (a_loss ∷ []) idle_far
loses_one = (None, [], idle_far, record { there = lit< tt; takes = refl; sends = refl; effect = refl }, tt, refl)

pub lost_by_no_fault : FalseAloneInFar AreTaken base 1 idle_far empty_links (a_take ∷ a_loss ∷ []) idle_far one_taken
lost_by_no_fault = (
  record {
    taken = a_take ∷ [];
    again = [];
    keepalives = [];
    fresh = [];
    answers = [];
    took = put_now fate.Lose 0 ∷ [];
    sent = [];
    is = λ other. refl;
    turning = with_taken;
    delivered = idle_far;
    resent = idle_far;
    said = idle_far;
    level = idle_far;
    takes = λ other. takes_one;
    delivers = λ other. loses_one;
    resends = λ other. refl;
    says = λ other. refl;
    sends = λ other. refl;
    replies = λ other. refl;
    due = λ other. not_due 1 with_taken;
    rested = λ other. record { emitted = refl; answered = refl };
    few = λ other. lit≤ tt;
    goes_on = λ other. none_out 0;
    are_taken = λ other. absurd (other refl);
    are_sent = λ other. nothing_put;
    home = λ other. refl;
    remote = λ other. refl;
  },
  lost_unplanned,
)

-- ---- an event of the turn among the takes

none_is : (x : FarEvent) (Allowed : FarPart → FarEvent → Type 0) → ((part : FarPart) → Allowed part x → ⊥)
    → (before after : FarPart) (events : List FarEvent) → FarGoes base 0 Allowed before events after
    → AllByRecursion (λ y. y ≢ x) events
none_is x Allowed never before after [] g = tt
none_is x Allowed never before after (y ∷ events) g = ((λ e. never before (subst (Allowed before) e g.4)), none_is x Allowed never g.2 after events g.5)

both : (xs ys : List FarEvent) → AllByRecursion (λ y. y ≢ a_point) xs → AllByRecursion (λ y. y ≢ a_point) ys → AllByRecursion (λ y. y ≢ a_point) (xs ++ ys)
both [] ys of_xs of_ys = of_ys
both (x ∷ xs) ys of_xs of_ys = (of_xs.0, both xs ys of_xs.1 of_ys)

-- no event of a turn is one that the operator or a router has a far side make
turn_without : (turning delivered resent said level end : FarPart) (again keepalives fresh answers events : List FarEvent)
    → events ≡ again ++ (keepalives ++ (fresh ++ answers)) → fars.BeatsIfDue base 0 1 turning keepalives
    → FarGoes base 0 FarRetransmits delivered again resent → FarGoes base 0 SendsNew said fresh level → FarGoes base 0 SendsAnswer level answers end
    → AllByRecursion (λ y. y ≢ a_point) events
turn_without turning delivered resent said level end again (y ∷ keepalives) fresh answers events e due resends sends replies =
    absurd (no_beat 1 turning y keepalives due)
turn_without turning delivered resent said level end again [] fresh answers events e due resends sends replies = subst (AllByRecursion (λ y. y ≢ a_point))
    (sym e)
    (both again (fresh ++ answers) (none_is a_point FarRetransmits (λ part x. x) delivered resent again resends)
    (both fresh answers (none_is a_point SendsNew (λ part x. x) said level fresh sends) (none_is a_point SendsAnswer (λ part x. x) level end answers replies)))

point_from : (pointer : ℕ) (turning delivered resent said level last : FarPart) (taken again keepalives fresh answers : List FarEvent) (took : List InLink)
    → both_octets ∷ a_point ∷ [] ≡ taken ++ (home_events pointer [] ++ (remote_events ([] ++ took) ++ (again ++ (keepalives ++ (fresh ++ answers)))))
    → ArePut [] 0 way.Remote 0 (length (filter is_take taken)) took → fars.BeatsIfDue base 0 1 turning keepalives
    → FarGoes base 0 fars.IsFarTake (saying 0) taken turning → FarGoes base 0 FarRetransmits delivered again resent → FarGoes base 0 SendsNew said fresh level
    → FarGoes base 0 SendsAnswer level answers last → ⊥
point_from pointer turning delivered resent said level last (y ∷ taken) again keepalives fresh answers took e are due takes resends sends replies = subst
    (fars.IsFarTake (saying 0)) (sym (heads _ _ _ _ e)) takes.4
point_from pointer turning delivered resent said level last [] again keepalives fresh answers (y ∷ took) e are due takes resends sends replies =
    not_empty y took
    (none_took [] 0 0 (y ∷ took) are)
point_from pointer turning delivered resent said level last [] again keepalives fresh answers [] e are due takes resends sends replies =
    (turn_without turning delivered resent said level last again keepalives fresh answers (both_octets ∷ a_point ∷ []) e due resends sends replies).1.0 refl

-- both octets are sent, and put into no link
pub sent_among_takes : FalseAloneInFar Takes base 1 (saying 0) empty_links (both_octets ∷ a_point ∷ []) (saying 2) empty_links
sent_among_takes = (
  record {
    taken = both_octets ∷ a_point ∷ [];
    again = [];
    keepalives = [];
    fresh = [];
    answers = [];
    took = [];
    sent = [];
    is = λ other. refl;
    turning = saying 2;
    delivered = saying 2;
    resent = saying 2;
    said = saying 2;
    level = saying 2;
    takes = λ other. absurd (other refl);
    delivers = λ other. refl;
    resends = λ other. refl;
    says = λ other. refl;
    sends = λ other. refl;
    replies = λ other. refl;
    due = λ other. not_due 1 (saying 2);
    rested = λ other. saying_rested;
    few = λ other. lit≤ tt;
    goes_on = λ other out. absurd (less 0 1 (lit< tt) out);
    are_taken = λ other. record { fates = refl };
    are_sent = λ other. nothing_put;
    home = λ other. refl;
    remote = λ other. refl;
  },
  λ h. point_from 0 h.turning h.delivered h.resent h.said h.level
      (saying 2) h.taken h.again h.keepalives h.fresh h.answers h.took h.is h.are_taken h.due h.takes
      h.resends h.sends h.replies,
)

-- ---- a KEEPALIVE that isn't said

no_less : (n : ℕ) → 0 ≡ n + 1 → ⊥
no_less n e = absurd (omega (arith, e))

no_events : (y : FarEvent) (events : List FarEvent) → [] ≡ y ∷ events → ⊥
no_events y events e = cc

said_from : (pointer : ℕ) (turning delivered resent said level : FarPart) (taken again keepalives fresh answers : List FarEvent) (took : List InLink)
    → a_beat ∷ [] ≡ taken ++ (home_events pointer [] ++ (remote_events ([] ++ took) ++ (again ++ (keepalives ++ (fresh ++ answers)))))
    → ArePut [] 0 way.Remote 0 (length (filter is_take taken)) took → FarGoes beating 0 fars.IsFarTake idle_far taken turning
    → FarGoes beating 0 FarRetransmits delivered again resent
    → FarGoes beating 0 SendsNone resent keepalives said → FarGoes beating 0 SendsNew said fresh level
    → FarGoes beating 0 SendsAnswer level answers idle_far → ⊥
said_from pointer turning delivered resent said level (y ∷ taken) again keepalives fresh answers took e are takes resends says sends replies = subst
    (fars.IsFarTake idle_far) (sym (heads _ _ _ _ e)) takes.4
said_from pointer turning delivered resent said level [] again keepalives fresh answers (y ∷ took) e are takes resends says sends replies = not_empty y took
    (none_took [] 0 0 (y ∷ took) are)
said_from pointer turning delivered resent said level [] (y ∷ again) keepalives fresh answers [] e are takes resends says sends replies = subst
    (FarRetransmits delivered) (sym (heads _ _ _ _ e)) resends.4
said_from pointer turning delivered resent said level [] [] (y ∷ z ∷ keepalives) fresh answers [] e are takes resends says sends replies = no_events z
    (keepalives ++ (fresh ++ answers)) (tails _ _ _ _ e)
said_from pointer turning delivered resent said level [] [] (y ∷ []) (z ∷ fresh) answers [] e are takes resends says sends replies = no_events z
    (fresh ++ answers) (tails _ _ _ _ e)
said_from pointer turning delivered resent said level [] [] (y ∷ []) [] (z ∷ answers) [] e are takes resends says sends replies = no_events z answers
    (tails _ _ _ _ e)
said_from pointer turning delivered resent said level [] [] (y ∷ []) [] [] [] e are takes resends says sends replies =
    let row = subst (λ x. far_row beating 0 x resent says.0 says.1 says.2) (sym (heads _ _ _ _ e)) says.3 in
    no_less resent.keepalives (ap (λ (part : FarPart). part.keepalives) (replies ∙ (sends ∙ (says.5 ∙ row.effect))))
said_from pointer turning delivered resent said level [] [] [] (y ∷ fresh) answers [] e are takes resends says sends replies = subst (SendsNew said)
    (sym (heads _ _ _ _ e)) sends.4
said_from pointer turning delivered resent said level [] [] [] [] (y ∷ answers) [] e are takes resends says sends replies = subst (SendsAnswer level)
    (sym (heads _ _ _ _ e)) replies.4
said_from pointer turning delivered resent said level [] [] [] [] [] [] e are takes resends says sends replies = no_events a_beat [] (sym e)

pub beat_without_words : FalseAloneInFar Says beating 30 idle_far empty_links (a_beat ∷ []) idle_far empty_links
beat_without_words = (
  record {
    taken = [];
    again = [];
    keepalives = a_beat ∷ [];
    fresh = [];
    answers = [];
    took = [];
    sent = [];
    is = λ other. refl;
    turning = idle_far;
    delivered = idle_far;
    resent = idle_far;
    said = idle_far;
    level = idle_far;
    takes = λ other. refl;
    delivers = λ other. refl;
    resends = λ other. refl;
    says = λ other. absurd (other refl);
    sends = λ other. refl;
    replies = λ other. refl;
    due = λ other. inl (is_due, refl);
    rested = λ other. record { emitted = refl; answered = refl };
    few = λ other. lit≤ tt;
    goes_on = λ other. none_out 0;
    are_taken = λ other. record { fates = refl };
    are_sent = λ other. nothing_put;
    home = λ other. refl;
    remote = λ other. refl;
  },
  λ h. said_from 0 h.turning h.delivered h.resent h.said h.level h.taken h.again h.keepalives h.fresh h.answers h.took h.is h.are_taken h.takes h.resends h.says
      h.sends h.replies,
)

-- ---- one answer at most

-- what answers has no bytes, and is owed
record Answers (part : FarPart) (x : FarEvent) : Type 0 where
  from : ℕ
  is : x ≡ Send from zero
  owed : part.end.owed ≡ true

answer_is : (part : FarPart) (x : FarEvent) → SendsAnswer part x → Answers part x
answer_is part (Send from zero) owed = record { from = from; is = refl; owed = owed }
answer_is part (Send from (suc n)) none = absurd none
answer_is part (Say step) none = absurd none
answer_is part (Take router) none = absurd none
answer_is part (Pass index keep router) none = absurd none
answer_is part (Reach index keep) none = absurd none
answer_is part (Lose way index) none = absurd none
answer_is part (Point router) none = absurd none
answer_is part (Beat round) none = absurd none

-- behind an answer none is owed
none_owed : (from : ℕ) (before after : FarPart) (taken : Option FarTaken) (sent : List FarSent) → SendsSegment from zero before taken sent after
    → after.end.owed ≡ false
none_owed from before after taken sent row = elim row.emits.emits [
  | inl slice ↦ let size = row.emits.size in let some = slice.some in absurd (omega (arith, size, some))
  | inr empty ↦ ap (λ (part : FarPart). part.end.owed) row.effect ∙ ap (λ (e : Endpoint). e.owed) empty.given
]

pub true_or_false : ◌≡◌ {A = Bool} true false → ⊥
true_or_false e = cc

pub answers_once : (setup : Setup) (p : ℕ) (level end : FarPart) (answers : List FarEvent) → FarGoes setup p SendsAnswer level answers end → length answers ≤ 1
answers_once setup p level end [] g = lit≤ tt
answers_once setup p level end (x ∷ []) g = lit≤ tt
answers_once setup p level end (x ∷ y ∷ answers) g =
    let first = answer_is level x g.4 in
    let row = subst (λ z. far_row setup p z level g.0 g.1 g.2) first.is g.3 in
    absurd (true_or_false (sym (answer_is g.2 y g.5.4).owed ∙ none_owed first.from level g.2 g.0 g.1 row))
