-- An event of a net is a step of the world.
use Rattle.std.proofs.Common.{◌≡◌, ℕ, ◌==◌, Bool, true, false, List, [], ◌++◌, Option, Some, map, refl, sym, ap, ◌∙◌, subst, inl, inr, arith}
use Rattle.std.specs.Prelude.{◌⊎◌, if◌then◌else◌, fold}
use Rattle.std.proofs.lemmas.Bool.Decides.{nat_tests}
use Rattle.ring_net.specs.Deeds.{Deed, items_for}
use Rattle.journal_merge.specs.Worlds as worlds
use Rattle.graft_model.specs.Points.{at}
use Rattle.graft_model.specs.Setups.{Setup}
use Rattle.graft_model.specs.Parts.{RouterPart, FarPart, OperatorPart, World}
use Rattle.graft_model.specs.Quiet.{Quiet}
use Rattle.graft_model.specs.Codes.{router_code, far_code, operator_code}
use Rattle.graft_model.specs.declared.event.OperatorEvent.{OperatorEvent}
use Rattle.graft_model.specs.declared.event.OperatorEvent.TheVariants.{Order, Note, Go}
use Rattle.graft_model.specs.Steps.{MayMake, ByRouter, ByFar, ByOperator, RouterTook, FarTook, OperatorTook}
use Rattle.graft_model.specs.Steps.{router_row, far_row, operator_row, router_sends, far_sends, operator_sends}
use Rattle.graft_actors.specs.Actors.{ActorPart, RouterIs, FarIs, OperatorIs, Thing, ActorName, Router, FarSide, Operator, IsActor, actor_at}
use Rattle.graft_actors.specs.Makes.{HasCode, MakesRow, makes, makes_as, numbered, taken_by_router, sent_by_router}
use Rattle.graft_actors.specs.Makes.{taken_by_far, sent_by_far, taken_by_operator, sent_by_operator}
use Rattle.graft_actors.specs.Seen.{Net, part_of, channel_of, Sees}
use Rattle.graft_actors.specs.Laws.{IsGo, IsStepOf}
use Rattle.graft_actors.proofs.Numbers.{of_number, once}
use Rattle.graft_actors.proofs.Changes.{at-here, at-else, router_sends_one, far_sends_one, operator_sends_one}
use Rattle.graft_actors.proofs.Takes.{AreChannels, Left, router_left, far_left, operator_left}
use Rattle.graft_actors.proofs.Sends.{with_sent, Grown, all_sent}

-- ---- a world with another part

-- this actor has this part, and all else is as it was
record OnePart (w u : World) (me : ActorName) (part : ActorPart) : Type 0 where
  here : part_of u me ≡ part
  others : (x : ActorName) → (x ≡ me → ⊥) → part_of u x ≡ part_of w x
  channels : (x y : Option ActorName) → channel_of u x y ≡ channel_of w x y

sets_router : (w : World) (r : ℕ) (part : RouterPart) → OnePart w (record w { router = at w.router r part }) (Router r) (RouterIs part)
sets_router w r part = record { here = ap RouterIs (at-here w.router r part); others = others; channels = λ x y. refl }
  where
    others : (x : ActorName) → (x ≡ Router r → ⊥) → part_of (record w { router = at w.router r part }) x ≡ part_of w x
    others (Router q) not = ap RouterIs (at-else w.router r part q (λ e. not (ap Router e)))
    others (FarSide p) not = refl
    others Operator not = refl

sets_far : (w : World) (p : ℕ) (part : FarPart) → OnePart w (record w { far = at w.far p part }) (FarSide p) (FarIs part)
sets_far w p part = record { here = ap FarIs (at-here w.far p part); others = others; channels = λ x y. refl }
  where
    others : (x : ActorName) → (x ≡ FarSide p → ⊥) → part_of (record w { far = at w.far p part }) x ≡ part_of w x
    others (Router r) not = refl
    others (FarSide q) not = ap FarIs (at-else w.far p part q (λ e. not (ap FarSide e)))
    others Operator not = refl

sets_operator : (w : World) (part : OperatorPart) → OnePart w (record w { operator = part }) Operator (OperatorIs part)
sets_operator w part = record { here = refl; others = others; channels = λ x y. refl }
  where
    others : (x : ActorName) → (x ≡ Operator → ⊥) → part_of (record w { operator = part }) x ≡ part_of w x
    others (Router r) not = refl
    others (FarSide p) not = refl
    others Operator not = absurd (not refl)

-- ---- the net after the event

pub same_or_not : (m n : ℕ) → (m ≡ n) ⊎ (m ≡ n → ⊥)
same_or_not m n = by_test (m == n) refl
  where
    by_test : (t : Bool) → (m == n) ≡ t → (m ≡ n) ⊎ (m ≡ n → ⊥)
    by_test true e = inl (grind (arith, nat_tests))
    by_test false e = inr (λ f. absurd (differ m n f e))
      where
        differ : (x y : ℕ) → x ≡ y → (x == y) ≡ false → ⊥
        differ x y f e = grind (arith, nat_tests)

module _ (setup : Setup) (net next : Net) (deed : Deed Thing) (w : World) (sees : Sees setup net w)
    (step : worlds.DeedStep (makes setup) net deed next) (me : ActorName) (is : actor_at setup deed.entry.actor ≡ Some me) where
  -- one actor has another part, and the channels are seen
  after_sees : (u : World) (part : ActorPart) → next.part deed.entry.actor ≡ part → part_of u me ≡ part
      → ((x : ActorName) → (x ≡ me → ⊥) → part_of u x ≡ part_of w x) → AreChannels setup next.channel u → Sees setup next u
  after_sees u part now here others channels = record {
    parts = parts;
    channels = channels.each;
    within = record { parts = λ x unknown. others x (λ e. unknown (known x e)) ∙ sees.within.parts x unknown; channels = channels.none };
  }
    where
      known : (x : ActorName) → x ≡ me → IsActor setup x
      known x e = subst (λ (y : ActorName). IsActor setup y) (sym e) (of_number setup deed.entry.actor me is).0

      same : (x y : ActorName) → Some x ≡ Some y → x ≡ y
      same x y e = cc

      parts : (k : ℕ) (x : ActorName) → actor_at setup k ≡ Some x → next.part k ≡ part_of u x
      parts k x e = elim (same_or_not k deed.entry.actor) [
        | inl f ↦ ap (λ n. next.part n) f ∙ now ∙ sym here ∙ ap (λ y. part_of u y) (same me x (sym is ∙ sym (ap (actor_at setup) f) ∙ e))
        | inr ne ↦ step.others k ne ∙ sees.parts k x e ∙ sym (others x (λ f. ne (once setup k deed.entry.actor me (e ∙ ap (λ (y : ActorName). Some y) f) is)))
      ]

  -- what was sent stands behind the rest
  sent_sees : (u : World) (sent : List (ℕ × Thing)) → deed.sent ≡ sent → AreChannels setup (with_sent step.rest deed.entry.actor sent) u
      → AreChannels setup next.channel u
  sent_sees u sent e seen = record {
    each = λ a b. step.sends a b ∙ ap (λ xs. step.rest a b ++ (if a == deed.entry.actor then items_for b xs else [])) e ∙ seen.each a b;
    none = seen.none;
  }

  before_seen : AreChannels setup net.channel w
  before_seen = record { each = sees.channels; none = sees.within.channels }

  -- from the world without what was taken to the one after the event
  assembled : {S : Type 0} (without u : World) (part : ActorPart) (sends : World → S → World) (gives : S → ActorName × Thing) (gave : List S)
      → next.part deed.entry.actor ≡ part
      → ((x : ActorName) → part_of without x ≡ part_of w x) → OnePart without u me part → deed.sent ≡ map (λ s. numbered setup (gives s)) gave
      → Grown setup (with_sent step.rest deed.entry.actor (map (λ s. numbered setup (gives s)) gave)) u (fold sends u gave)
      → Sees setup next (fold sends u gave)
  assembled without u part sends gives gave now same one e grown =
      after_sees (fold sends u gave) part now (grown.parts me ∙ one.here) (λ x ne. grown.parts x ∙ one.others x ne ∙ same x)
      (sent_sees (fold sends u gave) (map (λ s. numbered setup (gives s)) gave) e grown.channels)

  rest_seen : {Took : World → Type 0} (o : Left setup step.rest w Took) (u : World) (part : ActorPart) → OnePart o.without u me part
      → AreChannels setup step.rest u
  rest_seen o u part one = record {
    each = λ a b. o.channels.each a b ∙ sym (one.channels (actor_at setup a) (actor_at setup b));
    none = λ x y not. one.channels (Some x) (Some y) ∙ o.channels.none x y not;
  }

-- ---- each actor's event

module _ (setup : Setup) (net next : Net) (deed : Deed Thing) (w : World) (sees : Sees setup net w) (step : worlds.DeedStep (makes setup) net deed next) where
  router_step : (r : ℕ) → actor_at setup deed.entry.actor ≡ Some (Router r) → (before after : RouterPart)
      → net.part deed.entry.actor ≡ RouterIs before → next.part deed.entry.actor ≡ RouterIs after
      → MakesRow setup router_code (router_row setup r) taken_by_router sent_by_router before deed.entry deed.taken deed.sent after
      → IsStepOf setup w deed.entry next
  router_step r is before after was now row =
      let o : Left setup step.rest w (RouterTook w r row.took) = router_left setup net.channel step.rest deed step.takes w
      (before_seen setup net next deed w sees step (Router r) is) r row.took is row.is_taken in
      let u : World = record o.without { router = at o.without.router r after } in
      let one : OnePart o.without u (Router r) (RouterIs after) = sets_router o.without r after in
      let grown : Grown setup (with_sent step.rest deed.entry.actor (map (λ s. numbered setup (sent_by_router s)) row.gave)) u
      (fold (router_sends r) u row.gave) =
      all_sent setup deed.entry.actor (Router r) is (router_sends r) sent_by_router (router_sends_one r) row.gave step.rest u row.there
      (rest_seen setup net next deed w sees step (Router r) is o u (RouterIs after) one) in
      record {
        event = ByRouter r row.event;
        entry_of = record {
          there = (of_number setup deed.entry.actor (Router r) is).0;
          maker = (of_number setup deed.entry.actor (Router r) is).1;
          coded = row.coded;
        };
        after = fold (router_sends r) u row.gave;
        step = record {
          known = (of_number setup deed.entry.actor (Router r) is).0;
          taken = row.took;
          sent = row.gave;
          part = after;
          row = subst (λ (part : RouterPart). router_row setup r row.event part row.took row.gave after)
              (same before (w.router r) (sym was ∙ sees.parts deed.entry.actor (Router r) is)) row.holds;
          without = o.without;
          took = o.took;
          is = refl;
        };
        sees = assembled setup net next deed w sees step (Router r) is o.without u (RouterIs after)
            (router_sends r) sent_by_router row.gave now o.parts one row.is_sent grown;
      }
    where
      same : (a b : RouterPart) → RouterIs a ≡ RouterIs b → a ≡ b
      same a b e = cc

  far_step : (p : ℕ) → actor_at setup deed.entry.actor ≡ Some (FarSide p) → (before after : FarPart) → net.part deed.entry.actor ≡ FarIs before
      → next.part deed.entry.actor ≡ FarIs after
      → MakesRow setup far_code (far_row setup p) taken_by_far sent_by_far before deed.entry deed.taken deed.sent after → IsStepOf setup w deed.entry next
  far_step p is before after was now row =
      let o : Left setup step.rest w (FarTook w p row.took) =
      far_left setup net.channel step.rest deed step.takes w (before_seen setup net next deed w sees step (FarSide p) is) p row.took is row.is_taken in
      let u : World = record o.without { far = at o.without.far p after } in
      let one : OnePart o.without u (FarSide p) (FarIs after) = sets_far o.without p after in
      let grown : Grown setup (with_sent step.rest deed.entry.actor (map (λ s. numbered setup (sent_by_far s)) row.gave)) u (fold (far_sends p) u row.gave) =
      all_sent setup deed.entry.actor (FarSide p) is (far_sends p) sent_by_far (far_sends_one p) row.gave step.rest u row.there
      (rest_seen setup net next deed w sees step (FarSide p) is o u (FarIs after) one) in
      record {
        event = ByFar p row.event;
        entry_of = record {
          there = (of_number setup deed.entry.actor (FarSide p) is).0;
          maker = (of_number setup deed.entry.actor (FarSide p) is).1;
          coded = row.coded;
        };
        after = fold (far_sends p) u row.gave;
        step = record {
          known = (of_number setup deed.entry.actor (FarSide p) is).0;
          taken = row.took;
          sent = row.gave;
          part = after;
          row = subst (λ (part : FarPart). far_row setup p row.event part row.took row.gave after)
              (same before (w.far p) (sym was ∙ sees.parts deed.entry.actor (FarSide p) is)) row.holds;
          without = o.without;
          took = o.took;
          is = refl;
        };
        sees = assembled setup net next deed w sees step (FarSide p) is o.without u
            (FarIs after) (far_sends p) sent_by_far row.gave now o.parts one row.is_sent grown;
      }
    where
      same : (a b : FarPart) → FarIs a ≡ FarIs b → a ≡ b
      same a b e = cc

  may_make : (event : OperatorEvent) → HasCode (operator_code event) deed.entry → (IsGo deed.entry → Quiet setup w) → MayMake setup event w
  may_make (Order n k) coded quiet = tt
  may_make (Note r) coded quiet = tt
  may_make Go coded quiet = quiet coded.kind

  operator_step : actor_at setup deed.entry.actor ≡ Some Operator → (before after : OperatorPart) → net.part deed.entry.actor ≡ OperatorIs before
      → next.part deed.entry.actor ≡ OperatorIs after
      → MakesRow setup operator_code (operator_row setup) taken_by_operator sent_by_operator before deed.entry deed.taken deed.sent after
      → (IsGo deed.entry → Quiet setup w) → IsStepOf setup w deed.entry next
  operator_step is before after was now row quiet =
      let o : Left setup step.rest w (OperatorTook w row.took) =
      operator_left setup net.channel step.rest deed step.takes w (before_seen setup net next deed w sees step Operator is) row.took is row.is_taken in
      let u : World = record o.without { operator = after } in
      let one : OnePart o.without u Operator (OperatorIs after) = sets_operator o.without after in
      let grown : Grown setup (with_sent step.rest deed.entry.actor (map (λ s. numbered setup (sent_by_operator s)) row.gave)) u
      (fold operator_sends u row.gave) =
      all_sent setup deed.entry.actor Operator is operator_sends sent_by_operator operator_sends_one row.gave step.rest u row.there
      (rest_seen setup net next deed w sees step Operator is o u (OperatorIs after) one) in
      record {
        event = ByOperator row.event;
        entry_of = record {
          there = (of_number setup deed.entry.actor Operator is).0;
          maker = (of_number setup deed.entry.actor Operator is).1;
          coded = row.coded;
        };
        after = fold operator_sends u row.gave;
        step = record {
          may = may_make row.event row.coded quiet;
          taken = row.took;
          sent = row.gave;
          part = after;
          row = subst (λ (part : OperatorPart). operator_row setup row.event part row.took row.gave after)
              (same before w.operator (sym was ∙ sees.parts deed.entry.actor Operator is)) row.holds;
          without = o.without;
          took = o.took;
          is = refl;
        };
        sees = assembled setup net next deed w sees step Operator is o.without u
            (OperatorIs after) operator_sends sent_by_operator row.gave now o.parts one row.is_sent grown;
      }
    where
      same : (a b : OperatorPart) → OperatorIs a ≡ OperatorIs b → a ≡ b
      same a b e = cc

  by_actor : (x : Option ActorName) (before after : ActorPart) → actor_at setup deed.entry.actor ≡ x → net.part deed.entry.actor ≡ before
      → next.part deed.entry.actor ≡ after
      → makes_as setup x before deed.entry deed.taken deed.sent after → (IsGo deed.entry → Quiet setup w) → IsStepOf setup w deed.entry next
  by_actor (Some (Router r)) (RouterIs before) (RouterIs after) is was now row quiet = router_step r is before after was now row
  by_actor (Some (FarSide p)) (FarIs before) (FarIs after) is was now row quiet = far_step p is before after was now row
  by_actor (Some Operator) (OperatorIs before) (OperatorIs after) is was now row quiet = operator_step is before after was now row quiet
  by_actor x before after is was now row quiet = absurd row

pub event_step : (setup : Setup) (net next : Net) (deed : Deed Thing) (w : World) → Sees setup net w → worlds.DeedStep (makes setup) net deed next
    → (IsGo deed.entry → Quiet setup w) → IsStepOf setup w deed.entry next
event_step setup net next deed w sees step quiet = by_actor setup net next deed w sees step
    (actor_at setup deed.entry.actor) (net.part deed.entry.actor) (next.part deed.entry.actor) refl refl refl step.made quiet
