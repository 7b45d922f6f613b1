-- What a router decides, as a ruling on the auditor's world.
use Rattle.std.proofs.Common.{◌≡◌, ℕ, ◌<◌, ◌++◌, List, [], ◌∷◌, length, Option, Some, None, option_map, inl, inr, refl, sym, ap, ◌∙◌, subst, arith}
use Rattle.std.specs.Prelude.{slice_get, slice_set, unwrap_or}
use Rattle.std.specs.List.{AllByRecursion}
use Rattle.std.proofs.lemmas.Bool.{eq-eqb, false≢true}
use Rattle.std.proofs.lemmas.List.{length-set}
use Rattle.ring_net.specs.declared.entry.JournalEntry.{JournalEntry}
use Rattle.ring_net.specs.Deeds.{Deed}
use Rattle.journal_merge.specs.Worlds.{sends_on, takes_on}
use Rattle.graft_model.specs.RouterRows.{RouterTaken}
use Rattle.graft_actors.specs.Items.{thing_of}
use Rattle.bgp_session.specs.Running.{carried}
use Rattle.graft_model.specs.First.{first_router}
use Rattle.graft_model.specs.Parts.{RouterPart, World}
use Rattle.graft_model.specs.Codes.{operator_code, router_code}
use Rattle.graft_model.specs.Setups.{Setup, routers_in}
use Rattle.graft_model.specs.Steps.{ByRouter, RouterStep, router_row}
use Rattle.graft_model.specs.declared.event.OperatorEvent.TheVariants.{Go}
use Rattle.graft_model.specs.declared.event.RouterEvent.{RouterEvent}
use Rattle.graft_model.proofs.GoAlone.{router_kind}
use Rattle.graft_laws.specs.Facts.{NothingIsDropped}
use Rattle.graft_actors.specs.Actors.{ActorName, FarSide, IsActor, Operator, Router, actor_at, number_in}
use Rattle.graft_actors.specs.Acts.{ActsAs}
use Rattle.graft_actors.specs.Laws.{ActorsHaveNumbers, maker_of}
use Rattle.graft_actors.specs.Makes.{numbered, sent_by_router, taken_by_router}
use Rattle.graft_actors.proofs.Numbers.{of_number, some_same, there}
use Rattle.world_runs.specs.Labs.{actors_in}
use Rattle.clocked_audits.specs.Timed.{MovesItems}
use Rattle.router_tables.proofs.Points.{one_or_other}
use Rattle.audit_ruling.specs.Rulings.{Holds, HoldsNever, HoldsTaking, Parcel, RouterRules, RouterRulesTaking, router_own, router_takes}
use Rattle.audit_ruling.specs.Senders.{RoutersTakeFromTheNamed, router_sender, from_router_taken}
use Rattle.audit_ruling.specs.declared.ruling.Ruling.{Ruling}
use Rattle.audit_ruling.specs.declared.ruling.Ruling.TheVariants.{Refused, Silent, Sends}
use Rattle.audit_channels.specs.Channels.{IsSquare, parcels, parcels_in}
use Rattle.audit_tables.proofs.Changes.{get_set_here, get_set_other}
use Rattle.audit_router.specs.Decides.{Decides, DecidesTaking, KeepsRouter}
use Rattle.audit_router.specs.Parts.{router_part, setup_of_router}
use Rattle.audit_router.specs.declared.router.AuditedRouter.{AuditedRouter}
use Rattle.audit_channels.specs.declared.channel.Channel.{Channel}
use Rattle.audit_channels.specs.declared.inboxes.Inbox.{Inbox}
use Rattle.run_auditor.specs.Grounds.{Grounds}
use Rattle.run_auditor.specs.Ruled.{Happened, RulesOn}
use Rattle.run_auditor.specs.Sent.{HasSent}
use Rattle.run_auditor.specs.Sound.{AuditorInvariant, KeepsRouterAt}
use Rattle.run_auditor.specs.States.{StandsFor, lab_of, own_of}
use Rattle.run_auditor.specs.declared.auditor.Auditor.{Auditor}
use Rattle.run_auditor.proofs.Happening.{after_act, moves_act, stands_act, stands_like, step_act}
use Rattle.run_auditor.proofs.Made.{as_thing, router_acts, router_took, one_there, sent_there, welcome}
use Rattle.run_auditor.proofs.Taken.{ChannelSet, IsOther, all_still, came_out, none_out}
use Rattle.run_auditor.proofs.Seen.{router_is}
use Rattle.run_auditor.proofs.Nowhere.{router_alone, router_taking}

-- A router of the auditor is another one now.
module _ (f g : Auditor) (inv : AuditorInvariant f) (r : ℕ) (x y : AuditedRouter) (at : slice_get f.routers.items r ≡ Some x)
    (same : g ≡ record f { routers = g.routers; inboxes = g.inboxes }) (set : g.routers.items ≡ slice_set f.routers.items r y) (known : r < routers_in f.known.setup) where
  is : KeepsRouterAt f r x
  is = inv.routers r x at

  at_r : actor_at f.known.setup r ≡ Some (Router r)
  at_r = there f.known.setup (Router r) known

  at_y : slice_get g.routers.items r ≡ Some y
  at_y = ap (λ (xs : List AuditedRouter). slice_get xs r) set ∙ get_set_here f.routers.items r y (omega (arith, known, inv.all_routers))

  pub known_same : g.known.setup ≡ f.known.setup
  known_same = ap (λ (h : Auditor). h.known.setup) same

  own_x : (lab_of f).part r ≡ router_own f.known.setup r (router_part x)
  own_x = ap (own_of f) at_r
      ∙ ap (λ (o : Option AuditedRouter). router_own f.known.setup r (unwrap_or (option_map router_part o) (first_router f.known.setup r))) at

  pub own_y : (lab_of g).part r ≡ router_own f.known.setup r (router_part y)
  own_y = ap (λ (h : Auditor). own_of h (actor_at h.known.setup r)) same
      ∙ (ap (own_of (record f { routers = g.routers; inboxes = g.inboxes })) at_r
      ∙ ap (λ (o : Option AuditedRouter). router_own f.known.setup r (unwrap_or (option_map router_part o) (first_router f.known.setup r))) at_y)

  by_name : (n : ℕ) (z : ActorName) → actor_at f.known.setup n ≡ Some z → (n ≡ r → ⊥) → own_of (record f { routers = g.routers; inboxes = g.inboxes }) (Some z) ≡ own_of f (Some z)
  by_name n (Router q) e not =
      ap (λ (o : Option AuditedRouter). router_own f.known.setup q (unwrap_or (option_map router_part o) (first_router f.known.setup q)))
      (ap (λ (xs : List AuditedRouter). slice_get xs q) set
      ∙ get_set_other f.routers.items r q y (λ here. not ((of_number f.known.setup n (Router q) e).1 ∙ here)))
  by_name n (FarSide p) e not = refl
  by_name n Operator e not = refl

  pub others : (n : ℕ) (z : ActorName) → actor_at f.known.setup n ≡ Some z → (n ≡ r → ⊥) → (lab_of g).part n ≡ (lab_of f).part n
  others n z e not = ap (λ (h : Auditor). own_of h (actor_at h.known.setup n)) same
      ∙ (ap (own_of (record f { routers = g.routers; inboxes = g.inboxes })) e ∙ (by_name n z e not ∙ sym (ap (own_of f) e)))

  -- its part is the world's
  pub part_is : (w : World) → StandsFor f w → router_part x ≡ w.router r
  part_is w s = router_is f inv w s r x at

  -- the auditor is sound where it stands for a world, whatever is on its way
  pub sound_then : KeepsRouter x y → (h : Auditor) → h ≡ record f { routers = g.routers; inboxes = h.inboxes }
      → IsSquare (actors_in f.known.setup) h.inboxes.items → (w : World) → StandsFor h w → AuditorInvariant h
  sound_then keeps h is_h square w stands = subst AuditorInvariant (sym is_h) (record {
    world = w;
    stands = subst (λ (a : Auditor). StandsFor a w) is_h stands;
    few_routers = inv.few_routers;
    few_peerings = inv.few_peerings;
    all_routers = ap (λ (xs : List AuditedRouter). length xs) set ∙ (length-set f.routers.items r y ∙ inv.all_routers);
    all_far_sides = inv.all_far_sides;
    routers = λ q z e. elim (one_or_other r q) [
      | inl here ↦ subst (λ (n : ℕ). KeepsRouterAt (record f { routers = g.routers; inboxes = h.inboxes }) n z) (sym here)
          (subst (KeepsRouterAt (record f { routers = g.routers; inboxes = h.inboxes }) r)
          (some_is y z (sym at_y ∙ (ap (slice_get g.routers.items) (sym here) ∙ e)))
          (record { setup = keeps.setup ∙ is.setup; number = ap (λ n. n.0) keeps.number ∙ is.number; sound = keeps.sound }))
      | inr not ↦ let old = inv.routers q z (sym (get_set_other f.routers.items r q y not)
          ∙ (sym (ap (λ (xs : List AuditedRouter). slice_get xs q) set) ∙ e)) in
          record { setup = old.setup; number = old.number; sound = old.sound }
    ];
    far_sides = λ p far e. let old = inv.far_sides p far e in record { setup = old.setup; number = old.number; sound = old.sound };
    operator_setup = inv.operator_setup;
    operator = inv.operator;
    square = square;
  })
    where
      some_is : (a b : AuditedRouter) → ◌≡◌ {A = Option AuditedRouter} (Some a) (Some b) → a ≡ b
      some_is a b e = cc

  -- ---- nothing happens

  module _ (still : (a b : ℕ) → parcels g.inboxes.items a b ≡ parcels f.inboxes.items a b) (square : IsSquare (actors_in f.known.setup) g.inboxes.items)
      (part_same : router_part y ≡ router_part x) (keeps : KeepsRouter x y) where
    stays : (w : World) → StandsFor f w → StandsFor g w
    stays w s = stands_like f g w known_same parts still s
      where
        parts : (n : ℕ) (z : ActorName) → actor_at f.known.setup n ≡ Some z → (lab_of g).part n ≡ (lab_of f).part n
        parts n z e = elim (one_or_other r n) [
          | inl here ↦ subst (λ (m : ℕ). (lab_of g).part m ≡ (lab_of f).part m) (sym here)
              (own_y ∙ (ap (router_own f.known.setup r) part_same ∙ sym own_x))
          | inr not ↦ others n z e not
        ]

    refused : (event : RouterEvent) → ((w after : World) → StandsFor f w → RouterStep f.known.setup r event w after → ⊥)
        → RulesOn (ByRouter r event) Refused f g
    refused event never = record {
      setup = known_same;
      none = λ w after s step. never w after s step;
      stands = stays;
      sound = sound_then keeps g same square inv.world (stays inv.world inv.stands);
    }

    -- the row in the world, where it never holds in the router's own laboratory
    never_in : (event : RouterEvent) (taken : Option RouterTaken)
        → HoldsNever (router_row (setup_of_router x) x.tables.number.0 event) sent_by_router (router_part x) taken → (w : World) → StandsFor f w
        → HoldsNever (router_row f.known.setup r event) sent_by_router (w.router r) taken
    never_in event taken never w s = subst (λ (part : RouterPart). HoldsNever (router_row f.known.setup r event) sent_by_router part taken) (part_is w s)
        (subst (λ (n : ℕ). HoldsNever (router_row f.known.setup n event) sent_by_router (router_part x) taken) is.number
        (subst (λ (setup : Setup). HoldsNever (router_row setup x.tables.number.0 event) sent_by_router (router_part x) taken) is.setup never))

    module _ (named : RoutersTakeFromTheNamed) (event : RouterEvent) where
      pub refuses_alone : router_sender event ≡ None
          → HoldsNever (router_row (setup_of_router x) x.tables.number.0 event) sent_by_router (router_part x) None
          → RulesOn (ByRouter r event) Refused f g
      refuses_alone alone never =
          refused event (λ w after s step. router_alone f.known.setup named w r event alone (never_in event None never w s) after step)

      pub refuses_taking : (numbers : ActorsHaveNumbers) (from : ActorName) → router_sender event ≡ Some from → IsActor f.known.setup from
          → ((item : Parcel) (more : List Parcel) → parcels f.inboxes.items (number_in f.known.setup from) r ≡ item ∷ more
          → HoldsNever (router_row (setup_of_router x) x.tables.number.0 event) sent_by_router (router_part x)
          (router_takes from (thing_of carried (setup_of_router x) item)))
          → RulesOn (ByRouter r event) Refused f g
      refuses_taking numbers from sender there never = refused event (λ w after s step.
          router_taking f.known.setup named w r event numbers (lab_of f) s.lab at_r from sender there
          (λ item more first. never_in event (router_takes from (thing_of carried f.known.setup item))
          (subst (λ (setup : Setup). HoldsNever (router_row (setup_of_router x) x.tables.number.0 event) sent_by_router (router_part x)
          (router_takes from (thing_of carried setup item))) is.setup (never item more first)) w s) after step)

  -- ---- it happens

  module _ (grounds : Grounds) (event : RouterEvent) (took : Option RouterTaken) (taken : Option (ℕ × Parcel)) (sent : List (ℕ × Parcel)) (keeps : KeepsRouter x y)
      (is_taken : option_map (as_thing f.known.setup) taken ≡ option_map (λ t. numbered f.known.setup (taken_by_router t)) took)
      (from_is : option_map (λ t. t.0) taken ≡ option_map (number_in f.known.setup) (router_sender event))
      (giver : (x : ActorName) → router_sender event ≡ Some x → IsActor f.known.setup x)
      (square : IsSquare (actors_in f.known.setup) g.inboxes.items)
      (holds : Holds (router_row (setup_of_router x) x.tables.number.0 event) sent_by_router
      (router_own (setup_of_router x) x.tables.number.0 (router_part x)) (router_part x) took sent (router_part y)) where
    abbrev w : World
    w = inv.world

    holds_here : Holds (router_row f.known.setup r event) sent_by_router (router_own f.known.setup r (w.router r)) (w.router r) took sent (router_part y)
    holds_here = subst (λ (part : RouterPart). Holds (router_row f.known.setup r event) sent_by_router (router_own f.known.setup r part) part took sent (router_part y))
        (part_is w inv.stands)
        (subst (λ (n : ℕ). Holds (router_row f.known.setup n event) sent_by_router (router_own f.known.setup n (router_part x)) (router_part x) took sent (router_part y))
        is.number
        (subst (λ (setup : Setup). Holds (router_row setup x.tables.number.0 event) sent_by_router (router_own setup x.tables.number.0 (router_part x)) (router_part x) took sent (router_part y)) is.setup holds))

    abbrev own_entry : JournalEntry
    own_entry =
        record { clock = 0; actor = r; kind = (router_code event).kind; a = (router_code event).a; b = (router_code event).b; c = (router_code event).c }

    abbrev own_deed : Deed Parcel
    own_deed = record { entry = own_entry; taken = taken; sent = sent }

    nothing : NothingIsDropped f.known.setup w
    nothing = grounds.welcome f.known.setup w inv.stands.sound inv.stands.reached

    no_go : (e : RouterEvent) → (router_code e).kind ≡ (operator_code Go).kind → ⊥
    no_go e is = false≢true (sym (router_kind e) ∙ eq-eqb (router_code e).kind (operator_code Go).kind is)

    -- what is taken comes out of its channel
    module _ (takes : (a b : ℕ) → parcels f.inboxes.items a b ≡ takes_on own_deed a b ++ parcels g.inboxes.items a b) where
      acted : ActsAs carried (router_own f.known.setup r (w.router r)) own_entry taken sent (router_own f.known.setup r (router_part y))
      acted = router_acts f.known.setup own_entry taken sent r event (w.router r) (router_part y) took
          (record { kind = refl; a = refl; b = refl; c = refl }) is_taken holds_here
          (welcome f.known.setup (lab_of f) (record { part = (lab_of f).part; channel = λ a b. parcels g.inboxes.items a b ++ sends_on own_deed a b }) w nothing
          inv.stands.lab own_deed (Router r) at_r (λ a b. parcels g.inboxes.items a b) takes (λ a b. refl))

      after_it : World
      after_it = after_act grounds.steps grounds.events grounds.worlds f w inv.stands nothing (ByRouter r event) known taken sent
          (router_own f.known.setup r (router_part y)) acted (λ a b. parcels g.inboxes.items a b) takes (λ go. absurd (no_go event go))

      module _ (sent_to : Auditor) (has : HasSent r g sent sent_to) where
        known_then : sent_to.known.setup ≡ f.known.setup
        known_then = ap (λ (h : Auditor). h.known.setup) has.same ∙ known_same

        part_then : (n : ℕ) → (lab_of sent_to).part n ≡ (lab_of g).part n
        part_then n = ap (λ (h : Auditor). own_of h (actor_at h.known.setup n)) has.same

        stands_then : StandsFor sent_to after_it
        unfolding after_it
        stands_then = stands_act grounds.steps grounds.events grounds.worlds f w inv.stands nothing (ByRouter r event) known taken sent
            (router_own f.known.setup r (router_part y)) acted (λ a b. parcels g.inboxes.items a b) takes (λ go. absurd (no_go event go))
            sent_to known_then (part_then r ∙ own_y) (λ n z e not. part_then n ∙ others n z e not)
            has.channels

        whole_then : sent_to ≡ record f { routers = g.routers; inboxes = sent_to.inboxes }
        whole_then = has.same ∙ ap (λ (h : Auditor). let k : Auditor = record h { inboxes = sent_to.inboxes } in k) same

        pub sound_sent : AuditorInvariant sent_to
        sound_sent = sound_then keeps sent_to whole_then (has.square (actors_in f.known.setup) square) after_it stands_then

      pub happens : Happened (ByRouter r event) f sent g
      unfolding after_it
      happens = record {
        setup = known_same;
        after = after_it;
        step = step_act grounds.steps grounds.events grounds.worlds f w inv.stands nothing (ByRouter r event) known taken sent
            (router_own f.known.setup r (router_part y)) acted (λ a b. parcels g.inboxes.items a b) takes (λ go. absurd (no_go event go));
        stands = stands_then;
        sound = sound_sent;
        there = all_there;
        square = square;
        giver = giver;
        moves = λ v t to is_to. subst (λ (from : Option ℕ). MovesItems f.known.setup v after_it (maker_of (ByRouter r event)) from to) from_is
            (moves_act grounds.steps grounds.events grounds.worlds f w inv.stands nothing (ByRouter r event) known taken sent
            (router_own f.known.setup r (router_part y)) acted (λ a b. parcels g.inboxes.items a b) takes (λ go. absurd (no_go event go)) grounds.moves grounds.itself to is_to
            (one_there (actors_in f.known.setup) sent to all_there is_to) v t);
        at_go = λ is. absurd cc;
      }
        where
          all_there : AllByRecursion (λ x. x.0 < actors_in f.known.setup) sent
          all_there = sent_there (router_own f.known.setup r (w.router r)) sent holds_here.fit

  -- ---- what it decides

  module _ (grounds : Grounds) (event : RouterEvent) where
    -- an event that takes nothing
    pub decided : router_sender event ≡ None → g.inboxes.items ≡ f.inboxes.items → (ruling : Ruling) → Decides event x ruling y
        → RulesOn (ByRouter r event) ruling f g
    decided alone boxes ruling d = by_ruling ruling d.rules where
      still : (a b : ℕ) → parcels g.inboxes.items a b ≡ parcels f.inboxes.items a b
      still a b = ap (λ (xs : List Inbox). parcels xs a b) boxes

      square : IsSquare (actors_in f.known.setup) g.inboxes.items
      square = subst (IsSquare (actors_in f.known.setup)) (sym boxes) inv.square

      made : (sent : List (ℕ × Parcel)) → Holds (router_row (setup_of_router x) x.tables.number.0 event) sent_by_router (router_own (setup_of_router x) x.tables.number.0 (router_part x)) (router_part x) None sent (router_part y) → Happened (ByRouter r event) f sent g
      made sent holds = happens grounds event None None sent d.keeps refl
          (ap (option_map (number_in f.known.setup)) (sym alone)) (λ x e. let none : None ≡ Some x = sym alone ∙ e in absurd cc) square holds
          (none_out (parcels f.inboxes.items) (parcels g.inboxes.items) r still)

      by_ruling : (u : Ruling) → RouterRules (setup_of_router x) x.tables.number.0 event (router_part x) u (router_part y) → RulesOn (ByRouter r event) u f g
      by_ruling Refused rules = refuses_alone still square rules.0 d.keeps grounds.routers event alone rules.1
      by_ruling Silent rules = made [] rules
      by_ruling (Sends to item) rules = made ((to, item) ∷ []) rules

    module _ (from : ActorName) (sender : router_sender event ≡ Some from) where
      abbrev giver : ℕ
      giver = number_in f.known.setup from

      -- an event that takes the first item from this actor, and no other one
      pub decided_taking : IsActor f.known.setup from → IsSquare (actors_in f.known.setup) g.inboxes.items
          → ((a b : ℕ) → IsOther giver r a b → parcels g.inboxes.items a b ≡ parcels f.inboxes.items a b)
          → (ruling : Ruling)
          → DecidesTaking event from x (parcels f.inboxes.items giver r) ruling y (parcels g.inboxes.items giver r)
          → RulesOn (ByRouter r event) ruling f g
      decided_taking known square others ruling d = by_ruling ruling d.rules where
        named : (item : Parcel) (sent : List (ℕ × Parcel)) → Holds (router_row (setup_of_router x) x.tables.number.0 event) sent_by_router (router_own (setup_of_router x) x.tables.number.0 (router_part x)) (router_part x) (router_takes from (thing_of carried (setup_of_router x) item)) sent (router_part y)
            → from_router_taken (router_takes from (thing_of carried f.known.setup item)) ≡ Some from
        named item sent holds = subst (λ (setup : Setup). from_router_taken (router_takes from (thing_of carried setup item)) ≡ Some from) is.setup
            (grounds.routers (setup_of_router x) x.tables.number.0 event (router_part x) (router_part y) (router_takes from (thing_of carried (setup_of_router x) item)) holds.gave holds.row ∙ sender)

        made : (sent : List (ℕ × Parcel)) → HoldsTaking (router_row (setup_of_router x) x.tables.number.0 event) sent_by_router
            (λ item. router_takes from (thing_of carried (setup_of_router x) item)) (router_own (setup_of_router x) x.tables.number.0 (router_part x)) (router_part x)
            (parcels f.inboxes.items giver r) sent (router_part y) (parcels g.inboxes.items giver r)
            → Happened (ByRouter r event) f sent g
        made sent h = happens grounds event
            (router_takes from (thing_of carried (setup_of_router x) h.item)) (Some (giver, h.item)) sent d.keeps
            (subst (λ (setup : Setup). option_map (as_thing f.known.setup) (Some (giver, h.item))
            ≡ option_map (λ t. numbered f.known.setup (taken_by_router t)) (router_takes from (thing_of carried setup h.item))) (sym is.setup)
            (router_took f.known.setup from h.item (named h.item sent h.holds)))
            (ap (option_map (number_in f.known.setup)) (sym sender)) (λ x e. subst (IsActor f.known.setup) (some_same from x (sym sender ∙ e)) known)
            square h.holds (came_out (parcels f.inboxes.items) (parcels g.inboxes.items) giver r others h.item h.first)

        by_ruling : (u : Ruling) → RouterRulesTaking (setup_of_router x) x.tables.number.0 event from (router_part x) (parcels f.inboxes.items giver r) u (router_part y)
            (parcels g.inboxes.items giver r) → RulesOn (ByRouter r event) u f g
        by_ruling Refused rules = refuses_taking (all_still (parcels f.inboxes.items) (parcels g.inboxes.items) giver r others rules.1) square rules.0 d.keeps
            grounds.routers event grounds.numbers from sender known rules.2
        by_ruling Silent rules = made [] rules
        by_ruling (Sends to item) rules = made ((to, item) ∷ []) rules

      -- the same of a channel that is another one now
      pub ruled_taking : IsActor f.known.setup from → (channel now : Channel)
          → ChannelSet f.inboxes.items g.inboxes.items giver r channel now
          → (ruling : Ruling) → DecidesTaking event from x (parcels_in channel) ruling y (parcels_in now) → RulesOn (ByRouter r event) ruling f g
      ruled_taking known_from channel now here ruling d =
          decided_taking known_from (here.square (actors_in f.known.setup) inv.square) here.elsewhere ruling
          (subst (λ (xs : List Parcel). DecidesTaking event from x xs ruling y (parcels g.inboxes.items giver r)) (sym here.was)
          (subst (λ (xs : List Parcel). DecidesTaking event from x (parcels_in channel) ruling y xs) (sym here.is_now) d))
