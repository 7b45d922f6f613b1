-- Entries and the events that they are of.
use Rattle.std.proofs.Common.{◌≡◌, ℕ, ◌<◌, ◌==◌, ◌++◌, Bool, true, false, List, [], ◌∷◌, length, take, drop, Option, Some, None, map, option_map, refl, sym, ap, ◌∙◌, subst, arith}
use Rattle.std.specs.Prelude.{◌≢◌, if◌then◌else◌}
use Rattle.std.specs.Option.{option_to_list}
use Rattle.std.proofs.lemmas.Bool.{eq-eqb, eqb-true, false≢true}
use Rattle.std.proofs.lemmas.List.{append-nil, at_drop_all, take_all}
use Rattle.ring_net.specs.declared.entry.JournalEntry.{JournalEntry}
use Rattle.graft_model.specs.Points.{at, at2}
use Rattle.graft_model.specs.Codes.{EventHasPrefix, actor_code, operator_code}
use Rattle.graft_model.proofs.GoAlone.{far_kind, router_kind}
use Rattle.graft_model.specs.declared.event.OperatorEvent.TheVariants.{Go, Note, Order}
use Rattle.graft_model.specs.Setups.{Setup}
use Rattle.graft_model.specs.declared.code.Code.{Code}
use Rattle.graft_model.specs.declared.event.ActorEvent.{ActorEvent}
use Rattle.graft_model.specs.declared.event.ActorEvent.TheVariants.{OfRouter, OfFar, OfOperator}
use Rattle.graft_model.specs.Steps.{Event, ByRouter, ByFar, ByOperator}
use Rattle.graft_actors.specs.Actors.{ActorName, IsActor, number_in}
use Rattle.graft_actors.specs.Laws.{IsEntryOf, code_of, maker_of}
use Rattle.graft_actors.specs.Makes.{HasCode}
use Rattle.spelled_events.specs.Spelled.{IsSpelled}
use Rattle.audit_channels.specs.Channels.{IsSquare, parcels}
use Rattle.world_runs.specs.Marks.{is_go}
use Rattle.clocked_audits.specs.Timed.{MovesItems}
use Rattle.audit_ruling.specs.Rulings.{Parcel}
use Rattle.run_auditor.specs.Ruled.{Happened, IsEventOf, IsRefused, own_event, sender_in}
use Rattle.run_auditor.specs.Sent.{HasSent}
use Rattle.run_auditor.specs.Sound.{AuditorInvariant}
use Rattle.run_auditor.specs.Steps.{IsOfNoEvent, TakesEntry}
use Rattle.run_auditor.specs.declared.auditor.Auditor.{Auditor}
use Rattle.run_auditor.specs.declared.step.Step.TheVariants.{Made, Kind, Condition}

-- the kind and the arguments of an entry
abbrev pub code_in : JournalEntry → Code
code_in entry = record { kind = entry.kind; a = entry.a; b = entry.b; c = entry.c }

has_code : (code : Code) (entry : JournalEntry) → code ≡ code_in entry → HasCode code entry
has_code code entry is = record {
  kind = sym (ap (λ (x : Code). x.kind) is);
  a = sym (ap (λ (x : Code). x.a) is);
  b = sym (ap (λ (x : Code). x.b) is);
  c = sym (ap (λ (x : Code). x.c) is);
}

same_code : (code : Code) (entry : JournalEntry) → HasCode code entry → code ≡ code_in entry
same_code code entry is = λ i. record { kind = (sym is.kind) i; a = (sym is.a) i; b = (sym is.b) i; c = (sym is.c) i }

coded : (own : Event) (entry : JournalEntry) → HasCode (code_of own) entry → actor_code (own_event own) ≡ code_in entry
coded (ByRouter r event) entry is = same_code (code_of (ByRouter r event)) entry is
coded (ByFar p event) entry is = same_code (code_of (ByFar p event)) entry is
coded (ByOperator event) entry is = same_code (code_of (ByOperator event)) entry is

prefixed : (own : Event) → IsSpelled own → EventHasPrefix (own_event own)
prefixed (ByRouter r event) is = is
prefixed (ByFar p event) is = tt
prefixed (ByOperator event) is = tt

module _ (setup : Setup) (entry : JournalEntry) where
  itself : (own : Event) → IsEntryOf setup own entry → IsEventOf setup entry.actor (own_event own) own
  itself (ByRouter r event) is = (r, refl, is.there, is.maker)
  itself (ByFar p event) is = (p, refl, is.there, is.maker)
  itself (ByOperator event) is = (refl, is.maker)

  -- no event has the code
  pub of_none : ((event : ActorEvent) → EventHasPrefix event → actor_code event ≢ code_in entry) → IsOfNoEvent setup entry
  of_none none own spelled is = none (own_event own) (prefixed own spelled) (coded own entry is.coded)

  -- the event that has the code is none of this actor
  pub of_no_actor : ((one other : ActorEvent) → actor_code one ≡ actor_code other → one ≡ other) → (event : ActorEvent) → actor_code event ≡ code_in entry
      → ((own : Event) → ¬ IsEventOf setup entry.actor event own) → IsOfNoEvent setup entry
  of_no_actor exact event code none own spelled is =
      none own (subst (λ (e : ActorEvent). IsEventOf setup entry.actor e own) (exact (own_event own) event (coded own entry is.coded ∙ sym code)) (itself own is))

  module _ (event : ActorEvent) (code : actor_code event ≡ code_in entry) (prefix : EventHasPrefix event) (own : Event) where
    pub entry_is : IsEventOf setup entry.actor event own → IsEntryOf setup own entry
    entry_is is = by_event event code is where
      by_event : (e : ActorEvent) → actor_code e ≡ code_in entry → IsEventOf setup entry.actor e own → IsEntryOf setup own entry
      by_event (OfRouter e) c (r, own_is, below, actor) = subst (λ (o : Event). IsEntryOf setup o entry) (sym own_is)
          (record { there = below; maker = actor; coded = has_code (code_of (ByRouter r e)) entry c })
      by_event (OfFar e) c (p, own_is, below, actor) = subst (λ (o : Event). IsEntryOf setup o entry) (sym own_is)
          (record { there = below; maker = actor; coded = has_code (code_of (ByFar p e)) entry c })
      by_event (OfOperator e) c (own_is, actor) = subst (λ (o : Event). IsEntryOf setup o entry) (sym own_is)
          (record { there = tt; maker = actor; coded = has_code (code_of (ByOperator e)) entry c })

    pub spelled_is : IsEventOf setup entry.actor event own → IsSpelled own
    spelled_is is = by_event event prefix is where
      by_event : (e : ActorEvent) → EventHasPrefix e → IsEventOf setup entry.actor e own → IsSpelled own
      by_event (OfRouter e) has (r, own_is, below, actor) = subst IsSpelled (sym own_is) has
      by_event (OfFar e) has (p, own_is, below, actor) = subst IsSpelled (sym own_is) tt
      by_event (OfOperator e) has (own_is, actor) = subst IsSpelled (sym own_is) tt

own_is : (setup : Setup) (actor : ℕ) (event : ActorEvent) (own : Event) → IsEventOf setup actor event own → own_event own ≡ event
own_is setup actor (OfRouter event) own (r, is, below, here) = ap own_event is
own_is setup actor (OfFar event) own (p, is, below, here) = ap own_event is
own_is setup actor (OfOperator event) own (is, here) = ap own_event is

-- the entry of a Go is that of no other event
go_is : (setup : Setup) (own : Event) (entry : JournalEntry) → IsEntryOf setup own entry → is_go entry ≡ true → own ≡ ByOperator Go
go_is setup (ByRouter r event) entry is go =
    absurd (false≢true (sym (router_kind event) ∙ (ap (λ (k : ℕ). k == (operator_code Go).kind) (sym is.coded.kind) ∙ go)))
go_is setup (ByFar p event) entry is go =
    absurd (false≢true (sym (far_kind event) ∙ (ap (λ (k : ℕ). k == (operator_code Go).kind) (sym is.coded.kind) ∙ go)))
go_is setup (ByOperator (Order step number)) entry is go = absurd (
    let e : (operator_code (Order step number)).kind ≡ (operator_code Go).kind = sym is.coded.kind ∙ eqb-true entry.kind (operator_code Go).kind go in
    omega (arith, e))
go_is setup (ByOperator (Note router)) entry is go = absurd (
    let e : (operator_code (Note router)).kind ≡ (operator_code Go).kind = sym is.coded.kind ∙ eqb-true entry.kind (operator_code Go).kind go in
    omega (arith, e))
go_is setup (ByOperator Go) entry is go = refl

-- ---- what is sent

none_sent : (from : ℕ) (f : Auditor) → HasSent from f [] f
none_sent from f = record { same = refl; square = λ count is. is; channels = λ a b. by_test (a == from) (parcels f.inboxes.items a b) } where
  by_test : (t : Bool) (items : List Parcel) → items ≡ items ++ (if t then [] else [])
  by_test true items = sym (append-nil items)
  by_test false items = sym (append-nil items)

-- one item more at the end of a channel
module _ (before : ℕ → ℕ → List Parcel) (from to : ℕ) (item : Parcel) where
  not_itself : (n : ℕ) → (n == n) ≡ false → ⊥
  not_itself n e = let is : (n == n) ≡ true = eq-eqb n n refl in absurd cc

  by_receiver : (a b : ℕ) → a ≡ from → (u : Bool) → (b == to) ≡ u → (v : Bool) → (to == b) ≡ v
      → (if u then before from to ++ item ∷ [] else before from b) ≡ before a b ++ (if v then item ∷ [] else [])
  by_receiver a b d true e true h =
      ap (λ (n : ℕ). before n to ++ item ∷ []) (sym d) ∙ ap (λ (n : ℕ). before a n ++ item ∷ []) (sym (eqb-true b to e))
  by_receiver a b d true e false h = absurd (not_itself to (subst (λ (n : ℕ). (to == n) ≡ false) (eqb-true b to e) h))
  by_receiver a b d false e true h = absurd (not_itself b (subst (λ (n : ℕ). (b == n) ≡ false) (eqb-true to b h) e))
  by_receiver a b d false e false h = ap (λ (n : ℕ). before n b) (sym d) ∙ sym (append-nil (before a b))

  by_sender : (a b : ℕ) (t : Bool) → (a == from) ≡ t → (if t then at (before from) to (before from to ++ item ∷ []) else before a) b
      ≡ before a b ++ (if t then (if to == b then item ∷ [] else []) else [])
  by_sender a b true d = by_receiver a b (eqb-true a from d) (b == to) refl (to == b) refl
  by_sender a b false d = sym (append-nil (before a b))

pub one_sent : (from to : ℕ) (item : Parcel) (f g : Auditor) → g ≡ record f { inboxes = g.inboxes }
    → IsSquare (length f.inboxes.items) g.inboxes.items
    → parcels g.inboxes.items ≡ at2 (parcels f.inboxes.items) from to (parcels f.inboxes.items from to ++ item ∷ []) → HasSent from f ((to, item) ∷ []) g
one_sent from to item f g same square sent = record {
  same = same;
  square = λ count is. subst (λ (n : ℕ). IsSquare n g.inboxes.items) is.all square;
  channels = λ a b. ap (λ (p : ℕ → ℕ → List Parcel). p a b) sent ∙ by_sender (parcels f.inboxes.items) from to item a b (a == from) refl;
}

-- what a vector has when as many items are written over its own
pub refilled : {A : Type 0} (n : ℕ) (old new : List A) → n ≡ length old → length new ≡ length old → take n (new ++ drop (length new) old) ≡ new
refilled {A} n old new whole same = ap (λ (rest : List A). take n (new ++ rest)) (at_drop_all (λ (xs : List A). xs) old (length new) (omega (arith, same)))
    ∙ (ap (take n) (append-nil new) ∙ take_all n new (omega (arith, whole, same)))

-- ---- answers

module _ (entry : JournalEntry) (event : ActorEvent) (code : actor_code event ≡ code_in entry) (prefix : EventHasPrefix event) (f g : Auditor) (own : Event)
    (is : IsEventOf f.known.setup entry.actor event own) where
  maker_is : entry.actor ≡ number_in f.known.setup (maker_of own)
  maker_is = (entry_is f.known.setup entry event code prefix own is).maker

  -- it happened
  module _ (sent : List (ℕ × Parcel)) (happened : Happened own f sent g) where
    -- and it was sent
    module _ (from to : Option ℕ)
        (from_is : ((x : ActorName) → sender_in event ≡ Some x → IsActor f.known.setup x) → from ≡ option_map (number_in f.known.setup) (sender_in event))
        (to_is : map (λ x. x.0) sent ≡ option_to_list to) (h : Auditor) (has : HasSent entry.actor g sent h) where
      has_from : HasSent (number_in f.known.setup (maker_of own)) g sent h
      has_from = subst (λ (n : ℕ). HasSent n g sent h) maker_is has

      its : own_event own ≡ event
      its = own_is f.known.setup entry.actor event own is

      giver_is : from ≡ option_map (number_in f.known.setup) (sender_in (own_event own))
      giver_is = subst (λ (e : ActorEvent). ((x : ActorName) → sender_in e ≡ Some x → IsActor f.known.setup x)
          → from ≡ option_map (number_in f.known.setup) (sender_in e)) (sym its) from_is happened.giver

      at_go : is_go entry ≡ true → (from ≡ None) × (to ≡ None)
      at_go go =
          let is_it : own ≡ ByOperator Go = go_is f.known.setup own entry (entry_is f.known.setup entry event code prefix own is) go in (
            giver_is ∙ ap (λ (e : Event). option_map (number_in f.known.setup) (sender_in (own_event e))) is_it,
            nobody to (sym to_is ∙ ap (map (λ x. x.0)) (happened.at_go is_it)),
          )
        where
          nobody : (o : Option ℕ) → option_to_list o ≡ [] → o ≡ None
          nobody None e = refl
          nobody (Some n) e = absurd cc

      pub made : TakesEntry entry f (Made from to) h
      made = record {
        setup = ap (λ (k : Auditor). k.known.setup) has.same ∙ happened.setup;
        answers = λ w stands. record {
          after = happened.after;
          leads = record {
            event = own;
            spelled = spelled_is f.known.setup entry event code prefix own is;
            entry_of = entry_is f.known.setup entry event code prefix own is;
            step = happened.step w stands;
          };
          stands = happened.stands h has_from;
          moves = subst (λ (n : Option ℕ). MovesItems f.known.setup w happened.after (maker_of own) n to) (sym giver_is) (happened.moves w stands to to_is);
          at_go = at_go;
        };
        sound = happened.sound h has_from;
      }

  module _ (from : Option ℕ)
      (from_is : ((x : ActorName) → sender_in event ≡ Some x → IsActor f.known.setup x) → from ≡ option_map (number_in f.known.setup) (sender_in event)) where
    pub made_silent : Happened own f [] g → TakesEntry entry f (Made from None) g
    made_silent happened = made [] happened from None from_is refl g (none_sent entry.actor g)

    pub made_sending : (to : ℕ) (item : Parcel) → Happened own f ((to, item) ∷ []) g → (h : Auditor) → HasSent entry.actor g ((to, item) ∷ []) h
        → TakesEntry entry f (Made from (Some to)) h
    made_sending to item happened h has = made ((to, item) ∷ []) happened from (Some to) from_is refl h has

  -- it can't happen
  pub refused : IsRefused own f g → TakesEntry entry f Condition g
  refused rules = record {
    setup = rules.setup;
    answers = λ w stands. (
      record {
        event = own;
        spelled = spelled_is f.known.setup entry event code prefix own is;
        entry_of = entry_is f.known.setup entry event code prefix own is;
        none = λ after step. rules.none w after stands step;
      },
      rules.stands w stands,
    );
    sound = rules.sound;
  }

-- it is of no event
pub unknown : (entry : JournalEntry) (f g : Auditor) → AuditorInvariant f → g ≡ f → IsOfNoEvent f.known.setup entry → TakesEntry entry f Kind g
unknown entry f g inv same none = subst (TakesEntry entry f Kind) (sym same) (record { setup = refl; answers = λ w stands. (none, stands); sound = inv })
