-- The events of a run of the world are those of the laboratory that it is.
use Rattle.std.proofs.Common.{◌≡◌, ◌+◌, ◌-◌, ◌==◌, ℕ, true, false, List, [], ◌∷◌, length, map, refl, ap, sym, subst, ◌∙◌, arith, inl, inr, length-append}
use Rattle.std.specs.Prelude.{Option, Some, None}
use Rattle.std.proofs.lemmas.Bool.Decides.{nat_tests}
use Rattle.std.proofs.lemmas.List.{length-map}
use Rattle.ring_net.specs.declared.entry.JournalEntry.{JournalEntry}
use Rattle.ring_net.specs.Deeds.{Noted, items_for, deeds, entries_of}
use Rattle.journal_merge.specs.Worlds as worlds
use Rattle.journal_merge.specs.Worlds.{taken_of, takes_on, sends_on}
use Rattle.journal_merge.proofs.Orders.{equal_or_not}
use Rattle.graft_steps.specs.declared.item.Item.{Item}
use Rattle.session_value.specs.Sessions.{SessionValue}
use Rattle.graft_model.specs.Codes.{router_code, far_code, operator_code}
use Rattle.graft_model.specs.Setups.{Setup, IsSetup}
use Rattle.graft_model.specs.Parts.{World}
use Rattle.graft_model.specs.Quiet.{Quiet}
use Rattle.graft_model.specs.Steps.{Event, ByRouter, ByFar, ByOperator, Step, Run}
use Rattle.graft_model.specs.declared.event.OperatorEvent.TheVariants.{Order, Note, Go}
use Rattle.graft_model.proofs.GoAlone.{router_kind, far_kind}
use Rattle.graft_actors.specs.Actors.{Thing, MeshItem, ActorName, Router, FarSide, Operator, IsActor, actor_at}
use Rattle.graft_actors.specs.Laws.{maker_of, IsEntryOf, AreEntriesOf, IsGo, OneEventHasTheEntry}
use Rattle.graft_actors.specs.Seen.{channel_of}
use Rattle.graft_actors.proofs.Numbers.{there, some_same}
use Rattle.graft_actors.specs.Items.{thing_of}
use Rattle.graft_actors.specs.Acts.{OwnPart, acts}
use Rattle.graft_laws.specs.Keeps.{Reached}
use Rattle.world_runs.specs.Labs.{IsLab}
use Rattle.world_runs.specs.Runs.{IsStepOfLab}
use Rattle.world_runs.specs.Laws.{AnActIsAStep, NobodyWritesToItself}
use Rattle.graft_laws.proofs.Runs.{reached_more}
use Rattle.graft_laws.proofs.OneWorld.{one_run}
use Rattle.run_clocks.specs.Clocks.{on_way, clocked, clocked_in}
use Rattle.run_clocks.proofs.Supplies.{sends_here, sends_else, takes_here, takes_else, taken_itself}
use Rattle.run_clocks.proofs.Twins.{Twin, AreTwins}

-- ---- the beginning of a group

not_go : (kind go : ℕ) → (kind == go) ≡ false → kind ≡ go → ⊥
not_go kind go other same = absurd (let one : (kind == go) ≡ true = grind (arith, nat_tests) in let e : true ≡ false = sym one ∙ other in cc)

-- a group begins in a quiet world
go_quiet : (setup : Setup) (event : Event) (entry : JournalEntry) (w u : World) → IsEntryOf setup event entry → Step setup event w u → IsGo entry
    → Quiet setup w
go_quiet setup (ByRouter r event) entry w u is step go = absurd (not_go (router_code event).kind (operator_code Go).kind (router_kind event)
    (sym is.coded.kind ∙ go))
go_quiet setup (ByFar p event) entry w u is step go = absurd (not_go (far_code event).kind (operator_code Go).kind (far_kind event) (sym is.coded.kind ∙ go))
go_quiet setup (ByOperator (Order step number)) entry w u is made go = absurd
    (let e : (operator_code (Order step number)).kind ≡ (operator_code Go).kind = sym is.coded.kind ∙ go in omega (arith, e))
go_quiet setup (ByOperator (Note router)) entry w u is step go = absurd
    (let e : (operator_code (Note router)).kind ≡ (operator_code Go).kind = sym is.coded.kind ∙ go in omega (arith, e))
go_quiet setup (ByOperator Go) entry w u is step go = step.may

-- ---- one event

-- nobody has a channel to itself
to_itself : (w : World) → ((r : ℕ) → w.mesh r r ≡ []) → (x : ActorName) → channel_of w (Some x) (Some x) ≡ []
to_itself w none (Router r) = ap (map MeshItem) (none r)
to_itself w none (FarSide p) = refl
to_itself w none Operator = refl

module _ {C : Type 0} (session : C → SessionValue) (setup : Setup) where
  on_way_is : (lab : worlds.DeedWorld OwnPart (Item C)) (w : World) (x y : ActorName) (a b : ℕ) → IsLab session setup lab w → actor_at setup a ≡ Some x
      → actor_at setup b ≡ Some y → on_way w x y ≡ length (lab.channel a b)
  on_way_is lab w x y a b is_lab x_is y_is = (λ i. length (channel_of w (sym x_is i) (sym y_is i)))
      ∙ ap (λ (ts : List Thing). length ts) (sym (is_lab.sees.channels a b)) ∙ length-map (lab.channel a b) (thing_of session setup)

  module _ (lab next : worlds.DeedWorld OwnPart (Item C)) (n : Noted (Item C)) (event : Event) (w u : World) (before : IsLab session setup lab w)
      (after : IsLab session setup next u) (made : worlds.DeedStep (acts session) lab n.deed next)
      (is : IsEntryOf setup event n.deed.entry) (was_none : (r : ℕ) → w.mesh r r ≡ []) (is_none : (r : ℕ) → u.mesh r r ≡ []) where
    maker : actor_at setup n.deed.entry.actor ≡ Some (maker_of event)
    maker = ap (actor_at setup) is.maker ∙ there setup (maker_of event) is.there

    was_many : (a b : ℕ) → length (lab.channel a b) ≡ length (takes_on n.deed a b) + length (made.rest a b)
    was_many a b = ap (λ (xs : List (Item C)). length xs) (made.takes a b) ∙ length-append (takes_on n.deed a b) (made.rest a b)

    is_many : (a b : ℕ) → length (next.channel a b) ≡ length (made.rest a b) + length (sends_on n.deed a b)
    is_many a b = ap (λ (xs : List (Item C)). length xs) (made.sends a b) ∙ length-append (made.rest a b) (sends_on n.deed a b)

    took : (x : ActorName) (a : ℕ) → actor_at setup a ≡ Some x → on_way w x (maker_of event) - on_way u x (maker_of event) ≡ length (taken_of a n.deed.taken)
    took x a x_is =
        let was : on_way w x (maker_of event) ≡ length (lab.channel a n.deed.entry.actor) = on_way_is lab w x
        (maker_of event) a n.deed.entry.actor before x_is maker in
        let now : on_way u x (maker_of event) ≡ length (next.channel a n.deed.entry.actor) = on_way_is next u x
        (maker_of event) a n.deed.entry.actor after x_is maker in
        let taken : length (takes_on n.deed a n.deed.entry.actor) ≡ length (taken_of a n.deed.taken) = ap (λ (xs : List (Item C)). length xs)
        (takes_here n a n.deed.entry.actor refl) in
        elim (equal_or_not n.deed.entry.actor a) [
          | inl e ↦ (let same : x ≡ maker_of event = some_same x (maker_of event) (sym x_is ∙ ap (actor_at setup) (sym e) ∙ maker) in
              let none : on_way w x (maker_of event) ≡ 0 = ap (λ y. on_way w y (maker_of event)) same
              ∙ ap (λ (ts : List Thing). length ts) (to_itself w was_none (maker_of event)) in
              omega (arith, was, none, was_many a n.deed.entry.actor, taken))
          | inr ne ↦ (let sent : length (sends_on n.deed a n.deed.entry.actor) ≡ 0 = ap (λ (xs : List (Item C)). length xs)
              (sends_else n a n.deed.entry.actor ne) in
              omega (arith, was, now, was_many a n.deed.entry.actor, is_many a n.deed.entry.actor, taken, sent))
        ]

    sent : (y : ActorName) (b : ℕ) → actor_at setup b ≡ Some y → on_way u (maker_of event) y - on_way w (maker_of event) y ≡ length (items_for b n.deed.sent)
    sent y b y_is =
        let was : on_way w (maker_of event) y ≡ length (lab.channel n.deed.entry.actor b) = on_way_is lab w
        (maker_of event) y n.deed.entry.actor b before maker y_is in
        let now : on_way u (maker_of event) y ≡ length (next.channel n.deed.entry.actor b) = on_way_is next u
        (maker_of event) y n.deed.entry.actor b after maker y_is in
        let gave : length (sends_on n.deed n.deed.entry.actor b) ≡ length (items_for b n.deed.sent) = ap (λ (xs : List (Item C)). length xs)
        (sends_here n n.deed.entry.actor b refl) in
        elim (equal_or_not n.deed.entry.actor b) [
          | inl e ↦ (let same : y ≡ maker_of event = some_same y (maker_of event) (sym y_is ∙ ap (actor_at setup) (sym e) ∙ maker) in
              let none : on_way u (maker_of event) y ≡ 0 = ap (λ x. on_way u (maker_of event) x) same
              ∙ ap (λ (ts : List Thing). length ts) (to_itself u is_none (maker_of event)) in
              omega (arith, now, none, is_many n.deed.entry.actor b, gave))
          | inr ne ↦ (let taken : length (takes_on n.deed n.deed.entry.actor b) ≡ 0 = ap (λ (xs : List (Item C)). length xs)
              (takes_else n n.deed.entry.actor b ne) in
              omega (arith, was, now, was_many n.deed.entry.actor b, is_many n.deed.entry.actor b, taken, gave))
        ]

    from : (a : ℕ) (item : Item C) → n.deed.taken ≡ Some (a, item) → (x : ActorName) × (actor_at setup a ≡ Some x)
    from a item e = by_name (actor_at setup a) refl
      where
        some : length (takes_on n.deed a n.deed.entry.actor) ≡ 1
        some = ap (λ (xs : List (Item C)). length xs) (takes_here n a n.deed.entry.actor refl ∙ ap (λ t. taken_of a t) e ∙ taken_itself a item)

        none : actor_at setup a ≡ None → length (lab.channel a n.deed.entry.actor) ≡ 0
        none nobody = sym (length-map (lab.channel a n.deed.entry.actor) (thing_of session setup))
            ∙ ap (λ (ts : List Thing). length ts) (before.sees.channels a n.deed.entry.actor
            ∙ ap (λ o. channel_of w o (actor_at setup n.deed.entry.actor)) nobody)

        by_name : (o : Option ActorName) → actor_at setup a ≡ o → (x : ActorName) × (actor_at setup a ≡ Some x)
        by_name None nobody = absurd (omega (arith, some, none nobody, was_many a n.deed.entry.actor))
        by_name (Some x) h = (x, h)

    unknown : (x : ActorName) → (IsActor setup x → ⊥) → on_way w x (maker_of event) - on_way u x (maker_of event) ≡ 0
    unknown x nobody =
        let none : on_way w x (maker_of event) ≡ 0 = ap (λ (ts : List Thing). length ts)
        (before.sees.within.channels x (maker_of event) (λ one other. nobody one)) in
        omega (arith, none)

    step_twin : Twin setup (clocked event n.deed.entry w u) n
    step_twin = record { maker = maker; took = took; none = unknown; sent = sent; from = from; begins = refl; clock = refl }

-- ---- a run

module _ {C : Type 0} (session : C → SessionValue) (act_is_a_step : AnActIsAStep session) (itself : NobodyWritesToItself) (one_event : OneEventHasTheEntry)
    (setup : Setup) (sound : IsSetup setup) where
  pub run_twins : (events : List Event) (notes : List (Noted (Item C))) (lab last : worlds.DeedWorld OwnPart (Item C)) (w v : World) → Reached setup w
      → IsLab session setup lab w → AreEntriesOf setup events (entries_of notes)
      → (run : Run setup w events v) → worlds.DeedRun (acts session) lab (deeds notes) last
      → AreTwins setup (clocked_in setup w events (entries_of notes) v run) notes
  run_twins [] [] lab last w v reached is_lab are run made = tt
  run_twins [] (n ∷ notes) lab last w v reached is_lab are run made = absurd are
  run_twins (event ∷ events) [] lab last w v reached is_lab are run made = absurd are
  run_twins (event ∷ events) (n ∷ notes) lab last w v reached is_lab are (u, step, run) (mid, act, made) =
      let s : IsStepOfLab session setup w n.deed.entry mid = act_is_a_step setup lab mid n.deed w (maker_of event) sound reached is_lab
      (ap (actor_at setup) are.0.maker ∙ there setup (maker_of event) are.0.there) act
      (go_quiet setup event n.deed.entry w u are.0 step) in
      let same : event ≡ s.event = one_event setup event s.event n.deed.entry are.0 s.entry_of in
      let other : Step setup event w s.after = subst (λ (e : Event). Step setup e w s.after) (sym same) s.step in
      let there_too : s.after ≡ u = one_run setup (event ∷ []) w u s.after sound reached (u, step, refl) (s.after, other, refl) in
      let mid_lab : IsLab session setup mid u = subst (λ (z : World). IsLab session setup mid z) there_too s.lab in
      let next : Reached setup u = reached_more setup event w u reached step in (
        step_twin session setup lab mid n event w u is_lab mid_lab act are.0 (λ r. itself setup w r sound reached)
            (λ r. itself setup u r sound next),
        run_twins events notes mid last u v next mid_lab are.1 run made,
      )
