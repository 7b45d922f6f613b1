-- From whom an event took an item.
use Rattle.std.proofs.Common.{◌≡◌, ◌≢◌, ◌∙◌, ℕ, zero, suc, List, refl, ap, sym, subst, inl, inr, arith}
use Rattle.std.specs.Prelude.{Option, Some, None, option_map}
use Rattle.ring_net.specs.declared.entry.JournalEntry.{JournalEntry}
use Rattle.graft_model.specs.declared.code.Code.{Code}
use Rattle.graft_model.specs.Codes.{router_code, far_code, operator_code}
use Rattle.graft_model.specs.Parts.{RouterPart, FarPart, OperatorPart}
use Rattle.graft_model.specs.RouterRows.{RouterTaken, OrderIn, SegmentIn, MeshIn, RouterSent}
use Rattle.graft_model.specs.FarRows.{FarTaken, OutwardIn, SayIn, FarSent}
use Rattle.graft_model.specs.OperatorRows.{OperatorTaken, ReportIn, OperatorSent}
use Rattle.graft_model.specs.Setups.{Setup}
use Rattle.graft_model.specs.Steps as steps
use Rattle.graft_model.specs.declared.event.RouterEvent.{RouterEvent}
use Rattle.graft_model.specs.declared.event.FarEvent.{FarEvent}
use Rattle.graft_model.specs.declared.event.OperatorEvent.{OperatorEvent}
use Rattle.graft_model.specs.declared.event.RouterEvent.TheVariants.{Put, Emit, Arrive, Stray, Got, Decide, Tell, Hear, Admit, Refuse, Freeze}
use Rattle.graft_model.specs.declared.event.RouterEvent.TheVariants.{Leave, Return, Clear, Ask, Answer, Collect, Confirm, Tick}
use Rattle.graft_model.specs.declared.event.FarEvent.TheVariants.{Say, Send, Take, Pass, Reach, Lose, Point, Beat}
use Rattle.graft_model.specs.declared.event.OperatorEvent.TheVariants.{Order, Note, Go}
use Rattle.graft_model.specs.Steps.{router_row, far_row, operator_row}
use Rattle.graft_actors.specs.Actors.{ActorPart, RouterIs, FarIs, OperatorIs, Thing, ActorName, Router, FarSide, Operator, number_in, actor_at}
use Rattle.graft_actors.specs.Makes.{HasCode, makes_as, numbered, taken_by_router, taken_by_far, taken_by_operator}
use Rattle.graft_actors.proofs.Numbers.{of_number}
use Rattle.graft_actors.specs.Items.{thing_of}
use Rattle.graft_actors.specs.Acts.{OwnPart, ActsAs, IsWelcome, MayTakeFrom, TakesWelcome, things}
use Rattle.bgp_session.specs.Running.{carried}
use Rattle.world_nodes.specs.Nodes.{Mail}
use Rattle.real_rounds.specs.Entries.{sender_of}

-- the sender that an entry of this kind and first argument has
abbrev sender_at : ℕ → ℕ → Option ActorName
sender_at kind a = sender_of (record { clock = 0; actor = 0; kind = kind; a = a; b = 0; c = 0 })

sender_coded : (code : Code) (entry : JournalEntry) → HasCode code entry → sender_of entry ≡ sender_at code.kind code.a
sender_coded code entry coded = λ i. sender_at (coded.kind i) (coded.a i)

-- ---- by the rows

router_sender : (setup : Setup) (r : ℕ) (event : RouterEvent) (a b : RouterPart) (taken : Option RouterTaken) (sent : List RouterSent)
    → router_row setup r event a taken sent b
    → sender_at (router_code event).kind (router_code event).a ≡ option_map (λ t. (taken_by_router t).0) taken
router_sender setup r (Put p n) a b taken sent row = put n row
  where
    put : (n : ℕ) → steps.put_row setup r p n a taken sent b → None ≡ option_map (λ t. (taken_by_router t).0) taken
    put zero row = rw (row.alone.0) refl
    put (suc n) row = rw (row.alone.0) refl
router_sender setup r (Emit p from len) a b taken sent row = rw (row.takes) refl
router_sender setup r (Arrive p) a b taken sent row = rw (row.takes) refl
router_sender setup r (Stray p) a b taken sent row = rw (row.takes) refl
router_sender setup r (Got p) a b taken sent row = rw (row.alone.0) refl
router_sender setup r (Decide prefix) a b taken sent row = rw (row.alone.0) refl
router_sender setup r (Tell q prefix) a b taken sent row = rw (row.takes) refl
router_sender setup r (Hear q) a b taken sent row = rw (row.takes) refl
router_sender setup r (Admit k) a b taken sent row = rw (row.takes) refl
router_sender setup r (Refuse k) a b taken sent row = rw (row.takes) refl
router_sender setup r (Freeze k) a b taken sent row = rw (row.alone.0) refl
router_sender setup r (Leave k) a b taken sent row = rw (row.takes) refl
router_sender setup r (Return q) a b taken sent row = rw (row.takes) refl
router_sender setup r (Clear q) a b taken sent row = rw (row.takes) refl
router_sender setup r (Ask k q) a b taken sent row = rw (row.takes) refl
router_sender setup r (Answer q) a b taken sent row = rw (row.takes) refl
router_sender setup r (Collect q) a b taken sent (inl row) = rw (row.takes) refl
router_sender setup r (Collect q) a b taken sent (inr row) = rw (row.takes) refl
router_sender setup r (Confirm k) a b taken sent row = rw (row.takes) refl
router_sender setup r (Tick p round) a b taken sent row = rw (row.alone.0) refl
router_sender setup r _ a b taken sent row = rw (row.comes.takes) refl

far_sender : (setup : Setup) (p : ℕ) (event : FarEvent) (a b : FarPart) (taken : Option FarTaken) (sent : List FarSent) → far_row setup p event a taken sent b
    → sender_at (far_code event).kind (far_code event).a ≡ option_map (λ t. (taken_by_far t).0) taken
far_sender setup p (Say step) a b taken sent row = rw (row.takes) refl
far_sender setup p (Send from len) a b taken sent row = rw (row.takes) refl
far_sender setup p (Take router) a b taken sent row = rw (row.takes) refl
far_sender setup p (Pass index keep router) a b taken sent row = rw (row.takes) refl
far_sender setup p (Reach index keep) a b taken sent row = rw (row.takes) refl
far_sender setup p (Lose way index) a b taken sent row = rw (row.takes) refl
far_sender setup p (Point router) a b taken sent row = rw (row.takes) refl
far_sender setup p (Beat round) a b taken sent row = rw (row.takes) refl

operator_sender : (setup : Setup) (event : OperatorEvent) (a b : OperatorPart) (taken : Option OperatorTaken) (sent : List OperatorSent)
    → operator_row setup event a taken sent b
    → sender_at (operator_code event).kind (operator_code event).a ≡ option_map (λ t. (taken_by_operator t).0) taken
operator_sender setup (Order step number) a b taken sent (inl row) = rw (row.takes) refl
operator_sender setup (Order step number) a b taken sent (inr row) = rw (row.takes) refl
operator_sender setup (Note router) a b taken sent row = rw (row.takes) refl
operator_sender setup Go a b taken sent row = rw (row.takes) refl

-- ---- two senders of like things with one number are one

same_router : (setup : Setup) (t u : RouterTaken) → (taken_by_router t).1 ≡ (taken_by_router u).1
    → number_in setup (taken_by_router t).0 ≡ number_in setup (taken_by_router u).0 → (taken_by_router u).0 ≡ (taken_by_router t).0
same_router setup (OrderIn x) (OrderIn y) e f = refl
same_router setup (OrderIn x) (SegmentIn p y) e f = absurd cc
same_router setup (OrderIn x) (MeshIn q y) e f = absurd cc
same_router setup (SegmentIn p x) (OrderIn y) e f = absurd cc
same_router setup (SegmentIn p x) (SegmentIn q y) e f = ap FarSide (let h : q ≡ p = omega (arith, f) in h)
same_router setup (SegmentIn p x) (MeshIn q y) e f = absurd cc
same_router setup (MeshIn p x) (OrderIn y) e f = absurd cc
same_router setup (MeshIn p x) (SegmentIn q y) e f = absurd cc
same_router setup (MeshIn p x) (MeshIn q y) e f = ap Router (sym f)

same_far : (setup : Setup) (t u : FarTaken) → (taken_by_far t).1 ≡ (taken_by_far u).1
    → number_in setup (taken_by_far t).0 ≡ number_in setup (taken_by_far u).0 → (taken_by_far u).0 ≡ (taken_by_far t).0
same_far setup (OutwardIn p x) (OutwardIn q y) e f = ap Router (sym f)
same_far setup (OutwardIn p x) (SayIn y) e f = absurd cc
same_far setup (SayIn x) (OutwardIn q y) e f = absurd cc
same_far setup (SayIn x) (SayIn y) e f = refl

same_operator : (setup : Setup) (t u : OperatorTaken) → (taken_by_operator t).1 ≡ (taken_by_operator u).1
    → number_in setup (taken_by_operator t).0 ≡ number_in setup (taken_by_operator u).0 → (taken_by_operator u).0 ≡ (taken_by_operator t).0
same_operator setup (ReportIn p x) (ReportIn q y) e f = ap Router (sym f)

-- ---- an act

-- The item of an event was taken from the actor that its entry tells.
abbrev pub IsSentBy : Setup → JournalEntry → Option (ℕ × Mail) → Type 0
IsSentBy setup entry None = sender_of entry ≡ None
IsSentBy setup entry (Some x) = (name : ActorName) × (sender_of entry ≡ Some name) × (actor_at setup x.0 ≡ Some name)

-- what a row takes, of items of one type, with who sent each
module _ {T : Type 0} (by : T → ActorName × Thing) (setup : Setup)
    (same : (t u : T) → (by t).1 ≡ (by u).1 → number_in setup (by t).0 ≡ number_in setup (by u).0 → (by u).0 ≡ (by t).0) where
  abbrev Comes : Option ActorName → Thing → Type 0
  Comes None thing = ⊥
  Comes (Some from) thing = (t : T) × (by t ≡ (from, thing))

  named : (from : ℕ) (thing : Thing) (t : T) (at : Option ActorName) → actor_at setup from ≡ at → Comes at thing
      → ◌≡◌ {A = ℕ × Thing} (from, thing) (numbered setup (by t)) → actor_at setup from ≡ Some (by t).0
  named from thing t None is comes e = absurd comes
  named from thing t (Some name) is (u, u_is) e =
      let number : from ≡ number_in setup name = (of_number setup from name is).1 in
      is
      ∙ ap (λ (x : ActorName). Some x)
      (ap (λ (x : ActorName × Thing). x.0) (sym u_is) ∙ same t u (sym (ap (λ (x : ℕ × Thing). x.1) e) ∙ ap (λ (x : ActorName × Thing). x.1) (sym u_is))
      (sym (ap (λ (x : ℕ × Thing). x.0) e) ∙ number ∙ ap (λ (x : ActorName × Thing). number_in setup x.0) (sym u_is)))

  by_taken : (entry : JournalEntry) (taken : Option (ℕ × Mail)) (took : Option T) → sender_of entry ≡ option_map (λ t. (by t).0) took
      → option_map (λ x. (x.0, thing_of carried setup x.1)) taken ≡ option_map (λ t. numbered setup (by t)) took
      → ((from : ℕ) (item : Mail) → taken ≡ Some (from, item) → Comes (actor_at setup from) (thing_of carried setup item)) → IsSentBy setup entry taken
  by_taken entry None None sender e comes = sender
  by_taken entry None (Some t) sender e comes = absurd cc
  by_taken entry (Some x) None sender e comes = absurd cc
  by_taken entry (Some x) (Some t) sender e comes =
      ((by t).0, sender, named x.0 (thing_of carried setup x.1) t (actor_at setup x.0) refl (comes x.0 x.1 refl) (pair e))
    where
      pair : {A : Type 0} {u v : A} → Some u ≡ Some v → u ≡ v
      pair h = cc

router_comes : (setup : Setup) (r : ℕ) (part : RouterPart) (o : Option ActorName) (thing : Thing)
    → MayTakeFrom setup (Router r) (RouterIs part) o thing → Comes taken_by_router setup (same_router setup) o thing
router_comes setup r part None thing may = absurd may
router_comes setup r part (Some from) thing may = (may.0, may.1)

far_comes : (setup : Setup) (p : ℕ) (part : FarPart) (o : Option ActorName) (thing : Thing) → MayTakeFrom setup (FarSide p) (FarIs part) o thing
    → Comes taken_by_far setup (same_far setup) o thing
far_comes setup p part None thing may = absurd may
far_comes setup p part (Some from) thing may = (may.0, may.1)

operator_comes : (setup : Setup) (part : OperatorPart) (o : Option ActorName) (thing : Thing) → MayTakeFrom setup Operator (OperatorIs part) o thing
    → Comes taken_by_operator setup (same_operator setup) o thing
operator_comes setup part None thing may = absurd may
operator_comes setup part (Some from) thing may = (may.0, may.1)

row_sent : (setup : Setup) (name : ActorName) (p q : ActorPart) (entry : JournalEntry) (taken : Option (ℕ × Mail)) (sent : List (ℕ × Thing))
    → makes_as setup (Some name) p entry (option_map (λ x. (x.0, thing_of carried setup x.1)) taken) sent q
    → ((from : ℕ) (item : Mail) → taken ≡ Some (from, item) → MayTakeFrom setup name p (actor_at setup from) (thing_of carried setup item))
    → IsSentBy setup entry taken
row_sent setup (Router r) (RouterIs p) (RouterIs q) entry taken sent row may = by_taken taken_by_router setup (same_router setup) entry taken row.took
    (sender_coded (router_code row.event) entry row.coded ∙ router_sender setup r row.event p q row.took row.gave row.holds) row.is_taken
    (λ from item e. router_comes setup r p (actor_at setup from) (thing_of carried setup item) (may from item e))
row_sent setup (Router r) (RouterIs p) (FarIs q) entry taken sent row may = absurd row
row_sent setup (Router r) (RouterIs p) (OperatorIs q) entry taken sent row may = absurd row
row_sent setup (Router r) (FarIs p) q entry taken sent row may = absurd row
row_sent setup (Router r) (OperatorIs p) q entry taken sent row may = absurd row
row_sent setup (FarSide n) (FarIs p) (FarIs q) entry taken sent row may = by_taken taken_by_far setup (same_far setup) entry taken row.took
    (sender_coded (far_code row.event) entry row.coded ∙ far_sender setup n row.event p q row.took row.gave row.holds) row.is_taken
    (λ from item e. far_comes setup n p (actor_at setup from) (thing_of carried setup item) (may from item e))
row_sent setup (FarSide n) (FarIs p) (RouterIs q) entry taken sent row may = absurd row
row_sent setup (FarSide n) (FarIs p) (OperatorIs q) entry taken sent row may = absurd row
row_sent setup (FarSide n) (RouterIs p) q entry taken sent row may = absurd row
row_sent setup (FarSide n) (OperatorIs p) q entry taken sent row may = absurd row
row_sent setup Operator (OperatorIs p) (OperatorIs q) entry taken sent row may = by_taken taken_by_operator setup (same_operator setup) entry taken row.took
    (sender_coded (operator_code row.event) entry row.coded ∙ operator_sender setup row.event p q row.took row.gave row.holds) row.is_taken
    (λ from item e. operator_comes setup p (actor_at setup from) (thing_of carried setup item) (may from item e))
row_sent setup Operator (OperatorIs p) (RouterIs q) entry taken sent row may = absurd row
row_sent setup Operator (OperatorIs p) (FarIs q) entry taken sent row may = absurd row
row_sent setup Operator (RouterIs p) q entry taken sent row may = absurd row
row_sent setup Operator (FarIs p) q entry taken sent row may = absurd row

welcome_takes : (own : OwnPart) (taken : Option (ℕ × Mail)) → TakesWelcome carried own taken → (from : ℕ) (item : Mail) → taken ≡ Some (from, item)
    → IsWelcome carried own from item
welcome_takes own None welcome from item e = absurd cc
welcome_takes own (Some x) welcome from item e = subst (λ (y : ℕ × Mail). IsWelcome carried own y.0 y.1) (same e) welcome
  where
    same : {u v : ℕ × Mail} → Some u ≡ Some v → u ≡ v
    same h = cc

pub act_sent : (before after : OwnPart) (entry : JournalEntry) (taken : Option (ℕ × Mail)) (sent : List (ℕ × Mail))
    → ActsAs carried before entry taken sent after → entry.kind ≢ 0 → IsSentBy before.setup entry taken
act_sent before after entry taken sent act kept = elim act.does [
  | inl makes ↦ row_sent before.setup before.name before.part after.part entry taken
      (things carried before.setup sent) makes.row (λ from item e. (welcome_takes before taken makes.welcome from item e).takes)
  | inr drops ↦ absurd (kept drops.kind)
]
