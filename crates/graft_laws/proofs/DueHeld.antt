-- What is due on a peering is due where an established session is held.
use Rattle.std.proofs.Common.{◌≡◌, ◌≢◌, ◌==◌, ℕ, Bool, true, false, List, Option, Some, refl, sym, ap, ◌∙◌, subst, ◌⊎◌, inl, inr}
use Rattle.std.specs.Prelude.{◌||◌, ◌&&◌, ◌+◌, ◌%◌, ◌/◌}
use Rattle.std.proofs.lemmas.Bool.{cases_eq}
use Rattle.bgp_types.specs.declared.message.SessionState.{SessionState}
use Rattle.bgp_types.specs.declared.message.SessionState.TheVariants.{OpenSent, OpenConfirm, Established, Closed}
use Rattle.bgp_types.specs.FirstFault.{message_of}
use Rattle.bgp_types.specs.Prefixes.{PrefixValue, same_prefix}
use Rattle.bgp_story.specs.Legal.{expected_next, silence}
use Rattle.session_value.specs.Cases.{GetsFrame, PassesRound}
use Rattle.session_value.specs.Sessions.{SessionValue, peering_of, state, hold_time}
use Rattle.session_value.specs.Sets.{BestRoutes, Prefixes, has}
use Rattle.session_value.specs.Ties.{IsOfStory}
use Rattle.session_value.proofs.Gets as gets
use Rattle.session_value.proofs.Rounds as rounds
use Rattle.session_value.proofs.Updates as updates
use Rattle.graft_model.specs.First.{first_router}
use Rattle.graft_model.specs.Parts.{Mesh, Told, Moved, Back, Asked, Answered, Done, Errand, Place, Vacant, Live, Frozen, Shadow, RouterPart, World}
use Rattle.graft_model.specs.RouterRows.{RouterTaken, MeshIn, RouterSent, DueThen, Follows, update_for}
use Rattle.graft_model.specs.Setups.{Setup, IsSetup}
use Rattle.graft_model.specs.declared.event.RouterEvent.{RouterEvent}
use Rattle.graft_model.proofs.Footprints.{Carries, Holds, HoldsNone, OnePeering, ByFrame, ByRound, PeeringChange}
use Rattle.graft_model.proofs.Footprints.{Keeping, PuttingNothing, PuttingSome, Following, Emptying, Reviving, Deciding}
use Rattle.graft_model.proofs.Footprints.{Telling, Hearing, Staying, Changing, Footprint, footprint}
use Rattle.graft_model.specs.Steps.{Event, ByRouter, ByFar, ByOperator, Step, router_row, Heads}
use Rattle.graft_model.specs.TableRows.{Decides, DueEverywhere, holds_established, is_established}
use Rattle.graft_laws.specs.Keeps.{Reached}
use Rattle.graft_laws.specs.Moves.{RouterHeads}
use Rattle.graft_laws.specs.Tables.{DueIsHeld}
use Rattle.graft_laws.proofs.AwayUp.{moved_up, back_up}
use Rattle.graft_laws.proofs.Moves.{router_moves, far_moves, operator_moves}
use Rattle.graft_laws.proofs.PrefixTables.{has_none}
use Rattle.graft_laws.proofs.Routers.{at_keeps}
use Rattle.graft_laws.proofs.Runs.{carried}
use Rattle.graft_laws.proofs.TableLaws.{live_story}
use Rattle.graft_laws.proofs.ToldNone.{before_open, Rounds, round_is}

-- ---- an established session stays so until it closes

got_up : (s next : SessionValue) (bytes : List ℕ) → IsOfStory s → GetsFrame s bytes next → state s ≡ Established → state next ≢ Closed
    → state next ≡ Established
got_up s next bytes story g up unclosed = by_state (state next) refl where
  after_is : state next ≡ g.next
  after_is = ap state g.effect ∙ gets.state_next (peering_of s.config) s.story bytes g.answer g.next g.unclosed g.got g.reply story.tied.allowed

  not_open : state next ≢ Established → ⊥
  not_open other =
      let was : state s ≡ OpenSent = before_open (expected_next (peering_of s.config) s.story (state s)) bytes
      (message_of (expected_next (peering_of s.config) s.story (state s)) bytes) g.answer g.next refl g.reply
      (λ f. other (after_is ∙ f)) (λ f. unclosed (after_is ∙ f)) in
      let e : OpenSent ≡ Established = sym was ∙ up in cc

  by_state : (now : SessionState) → state next ≡ now → state next ≡ Established
  by_state Established e = e
  by_state Closed e = absurd (unclosed e)
  by_state OpenSent e = absurd (not_open (λ f. let g : OpenSent ≡ Established = sym e ∙ f in cc))
  by_state OpenConfirm e = absurd (not_open (λ f. let g : OpenConfirm ≡ Established = sym e ∙ f in cc))

round_up : (s next : SessionValue) (round : ℕ) → IsOfStory s → PassesRound s round next → state s ≡ Established → state next ≢ Closed → state next ≡ Established
round_up s next round story g up unclosed =
    let after_is : state next ≡ g.next =
    ap state g.effect ∙ rounds.state_next (peering_of s.config) s.story round g.answer g.next g.up g.runs g.later g.reply story.tied.allowed in
    let is : Rounds (state s) g.next g.answer =
    round_is (silence s.story + 1 == hold_time s) (round % (hold_time s / 3) == 0) (state s) g.next g.answer g.reply (λ c. unclosed (after_is ∙ c)) in
    after_is ∙ is.same ∙ up

-- ---- what is due as a session changes by itself

due_up : (a b : SessionState) (best : BestRoutes) (old new : Prefixes) (x : PrefixValue) → DueThen a b best old new → has new x ≡ true
    → (has old x ≡ true → a ≡ Established) → (a ≡ Established → b ≢ Closed → b ≡ Established) → b ≡ Established
due_up a Established best old new x due there was goes = refl
due_up OpenSent Closed best old new x due there was goes = let e : true ≡ false = sym there ∙ due x in absurd cc
due_up _ Closed best old new x due there was goes = let e : true ≡ false = sym there ∙ due x in absurd cc
due_up OpenSent OpenSent best old new x due there was goes = goes (was (ap (λ (s : Prefixes). has s x) (sym due) ∙ there)) (λ e. cc)
due_up OpenSent OpenConfirm best old new x due there was goes = goes (was (ap (λ (s : Prefixes). has s x) (sym due) ∙ there)) (λ e. cc)
due_up _ _ best old new x due there was goes = goes (was (ap (λ (s : Prefixes). has s x) (sym due) ∙ there)) (λ e. cc)

established_of : (s : SessionState) → is_established s ≡ true → s ≡ Established
established_of Established e = refl
established_of _ e = absurd cc

-- ---- places

-- a session that is held
held_as : (place : Place) (s : SessionValue) → Holds place s → holds_established place ≡ is_established (state s)
held_as Vacant s holds = absurd holds
held_as (Live t errand) s holds = ap (λ (z : SessionValue). is_established (state z)) holds
held_as (Frozen t order) s holds = ap (λ (z : SessionValue). is_established (state z)) holds
held_as (Shadow graft) s holds = absurd holds

none_held : (place : Place) → HoldsNone place → holds_established place ≡ true → ⊥
none_held Vacant none e = cc
none_held (Live s errand) none e = none s refl
none_held (Frozen s order) none e = none s refl
none_held (Shadow graft) none e = cc

-- ---- tests

and_left : (a b : Bool) → (a && b) ≡ true → a ≡ true
and_left true b e = refl
and_left false b e = e

one_or_last : (a b c : Bool) → (a || (b && c)) ≡ true → (a ≡ true) ⊎ (c ≡ true)
one_or_last true b c e = inl refl
one_or_last false true c e = inr e
one_or_last false false c e = absurd cc

-- ---- the rows

module _ (setup : Setup) (r : ℕ) (before after : RouterPart) (d : DueIsHeld before) where
  -- one place changes
  at_place : (p : ℕ) → OnePeering p before after → ((x : PrefixValue) → has (after.due_out p) x ≡ true → holds_established (after.places p) ≡ true)
      → DueIsHeld after
  at_place p one own = record {
    held = λ n x there. elim (cases_eq n p) [
      | inl is ↦ subst (λ (m : ℕ). has (after.due_out m) x ≡ true → holds_established (after.places m) ≡ true) (sym is) (own x) there
      | inr other ↦ ap holds_established (one.places n other) ∙ d.held n x (ap (λ (s : Prefixes). has s x) (sym (one.due_out n other)) ∙ there)
    ];
  }

  unchanged : after.places ≡ before.places → after.due_out ≡ before.due_out → DueIsHeld after
  unchanged places due = record {
    held = λ n x there. ap (λ (f : ℕ → Place). holds_established (f n)) places ∙ d.held n x (ap (λ (f : ℕ → Prefixes). has (f n) x) (sym due) ∙ there);
  }

  -- a session changes by itself
  follows : (p : ℕ) (s next : SessionValue) (o : Option Errand) → OnePeering p before after → before.places p ≡ Live s o
      → after.places p ≡ Live next o → Follows setup r p before s next o after
      → (state s ≡ Established → state next ≢ Closed → state next ≡ Established) → DueIsHeld after
  follows p s next o one live now row goes = at_place p one (λ x there. ap holds_established now
      ∙ ap is_established (due_up (state s) (state next) before.best (before.due_out p) (after.due_out p) x row.due there
      (λ e. established_of (state s) (sym (ap holds_established live) ∙ d.held p x e)) goes))

  decides : (prefix : PrefixValue) (taken : Option RouterTaken) (sent : List RouterSent) → Decides setup r prefix before taken sent after → DueIsHeld after
  decides prefix taken sent row = elim row.due [
    | inl stays ↦ unchanged (ap (λ (u : RouterPart). u.places) row.effect) stays.2
    | inr due ↦ record { held = λ n x there. ap (λ (u : RouterPart). holds_established (u.places n)) row.effect ∙ by_due due.1 n x there }
  ] where
    by_due : DueEverywhere setup r prefix before after → (n : ℕ) (x : PrefixValue) → has (after.due_out n) x ≡ true → holds_established (before.places n) ≡ true
    by_due due n x there = elim (one_or_last (has (before.due_out n) x) (same_prefix prefix x)
        (holds_established (before.places n)) (sym ((due.peerings n).members x) ∙ there)) [
          | inl was ↦ d.held n x was
          | inr holds ↦ holds
        ]

  pub due_row : (event : RouterEvent) (taken : Option RouterTaken) (sent : List RouterSent)
      → ((p : ℕ) (s : SessionValue) (o : Option Errand) → before.places p ≡ Live s o → IsOfStory s)
      → ((q : ℕ) (item : Mesh) (s : SessionValue) → taken ≡ Some (MeshIn q item) → Carries item s → state s ≡ Established)
      → router_row setup r event before taken sent after → DueIsHeld after
  due_row event taken sent story brought row = by_print (footprint setup r before after taken sent event row) where
    by_change : (p : ℕ) → OnePeering p before after → PeeringChange setup r p before taken sent after → DueIsHeld after
    by_change p one (Keeping session errand end live holds entries due) =
        at_place p one
        (λ x there. held_as (after.places p) _ holds ∙ ap holds_established (sym live) ∙ d.held p x (ap (λ (s : Prefixes). has s x) (sym due) ∙ there))
    by_change p one (PuttingNothing row) =
        at_place p one (λ x there. ap (λ (u : RouterPart). holds_established (u.places p)) row.effect
        ∙ d.held p x (and_left (has (before.due_out p) x) _ (sym (row.due.members x) ∙ there)))
    by_change p one (PuttingSome n row now) =
        let up : state row.next ≡ Established = ap state row.puts.effect
        ∙ updates.state_next (peering_of row.session.config) row.session.story
        (update_for row.attrs row.prefixes) row.puts.established row.puts.one_way (story p row.session row.errand row.live.is).tied.allowed in
        at_place p one (λ x there. ap holds_established now ∙ ap is_established up)
    by_change p one (Following s next o live now (ByFrame bytes gets) row) = follows p s next o one live now row (got_up s next bytes (story p s o live) gets)
    by_change p one (Following s next o live now (ByRound round passes) row) =
        follows p s next o one live now row (round_up s next round (story p s o live) passes)
    by_change p one (Emptying none entries due) =
        at_place p one (λ x there. let was = due x there in absurd (none_held (before.places p) was.1 (d.held p x was.0)))
    by_change p one (Reviving q item session errand takes carries now entries due) =
        at_place p one (λ x there. ap holds_established now ∙ ap is_established (brought q item session takes carries))

    by_print : Footprint setup r event before taken sent after → DueIsHeld after
    by_print (Deciding prefix row) = decides prefix taken sent row
    by_print (Telling q prefix row) = unchanged (ap (λ (u : RouterPart). u.places) row.effect) (ap (λ (u : RouterPart). u.due_out) row.effect)
    by_print (Hearing q row) = unchanged (ap (λ (u : RouterPart). u.places) row.effect) (ap (λ (u : RouterPart). u.due_out) row.effect)
    by_print (Staying silent is) = subst DueIsHeld (sym is) d
    by_print (Changing p silent one change) = by_change p one change

-- ---- runs

-- a session that comes with the next item is established
carried_up : (setup : Setup) (w : World) → IsSetup setup → Reached setup w → (a q : ℕ) (item : Mesh) (s : SessionValue) → Heads (w.mesh a q) item
    → Carries item s → state s ≡ Established
carried_up setup w sound reached a q (Told x route) s h carries = absurd carries
carried_up setup w sound reached a q (Moved k p t) s h carries = ap state (sym carries) ∙ moved_up setup w sound reached a q k p t h
carried_up setup w sound reached a q (Back k p t refusal) s h carries = ap state (sym carries) ∙ back_up setup w sound reached a q k p t refusal h
carried_up setup w sound reached a q (Asked k p) s h carries = absurd carries
carried_up setup w sound reached a q (Answered k p) s h carries = absurd carries
carried_up setup w sound reached a q (Done k p) s h carries = absurd carries

first_due : (setup : Setup) (r : ℕ) → DueIsHeld (first_router setup r)
first_due setup r = record { held = λ p x there. let e : true ≡ false = sym there ∙ has_none x in absurd cc }

abbrev AllHeld : World → Type 0
AllHeld w = (r : ℕ) → DueIsHeld (w.router r)

held_then : (setup : Setup) → IsSetup setup → (event : Event) (w v : World) → Reached setup w → Step setup event w v → AllHeld w → AllHeld v
held_then setup sound (ByRouter q event) w v reached x all r =
    let m = router_moves setup q event w v x in
    subst (λ (f : ℕ → RouterPart). DueIsHeld (f r)) (sym m.router) (at_keeps (λ n part. DueIsHeld part) w.router q x.part
    (due_row setup q (w.router q) x.part (all q) event x.taken x.sent (λ p s o live. live_story setup w sound reached q p s o live)
    (λ a item s e carries. carried_up setup w sound reached a q item s (subst (RouterHeads w q) e m.heads) carries) x.row) all r)
held_then setup sound (ByFar p event) w v reached x all r = subst (λ (f : ℕ → RouterPart). DueIsHeld (f r)) (sym (far_moves setup p event w v x).router) (all r)
held_then setup sound (ByOperator event) w v reached x all r =
    subst (λ (f : ℕ → RouterPart). DueIsHeld (f r)) (sym (operator_moves setup event w v x).router) (all r)

pub always_held : (setup : Setup) (w : World) → IsSetup setup → Reached setup w → (r : ℕ) → DueIsHeld (w.router r)
always_held setup w sound reached = carried setup AllHeld (first_due setup) (held_then setup sound) w reached
