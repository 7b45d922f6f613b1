-- What has to be where an event happens.
use Rattle.std.proofs.Common.{◌≡◌, ◌==◌, cond, ℕ, zero, suc, ◌+◌, ◌<◌, ◌≤◌, Bool, true, false, List, [], ◌∷◌}
use Rattle.std.proofs.Common.{◌++◌, Option, Some, None, refl, sym, ap, ◌∙◌, subst, inl, inr, arith}
use Rattle.std.specs.Prelude.{◌≢◌, ◌⊎◌, ◌&&◌, not, nat_le, Contains}
use Rattle.std.specs.List.{list_any}
use Rattle.std.proofs.lemmas.Bool.Decides.{nat_tests}
use Rattle.std.proofs.lemmas.List.Elements.{All-contains, Contains-append_left}
use Rattle.std.proofs.lemmas.List.Filters.{length-filter_both}
use Rattle.std.proofs.lemmas.List.FromFn.{length-range_with_len}
use Rattle.std.proofs.lemmas.Map.Views.{Contains-from_any}
use Rattle.bgp_types.specs.declared.message.SessionState.{SessionState}
use Rattle.bgp_types.specs.declared.message.SessionState.TheVariants.{OpenSent, OpenConfirm, Established, Closed}
use Rattle.bgp_types.specs.Prefixes.{PrefixValue, same_prefix}
use Rattle.bgp_types.proofs.OnceLaws.{is_same}
use Rattle.graft_steps.specs.declared.refusal.Refusal.{Refusal}
use Rattle.graft_steps.specs.declared.refusal.Refusal.TheVariants.{SameRouter, NotEstablished, HoldTooShort, RouterFull, PolicyMissing}
use Rattle.graft_steps.specs.declared.refusal.Outcome.TheVariants.{Refused}
use Rattle.graft_steps.specs.Landings.{IsNextToAsk, AreAllAsked}
use Rattle.graft_steps.specs.Refusals.{freeze_refusal, admit_refusal, session_refusal, is_too_short}
use Rattle.session_value.specs.Sessions.{SessionValue, state, hold_time}
use Rattle.session_value.specs.Sets.{has}
use Rattle.graft_model.specs.Setups.{Setup, peerings_in, peering_numbers, routers_in, room_of, missing_policy}
use Rattle.graft_model.specs.Parts.{Place, Vacant, Live, Frozen, Shadow, Leaving, Owing, RouterPart, GraftOrder, Moved, Back, Asked, Done}
use Rattle.graft_model.specs.Decisions.{to_tell}
use Rattle.graft_model.specs.RouterRows.{RouterTaken, OrderIn, MeshIn, RouterSent, MeshTo, ReportOut, IsToTell}
use Rattle.graft_model.specs.GraftRows.{Admits, Refuses, Freezes, Leaves, Lands, Asks, Confirms, TurnsBack, taken_in, is_taken}
use Rattle.graft_model.specs.Steps.{Put, router_row}
use Rattle.graft_model.specs.Conditions.{MayFreeze, IsWhyNotFrozen, is_vacant, vacant_in, HasRoom, IsWhyNot}
use Rattle.graft_model.proofs.Items.{moved_is}

-- ---- what is due and dirty stays due

both_ways : (b : Bool) → b ≡ true → b ≡ false → ⊥
both_ways b is is_not = absurd cc

pub still_due : (setup : Setup) (r p n : ℕ) (x : PrefixValue) (before after : RouterPart) (taken : Option RouterTaken) (sent : List RouterSent)
    → router_row setup r (Put p n) before taken sent after → has before.dirty x ≡ true → has (before.due_out p) x ≡ true → has (after.due_out p) x ≡ true
still_due setup r p zero x before after taken sent row dirty due =
    row.due.members x ∙ (ap (λ (z : Bool). z && not (not (has before.dirty x))) due ∙ ap (λ (z : Bool). not (not z)) dirty)
still_due setup r p (suc n) x before after taken sent row dirty due =
    row.due.members x
    ∙ (ap (λ (z : Bool). z && not (list_any (same_prefix x) row.prefixes)) due ∙ ap not (unput (list_any (same_prefix x) row.prefixes) refl)) where
      told : (y : PrefixValue) → Contains (row.prefixes ++ row.later) y
          → IsToTell setup r before p row.session y × (to_tell setup r before row.session y ≡ row.attrs)
      told y there = All-contains (λ z. IsToTell setup r before p row.session z × (to_tell setup r before row.session z ≡ row.attrs))
          (row.prefixes ++ row.later) y row.alike.each there

      unput : (t : Bool) → list_any (same_prefix x) row.prefixes ≡ t → t ≡ false
      unput false is = refl
      unput true is = absurd (both_ways (has before.dirty x) dirty
          (told x (Contains-append_left row.prefixes row.later x (Contains-from_any is_same x row.prefixes is))).0.0.1)

-- ---- orders and freezes

ordered_is : (k p t : ℕ) (o : GraftOrder) → Some (OrderIn o) ≡ Some (OrderIn (record { graft = k; peering = p; target = t }))
    → o ≡ record { graft = k; peering = p; target = t }
ordered_is k p t o e = cc

pub admits : (setup : Setup) (r k : ℕ) (order : GraftOrder) (before after : RouterPart) (sent : List RouterSent)
    → Admits setup k before (Some (OrderIn order)) sent after
    → (order.graft ≡ k) × (order.target < routers_in setup) × (session : SessionValue) × (before.places order.peering ≡ Live session None)
admits setup r k order before after sent row =
    let e = sym (ordered_is k row.peering row.target order row.takes) in
    subst (λ (o : GraftOrder). (o.graft ≡ k) × (o.target < routers_in setup) × (session : SessionValue) × (before.places o.peering ≡ Live session None)) e
    (refl, row.known, row.session, row.live.is)

abbrev MayGo : ℕ → ℕ → SessionState → ℕ → Type 0
MayGo r t s h = (s ≡ Established) × (t ≢ r) × ((h ≡ 0) ⊎ (30 ≤ h))

no_cause : (r t : ℕ) (s : SessionState) (h : ℕ) → freeze_refusal (record { 0 = r }) (record { 0 = t }) s h ≡ None → MayGo r t s h
no_cause r t OpenSent h e = absurd (grind (arith, nat_tests))
no_cause r t OpenConfirm h e = absurd (grind (arith, nat_tests))
no_cause r t Closed h e = absurd (grind (arith, nat_tests))
no_cause r t Established h e = (refl, grind (arith, nat_tests), grind (arith, nat_tests))

pub freezes : (r k : ℕ) (before after : RouterPart) (taken : Option RouterTaken) (sent : List RouterSent) → Freezes r k before taken sent after
    → MayFreeze r k before
freezes r k before after taken sent row =
    let may = no_cause r row.target (state row.session) (hold_time row.session) row.no_cause in
    record { peering = row.peering; target = row.target; session = row.session; live = row.live.is; established = may.0; elsewhere = may.1; long = may.2 }

-- why not, of the state and the hold time of a session
abbrev WhyStays : ℕ → ℕ → SessionState → ℕ → Refusal → Type 0
WhyStays r t s h refusal =
    ((t ≡ r) × (refusal ≡ SameRouter))
    ⊎ (((t ≢ r) × (s ≢ Established) × (refusal ≡ NotEstablished s))
    ⊎ ((t ≢ r) × (s ≡ Established) × (0 < h) × (h < 30) × (refusal ≡ HoldTooShort h)))

same_refusal : (x y : Refusal) → Some x ≡ Some y → y ≡ x
same_refusal x y e = cc

of_session : (r t : ℕ) (s : SessionState) (h : ℕ) (refusal : Refusal) → t ≢ r → session_refusal s h ≡ Some refusal → WhyStays r t s h refusal
of_session r t OpenSent h refusal other e = inr (inl (other, (λ up. cc), same_refusal (NotEstablished OpenSent) refusal e))
of_session r t OpenConfirm h refusal other e = inr (inl (other, (λ up. cc), same_refusal (NotEstablished OpenConfirm) refusal e))
of_session r t Closed h refusal other e = inr (inl (other, (λ up. cc), same_refusal (NotEstablished Closed) refusal e))
of_session r t Established h refusal other e = by_test (is_too_short h) refl e where
  by_test : (b : Bool) → is_too_short h ≡ b → cond b (Some (HoldTooShort h)) None ≡ Some refusal → WhyStays r t Established h refusal
  by_test true is f = inr (inr (other, refl, grind (arith, nat_tests), grind (arith, nat_tests), same_refusal (HoldTooShort h) refusal f))
  by_test false is f = absurd cc

cause : (r t : ℕ) (s : SessionState) (h : ℕ) (refusal : Refusal) → freeze_refusal (record { 0 = r }) (record { 0 = t }) s h ≡ Some refusal
    → WhyStays r t s h refusal
cause r t s h refusal e = by_test (t == r) refl e where
  by_test : (b : Bool) → (t == r) ≡ b → cond b (Some SameRouter) (session_refusal s h) ≡ Some refusal → WhyStays r t s h refusal
  by_test true is f = inl (grind (arith, nat_tests), same_refusal SameRouter refusal f)
  by_test false is f = of_session r t s h refusal (grind (arith, nat_tests)) f

pub refuses : (r k : ℕ) (before after : RouterPart) (taken : Option RouterTaken) (sent : List RouterSent) → Refuses r k before taken sent after
    → (p : ℕ) × (session : SessionValue) × (target : ℕ) × (refusal : Refusal)
    × (before.places p ≡ Live session (Some (Leaving (record { graft = k; target = target }))))
    × IsWhyNotFrozen r target session refusal × (sent ≡ ReportOut (record { graft = k; outcome = Refused refusal }) ∷ [])
refuses r k before after taken sent row = (
  row.peering,
  row.session,
  row.target,
  row.refusal,
  row.live.is,
  cause r row.target (state row.session) (hold_time row.session) row.refusal row.cause,
  row.sends,
)

pub leaves : (k : ℕ) (before after : RouterPart) (taken : Option RouterTaken) (sent : List RouterSent) → Leaves k before taken sent after
    → (p : ℕ) × (session : SessionValue) × (target : ℕ)
    × (before.places p ≡ Frozen session (record { graft = k; target = target })) × (sent ≡ MeshTo target (Moved k p session) ∷ [])
leaves k before after taken sent row = (row.peering, row.session, row.target, row.frozen, row.sends)

pub asks : (setup : Setup) (r k q : ℕ) (before after : RouterPart) (taken : Option RouterTaken) (sent : List RouterSent)
    → Asks setup r k q before taken sent after
    → (p : ℕ) × (session : SessionValue) × (source : ℕ) × (next : ℕ)
    × (before.places p ≡ Live session (Some (Owing (record { graft = k; source = source; next = next }))))
    × IsNextToAsk source r (routers_in setup) next q × (sent ≡ MeshTo q (Asked k p) ∷ [])
asks setup r k q before after taken sent row = (row.peering, row.session, row.source, row.next, row.live.is, row.asked, row.sends)

pub confirms : (setup : Setup) (r k : ℕ) (before after : RouterPart) (taken : Option RouterTaken) (sent : List RouterSent)
    → Confirms setup r k before taken sent after
    → (p : ℕ) × (session : SessionValue) × (source : ℕ) × (next : ℕ)
    × (before.places p ≡ Live session (Some (Owing (record { graft = k; source = source; next = next }))))
    × AreAllAsked source r (routers_in setup) next × (sent ≡ MeshTo source (Done k p) ∷ [])
confirms setup r k before after taken sent row = (row.peering, row.session, row.source, row.next, row.live.is, row.answered, row.sends)

-- ---- landings

taken_or_vacant : (place : Place) → is_vacant place ≡ not (is_taken place)
taken_or_vacant Vacant = refl
taken_or_vacant (Live session order) = refl
taken_or_vacant (Frozen session order) = refl
taken_or_vacant (Shadow graft) = refl

pub counted : (setup : Setup) (part : RouterPart) → taken_in setup part + vacant_in setup part ≡ peerings_in setup
counted setup part =
    length-filter_both (λ p. is_taken (part.places p)) (λ p. is_vacant (part.places p)) (λ p. taken_or_vacant (part.places p)) (peering_numbers setup)
    ∙ length-range_with_len 0 (peerings_in setup)

no_refusal : (held room : ℕ) (missing : Option (List ℕ)) → admit_refusal held room missing ≡ None → (held < room) × (missing ≡ None)
no_refusal held room None e = (grind (arith, nat_tests), refl)
no_refusal held room (Some name) e = absurd (grind (arith, nat_tests))

some_refusal : (held room : ℕ) (missing : Option (List ℕ)) (refusal : Refusal) → admit_refusal held room missing ≡ Some refusal
    → ((room ≤ held) × (refusal ≡ RouterFull room)) ⊎ ((held < room) × (name : List ℕ) × (missing ≡ Some name) × (refusal ≡ PolicyMissing name))
some_refusal held room missing refusal e = by_test missing e (nat_le room held) refl where
  by_test : (m : Option (List ℕ)) → admit_refusal held room m ≡ Some refusal → (t : Bool) → nat_le room held ≡ t
      → ((room ≤ held) × (refusal ≡ RouterFull room)) ⊎ ((held < room) × (name : List ℕ) × (m ≡ Some name) × (refusal ≡ PolicyMissing name))
  by_test m f true is = inl (grind (arith, nat_tests), grind (arith, nat_tests))
  by_test None f false is = absurd (grind (arith, nat_tests))
  by_test (Some name) f false is = inr (grind (arith, nat_tests), name, refl, grind (arith, nat_tests))

module _ (setup : Setup) (r q k p : ℕ) (session : SessionValue) (before after : RouterPart) (sent : List RouterSent) where
  pub lands : Lands setup r q before (Some (MeshIn q (Moved k p session))) sent after
      → (before.places p ≡ Vacant) × (p < peerings_in setup) × HasRoom setup r before × (missing_policy setup r session.config ≡ None)
  lands row =
      let e = moved_is q k row.comes.graft p row.comes.peering session row.comes.session row.comes.takes in
      let may = no_refusal (taken_in setup before) (room_of setup r) (missing_policy setup r row.comes.session.config) row.admitted in
      let n = counted setup before in
      let held : taken_in setup before < room_of setup r = may.0 in
      let room : HasRoom setup r before = omega arith in (
        ap before.places e.1 ∙ row.comes.vacant,
        subst (λ (z : ℕ). z < peerings_in setup) (sym e.1) row.comes.known,
        room,
        ap (λ (z : SessionValue). missing_policy setup r z.config) e.2 ∙ may.1,
      )

  abbrev Why : SessionValue → Refusal → Type 0
  Why came refusal = ((room_of setup r ≤ taken_in setup before) × (refusal ≡ RouterFull (room_of setup r)))
      ⊎ ((taken_in setup before < room_of setup r) × (name : List ℕ) × (missing_policy setup r came.config ≡ Some name) × (refusal ≡ PolicyMissing name))

  why_not : (came : SessionValue) (refusal : Refusal) → Why came refusal → taken_in setup before + vacant_in setup before ≡ peerings_in setup
      → session ≡ came → IsWhyNot setup r before session refusal
  why_not came refusal (inl full) n e = inl ((λ (has : HasRoom setup r before). let f = full.0 in absurd (omega arith)), full.1)
  why_not came refusal (inr missing) n e =
      let f = missing.0 in inr (omega arith, missing.1, ap (λ (z : SessionValue). missing_policy setup r z.config) e ∙ missing.2, missing.3)

  sent_back : (l m : ℕ) (came : SessionValue) (refusal : Refusal) → k ≡ l → p ≡ m → session ≡ came
      → MeshTo q (Back l m came refusal) ∷ [] ≡ MeshTo q (Back k p session refusal) ∷ []
  sent_back l m came refusal e f g = cc

  pub turns_back : TurnsBack setup r q before (Some (MeshIn q (Moved k p session))) sent after
      → (before.places p ≡ Vacant) × (p < peerings_in setup) × (refusal : Refusal)
      × IsWhyNot setup r before session refusal × (sent ≡ MeshTo q (Back k p session refusal) ∷ [])
  turns_back row =
      let e = moved_is q k row.comes.graft p row.comes.peering session row.comes.session row.comes.takes in
      let why = some_refusal (taken_in setup before) (room_of setup r) (missing_policy setup r row.comes.session.config) row.refusal row.cause in (
        ap before.places e.1 ∙ row.comes.vacant,
        subst (λ (z : ℕ). z < peerings_in setup) (sym e.1) row.comes.known,
        row.refusal,
        why_not row.comes.session row.refusal why (counted setup before) e.2,
        row.sends ∙ sent_back row.comes.graft row.comes.peering row.comes.session row.refusal e.0 e.1 e.2,
      )
