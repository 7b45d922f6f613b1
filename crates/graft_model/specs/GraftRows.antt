-- The events of a router in a graft: the order, the freeze, the departure, the landing or the return, and the end. No standard defines them.
use Rattle.std.specs.Prelude.{◌≡◌, ℕ, suc, ◌<◌, List, [], ◌∷◌, length, filter, Option, Some, None, Bool, true, false, ◌||◌, is_some}
use Rattle.std.specs.FinMap as map
use Rattle.bgp_types.specs.Prefixes.{PrefixValue}
use Rattle.graft_steps.specs.declared.refusal.Refusal.{Refusal}
use Rattle.graft_steps.specs.declared.refusal.Outcome.TheVariants.{Accepted, Refused}
use Rattle.graft_steps.specs.Landings.{IsNextToAsk, AreAllAsked}
use Rattle.graft_steps.specs.Refusals.{freeze_refusal, admit_refusal}
use Rattle.session_value.specs.Sessions.{SessionValue, state, hold_time}
use Rattle.session_value.specs.Sets.{Prefixes, has, Marks}
use Rattle.graft_model.specs.Points.{at}
use Rattle.graft_model.specs.Setups.{Setup, routers_in, peerings_in, peering_numbers, room_of, missing_policy}
use Rattle.graft_model.specs.Parts.{Place, Vacant, Live, Frozen, Shadow, Leaving, Owing, Asking, RouterPart, Moved, Back, Asked, Answered, Done, PointAt}
use Rattle.graft_model.specs.RouterRows.{RouterTaken, OrderIn, MeshIn, RouterSent, MeshTo, OutwardTo, ReportOut, Alone, IsLive, BringsIn}

-- The order of a graft is stored with the live session that it is for.
pub record Admits (setup : Setup) (k : ℕ) (before : RouterPart) (taken : Option RouterTaken) (sent : List RouterSent) (after : RouterPart) : Type 0 where
  pub peering : ℕ
  pub target : ℕ
  pub takes : taken ≡ Some (OrderIn (record { graft = k; peering = peering; target = target }))
  pub sends : sent ≡ []
  pub known : target < routers_in setup
  pub session : SessionValue
  pub live : IsLive before peering session None
  pub effect : after ≡ record before { places = at before.places peering (Live session (Some (Leaving (record { graft = k; target = target })))) }

-- The source refuses the graft, and the session doesn't change.
pub record Refuses (r k : ℕ) (before : RouterPart) (taken : Option RouterTaken) (sent : List RouterSent) (after : RouterPart) : Type 0 where
  pub peering : ℕ
  pub target : ℕ
  pub session : SessionValue
  pub live : IsLive before peering session (Some (Leaving (record { graft = k; target = target })))
  pub refusal : Refusal
  pub cause : freeze_refusal (record { 0 = r }) (record { 0 = target }) (state session) (hold_time session) ≡ Some refusal
  pub takes : taken ≡ None
  pub sends : sent ≡ ReportOut (record { graft = k; outcome = Refused refusal }) ∷ []
  pub effect : after ≡ record before { places = at before.places peering (Live session None) }

-- The source freezes the session for the graft.
pub record Freezes (r k : ℕ) (before : RouterPart) (taken : Option RouterTaken) (sent : List RouterSent) (after : RouterPart) : Type 0 where
  pub alone : Alone taken sent
  pub peering : ℕ
  pub target : ℕ
  pub session : SessionValue
  pub live : IsLive before peering session (Some (Leaving (record { graft = k; target = target })))
  pub no_cause : freeze_refusal (record { 0 = r }) (record { 0 = target }) (state session) (hold_time session) ≡ None
  pub effect : after ≡ record before { places = at before.places peering (Frozen session (record { graft = k; target = target })) }

-- The frozen session leaves for the target. Its routes stay as a shadow, and nothing is due on the peering.
pub record Leaves (k : ℕ) (before : RouterPart) (taken : Option RouterTaken) (sent : List RouterSent) (after : RouterPart) : Type 0 where
  pub peering : ℕ
  pub target : ℕ
  pub session : SessionValue
  pub frozen : before.places peering ≡ Frozen session (record { graft = k; target = target })
  pub takes : taken ≡ None
  pub sends : sent ≡ MeshTo target (Moved k peering session) ∷ []
  pub effect : after ≡ record before { places = at before.places peering (Shadow k); due_out = at before.due_out peering map.empty }

-- ---- at the target

-- a place that is taken, by a session or a shadow
abbrev pub is_taken : Place → Bool
is_taken Vacant = false
is_taken (Live session errand) = true
is_taken (Frozen session order) = true
is_taken (Shadow graft) = true

-- the number of places of a router that are taken
abbrev pub taken_in : Setup → RouterPart → ℕ
taken_in setup part = length (filter (λ p. is_taken (part.places p)) (peering_numbers setup))

-- the first reason, if there is one, why a router doesn't take a session in
abbrev pub refusal_of : Setup → ℕ → RouterPart → SessionValue → Option Refusal
refusal_of setup r part session = admit_refusal (taken_in setup part) (room_of setup r) (missing_policy setup r session.config)

-- The next item of a router is a session that moves here, to a vacant place.
pub record Comes (setup : Setup) (q : ℕ) (before : RouterPart) (taken : Option RouterTaken) : Type 0 where
  pub graft : ℕ
  pub peering : ℕ
  pub session : SessionValue
  pub takes : taken ≡ Some (MeshIn q (Moved graft peering session))
  pub known : peering < peerings_in setup
  pub vacant : before.places peering ≡ Vacant

-- what is due again on a session that is live again: what was told on it, and what is best
pub record DueAgain (part : RouterPart) (session : SessionValue) (due : Prefixes) : Type 0 where
  pub members : (x : PrefixValue) → has due x ≡ (is_some (map.get session.adj_rib_out x) || is_some (map.get part.best x))

-- The session lands: its routes are taken in by the target's own policies, and the far side is told to point here. Word of the landing is owed to the
-- source.
pub record Lands (setup : Setup) (r q : ℕ) (before : RouterPart) (taken : Option RouterTaken) (sent : List RouterSent) (after : RouterPart) : Type 0 where
  pub comes : Comes setup q before taken
  pub admitted : refusal_of setup r before comes.session ≡ None
  pub sends : sent ≡ OutwardTo comes.peering (PointAt comes.graft) ∷ []
  pub entries : BringsIn setup r comes.session (after.entries comes.peering)
  pub dirty : Marks before.dirty (before.entries comes.peering) (after.entries comes.peering) after.dirty
  pub due : DueAgain before comes.session (after.due_out comes.peering)
  pub effect : after ≡ record before {
    places = at before.places comes.peering (Live comes.session (Some (Owing (record { graft = comes.graft; source = q; next = 0 }))));
    entries = at before.entries comes.peering (after.entries comes.peering);
    dirty = after.dirty;
    due_out = at before.due_out comes.peering (after.due_out comes.peering);
  }

-- The first router that was not asked, and is neither source nor target, is asked whether it has heard what was told. It is asked once no prefix is
-- dirty here and nothing is due to that router, so that the question comes after all routes that were told to it.
pub record Asks (setup : Setup) (r k q : ℕ) (before : RouterPart) (taken : Option RouterTaken) (sent : List RouterSent) (after : RouterPart) : Type 0 where
  pub peering : ℕ
  pub source : ℕ
  pub next : ℕ
  pub session : SessionValue
  pub live : IsLive before peering session (Some (Owing (record { graft = k; source = source; next = next })))
  pub asked : IsNextToAsk source r (routers_in setup) next q
  pub clean : (x : PrefixValue) → has before.dirty x ≡ false
  pub told : (x : PrefixValue) → has (before.due_in q) x ≡ false
  pub takes : taken ≡ None
  pub sends : sent ≡ MeshTo q (Asked k peering) ∷ []
  pub effect : after ≡ record before { places = at before.places peering (Live session (Some (Asking (record { graft = k; source = source; next = q })))) }

-- A router that is asked answers: it has heard all that came before the question.
pub record Answers (q : ℕ) (before : RouterPart) (taken : Option RouterTaken) (sent : List RouterSent) (after : RouterPart) : Type 0 where
  pub graft : ℕ
  pub peering : ℕ
  pub takes : taken ≡ Some (MeshIn q (Asked graft peering))
  pub sends : sent ≡ MeshTo q (Answered graft peering) ∷ []
  pub stays : after ≡ before

-- The pending answer for a landed session has come: the next router may be asked.
pub record Counts (q : ℕ) (before : RouterPart) (taken : Option RouterTaken) (sent : List RouterSent) (after : RouterPart) : Type 0 where
  pub graft : ℕ
  pub peering : ℕ
  pub takes : taken ≡ Some (MeshIn q (Answered graft peering))
  pub sends : sent ≡ []
  pub source : ℕ
  pub session : SessionValue
  pub live : IsLive before peering session (Some (Asking (record { graft = graft; source = source; next = q })))
  pub effect : after
      ≡ record before { places = at before.places peering (Live session (Some (Owing (record { graft = graft; source = source; next = suc q })))) }

-- An answer that isn't pending changes nothing.
pub record Ignores (q : ℕ) (before : RouterPart) (taken : Option RouterTaken) (sent : List RouterSent) (after : RouterPart) : Type 0 where
  pub graft : ℕ
  pub peering : ℕ
  pub takes : taken ≡ Some (MeshIn q (Answered graft peering))
  pub sends : sent ≡ []
  pub unawaited : (source : ℕ) (session : SessionValue)
      → IsLive before peering session (Some (Asking (record { graft = graft; source = source; next = q }))) → ⊥
  pub stays : after ≡ before

-- The source is told that its session has landed here. It is told once all other routers have answered, no prefix is dirty here and nothing is due to
-- another router, so that the word comes after all routes that were told to the source.
pub record Confirms (setup : Setup) (r k : ℕ) (before : RouterPart) (taken : Option RouterTaken) (sent : List RouterSent) (after : RouterPart) : Type 0 where
  pub peering : ℕ
  pub source : ℕ
  pub next : ℕ
  pub session : SessionValue
  pub live : IsLive before peering session (Some (Owing (record { graft = k; source = source; next = next })))
  pub answered : AreAllAsked source r (routers_in setup) next
  pub clean : (x : PrefixValue) → has before.dirty x ≡ false
  pub told : (q : ℕ) (x : PrefixValue) → has (before.due_in q) x ≡ false
  pub takes : taken ≡ None
  pub sends : sent ≡ MeshTo source (Done k peering) ∷ []
  pub effect : after ≡ record before { places = at before.places peering (Live session None) }

-- The target doesn't take the session in, and sends it back.
pub record TurnsBack (setup : Setup) (r q : ℕ) (before : RouterPart) (taken : Option RouterTaken) (sent : List RouterSent) (after : RouterPart) : Type 0 where
  pub comes : Comes setup q before taken
  pub refusal : Refusal
  pub cause : refusal_of setup r before comes.session ≡ Some refusal
  pub sends : sent ≡ MeshTo q (Back comes.graft comes.peering comes.session refusal) ∷ []
  pub stays : after ≡ before

-- ---- at the source again

-- The refused session is back: it is live again, and its entries were never removed.
pub record Returns (q : ℕ) (before : RouterPart) (taken : Option RouterTaken) (sent : List RouterSent) (after : RouterPart) : Type 0 where
  pub graft : ℕ
  pub peering : ℕ
  pub session : SessionValue
  pub refusal : Refusal
  pub takes : taken ≡ Some (MeshIn q (Back graft peering session refusal))
  pub shadow : before.places peering ≡ Shadow graft
  pub sends : sent ≡ ReportOut (record { graft = graft; outcome = Refused refusal }) ∷ []
  pub due : DueAgain before session (after.due_out peering)
  pub effect : after ≡ record before { places = at before.places peering (Live session None); due_out = at before.due_out peering (after.due_out peering) }

-- The session is at its target, and all routers have heard its routes from there: the shadow is removed, with the entries of the peering.
pub record Clears (q : ℕ) (before : RouterPart) (taken : Option RouterTaken) (sent : List RouterSent) (after : RouterPart) : Type 0 where
  pub graft : ℕ
  pub peering : ℕ
  pub takes : taken ≡ Some (MeshIn q (Done graft peering))
  pub shadow : before.places peering ≡ Shadow graft
  pub sends : sent ≡ ReportOut (record { graft = graft; outcome = Accepted }) ∷ []
  pub dirty : Marks before.dirty (before.entries peering) map.empty after.dirty
  pub effect : after ≡ record before { places = at before.places peering Vacant; entries = at before.entries peering map.empty; dirty = after.dirty }
