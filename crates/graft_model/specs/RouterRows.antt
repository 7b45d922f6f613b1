-- The events of a router on its sessions: messages, segments and rounds (RFC 4271, sections 6, 8.2.2 and 9.2; RFC 9293, section 3.4). Each row says
-- what the event takes, what it sends, and the router's part after it; what isn't named stays the same.
use Rattle.std.specs.Prelude.{◌≡◌, ◌≢◌, ◌⊎◌, ℕ, List, [], ◌∷◌, ◌++◌, length, Option, Some, None, true, false, is_some, not}
use Rattle.std.specs.FinMap as map
use Rattle.std.specs.List.{list_any}
use Rattle.std.specs.Ordering.{is_lt}
use Rattle.bgp_types.specs.declared.attrs.Attrs.{Attrs}
use Rattle.bgp_types.specs.declared.message.SessionState.{SessionState}
use Rattle.bgp_types.specs.declared.message.SessionState.TheVariants.{OpenConfirm, Established, Closed}
use Rattle.bgp_types.specs.Prefixes.{PrefixValue, same_prefix}
use Rattle.bgp_types.specs.Tables.{prefix_cmp}
use Rattle.tcp_seq.specs.Endpoint.{Endpoint, PlacedSegment, TakesSegment}
use Rattle.session_value.specs.Sessions.{SessionValue, state}
use Rattle.session_value.specs.Cases.{GetsFrame, PutsUpdate, PassesRound}
pub use Rattle.session_value.specs.Cases.{update_for}
use Rattle.session_value.specs.Sets.{BestRoutes, Prefixes, has, Marks}
use Rattle.graft_model.specs.Points.{at}
use Rattle.graft_model.specs.Slices.{EmitsAt}
use Rattle.graft_model.specs.Sets.{Drops, Lists}
use Rattle.graft_model.specs.Setups.{Setup}
use Rattle.graft_model.specs.Parts.{Errand, Live, RouterPart, Entries, Mesh, Outward, Seg, GraftOrder, Report}
use Rattle.graft_model.specs.Decisions.{entry_of, to_tell}

-- an item that a router may take: the next item of the operator's channel, of a far side's, or of another router's
pub data RouterTaken : Type 0 where
  OrderIn : GraftOrder → RouterTaken
  SegmentIn : (peering : ℕ) → PlacedSegment → RouterTaken
  MeshIn : (router : ℕ) → Mesh → RouterTaken

-- an item that a router may send: to another router, to a far side, to the operator
pub data RouterSent : Type 0 where
  MeshTo : (router : ℕ) → Mesh → RouterSent
  OutwardTo : (peering : ℕ) → Outward → RouterSent
  ReportOut : Report → RouterSent

-- the event takes nothing and sends nothing
abbrev pub Alone : Option RouterTaken → List RouterSent → Type 0
Alone taken sent = (taken ≡ None) × (sent ≡ [])

-- the live session of a peering at a router, with its errand, if any
pub record IsLive (part : RouterPart) (p : ℕ) (session : SessionValue) (errand : Option Errand) : Type 0 where
  pub is : part.places p ≡ Live session errand

-- ---- what is put

-- a prefix is due on the peering, and not dirty
abbrev pub WaitsOnPeering : RouterPart → ℕ → PrefixValue → Type 0
WaitsOnPeering part p prefix = (has (part.due_out p) prefix ≡ true) × (has part.dirty prefix ≡ false)

-- it is due and not dirty, and what was told of it isn't what is to be told now
abbrev pub IsToTell : Setup → ℕ → RouterPart → ℕ → SessionValue → PrefixValue → Type 0
IsToTell setup r part p session prefix = WaitsOnPeering part p prefix × (map.get session.adj_rib_out prefix ≢ to_tell setup r part session prefix)

-- Everything that is due and not dirty was told as it is to be; it is no longer due.
pub record PutsNothing (setup : Setup) (r p : ℕ) (before : RouterPart) (taken : Option RouterTaken) (sent : List RouterSent) (after : RouterPart) : Type 0 where
  pub alone : Alone taken sent
  pub session : SessionValue
  pub errand : Option Errand
  pub live : IsLive before p session errand
  pub established : state session ≡ Established
  pub prefix : PrefixValue
  pub waits : WaitsOnPeering before p prefix
  pub nothing : (x : PrefixValue) → IsToTell setup r before p session x → ⊥
  pub due : Drops (before.due_out p) (λ x. not (has before.dirty x)) (after.due_out p)
  pub effect : after ≡ record before { due_out = at before.due_out p (after.due_out p) }

-- One UPDATE is put, with the first n of the prefixes that are to be told the same as the very first one. They are no longer due.
pub record PutsSome (setup : Setup) (r p n : ℕ) (before : RouterPart) (taken : Option RouterTaken) (sent : List RouterSent) (after : RouterPart) : Type 0 where
  pub alone : Alone taken sent
  pub session : SessionValue
  pub errand : Option Errand
  pub live : IsLive before p session errand
  pub first : PrefixValue
  pub is_to_tell : IsToTell setup r before p session first
  pub least : (x : PrefixValue) → IsToTell setup r before p session x → is_lt (prefix_cmp x first) ≡ false
  pub attrs : Option Attrs
  pub told_first : attrs ≡ to_tell setup r before session first
  pub prefixes : List PrefixValue
  pub later : List PrefixValue
  pub alike : Lists (λ x. IsToTell setup r before p session x × (to_tell setup r before session x ≡ attrs)) (prefixes ++ later)
  pub size : length prefixes ≡ n
  pub next : SessionValue
  pub puts : PutsUpdate session (update_for attrs prefixes) next
  pub due : Drops (before.due_out p) (λ x. list_any (same_prefix x) prefixes) (after.due_out p)
  pub effect : after ≡ record before { places = at before.places p (Live next errand); due_out = at before.due_out p (after.due_out p) }

-- ---- what is emitted and what arrives

-- A slice of what was put, or a segment without bytes at the offset that is emitted next, goes to the far side with the current received length.
pub record Emits (p from len : ℕ) (before : RouterPart) (taken : Option RouterTaken) (sent : List RouterSent) (after : RouterPart) : Type 0 where
  pub session : SessionValue
  pub errand : Option Errand
  pub live : IsLive before p session errand
  pub segment : PlacedSegment
  pub end : Endpoint
  pub emits : EmitsAt from len session.end segment end
  pub takes : taken ≡ None
  pub sends : sent ≡ OutwardTo p (Seg segment) ∷ []
  pub effect : after ≡ record before { places = at before.places p (Live (record session { end = end }) errand) }

-- The next segment of the far side arrives at the live session.
pub record Arrives (p : ℕ) (before : RouterPart) (taken : Option RouterTaken) (sent : List RouterSent) (after : RouterPart) : Type 0 where
  pub session : SessionValue
  pub errand : Option Errand
  pub live : IsLive before p session errand
  pub segment : PlacedSegment
  pub takes : taken ≡ Some (SegmentIn p segment)
  pub sends : sent ≡ []
  pub end : Endpoint
  pub arrives : TakesSegment session.end segment end
  pub effect : after ≡ record before { places = at before.places p (Live (record session { end = end }) errand) }

-- The next segment of the far side finds no live session here, and is dropped without an answer.
pub record Strays (p : ℕ) (before : RouterPart) (taken : Option RouterTaken) (sent : List RouterSent) (after : RouterPart) : Type 0 where
  pub absent : (session : SessionValue) (errand : Option Errand) → IsLive before p session errand → ⊥
  pub segment : PlacedSegment
  pub takes : taken ≡ Some (SegmentIn p segment)
  pub sends : sent ≡ []
  pub stays : after ≡ before

-- ---- what is got, and rounds

-- a router's entries for a peering are what its session brings in here
abbrev pub BringsIn : Setup → ℕ → SessionValue → Entries → Type 0
BringsIn setup r session entries = (x : PrefixValue) → map.get entries x ≡ entry_of setup r session x

-- What is due on the peering when its session goes from one state to the next: all best routes once it is established, nothing once it is closed, and
-- otherwise what was due.
abbrev pub DueThen : SessionState → SessionState → BestRoutes → Prefixes → Prefixes → Type 0
DueThen OpenConfirm Established best before after = (x : PrefixValue) → has after x ≡ is_some (map.get best x)
DueThen from Closed best before after = (x : PrefixValue) → has after x ≡ false
DueThen from to best before after = after ≡ before

-- The entry of a prefix follows its session: if the heard route changed or was withdrawn, it is what the session brings in now; otherwise it stays
-- the same.
abbrev pub FollowsHeard : Setup → ℕ → SessionValue → SessionValue → Entries → Entries → PrefixValue → Type 0
FollowsHeard setup r session next before after x =
    ((map.get next.adj_rib_in x ≡ map.get session.adj_rib_in x) × (map.get after x ≡ map.get before x))
    ⊎ ((map.get next.adj_rib_in x ≢ map.get session.adj_rib_in x) × (map.get after x ≡ entry_of setup r next x))

-- a session changed by itself: its entries follow it, and the prefixes whose entries changed are dirty
pub record Follows (setup : Setup) (r p : ℕ) (before : RouterPart) (session next : SessionValue) (errand : Option Errand) (after : RouterPart) : Type 0 where
  pub entries : (x : PrefixValue) → FollowsHeard setup r session next (before.entries p) (after.entries p) x
  pub dirty : Marks before.dirty (before.entries p) (after.entries p) after.dirty
  pub due : DueThen (state session) (state next) before.best (before.due_out p) (after.due_out p)
  pub effect : after ≡ record before {
    places = at before.places p (Live next errand);
    entries = at before.entries p (after.entries p);
    dirty = after.dirty;
    due_out = at before.due_out p (after.due_out p);
  }

-- A message or a faulty header is got and answered.
pub record GetsNext (setup : Setup) (r p : ℕ) (before : RouterPart) (taken : Option RouterTaken) (sent : List RouterSent) (after : RouterPart) : Type 0 where
  pub alone : Alone taken sent
  pub session : SessionValue
  pub errand : Option Errand
  pub live : IsLive before p session errand
  pub bytes : List ℕ
  pub next : SessionValue
  pub gets : GetsFrame session bytes next
  pub follows : Follows setup r p before session next errand after

-- A round passes on a session whose hold time runs.
pub record Ticks (setup : Setup) (r p round : ℕ) (before : RouterPart) (taken : Option RouterTaken) (sent : List RouterSent) (after : RouterPart) : Type 0 where
  pub alone : Alone taken sent
  pub session : SessionValue
  pub errand : Option Errand
  pub live : IsLive before p session errand
  pub next : SessionValue
  pub passes : PassesRound session round next
  pub follows : Follows setup r p before session next errand after
