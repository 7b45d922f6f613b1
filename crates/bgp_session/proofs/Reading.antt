-- What a session is after each kind of message.
use Rattle.std.proofs.Common.{◌≡◌, ℕ, ◌≤◌, true, List, [], ◌∷◌, ◌++◌, length, take, drop, take-append-drop}
use Rattle.std.proofs.Common.{inl, inr, Some, None, Result, Ok, Err, refl, sym, ap, ◌∙◌, subst}
use Rattle.std.specs.Prelude.{◌≢◌}
use Rattle.std.specs.FinMap as map
use Rattle.std.specs.List.Sorted.{IsStrictlySortedBy}
use Rattle.std.specs.Option.{option_map}
use Rattle.std.proofs.lemmas.List.Elements.{All-nil}
use Rattle.bgp_types.specs.declared.fault.Expected.{Expected}
use Rattle.bgp_types.specs.declared.message.Message.{Message}
use Rattle.bgp_types.specs.declared.message.Message.TheVariants.{OpenMsg, UpdateMsg, NoticeMsg, KeepaliveMsg}
use Rattle.bgp_types.specs.declared.message.Notice.{Notice}
use Rattle.bgp_types.specs.declared.message.OpenMsg as open_type
use Rattle.bgp_types.specs.declared.message.SessionState.{SessionState}
use Rattle.bgp_types.specs.declared.message.SessionState.TheVariants.{OpenSent, OpenConfirm, Established, Closed}
use Rattle.bgp_types.specs.declared.message.Update.{Update}
use Rattle.bgp_types.specs.declared.fault.HeaderFault.{HeaderFault}
use Rattle.bgp_types.specs.FirstFault.{is_in_state}
use Rattle.bgp_types.specs.Header.{frame_at, header_fault, header_notice}
use Rattle.bgp_types.specs.Prefixes.{PrefixValue}
use Rattle.bgp_story.specs.declared.line.Line.{Line}
use Rattle.bgp_story.specs.declared.line.Line.TheVariants.{Put, Got}
use Rattle.bgp_story.specs.Legal.{Peering, expected_next, got_open, open_in, reply_to}
use Rattle.bgp_story.specs.Readings.{Routes, apply, apply_if, unless_closed, update_in}
use Rattle.bgp_story.specs.States.{state_of}
use Rattle.bgp_story.proofs.HeaderKinds.{read_of}
use Rattle.adj_rib.specs.Changes.{Changed}
use Rattle.session_value.specs.Sessions.{peering_of}
use Rattle.session_value.proofs.Gets.{state_next}
use Rattle.session_value.proofs.Replies.{only_open}
use Rattle.bgp_session.specs.declared.answers.ReadStep.{ReadStep}
use Rattle.bgp_session.specs.declared.answers.ReadStep.TheVariants as steps
use Rattle.bgp_session.specs.declared.parts.Opened.{Opened}
use Rattle.bgp_session.specs.declared.parts.Parts.{Parts}
use Rattle.bgp_session.specs.Inner.{AtFront, SessionInvariant, hold_of, opened_by, read_in_session, running, value_of}
use Rattle.bgp_session.specs.Fronts.{BeginsSome, CanRead, CantRead}
use Rattle.bgp_session.specs.Steps.{ReadsFrame, TellsRead}
use Rattle.session_value.specs.Fronts.{BeginsNothing}
use Rattle.bgp_session.proofs.Fronts.{begins_nothing, front_fault, header_got, header_reads}
use Rattle.bgp_session.proofs.Got.{gets, gotten, keeps}
use Rattle.bgp_session.proofs.Offered.{keeps_heard}
use Rattle.bgp_session.proofs.Opens.{open_kept, open_read}

-- what is written down of something that is got
abbrev pub taken_down : Parts → List ℕ → List Line → Parts
taken_down parts bytes answer = gotten parts bytes answer parts.adj_rib_in parts.adj_rib_out parts.opened (hold_of parts.opened)

-- the session reads by this step, and keeps what it keeps
abbrev pub ReadsTo : Parts → ReadStep → Parts → Type 0
ReadsTo before step after = ReadsFrame step (running before) (running after) × SessionInvariant after

takes_update : (state : SessionState) → is_in_state state 2 ≡ true → state ≡ Established
takes_update OpenSent e = absurd cc
takes_update OpenConfirm e = absurd cc
takes_update Established e = refl
takes_update Closed e = absurd cc

takes_keepalive : (state : SessionState) → is_in_state state 4 ≡ true → state ≢ OpenConfirm → state ≡ Established
takes_keepalive OpenSent e o = absurd cc
takes_keepalive OpenConfirm e o = absurd (o refl)
takes_keepalive Established e o = refl
takes_keepalive Closed e o = absurd cc

none_changed : (routes : Routes) → Changed routes routes []
unfolding IsStrictlySortedBy
none_changed routes = record { rising = tt; changed = All-nil (λ p. map.get routes p ≢ map.get routes p); others = λ p e. refl }

-- an OPEN doesn't close a session
closed_none : (m : Result Message Notice) (answer : List Line) → reply_to m ≡ (answer, Closed) → open_in m ≡ None
closed_none (Ok (OpenMsg o)) answer e = let x : OpenConfirm ≡ Closed = ap (λ (y : List Line × SessionState). y.1) e in absurd cc
closed_none (Ok (UpdateMsg u)) answer e = refl
closed_none (Ok (NoticeMsg n)) answer e = refl
closed_none (Ok KeepaliveMsg) answer e = refl
closed_none (Err n) answer e = refl

module _ (parts : Parts) (bytes : List ℕ) (front : AtFront parts bytes) where
  abbrev lines : List Line
  lines = parts.story.lines

  abbrev state : SessionState
  state = state_of parts.story.lines

  abbrev expected : Expected
  expected = expected_next (peering_of parts.config) parts.story.lines (state_of parts.story.lines)

  -- the state after it
  next_is : (answer : List Line) (next : SessionState) → reply_to (read_in_session parts bytes) ≡ (answer, next) → state_of (lines ++ Got bytes ∷ answer) ≡ next
  next_is answer next reply = state_next (peering_of parts.config) lines bytes answer next front.unclosed front.got reply front.keeps.tied.allowed

  -- what the OPENs settled stays
  opened_stays : (answer : List Line) → open_in (read_in_session parts bytes) ≡ None
      → parts.opened ≡ option_map (opened_by (peering_of parts.config).first) (got_open (peering_of parts.config) (lines ++ Got bytes ∷ answer))
  opened_stays answer none =
      front.keeps.opened
      ∙ ap (option_map (opened_by (peering_of parts.config).first))
      (sym (open_kept (peering_of parts.config) lines bytes answer state front.keeps.tied.allowed front.unclosed none))

  abbrev p : Peering
  p = peering_of parts.config

  -- an OPEN
  module _ (theirs : open_type.OpenMsg) (reads : read_in_session parts bytes ≡ Ok (OpenMsg theirs)) where
    confirm_reply : reply_to (read_in_session parts bytes) ≡ (Put KeepaliveMsg ∷ [], OpenConfirm)
    confirm_reply = ap reply_to reads

    confirm_hears : parts.adj_rib_in ≡ unless_closed OpenConfirm (apply_if parts.adj_rib_in (update_in (read_in_session parts bytes)))
    confirm_hears = sym (ap (λ (m : Result Message Notice). apply_if parts.adj_rib_in (update_in m)) reads)

    confirm_opens : (opened : Opened) → opened ≡ opened_by p.first theirs
        → Some opened ≡ option_map (opened_by p.first) (got_open p (lines ++ Got bytes ∷ (Put KeepaliveMsg ∷ [])))
    confirm_opens opened is = ap Some is
        ∙ sym (ap (option_map (opened_by p.first)) (open_read p lines bytes (Put KeepaliveMsg ∷ []) state theirs front.keeps.tied.allowed reads))

    pub confirms : (opened : Opened) (left : ℕ) (mid : Parts) → opened ≡ opened_by p.first theirs → left ≡ opened.hold
        → mid ≡ taken_down parts bytes (Put KeepaliveMsg ∷ []) → ReadsTo parts steps.Opened (record mid { opened = Some opened; left = left })
    confirms opened left mid opens lefts is = subst (λ (m : Parts). ReadsTo parts steps.Opened (record m { opened = Some opened; left = left })) (sym is) (
      record {
        bytes = bytes;
        gets = gets parts bytes (Put KeepaliveMsg ∷ []) OpenConfirm front confirm_reply parts.adj_rib_in parts.adj_rib_out
            (Some opened) left confirm_hears refl (confirm_opens opened opens) lefts;
        tells = (only_open state (read_of expected bytes (OpenMsg theirs) reads).in_state, next_is (Put KeepaliveMsg ∷ []) OpenConfirm confirm_reply);
        same_turn = refl;
      },
      keeps parts bytes (Put KeepaliveMsg ∷ []) OpenConfirm front confirm_reply parts.adj_rib_in parts.adj_rib_out
          (Some opened) left confirm_hears refl (confirm_opens opened opens) lefts,
    )

  -- a KEEPALIVE
  module _ (reads : read_in_session parts bytes ≡ Ok KeepaliveMsg) where
    alive_reply : reply_to (read_in_session parts bytes) ≡ ([], Established)
    alive_reply = ap reply_to reads

    alive_hears : parts.adj_rib_in ≡ unless_closed Established (apply_if parts.adj_rib_in (update_in (read_in_session parts bytes)))
    alive_hears = sym (ap (λ (m : Result Message Notice). apply_if parts.adj_rib_in (update_in m)) reads)

    alive_opens : parts.opened ≡ option_map (opened_by p.first) (got_open p (lines ++ Got bytes ∷ []))
    alive_opens = opened_stays [] (ap open_in reads)

    alive_as : (step : ReadStep) (mid : Parts) → mid ≡ taken_down parts bytes []
        → TellsRead step (value_of parts) (value_of (taken_down parts bytes [])) → ReadsTo parts step mid
    alive_as step mid is tells = subst (λ (m : Parts). ReadsTo parts step m) (sym is) (
      record {
        bytes = bytes;
        gets = gets parts bytes [] Established front alive_reply parts.adj_rib_in parts.adj_rib_out parts.opened
            (hold_of parts.opened) alive_hears refl alive_opens refl;
        tells = tells;
        same_turn = refl;
      },
      keeps parts bytes [] Established front alive_reply parts.adj_rib_in parts.adj_rib_out parts.opened
          (hold_of parts.opened) alive_hears refl alive_opens refl,
    )

    pub establishes : (mid : Parts) → mid ≡ taken_down parts bytes [] → state ≡ OpenConfirm → ReadsTo parts steps.Established mid
    establishes mid is confirmed = alive_as steps.Established mid is (confirmed, next_is [] Established alive_reply)

    pub stays_established : (mid : Parts) → mid ≡ taken_down parts bytes [] → state ≢ OpenConfirm → ReadsTo parts (steps.Changed []) mid
    stays_established mid is other = alive_as (steps.Changed []) mid is (
      takes_keepalive state (read_of expected bytes KeepaliveMsg reads).in_state other,
      next_is [] Established alive_reply,
      none_changed parts.adj_rib_in,
    )

  -- an UPDATE
  module _ (update : Update) (reads : read_in_session parts bytes ≡ Ok (UpdateMsg update)) where
    hear_reply : reply_to (read_in_session parts bytes) ≡ ([], Established)
    hear_reply = ap reply_to reads

    hear_hears : (adj_rib_in : Routes) → adj_rib_in ≡ apply parts.adj_rib_in update
        → adj_rib_in ≡ unless_closed Established (apply_if parts.adj_rib_in (update_in (read_in_session parts bytes)))
    hear_hears adj_rib_in is = is ∙ sym (ap (λ (m : Result Message Notice). apply_if parts.adj_rib_in (update_in m)) reads)

    hear_opens : parts.opened ≡ option_map (opened_by p.first) (got_open p (lines ++ Got bytes ∷ []))
    hear_opens = opened_stays [] (ap open_in reads)

    pub hears_changes : (changed : List PrefixValue) (adj_rib_in : Routes) (mid : Parts) → mid ≡ taken_down parts bytes []
        → adj_rib_in ≡ apply mid.adj_rib_in update → Changed mid.adj_rib_in adj_rib_in changed
        → ReadsTo parts (steps.Changed changed) (record mid { adj_rib_in = adj_rib_in })
    hears_changes changed adj_rib_in mid is = subst (λ (m : Parts). adj_rib_in ≡ apply m.adj_rib_in update → Changed m.adj_rib_in adj_rib_in changed
        → ReadsTo parts (steps.Changed changed) (record m { adj_rib_in = adj_rib_in })) (sym is) (λ applied changes. (
          record {
            bytes = bytes;
            gets = gets parts bytes [] Established front hear_reply adj_rib_in parts.adj_rib_out parts.opened
                (hold_of parts.opened) (hear_hears adj_rib_in applied) refl hear_opens refl;
            tells = (takes_update state (read_of expected bytes (UpdateMsg update) reads).in_state, next_is [] Established hear_reply, changes);
            same_turn = refl;
          },
          keeps parts bytes [] Established front hear_reply adj_rib_in parts.adj_rib_out parts.opened (hold_of parts.opened)
              (hear_hears adj_rib_in applied) refl hear_opens refl,
        ))

    -- also where the routes are left in any way
    pub hears_keeps : (adj_rib_in : Routes) (mid : Parts) → mid ≡ taken_down parts bytes [] → SessionInvariant (record mid { adj_rib_in = adj_rib_in })
    hears_keeps adj_rib_in mid is = subst (λ (m : Parts). SessionInvariant (record m { adj_rib_in = adj_rib_in })) (sym is)
        (keeps_heard (gotten parts bytes [] (apply parts.adj_rib_in update) parts.adj_rib_out parts.opened (hold_of parts.opened)) adj_rib_in
        (keeps parts bytes [] Established front hear_reply (apply parts.adj_rib_in update) parts.adj_rib_out parts.opened
        (hold_of parts.opened) (hear_hears (apply parts.adj_rib_in update) refl) refl hear_opens refl))

  -- the session closes
  pub closes : (answer : List Line) (prefixes : List PrefixValue) (mid after : Parts) → reply_to (read_in_session parts bytes) ≡ (answer, Closed)
      → mid ≡ taken_down parts bytes answer
      → after ≡ record mid { adj_rib_in = map.empty; adj_rib_out = map.empty } → prefixes ≡ map.keys parts.adj_rib_in
      → ReadsTo parts (steps.Closed prefixes) after
  closes answer prefixes mid after reply is drops keys =
      let none : open_in (read_in_session parts bytes) ≡ None = closed_none (read_in_session parts bytes) answer reply in
      subst (λ (m : Parts). ReadsTo parts (steps.Closed prefixes) m)
      (sym (drops ∙ ap (λ (m : Parts). let d : Parts = record m { adj_rib_in = map.empty; adj_rib_out = map.empty } in d) is)) (
        record {
          bytes = bytes;
          gets = gets parts bytes answer Closed front reply map.empty map.empty parts.opened (hold_of parts.opened) refl refl (opened_stays answer none) refl;
          tells = (next_is answer Closed reply, keys);
          same_turn = refl;
        },
        keeps parts bytes answer Closed front reply map.empty map.empty parts.opened (hold_of parts.opened) refl refl (opened_stays answer none) refl,
      )

-- ---- what is at the front

pub frame_front : (parts : Parts) (bytes : List ℕ) (len : ℕ) → SessionInvariant parts → state_of parts.story.lines ≢ Closed
    → frame_at (take len parts.end.ready) ≡ Some (take len parts.end.ready, []) → bytes ≡ take len parts.end.ready → AtFront parts bytes
frame_front parts bytes len k o whole is = subst (AtFront parts) (sym is) (record {
  keeps = k;
  unclosed = o;
  rest = drop len parts.end.ready;
  front = sym (take-append-drop len parts.end.ready);
  got = inl whole;
})

pub header_front : (parts : Parts) (bytes : List ℕ) (fault : HeaderFault) → SessionInvariant parts → state_of parts.story.lines ≢ Closed
    → 19 ≤ length parts.end.ready → header_fault parts.end.ready ≡ Some fault → bytes ≡ take 19 parts.end.ready → AtFront parts bytes
header_front parts bytes fault k o long faulty is = subst (AtFront parts) (sym is) (record {
  keeps = k;
  unclosed = o;
  rest = drop 19 parts.end.ready;
  front = sym (take-append-drop 19 parts.end.ready);
  got = header_got parts.end.ready fault long faulty;
})

pub header_read : (parts : Parts) (bytes : List ℕ) (fault : HeaderFault) (notice : Notice) → 19 ≤ length parts.end.ready
    → header_fault parts.end.ready ≡ Some fault → bytes ≡ take 19 parts.end.ready → notice ≡ header_notice fault
    → read_in_session parts bytes ≡ Err notice
header_read parts bytes fault notice long faulty is told =
    header_reads (expected_next (peering_of parts.config) parts.story.lines (state_of parts.story.lines)) bytes fault
    (ap header_fault is ∙ front_fault parts.end.ready fault long faulty)
    ∙ ap (λ (n : Notice). Err n) (sym told)

-- ---- whether there is something

pub cant_read : (parts : Parts) → SessionInvariant parts → frame_at parts.end.ready ≡ None
    → (19 ≤ length parts.end.ready → header_fault parts.end.ready ≡ None) → CantRead (value_of parts)
cant_read parts k none sound = inr (subst BeginsNothing k.stands.ready (begins_nothing parts.end.ready none sound))

pub can_read : (parts : Parts) → SessionInvariant parts → state_of parts.story.lines ≢ Closed → BeginsSome parts.end.ready → CanRead (value_of parts)
can_read parts k o some = record { unclosed = o; begins = subst BeginsSome k.stands.ready some }
