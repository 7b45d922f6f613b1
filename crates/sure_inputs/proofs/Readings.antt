-- A session is established by its remote's default opening, and stays so by UPDATEs that can be written.
use Rattle.std.proofs.Common.{◌≡◌, ℕ, ◌^◌, ◌<◌, Bool, false, List, [], ◌∷◌, ◌++◌, None, Some, Ok, refl, sym, ap, ◌∙◌, subst, append_assoc}
use Rattle.std.specs.Prelude.{◌&&◌, fold}
use Rattle.std.specs.List.{AllByRecursion, flat_map}
use Rattle.std.proofs.lemmas.List.{append-nil}
use Rattle.bgp_types.specs.declared.fault.Expected.{Expected}
use Rattle.bgp_types.specs.declared.message.Message.TheVariants.{OpenMsg, UpdateMsg, KeepaliveMsg}
use Rattle.bgp_types.specs.declared.message.OpenMsg as open_type
use Rattle.bgp_types.specs.declared.message.SessionState.TheVariants.{Established}
use Rattle.bgp_types.specs.declared.message.Update.{Update}
use Rattle.bgp_types.specs.Expect.{IsExpected}
use Rattle.bgp_types.specs.FirstFault.{is_in_state, message_of}
use Rattle.bgp_types.specs.Header.{frame_at}
use Rattle.bgp_types.specs.Many.{many}
use Rattle.bgp_types.specs.Reads.{Reads}
use Rattle.bgp_types.specs.Spelling.{spell}
use Rattle.bgp_types.specs.Values.{is_no_host, is_short_hold}
use Rattle.bgp_types.specs.Writable.{IsWritable}
use Rattle.bgp_types.proofs.FrameLaws.{IsFrame, frame_reads}
use Rattle.bgp_types.proofs.ManyLaws.{many_again}
use Rattle.bgp_types.proofs.MessageLaws.{message_are}
use Rattle.bgp_types.proofs.WrittenLaws.{written_reads}
use Rattle.bgp_story.specs.Legal.{both_offer}
use Rattle.bgp_story.specs.Opens.{offers}
use Rattle.bgp_story.proofs.Ranges.{offers_home}
use Rattle.session_value.specs.declared.config.SessionConfig.{SessionConfig}
use Rattle.session_value.specs.Sessions.{peering_of}
use Rattle.graft_model.specs.Setups.{PeeringSetup}
use Rattle.even_inputs.specs.Readings.{Reading, nothing_read, expected_by, opened_with, with_message}
use Rattle.even_inputs.specs.Readings.{unless_ended, read_next, faulty_front, fronts_in, reading_of}
use Rattle.lab_tables.specs.Peerings.{default_opening}
use Rattle.sure_inputs.proofs.Openings.{opened, open_bytes, keepalive_bytes, written_frame, offers_so, open_got, open_frame, keepalive_got, keepalive_frame}

-- ---- messages one after another

none_left : frame_at [] ≡ None
unfolding frame_at
none_left = refl

fronts_are : (frames : List (List ℕ)) → AllByRecursion IsFrame frames → fronts_in (flat_map (λ f. f) frames) ≡ frames
fronts_are frames all =
    let is : many frame_at (flat_map (λ f. f) frames) ≡ (frames, []) =
    ap (many frame_at) (sym (append-nil (flat_map (λ f. f) frames))) ∙ many_again frame_at (λ frame. frame) IsFrame frame_reads frames [] all none_left in
    ap (λ (x : List (List ℕ) × List ℕ). x.0 ++ faulty_front x.1) is ∙ append-nil frames

-- ---- UPDATEs

-- an UPDATE in its written form
pub record IsUpdate (wide : Bool) (bytes : List ℕ) : Type 0 where
  pub update : Update
  pub is : bytes ≡ spell (UpdateMsg update) wide
  pub writable : IsWritable (UpdateMsg update) wide

abbrev UpdateIn : Expected → List ℕ → Update → Type 0
UpdateIn expected bytes update = Reads bytes (UpdateMsg update) expected.wide × IsExpected expected (UpdateMsg update)

update_in : (expected : Expected) (wide : Bool) (bytes : List ℕ) (u : IsUpdate wide bytes) → expected.state ≡ Established → expected.wide ≡ wide
    → UpdateIn expected bytes u.update
update_in expected wide bytes u state width =
    let reads : Reads bytes (UpdateMsg u.update) wide =
    subst (λ (y : List ℕ). Reads y (UpdateMsg u.update) wide) (sym u.is) (written_reads (UpdateMsg u.update) wide u.writable) in
    let here : Reads bytes (UpdateMsg u.update) expected.wide = subst (λ (w : Bool). Reads bytes (UpdateMsg u.update) w) (sym width) reads in
    (here, record { state = ap (λ s. is_in_state s 2) state; from = refl })

-- the header tells no width
update_frame : (wide : Bool) (bytes : List ℕ) → IsUpdate wide bytes → IsFrame bytes
update_frame wide bytes u =
    let expected : Expected = record { state = Established; remote_as = 1; offered = false; wide = wide } in
    let read = update_in expected wide bytes u refl refl in
    written_frame expected (UpdateMsg u.update) bytes read.0 read.1

updates_frames : (wide : Bool) (frames : List (List ℕ)) → AllByRecursion (IsUpdate wide) frames → AllByRecursion IsFrame frames
updates_frames wide [] all = tt
updates_frames wide (f ∷ fs) all = (update_frame wide f all.0, updates_frames wide fs all.1)

module _ (peering : PeeringSetup) (first : open_type.OpenMsg) (wide : Bool) (width : both_offer (peering_of peering.config).first (Some first) ≡ wide) where
  -- the session is established, by this OPEN
  record IsUp (r : Reading) : Type 0 where
    state : r.state ≡ Established
    opened : r.opened ≡ Some first

  next_up : (r : Reading) → IsUp r → (bytes : List ℕ) → IsUpdate wide bytes → IsUp (read_next peering r bytes)
  next_up r up bytes u =
      let expected : Expected = expected_by peering r in
      let read = update_in expected wide bytes u up.state (ap (both_offer (peering_of peering.config).first) up.opened ∙ width) in
      let got : message_of expected bytes ≡ Ok (UpdateMsg u.update) = message_are expected bytes (UpdateMsg u.update) read.0 read.1 in
      let next : read_next peering r bytes ≡ with_message r (Ok (UpdateMsg u.update)) =
      ap (λ s. unless_ended s r (with_message r (message_of expected bytes))) up.state ∙ ap (with_message r) got in
      record {
        state = ap (λ (x : Reading). x.state) next;
        opened = ap (λ (x : Reading). x.opened) next ∙ ap (λ s. opened_with s r.opened None) up.state ∙ up.opened;
      }

  stays_up : (frames : List (List ℕ)) → AllByRecursion (IsUpdate wide) frames → (r : Reading) → IsUp r → IsUp (fold (read_next peering) r frames)
  stays_up [] all r up = up
  stays_up (f ∷ fs) all r up = stays_up fs all.1 (read_next peering r f) (next_up r up f all.0)

-- ---- the opening

module _ (peering : PeeringSetup) (hold identifier : ℕ) (as4 : Bool) (fits : peering.config.remote_as < 2 ^ 32) (hold_fits : hold < 2 ^ 16)
    (long : is_short_hold hold ≡ false) (host : is_no_host identifier ≡ false) where
  abbrev first : open_type.OpenMsg
  first = opened peering.config.remote_as hold identifier as4

  abbrev begins : List ℕ
  begins = open_bytes peering.config.remote_as hold identifier as4

  abbrev wide : Bool
  wide = peering.config.offered && as4

  width : both_offer (peering_of peering.config).first (Some first) ≡ wide
  width =
      let c : SessionConfig = peering.config in
      ap (λ (b : Bool). b && offers first) (offers_home c.home_as c.home_hold c.identifier c.offered c.unicast)
      ∙ ap (λ (b : Bool). c.offered && b) (offers_so c.remote_as hold identifier as4)

  -- the OPEN was got
  abbrev confirming : Reading
  confirming = with_message nothing_read (Ok (OpenMsg first))

  opens : read_next peering nothing_read begins ≡ confirming
  opens = ap (with_message nothing_read) (open_got peering.config.remote_as hold identifier as4 peering.config.offered fits hold_fits long host)

  -- and a KEEPALIVE behind it
  abbrev establishing : Reading
  establishing = with_message confirming (Ok KeepaliveMsg)

  confirms : read_next peering confirming keepalive_bytes ≡ establishing
  confirms = ap (with_message confirming) (keepalive_got (expected_by peering confirming) refl)

  frames_stand : (frames : List (List ℕ)) → AllByRecursion (IsUpdate wide) frames → AllByRecursion IsFrame (begins ∷ keepalive_bytes ∷ frames)
  frames_stand frames all = (
    open_frame peering.config.remote_as hold identifier as4 peering.config.offered fits hold_fits long host,
    (keepalive_frame (expected_by peering confirming) refl, updates_frames wide frames all),
  )

  -- Whatever UPDATEs its remote says behind the default opening, the session is established.
  pub up_by : (frames : List (List ℕ)) → AllByRecursion (IsUpdate wide) frames
      → (reading_of peering (default_opening peering.config.remote_as hold identifier as4 ++ flat_map (λ f. f) frames)).state ≡ Established
  up_by frames all =
      let joined : default_opening peering.config.remote_as hold identifier as4 ++ flat_map (λ f. f) frames
      ≡ flat_map (λ f. f) (begins ∷ keepalive_bytes ∷ frames) =
      append_assoc begins keepalive_bytes (flat_map (λ f. f) frames) in
      let fronts : fronts_in (default_opening peering.config.remote_as hold identifier as4 ++ flat_map (λ f. f) frames) ≡ begins ∷ keepalive_bytes ∷ frames =
      ap fronts_in joined ∙ fronts_are (begins ∷ keepalive_bytes ∷ frames) (frames_stand frames all) in
      let established : fold (read_next peering) nothing_read (begins ∷ keepalive_bytes ∷ frames) ≡ fold (read_next peering) establishing frames =
      ap (λ r. fold (read_next peering) (read_next peering r keepalive_bytes) frames) opens ∙ ap (λ r. fold (read_next peering) r frames) confirms in
      ap (λ fs. (fold (read_next peering) nothing_read fs).state) fronts ∙ ap (λ (r : Reading). r.state) established
      ∙ (stays_up peering first wide width frames all establishing (record { state = refl; opened = refl })).state
