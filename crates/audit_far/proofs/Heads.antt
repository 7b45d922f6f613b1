-- Events of a far side that take the next item of a channel.
use Rattle.std.proofs.Common.{◌≡◌, ◌≢◌, ℕ, ◌+◌, ◌<◌, ◌≤◌, ◌^◌, List, [], ◌∷◌, ◌++◌, length, map, Bool, true, false}
use Rattle.std.proofs.Common.{Option, Some, None, refl, sym, ap, ◌∙◌, subst, arith}
use Rattle.std.specs.Prelude.{◌==◌, slice_get, IfNone, IfSome, if◌then◌else◌, max, nat_eq, nat_lt}
use Rattle.std.specs.Option.{option_eq}
use Rattle.std.specs.List.{AllByRecursion}
use Rattle.std.proofs.lemmas.Bool.Decides.{nat_tests}
use Rattle.std.proofs.lemmas.Bool.{lt-ltb, le-ltb}
use Rattle.std.proofs.lemmas.List.{map-append}
use Rattle.graft_edge.specs.declared.ids.RouterId.{RouterId}
use Rattle.tcp_seq.specs.Endpoint.{PlacedSegment}
use Rattle.tcp_seq.specs.declared.segment.Segment.{Segment}
use Rattle.tcp_seq.specs.declared.segment.Way.{Way}
use Rattle.tcp_seq.specs.declared.segment.Way.TheVariants.{Home, Remote}
use Rattle.session_value.specs.Cases.{sending}
use Rattle.bgp_session.specs.Running.{carried}
use Rattle.graft_steps.specs.declared.item.Item.TheVariants as items
use Rattle.graft_model.specs.Setups.{Setup, ScriptStep, SayStep, MoveStep, EvacuateStep, SettleStep}
use Rattle.graft_model.specs.Parts.{FarPart, Seg, PointAt}
use Rattle.graft_model.specs.FarRows.{FarSent, OutwardIn, SayIn}
use Rattle.graft_model.specs.declared.event.FarEvent.{FarEvent}
use Rattle.graft_model.specs.declared.event.FarEvent.TheVariants.{Point, Say, Take}
use Rattle.graft_model.specs.Steps.{far_row}
use Rattle.graft_actors.specs.Actors.{ActorName, Operator, Router}
use Rattle.graft_actors.specs.Items.{IsSegmentOf, segment_of, segment_thing, thing_of}
use Rattle.actor_configs.specs.Says.{bytes_at, say_by}
use Rattle.remote_end.specs.Remotes.{RemoteValue}
use Rattle.audit_ruling.specs.Rulings.{Parcel, far_takes}
use Rattle.audit_ruling.specs.declared.ruling.Ruling.TheVariants.{Refused, Silent}
use Rattle.audit_far.specs.Decides.{AllFit, DecidesFarTaking, KeepsFar}
use Rattle.audit_far.specs.Heads.{graft_landed, is_segment, step_ordered}
use Rattle.audit_far.specs.Parts.{FarInvariant, far_part}
use Rattle.audit_far.specs.declared.far.AuditedFar.{AuditedFar}
use Rattle.audit_far.proofs.Rows.{keeps_then, no_other}
use Rattle.audit_channels.proofs.Empties.{one_more}

no_none : {A B : Type 0} (x : A) → None ≡ Some x → B
no_none x e = absurd (let b : ⊥ = cc in b)

-- ---- what is next

pub ordered_is : (o : Option Parcel) (step : ℕ) → step_ordered o ≡ Some step → o ≡ Some (items.SayOrder step)
ordered_is (Some (items.SayOrder n)) step e = let same : n ≡ step = cc in ap (λ (m : ℕ). Some (items.SayOrder m)) same
ordered_is o step e = no_none step e

pub landed_is : (o : Option Parcel) (graft : ℕ) → graft_landed o ≡ Some graft → o ≡ Some (items.PointAt graft)
landed_is (Some (items.PointAt k)) graft e = let same : k ≡ graft = cc in ap (λ (m : ℕ). Some (items.PointAt m)) same
landed_is o graft e = no_none graft e

-- a number that is looked for, and one that is another
pub same_number : (o : Option ℕ) (n : ℕ) → option_eq nat_eq o (Some n) ≡ true → o ≡ Some n
same_number None n e = absurd cc
same_number (Some m) n e = let same : m ≡ n = grind (arith, nat_tests) in ap Some same

pub other_number : (o : Option ℕ) (n : ℕ) → option_eq nat_eq o (Some n) ≡ false → o ≢ Some n
other_number None n e is = no_none n is
other_number (Some m) n e is =
    let same : m ≡ n = cc in
    let b : ⊥ = grind (arith, nat_tests) in b

-- the item that is taken is the one that was next
pub taken_is : (r : Option Parcel) (old new : List Parcel) (item : Parcel) → IfSome r (λ x. old ≡ x ∷ new) → IfNone r ((old ≡ []) × (new ≡ []))
    → slice_get old 0 ≡ Some item → old ≡ item ∷ new
taken_is None old new item some none first = no_none item (ap (λ (xs : List Parcel). slice_get xs 0) (sym none.0) ∙ first)
taken_is (Some x) old new item some none first =
    let head : Some x ≡ Some item = ap (λ (xs : List Parcel). slice_get xs 0) (sym some) ∙ first in
    let same : x ≡ item = cc in some ∙ ap (λ (y : Parcel). y ∷ new) same

-- ---- what a row takes

by_way : (w : Way) (q : PlacedSegment) (from : ActorName) (step : ℕ) → far_takes from (segment_thing w q) ≡ Some (SayIn step) → ⊥
by_way Home q (Router r) step e = no_none (SayIn step) e
by_way Remote q (Router r) step e = let b : ⊥ = cc in b
by_way w q from step e = no_none (SayIn step) e

by_way_word : (w : Way) (q : PlacedSegment) (r k : ℕ) → far_takes (Router r) (segment_thing w q) ≡ Some (OutwardIn r (PointAt k)) → ⊥
by_way_word Home q r k e = no_none (OutwardIn r (PointAt k)) e
by_way_word Remote q r k e = let b : ⊥ = cc in b

taken_step : (setup : Setup) (item : Parcel) (step : ℕ) → far_takes Operator (thing_of carried setup item) ≡ Some (SayIn step) → item ≡ items.SayOrder step
taken_step setup (items.Seg g) step e = absurd (by_way g.way (segment_of setup g) Operator step e)
taken_step setup (items.SayOrder n) step e = let same : n ≡ step = cc in ap items.SayOrder same
taken_step setup item step e = no_none (SayIn step) e

taken_word : (setup : Setup) (r : ℕ) (item : Parcel) (k : ℕ) → far_takes (Router r) (thing_of carried setup item) ≡ Some (OutwardIn r (PointAt k))
    → item ≡ items.PointAt k
taken_word setup r (items.Seg g) k e = absurd (by_way_word g.way (segment_of setup g) r k e)
taken_word setup r (items.PointAt n) k e = let same : n ≡ k = cc in ap items.PointAt same
taken_word setup r item k e = no_none (OutwardIn r (PointAt k)) e

-- a segment is taken from an item that is one
taken_segment : (setup : Setup) (r : ℕ) (item : Parcel) (q : PlacedSegment) → far_takes (Router r) (thing_of carried setup item) ≡ Some (OutwardIn r (Seg q))
    → is_segment (Some item) ≡ true
taken_segment setup r (items.Seg g) q e = refl
taken_segment setup r (items.PointAt k) q e = let b : ⊥ = cc in absurd b
taken_segment setup r item q e = no_none (OutwardIn r (Seg q)) e

-- ---- answers

module _ (f g : AuditedFar) (k : FarInvariant f) (event : FarEvent) (from : ActorName) (channel rest : List Parcel) where
  takes : (item : Parcel) → channel ≡ item ∷ rest
      → far_row f.known.setup f.peering.0 event (far_part f) (far_takes from (thing_of carried f.known.setup item)) [] (far_part g) → KeepsFar f g
      → DecidesFarTaking event from f channel Silent g rest
  takes item first row keeps = record {
    rules = record { item = item; first = first; holds = record { gave = []; row = row; is_sent = refl; there = tt; fit = tt } };
    keeps = keeps;
  }

  refuses : g ≡ f → rest ≡ channel
      → ((item : Parcel) (more : List Parcel) → channel ≡ item ∷ more → (gave : List FarSent) (after : FarPart)
      → ¬ far_row f.known.setup f.peering.0 event (far_part f) (far_takes from (thing_of carried f.known.setup item)) gave after)
      → DecidesFarTaking event from f channel Refused g rest
  refuses same still never = subst (λ (h : AuditedFar). DecidesFarTaking event from f channel Refused h rest) (sym same)
      (record { rules = (refl, still, never); keeps = record { setup = refl; peering = refl; sound = k } })

-- what is first of a channel is next
first_is : (channel more : List Parcel) (item : Parcel) → channel ≡ item ∷ more → slice_get channel 0 ≡ Some item
first_is channel more item is = ap (λ (xs : List Parcel). slice_get xs 0) is

-- ---- a step is said

module _ (f : AuditedFar) (k : FarInvariant f) (step : ℕ) where
  by_test : (q : ℕ) (xs bytes : List ℕ) (b : Bool) → (q == f.peering.0) ≡ b → (if b then Some xs else None) ≡ Some bytes
      → Some (SayStep q xs) ≡ Some (SayStep f.peering.0 bytes)
  by_test q xs bytes true e h =
      let n : q ≡ f.peering.0 = grind (arith, nat_tests) in let same_bytes : xs ≡ bytes = cc in (λ i. Some (SayStep (n i) (same_bytes i)))
  by_test q xs bytes false e h = no_none bytes h

  step_by : (o : Option ScriptStep) (bytes : List ℕ) → say_by f.peering.0 o ≡ Some bytes → o ≡ Some (SayStep f.peering.0 bytes)
  step_by None bytes h = no_none bytes h
  step_by (Some (SayStep q xs)) bytes h = by_test q xs bytes (q == f.peering.0) refl h
  step_by (Some (MoveStep q target)) bytes h = no_none bytes h
  step_by (Some (EvacuateStep router)) bytes h = no_none bytes h
  step_by (Some SettleStep) bytes h = no_none bytes h

  step_is : (bytes : List ℕ) → bytes_at f.says step ≡ Some bytes → slice_get f.known.setup.steps step ≡ Some (SayStep f.peering.0 bytes)
  step_is bytes there = step_by (slice_get f.known.setup.steps step) bytes (sym (k.says step) ∙ there)

  says_is : (bytes : List ℕ) → slice_get f.known.setup.steps step ≡ Some (SayStep f.peering.0 bytes) → bytes_at f.says step ≡ Some bytes
  says_is bytes is = k.says step ∙ ap (say_by f.peering.0) is
      ∙ (let e : (if f.peering.0 == f.peering.0 then Some bytes else None) ≡ Some bytes =
      ap (λ (b : Bool). if b then Some bytes else None) (let t : (f.peering.0 == f.peering.0) ≡ true = grind (arith, nat_tests) in t) in e)

  module _ (g : AuditedFar) (channel rest : List Parcel) where
    pub say_made : (bytes : List ℕ) (r : RemoteValue) → bytes_at f.says step ≡ Some bytes → length f.remote.end.stream + length bytes ≤ 2 ^ 20
        → r ≡ record f.remote { end = sending bytes f.remote.end } → g ≡ record f { remote = r } → channel ≡ items.SayOrder step ∷ rest
        → DecidesFarTaking (Say step) Operator f channel Silent g rest
    say_made bytes r there room said is first =
        let same : g ≡ record f { remote = record f.remote { end = sending bytes f.remote.end } } =
        is ∙ ap (λ (v : RemoteValue). let h : AuditedFar = record f { remote = v } in h) said in
        subst (λ (h : AuditedFar). DecidesFarTaking (Say step) Operator f channel Silent h rest) (sym same)
        (takes f (record f { remote = record f.remote { end = sending bytes f.remote.end } }) k (Say step) Operator channel rest (items.SayOrder step) first
        (record { bytes = bytes; is = step_is bytes there; takes = refl; sends = refl; room = room; effect = refl })
        (keeps_then f (record f { remote = record f.remote { end = sending bytes f.remote.end } }) k refl
        (record { peering = refl; send_first = refl; receive_first = refl }) k.homeward k.remoteward))

    -- another step is next, or nothing is
    pub say_other : step_ordered (slice_get channel 0) ≢ Some step → g ≡ f → rest ≡ channel → DecidesFarTaking (Say step) Operator f channel Refused g rest
    say_other other same still = refuses f g k (Say step) Operator channel rest same still (λ item more is gave after row.
        other (ap step_ordered (first_is channel more item is)
        ∙ ap (λ (x : Parcel). step_ordered (Some x)) (taken_step f.known.setup item step row.takes)))

    -- the step isn't this remote's
    pub say_nothing : bytes_at f.says step ≡ None → g ≡ f → rest ≡ channel → DecidesFarTaking (Say step) Operator f channel Refused g rest
    say_nothing none same still = refuses f g k (Say step) Operator channel rest same still
        (λ item more is gave after row. no_none row.bytes (sym none ∙ says_is row.bytes row.is))

    -- its stream has no room
    pub say_too_much : (bytes : List ℕ) → bytes_at f.says step ≡ Some bytes → (length f.remote.end.stream + length bytes ≤ 2 ^ 20 → ⊥) → g ≡ f
        → rest ≡ channel → DecidesFarTaking (Say step) Operator f channel Refused g rest
    say_too_much bytes there full same still = refuses f g k (Say step) Operator channel rest same still (λ item more is gave after row.
        let e : Some bytes ≡ Some row.bytes = sym there ∙ says_is row.bytes row.is in
        let same_bytes : bytes ≡ row.bytes = cc in
        full (subst (λ (xs : List ℕ). length f.remote.end.stream + length xs ≤ 2 ^ 20) (sym same_bytes) row.room))

-- ---- a segment is taken, or word of a landing

module _ (f g : AuditedFar) (k : FarInvariant f) (r : ℕ) (channel rest : List Parcel) where
  pub take_made : AllFit f (Router r) channel → (s : Segment) (bag : List Segment) → channel ≡ items.Seg s ∷ rest → bag ≡ f.remoteward ++ s ∷ []
      → g ≡ record f { remoteward = bag } → DecidesFarTaking (Take r) (Router r) f channel Silent g rest
  take_made fits s bag first put is =
      let fit = subst (AllFit f (Router r)) first fits in
      let of_peering : IsSegmentOf f.known.setup f.peering.0 Remote s = fit.0 in
      subst (λ (h : AuditedFar). DecidesFarTaking (Take r) (Router r) f channel Silent h rest) (sym is)
      (takes f (record f { remoteward = bag }) k (Take r) (Router r) channel rest (items.Seg s) first
      (record {
        segment = segment_of f.known.setup s;
        takes = ap (λ (w : Way). far_takes (Router r) (segment_thing w (segment_of f.known.setup s))) of_peering.way;
        sends = refl;
        effect = ap (λ (xs : List PlacedSegment). let v : FarPart = record (far_part f) { remoteward = xs } in v)
            (ap (map (segment_of f.known.setup)) put ∙ map-append (segment_of f.known.setup) f.remoteward (s ∷ []));
      })
      (keeps_then f (record f { remoteward = bag }) k refl (no_other f.remote) k.homeward
      (subst (AllByRecursion (IsSegmentOf f.known.setup f.peering.0 Remote)) (sym put)
      (one_more (IsSegmentOf f.known.setup f.peering.0 Remote) f.remoteward s k.remoteward of_peering))))

  pub take_none : is_segment (slice_get channel 0) ≡ false → g ≡ f → rest ≡ channel → DecidesFarTaking (Take r) (Router r) f channel Refused g rest
  take_none none same still = refuses f g k (Take r) (Router r) channel rest same still (λ item more is gave after row.
      let e : false ≡ true = sym none ∙ ap is_segment (first_is channel more item is) ∙ taken_segment f.known.setup r item row.segment row.takes in
      let b : ⊥ = cc in b)

  pub point_made : (graft : ℕ) (to : RouterId) (followed : ℕ) → channel ≡ items.PointAt graft ∷ rest
      → to.0 ≡ (if nat_lt f.followed graft then r else f.pointer.0) → followed ≡ max f.followed graft
      → g ≡ record f { pointer = to; followed = followed } → DecidesFarTaking (Point r) (Router r) f channel Silent g rest
  point_made graft to followed first turned later is =
      subst (λ (h : AuditedFar). DecidesFarTaking (Point r) (Router r) f channel Silent h rest) (sym is)
      (takes f (record f { pointer = to; followed = followed }) k (Point r) (Router r) channel rest (items.PointAt graft) first
      (record {
        graft = graft;
        takes = refl;
        sends = refl;
        effect = λ i. let v : FarPart = record (far_part f) { pointer = turned i; followed = later i } in v;
      })
      (keeps_then f (record f { pointer = to; followed = followed }) k refl (no_other f.remote) k.homeward k.remoteward))

  -- word that is followed, and word that isn't
  pub point_follows : (graft : ℕ) (to : RouterId) → to.0 ≡ r → f.followed < graft → channel ≡ items.PointAt graft ∷ rest
      → g ≡ record f { pointer = to; followed = graft } → DecidesFarTaking (Point r) (Router r) f channel Silent g rest
  point_follows graft to at later first is = point_made graft to graft first
      (at ∙ sym (ap (λ (b : Bool). if b then r else f.pointer.0) (lt-ltb f.followed graft later)))
      (let e : graft ≡ max f.followed graft = omega (arith, later) in e) is

  pub point_stays : (graft : ℕ) → graft ≤ f.followed → channel ≡ items.PointAt graft ∷ rest → g ≡ f
      → DecidesFarTaking (Point r) (Router r) f channel Silent g rest
  point_stays graft old first is = point_made graft f.pointer f.followed first
      (sym (ap (λ (b : Bool). if b then r else f.pointer.0) (le-ltb f.followed graft old)))
      (let e : f.followed ≡ max f.followed graft = omega (arith, old) in e) is

  pub point_none : graft_landed (slice_get channel 0) ≡ None → g ≡ f → rest ≡ channel → DecidesFarTaking (Point r) (Router r) f channel Refused g rest
  point_none none same still = refuses f g k (Point r) (Router r) channel rest same still (λ item more is gave after row.
      no_none row.graft (sym none ∙ ap graft_landed (first_is channel more item is)
      ∙ ap (λ (x : Parcel). graft_landed (Some x)) (taken_word f.known.setup r item row.graft row.takes)))
