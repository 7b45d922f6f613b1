-- What events make of a far side, row by row.
use Rattle.std.proofs.Common.{◌≡◌, ℕ, ◌+◌, ◌<◌, ◌≤◌, ◌%◌, List, [], ◌∷◌, ◌++◌, length, map, Bool, true, false}
use Rattle.std.proofs.Common.{Some, None, option_map, refl, sym, ap, ◌∙◌, subst, arith}
use Rattle.std.specs.Prelude.{nat_lt, slice_get}
use Rattle.std.specs.List.{AllByRecursion}
use Rattle.std.proofs.lemmas.Bool.Decides.{nat_tests}
use Rattle.std.proofs.lemmas.List.{map-append, length-map}
use Rattle.std.proofs.lemmas.Option.{slice_get-map, slice_get_within}
use Rattle.bgp_types.specs.declared.message.Message.TheVariants.{KeepaliveMsg}
use Rattle.bgp_types.specs.Spelling.{spell}
use Rattle.tcp_seq.specs.Endpoint.{Endpoint, PlacedSegment, TakesSegment}
use Rattle.tcp_seq.specs.Placed.{placed}
use Rattle.tcp_seq.specs.declared.segment.Segment.{Segment}
use Rattle.tcp_seq.specs.declared.segment.Way.{Way}
use Rattle.tcp_seq.specs.declared.segment.Way.TheVariants.{Home, Remote}
use Rattle.tcp_end.specs.Emitting.{EmitsPart}
use Rattle.session_value.specs.Cases.{sending}
use Rattle.graft_steps.specs.declared.item.Item.TheVariants as items
use Rattle.graft_model.specs.Setups.{routers_in}
use Rattle.graft_model.specs.Parts.{FarPart}
use Rattle.graft_model.specs.FarRows.{FarSent}
use Rattle.graft_model.specs.Slices.{EmitsAt}
use Rattle.graft_model.specs.declared.event.FarEvent.{FarEvent}
use Rattle.graft_model.specs.declared.event.FarEvent.TheVariants.{Beat, Lose, Pass, Reach, Send}
use Rattle.graft_model.specs.Steps.{far_row}
use Rattle.graft_actors.specs.Actors.{Router}
use Rattle.graft_actors.specs.Items.{IsSegmentOf, segment_of, segment_thing}
use Rattle.graft_actors.proofs.Numbers.{there}
use Rattle.remote_end.specs.Remotes.{IsFrom, RemoteValue}
use Rattle.audit_channels.proofs.Empties.{one_more}
use Rattle.audit_ruling.specs.declared.ruling.Ruling.{Ruling}
use Rattle.audit_ruling.specs.declared.ruling.Ruling.TheVariants.{Refused, Silent, Sends}
use Rattle.audit_far.specs.Decides.{DecidesFar, KeepsFar}
use Rattle.audit_far.specs.Parts.{FarInvariant, far_part, left_in_bag}
use Rattle.audit_far.specs.declared.far.AuditedFar.{AuditedFar}
use Rattle.audit_far.proofs.Segments.{all_at, all_left, from_is, home_offsets, left_is, remote_offsets, without_is}

-- ---- what is kept

-- all but what events change is as it was
abbrev pub IsSteady : AuditedFar → AuditedFar → Type 0
IsSteady f g = g ≡ record f {
  remote = g.remote;
  homeward = g.homeward;
  remoteward = g.remoteward;
  pointer = g.pointer;
  followed = g.followed;
  keepalives = g.keepalives;
  last_keepalive = g.last_keepalive;
}

-- the remote has the same peering and numbers
pub record SameRemote (r s : RemoteValue) : Type 0 where
  pub peering : s.peering ≡ r.peering
  pub send_first : s.send_first ≡ r.send_first
  pub receive_first : s.receive_first ≡ r.receive_first

pub same_remote : (r s : RemoteValue) (e : Endpoint) → s ≡ record r { end = e } → SameRemote r s
same_remote r s e is = record {
  peering = ap (λ (v : RemoteValue). v.peering) is;
  send_first = ap (λ (v : RemoteValue). v.send_first) is;
  receive_first = ap (λ (v : RemoteValue). v.receive_first) is;
}

pub no_other : (r : RemoteValue) → SameRemote r r
no_other r = record { peering = refl; send_first = refl; receive_first = refl }

module _ (f g : AuditedFar) (k : FarInvariant f) where
  pub keeps_then : IsSteady f g → SameRemote f.remote g.remote → AllByRecursion (IsSegmentOf f.known.setup f.peering.0 Home) g.homeward
      → AllByRecursion (IsSegmentOf f.known.setup f.peering.0 Remote) g.remoteward → KeepsFar f g
  keeps_then steady remote homeward remoteward = record {
    setup = ap (λ (h : AuditedFar). h.known.setup) steady;
    peering = ap (λ (h : AuditedFar). h.peering) steady;
    sound = subst FarInvariant (sym steady) (record {
      routers = k.routers;
      few = k.few;
      there = k.there;
      keepalive_interval = k.keepalive_interval;
      says = k.says;
      remote = remote.peering ∙ k.remote;
      sends = remote.send_first ∙ k.sends;
      receives = remote.receive_first ∙ k.receives;
      homeward = homeward;
      remoteward = remoteward;
    });
  }

  pub silent : (event : FarEvent) → far_row f.known.setup f.peering.0 event (far_part f) None [] (far_part g) → KeepsFar f g → DecidesFar event f Silent g
  silent event row keeps = record { rules = record { gave = []; row = row; is_sent = refl; there = tt; fit = tt }; keeps = keeps }

pub refused : (f g : AuditedFar) (event : FarEvent) → FarInvariant f → g ≡ f
    → ((gave : List FarSent) (after : FarPart) → ¬ far_row f.known.setup f.peering.0 event (far_part f) None gave after) → DecidesFar event f Refused g
refused f g event k same never =
    subst (DecidesFar event f Refused) (sym same) (record { rules = (refl, never); keeps = record { setup = refl; peering = refl; sound = k } })

-- ---- a segment is sent

module _ (f g : AuditedFar) (k : FarInvariant f) (from len : ℕ) (r : RemoteValue) (segment : Segment) where
  pub send_made : IsFrom f.remote segment → EmitsPart from len f.remote.end (placed f.remote.send_first f.remote.receive_first segment) r.end
      → r ≡ record f.remote { end = r.end } → (bag : List Segment) → bag ≡ f.homeward ++ segment ∷ [] → g ≡ record f { remote = r; homeward = bag }
      → DecidesFar (Send from len) f Silent g
  send_made is emits remote bag put same = subst (DecidesFar (Send from len) f Silent) (sym same)
      (silent f (record f { remote = r; homeward = bag }) k (Send from len)
      (record {
        segment = segment_of f.known.setup segment;
        end = r.end;
        emits = subst (λ (q : PlacedSegment). EmitsAt from len f.remote.end q r.end) (sym (home_offsets f k segment is))
            (record { offset = emits.0; size = emits.1; emits = emits.2 });
        takes = refl;
        sends = refl;
        effect = ap (λ (xs : List PlacedSegment). let v : FarPart = record (far_part f) { end = r.end; homeward = xs } in v)
            (ap (map (segment_of f.known.setup)) put ∙ map-append (segment_of f.known.setup) f.homeward (segment ∷ []));
      })
      (keeps_then f (record f { remote = r; homeward = bag }) k refl (same_remote f.remote r r.end remote)
      (subst (AllByRecursion (IsSegmentOf f.known.setup f.peering.0 Home)) (sym put)
      (one_more (IsSegmentOf f.known.setup f.peering.0 Home) f.homeward segment k.homeward (from_is f k segment is))) k.remoteward))

pub send_refused : (f g : AuditedFar) (from len : ℕ) (r : RemoteValue) → FarInvariant f → r.end ≡ f.remote.end → r ≡ record f.remote { end = r.end }
    → ((segment : PlacedSegment) (after : Endpoint) → ¬ EmitsPart from len f.remote.end segment after) → g ≡ record f { remote = r }
    → DecidesFar (Send from len) f Refused g
send_refused f g from len r k end same none is = refused f g (Send from len) k
    (is ∙ ap (λ (v : RemoteValue). let h : AuditedFar = record f { remote = v } in h)
    (same ∙ ap (λ (e : Endpoint). let v : RemoteValue = record f.remote { end = e } in v) end))
    (λ gave after row. none row.segment row.end (row.emits.offset, row.emits.size, row.emits.emits))

-- ---- what the link does with a segment

pub for_remote : (f : AuditedFar) (k : FarInvariant f) (index : ℕ) (segment : Segment) → slice_get f.remoteward index ≡ Some segment
    → IsSegmentOf f.known.setup f.peering.0 Remote segment
for_remote f k index segment there_is = all_at (IsSegmentOf f.known.setup f.peering.0 Remote) f.remoteward index segment k.remoteward there_is

module _ (f g : AuditedFar) (k : FarInvariant f) (index : ℕ) (segment : Segment) where
  abbrev seen : Segment → PlacedSegment
  seen = segment_of f.known.setup

  seen_at : (bag : List Segment) → slice_get bag index ≡ Some segment → slice_get (map seen bag) index ≡ Some (seen segment)
  seen_at bag there_is = slice_get-map seen bag index ∙ ap (option_map seen) there_is

  -- it is delivered to a router
  module _ (keep : Bool) (router : ℕ) (known : router < routers_in f.known.setup) (there_is : slice_get f.homeward index ≡ Some segment)
      (left : g ≡ record f { homeward = left_in_bag keep index f.homeward }) where
    of_peering : IsSegmentOf f.known.setup f.peering.0 Home segment
    of_peering = all_at (IsSegmentOf f.known.setup f.peering.0 Home) f.homeward index segment k.homeward there_is

    pub pass_made : DecidesFar (Pass index keep router) f (Sends router (items.Seg segment)) g
    pass_made = subst (DecidesFar (Pass index keep router) f (Sends router (items.Seg segment))) (sym left) (record {
      rules = record {
        gave = record { router = router; segment = seen segment } ∷ [];
        row = record {
          segment = seen segment;
          there = seen_at f.homeward there_is;
          known = known;
          takes = refl;
          sends = refl;
          effect = ap (λ (xs : List PlacedSegment). let v : FarPart = record (far_part f) { homeward = xs } in v) (left_is seen keep index f.homeward);
        };
        is_sent = ap (λ (w : Way). (router, segment_thing w (seen segment)) ∷ []) of_peering.way;
        there = (known, tt);
        fit = ((Router router, there f.known.setup (Router router) known, of_peering), tt);
      };
      keeps = keeps_then f (record f { homeward = left_in_bag keep index f.homeward }) k refl (no_other f.remote)
          (all_left (IsSegmentOf f.known.setup f.peering.0 Home) keep index f.homeward k.homeward) k.remoteward;
    })

  -- it reaches the remote
  module _ (keep : Bool) (r : RemoteValue) (there_is : slice_get f.remoteward index ≡ Some segment) where
    pub reach_made : TakesSegment f.remote.end (placed f.remote.receive_first f.remote.send_first segment) r.end → r ≡ record f.remote { end = r.end }
        → g ≡ record f { remote = r; remoteward = left_in_bag keep index f.remoteward } → DecidesFar (Reach index keep) f Silent g
    reach_made takes remote left = subst (DecidesFar (Reach index keep) f Silent) (sym left)
        (silent f (record f { remote = r; remoteward = left_in_bag keep index f.remoteward }) k (Reach index keep)
        (record {
          segment = seen segment;
          there = seen_at f.remoteward there_is;
          end = r.end;
          arrives = subst (λ (q : PlacedSegment). TakesSegment f.remote.end q r.end) (sym (remote_offsets f k segment (for_remote f k index segment there_is))) takes;
          takes = refl;
          sends = refl;
          effect = ap (λ (xs : List PlacedSegment). let v : FarPart = record (far_part f) { end = r.end; remoteward = xs } in v)
              (left_is seen keep index f.remoteward);
        })
        (keeps_then f (record f { remote = r; remoteward = left_in_bag keep index f.remoteward }) k refl (same_remote f.remote r r.end remote)
        k.homeward (all_left (IsSegmentOf f.known.setup f.peering.0 Remote) keep index f.remoteward k.remoteward)))

-- it is lost
module _ (f g : AuditedFar) (k : FarInvariant f) (index : ℕ) where
  lost_there : (bag : List Segment) → index < length bag → index < length (map (segment_of f.known.setup) bag)
  lost_there bag within = let n = length-map bag (segment_of f.known.setup) in omega (arith, within, n)

  pub lose_home : index < length f.homeward → g ≡ record f { homeward = left_in_bag false index f.homeward } → DecidesFar (Lose Home index) f Silent g
  lose_home within left = subst (DecidesFar (Lose Home index) f Silent) (sym left)
      (silent f (record f { homeward = left_in_bag false index f.homeward }) k (Lose Home index)
      (record {
        there = lost_there f.homeward within;
        takes = refl;
        sends = refl;
        effect = ap (λ (xs : List PlacedSegment). let v : FarPart = record (far_part f) { homeward = xs } in v)
            (without_is (segment_of f.known.setup) index f.homeward);
      })
      (keeps_then f (record f { homeward = left_in_bag false index f.homeward }) k refl (no_other f.remote)
      (all_left (IsSegmentOf f.known.setup f.peering.0 Home) false index f.homeward k.homeward) k.remoteward))

  pub lose_remote : index < length f.remoteward → g ≡ record f { remoteward = left_in_bag false index f.remoteward }
      → DecidesFar (Lose Remote index) f Silent g
  lose_remote within left = subst (DecidesFar (Lose Remote index) f Silent) (sym left)
      (silent f (record f { remoteward = left_in_bag false index f.remoteward }) k (Lose Remote index)
      (record {
        there = lost_there f.remoteward within;
        takes = refl;
        sends = refl;
        effect = ap (λ (xs : List PlacedSegment). let v : FarPart = record (far_part f) { remoteward = xs } in v)
            (without_is (segment_of f.known.setup) index f.remoteward);
      })
      (keeps_then f (record f { remoteward = left_in_bag false index f.remoteward }) k refl (no_other f.remote)
      k.homeward (all_left (IsSegmentOf f.known.setup f.peering.0 Remote) false index f.remoteward k.remoteward)))

-- ---- where there is none

module _ (f g : AuditedFar) (k : FarInvariant f) (index : ℕ) (same : g ≡ f) where
  none_seen : (bag : List Segment) (q : PlacedSegment) → length bag ≤ index → slice_get (map (segment_of f.known.setup) bag) index ≡ Some q → ⊥
  none_seen bag q past is =
      let within = slice_get_within (map (segment_of f.known.setup) bag) index q is in
      let n = length-map bag (segment_of f.known.setup) in omega (arith, within, n, past)

  pub pass_none : (keep : Bool) (router : ℕ) → length f.homeward ≤ index → DecidesFar (Pass index keep router) f Refused g
  pass_none keep router past = refused f g (Pass index keep router) k same (λ gave after row. none_seen f.homeward row.segment past row.there)

  pub pass_nowhere : (keep : Bool) (router : ℕ) → f.routers ≤ router → DecidesFar (Pass index keep router) f Refused g
  pass_nowhere keep router past = refused f g (Pass index keep router) k same
      (λ gave after row. let known = row.known in omega (arith, known, past, k.routers))

  pub reach_none : (keep : Bool) → length f.remoteward ≤ index → DecidesFar (Reach index keep) f Refused g
  reach_none keep past = refused f g (Reach index keep) k same (λ gave after row. none_seen f.remoteward row.segment past row.there)

  none_lost : (bag : List Segment) → length bag ≤ index → index < length (map (segment_of f.known.setup) bag) → ⊥
  none_lost bag past within = let n = length-map bag (segment_of f.known.setup) in omega (arith, within, n, past)

  pub lose_none_home : length f.homeward ≤ index → DecidesFar (Lose Home index) f Refused g
  lose_none_home past = refused f g (Lose Home index) k same (λ gave after row. none_lost f.homeward past row.there)

  pub lose_none_remote : length f.remoteward ≤ index → DecidesFar (Lose Remote index) f Refused g
  lose_none_remote past = refused f g (Lose Remote index) k same (λ gave after row. none_lost f.remoteward past row.there)

-- a segment is lost if there is one at the index
module _ (f g : AuditedFar) (k : FarInvariant f) (index : ℕ) (ruling : Ruling) (bag : List Segment) where
  pub lose_home_either : (index < length f.homeward → (ruling ≡ Silent) × (bag ≡ left_in_bag false index f.homeward))
      → (length f.homeward ≤ index → (ruling ≡ Refused) × (bag ≡ f.homeward)) → g ≡ record f { homeward = bag } → DecidesFar (Lose Home index) f ruling g
  lose_home_either lost none is = by_test (nat_lt index (length f.homeward)) refl where
    by_test : (t : Bool) → nat_lt index (length f.homeward) ≡ t → DecidesFar (Lose Home index) f ruling g
    by_test true e =
        let within : index < length f.homeward = grind (arith, nat_tests) in
        subst (λ (r : Ruling). DecidesFar (Lose Home index) f r g) (sym (lost within).0)
        (lose_home f g k index within (is ∙ ap (λ (xs : List Segment). let h : AuditedFar = record f { homeward = xs } in h) (lost within).1))
    by_test false e =
        let past : length f.homeward ≤ index = grind (arith, nat_tests) in
        subst (λ (r : Ruling). DecidesFar (Lose Home index) f r g) (sym (none past).0)
        (lose_none_home f g k index (is ∙ ap (λ (xs : List Segment). let h : AuditedFar = record f { homeward = xs } in h) (none past).1) past)

  pub lose_remote_either : (index < length f.remoteward → (ruling ≡ Silent) × (bag ≡ left_in_bag false index f.remoteward))
      → (length f.remoteward ≤ index → (ruling ≡ Refused) × (bag ≡ f.remoteward)) → g ≡ record f { remoteward = bag }
      → DecidesFar (Lose Remote index) f ruling g
  lose_remote_either lost none is = by_test (nat_lt index (length f.remoteward)) refl where
    by_test : (t : Bool) → nat_lt index (length f.remoteward) ≡ t → DecidesFar (Lose Remote index) f ruling g
    by_test true e =
        let within : index < length f.remoteward = grind (arith, nat_tests) in
        subst (λ (r : Ruling). DecidesFar (Lose Remote index) f r g) (sym (lost within).0)
        (lose_remote f g k index within (is ∙ ap (λ (xs : List Segment). let h : AuditedFar = record f { remoteward = xs } in h) (lost within).1))
    by_test false e =
        let past : length f.remoteward ≤ index = grind (arith, nat_tests) in
        subst (λ (r : Ruling). DecidesFar (Lose Remote index) f r g) (sym (none past).0)
        (lose_none_remote f g k index (is ∙ ap (λ (xs : List Segment). let h : AuditedFar = record f { remoteward = xs } in h) (none past).1) past)

-- ---- KEEPALIVEs

-- a KEEPALIVE may be said in this round
abbrev pub MayBeat : AuditedFar → ℕ → Type 0
MayBeat f round = (0 < f.keepalive_interval) × (round % f.keepalive_interval ≡ 0) × (f.last_keepalive < round) × (f.keepalives < 27594)

-- a KEEPALIVE as it is written
pub keepalive_is : spell KeepaliveMsg false
    ≡ 255 ∷ 255 ∷ 255 ∷ 255 ∷ 255 ∷ 255 ∷ 255 ∷ 255 ∷ 255 ∷ 255 ∷ 255 ∷ 255 ∷ 255 ∷ 255 ∷ 255 ∷ 255 ∷ 0 ∷ 19 ∷ 4 ∷ []
unfolding spell
keepalive_is = refl

module _ (f g : AuditedFar) (k : FarInvariant f) (round : ℕ) where
  pub beat_made : (r : RemoteValue) (bytes : List ℕ) → spell KeepaliveMsg false ≡ bytes → MayBeat f round
      → r ≡ record f.remote { end = sending bytes f.remote.end }
      → g ≡ record f { remote = r; keepalives = f.keepalives + 1; last_keepalive = round } → DecidesFar (Beat round) f Silent g
  beat_made r bytes written may says is =
      let same : g ≡ record f {
        remote = record f.remote { end = sending bytes f.remote.end };
        keepalives = f.keepalives + 1;
        last_keepalive = round;
      } = is ∙ ap (λ (v : RemoteValue). let h : AuditedFar = record f { remote = v; keepalives = f.keepalives + 1; last_keepalive = round } in h) says in
      subst (DecidesFar (Beat round) f Silent) (sym same)
      (silent f (record f {
        remote = record f.remote { end = sending bytes f.remote.end };
        keepalives = f.keepalives + 1;
        last_keepalive = round;
      }) k (Beat round)
      (record {
        keepalive_interval = f.keepalive_interval;
        is = k.keepalive_interval;
        some = may.0;
        multiple = may.1;
        later = may.2;
        few = may.3;
        takes = refl;
        sends = refl;
        effect = ap (λ (xs : List ℕ). let v : FarPart =
            record (far_part f) { end = sending xs f.remote.end; keepalives = f.keepalives + 1; last_keepalive = round } in v) (sym written);
      })
      (keeps_then f (record f {
        remote = record f.remote { end = sending bytes f.remote.end };
        keepalives = f.keepalives + 1;
        last_keepalive = round;
      }) k refl (record { peering = refl; send_first = refl; receive_first = refl }) k.homeward k.remoteward))

  pub beat_refused : (MayBeat f round → ⊥) → g ≡ f → DecidesFar (Beat round) f Refused g
  beat_refused not same = refused f g (Beat round) k same (λ gave after row.
      let interval : row.keepalive_interval ≡ f.keepalive_interval = same_some row.keepalive_interval f.keepalive_interval (sym row.is ∙ k.keepalive_interval) in
      not (subst (λ (n : ℕ). (0 < n) × (round % n ≡ 0) × (f.last_keepalive < round) × (f.keepalives < 27594)) interval
      (row.some, row.multiple, row.later, row.few)))
    where
      same_some : (m n : ℕ) → Some m ≡ Some n → m ≡ n
      same_some m n e = cc
