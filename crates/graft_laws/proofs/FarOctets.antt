-- What a remote says are octets.
use Rattle.std.proofs.Common.{◌≡◌, ℕ, zero, suc, ◌<◌, false, List, [], ◌∷◌, Option, Some, None, refl, sym, ap, ◌∙◌, subst, lit<}
use Rattle.std.specs.Prelude.{slice_get}
use Rattle.std.specs.List.{AllByRecursion}
use Rattle.bgp_types.specs.declared.message.Message.TheVariants.{KeepaliveMsg}
use Rattle.bgp_types.specs.OctetLists.{AreOctets}
use Rattle.bgp_types.specs.Spelling.{spell}
use Rattle.bgp_types.proofs.AttrLaws.{AreOctets-drop, AreOctets-take}
use Rattle.bgp_wire.proofs.OctetLaws.{AreOctets-append}
use Rattle.tcp_seq.specs.Endpoint.{received, received_bytes}
use Rattle.session_value.specs.Sessions.{SessionValue, unread}
use Rattle.session_value.proofs.Ties.{emits_same, takes_same}
use Rattle.tcp_seq.specs.declared.segment.Way.TheVariants.{Home, Remote}
use Rattle.graft_model.specs.FarRows.{FarTaken, FarSent}
use Rattle.graft_model.specs.First.{first_far}
use Rattle.graft_model.specs.Parts.{Errand, Live, FarPart, World}
use Rattle.graft_model.specs.Setups.{Setup, PeeringSetup, IsSetup, peerings_in}
use Rattle.graft_model.specs.declared.event.FarEvent.{FarEvent}
use Rattle.graft_model.specs.declared.event.FarEvent.TheVariants.{Say, Send, Take, Pass, Reach, Lose, Point, Beat}
use Rattle.graft_model.specs.Steps.{Event, ByRouter, ByFar, ByOperator, Step, far_row}
use Rattle.graft_laws.specs.Keeps.{Reached, Has}
use Rattle.graft_laws.specs.Ranges.{IsInRange}
use Rattle.graft_laws.specs.Streams.{IsUnbroken}
use Rattle.graft_laws.proofs.Deeds.{known_place}
use Rattle.graft_laws.proofs.Moves.{router_moves, far_moves, operator_moves}
use Rattle.graft_laws.proofs.Phases.{live_session}
use Rattle.graft_laws.proofs.Routers.{at_keeps}
use Rattle.graft_laws.proofs.Runs.{carried, always_owned}
use Rattle.graft_laws.proofs.StreamLaws.{always_unbroken}

octets_of : (xs : List ℕ) → AllByRecursion (λ x. x < 256) xs → AreOctets xs
octets_of [] all i = lit< tt
octets_of (x ∷ xs) all zero = all.0
octets_of (x ∷ xs) all (suc i) = octets_of xs all.1 i

keepalive_octets : AreOctets (spell KeepaliveMsg false)
unfolding spell
keepalive_octets = octets_of (spell KeepaliveMsg false) (
  lit< tt,
  (
    lit< tt,
    (
      lit< tt,
      (
        lit< tt,
        (
          lit< tt,
          (
            lit< tt,
            (
              lit< tt,
              (lit< tt, (lit< tt, (lit< tt, (lit< tt, (lit< tt, (lit< tt, (lit< tt, (lit< tt, (lit< tt, (lit< tt, (lit< tt, (lit< tt, tt)))))))))))),
            ),
          ),
        ),
      ),
    ),
  ),
)

module _ (setup : Setup) (ranges : IsInRange setup) where
  abbrev SaysOctets : ℕ → FarPart → Type 0
  SaysOctets p part = AreOctets part.end.stream

  same : (before part : FarPart) → part.end.stream ≡ before.end.stream → AreOctets before.end.stream → AreOctets part.end.stream
  same before part is octets = subst AreOctets (sym is) octets

  row_keeps : (p : ℕ) (event : FarEvent) (before : FarPart) (taken : Option FarTaken) (sent : List FarSent) (part : FarPart)
      → far_row setup p event before taken sent part → AreOctets before.end.stream → AreOctets part.end.stream
  row_keeps p (Say step) before taken sent part row octets =
      subst AreOctets (sym (ap (λ (f : FarPart). f.end.stream) row.effect))
      (AreOctets-append before.end.stream row.bytes octets (ranges.says step p row.bytes row.is))
  row_keeps p (Beat round) before taken sent part row octets =
      subst AreOctets (sym (ap (λ (f : FarPart). f.end.stream) row.effect))
      (AreOctets-append before.end.stream (spell KeepaliveMsg false) octets keepalive_octets)
  row_keeps p (Send from len) before taken sent part row octets =
      same before part (ap (λ (f : FarPart). f.end.stream) row.effect ∙ (emits_same before.end row.segment row.end row.emits.emits).stream) octets
  row_keeps p (Take router) before taken sent part row octets = same before part (ap (λ (f : FarPart). f.end.stream) row.effect) octets
  row_keeps p (Pass index keep router) before taken sent part row octets = same before part (ap (λ (f : FarPart). f.end.stream) row.effect) octets
  row_keeps p (Reach index keep) before taken sent part row octets =
      same before part (ap (λ (f : FarPart). f.end.stream) row.effect ∙ (takes_same before.end row.segment row.end row.arrives).stream) octets
  row_keeps p (Lose Home index) before taken sent part row octets = same before part (ap (λ (f : FarPart). f.end.stream) row.effect) octets
  row_keeps p (Lose Remote index) before taken sent part row octets = same before part (ap (λ (f : FarPart). f.end.stream) row.effect) octets
  row_keeps p (Point router) before taken sent part row octets = same before part (ap (λ (f : FarPart). f.end.stream) row.effect) octets

  abbrev AllSayOctets : World → Type 0
  AllSayOctets w = (p : ℕ) → AreOctets (w.far p).end.stream

  then_octets : (event : Event) (w v : World) → Reached setup w → Step setup event w v → AllSayOctets w → AllSayOctets v
  then_octets (ByRouter r event) w v reached x all p =
      subst (λ (f : ℕ → FarPart). AreOctets (f p).end.stream) (sym (router_moves setup r event w v x).far) (all p)
  then_octets (ByOperator event) w v reached x all p =
      subst (λ (f : ℕ → FarPart). AreOctets (f p).end.stream) (sym (operator_moves setup event w v x).far) (all p)
  then_octets (ByFar q event) w v reached x all p =
      subst (λ (f : ℕ → FarPart). AreOctets (f p).end.stream) (sym (far_moves setup q event w v x).far)
      (at_keeps SaysOctets w.far q x.part (row_keeps q event (w.far q) x.taken x.sent x.part x.row (all q)) all p)

  first_octets : (p : ℕ) (o : Option PeeringSetup) → slice_get setup.peerings p ≡ o → AreOctets (first_far o).end.stream
  first_octets p None is = λ i. lit< tt
  first_octets p (Some peering) is = ranges.openings p peering is

  always_octets : (w : World) → Reached setup w → AllSayOctets w
  always_octets w reached = carried setup AllSayOctets (λ p. first_octets p (slice_get setup.peerings p) refl) then_octets w reached

  -- what a live session hasn't got yet are octets
  pub unread_octets : (w : World) → IsSetup setup → Reached setup w → (r p : ℕ) (s : SessionValue) (o : Option Errand)
      → (w.router r).places p ≡ Live s o → AreOctets (unread s)
  unread_octets w sound reached r p s o live =
      let below : p < peerings_in setup = known_place setup w (always_owned setup sound w reached) r p (Live s o) live (λ e. cc) in
      let has : Has setup (IsUnbroken setup) w p = always_unbroken setup w p sound reached below in
      let is : s ≡ has.session = live_session has.phase has.session s o r (sym live ∙ has.stands.places r) in
      let came : AreOctets (received_bytes has.session.end) = subst AreOctets (sym has.more.streams.linked.back.bytes)
      (AreOctets-take (received has.session.end) (w.far p).end.stream (always_octets w reached p)) in
      subst (λ (z : SessionValue). AreOctets (unread z)) (sym is) (AreOctets-drop has.session.end.read (received_bytes has.session.end) came)
