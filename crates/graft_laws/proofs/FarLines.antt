-- What the far side does keeps the streams of a peering.
use Rattle.std.proofs.Common.{◌≡◌, ◌==◌, ℕ, ◌+◌, ◌≤◌, ◌^◌, Bool, true, false, List, [], ◌∷◌, ◌++◌, length, Option, Some, refl, sym, ap, ◌∙◌, subst, arith}
use Rattle.std.specs.Prelude.{if◌then◌else◌}
use Rattle.std.specs.List.{AllByRecursion}
use Rattle.std.proofs.lemmas.Bool.Decides.{nat_tests}
use Rattle.bgp_types.specs.declared.message.Message.TheVariants.{KeepaliveMsg}
use Rattle.bgp_types.specs.Spelling.{spell}
use Rattle.tcp_seq.specs.Endpoint.{Endpoint}
use Rattle.tcp_seq.specs.Connection.{IsEmittedBy, AreLinked, StaysLinked}
use Rattle.tcp_seq.proofs.Flows.{turned, sends_linked, emits_linked, takes_linked}
use Rattle.session_value.specs.Cases.{sending}
use Rattle.graft_model.specs.Points.{at}
use Rattle.graft_model.specs.Setups.{Setup}
use Rattle.graft_model.specs.Parts.{FarPart, Outward, Seg, World}
use Rattle.tcp_seq.specs.declared.segment.Way.{Way}
use Rattle.tcp_seq.specs.declared.segment.Way.TheVariants.{Home, Remote}
use Rattle.graft_model.specs.FarRows.{FarTaken, OutwardIn, FarSent, without, left_by, Says, Beats, SendsSegment, TakesIn, Passes, Reaches, Loses, TurnsLink}
use Rattle.graft_model.specs.declared.event.FarEvent.{FarEvent}
use Rattle.graft_model.specs.declared.event.FarEvent.TheVariants.{Say, Send, Take, Pass, Reach, Lose, Point, Beat}
use Rattle.graft_model.specs.Steps.{far_row}
use Rattle.graft_laws.specs.Moves.{outward_taken, inward_sent, FarMoves}
use Rattle.graft_laws.specs.Phases.{only2}
use Rattle.graft_laws.specs.Streams.{IsOutwardOf, Streams}
use Rattle.graft_laws.proofs.Lists.{all_map, all_join}
use Rattle.graft_laws.proofs.Segments.{all_is, all_left, all_get, all_without, all_left_by}
use Rattle.graft_laws.proofs.HomeLines.{unmoved}

-- the far side's part becomes this one beside the endpoint of the session
record Fits (far : FarPart) (x : Endpoint) (part : FarPart) : Type 0 where
  stays : StaysLinked far.end part.end x
  remoteward : AllByRecursion (IsEmittedBy x) part.remoteward
  homeward : AllByRecursion (IsEmittedBy part.end) part.homeward

-- what it sends home are its segments
abbrev AreHis : Endpoint → List FarSent → Type 0
AreHis end sent = AllByRecursion (λ (s : FarSent). IsEmittedBy end s.segment) sent

all_only2 : {A : Type 0} (P : A → Type 0) (j k a b : ℕ) (item : A) → P item → AllByRecursion P (only2 j k item a b)
all_only2 P j k a b item is = by_tests (a == j) (b == k) where
  by_tests : (t u : Bool) → AllByRecursion P (if t then (if u then item ∷ [] else []) else [])
  by_tests true true = (is, tt)
  by_tests true false = tt
  by_tests false u = tt

sent_home : (p r : ℕ) (end : Endpoint) (sent : List FarSent) → AreHis end sent → AllByRecursion (IsEmittedBy end) (inward_sent p sent p r)
sent_home p r end [] all = tt
sent_home p r end (item ∷ sent) all =
    all_join (IsEmittedBy end) (only2 p item.router item.segment p r) (inward_sent p sent p r)
    (all_only2 (IsEmittedBy end) p item.router p r item.segment all.0) (sent_home p r end sent all.1)

pub at_here : (f : ℕ → FarPart) (p : ℕ) (part : FarPart) → at f p part p ≡ part
at_here f p part = grind (arith, nat_tests)

far_fits : (w v : World) (p : ℕ) (x : Endpoint) (taken : Option FarTaken) (sent : List FarSent) (part : FarPart) → Streams w p x
    → FarMoves p taken sent part w v
    → Fits (w.far p) x part → AreHis part.end sent → Streams v p x
far_fits w v p x taken sent part s moves fits his =
    let here : v.far p ≡ part = ap (λ (f : ℕ → FarPart). f p) moves.far ∙ at_here w.far p part in
    record {
      linked = subst (λ (f : FarPart). AreLinked x f.end) (sym here) (turned part.end x fits.stays.linked);
      outward = λ r. all_left (IsOutwardOf x) (outward_taken p taken r p) (v.outward r p) (w.outward r p) (moves.outward r p) (s.outward r);
      remoteward = subst (λ (f : FarPart). AllByRecursion (IsEmittedBy x) f.remoteward) (sym here) fits.remoteward;
      inward = λ r. subst (λ (f : FarPart). AllByRecursion (IsEmittedBy f.end) (v.inward p r)) (sym here)
          (all_is (IsEmittedBy part.end) (w.inward p r ++ inward_sent p sent p r) (v.inward p r) (moves.inward p r)
          (all_join (IsEmittedBy part.end) (w.inward p r) (inward_sent p sent p r)
          (all_map (IsEmittedBy (w.far p).end) (IsEmittedBy part.end) (w.inward p r) fits.stays.still (s.inward r))
          (sent_home p r part.end sent his)));
      homeward = subst (λ (f : FarPart). AllByRecursion (IsEmittedBy f.end) f.homeward) (sym here) fits.homeward;
    }

-- what comes from a router is the session's
took_out : (p r : ℕ) (item : Outward) (taken : Option FarTaken) (now was : List Outward) → taken ≡ Some (OutwardIn r item)
    → outward_taken p taken r p ++ now ≡ was → item ∷ now ≡ was
took_out p r item taken now was is e =
    let one : only2 r p item r p ≡ item ∷ [] = grind (arith, nat_tests) in
    ap (λ (xs : List Outward). xs ++ now) (sym one) ∙ ap (λ (t : Option FarTaken). outward_taken p t r p ++ now) (sym is) ∙ e

none_sent : (end : Endpoint) (sent : List FarSent) → sent ≡ [] → AreHis end sent
none_sent end sent is = subst (λ (xs : List FarSent). AreHis end xs) (sym is) tt

-- ---- the rows

module _ (w : World) (p : ℕ) (x : Endpoint) (s : Streams w p x) where
  abbrev far : FarPart
  far = w.far p

  back : AreLinked far.end x
  back = turned x far.end s.linked

  -- the endpoint changes alone
  end_fits : (end : Endpoint) (part : FarPart) → StaysLinked far.end end x → part.end ≡ end → part.homeward ≡ far.homeward
      → AllByRecursion (IsEmittedBy x) part.remoteward → Fits far x part
  end_fits end part stays is same remoteward =
      let mine : StaysLinked far.end part.end x = subst (λ (e : Endpoint). StaysLinked far.end e x) (sym is) stays in
      record {
        stays = mine;
        remoteward = remoteward;
        homeward = all_is (IsEmittedBy part.end) far.homeward part.homeward same
            (all_map (IsEmittedBy far.end) (IsEmittedBy part.end) far.homeward mine.still s.homeward);
      }

  -- the endpoint stays
  link_fits : (part : FarPart) → part.end ≡ far.end → AllByRecursion (IsEmittedBy x) part.remoteward
      → AllByRecursion (IsEmittedBy far.end) part.homeward → Fits far x part
  link_fits part is remoteward homeward = record {
    stays = subst (λ (e : Endpoint). StaysLinked far.end e x) (sym is) (unmoved far.end x back);
    remoteward = remoteward;
    homeward = subst (λ (e : Endpoint). AllByRecursion (IsEmittedBy e) part.homeward) (sym is) homeward;
  }

  more_said : (bytes : List ℕ) → length far.end.stream + length bytes ≤ 2 ^ 20 → StaysLinked far.end (sending bytes far.end) x
  more_said bytes room = sends_linked far.end (sending bytes far.end) x bytes back (record { fits = room; sent = refl })

  says_fits : (setup : Setup) (step : ℕ) (taken : Option FarTaken) (sent : List FarSent) (part : FarPart) → Says setup p step far taken sent part
      → Fits far x part
  says_fits setup step taken sent part row =
      subst (Fits far x) (sym row.effect)
      (end_fits (sending row.bytes far.end) (record far { end = sending row.bytes far.end }) (more_said row.bytes row.room) refl refl s.remoteward)

  beats_fits : (setup : Setup) (round : ℕ) (taken : Option FarTaken) (sent : List FarSent) (part : FarPart)
      → length far.end.stream + length (spell KeepaliveMsg false) ≤ 2 ^ 20
      → Beats setup p round far taken sent part → Fits far x part
  beats_fits setup round taken sent part room row =
      subst (Fits far x) (sym row.effect) (end_fits (sending (spell KeepaliveMsg false) far.end)
      (record far { end = sending (spell KeepaliveMsg false) far.end; keepalives = far.keepalives + 1; last_keepalive = round })
      (more_said (spell KeepaliveMsg false) room) refl refl s.remoteward)

  sends_fits : (from len : ℕ) (taken : Option FarTaken) (sent : List FarSent) (part : FarPart) → SendsSegment from len far taken sent part → Fits far x part
  sends_fits from len taken sent part row =
      let next = emits_linked far.end row.end x row.segment back row.emits.emits in
      subst (Fits far x) (sym row.effect) (record {
        stays = next.0;
        remoteward = s.remoteward;
        homeward = all_join (IsEmittedBy row.end) far.homeward (row.segment ∷ [])
            (all_map (IsEmittedBy far.end) (IsEmittedBy row.end) far.homeward next.0.still s.homeward) (next.1, tt);
      })

  takes_fits : (router : ℕ) (taken : Option FarTaken) (sent : List FarSent) (part : FarPart) (now : List Outward)
      → outward_taken p taken router p ++ now ≡ w.outward router p
      → TakesIn router far taken sent part → Fits far x part
  takes_fits router taken sent part now e row =
      let all : AllByRecursion (IsOutwardOf x) (Seg row.segment ∷ now) = all_is (IsOutwardOf x) (w.outward router p)
      (Seg row.segment ∷ now) (took_out p router (Seg row.segment) taken now (w.outward router p) row.takes e) (s.outward router) in
      subst (Fits far x) (sym row.effect) (link_fits (record far { remoteward = far.remoteward ++ row.segment ∷ [] }) refl
      (all_join (IsEmittedBy x) far.remoteward (row.segment ∷ []) s.remoteward (all.0, tt)) s.homeward)

  passes_fits : (setup : Setup) (index : ℕ) (keep : Bool) (router : ℕ) (taken : Option FarTaken) (sent : List FarSent) (part : FarPart)
      → Passes setup index keep router far taken sent part → Fits far x part
  passes_fits setup index keep router taken sent part row =
      subst (Fits far x) (sym row.effect) (link_fits (record far { homeward = left_by keep index far.homeward }) refl s.remoteward
      (all_left_by (IsEmittedBy far.end) keep index far.homeward s.homeward))

  passes_his : (setup : Setup) (index : ℕ) (keep : Bool) (router : ℕ) (taken : Option FarTaken) (sent : List FarSent) (part : FarPart)
      → Passes setup index keep router far taken sent part → AreHis part.end sent
  passes_his setup index keep router taken sent part row =
      subst (λ (xs : List FarSent). AreHis part.end xs) (sym row.sends) (
        subst (λ (f : FarPart). IsEmittedBy f.end row.segment) (sym row.effect)
            (all_get (IsEmittedBy far.end) far.homeward index row.segment row.there s.homeward),
        tt,
      )

  reaches_fits : (index : ℕ) (keep : Bool) (taken : Option FarTaken) (sent : List FarSent) (part : FarPart) → Reaches index keep far taken sent part
      → Fits far x part
  reaches_fits index keep taken sent part row =
      let his : IsEmittedBy x row.segment = all_get (IsEmittedBy x) far.remoteward index row.segment row.there s.remoteward in
      subst (Fits far x) (sym row.effect) (end_fits row.end (record far { end = row.end; remoteward = left_by keep index far.remoteward })
      (takes_linked far.end row.end x row.segment back his row.arrives) refl refl (all_left_by (IsEmittedBy x) keep index far.remoteward s.remoteward))

  loses_fits : (way : Way) (index : ℕ) (taken : Option FarTaken) (sent : List FarSent) (part : FarPart) → Loses way index far taken sent part → Fits far x part
  loses_fits Home index taken sent part row =
      subst (Fits far x) (sym row.effect) (link_fits (record far { homeward = without index far.homeward }) refl s.remoteward
      (all_without (IsEmittedBy far.end) index far.homeward s.homeward))
  loses_fits Remote index taken sent part row =
      subst (Fits far x) (sym row.effect) (link_fits (record far { remoteward = without index far.remoteward }) refl
      (all_without (IsEmittedBy x) index far.remoteward s.remoteward) s.homeward)

  turns_fits : (router : ℕ) (taken : Option FarTaken) (sent : List FarSent) (part : FarPart) → TurnsLink router far taken sent part → Fits far x part
  turns_fits router taken sent part row =
      subst (Fits far x) (sym row.effect) (link_fits _ refl s.remoteward s.homeward)

-- a remote whose timer runs has to have room for what it says
pub far_acts : (setup : Setup) (event : FarEvent) (w v : World) (p : ℕ) (x : Endpoint) (taken : Option FarTaken) (sent : List FarSent) (part : FarPart)
    → ((round : ℕ) → Beats setup p round (w.far p) taken sent part → length (w.far p).end.stream + length (spell KeepaliveMsg false) ≤ 2 ^ 20)
    → Streams w p x → far_row setup p event (w.far p) taken sent part → FarMoves p taken sent part w v → Streams v p x
far_acts setup (Say step) w v p x taken sent part room s row moves =
    far_fits w v p x taken sent part s moves (says_fits w p x s setup step taken sent part row) (none_sent part.end sent row.sends)
far_acts setup (Beat round) w v p x taken sent part room s row moves =
    far_fits w v p x taken sent part s moves (beats_fits w p x s setup round taken sent part (room round row) row) (none_sent part.end sent row.sends)
far_acts setup (Send from len) w v p x taken sent part room s row moves =
    far_fits w v p x taken sent part s moves (sends_fits w p x s from len taken sent part row) (none_sent part.end sent row.sends)
far_acts setup (Take router) w v p x taken sent part room s row moves = far_fits w v p x taken sent part s moves
    (takes_fits w p x s router taken sent part (v.outward router p) (moves.outward router p) row) (none_sent part.end sent row.sends)
far_acts setup (Pass index keep router) w v p x taken sent part room s row moves = far_fits w v p x taken sent part s moves
    (passes_fits w p x s setup index keep router taken sent part row) (passes_his w p x s setup index keep router taken sent part row)
far_acts setup (Reach index keep) w v p x taken sent part room s row moves =
    far_fits w v p x taken sent part s moves (reaches_fits w p x s index keep taken sent part row) (none_sent part.end sent row.sends)
far_acts setup (Lose way index) w v p x taken sent part room s row moves =
    far_fits w v p x taken sent part s moves (loses_fits w p x s way index taken sent part row) (none_sent part.end sent row.sends)
far_acts setup (Point router) w v p x taken sent part room s row moves =
    far_fits w v p x taken sent part s moves (turns_fits w p x s router taken sent part row) (none_sent part.end sent row.sends)
