-- What the passes over a finished net make is what is seen of its world.
use Rattle.std.proofs.Common.{◌≡◌, ◌<◌, ◌+◌, ℕ, List, ◌++◌, Option, length, sym, ap, ◌∙◌, subst}
use Rattle.std.specs.Prelude.{slice_get}
use Rattle.std.specs.List.{flat_map, range_with_len}
use Rattle.ring_net.specs.declared.parts.Left.{Left}
use Rattle.graft_steps.specs.declared.log.GraftEntry.{GraftEntry}
use Rattle.graft_model.specs.Setups.{Setup, IsSetup, routers_in, peerings_in}
use Rattle.graft_model.specs.Parts.{World}
use Rattle.graft_laws.proofs.Holders.{one_session}
use Rattle.world_nodes.specs.declared.node.Node.{Node}
use Rattle.world_nodes.specs.Nodes.{Mail}
use Rattle.lab_report.specs.declared.lab.FarView.{FarView}
use Rattle.lab_report.specs.declared.lab.Lab.{Lab}
use Rattle.lab_report.specs.declared.lab.Place.{Place}
use Rattle.lab_report.specs.declared.lab.RouterTable.{RouterTable}
use Rattle.lab_report.specs.declared.lab.SessionView.{SessionView}
use Rattle.lab_seen.specs.Finished.{IsFinished}
use Rattle.lab_seen.specs.Found.{router_in, far_in, operator_in, router_tables_of, fars_of, log_in, held_by, carried_in, first_on, places_in, views_in}
use Rattle.lab_seen.specs.Seen.{Observed, SeesSession, session_view}
use Rattle.lab_seen.specs.declared.found.Found.{Found}
use Rattle.lab_seen.proofs.Nodes.{tables_are, fars_are, log_is}
use Rattle.lab_seen.proofs.Phases.{place_in}
use Rattle.lab_seen.proofs.Ranges.{IsOne, one_of, as_many}
use Rattle.lab_seen.proofs.Sessions.{known, is_found, is_placed}

-- all sessions that are found
abbrev pub found_in : (actors : List Node) (left : List (Left Mail)) (routers : ℕ) → List Found
found_in actors left routers = flat_map (λ r. held_by r (slice_get actors r)) (range_with_len 0 routers) ++ flat_map carried_in left

-- what the passes make, by the numbers of routers and peerings
pub record IsMade (setup : Setup) (actors : List Node) (left : List (Left Mail)) (routers peerings : ℕ) (log : List GraftEntry)
    (far : List FarView) (tables : List RouterTable) (placement : List Place) (sessions : List SessionView) : Type 0 where
  pub log_is : log ≡ log_in (operator_in (slice_get actors (routers + peerings)))
  pub far_is : far ≡ flat_map (λ p. fars_of (far_in (slice_get actors (routers + p)))) (range_with_len 0 peerings)
  pub tables_is : tables ≡ flat_map (λ r. router_tables_of setup (router_in (slice_get actors r))) (range_with_len 0 routers)
  pub placement_is : placement ≡ flat_map (λ p. places_in (first_on (found_in actors left routers) p)) (range_with_len 0 peerings)
  pub sessions_is : sessions ≡ flat_map (λ p. views_in (first_on (found_in actors left routers) p)) (range_with_len 0 peerings)

module _ (setup : Setup) (w : World) (actors : List Node) (left : List (Left Mail)) (done : IsFinished setup w actors left) (sound : IsSetup setup) where
  abbrev found : List Found
  found = found_in actors left (routers_in setup)

  one_place : (p : ℕ) → p < peerings_in setup → IsOne (λ p. places_in (first_on found p)) p
  one_place p below =
      let k = known setup w actors left done sound p below in
      record { x = place_in k.phase; is = ap (λ (o : Option Found). places_in o) (is_found setup w actors left done sound p k) }

  one_view : (p : ℕ) → p < peerings_in setup → IsOne (λ p. views_in (first_on found p)) p
  one_view p below =
      let k = known setup w actors left done sound p below in
      record { x = session_view k.session; is = ap (λ (o : Option Found). views_in o) (is_found setup w actors left done sound p k) }

  sees : (lab : Lab) → lab.placement ≡ flat_map (λ p. places_in (first_on found p)) (range_with_len 0 (peerings_in setup))
      → lab.sessions ≡ flat_map (λ p. views_in (first_on found p)) (range_with_len 0 (peerings_in setup))
      → (p : ℕ) → p < peerings_in setup → SeesSession setup w lab p
  sees lab places views p below =
      let k = known setup w actors left done sound p below in
      let there = is_found setup w actors left done sound p k in
      record {
        session = k.session;
        one = one_session setup w p k.phase k.session k.stands;
        view = ap (λ (xs : List SessionView). slice_get xs p) views
            ∙ one_of (λ p. views_in (first_on found p)) (peerings_in setup) p
            (session_view k.session) one_view below (ap (λ (o : Option Found). views_in o) there);
        place = place_in k.phase;
        placed = ap (λ (xs : List Place). slice_get xs p) places
            ∙ one_of (λ p. places_in (first_on found p)) (peerings_in setup) p
            (place_in k.phase) one_place below (ap (λ (o : Option Found). places_in o) there);
        is = is_placed setup w actors left done sound p k;
      }

  by_setup : (lab : Lab) → IsMade setup actors left (routers_in setup) (peerings_in setup) lab.log lab.far lab.tables lab.placement lab.sessions
      → Observed setup w lab
  by_setup lab made = record {
    log = made.log_is ∙ log_is setup w actors left done;
    placed = ap (λ (xs : List Place). length xs) made.placement_is ∙ as_many (λ p. places_in (first_on found p)) (peerings_in setup) one_place;
    viewed = ap (λ (xs : List SessionView). length xs) made.sessions_is ∙ as_many (λ p. views_in (first_on found p)) (peerings_in setup) one_view;
    sessions = sees lab made.placement_is made.sessions_is;
    far = made.far_is ∙ fars_are setup w actors left done;
    tables = made.tables_is ∙ tables_are setup w actors left done;
  }

  -- what is made of so many routers and peerings as the setup has
  pub observed : (lab : Lab) (routers peerings : ℕ) → routers_in setup ≡ routers → peerings_in setup ≡ peerings
      → IsMade setup actors left routers peerings lab.log lab.far lab.tables lab.placement lab.sessions → Observed setup w lab
  observed lab routers peerings many_routers many_peerings made = by_setup lab
      (subst (λ n. IsMade setup actors left n (peerings_in setup) lab.log lab.far lab.tables lab.placement lab.sessions) (sym many_routers)
      (subst (λ n. IsMade setup actors left routers n lab.log lab.far lab.tables lab.placement lab.sessions) (sym many_peerings) made))
