-- The way of a laboratory's net is a run of the world.
use Rattle.std.proofs.Common.{◌≢◌, ◌≤◌, ◌+◌, ◌∙◌, ℕ, true, List, [], ◌∷◌, ◌++◌, length, ap, sym, subst, arith}
use Rattle.std.specs.List.{AllByRecursion}
use Rattle.std.proofs.lemmas.List.{map-append}
use Rattle.ring_net.specs.Deeds.{Deed, Noted, deeds}
use Rattle.ring_net.specs.Turns.{ActorDid, Tooks, stays, takes}
use Rattle.ring_net.specs.Phases.{InOrder}
use Rattle.ring_net.proofs.Replays.{all-append}
use Rattle.journal_merge.specs.Laws.{GrowsOn, LevelGrows, PhaseGrows, BetweenGrows}
use Rattle.graft_model.specs.Setups.{Setup, IsSetup, routers_in, peerings_in}
use Rattle.graft_actors.specs.Actors as names
use Rattle.graft_actors.specs.Acts.{acts}
use Rattle.bgp_session.specs.Running.{carried}
use Rattle.world_runs.specs.Runs.{Ran}
use Rattle.world_runs.specs.Laws.{IsNoGo, NewNetsRan, RunsGoOn, ExtendsAtMark}
use Rattle.world_nodes.specs.Nodes.{Mail, own, took, turned, paused}
use Rattle.world_nodes.specs.Ways.{Stand, IsFirstStand, Way, Here, Rounds, Groups}
use Rattle.world_nodes.specs.declared.node.Node.{Node}
use Rattle.world_nodes.specs.declared.node.Node.TheVariants.{Router, Far, Operator}
use Rattle.world_nodes.proofs.NoGo.{replay_no_go, take_no_go}
use Rattle.world_nodes.proofs.Going.{Goes, goes_first, goes_ran, goes_round, goes_pause}

-- ---- in a round no group begins

no_router : (r : ℕ) → names.Router r ≢ names.Operator
no_router r e = absurd cc

no_far_side : (p : ℕ) → names.FarSide p ≢ names.Operator
no_far_side p e = absurd cc

took_no_go : (old new : Node) (from : ℕ) (item : Mail) (ds : List (Deed Mail)) → took old from item ds new → AllByRecursion IsNoGo ds
took_no_go (Router old) new from item ds t = replay_no_go carried 0 (own (Router old)) (own new) ds (no_router old.fields.number.0) t.2
took_no_go (Far old) new from item ds t = replay_no_go carried 0 (own (Far old)) (own new) ds (no_far_side old.fields.peering.0) t.2
took_no_go (Operator old) (Operator new) from item ds t = take_no_go carried 0 (own (Operator old)) (own (Operator new)) from item ds t.0 t.1 t.2
took_no_go (Operator old) (Router new) from item ds t = absurd t.0
took_no_go (Operator old) (Far new) from item ds t = absurd t.0

turned_no_go : (old new : Node) (ds : List (Deed Mail)) → turned old ds new → AllByRecursion IsNoGo ds
turned_no_go (Router old) new ds t = replay_no_go carried 0 (own (Router old)) (own new) ds (no_router old.fields.number.0) t.1
turned_no_go (Far old) new ds t = replay_no_go carried 0 (own (Far old)) (own new) ds (no_far_side old.fields.peering.0) t.1
turned_no_go (Operator old) (Operator new) ds t = t.0.no_go
turned_no_go (Operator old) (Router new) ds t = absurd t.0
turned_no_go (Operator old) (Far new) ds t = absurd t.0

tooks_no_go : (old new : Node) (ds : List (Deed Mail)) → Tooks took old ds new → AllByRecursion IsNoGo ds
tooks_no_go old new ds (stays a) = tt
tooks_no_go old new ds (takes a b c before more from item tooks t) =
    all-append IsNoGo before more (tooks_no_go a b before tooks) (took_no_go b c from item more t)

pub round_no_go : (k : ℕ) (old new : Node) (before after : ℕ) (notes : List (Noted Mail))
    → ActorDid own (acts carried) took turned k old before notes new after → AllByRecursion IsNoGo (deeds notes)
round_no_go k old new before after notes did = subst (λ (ds : List (Deed Mail)). AllByRecursion IsNoGo ds)
    (sym (ap (λ ns. deeds ns) did.split ∙ map-append (λ (n : Noted Mail). n.deed) did.first did.second))
    (all-append IsNoGo (deeds did.first) (deeds did.second)
    (tooks_no_go old did.mid (deeds did.first) did.tooks) (turned_no_go did.mid new (deeds did.second) did.turn))

-- ---- at a mark one event at most

pub pause_few : (old new : Node) (ds : List (Deed Mail)) → paused old ds new → length ds ≤ 1
pause_few (Router old) (Router new) ds p = rw (p.0) (omega arith)
pause_few (Far old) (Far new) ds p = rw (p.0) (omega arith)
pause_few (Operator old) (Operator new) ds p = p.few
pause_few (Router old) (Far new) ds p = absurd p
pause_few (Router old) (Operator new) ds p = absurd p
pause_few (Far old) (Router new) ds p = absurd p
pause_few (Far old) (Operator new) ds p = absurd p
pause_few (Operator old) (Router new) ds p = absurd p
pause_few (Operator old) (Far new) ds p = absurd p

-- ---- the way

module _ (new : NewNetsRan own carried) (goes_on : RunsGoOn own carried) (go : ExtendsAtMark own carried)
    (joins : GrowsOn own (acts carried)) (phases : PhaseGrows own (acts carried) took turned)
    (levels : LevelGrows own (acts carried)) (pauses : BetweenGrows own (acts carried) paused) where
  goes : (setup : Setup) (a b : Stand) (rounds : List ℕ) → IsSetup setup → IsFirstStand setup a → Way setup a rounds b → Goes own carried setup b.view
  goes setup a b rounds sound begins Here = goes_first own carried new setup begins.actors begins.edges a.view begins.first begins.new
  goes setup a c rounds sound begins (Rounds past n {b = b} way round) =
      goes_round own carried took turned round_no_go phases joins setup b.view c.view round.phase (goes setup a b (past ++ n ∷ []) sound begins way)
  goes setup a c rounds sound begins (Groups before {b = b} way quiet pause) =
      let at = goes setup a b before sound begins way in
      goes_pause own carried paused pause_few levels pauses joins goes_on go setup (routers_in setup + peerings_in setup)
      b.view pause.level c.view true sound (omega (arith, at.grew.size, at.size)) pause.levelled pause.between quiet at

  pub way_ran : (setup : Setup) (a b : Stand) (rounds : List ℕ) → IsSetup setup → IsFirstStand setup a → Way setup a rounds b → Ran own carried setup b.view
  way_ran setup a b rounds sound begins way = goes_ran own carried goes_on setup b.view sound (goes setup a b rounds sound begins way)

  pub way_ordered : (setup : Setup) (a b : Stand) (rounds : List ℕ) → IsSetup setup → IsFirstStand setup a → Way setup a rounds b → InOrder b.view
  way_ordered setup a b rounds sound begins way = (goes setup a b rounds sound begins way).ordered
