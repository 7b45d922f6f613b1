-- A net that goes on, from one level to the next, is a run of the world.
use Rattle.std.proofs.Common.{◌≡◌, ◌∙◌, ◌≤◌, ◌<◌, ℕ, Bool, List, [], ◌∷◌, ◌++◌, length, get_or, map, ap, sym, subst, arith, inl, inr}
use Rattle.std.specs.Prelude.{◌⊎◌}
use Rattle.std.specs.List.{AllByRecursion}
use Rattle.std.proofs.lemmas.List.{map-append}
use Rattle.ring_net.specs.Deeds.{Deed, Noted, deeds}
use Rattle.ring_net.specs.Turns.{ActorDid}
use Rattle.ring_net.specs.Phases.{View, IsNewNet, InOrder, AllAt, Levelled, NetPhase, Between}
use Rattle.ring_net.proofs.Replays.{all-append}
use Rattle.ring_net.proofs.Order.{order_new, order_level, order_phase, order_between}
use Rattle.journal_merge.specs.Growth.{Grew}
use Rattle.journal_merge.specs.Laws.{GrowsOn, LevelGrows, PhaseGrows, BetweenGrows}
use Rattle.graft_steps.specs.declared.item.Item.{Item}
use Rattle.session_value.specs.Sessions.{SessionValue}
use Rattle.graft_model.specs.Setups.{Setup, IsSetup}
use Rattle.graft_model.specs.Parts.{World}
use Rattle.graft_actors.specs.Acts.{OwnPart, acts}
use Rattle.world_runs.specs.Labs.{actors_in, AreFirstActors}
use Rattle.world_runs.specs.Runs.{IsSeenAs, Ran, QuietAt}
use Rattle.world_runs.specs.Laws.{IsNoGo, NewNetsRan, RunsGoOn, ExtendsAtMark}
use Rattle.journal_merge.proofs.Growths.{grew_none}

below_or_past : (k n : ℕ) → (k < n) ⊎ (n ≤ k)
below_or_past k n = grind arith

some_of : {A : Type 0} (xs : List A) (k : ℕ) → k < length xs → A
some_of [] k h = absurd (omega arith)
some_of (x ∷ xs) k h = x

module _ {A C : Type 0} (own : A → OwnPart) (session : C → SessionValue) where
  -- Since a level, at which the net was in order and its journal that of a run, no group began.
  pub record Goes (setup : Setup) (v : View A (Item C)) : Type 0 where
    pub start : View A (Item C)
    pub clock : ℕ
    pub levels : List ℕ
    pub notes : ℕ → List (Noted (Item C))
    pub size : length start.actors ≡ actors_in setup
    pub order : InOrder start
    pub level : AllAt start clock
    pub ran : Ran own session setup start
    pub grew : Grew own (acts session) start v levels notes
    pub no_go : (k : ℕ) → AllByRecursion IsNoGo (deeds (notes k))
    pub ordered : InOrder v

  -- from a level on
  starts : (setup : Setup) (v : View A (Item C)) (clock : ℕ) → length v.actors ≡ actors_in setup → InOrder v → AllAt v clock
      → Ran own session setup v → Goes setup v
  starts setup v clock size order level ran = record {
    start = v;
    clock = clock;
    levels = [];
    notes = λ k. [];
    size = size;
    order = order;
    level = level;
    ran = ran;
    grew = grew_none own (acts session) v;
    no_go = λ k. tt;
    ordered = order;
  }

  pub goes_first : NewNetsRan own session → (setup : Setup) (actors : List A) (edges : List (ℕ × ℕ)) (v : View A (Item C))
      → AreFirstActors own setup actors → IsNewNet actors edges v → Goes setup v
  goes_first law setup actors edges v first new = starts setup v 0 (ap (λ (xs : List A). length xs) new.all ∙ first.all)
      (order_new actors edges v new) (λ k k_in. new.clocks k) (law setup actors edges v first new)

  pub goes_ran : RunsGoOn own session → (setup : Setup) (v : View A (Item C)) → IsSetup setup → Goes setup v → Ran own session setup v
  goes_ran law setup v sound goes = law setup goes.start v goes.levels goes.notes goes.clock sound goes.size goes.order goes.level goes.grew goes.no_go goes.ran

  no_go_joined : (xs ys : List (Noted (Item C))) → AllByRecursion IsNoGo (deeds xs) → AllByRecursion IsNoGo (deeds ys)
      → AllByRecursion IsNoGo (deeds (xs ++ ys))
  no_go_joined xs ys h k = subst (λ (ds : List (Deed (Item C))). AllByRecursion IsNoGo ds)
      (sym (map-append (λ (n : Noted (Item C)). n.deed) xs ys)) (all-append IsNoGo (deeds xs) (deeds ys) h k)

  -- ---- a round

  module _ (took : A → ℕ → Item C → List (Deed (Item C)) → A → Type 0) (turned : A → List (Deed (Item C)) → A → Type 0) where
    -- what an actor does in a round is no Go
    abbrev pub RoundsBeginNoGroup : Type 0
    RoundsBeginNoGroup = (k : ℕ) (old new : A) (before after : ℕ) (notes : List (Noted (Item C)))
        → ActorDid own (acts session) took turned k old before notes new after → AllByRecursion IsNoGo (deeds notes)

    pub goes_round : RoundsBeginNoGroup → PhaseGrows own (acts session) took turned → GrowsOn own (acts session)
        → (setup : Setup) (u v : View A (Item C)) → NetPhase own (acts session) took turned u v → Goes setup u → Goes setup v
    goes_round none phases joins setup u v phase goes = record {
      start = goes.start;
      clock = goes.clock;
      levels = goes.levels ++ [];
      notes = λ k. goes.notes k ++ phase.notes k;
      size = goes.size;
      order = goes.order;
      level = goes.level;
      ran = goes.ran;
      grew = joins goes.start u v goes.levels [] goes.notes phase.notes goes.grew (phases u v phase);
      no_go = λ k. no_go_joined (goes.notes k) (phase.notes k) (goes.no_go k) (each k (below_or_past k (length u.actors)));
      ordered = order_phase own (acts session) took turned u v phase goes.ordered;
    }
      where
        each : (k : ℕ) → (k < length u.actors) ⊎ (length u.actors ≤ k) → AllByRecursion IsNoGo (deeds (phase.notes k))
        each k (inl k_in) = none k _ _ _ _ (phase.notes k) (phase.actors k (some_of u.actors k k_in) k_in)
        each k (inr past) = rw (phase.none k past) tt

  -- ---- a mark

  -- a level is the same world
  seen_before : (setup : Setup) (u v : View A (Item C)) (w : World) → Levelled u v → IsSeenAs own session setup v w → IsSeenAs own session setup u w
  seen_before setup u v w levelled seen = record {
    lab = seen.lab;
    is = record {
      parts = λ k d k_in. seen.is.parts k d (subst (λ (xs : List A). k < length xs) (sym levelled.only.actors) k_in)
          ∙ ap (λ (xs : List A). own (get_or xs k d)) levelled.only.actors;
      channels = λ a b e. seen.is.channels a b (levelled.only.edges a b ∙ e) ∙ ap (λ xs. map (λ x. x.item) xs) (levelled.only.channels a b);
    };
    sees = seen.sees;
  }

  module _ (paused : A → List (Deed (Item C)) → A → Type 0) where
    pub goes_pause : ((old new : A) (ds : List (Deed (Item C))) → paused old ds new → length ds ≤ 1) → LevelGrows own (acts session)
        → BetweenGrows own (acts session) paused → GrowsOn own (acts session) → RunsGoOn own session → ExtendsAtMark own session
        → (setup : Setup) (k : ℕ) (u l v : View A (Item C)) (answer : Bool) → IsSetup setup → k < length u.actors → Levelled u l
        → Between own (acts session) paused k l v answer → QuietAt own session setup u → Goes setup u → Goes setup v
    goes_pause few levels pauses joins goes_on go setup k u l v answer sound k_in levelled did quiet goes =
        let level_clock = levelled.clock in
        let level_size : length l.actors ≡ actors_in setup = ap (λ (xs : List A). length xs) levelled.only.actors ∙ goes.grew.size ∙ goes.size in
        let l_in : k < length l.actors = subst (λ (xs : List A). k < length xs) (sym levelled.only.actors) k_in in
        let level_order : InOrder l = order_level u l levelled goes.ordered in
        let level_ran : Ran own session setup l =
        goes_on setup goes.start l (goes.levels ++ level_clock ∷ []) (λ j. goes.notes j ++ []) goes.clock sound goes.size goes.order goes.level
        (joins goes.start u l goes.levels (level_clock ∷ []) goes.notes (λ j. []) goes.grew (levels u l levelled))
        (λ j. no_go_joined (goes.notes j) [] (goes.no_go j) tt) goes.ran in
        let x = some_of l.actors k l_in in
        starts setup v did.to (did.size ∙ level_size) (order_between own (acts session) paused k l v answer l_in did level_order) did.level
        (go setup k l v (did.from ∷ did.to ∷ []) did.deeds level_clock sound level_size level_order levelled.level
        (pauses l v k answer l_in did) (few _ _ did.deeds (did.paused x))
        (λ w seen reached. quiet w (seen_before setup u l w levelled seen) reached) level_ran)
