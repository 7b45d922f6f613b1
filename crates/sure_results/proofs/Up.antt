-- A session that the script moves is established from the second group on, wherever it is.
use Rattle.std.proofs.Common.{◌≡◌, ◌≢◌, ℕ, ◌+◌, ◌*◌, ◌<◌, ◌≤◌, Bool, true, false, cond, List, [], ◌∷◌, ◌++◌, length, drop, Some, None, refl, sym, ap, ◌∙◌}
use Rattle.std.proofs.Common.{subst, arith, append_assoc, length-append, ◌⊎◌, inl, inr}
use Rattle.std.specs.Prelude.{slice_get, option_map, fold, if◌then◌else◌, sum_by}
use Rattle.std.specs.List.{AllByRecursion, flat_map}
use Rattle.std.proofs.lemmas.Bool.{cases_eq}
use Rattle.std.proofs.lemmas.List.Sums.{fold-append}
use Rattle.std.proofs.lemmas.Option.{same_Some}
use Rattle.bgp_types.specs.declared.message.Message.TheVariants.{OpenMsg, UpdateMsg, NoticeMsg, KeepaliveMsg}
use Rattle.bgp_types.specs.declared.message.SessionState.{SessionState}
use Rattle.bgp_types.specs.declared.message.SessionState.TheVariants.{OpenSent, Established, Closed}
use Rattle.bgp_types.specs.FirstFault.{message_of}
use Rattle.bgp_story.specs.declared.line.Line.{Line}
use Rattle.bgp_story.specs.declared.line.Line.TheVariants.{Put, Got, Tick}
use Rattle.bgp_story.specs.Legal.{Peering, Allowed, open_in, hold}
use Rattle.bgp_story.specs.Readings.{IsLegal, got_bytes}
use Rattle.bgp_story.specs.States.{is_type, after, state_of}
use Rattle.bgp_story.proofs.Ranges.{offers_home}
use Rattle.bgp_story.proofs.Shapes.{allowed_of, got_in_frames_is}
use Rattle.session_value.specs.declared.config.SessionConfig.{SessionConfig}
use Rattle.session_value.specs.Fronts.{AreFirst}
use Rattle.session_value.specs.Sessions.{SessionValue, peering_of, state, hold_time}
use Rattle.graft_model.specs.Claims.{SolvesOn, Transparent}
use Rattle.graft_model.specs.OperatorRows.{placement}
use Rattle.graft_model.specs.Parts.{RouterPart, OperatorPart, World}
use Rattle.graft_model.specs.Quiet.{Quiet}
use Rattle.graft_model.specs.Setups.{Setup, PeeringSetup, ScriptStep, ScriptGraft, IsSetup, peerings_in, said_by, said_length}
use Rattle.graft_model.specs.declared.event.OperatorEvent.TheVariants.{Order, Note, Go}
use Rattle.graft_model.specs.Steps.{Event, ByRouter, ByFar, ByOperator, Step}
use Rattle.graft_laws.specs.Keeps.{Reached, Has}
use Rattle.graft_laws.specs.Life.{Change, Acts, SessionAct, Puts, Emits, Arrives, Gets, Ticks}
use Rattle.graft_laws.specs.Owned.{Stands}
use Rattle.graft_laws.specs.Phases.{Phase, Busy}
use Rattle.graft_laws.specs.Said.{size_at, unissued_octets}
use Rattle.graft_laws.specs.Streams.{IsUnbroken}
use Rattle.graft_laws.proofs.First.{some_peering}
use Rattle.graft_laws.proofs.Holders.{one_session}
use Rattle.graft_laws.proofs.Moves.{router_moves, far_moves, operator_moves}
use Rattle.graft_laws.proofs.Phases.{live_session}
use Rattle.graft_laws.proofs.QuietSolves.{quiet_solves_is}
use Rattle.graft_laws.proofs.Runs.{reached_more, always_has_along}
use Rattle.graft_laws.proofs.Solves.{has_at}
use Rattle.graft_laws.proofs.StreamLaws.{said_is, always_unbroken, always_transparent_is}
use Rattle.one_answer.specs.Settled.{said_in_all, HasNoTimer}
use Rattle.one_answer.proofs.Timeless.{FirstGot, first_got, HasNoHold, no_hold, timeless}
use Rattle.one_answer.proofs.Words.{begins_said}
use Rattle.story_readings.specs.Reads.{StoryReads, IsNoTick}
use Rattle.even_inputs.specs.Readings.{Reading, reading_of}
use Rattle.even_inputs.proofs.AllRead.{reads_all}
use Rattle.even_inputs.proofs.Timers.{no_timer}
use Rattle.sure_results.specs.Results.{StaysUp, IsSure}
use Rattle.sure_results.proofs.Opening.{UpOrEnded, still_up}
use Rattle.sure_results.proofs.Stages.{StaysUpBusy}

-- ---- states of stories

not_closed_up : (state : SessionState) → UpOrEnded state → state ≢ Closed → state ≡ Established
not_closed_up state (inl up) live = up
not_closed_up state (inr closed) live = absurd (live closed)

by_type : (b c : Bool) (s : SessionState) → UpOrEnded s → UpOrEnded (cond b Closed (cond c s s))
by_type true c s is = inr refl
by_type false true s is = is
by_type false false s is = is

line_up : (line : Line) → UpOrEnded (after Established line)
line_up (Put (OpenMsg o)) = inl refl
line_up (Put (UpdateMsg u)) = inl refl
line_up (Put (NoticeMsg n)) = inr refl
line_up (Put KeepaliveMsg) = inl refl
line_up (Got bytes) = by_type (is_type 3 bytes) (is_type 4 bytes) Established (inl refl)
line_up (Tick round) = inl refl

line_ended : (line : Line) → UpOrEnded (after Closed line)
line_ended (Put (OpenMsg o)) = inr refl
line_ended (Put (UpdateMsg u)) = inr refl
line_ended (Put (NoticeMsg n)) = inr refl
line_ended (Put KeepaliveMsg) = inr refl
line_ended (Got bytes) = by_type (is_type 3 bytes) (is_type 4 bytes) Closed (inr refl)
line_ended (Tick round) = inr refl

lines_up : (lines : List Line) (s : SessionState) → UpOrEnded s → UpOrEnded (fold after s lines)
lines_up [] s is = is
lines_up (line ∷ lines) s (inl up) = lines_up lines (after s line) (subst (λ (x : SessionState). UpOrEnded (after x line)) (sym up) (line_up line))
lines_up (line ∷ lines) s (inr closed) = lines_up lines (after s line) (subst (λ (x : SessionState). UpOrEnded (after x line)) (sym closed) (line_ended line))

-- a story that goes on from Established
story_up : (s t : SessionValue) (more : List Line) → t.story ≡ s.story ++ more → state s ≡ Established → UpOrEnded (state t)
story_up s t more is up =
    subst (λ (x : SessionState). UpOrEnded x) (sym (ap state_of is ∙ fold-append after OpenSent s.story more)) (lines_up more (state s) (inl up))

act_up : (setup : Setup) (w v : World) (p r : ℕ) (s t : SessionValue) → SessionAct setup w v p r s t → state s ≡ Established → UpOrEnded (state t)
act_up setup w v p r s t (Puts update puts told line entries) up = story_up s t _ (ap (λ (x : SessionValue). x.story) puts.effect) up
act_up setup w v p r s _ (Emits from len segment end emits line entries) up = inl up
act_up setup w v p r s _ (Arrives segment end arrives line entries) up = inl up
act_up setup w v p r s t (Gets bytes gets line entries) up = story_up s t _ (ap (λ (x : SessionValue). x.story) gets.effect) up
act_up setup w v p r s t (Ticks round passes line entries) up = story_up s t _ (ap (λ (x : SessionValue). x.story) passes.effect) up

change_up : (setup : Setup) (w v : World) (p : ℕ) (phase next : Phase) (s t : SessionValue) → Change setup w v p phase s next t → state s ≡ Established
    → UpOrEnded (state t)
change_up setup w v p phase _ s t (Acts r errand live act) up = act_up setup w v p r s t act up
change_up setup w v p phase next s _ _ up = inl up

-- ---- what a remote has said

-- the shorter of two fronts of one list is a front of the longer
shorter_front : (xs ys m k : List ℕ) → length ys ≤ length xs → xs ++ m ≡ ys ++ k → xs ≡ ys ++ drop (length ys) xs
shorter_front xs [] m k l e = refl
shorter_front [] (y ∷ ys) m k l e = absurd (omega (arith, l))
shorter_front (x ∷ xs) (y ∷ ys) m k l e =
    let same : x ≡ y = cc in
    let rest : xs ++ m ≡ ys ++ k = cc in
    let behind : xs ≡ ys ++ drop (length ys) xs = shorter_front xs ys m k (omega (arith, l)) rest in
    ap (λ (z : ℕ). z ∷ xs) same ∙ ap (λ (zs : List ℕ). y ∷ zs) behind

-- what wasn't issued is no more than all that steps have the remote say
unissued_most : (issued : ℕ → Bool) (p n : ℕ) (steps : List ScriptStep) → unissued_octets issued p n steps ≤ length (flat_map (said_by p) steps)
unissued_most issued p n [] = omega arith
unissued_most issued p n (step ∷ steps) =
    let here : (if issued n then 0 else length (said_by p step)) ≤ length (said_by p step) = by_test (issued n) in
    let rest = unissued_most issued p (n + 1) steps in
    let all = length-append (said_by p step) (flat_map (said_by p) steps) in
    omega (arith, here, rest, all)
  where
    by_test : (b : Bool) → (if b then 0 else length (said_by p step)) ≤ length (said_by p step)
    by_test true = omega arith
    by_test false = omega arith

module _ (setup : Setup) (ok : IsSetup setup) (timer : HasNoTimer setup) (p : ℕ) (peering : PeeringSetup) (below : p < peerings_in setup)
    (is : slice_get setup.peerings p ≡ Some peering) where
  abbrev own : Peering
  own = peering_of peering.config

  said_first : (w : World) → Reached setup w → AreFirst (w.far p).end.stream (said_in_all setup p peering)
  said_first w reached = begins_said setup p peering is (timer.beats p peering is) w reached

  -- its opening, with which it begins
  opening_first : (w : World) → Reached setup w → w.says p ≡ [] → AreFirst peering.opening (w.far p).end.stream
  opening_first w reached none =
      let stream : List ℕ = (w.far p).end.stream in
      let later : ℕ = unissued_octets w.operator.issued p 0 setup.steps in
      let sum : length stream + sum_by (size_at setup p) [] + later ≡ said_length setup p peering + 19 * (w.far p).keepalives =
      ap (λ (xs : List ℕ). length stream + sum_by (size_at setup p) xs + later) (sym none) ∙ (said_is setup p peering w is reached).sum in
      let most = unissued_most w.operator.issued p 0 setup.steps in
      let front = said_first w reached in
      record {
        rest = drop (length peering.opening) stream;
        is = shorter_front stream peering.opening front.rest (flat_map (said_by p) setup.steps) (omega (arith, sum, most)) (sym front.is);
      }

  -- ---- what the session is

  module _ (w : World) (phase : Phase) (s : SessionValue) (reached : Reached setup w) (stands : Stands setup w p phase s) where
    unbroken : IsUnbroken setup w p phase s
    unbroken = has_at setup (IsUnbroken setup) w p phase s (always_unbroken setup w p ok reached below) stands

    config : s.config ≡ peering.config
    config = same_Some _ _ (sym unbroken.own.config ∙ ap (option_map (λ (x : PeeringSetup). x.config)) is)

    legal : IsLegal own s.story (state s)
    legal = subst (λ (c : SessionConfig). IsLegal (peering_of c) s.story (state s)) config unbroken.story.legal

    allowed : Allowed own s.story (state s)
    allowed = allowed_of own s.story (state s) legal

    got_first : AreFirst (got_bytes s.story) (w.far p).end.stream
    got_first =
        let t : Transparent setup w p = always_transparent_is setup w p ok reached below in
        subst (λ (x : SessionValue). AreFirst (got_bytes x.story) (w.far p).end.stream)
        (only t.session s (sym t.one ∙ one_session setup w p phase s stands)) t.got
      where
        only : (x y : SessionValue) → x ∷ [] ≡ y ∷ [] → x ≡ y
        only x y e = cc

    no_hold_time : HasNoHold own s.story
    no_hold_time o e =
        let first : FirstGot own s.story o = first_got own s.story o (got_in_frames_is own s.story (state s) allowed) e in
        let c : SessionConfig = peering.config in
        let said = said_first w reached in
        let rest : List ℕ = first.rest ++ (got_first.rest ++ said.rest) in
        timer.holds p peering first.front rest o is
        (said.is ∙ ap (λ (xs : List ℕ). xs ++ said.rest) (got_first.is ∙ ap (λ (xs : List ℕ). xs ++ got_first.rest) first.is)
        ∙ append_assoc (first.front ++ first.rest) got_first.rest said.rest
        ∙ append_assoc first.front first.rest (got_first.rest ++ said.rest))
        first.got
        (ap (λ (b : Bool). open_in (message_of (record { state = OpenSent; remote_as = c.remote_as; offered = b; wide = false }) first.front))
        (sym (offers_home c.home_as c.home_hold c.identifier c.offered c.unicast)) ∙ first.opens)

    none_passed : AllByRecursion IsNoTick s.story
    none_passed = timeless own s.story (state s) allowed no_hold_time

    pub no_hold_runs : hold_time s ≡ 0
    no_hold_runs = ap (λ (c : SessionConfig). hold (peering_of c) s.story) config ∙ no_hold own s.story no_hold_time

    -- no message that it got has ended it, since it would be at its end by all that its remote says
    pub never_ends : StaysUp setup p peering → state s ≢ Closed
    never_ends up closed =
        let said = said_first w reached in
        let reads : StoryReads own (said_in_all setup p peering) s.story (state s) = record {
          legal = legal;
          timeless = none_passed;
          all = record {
            rest = got_first.rest ++ said.rest;
            is = said.is ∙ ap (λ (xs : List ℕ). xs ++ said.rest) got_first.is ∙ append_assoc (got_bytes s.story) got_first.rest said.rest;
            end = inl closed;
          };
        } in
        let not : Established ≡ Closed = sym up.kept ∙ ap (λ (x : Reading). x.state) (reads_all peering (said_in_all setup p peering) s.story (state s) reads)
        ∙ closed in
        absurd cc

  -- In a quiet world it has read all that its remote has said, which begins with the opening.
  module _ (up : StaysUp setup p peering) (w : World) (reached : Reached setup w) (quiet : Quiet setup w) where
    solves : SolvesOn setup w p
    solves = (quiet_solves_is setup w ok reached quiet).peerings p below

    has : Has setup (IsUnbroken setup) w p
    has = always_unbroken setup w p ok reached below

    same : solves.session ≡ has.session
    same = live_session has.phase has.session solves.session None (placement setup w.operator p)
        (sym solves.placed ∙ has.stands.places (placement setup w.operator p))

    stands : Stands setup w p has.phase solves.session
    stands = subst (λ (x : SessionValue). Stands setup w p has.phase x) (sym same) has.stands

    reads : StoryReads own (w.far p).end.stream solves.session.story (state solves.session)
    reads = record {
      legal = legal w has.phase solves.session reached stands;
      timeless = none_passed w has.phase solves.session reached stands;
      all = record { rest = solves.got.rest; is = solves.got.is; end = solves.got.end };
    }

    up_by_now : UpOrEnded (state solves.session)
    up_by_now =
        let first = opening_first w reached (quiet.says p) in
        subst (λ (s : SessionState). UpOrEnded s)
        (ap (λ (xs : List ℕ). (reading_of peering xs).state) (sym first.is)
        ∙ ap (λ (x : Reading). x.state) (reads_all peering (w.far p).end.stream solves.session.story (state solves.session) reads))
        (still_up peering peering.opening first.rest up.opened)

    pub up_when_quiet : (s : SessionValue) (phase : Phase) (v : World) → v.router ≡ w.router → Stands setup v p phase s → state s ≡ Established
    up_when_quiet s phase v routers there =
        let q : ℕ = placement setup w.operator p in
        let kept : solves.session ≡ s = live_session phase s solves.session None q
        (sym solves.placed ∙ ap (λ (f : ℕ → RouterPart). (f q).places p) (sym routers) ∙ there.places q) in
        ap state (sym kept) ∙ not_closed_up (state solves.session) up_by_now (never_ends w has.phase solves.session reached stands up)

-- ---- along runs

abbrev IsUp : Setup → World → ℕ → Phase → SessionValue → Type 0
IsUp setup w p phase s = (peering : PeeringSetup) → slice_get setup.peerings p ≡ Some peering → StaysUp setup p peering → 0 < w.operator.group
    → state s ≡ Established

module _ (setup : Setup) (ok : IsSetup setup) (timer : HasNoTimer setup) where
  -- where an event ends the first group, that one began the second, in a quiet world
  first_ends : (event : Event) (before now : World) (p : ℕ) (phase : Phase) (t : SessionValue) (peering : PeeringSetup) → Reached setup before
      → Step setup event before now
      → p < peerings_in setup → slice_get setup.peerings p ≡ Some peering → StaysUp setup p peering → Stands setup now p phase t → before.operator.group ≡ 0
      → 0 < now.operator.group
      → state t ≡ Established
  first_ends (ByRouter r event) before now p phase t peering reached x below is up there none later =
      let same = ap (λ (o : OperatorPart). o.group) (router_moves setup r event before now x).operator in absurd (omega (arith, same, none, later))
  first_ends (ByFar q event) before now p phase t peering reached x below is up there none later =
      let same = ap (λ (o : OperatorPart). o.group) (far_moves setup q event before now x).operator in absurd (omega (arith, same, none, later))
  first_ends (ByOperator (Order n number)) before now p phase t peering reached x below is up there none later =
      let part : now.operator ≡ x.part = (operator_moves setup (Order n number) before now x).operator in
      let same : x.part.group ≡ before.operator.group = elim x.row [
        | inl row ↦ ap (λ (o : OperatorPart). o.group) row.effect
        | inr row ↦ ap (λ (o : OperatorPart). o.group) row.effect
      ] in
      let kept = ap (λ (o : OperatorPart). o.group) part ∙ same in
      absurd (omega (arith, kept, none, later))
  first_ends (ByOperator (Note r)) before now p phase t peering reached x below is up there none later =
      let same = ap (λ (o : OperatorPart). o.group) ((operator_moves setup (Note r) before now x).operator ∙ x.row.effect) in absurd
      (omega (arith, same, none, later))
  first_ends (ByOperator Go) before now p phase t peering reached x below is up there none later =
      up_when_quiet setup ok timer p peering below is up before reached x.may t phase now (operator_moves setup Go before now x).router there

  kept_up : (event : Event) (before now : World) (p : ℕ) (phase next : Phase) (s t : SessionValue) → Reached setup before → Step setup event before now
      → p < peerings_in setup
      → Stands setup before p phase s → Stands setup now p next t → Change setup before now p phase s next t → IsUp setup before p phase s
      → IsUp setup now p next t
  kept_up event before now p phase next s t reached step below stands stands_now change was peering is up later =
      by_group (cases_eq before.operator.group 0) where
        by_group : (before.operator.group ≡ 0) ⊎ (before.operator.group ≢ 0) → state t ≡ Established
        by_group (inl none) = first_ends event before now p next t peering reached step below is up stands_now none later
        by_group (inr some) =
            not_closed_up (state t) (change_up setup before now p phase next s t change (was peering is up (omega (arith, some))))
            (never_ends setup ok timer p peering below is now next t (reached_more setup event before now reached step) stands_now up)

  always_up : (w : World) → Reached setup w → (p : ℕ) → p < peerings_in setup → Has setup (IsUp setup) w p
  always_up = always_has_along setup (IsUp setup) ok (λ p config known peering is up later. absurd (omega (arith, later))) kept_up

-- A session for which a graft is under way is established, and no hold time runs on it.
pub up_while_busy : (setup : Setup) → IsSetup setup → IsSure setup → StaysUpBusy setup
up_while_busy setup ok sure w p q k t stage s reached below stands =
    let timer : HasNoTimer setup = no_timer setup sure.timer in
    let some = some_peering setup p below in
    let g : ScriptGraft = record { graft = k; peering = p; step = stands.log.goes_on.step } in
    let up : StaysUp setup p some.0 = sure.up g some.0 stands.log.goes_on.known some.1 in
    let at_work = stands.log.goes_on.begun in
    let group = sure.later g stands.log.goes_on.known in (
      has_at setup (IsUp setup) w p (Busy q k t stage) s (always_up setup ok timer w reached p below) stands some.0 some.1 up (omega (arith, at_work, group)),
      no_hold_runs setup ok timer p some.0 below some.1 w (Busy q k t stage) s reached stands,
    )
