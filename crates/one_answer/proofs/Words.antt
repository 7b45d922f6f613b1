-- What a remote has said, is ordered to say, and says in steps that weren't issued are its opening and its words in the script's order.
use Rattle.std.proofs.Common.{◌≡◌, ◌≢◌, ℕ, ◌+◌, ◌<◌, ◌≤◌, Bool, true, false, List, [], ◌∷◌, ◌++◌, Option, Some, None, refl, sym, ap, ◌∙◌, subst, arith, ◌⊎◌}
use Rattle.std.proofs.Common.{inl, inr, append_assoc, append-nil}
use Rattle.std.specs.Prelude.{slice_get, option_map}
use Rattle.std.specs.List.{flat_map}
use Rattle.std.proofs.lemmas.Bool.{cases_eq}
use Rattle.std.proofs.lemmas.Bool.Decides.{nat_tests}
use Rattle.std.proofs.lemmas.Grind.{flat_map-append}
use Rattle.std.proofs.lemmas.Option.{same_Some}
use Rattle.tcp_seq.specs.declared.segment.Way.TheVariants.{Home, Remote}
use Rattle.session_value.specs.Fronts.{AreFirst}
use Rattle.session_value.proofs.Ties.{emits_same, takes_same}
use Rattle.graft_model.specs.Points.{at}
use Rattle.graft_model.specs.Setups.{Setup, PeeringSetup, SayStep, IsSetup, keepalive_interval_of, group_of, groups_in}
use Rattle.graft_model.specs.Parts.{FarPart, OperatorPart, Outward, World}
use Rattle.graft_model.specs.First.{first_world, first_far}
use Rattle.graft_model.specs.FarRows.{FarTaken, OutwardIn, SayIn, FarSent, Says}
use Rattle.graft_model.specs.OperatorRows.{OperatorTaken, OperatorSent, OrdersSay}
use Rattle.graft_model.specs.Quiet.{Quiet}
use Rattle.graft_model.specs.declared.event.RouterEvent.{RouterEvent}
use Rattle.graft_model.specs.declared.event.FarEvent.{FarEvent}
use Rattle.graft_model.specs.declared.event.FarEvent.TheVariants.{Say, Send, Take, Pass, Reach, Lose, Point, Beat}
use Rattle.graft_model.specs.declared.event.OperatorEvent.{OperatorEvent}
use Rattle.graft_model.specs.declared.event.OperatorEvent.TheVariants.{Order, Note, Go}
use Rattle.graft_model.specs.Steps.{Event, ByRouter, ByFar, ByOperator, Step, RouterStep, FarStep, OperatorStep, MayMake, far_row, operator_row}
use Rattle.graft_laws.specs.Keeps.{Reached}
use Rattle.graft_laws.specs.Moves.{says_taken, says_sent, FarMoves, OperatorMoves}
use Rattle.graft_laws.specs.Phases.{only_at}
use Rattle.graft_laws.specs.Said as counts
use Rattle.graft_laws.proofs.FarLines as lines
use Rattle.graft_laws.proofs.Moves.{router_moves, far_moves, operator_moves}
use Rattle.graft_laws.proofs.Runs.{carried}
use Rattle.graft_laws.proofs.Segments.{only_here}
use Rattle.graft_laws.proofs.Unissued.{said_by_itself}
use Rattle.one_answer.specs.Settled.{said_in_all, IsSettled}
use Rattle.one_answer.proofs.Unsaid.{unsaid, unsaid_first, unsaid_none, unsaid_other, unsaid_at, ends_grow, in_ended}

from_zero : (issued : ℕ → Bool) (n : ℕ) → issued n ≡ true → issued (0 + n) ≡ true
from_zero issued n e = subst (λ (k : ℕ). issued k ≡ true) (let z : n ≡ 0 + n = omega arith in z) e

module _ (setup : Setup) (p : ℕ) (peering : PeeringSetup) where
  -- the bytes of the step of a number
  abbrev bytes_at : ℕ → List ℕ
  bytes_at n = counts.said_by_step p (slice_get setup.steps n)

  -- what is said, what is ordered to be said, and what is still to be ordered
  abbrev whole : List ℕ → List ℕ → (ℕ → Bool) → List ℕ
  whole stream says issued = stream ++ (flat_map bytes_at says ++ unsaid p issued 0 setup.steps)

  -- They are the remote's words in the script's order; and in groups that have ended each of its steps was issued.
  record Words (w : World) : Type 0 where
    words : whole (w.far p).end.stream (w.says p) w.operator.issued ≡ said_in_all setup p peering
    earlier : (n : ℕ) (bytes : List ℕ) → slice_get setup.steps n ≡ Some (SayStep p bytes) → group_of setup n < w.operator.group → w.operator.issued n ≡ true

  whole_same : (s t q r : List ℕ) (f g : ℕ → Bool) → t ≡ s → r ≡ q → g ≡ f → whole t r g ≡ whole s q f
  whole_same s t q r f g a b c = ap (λ (x : List ℕ). whole x r g) a ∙ ap (λ (x : List ℕ). whole s x g) b ∙ ap (λ (x : ℕ → Bool). whole s q x) c

  same : (w v : World) → (v.far p).end.stream ≡ (w.far p).end.stream → v.says p ≡ w.says p → v.operator.issued ≡ w.operator.issued
      → v.operator.group ≡ w.operator.group → Words w → Words v
  same w v stream says issued group is = record {
    words = whole_same (w.far p).end.stream (v.far p).end.stream (w.says p) (v.says p) w.operator.issued v.operator.issued stream says issued ∙ is.words;
    earlier = λ n bytes there before. ap (λ (f : ℕ → Bool). f n) issued ∙ is.earlier n bytes there (omega (arith, before, group));
  }

  same_operator : (w v : World) → (v.far p).end.stream ≡ (w.far p).end.stream → v.says p ≡ w.says p → v.operator ≡ w.operator → Words w → Words v
  same_operator w v stream says operator is =
      same w v stream says (ap (λ (o : OperatorPart). o.issued) operator) (ap (λ (o : OperatorPart). o.group) operator) is

  by_router : (w v : World) (r : ℕ) (event : RouterEvent) → RouterStep setup r event w v → Words w → Words v
  by_router w v r event x is =
      let m = router_moves setup r event w v x in
      same_operator w v (ap (λ (f : ℕ → FarPart). (f p).end.stream) m.far) (ap (λ (f : ℕ → List ℕ). f p) m.says) m.operator is

  -- ---- the far side's own events

  module _ (w v : World) (taken : Option FarTaken) (sent : List FarSent) (part : FarPart) (m : FarMoves p taken sent part w v) (is : Words w) where
    here : v.far p ≡ part
    here = ap (λ (f : ℕ → FarPart). f p) m.far ∙ lines.at_here w.far p part

    -- nothing is said
    silent : part.end.stream ≡ (w.far p).end.stream → ((xs : List ℕ) → says_taken p taken p ++ xs ≡ xs) → Words v
    silent stream none = same_operator w v (ap (λ (f : FarPart). f.end.stream) here ∙ stream) (sym (none (v.says p)) ∙ m.says p) m.operator is

    takes_none : taken ≡ None → (xs : List ℕ) → says_taken p taken p ++ xs ≡ xs
    takes_none e xs = ap (λ (t : Option FarTaken). says_taken p t p ++ xs) e

    takes_item : (r : ℕ) (item : Outward) → taken ≡ Some (OutwardIn r item) → (xs : List ℕ) → says_taken p taken p ++ xs ≡ xs
    takes_item r item e xs = ap (λ (t : Option FarTaken). says_taken p t p ++ xs) e

    says_said : (step : ℕ) → Says setup p step (w.far p) taken sent part → Words v
    says_said step row =
        let one : only_at p step p ≡ step ∷ [] = only_here p step in
        let head : step ∷ v.says p ≡ w.says p = ap (λ (xs : List ℕ). xs ++ v.says p) (sym one)
        ∙ ap (λ (t : Option FarTaken). says_taken p t p ++ v.says p) (sym row.takes) ∙ m.says p in
        let bytes : bytes_at step ≡ row.bytes = ap (counts.said_by_step p) row.is ∙ said_by_itself p row.bytes in
        let stream : (v.far p).end.stream ≡ (w.far p).end.stream ++ row.bytes = ap (λ (f : FarPart). f.end.stream) (here ∙ row.effect) in
        let issued : v.operator.issued ≡ w.operator.issued = ap (λ (o : OperatorPart). o.issued) m.operator in
        let group : v.operator.group ≡ w.operator.group = ap (λ (o : OperatorPart). o.group) m.operator in
        let more : List ℕ = flat_map bytes_at (v.says p) in
        let rest : List ℕ = unsaid p w.operator.issued 0 setup.steps in
        record {
          words =
              whole_same ((w.far p).end.stream ++ row.bytes) (v.far p).end.stream (v.says p) (v.says p) w.operator.issued v.operator.issued
              stream refl issued
              ∙ append_assoc (w.far p).end.stream row.bytes (more ++ rest)
              ∙ ap (λ (xs : List ℕ). (w.far p).end.stream ++ xs) (sym (append_assoc row.bytes more rest))
              ∙ ap (λ (xs : List ℕ). (w.far p).end.stream ++ ((xs ++ more) ++ rest)) (sym bytes)
              ∙ whole_same (w.far p).end.stream (w.far p).end.stream (w.says p) (step ∷ v.says p) w.operator.issued w.operator.issued refl head refl
              ∙ is.words;
          earlier = λ n other there before. ap (λ (f : ℕ → Bool). f n) issued ∙ is.earlier n other there (omega (arith, before, group));
        }

    own_event : (event : FarEvent) → slice_get setup.peerings p ≡ Some peering → keepalive_interval_of peering ≡ 0
        → far_row setup p event (w.far p) taken sent part
        → Words v
    own_event (Say step) known still row = says_said step row
    own_event (Beat round) known still row =
        let keepalive_interval : keepalive_interval_of peering ≡ row.keepalive_interval =
        same_Some _ _ (sym (ap (option_map keepalive_interval_of) known) ∙ row.is) in
        absurd (omega (arith, row.some, keepalive_interval, still))
    own_event (Send from len) known still row =
        silent (ap (λ (f : FarPart). f.end.stream) row.effect ∙ (emits_same (w.far p).end row.segment row.end row.emits.emits).stream) (takes_none row.takes)
    own_event (Take router) known still row = silent (ap (λ (f : FarPart). f.end.stream) row.effect) (takes_item router _ row.takes)
    own_event (Pass index keep router) known still row = silent (ap (λ (f : FarPart). f.end.stream) row.effect) (takes_none row.takes)
    own_event (Reach index keep) known still row =
        silent (ap (λ (f : FarPart). f.end.stream) row.effect ∙ (takes_same (w.far p).end row.segment row.end row.arrives).stream) (takes_none row.takes)
    own_event (Lose Home index) known still row = silent (ap (λ (f : FarPart). f.end.stream) row.effect) (takes_none row.takes)
    own_event (Lose Remote index) known still row = silent (ap (λ (f : FarPart). f.end.stream) row.effect) (takes_none row.takes)
    own_event (Point router) known still row = silent (ap (λ (f : FarPart). f.end.stream) row.effect) (takes_item router _ row.takes)

  -- ---- another far side's events

  other_far : (w v : World) (q : ℕ) (taken : Option FarTaken) (sent : List FarSent) (part : FarPart) → q ≢ p → FarMoves q taken sent part w v → Words w
      → Words v
  other_far w v q taken sent part other m is =
      let there : v.far p ≡ w.far p = ap (λ (f : ℕ → FarPart). f p) m.far ∙ elsewhere w.far q p part other in
      same_operator w v (ap (λ (f : FarPart). f.end.stream) there) (by_taken taken (m.says p)) m.operator is
    where
      elsewhere : (f : ℕ → FarPart) (j n : ℕ) (x : FarPart) → j ≢ n → at f j x n ≡ f n
      elsewhere f j n x ne = grind (arith, nat_tests)

      none : (step : ℕ) → only_at q step p ≡ []
      none step = grind (arith, nat_tests)

      by_taken : (t : Option FarTaken) → says_taken q t p ++ v.says p ≡ w.says p → v.says p ≡ w.says p
      by_taken None e = e
      by_taken (Some (OutwardIn r item)) e = e
      by_taken (Some (SayIn step)) e = ap (λ (xs : List ℕ). xs ++ v.says p) (sym (none step)) ∙ e

  by_far : (w v : World) (q : ℕ) (event : FarEvent) → slice_get setup.peerings p ≡ Some peering → keepalive_interval_of peering ≡ 0
      → FarStep setup q event w v → Words w
      → Words v
  by_far w v q event known still x is = elim (cases_eq q p) [
    | inl here ↦ own w v q event here x is
    | inr other ↦ other_far w v q x.taken x.sent x.part other (far_moves setup q event w v x) is
  ]
    where
      own : (w v : World) (q : ℕ) (event : FarEvent) → q ≡ p → FarStep setup q event w v → Words w → Words v
      own w v q event here x is =
          let y : FarStep setup p event w v = subst (λ (n : ℕ). FarStep setup n event w v) here x in
          own_event w v y.taken y.sent y.part (far_moves setup p event w v y) is event known still y.row

  -- ---- the operator's events

  module _ (w v : World) (taken : Option OperatorTaken) (sent : List OperatorSent) (part : OperatorPart)
      (m : OperatorMoves taken sent part w v) (is : Words w) where
    stream : (v.far p).end.stream ≡ (w.far p).end.stream
    stream = ap (λ (f : ℕ → FarPart). (f p).end.stream) m.far

    -- what the remote is to say in this step is ordered, or another remote is to say it
    module _ (step number : ℕ) (row : OrdersSay setup step number w.operator taken sent part) where
      now : v.operator.issued ≡ at w.operator.issued step true
      now = ap (λ (o : OperatorPart). o.issued) (m.operator ∙ row.effect)

      group : v.operator.group ≡ w.operator.group
      group = ap (λ (o : OperatorPart). o.group) (m.operator ∙ row.effect)

      still_issued : (n : ℕ) → w.operator.issued n ≡ true → at w.operator.issued step true n ≡ true
      still_issued n e = by_test (cases_eq n step) where
        by_test : (n ≡ step) ⊎ (n ≢ step) → at w.operator.issued step true n ≡ true
        by_test (inl e) = grind (arith, nat_tests)
        by_test (inr ne) = let same : at w.operator.issued step true n ≡ w.operator.issued n = grind (arith, nat_tests) in same ∙ e

      says : v.says p ≡ w.says p ++ only_at row.peering step p
      says = m.says p ∙ ap (λ (xs : List OperatorSent). w.says p ++ says_sent xs p) row.sends
          ∙ ap (λ (xs : List ℕ). w.says p ++ xs) (append-nil (only_at row.peering step p))

      earlier_then : (n : ℕ) (bytes : List ℕ) → slice_get setup.steps n ≡ Some (SayStep p bytes) → group_of setup n < v.operator.group
          → v.operator.issued n ≡ true
      earlier_then n bytes there before = ap (λ (f : ℕ → Bool). f n) now ∙ still_issued n (is.earlier n bytes there (omega (arith, before, group)))

      other_says : row.peering ≢ p → Words v
      other_says other =
          let none : only_at row.peering step p ≡ [] = grind (arith, nat_tests) in
          record {
            words = whole_same (w.far p).end.stream (v.far p).end.stream (w.says p) (v.says p) (at w.operator.issued step true) v.operator.issued
                stream (says ∙ ap (λ (xs : List ℕ). w.says p ++ xs) none ∙ append-nil (w.says p)) now
                ∙ ap (λ (xs : List ℕ). (w.far p).end.stream ++ (flat_map bytes_at (w.says p) ++ xs))
                (unsaid_other p w.operator.issued 0 step step setup.steps row.peering row.bytes (omega arith) row.is other)
                ∙ is.words;
            earlier = earlier_then;
          }

      -- those before it were issued
      those_before : row.peering ≡ p → (j : ℕ) (bytes : List ℕ) → j < step → slice_get setup.steps j ≡ Some (SayStep p bytes)
          → w.operator.issued (0 + j) ≡ true
      those_before own j bytes l there =
          let grows = ends_grow setup.steps j step (omega (arith, l)) in
          from_zero w.operator.issued j (by_group there grows (cases_eq (group_of setup j) w.operator.group))
        where
          by_group : slice_get setup.steps j ≡ Some (SayStep p bytes) → group_of setup j ≤ group_of setup step
              → (group_of setup j ≡ w.operator.group) ⊎ (group_of setup j ≢ w.operator.group) → w.operator.issued j ≡ true
          by_group there grows (inl e) = row.earlier j bytes l e (there ∙ ap (λ (n : ℕ). Some (SayStep n bytes)) (sym own))
          by_group there grows (inr ne) = is.earlier j bytes there (omega (arith, ne, grows, row.group))

      own_says : row.peering ≡ p → Words v
      own_says own =
          let one : only_at row.peering step p ≡ step ∷ [] = ap (λ (n : ℕ). only_at n step p) own ∙ only_here p step in
          let there : slice_get setup.steps step ≡ Some (SayStep p row.bytes) = row.is ∙ ap (λ (n : ℕ). Some (SayStep n row.bytes)) own in
          let bytes : bytes_at step ≡ row.bytes = ap (counts.said_by_step p) there ∙ said_by_itself p row.bytes in
          let rest : List ℕ = unsaid p (at w.operator.issued step true) 0 setup.steps in
          let more : List ℕ = flat_map bytes_at (w.says p) in
          let split : flat_map bytes_at (w.says p ++ step ∷ []) ≡ more ++ row.bytes =
          flat_map-append bytes_at (w.says p) (step ∷ []) ∙ ap (λ (xs : List ℕ). more ++ xs) (append-nil (bytes_at step) ∙ bytes) in
          record {
            words = whole_same (w.far p).end.stream (v.far p).end.stream (w.says p ++ step ∷ []) (v.says p) (at w.operator.issued step true) v.operator.issued
                stream (says ∙ ap (λ (xs : List ℕ). w.says p ++ xs) one) now
                ∙ ap (λ (xs : List ℕ). (w.far p).end.stream ++ (xs ++ rest)) split
                ∙ ap (λ (xs : List ℕ). (w.far p).end.stream ++ xs) (append_assoc more row.bytes rest)
                ∙ ap (λ (xs : List ℕ). (w.far p).end.stream ++ (more ++ xs))
                (sym (unsaid_at p w.operator.issued 0 step step setup.steps row.bytes (omega arith) there row.unissued (those_before own)))
                ∙ is.words;
            earlier = earlier_then;
          }

      orders_say : Words v
      orders_say = elim (cases_eq row.peering p) [
        | inl own ↦ own_says own
        | inr other ↦ other_says other
      ]

    nothing_sent : says_sent sent p ≡ [] → v.says p ≡ w.says p
    nothing_sent none = m.says p ∙ ap (λ (xs : List ℕ). w.says p ++ xs) none ∙ append-nil (w.says p)

    issued_then : (f : ℕ → Bool) → part.issued ≡ f → v.operator.issued ≡ f
    issued_then f e = ap (λ (o : OperatorPart). o.issued) m.operator ∙ e

    group_then : (n : ℕ) → part.group ≡ n → v.operator.group ≡ n
    group_then n e = ap (λ (o : OperatorPart). o.group) m.operator ∙ e

    unchanged : (o : OperatorPart) → part ≡ o → o.issued ≡ w.operator.issued → o.group ≡ w.operator.group → says_sent sent p ≡ [] → Words v
    unchanged o is_part issued group none = same w v stream (nothing_sent none)
        (issued_then w.operator.issued (ap (λ (x : OperatorPart). x.issued) is_part ∙ issued))
        (group_then w.operator.group (ap (λ (x : OperatorPart). x.group) is_part ∙ group)) is

    -- a group begins in a quiet world, so that all of the one before is issued
    begins : part.issued ≡ w.operator.issued → part.group ≡ w.operator.group + 1 → says_sent sent p ≡ [] → Quiet setup w → Words v
    begins same_issued next none quiet = record {
      words = whole_same (w.far p).end.stream (v.far p).end.stream (w.says p) (v.says p) w.operator.issued v.operator.issued stream (nothing_sent none) issued
          ∙ is.words;
      earlier = λ n bytes there before. ap (λ (f : ℕ → Bool). f n) issued
          ∙ by_group n bytes there (omega (arith, before, group)) (cases_eq (group_of setup n) w.operator.group);
    }
      where
        issued : v.operator.issued ≡ w.operator.issued
        issued = issued_then w.operator.issued same_issued

        group : v.operator.group ≡ w.operator.group + 1
        group = group_then (w.operator.group + 1) next

        by_group : (n : ℕ) (bytes : List ℕ) → slice_get setup.steps n ≡ Some (SayStep p bytes) → group_of setup n < w.operator.group + 1
            → (group_of setup n ≡ w.operator.group) ⊎ (group_of setup n ≢ w.operator.group) → w.operator.issued n ≡ true
        by_group n bytes there before (inl e) = quiet.issued n p bytes there e
        by_group n bytes there before (inr ne) = is.earlier n bytes there (omega (arith, before, ne))

    by_row : (event : OperatorEvent) → MayMake setup event w → operator_row setup event w.operator taken sent part → Words v
    by_row (Order step number) may (inl row) = orders_say step number row
    by_row (Order step number) may (inr row) = unchanged _ row.effect refl refl (ap (λ (xs : List OperatorSent). says_sent xs p) row.sends)
    by_row (Note router) may row = unchanged _ row.effect refl refl (ap (λ (xs : List OperatorSent). says_sent xs p) row.sends)
    by_row Go may row =
        begins (ap (λ (o : OperatorPart). o.issued) row.effect) (ap (λ (o : OperatorPart). o.group) row.effect)
        (ap (λ (xs : List OperatorSent). says_sent xs p) row.sends) may

  by_operator : (w v : World) (event : OperatorEvent) → OperatorStep setup event w v → Words w → Words v
  by_operator w v event x is = by_row w v x.taken x.sent x.part (operator_moves setup event w v x) is event x.may x.row

  -- ---- runs

  keeps_words : slice_get setup.peerings p ≡ Some peering → keepalive_interval_of peering ≡ 0 → (event : Event) (w v : World) → Reached setup w
      → Step setup event w v
      → Words w → Words v
  keeps_words known still (ByRouter r event) w v reached x is = by_router w v r event x is
  keeps_words known still (ByFar q event) w v reached x is = by_far w v q event known still x is
  keeps_words known still (ByOperator event) w v reached x is = by_operator w v event x is

  first_words : slice_get setup.peerings p ≡ Some peering → Words (first_world setup)
  first_words known = record {
    words = ap (λ (o : Option PeeringSetup). (first_far o).end.stream ++ unsaid p (λ n. false) 0 setup.steps) known
        ∙ ap (λ (xs : List ℕ). peering.opening ++ xs) (unsaid_first p 0 setup.steps);
    earlier = λ n bytes there before. absurd (omega (arith, before));
  }

  always_words : slice_get setup.peerings p ≡ Some peering → keepalive_interval_of peering ≡ 0 → (w : World) → Reached setup w → Words w
  always_words known still w reached = carried setup Words (first_words known) (keeps_words known still) w reached

  -- What the remote has said are the first of its words.
  pub begins_said : slice_get setup.peerings p ≡ Some peering → keepalive_interval_of peering ≡ 0 → (w : World) → Reached setup w
      → AreFirst (w.far p).end.stream (said_in_all setup p peering)
  begins_said known still w reached = record {
    rest = flat_map bytes_at (w.says p) ++ unsaid p w.operator.issued 0 setup.steps;
    is = sym (always_words known still w reached).words;
  }

  -- In a settled world the remote has said all.
  pub all_said : IsSetup setup → slice_get setup.peerings p ≡ Some peering → keepalive_interval_of peering ≡ 0 → (w : World) → Reached setup w
      → IsSettled setup w
      → (w.far p).end.stream ≡ said_in_all setup p peering
  all_said ok known still w reached settled =
      let is = always_words known still w reached in
      let none : unsaid p w.operator.issued 0 setup.steps ≡ [] =
      unsaid_none p w.operator.issued 0 setup.steps (λ n bytes there. from_zero w.operator.issued n
      (each is n bytes there (cases_eq (group_of setup n) w.operator.group))) in
      sym (append-nil (w.far p).end.stream)
      ∙ ap (λ (xs : List ℕ). (w.far p).end.stream ++ xs) (sym none)
      ∙ ap (λ (xs : List ℕ). (w.far p).end.stream ++ (flat_map bytes_at xs ++ unsaid p w.operator.issued 0 setup.steps)) (sym (settled.quiet.says p))
      ∙ is.words
    where
      each : Words w → (n : ℕ) (bytes : List ℕ) → slice_get setup.steps n ≡ Some (SayStep p bytes)
          → (group_of setup n ≡ w.operator.group) ⊎ (group_of setup n ≢ w.operator.group) → w.operator.issued n ≡ true
      each is n bytes there (inl e) = settled.quiet.issued n p bytes there e
      each is n bytes there (inr ne) =
          let below : group_of setup n < groups_in setup = in_ended None setup.steps n (SayStep p bytes) there refl ok.ended in
          is.earlier n bytes there (omega (arith, ne, below, settled.last))
