-- Every event keeps the sum of what a remote says.
use Rattle.std.proofs.Common.{◌≡◌, ◌≢◌, ℕ, ◌+◌, ◌<◌, ◌≤◌, ◌^◌, Bool, true, false, List, [], ◌∷◌, ◌++◌, length, sum_by}
use Rattle.std.proofs.Common.{Option, Some, None, sym, ap, ◌∙◌, subst, arith, ◌⊎◌, inl, inr, length-append}
use Rattle.std.specs.Prelude.{slice_get}
use Rattle.std.specs.List.{AllByRecursion}
use Rattle.std.proofs.lemmas.Bool.{cases_eq}
use Rattle.std.proofs.lemmas.Bool.Decides.{nat_tests}
use Rattle.std.proofs.lemmas.List.{append-nil}
use Rattle.std.proofs.lemmas.List.Sums.{sum_by-append, sum_by-cons}
use Rattle.bgp_types.specs.declared.message.Message.TheVariants.{KeepaliveMsg}
use Rattle.bgp_types.specs.Spelling.{spell}
use Rattle.tcp_seq.specs.Endpoint.{Endpoint}
use Rattle.session_value.proofs.Rooms.{keepalive_size}
use Rattle.session_value.proofs.Ties.{emits_same, takes_same}
use Rattle.graft_model.specs.Points.{at}
use Rattle.graft_model.specs.Setups.{Setup, PeeringSetup, ScriptStep, SayStep, IsPeeringSetup, keepalive_interval_of, said_by}
use Rattle.graft_model.specs.Parts.{FarPart, OperatorPart, World}
use Rattle.tcp_seq.specs.declared.segment.Way.TheVariants.{Home, Remote}
use Rattle.graft_model.specs.FarRows.{FarTaken, OutwardIn, SayIn, FarSent, Says, Beats}
use Rattle.graft_model.specs.OperatorRows.{OperatorSent, SayTo}
use Rattle.graft_model.specs.declared.event.RouterEvent.{RouterEvent}
use Rattle.graft_model.specs.declared.event.FarEvent.{FarEvent}
use Rattle.graft_model.specs.declared.event.OperatorEvent.{OperatorEvent}
use Rattle.graft_model.specs.declared.event.FarEvent.TheVariants.{Say, Send, Take, Pass, Reach, Lose, Point, Beat}
use Rattle.graft_model.specs.declared.event.OperatorEvent.TheVariants.{Order, Note, Go}
use Rattle.graft_model.specs.Steps.{Event, ByRouter, ByFar, ByOperator, Step, RouterStep, FarStep, OperatorStep, far_row, operator_row}
use Rattle.graft_laws.specs.Moves.{says_taken, says_sent, FarMoves, OperatorMoves}
use Rattle.graft_laws.specs.Phases.{only_at}
use Rattle.graft_laws.specs.Said.{said_by_step, size_at, unissued_octets, IsSayOf, Said}
use Rattle.graft_laws.proofs.Lists.{all_join}
use Rattle.graft_laws.proofs.Moves.{router_moves, far_moves, operator_moves}
use Rattle.graft_laws.proofs.Segments.{all_is, all_only}
use Rattle.graft_laws.proofs.Unissued.{unissued_at, none_issued, said_by_other, said_by_itself}

module _ (setup : Setup) (p : ℕ) (peering : PeeringSetup) where
  -- the same numbers of the far side, the operator and its channel
  same : (w v : World) → (v.far p).end.stream ≡ (w.far p).end.stream → (v.far p).keepalives ≡ (w.far p).keepalives → v.operator.issued ≡ w.operator.issued
      → v.says p ≡ w.says p → Said setup p peering w → Said setup p peering v
  same w v stream keepalives issued says is = record {
    sum =
        let a : length (v.far p).end.stream ≡ length (w.far p).end.stream = ap (λ (xs : List ℕ). length xs) stream in
        let b : sum_by (size_at setup p) (v.says p) ≡ sum_by (size_at setup p) (w.says p) = ap (λ (xs : List ℕ). sum_by (size_at setup p) xs) says in
        let c : unissued_octets v.operator.issued p 0 setup.steps ≡ unissued_octets w.operator.issued p 0 setup.steps =
        ap (λ (f : ℕ → Bool). unissued_octets f p 0 setup.steps) issued in
        omega (arith, is.sum, a, b, c, keepalives);
    orders = all_is (IsSayOf setup p) (w.says p) (v.says p) says is.orders;
    few = omega (arith, is.few, keepalives);
    keepalives = λ some. is.keepalives (omega (arith, some, keepalives));
  }

  by_router : (w v : World) (r : ℕ) (event : RouterEvent) → RouterStep setup r event w v → Said setup p peering w → Said setup p peering v
  by_router w v r event x is =
      let m = router_moves setup r event w v x in
      same w v (ap (λ (f : ℕ → FarPart). (f p).end.stream) m.far) (ap (λ (f : ℕ → FarPart). (f p).keepalives) m.far)
      (ap (λ (o : OperatorPart). o.issued) m.operator) (ap (λ (f : ℕ → List ℕ). f p) m.says) is

  -- ---- the far side's own events

  module _ (w v : World) (taken : Option FarTaken) (sent : List FarSent) (part : FarPart)
      (m : FarMoves p taken sent part w v) (is : Said setup p peering w) where
    here : v.far p ≡ part
    here = ap (λ (f : ℕ → FarPart). f p) m.far ∙ Rattle.graft_laws.proofs.FarLines.at_here w.far p part

    -- nothing is said
    silent : part.end.stream ≡ (w.far p).end.stream → part.keepalives ≡ (w.far p).keepalives → ((xs : List ℕ) → says_taken p taken p ++ xs ≡ xs)
        → Said setup p peering v
    silent stream keepalives none = same w v (ap (λ (f : FarPart). f.end.stream) here ∙ stream)
        (ap (λ (f : FarPart). f.keepalives) here ∙ keepalives) (ap (λ (o : OperatorPart). o.issued) m.operator) (sym (none (v.says p)) ∙ m.says p) is

    takes_none : taken ≡ None → (xs : List ℕ) → says_taken p taken p ++ xs ≡ xs
    takes_none e xs = ap (λ (t : Option FarTaken). says_taken p t p ++ xs) e

    takes_item : (r : ℕ) (item : Rattle.graft_model.specs.Parts.Outward) → taken ≡ Some (OutwardIn r item) → (xs : List ℕ) → says_taken p taken p ++ xs ≡ xs
    takes_item r item e xs = ap (λ (t : Option FarTaken). says_taken p t p ++ xs) e

    says_said : (step : ℕ) → Says setup p step (w.far p) taken sent part → Said setup p peering v
    says_said step row =
        let one : only_at p step p ≡ step ∷ [] = Rattle.graft_laws.proofs.Segments.only_here p step in
        let head : step ∷ v.says p ≡ w.says p =
        ap (λ (xs : List ℕ). xs ++ v.says p) (sym one) ∙ ap (λ (t : Option FarTaken). says_taken p t p ++ v.says p) (sym row.takes) ∙ m.says p in
        let all = all_is (IsSayOf setup p) (w.says p) (step ∷ v.says p) head is.orders in
        let size : size_at setup p step ≡ length row.bytes =
        ap (λ (o : Option ScriptStep). length (said_by_step p o)) row.is ∙ ap (λ (xs : List ℕ). length xs) (said_by_itself p row.bytes) in
        let waits : sum_by (size_at setup p) (w.says p) ≡ size_at setup p step + sum_by (size_at setup p) (v.says p) =
        ap (λ (xs : List ℕ). sum_by (size_at setup p) xs) (sym head) ∙ sum_by-cons (size_at setup p) step (v.says p) in
        let part_is : part ≡ record (w.far p) { end = Rattle.session_value.specs.Cases.sending row.bytes (w.far p).end } = row.effect in
        let stream : length (v.far p).end.stream ≡ length (w.far p).end.stream + length row.bytes =
        ap (λ (f : FarPart). length f.end.stream) (here ∙ part_is) ∙ length-append (w.far p).end.stream row.bytes in
        let keepalives : (v.far p).keepalives ≡ (w.far p).keepalives = ap (λ (f : FarPart). f.keepalives) (here ∙ part_is) in
        let issued : unissued_octets v.operator.issued p 0 setup.steps ≡ unissued_octets w.operator.issued p 0 setup.steps =
        ap (λ (o : OperatorPart). unissued_octets o.issued p 0 setup.steps) m.operator in
        record {
          sum = omega (arith, is.sum, size, waits, stream, keepalives, issued);
          orders = all.1;
          few = omega (arith, is.few, keepalives);
          keepalives = λ some. is.keepalives (omega (arith, some, keepalives));
        }

    beats_said : (round : ℕ) → slice_get setup.peerings p ≡ Some peering → Beats setup p round (w.far p) taken sent part → Said setup p peering v
    beats_said round known row =
        let none : v.says p ≡ w.says p = sym (takes_none row.takes (v.says p)) ∙ m.says p in
        let size = keepalive_size false in
        let stream : length (v.far p).end.stream ≡ length (w.far p).end.stream + length (spell KeepaliveMsg false) =
        ap (λ (f : FarPart). length f.end.stream) (here ∙ row.effect) ∙ length-append (w.far p).end.stream (spell KeepaliveMsg false) in
        let keepalives : (v.far p).keepalives ≡ (w.far p).keepalives + 1 = ap (λ (f : FarPart). f.keepalives) (here ∙ row.effect) in
        let waits : sum_by (size_at setup p) (v.says p) ≡ sum_by (size_at setup p) (w.says p) = ap (λ (xs : List ℕ). sum_by (size_at setup p) xs) none in
        let issued : unissued_octets v.operator.issued p 0 setup.steps ≡ unissued_octets w.operator.issued p 0 setup.steps =
        ap (λ (o : OperatorPart). unissued_octets o.issued p 0 setup.steps) m.operator in
        let keepalive_interval : keepalive_interval_of peering ≡ row.keepalive_interval =
        Rattle.std.proofs.lemmas.Option.same_Some _ _ (sym (ap (Rattle.std.specs.Prelude.option_map keepalive_interval_of) known) ∙ row.is) in
        record {
          sum = omega (arith, is.sum, size, waits, stream, keepalives, issued);
          orders = all_is (IsSayOf setup p) (w.says p) (v.says p) none is.orders;
          few = omega (arith, row.few, keepalives);
          keepalives = λ some. omega (arith, row.some, keepalive_interval);
        }

    stays_said : (end : Endpoint) → part.end.stream ≡ end.stream → end.stream ≡ (w.far p).end.stream → part.keepalives ≡ (w.far p).keepalives → taken ≡ None
        → Said setup p peering v
    stays_said end a b keepalives none = silent (a ∙ b) keepalives (takes_none none)

    own_event : (event : FarEvent) → slice_get setup.peerings p ≡ Some peering → far_row setup p event (w.far p) taken sent part → Said setup p peering v
    own_event (Say step) known row = says_said step row
    own_event (Beat round) known row = beats_said round known row
    own_event (Send from len) known row =
        stays_said row.end (ap (λ (f : FarPart). f.end.stream) row.effect)
        (emits_same (w.far p).end row.segment row.end row.emits.emits).stream (ap (λ (f : FarPart). f.keepalives) row.effect) row.takes
    own_event (Take router) known row =
        silent (ap (λ (f : FarPart). f.end.stream) row.effect) (ap (λ (f : FarPart). f.keepalives) row.effect) (takes_item router _ row.takes)
    own_event (Pass index keep router) known row =
        silent (ap (λ (f : FarPart). f.end.stream) row.effect) (ap (λ (f : FarPart). f.keepalives) row.effect) (takes_none row.takes)
    own_event (Reach index keep) known row =
        stays_said row.end (ap (λ (f : FarPart). f.end.stream) row.effect)
        (takes_same (w.far p).end row.segment row.end row.arrives).stream (ap (λ (f : FarPart). f.keepalives) row.effect) row.takes
    own_event (Lose Home index) known row =
        silent (ap (λ (f : FarPart). f.end.stream) row.effect) (ap (λ (f : FarPart). f.keepalives) row.effect) (takes_none row.takes)
    own_event (Lose Remote index) known row =
        silent (ap (λ (f : FarPart). f.end.stream) row.effect) (ap (λ (f : FarPart). f.keepalives) row.effect) (takes_none row.takes)
    own_event (Point router) known row =
        silent (ap (λ (f : FarPart). f.end.stream) row.effect) (ap (λ (f : FarPart). f.keepalives) row.effect) (takes_item router _ row.takes)

  -- ---- another far side's events

  other_far : (w v : World) (q : ℕ) (taken : Option FarTaken) (sent : List FarSent) (part : FarPart) → q ≢ p → FarMoves q taken sent part w v
      → Said setup p peering w → Said setup p peering v
  other_far w v q taken sent part other m is =
      let there : v.far p ≡ w.far p = ap (λ (f : ℕ → FarPart). f p) m.far ∙ elsewhere w.far q p part other in
      same w v (ap (λ (f : FarPart). f.end.stream) there) (ap (λ (f : FarPart). f.keepalives) there)
      (ap (λ (o : OperatorPart). o.issued) m.operator) (by_taken taken (m.says p)) is
    where
      elsewhere : (f : ℕ → FarPart) (j n : ℕ) (x : FarPart) → j ≢ n → at f j x n ≡ f n
      elsewhere f j n x ne = grind (arith, nat_tests)

      none : (step : ℕ) → only_at q step p ≡ []
      none step = grind (arith, nat_tests)

      by_taken : (t : Option FarTaken) → says_taken q t p ++ v.says p ≡ w.says p → v.says p ≡ w.says p
      by_taken None e = e
      by_taken (Some (OutwardIn r item)) e = e
      by_taken (Some (SayIn step)) e = ap (λ (xs : List ℕ). xs ++ v.says p) (sym (none step)) ∙ e

  by_far : (w v : World) (q : ℕ) (event : FarEvent) → slice_get setup.peerings p ≡ Some peering → FarStep setup q event w v → Said setup p peering w
      → Said setup p peering v
  by_far w v q event known x is = elim (cases_eq q p) [
    | inl here ↦ own w v q event here x is
    | inr other ↦ other_far w v q x.taken x.sent x.part other (far_moves setup q event w v x) is
  ]
    where
      own : (w v : World) (q : ℕ) (event : FarEvent) → q ≡ p → FarStep setup q event w v → Said setup p peering w → Said setup p peering v
      own w v q event here x is =
          let y : FarStep setup p event w v = subst (λ (n : ℕ). FarStep setup n event w v) here x in
          own_event w v y.taken y.sent y.part (far_moves setup p event w v y) is event known y.row

  -- ---- the operator's events

  -- a step is issued, and what it says is ordered
  issues : (w v : World) (step : ℕ) (s : ScriptStep) (more : List ℕ) → slice_get setup.steps step ≡ Some s → w.operator.issued step ≡ false → v.far ≡ w.far
      → v.operator.issued ≡ at w.operator.issued step true → v.says p ≡ w.says p ++ more → sum_by (size_at setup p) more ≡ length (said_by p s)
      → AllByRecursion (IsSayOf setup p) more → Said setup p peering w → Said setup p peering v
  issues w v step s more there not far issued says size all is =
      let a : length (v.far p).end.stream ≡ length (w.far p).end.stream = ap (λ (f : ℕ → FarPart). length (f p).end.stream) far in
      let b : (v.far p).keepalives ≡ (w.far p).keepalives = ap (λ (f : ℕ → FarPart). (f p).keepalives) far in
      let c : sum_by (size_at setup p) (v.says p) ≡ sum_by (size_at setup p) (w.says p) + sum_by (size_at setup p) more =
      ap (λ (xs : List ℕ). sum_by (size_at setup p) xs) says ∙ sum_by-append (size_at setup p) (w.says p) more in
      let d = unissued_at w.operator.issued p 0 step step setup.steps s (omega arith) there not in
      let e : unissued_octets v.operator.issued p 0 setup.steps ≡ unissued_octets (at w.operator.issued step true) p 0 setup.steps =
      ap (λ (f : ℕ → Bool). unissued_octets f p 0 setup.steps) issued in
      record {
        sum = omega (arith, is.sum, a, b, c, d, e, size);
        orders = all_is (IsSayOf setup p) (w.says p ++ more) (v.says p) says (all_join (IsSayOf setup p) (w.says p) more is.orders all);
        few = omega (arith, is.few, b);
        keepalives = λ some. is.keepalives (omega (arith, some, b));
      }

  sent_says : (q step : ℕ) (sent : List OperatorSent) (v w : World) → sent ≡ SayTo q step ∷ [] → v.says p ≡ w.says p ++ says_sent sent p
      → v.says p ≡ w.says p ++ only_at q step p
  sent_says q step sent v w is e = e ∙ ap (λ (xs : List OperatorSent). w.says p ++ says_sent xs p) is
      ∙ ap (λ (xs : List ℕ). w.says p ++ xs) (append-nil (only_at q step p))

  only_size : (q step : ℕ) (bytes : List ℕ) → slice_get setup.steps step ≡ Some (SayStep q bytes)
      → sum_by (size_at setup p) (only_at q step p) ≡ length (said_by p (SayStep q bytes))
  only_size q step bytes there = by_test (cases_eq p q) where
    by_test : (p ≡ q) ⊎ (p ≢ q) → sum_by (size_at setup p) (only_at q step p) ≡ length (said_by p (SayStep q bytes))
    by_test (inl is) =
        let one : only_at q step p ≡ step ∷ [] = grind (arith, nat_tests) in
        let size : size_at setup p step ≡ length (said_by p (SayStep q bytes)) = ap (λ (o : Option ScriptStep). length (said_by_step p o)) there in
        ap (λ (xs : List ℕ). sum_by (size_at setup p) xs) one ∙ (let a = sum_by-cons (size_at setup p) step [] in omega (arith, a, size))
    by_test (inr other) =
        let none : only_at q step p ≡ [] = grind (arith, nat_tests) in
        ap (λ (xs : List ℕ). sum_by (size_at setup p) xs) none ∙ sym (said_by_other p q bytes other)

  only_says : (q step : ℕ) (bytes : List ℕ) → slice_get setup.steps step ≡ Some (SayStep q bytes) → AllByRecursion (IsSayOf setup p) (only_at q step p)
  only_says q step bytes there = by_test (cases_eq p q) where
    by_test : (p ≡ q) ⊎ (p ≢ q) → AllByRecursion (IsSayOf setup p) (only_at q step p)
    by_test (inl is) = all_only (IsSayOf setup p) q p step (record { bytes = bytes; is = there ∙ ap (λ (n : ℕ). Some (SayStep n bytes)) (sym is) })
    by_test (inr other) =
        let none : only_at q step p ≡ [] = grind (arith, nat_tests) in
        all_is (IsSayOf setup p) [] (only_at q step p) none tt

  nothing_sent : (sent : List OperatorSent) (v w : World) → says_sent sent p ≡ [] → v.says p ≡ w.says p ++ says_sent sent p → v.says p ≡ w.says p
  nothing_sent sent v w none e = e ∙ ap (λ (xs : List ℕ). w.says p ++ xs) none ∙ append-nil (w.says p)

  by_operator : (w v : World) (event : OperatorEvent) → OperatorStep setup event w v → Said setup p peering w → Said setup p peering v
  by_operator w v event x is = by_row event x.row where
    m : OperatorMoves x.taken x.sent x.part w v
    m = operator_moves setup event w v x

    issued_by : (f : ℕ → Bool) → x.part.issued ≡ f → v.operator.issued ≡ f
    issued_by f e = ap (λ (o : OperatorPart). o.issued) m.operator ∙ e

    unchanged : x.part.issued ≡ w.operator.issued → says_sent x.sent p ≡ [] → Said setup p peering v
    unchanged issued none =
        same w v (ap (λ (f : ℕ → FarPart). (f p).end.stream) m.far) (ap (λ (f : ℕ → FarPart). (f p).keepalives) m.far)
        (issued_by w.operator.issued issued) (nothing_sent x.sent v w none (m.says p)) is

    by_row : (event : OperatorEvent) → operator_row setup event w.operator x.taken x.sent x.part → Said setup p peering v
    by_row (Order step number) (inl row) =
        issues w v step (SayStep row.peering row.bytes) (only_at row.peering step p) row.is row.unissued m.far
        (issued_by (at w.operator.issued step true) (ap (λ (o : OperatorPart). o.issued) row.effect))
        (sent_says row.peering step x.sent v w row.sends (m.says p)) (only_size row.peering step row.bytes row.is)
        (only_says row.peering step row.bytes row.is) is
    by_row (Order step number) (inr row) =
        unchanged (ap (λ (o : OperatorPart). o.issued) row.effect) (ap (λ (xs : List OperatorSent). says_sent xs p) row.sends)
    by_row (Note router) row = unchanged (ap (λ (o : OperatorPart). o.issued) row.effect) (ap (λ (xs : List OperatorSent). says_sent xs p) row.sends)
    by_row Go row = unchanged (ap (λ (o : OperatorPart). o.issued) row.effect) (ap (λ (xs : List OperatorSent). says_sent xs p) row.sends)

  pub steps_keep : (w v : World) (event : Event) → slice_get setup.peerings p ≡ Some peering → Step setup event w v → Said setup p peering w
      → Said setup p peering v
  steps_keep w v (ByRouter r event) known x is = by_router w v r event x is
  steps_keep w v (ByFar q event) known x is = by_far w v q event known x is
  steps_keep w v (ByOperator event) known x is = by_operator w v event x is

  pub first_said : slice_get setup.peerings p ≡ Some peering → Said setup p peering (Rattle.graft_model.specs.First.first_world setup)
  first_said known =
      let far : Rattle.graft_model.specs.First.first_far (slice_get setup.peerings p) ≡ Rattle.graft_model.specs.First.first_far (Some peering) =
      ap Rattle.graft_model.specs.First.first_far known in
      let stream : length (Rattle.graft_model.specs.First.first_far (slice_get setup.peerings p)).end.stream ≡ length peering.opening =
      ap (λ (f : FarPart). length f.end.stream) far in
      let keepalives : (Rattle.graft_model.specs.First.first_far (slice_get setup.peerings p)).keepalives ≡ 0 = ap (λ (f : FarPart). f.keepalives) far in
      let steps = none_issued p 0 setup.steps in
      record {
        sum = omega (arith, stream, keepalives, steps);
        orders = tt;
        few = omega (arith, keepalives);
        keepalives = λ some. absurd (omega (arith, some, keepalives));
      }

-- ---- what follows

-- a remote says at most 1 MiB
pub said_fits : (setup : Setup) (p : ℕ) (peering : PeeringSetup) (w : World) → IsPeeringSetup setup p peering → Said setup p peering w
    → length (w.far p).end.stream + sum_by (size_at setup p) (w.says p) ≤ 2 ^ 20
said_fits setup p peering w sound is = by_beats (cases_eq (w.far p).keepalives 0) where
  by_beats : ((w.far p).keepalives ≡ 0) ⊎ ((w.far p).keepalives ≢ 0) → length (w.far p).end.stream + sum_by (size_at setup p) (w.says p) ≤ 2 ^ 20
  by_beats (inl none) = omega (arith, is.sum, sound.said, none)
  by_beats (inr some) = omega (arith, is.sum, is.few, sound.beats (is.keepalives (omega (arith, some))))

-- a timer's KEEPALIVE has room
pub beat_fits : (setup : Setup) (p : ℕ) (peering : PeeringSetup) (w : World) → IsPeeringSetup setup p peering → Said setup p peering w
    → 0 < keepalive_interval_of peering → (w.far p).keepalives < 27594
    → length (w.far p).end.stream + length (spell KeepaliveMsg false) ≤ 2 ^ 20
beat_fits setup p peering w sound is some few = omega (arith, is.sum, few, sound.beats some, keepalive_size false)

-- what is ordered to be said has room
pub say_fits : (setup : Setup) (p : ℕ) (peering : PeeringSetup) (w : World) (step : ℕ) (rest bytes : List ℕ) → IsPeeringSetup setup p peering
    → Said setup p peering w
    → w.says p ≡ step ∷ rest → slice_get setup.steps step ≡ Some (SayStep p bytes) → length (w.far p).end.stream + length bytes ≤ 2 ^ 20
say_fits setup p peering w step rest bytes sound is head there =
    let size : size_at setup p step ≡ length bytes =
    ap (λ (o : Option ScriptStep). length (said_by_step p o)) there ∙ ap (λ (xs : List ℕ). length xs) (said_by_itself p bytes) in
    let waits : sum_by (size_at setup p) (w.says p) ≡ size_at setup p step + sum_by (size_at setup p) rest =
    ap (λ (xs : List ℕ). sum_by (size_at setup p) xs) head ∙ sum_by-cons (size_at setup p) step rest in
    let fits = said_fits setup p peering w sound is in
    omega (arith, size, waits, fits)
