-- Clocks that an event passed, or that a Go leveled, are those of the run with it.
use Rattle.std.proofs.Common.{◌≡◌, ◌≢◌, ◌≤◌, ◌<◌, ◌+◌, ◌==◌, ◌&&◌, ◌||◌, ℕ, max, Bool, true, false, if◌then◌else◌, List, [], ◌∷◌, ◌++◌}
use Rattle.std.proofs.Common.{length, drop, map, replicate, refl, sym, ap, ◌∙◌, subst, arith, Option, None, get_or, set}
use Rattle.std.proofs.lemmas.List.{append-nil, drop-append-le, drop-drop, length-append, length-drop, length-set, length-replicate}
use Rattle.std.proofs.lemmas.List.{get_or-set_same, get_or-set_other, get_or-replicate}
use Rattle.ring_net.specs.declared.entry.JournalEntry.{JournalEntry}
use Rattle.graft_model.specs.Setups.{Setup}
use Rattle.graft_model.specs.Parts.{World}
use Rattle.graft_model.specs.Steps.{Event}
use Rattle.graft_actors.specs.Actors.{ActorName, IsActor, number_in, same_name}
use Rattle.graft_actors.specs.Laws.{maker_of}
use Rattle.graft_actors.proofs.Numbers.{same_itself, same_tells}
use Rattle.world_runs.specs.Labs.{actors_in}
use Rattle.world_runs.specs.Marks.{is_go}
use Rattle.audit_clocks.specs.declared.clocks.Clocks.{Clocks}
use Rattle.audit_clocks.specs.Clocks.{actors_of, clock_of, clocks_of, stamps_of, HasPassed, IsLevel}
use Rattle.audit_clocks.specs.Stamps.{with_stamp, without_next}
use Rattle.run_clocks.specs.Clocks.{ClockedEvent, FollowsClocks, clock_behind, clocked, greatest, number_taken, on_way, stamps_sent}
use Rattle.clocked_audits.specs.Timed.{IsTimed, MovesNamed, is_it, named_number, one_if}
use Rattle.clocked_audits.specs.Laws.{ClocksPass, ClocksLevel}
use Rattle.clocked_audits.proofs.Greatest.{greatest_bounds, greatest_level, greatest_set}
use Rattle.clocked_audits.proofs.Earlier.{all_more, behind_more, sent_more, taken_more}
use Rattle.clocked_audits.proofs.Names.{named_test, number_below, number_test, one_number}
use Rattle.clocked_audits.proofs.Moving.{sent_is, took_is}

-- ---- lists of stamps

rest_is : (sent : List ℕ) (k : ℕ) (f d : Bool) → (if f && d then drop 1 (drop k sent) else drop k sent) ≡ drop (k + (if d then one_if f else 0)) sent
rest_is sent k true true = drop-drop 1 k sent
rest_is sent k true false = let none : k ≡ k + 0 = omega arith in ap (λ (n : ℕ). drop n sent) none
rest_is sent k false true = let none : k ≡ k + 0 = omega arith in ap (λ (n : ℕ). drop n sent) none
rest_is sent k false false = let none : k ≡ k + 0 = omega arith in ap (λ (n : ℕ). drop n sent) none

more_is : (a b : Bool) (stamp : ℕ) → (if a then replicate (one_if b) stamp else []) ≡ (if a && b then stamp ∷ [] else [])
more_is true true stamp = refl
more_is true false stamp = refl
more_is false b stamp = refl

put_last : (t : Bool) (xs : List ℕ) (stamp : ℕ) → (if t then xs ++ stamp ∷ [] else xs) ≡ xs ++ (if t then stamp ∷ [] else [])
put_last true xs stamp = refl
put_last false xs stamp = sym (append-nil xs)

one_taken : (f d : Bool) → (if d then one_if f else 0) ≡ one_if (f && d)
one_taken true true = refl
one_taken true false = refl
one_taken false true = refl
one_taken false false = refl

many_more : (a b : Bool) (stamp : ℕ) → length (if a then replicate (one_if b) stamp else []) ≡ one_if (a && b)
many_more true true stamp = refl
many_more true false stamp = refl
many_more false b stamp = refl

-- the stamps without the first one, if it is taken, and with one more, if one is sent
all_stamps : (sent : List ℕ) (k stamp : ℕ) (a b f d : Bool) → k + (if d then one_if f else 0) ≤ length sent
    → (if a && b then (if f && d then drop 1 (drop k sent) else drop k sent) ++ stamp ∷ [] else (if f && d then drop 1 (drop k sent) else drop k sent))
    ≡ drop (k + (if d then one_if f else 0)) (sent ++ (if a then replicate (one_if b) stamp else []))
all_stamps sent k stamp a b f d fits =
    put_last (a && b) (if f && d then drop 1 (drop k sent) else drop k sent) stamp
    ∙ (λ i. rest_is sent k f d i ++ sym (more_is a b stamp) i)
    ∙ sym (drop-append-le (k + (if d then one_if f else 0)) sent (if a then replicate (one_if b) stamp else []) fits)

-- ---- one event more

module _ (setup : Setup) (w u : World) (event : Event) (entry : JournalEntry) (earlier : List ClockedEvent) (clocks after : Clocks) (from to : Option ActorName)
    (timed : IsTimed setup w earlier clocks) (moves : MovesNamed setup w u (maker_of event) from to)
    (stamped : (a b : ℕ) → stamps_of after a b
    ≡ with_stamp (without_next (stamps_of clocks) (named_number setup from) (number_in setup (maker_of event))) (number_in setup (maker_of event))
    (named_number setup to) entry.clock a b) where
  abbrev this : ClockedEvent
  this = clocked event entry w u

  module _ (x y : ActorName) (x_known : IsActor setup x) (y_known : IsActor setup y) where
    abbrev sent : List ℕ
    sent = stamps_sent x y earlier

    abbrev taken : ℕ
    taken = number_taken x y earlier

    -- whether the event sends from the one, to the other, and takes from the one, for the other
    abbrev a : Bool
    a = same_name x (maker_of event)

    abbrev b : Bool
    b = is_it to y

    abbrev f : Bool
    f = is_it from x

    abbrev d : Bool
    d = same_name y (maker_of event)

    now_taken : number_taken x y (earlier ++ this ∷ []) ≡ taken + (if d then one_if f else 0)
    now_taken = taken_more earlier this x y
        ∙ ap (λ (n : ℕ). taken + (let one : ℕ = if d then n else 0 in one)) (took_is setup w u (maker_of event) from to moves x)

    now_sent : stamps_sent x y (earlier ++ this ∷ []) ≡ sent ++ (if a then replicate (one_if b) entry.clock else [])
    now_sent = sent_more earlier this x y
        ∙ ap (λ (n : ℕ). sent ++ (let more : List ℕ = if a then replicate n entry.clock else [] in more)) (sent_is setup w u (maker_of event) from to moves y)

    long : length (drop taken sent) ≡ on_way w x y
    long = ap (λ (xs : List ℕ). length xs) (sym (timed.stamps x y x_known y_known)) ∙ timed.many x y x_known y_known

    fits : taken + (if d then one_if f else 0) ≤ length sent
    fits =
        let before = timed.taken x y x_known y_known in
        let there = moves.some x y in
        omega (arith, before, there, long, length-drop taken sent, one_taken f d)

    by_names : with_stamp (without_next (stamps_of clocks) (named_number setup from) (number_in setup (maker_of event))) (number_in setup (maker_of event))
        (named_number setup to) entry.clock (number_in setup x) (number_in setup y)
        ≡ (if a && b then (if f && d then drop 1 (drop taken sent) else drop taken sent) ++ entry.clock ∷ []
        else (if f && d then drop 1 (drop taken sent) else drop taken sent))
    by_names = λ i.
        let is_a : Bool = number_test setup x (maker_of event) x_known moves.maker_known i in
        let is_b : Bool = named_test setup to y moves.to_known y_known i in
        let is_f : Bool = named_test setup from x moves.from_known x_known i in
        let is_d : Bool = number_test setup y (maker_of event) y_known moves.maker_known i in
        let left : List ℕ = timed.stamps x y x_known y_known i in
        if is_a && is_b then (if is_f && is_d then drop 1 left else left) ++ entry.clock ∷ [] else (if is_f && is_d then drop 1 left else left)

    stamps_then : stamps_of after (number_in setup x) (number_in setup y)
        ≡ drop (number_taken x y (earlier ++ this ∷ [])) (stamps_sent x y (earlier ++ this ∷ []))
    stamps_then = stamped (number_in setup x) (number_in setup y) ∙ by_names ∙ all_stamps sent taken entry.clock a b f d fits
        ∙ sym (λ i. drop (now_taken i) (now_sent i))

    all_sent : length (stamps_sent x y (earlier ++ this ∷ [])) ≡ length sent + one_if (a && b)
    all_sent = ap (λ (xs : List ℕ). length xs) now_sent ∙ length-append sent (if a then replicate (one_if b) entry.clock else [])
        ∙ ap (λ (n : ℕ). length sent + n) (many_more a b entry.clock)

    taken_then : number_taken x y (earlier ++ this ∷ []) ≤ length (stamps_sent x y (earlier ++ this ∷ []))
    taken_then = omega (arith, now_taken, all_sent, fits)

    many_then : length (stamps_of after (number_in setup x) (number_in setup y)) ≡ on_way u x y
    many_then =
        let moved = moves.moves x y in
        let there = moves.some x y in
        let before = timed.taken x y x_known y_known in
        let one = one_taken f d in
        ap (λ (xs : List ℕ). length xs) stamps_then ∙ length-drop (number_taken x y (earlier ++ this ∷ [])) (stamps_sent x y (earlier ++ this ∷ []))
        ∙ omega (arith, moved, there, before, one, now_taken, all_sent, fits, long, length-drop taken sent)

  -- clocks that fit make them those of the run with this event
  module _ (count : actors_of after ≡ actors_in setup)
      (clock : (x : ActorName) → IsActor setup x → clock_of after (number_in setup x) ≡ clock_behind x (earlier ++ this ∷ []))
      (all : greatest (clocks_of after) ≡ greatest (map (λ (e : ClockedEvent). e.clock) (earlier ++ this ∷ []))) where
    timed_then : IsTimed setup u (earlier ++ this ∷ []) after
    timed_then = record { count = count; clock = clock; all = all; taken = taken_then; stamps = stamps_then; many = many_then }

-- ---- an event that begins no group

module _ (setup : Setup) (w u : World) (event : Event) (entry : JournalEntry) (earlier : List ClockedEvent) (clocks after : Clocks) (from to : Option ActorName)
    (timed : IsTimed setup w earlier clocks) (moves : MovesNamed setup w u (maker_of event) from to) (no_go : is_go entry ≡ false)
    (follows : FollowsClocks earlier (clocked event entry w u))
    (passed : HasPassed clocks (number_in setup (maker_of event)) (named_number setup from) (named_number setup to) entry.clock after) where
  above_own : clock_behind (maker_of event) earlier ≤ entry.clock
  above_own =
      let own : entry.clock ≡ max (clock_behind (maker_of event) earlier) follows.stamp + 1 = follows.is
      ∙ ap (λ (t : Bool). (if t then greatest (map (λ (e : ClockedEvent). e.clock) earlier) else max (clock_behind (maker_of event) earlier) follows.stamp) + 1)
      no_go in
      omega (arith, own)

  there : number_in setup (maker_of event) < length (clocks_of clocks)
  there = let below = number_below setup (maker_of event) moves.maker_known in omega (arith, below, timed.count)

  passed_clock : (x : ActorName) → IsActor setup x → clock_of after (number_in setup x) ≡ clock_behind x (earlier ++ clocked event entry w u ∷ [])
  passed_clock x known = ap (λ (cs : List ℕ). get_or cs (number_in setup x) 0) passed.clocks_are ∙ by_test (same_name x (maker_of event)) refl
      ∙ sym (behind_more earlier (clocked event entry w u) x
      ∙ ap (λ (t : Bool). let c : ℕ = if same_name x (maker_of event) || t then max (clock_behind x earlier) entry.clock else clock_behind x earlier in c) no_go)
    where
      by_test : (t : Bool) → same_name x (maker_of event) ≡ t → get_or (set (clocks_of clocks) (number_in setup (maker_of event)) entry.clock) (number_in setup x) 0
          ≡ (if same_name x (maker_of event) || false then max (clock_behind x earlier) entry.clock else clock_behind x earlier)
      by_test true e =
          let same = same_tells x (maker_of event) e in
          let above : clock_behind x earlier ≤ entry.clock = subst (λ (y : ActorName). clock_behind y earlier ≤ entry.clock) (sym same) above_own in
          let greater : entry.clock ≡ max (clock_behind x earlier) entry.clock = omega (arith, above) in
          ap (λ (y : ActorName). get_or (set (clocks_of clocks) (number_in setup (maker_of event)) entry.clock) (number_in setup y) 0) same
          ∙ get_or-set_same (clocks_of clocks) (number_in setup (maker_of event)) entry.clock 0 there ∙ greater
          ∙ sym (ap (λ (s : Bool). let c : ℕ = if s || false then max (clock_behind x earlier) entry.clock else clock_behind x earlier in c) e)
      by_test false e =
          get_or-set_other (clocks_of clocks) (number_in setup (maker_of event)) (number_in setup x) entry.clock 0 apart ∙ timed.clock x known
          ∙ sym (ap (λ (s : Bool). let c : ℕ = if s || false then max (clock_behind x earlier) entry.clock else clock_behind x earlier in c) e)
        where
          apart : number_in setup x ≢ number_in setup (maker_of event)
          apart same =
              let true_too : same_name x (maker_of event) ≡ true =
              ap (same_name x) (sym (one_number setup x (maker_of event) known moves.maker_known same)) ∙ same_itself x in
              cc

  passed_all : greatest (clocks_of after) ≡ greatest (map (λ (e : ClockedEvent). e.clock) (earlier ++ clocked event entry w u ∷ []))
  passed_all =
      let own = timed.clock (maker_of event) moves.maker_known in
      ap greatest passed.clocks_are
      ∙ greatest_set (clocks_of clocks) (number_in setup (maker_of event)) entry.clock there (omega (arith, own, above_own))
      ∙ ap (λ (n : ℕ). max n entry.clock) timed.all ∙ sym (all_more earlier (clocked event entry w u))

passes_named : (setup : Setup) (w u : World) (event : Event) (entry : JournalEntry) (earlier : List ClockedEvent) (clocks after : Clocks)
    (from to : Option ActorName) → IsTimed setup w earlier clocks → MovesNamed setup w u (maker_of event) from to → is_go entry ≡ false
    → FollowsClocks earlier (clocked event entry w u)
    → HasPassed clocks (number_in setup (maker_of event)) (named_number setup from) (named_number setup to) entry.clock after
    → IsTimed setup u (earlier ++ clocked event entry w u ∷ []) after
passes_named setup w u event entry earlier clocks after from to timed moves no_go follows passed =
    timed_then setup w u event entry earlier clocks after from to timed moves passed.stamps_are
    (ap (λ (cs : List ℕ). length cs) passed.clocks_are ∙ length-set (clocks_of clocks) (number_in setup (maker_of event)) entry.clock ∙ timed.count)
    (passed_clock setup w u event entry earlier clocks after from to timed moves no_go follows passed)
    (passed_all setup w u event entry earlier clocks after from to timed moves no_go follows passed)

pub passes : ClocksPass
passes setup w u event entry earlier clocks after from to timed moves no_go follows passed =
    passes_named setup w u event entry earlier clocks after moves.sender moves.receiver timed moves.named no_go follows
    (subst (λ (o : Option ℕ). HasPassed clocks (number_in setup (maker_of event)) o (named_number setup moves.receiver) entry.clock after) (sym moves.sender_is)
    (subst (λ (o : Option ℕ). HasPassed clocks (number_in setup (maker_of event)) from o entry.clock after) (sym moves.receiver_is) passed))

-- ---- an event that begins a group

module _ (setup : Setup) (w u : World) (event : Event) (entry : JournalEntry) (earlier : List ClockedEvent) (clocks after : Clocks)
    (timed : IsTimed setup w earlier clocks) (go : is_go entry ≡ true) (follows : FollowsClocks earlier (clocked event entry w u))
    (level : IsLevel clocks entry.clock after) where
  above_all : entry.clock ≡ greatest (clocks_of clocks) + 1
  above_all = follows.is
      ∙ ap (λ (t : Bool). (if t then greatest (map (λ (e : ClockedEvent). e.clock) earlier) else max (clock_behind (maker_of event) earlier) follows.stamp) + 1)
      go ∙ ap (λ (n : ℕ). n + 1) (sym timed.all)

  leveled_clock : (x : ActorName) → IsActor setup x → clock_of after (number_in setup x) ≡ clock_behind x (earlier ++ clocked event entry w u ∷ [])
  leveled_clock x known =
      let below = number_below setup x known in
      let own = timed.clock x known in
      let bound = greatest_bounds (clocks_of clocks) (number_in setup x) in
      let greater : entry.clock ≡ max (clock_behind x earlier) entry.clock = omega (arith, own, bound, above_all) in
      ap (λ (cs : List ℕ). get_or cs (number_in setup x) 0) level.clocks_are
      ∙ get_or-replicate (actors_of clocks) (number_in setup x) entry.clock 0 (omega (arith, below, timed.count)) ∙ greater
      ∙ sym (behind_more earlier (clocked event entry w u) x
      ∙ ap (λ (t : Bool). let c : ℕ = if same_name x (maker_of event) || t then max (clock_behind x earlier) entry.clock else clock_behind x earlier in c) go
      ∙ either (same_name x (maker_of event)))
    where
      either : (t : Bool) → (if t || true then max (clock_behind x earlier) entry.clock else clock_behind x earlier) ≡ max (clock_behind x earlier) entry.clock
      either true = refl
      either false = refl

  leveled_all : greatest (clocks_of after) ≡ greatest (map (λ (e : ClockedEvent). e.clock) (earlier ++ clocked event entry w u ∷ []))
  leveled_all =
      let some : 0 < actors_of clocks = omega (arith, timed.count) in
      let greater : entry.clock ≡ max (greatest (map (λ (e : ClockedEvent). e.clock) earlier)) entry.clock = omega (arith, above_all, timed.all) in
      ap greatest level.clocks_are ∙ greatest_level (actors_of clocks) entry.clock some ∙ greater ∙ sym (all_more earlier (clocked event entry w u))

  still : (a b : ℕ) → stamps_of after a b ≡ with_stamp (without_next (stamps_of clocks) None (number_in setup (maker_of event)))
      (number_in setup (maker_of event)) None entry.clock a b
  still a b = (λ i. level.stamps_are i a b) ∙ none (a == number_in setup (maker_of event)) where
    none : (t : Bool) → stamps_of clocks a b ≡ (if t && false then stamps_of clocks a b ++ entry.clock ∷ [] else stamps_of clocks a b)
    none true = refl
    none false = refl

pub levels : ClocksLevel
levels setup w u event entry earlier clocks after timed moves go follows level =
    let me = number_in setup (maker_of event) in
    timed_then setup w u event entry earlier clocks after moves.sender moves.receiver timed moves.named
    (λ a b. still setup w u event entry earlier clocks after timed go follows level a b
    ∙ sym (λ i. with_stamp (without_next (stamps_of clocks) (moves.sender_is i) me) me (moves.receiver_is i) entry.clock a b))
    (ap (λ (cs : List ℕ). length cs) level.clocks_are ∙ length-replicate (actors_of clocks) entry.clock ∙ timed.count)
    (leveled_clock setup w u event entry earlier clocks after timed go follows level)
    (leveled_all setup w u event entry earlier clocks after timed go follows level)
