-- A link over which seven rounds pass without an event holds nothing.
use Rattle.std.proofs.Common.{◌≡◌, ◌≤◌, ◌<◌, ◌+◌, ◌∙◌, ℕ, zero, suc, List, [], ◌∷◌, ◌++◌, length, map, filter, refl, sym, ap, subst, arith}
use Rattle.std.specs.List.{AllByRecursion}
use Rattle.std.proofs.lemmas.List.{append-nil}
use Rattle.std.proofs.lemmas.Bool.Decides.{nat_tests}
use Rattle.ring_net.specs.declared.entry.JournalEntry.{JournalEntry}
use Rattle.journal_merge.specs.Merges.{entries_by}
use Rattle.link_bag.specs.declared.plan.Fault.{Fault}
use Rattle.link_bag.specs.declared.plan.Fate.{Fate}
use Rattle.link_bag.specs.declared.plan.Fate.TheVariants.{Pass, Lose, Repeat, Hold, Stray}
use Rattle.tcp_seq.specs.Endpoint.{PlacedSegment}
use Rattle.tcp_seq.specs.declared.segment.Way.{Way}
use Rattle.graft_model.specs.Codes.{far_code}
use Rattle.graft_model.specs.Setups.{Setup, peerings_in}
use Rattle.graft_model.specs.Parts.{FarPart, World}
use Rattle.graft_model.specs.Steps.{Event}
use Rattle.graft_model.specs.declared.event.FarEvent.{FarEvent}
use Rattle.graft_actors.specs.Actors.{FarSide, number_in}
use Rattle.graft_actors.specs.Laws.{AreEntriesOf}
use Rattle.far_side.specs.Links.{act_of, act_in, last_turn, older, left_in_link, home_act, home_event, home_events, remote_act, remote_event, remote_events}
use Rattle.far_side.specs.declared.link.InLink.{InLink}
use Rattle.far_side.specs.declared.link.Act.{Act}
use Rattle.far_side.specs.declared.link.Act.TheVariants.{Stays, Delivered, Copied, Lost}
use Rattle.real_rounds.specs.Fars.{Links, Lying, ArePut, RealFar, is_take, fates_put}
use Rattle.real_rounds.specs.Whole.{Slices, RoundGoes, RealRounds}
use Rattle.silent_rounds.specs.Silence.{AreSilent, AreShort}
use Rattle.silent_rounds.specs.Laws.{SilentLinksAreEmpty}
use Rattle.silent_rounds.proofs.LinkPlans.{IsShort, Planned, mark_is, far_did, all_planned}
use Rattle.graft_actors.specs.Makes.{AreCoded}

-- ---- seven turns of one link

-- it stays before its last turn alone
stays_before : (f : Fate) (n : ℕ) → act_of f n ≡ Stays → n < last_turn f
stays_before Pass n h = absurd cc
stays_before Lose n h = absurd cc
stays_before (Repeat after) n h = grind (arith, nat_tests)
stays_before (Hold after) n h = grind (arith, nat_tests)
stays_before (Stray after) n h = grind (arith, nat_tests)

-- the first segment stays
abbrev HeadStays : List InLink → Type 0
HeadStays [] = Unit {0}
HeadStays (x ∷ xs) = act_in x ≡ Stays

head_left : (x : InLink) (xs : List InLink) → act_in x ≡ Stays → left_in_link (x ∷ xs) ≡ older x ∷ left_in_link xs
head_left x xs h = rw h refl

-- the first segment at a turn: it is as old, and doesn't wait for long
record Waiting (link : ℕ → List InLink) (j : ℕ) (x : InLink) (xs : List InLink) : Type 0 where
  is : link j ≡ x ∷ xs
  old : j ≤ x.turns
  short : last_turn x.fate ≤ 6

module _ (link : ℕ → List InLink) (silent : (j : ℕ) → j ≤ 6 → HeadStays (link j)) (goes : (j : ℕ) → j < 6 → link (j + 1) ≡ left_in_link (link j)) where
  stays : (j : ℕ) (x : InLink) (xs : List InLink) → j ≤ 6 → Waiting link j x xs → act_in x ≡ Stays
  stays j x xs le w = subst HeadStays w.is (silent j le)

  one_later : (j : ℕ) (x : InLink) (xs : List InLink) → j < 6 → Waiting link j x xs → Waiting link (j + 1) (older x) (left_in_link xs)
  one_later j x xs lt w =
      record { is = goes j lt ∙ ap left_in_link w.is ∙ head_left x xs (stays j x xs (omega (arith, lt)) w); old = omega (arith, w.old); short = w.short }

  waits : (d j : ℕ) (x : InLink) (xs : List InLink) → j + d ≡ 6 → Waiting link j x xs → ⊥
  waits zero j x xs size w = let before : x.turns < last_turn x.fate = stays_before x.fate x.turns (stays j x xs (omega (arith, size)) w) in
      omega (arith, size, w.old, w.short, before)
  waits (suc d) j x xs size w = waits d (j + 1) (older x) (left_in_link xs) (omega (arith, size)) (one_later j x xs (omega (arith, size)) w)

  seven_turns : AllByRecursion IsShort (link 0) → link 0 ≡ []
  seven_turns short = by_case (link 0) refl
    where
      by_case : (ys : List InLink) → link 0 ≡ ys → link 0 ≡ []
      by_case [] e = e
      by_case (x ∷ xs) e = absurd (waits 6 0 x xs refl (record { is = e; old = omega arith; short = (subst (AllByRecursion IsShort) e short).0 }))

-- ---- a round without an event

nil_front : {A : Type 0} (xs ys : List A) → xs ++ ys ≡ [] → xs ≡ []
nil_front [] ys none = refl
nil_front (x ∷ xs) ys none = absurd (let e : ⊥ = cc in e)

nil_back : {A : Type 0} (xs ys : List A) → xs ++ ys ≡ [] → ys ≡ []
nil_back [] ys none = none
nil_back (x ∷ xs) ys none = absurd (let e : ⊥ = cc in e)

no_entries : (setup : Setup) (entries : List JournalEntry) → AreEntriesOf setup [] entries → entries ≡ []
no_entries setup [] are = refl
no_entries setup (e ∷ es) are = absurd are

no_slice : (setup : Setup) (start end : World) (slices : Slices) (events : List Event) → RoundGoes setup start slices events end → events ≡ []
    → (n : ℕ) → slices n ≡ []
no_slice setup start end slices events goes none n =
    sym (goes.merged.each n)
    ∙ ap (λ (es : List JournalEntry). entries_by n es)
    (no_entries setup goes.entries (subst (λ (es : List Event). AreEntriesOf setup es goes.entries) none goes.entries_of))

no_events : (events : List FarEvent) (entries : List JournalEntry) → AreCoded far_code events entries → entries ≡ [] → events ≡ []
no_events [] entries coded none = refl
no_events (e ∷ es) [] coded none = absurd coded
no_events (e ∷ es) (f ∷ fs) coded none = absurd (let x : ⊥ = cc in x)

no_map : {A B : Type 0} (f : A → B) (xs : List A) → map f xs ≡ [] → xs ≡ []
no_map f [] none = refl
no_map f (x ∷ xs) none = absurd (let e : ⊥ = cc in e)

home_head : (pointer : ℕ) (xs : List InLink) → home_events pointer xs ≡ [] → HeadStays xs
home_head pointer [] none = tt
home_head pointer (x ∷ xs) none = by_act (act_in x) (nil_front (home_event pointer 0 x) _ none)
  where
    by_act : (act : Act) → home_act pointer 0 x act ≡ [] → act ≡ Stays
    by_act Stays h = refl
    by_act (Delivered keep) h = absurd (let e : ⊥ = cc in e)
    by_act Copied h = absurd (let e : ⊥ = cc in e)
    by_act Lost h = absurd (let e : ⊥ = cc in e)

remote_head : (xs : List InLink) → remote_events xs ≡ [] → HeadStays xs
remote_head [] none = tt
remote_head (x ∷ xs) none = by_act (act_in x) (nil_front (remote_event 0 x) _ none)
  where
    by_act : (act : Act) → remote_act 0 act ≡ [] → act ≡ Stays
    by_act Stays h = refl
    by_act (Delivered keep) h = absurd (let e : ⊥ = cc in e)
    by_act Copied h = absurd (let e : ⊥ = cc in e)
    by_act Lost h = absurd (let e : ⊥ = cc in e)

-- nothing is put into a link, and the first segment of each stays
record Still (before after : Links) : Type 0 where
  home_stays : HeadStays before.home.plans
  remote_stays : HeadStays before.remote.plans
  home_left : after.home.plans ≡ left_in_link before.home.plans
  remote_left : after.remote.plans ≡ left_in_link before.remote.plans

no_put : (faults : List Fault) (p : ℕ) (way : Way) (from n : ℕ) (new : List InLink) → ArePut faults p way from n new → n ≡ 0 → new ≡ []
no_put faults p way from n new put none =
    no_map (λ x. (x.fate, x.turns)) new (subst (λ (m : ℕ). map (λ x. (x.fate, x.turns)) new ≡ fates_put faults p way from m) none put.fates)

none_long : {A : Type 0} (xs : List A) → xs ≡ [] → length xs ≡ 0
none_long {A = A} xs none = ap (λ (ys : List A). length ys) none

module _ (setup : Setup) (faults : List Fault) (p round : ℕ) (start end : FarPart) (before after : Links)
    (events : List FarEvent) (real : RealFar setup faults p round start before events end after) (none : events ≡ []) where
  turn_none : home_events end.pointer before.home.plans
      ++ (remote_events (before.remote.plans ++ real.took) ++ (real.again ++ (real.keepalives ++ (real.fresh ++ real.answers)))) ≡ []
  turn_none = nil_back real.taken _ (sym real.is ∙ none)

  link_none : remote_events (before.remote.plans ++ real.took) ++ (real.again ++ (real.keepalives ++ (real.fresh ++ real.answers))) ≡ []
  link_none = nil_back (home_events end.pointer before.home.plans) _ turn_none

  sends_none : real.again ++ (real.keepalives ++ (real.fresh ++ real.answers)) ≡ []
  sends_none = nil_back (remote_events (before.remote.plans ++ real.took)) _ link_none

  last_none : real.fresh ++ real.answers ≡ []
  last_none = nil_back real.keepalives _ (nil_back real.again _ sends_none)

  took_none : real.took ≡ []
  took_none = no_put faults p _ before.remote.put (length (filter is_take real.taken)) real.took real.are_taken
      (ap (λ (es : List FarEvent). length (filter is_take es)) (nil_front real.taken _ (sym real.is ∙ none)))

  sent_none : real.sent ≡ []
  sent_none = no_put faults p _ before.home.put (length real.again + (length real.fresh + length real.answers)) real.sent real.are_sent.0
      (omega (
        arith,
        none_long real.again (nil_front real.again _ sends_none),
        none_long real.fresh (nil_front real.fresh _ last_none),
        none_long real.answers (nil_back real.fresh _ last_none),
      ))

  same_plans : before.remote.plans ++ real.took ≡ before.remote.plans
  same_plans = ap (λ (xs : List InLink). before.remote.plans ++ xs) took_none ∙ append-nil before.remote.plans

  round_still : Still before after
  round_still = record {
    home_stays = home_head end.pointer before.home.plans (nil_front (home_events end.pointer before.home.plans) _ turn_none);
    remote_stays = remote_head before.remote.plans
        (subst (λ (xs : List InLink). remote_events xs ≡ []) same_plans (nil_front (remote_events (before.remote.plans ++ real.took)) _ link_none));
    home_left = ap (λ (x : Lying). x.plans) real.home ∙ ap (λ (xs : List InLink). left_in_link before.home.plans ++ xs) sent_none
        ∙ append-nil (left_in_link before.home.plans);
    remote_left = ap (λ (x : Lying). x.plans) real.remote ∙ ap (λ (xs : List InLink). left_in_link xs) same_plans;
  }

-- ---- seven rounds

no_segments : (segments : List PlacedSegment) (plans : List InLink) → length segments ≡ length plans → plans ≡ [] → segments ≡ []
no_segments [] plans same none = refl
no_segments (x ∷ xs) plans same none = absurd (omega (arith, same, none_long plans none))

module _ (setup : Setup) (faults : List Fault) (journal : List JournalEntry)
    (marks : List (List ℕ)) (short : AreShort faults) (real : RealRounds setup faults journal marks)
    (k p : ℕ) (within : k + 7 < length marks) (known : p < peerings_in setup) (silent : AreSilent real.events k 7) where
  still : (j : ℕ) → j ≤ 6 → Still (real.links (k + j) p) (real.links ((k + j) + 1) p)
  still j le =
      let did = far_did setup faults journal marks real (k + j) p (omega (arith, le, within)) known in
      let goes = real.goes (k + j) _ _ (mark_is setup faults journal marks real (k + j) (omega (arith, le, within)))
      (mark_is setup faults journal marks real ((k + j) + 1) (omega (arith, le, within))) in
      round_still setup faults p ((k + j) + 1) _ _ (real.links (k + j) p) (real.links ((k + j) + 1) p) did.events did.real
      (no_events did.events _ did.coded
      (no_slice setup _ _ _ (real.events (k + j)) goes (silent (k + j) (omega arith) (omega (arith, le))) (number_in setup (FarSide p))))

  later : (j : ℕ) → k + (j + 1) ≡ (k + j) + 1
  later j = omega arith

  planned : Planned (real.links (k + 0) p) ((real.world (k + 0)).far p)
  planned = all_planned setup faults journal marks real short p known (k + 0) (omega (arith, within))

  home_empty : (real.links (k + 0) p).home.plans ≡ []
  home_empty = seven_turns (λ j. (real.links (k + j) p).home.plans) (λ j le. (still j le).home_stays)
      (λ j lt. ap (λ (n : ℕ). (real.links n p).home.plans) (later j) ∙ (still j (omega (arith, lt))).home_left) planned.home

  remote_empty : (real.links (k + 0) p).remote.plans ≡ []
  remote_empty = seven_turns (λ j. (real.links (k + j) p).remote.plans) (λ j le. (still j le).remote_stays)
      (λ j lt. ap (λ (n : ℕ). (real.links n p).remote.plans) (later j) ∙ (still j (omega (arith, lt))).remote_left) planned.remote

  both_empty : (((real.world k).far p).homeward ≡ []) × (((real.world k).far p).remoteward ≡ [])
  both_empty = subst (λ (n : ℕ). (((real.world n).far p).homeward ≡ []) × (((real.world n).far p).remoteward ≡ [])) (let same : k + 0 ≡ k = omega arith in same)
      (no_segments _ _ planned.holds.homeward home_empty, no_segments _ _ planned.holds.remoteward remote_empty)

pub silent_links : SilentLinksAreEmpty
silent_links setup faults journal marks short real k p within known silent = both_empty setup faults journal marks short real k p within known silent
