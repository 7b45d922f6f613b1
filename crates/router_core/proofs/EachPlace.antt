-- The stages that go from place to place.
use Rattle.std.proofs.Common.{◌≡◌, ℕ, ◌+◌, ◌-◌, ◌<◌, Some, None, set, List, length, refl, sym, ap, subst, ◌∙◌, arith, false, Option}
use Rattle.std.proofs.lemmas.List.{length-set}
use Rattle.tcp_seq.specs.Endpoint.{Endpoint, next_length}
use Rattle.tcp_seq.specs.declared.segment.Segment.{Segment}
use Rattle.session_value.specs.Sessions.{SessionValue}
use Rattle.ring_net.specs.declared.post.Post.{Post}
use Rattle.graft_steps.specs.declared.item.Item.{Item}
use Rattle.bgp_session.specs.Running.{RunningSession}
use Rattle.graft_actors.specs.Emissions.{Tally, reach_of}
use Rattle.session_places.specs.Places.{with_place}
use Rattle.router_core.specs.Parts.{RouterInvariant}
use Rattle.router_core.specs.Places.{place_at}
use Rattle.router_core.specs.Sending.{AtPlace, IsOutletOf, SentNext}
use Rattle.router_core.specs.Stages.{PlaceGoes, GraftGoes, WordGoes, IsLevel, EmitsAll, SendsAgain, BeginsGrafts}
use Rattle.router_core.specs.Stages.{ConfirmsAll, EmitsEverywhere, again_at, answer_at, with_again, with_answers}
use Rattle.router_core.specs.Visits.{Stage, Visits, Visited, Answers, AllNewOut, EmitsNew, SameButPlaces, SlicesOut, places_twice}
use Rattle.router_core.specs.Visits.{answering, beginning_grafts, confirming, emitting, sending_again, sending_new, slicing}
use Rattle.router_core.specs.declared.fields.Fields.{Fields}
use Rattle.router_core.specs.declared.place.Place.{Place}
use Rattle.router_core.specs.declared.place.Place.TheVariants.{Live, Shadow}
use Rattle.router_core.specs.declared.stages.send.Outlet.{Outlet}
use Rattle.router_core.proofs.PlaceSteps.{here, visits_same}
use Rattle.router_core.proofs.SendSteps.{WroteBy, next_all, next_none, next_some, some_none}
use Rattle.router_core.proofs.Standing.{same_places}
use Rattle.router_core.proofs.PlaceLists.{same_there}
use Rattle.router_core.proofs.VisitSteps.{all_counts, all_did, all_places, visits_as, visits_then}

plus_again : (t : Tally) → (let u : Tally = record t { again = t.again + 0 } in u) ≡ t
plus_again t = ap (λ (m : ℕ). let u : Tally = record t { again = m } in u) (let e : t.again + 0 ≡ t.again = omega arith in e)

plus_answers : (t : Tally) → (let u : Tally = record t { answers = t.answers + 0 } in u) ≡ t
plus_answers t = ap (λ (m : ℕ). let u : Tally = record t { answers = m } in u) (let e : t.answers + 0 ≡ t.answers = omega arith in e)

module _ (f g : Fields) (p q : Post (Item RunningSession)) where
  pub sends_again : Visited sending_again (length f.places.places) f p g q → SendsAgain f p g q
  sends_again v = record {
    events = v.events;
    did = all_did sending_again f g p q v (with_again f) (λ t k. refl) plus_again;
    at = v.at;
    once = all_counts sending_again f g p q v (λ on. on.emits) again_at (λ on x y goes. goes.0) refl;
    places = all_places sending_again f g p q v (PlaceGoes IsLevel) (λ on x y goes. goes.1) refl;
    same = v.same;
    keeps = v.keeps;
  }

  pub begins_all : Visited beginning_grafts (length f.places.places) f p g q → BeginsGrafts f p g q
  begins_all v = record {
    events = v.events;
    did = all_did beginning_grafts f g p q v (λ t. t) (λ t k. refl) (λ t. refl);
    at = v.at;
    places = all_places beginning_grafts f g p q v GraftGoes (λ on x y goes. goes) refl;
    same = v.same;
    keeps = v.keeps;
  }

  pub confirms_all : Visited confirming (length f.places.places) f p g q → ConfirmsAll f p g q
  confirms_all v = record {
    events = v.events;
    did = all_did confirming f g p q v (λ t. t) (λ t k. refl) (λ t. refl);
    at = v.at;
    places = all_places confirming f g p q v WordGoes (λ on x y goes. goes) refl;
    same = v.same;
    keeps = v.keeps;
  }

  pub emits_all : Visited emitting (length f.places.places) f p g q → EmitsEverywhere f p g q
  emits_all v = record {
    events = v.events;
    did = all_did emitting f g p q v (with_answers f) (λ t k. refl) plus_answers;
    at = v.at;
    once = all_counts emitting f g p q v (λ on. on.answers) answer_at (λ on x y goes. goes.0) refl;
    places = all_places emitting f g p q v (PlaceGoes EmitsAll) (λ on x y goes. goes.1) refl;
    same = v.same;
    keeps = v.keeps;
  }

-- ---- new slices, and then the answer

-- what a session at a place becomes, twice
goes_then : (P Q R : RunningSession → RunningSession → Type 0) → ((s u v : RunningSession) → P s u → Q u v → R s v) → (x y z : Option Place)
    → PlaceGoes P x y → PlaceGoes Q y z → PlaceGoes R x z
goes_then P Q R both None y z first second = subst (λ (a : Option Place). PlaceGoes Q a z) first second
goes_then P Q R both (Some (Live s o)) y z (u, is, first) second =
    let (v, z_is, then) = subst (λ (a : Option Place). PlaceGoes Q a z) is second in (v, z_is, both s u v first then)
goes_then P Q R both (Some (Shadow away)) y z first second = subst (λ (a : Option Place). PlaceGoes Q a z) first second

-- and where something is known of what it became
goes_with : (P R : RunningSession → RunningSession → Type 0)
    → ((s u : RunningSession) → P s u → u.session.end.emitted ≡ reach_of u.session.end → R s u) → (x y : Option Place) → PlaceGoes P x y
    → AllNewOut y → PlaceGoes R x y
goes_with P R both None y goes all = goes
goes_with P R both (Some (Live s o)) y (u, is, goes) all = (u, is, both s u goes (subst AllNewOut is all))
goes_with P R both (Some (Shadow away)) y goes all = goes

none_more : (k l m : ℕ) → k ≡ 0 → l ≡ m → k + l ≡ m
none_more k l m none more = omega (arith, none, more)

slices_then : (s u v : RunningSession) → SlicesOut s u → SlicesOut u v → SlicesOut s v
slices_then s u v x y = y
    ∙ ap (λ (r : RunningSession).
    let w : RunningSession = record r { session = record r.session { end = record r.session.end { emitted = v.session.end.emitted } } } in w) x

all_emitted : (s u : RunningSession) → SlicesOut s u → u.session.end.emitted ≡ reach_of u.session.end → EmitsNew s u
all_emitted s u out all = out
    ∙ ap (λ (m : ℕ). let w : RunningSession = record s { session = record s.session { end = record s.session.end { emitted = m } } } in w)
    (all ∙ ap (λ (r : RunningSession). reach_of r.session.end) out)

new_then_answer : (s u v : RunningSession) → EmitsNew s u → Answers u v → EmitsAll s v
new_then_answer s u v x y = y
    ∙ ap (λ (r : RunningSession). let w : RunningSession = record r { session = record r.session { end = record r.session.end { owed = false } } } in w) x

-- the answer that is owed is the one that was owed before
answer_same : (x y : Option Place) → PlaceGoes EmitsNew x y → answer_at y ≡ answer_at x
answer_same None y goes = ap answer_at goes
answer_same (Some (Live s o)) y (u, is, out) = ap answer_at (is ∙ ap (λ (r : RunningSession). Some (Live r o)) out)
answer_same (Some (Shadow away)) y goes = ap answer_at goes

module _ (a b c : Fields) (p q r : Post (Item RunningSession)) (n : ℕ) where
  pub slices_more : Visits slicing n a p b q → Visits slicing n b q c r → Visits slicing n a p c r
  slices_more x y = visits_then slicing slicing slicing a b c p q r n x y refl refl
      (λ k l u v w first second.
      (none_more k.answers l.answers 0 first.0 second.0, goes_then SlicesOut SlicesOut SlicesOut slices_then u v w first.1 second.1))
      (λ k u v t first. refl) (places_twice a b c x.same y.same)

  pub emits_both : Visits sending_new n a p b q → Visits answering n b q c r → Visits emitting n a p c r
  emits_both x y = visits_then sending_new answering emitting a b c p q r n x y refl refl
      (λ k l u v w first second. (
        none_more k.answers l.answers (answer_at u) first.0 (second.0 ∙ answer_same u v first.1),
        goes_then EmitsNew Answers EmitsAll new_then_answer u v w first.1 second.1,
      ))
      (λ k u v t first. ap (λ (m : ℕ). let w : Tally = record t { answers = t.answers + m } in w) (answer_same u v first.1)) (places_twice a b c x.same y.same)

pub slices_all : (a b : Fields) (p q : Post (Item RunningSession)) (n : ℕ) → Visits slicing n a p b q → AllNewOut (place_at b.places.places n)
    → Visits sending_new n a p b q
slices_all a b p q n v all = visits_as slicing sending_new a b p q n v refl
    (λ k goes. (goes.0, goes_with SlicesOut EmitsNew all_emitted (place_at a.places.places n) (place_at b.places.places n) goes.1 all)) (λ t. refl) v.same

-- how much of a session's stream isn't emitted
abbrev pub left_at : Option Place → ℕ
left_at None = 0
left_at (Some (Live s o)) = length s.session.end.stream - s.session.end.emitted
left_at (Some (Shadow away)) = 0

-- the places at one number, before and after
pub same_count : (stage : Stage) (a b : Fields) (p q : Post (Item RunningSession)) (n : ℕ) → RouterInvariant a → Visits stage n a p b q
    → b.known.setup ≡ a.known.setup → n < length a.places.places → n < length b.places.places
same_count stage a b p q n keeps v same there = omega (arith, there, same_places a b keeps v.keeps same)

less_left_live : (s u : RunningSession) (segment : Segment) → SentNext s (Some segment) u
    → length u.session.end.stream - u.session.end.emitted < length s.session.end.stream - s.session.end.emitted
less_left_live s u segment sent =
    let stream : length u.session.end.stream ≡ length s.session.end.stream =
    ap (λ (v : SessionValue). length v.end.stream) sent.step.effect ∙ ap (λ (e : Endpoint). length e.stream) sent.step.step.rises in
    let emitted : u.session.end.emitted ≡ s.session.end.emitted + next_length s.session.end =
    ap (λ (v : SessionValue). v.end.emitted) sent.step.effect ∙ ap (λ (e : Endpoint). e.emitted) sent.step.step.rises in
    omega (arith, stream, emitted, sent.step.step.some)

pub less_left : (y x : Option Place) (segment : Segment) → AtPlace SentNext y (Some segment) x → left_at x < left_at y
less_left None x segment at = absurd (some_none segment at.0)
less_left (Some (Live s o)) x segment (u, x_is, sent) =
    subst (λ (z : Option Place). left_at z < left_at (Some (Live s o))) (sym x_is) (less_left_live s u segment sent)
less_left (Some (Shadow away)) x segment at = absurd (some_none segment at.0)

-- no slice was sent yet
pub slices_none : (f : Fields) (p : Post (Item RunningSession)) (n : ℕ) → RouterInvariant f → n < length f.places.places → Visits slicing n f p f p
slices_none f p n keeps there = visits_same f f n (place_at f.places.places n) there refl
    (sym (same_there f.places n)) slicing p keeps refl (refl, unchanged (place_at f.places.places n)) (λ t. refl) refl (keeps.each n)
  where
    unchanged : (x : Option Place) → PlaceGoes SlicesOut x x
    unchanged None = refl
    unchanged (Some (Live s o)) = (s, refl, refl)
    unchanged (Some (Shadow away)) = refl

-- an outlet is the same while places change
pub outlet_stays : (f g : Fields) (n : ℕ) (outlet : Outlet) → SameButPlaces f g → IsOutletOf f n outlet → IsOutletOf g n outlet
outlet_stays f g n outlet same is = subst (λ (h : Fields). IsOutletOf h n outlet) (sym same) (record { place = is.place; to = is.to; first = is.first })

-- one more slice, at a place that is read as y and becomes x
module _ (a b c : Fields) (p q r : Post (Item RunningSession)) (n : ℕ) (y x : Option Place)
    (so_far : Visits slicing n a p b q) (keeps : RouterInvariant a) (there : n < length a.places.places)
    (same : SameButPlaces b c) (items_are : c.places ≡ with_place b.places n x) (y_is : place_at b.places.places n ≡ y) where
  there_still : n < length b.places.places
  there_still = same_count slicing a b p q n keeps so_far (ap (λ (f : Fields). f.known.setup) so_far.same) there

  x_is : place_at c.places.places n ≡ x
  x_is = here b c n x there_still same items_are

  pub slice_next : (outlet : Outlet) → IsOutletOf a n outlet → (segment : Segment) → WroteBy outlet segment q r → AtPlace SentNext y (Some segment) x
      → Visits slicing n a p c r
  slice_next outlet outlet_is segment wrote at = slices_more a b c p q r n so_far
      (next_some b c q r n x so_far.keeps there_still same items_are outlet (outlet_stays a b n outlet so_far.same outlet_is) segment wrote y y_is at)

  pub slice_less : (segment : Segment) → AtPlace SentNext y (Some segment) x → left_at (place_at c.places.places n) < left_at (place_at b.places.places n)
  slice_less segment at = subst (λ (z : Option Place). left_at z < left_at (place_at b.places.places n))
      (sym x_is) (subst (λ (z : Option Place). left_at x < left_at z) (sym y_is) (less_left y x segment at))

  pub slice_last : AtPlace SentNext y None x → Visits sending_new n a p c q
  slice_last at = slices_all a c p q n (slices_more a b c p q q n so_far (next_none b c q q n x so_far.keeps there_still same items_are y y_is at))
      (subst AllNewOut (sym x_is) (next_all b c q q n x so_far.keeps there_still same items_are y y_is at))

-- there are as many places
pub still_there : (n : ℕ) (xs : List (Option Place)) (x : Option Place) → n < length xs → n < length (set xs n x)
still_there n xs x there = omega (arith, there, length-set xs n x)
