-- What an actor of a net takes stands at the head of the world's channel.
use Rattle.std.proofs.Common.{◌≡◌, ℕ, ◌+◌, ◌==◌, Bool, true, false, List, [], ◌∷◌, ◌++◌, Option, Some, None, map, refl, sym, ap, ◌∙◌, subst, inl, inr, arith}
use Rattle.std.specs.Prelude.{◌⊎◌, if◌then◌else◌, option_map}
use Rattle.std.proofs.lemmas.Bool.Decides.{nat_tests}
use Rattle.tcp_seq.specs.Endpoint.{PlacedSegment}
use Rattle.ring_net.specs.Deeds.{Deed}
use Rattle.journal_merge.specs.Worlds.{taken_of, takes_on}
use Rattle.graft_model.specs.Points.{at, at2}
use Rattle.graft_model.specs.Setups.{Setup, routers_in}
use Rattle.graft_model.specs.Parts.{Mesh, Outward, GraftOrder, Report, World}
use Rattle.graft_model.specs.RouterRows.{RouterTaken, OrderIn, SegmentIn, MeshIn}
use Rattle.graft_model.specs.FarRows.{FarTaken, OutwardIn, SayIn}
use Rattle.graft_model.specs.OperatorRows.{OperatorTaken, ReportIn}
use Rattle.graft_model.specs.Steps.{RouterTook, FarTook, OperatorTook}
use Rattle.graft_actors.specs.Actors.{Thing, MeshItem, OutwardItem, SegmentItem, OrderItem, ReportItem, StepItem}
use Rattle.graft_actors.specs.Actors.{ActorName, Router, FarSide, Operator, number_in, IsActor, actor_at}
use Rattle.graft_actors.specs.Makes.{taken_by_router, taken_by_far, taken_by_operator, numbered}
use Rattle.graft_actors.specs.Seen.{part_of, channel_of}
use Rattle.graft_actors.proofs.Numbers.{of_number, once, at_operator}
use Rattle.graft_actors.proofs.Changes.{OneChannel, reads, sets_mesh, sets_outward, sets_inward, sets_orders, sets_says, sets_reports}

-- the channels by number are the world's, and between actors that the setup doesn't have is nothing
pub record AreChannels (setup : Setup) (channel : ℕ → ℕ → List Thing) (w : World) : Type 0 where
  pub each : (a b : ℕ) → channel a b ≡ channel_of w (actor_at setup a) (actor_at setup b)
  pub none : (x y : ActorName) → (IsActor setup x → IsActor setup y → ⊥) → channel_of w (Some x) (Some y) ≡ []

pub both_or_not : (a b m n : ℕ) → ((a ≡ m) × (b ≡ n)) ⊎ ((a ≡ m) × (b ≡ n) → ⊥)
both_or_not a b m n = elim (by_test (a == m)) [
  | inl e ↦ elim (by_test (b == n)) [ inl f ↦ inl (grind (arith, nat_tests), grind (arith, nat_tests)) | inr f ↦ inr (λ h. absurd (differ b n h.1 f)) ]
  | inr e ↦ inr (λ h. absurd (differ a m h.0 e))
]
  where
    by_test : (b : Bool) → (b ≡ true) ⊎ (b ≡ false)
    by_test true = inl refl
    by_test false = inr refl

    differ : (x y : ℕ) → x ≡ y → (x == y) ≡ false → ⊥
    differ x y e f = grind (arith, nat_tests)

pub same_places : (w : World) {x y k l : Option ActorName} → x ≡ k → y ≡ l → channel_of w x y ≡ channel_of w k l
same_places w {x} {y} {k} {l} e f = ap (λ z. channel_of w z y) e ∙ ap (λ z. channel_of w k z) f

-- nothing changes on the channels between other actors
pub none_stays : (setup : Setup) (w u : World) (k l : ActorName) (items : List Thing) → OneChannel w u k l items → IsActor setup k → IsActor setup l
    → ((x y : ActorName) → (IsActor setup x → IsActor setup y → ⊥) → channel_of w (Some x) (Some y) ≡ [])
    → (x y : ActorName) → (IsActor setup x → IsActor setup y → ⊥) → channel_of u (Some x) (Some y) ≡ []
none_stays setup w u k l items one here there none x y not = one.others (Some x) (Some y) (λ e. not (known x k e.0 here) (known y l e.1 there)) ∙ none x y not
  where
    same : (a b : ActorName) → Some a ≡ Some b → a ≡ b
    same a b h = cc

    known : (a b : ActorName) → Some a ≡ Some b → IsActor setup b → IsActor setup a
    known a b e h = subst (λ (z : ActorName). IsActor setup z) (sym (same a b e)) h

-- ---- the head of a channel

off_here : (m n : ℕ) (thing : Thing) → (if n == n then taken_of m (Some (m, thing)) else []) ≡ thing ∷ []
off_here m n thing = grind (arith, nat_tests)

off_else : (m n a b : ℕ) (thing : Thing) → ((a ≡ m) × (b ≡ n) → ⊥) → (if b == n then taken_of a (Some (m, thing)) else []) ≡ []
off_else m n a b thing not = grind (arith, nat_tests)

module _ (setup : Setup) (channel rest : ℕ → ℕ → List Thing) (deed : Deed Thing) (off : (a b : ℕ) → channel a b ≡ takes_on deed a b ++ rest a b) where
  head : (m : ℕ) (thing : Thing) → deed.taken ≡ Some (m, thing) → channel m deed.entry.actor ≡ thing ∷ rest m deed.entry.actor
  head m thing e = off m deed.entry.actor
      ∙ ap (λ xs. xs ++ rest m deed.entry.actor)
      (ap (λ t. if deed.entry.actor == deed.entry.actor then taken_of m t else []) e ∙ off_here m deed.entry.actor thing)

  others : (m : ℕ) (thing : Thing) → deed.taken ≡ Some (m, thing) → (a b : ℕ) → ((a ≡ m) × (b ≡ deed.entry.actor) → ⊥) → channel a b ≡ rest a b
  others m thing e a b not = off a b
      ∙ ap (λ xs. xs ++ rest a b) (ap (λ t. if b == deed.entry.actor then taken_of a t else []) e ∙ off_else m deed.entry.actor a b thing not)

  nothing : deed.taken ≡ None → (a b : ℕ) → channel a b ≡ rest a b
  nothing e a b = off a b ∙ ap (λ xs. xs ++ rest a b) (ap (λ t. if b == deed.entry.actor then taken_of a t else []) e ∙ empty (b == deed.entry.actor))
    where
      empty : (t : Bool) → (if t then taken_of {I = Thing} a None else []) ≡ []
      empty true = refl
      empty false = refl

  -- the rest is the world without the item
  left : (w u : World) (m : ℕ) (thing : Thing) (k l : ActorName) → deed.taken ≡ Some (m, thing) → actor_at setup m ≡ Some k
      → actor_at setup deed.entry.actor ≡ Some l
      → AreChannels setup channel w → OneChannel w u k l (rest m deed.entry.actor) → AreChannels setup rest u
  left w u m thing k l e from to seen one = record {
    each = each;
    none = none_stays setup w u k l (rest m deed.entry.actor) one (of_number setup m k from).0 (of_number setup deed.entry.actor l to).0 seen.none;
  }
    where
      each : (a b : ℕ) → rest a b ≡ channel_of u (actor_at setup a) (actor_at setup b)
      each a b = elim (both_or_not a b m deed.entry.actor) [
        | inl h ↦ ap (λ x. rest x b) h.0 ∙ ap (λ x. rest m x) h.1 ∙ sym one.here
            ∙ sym (same_places u (ap (actor_at setup) h.0 ∙ from) (ap (actor_at setup) h.1 ∙ to))
        | inr not ↦ sym (others m thing e a b not) ∙ seen.each a b
            ∙ sym (one.others (actor_at setup a) (actor_at setup b) (λ h. not (once setup a m k h.0 from, once setup b deed.entry.actor l h.1 to)))
      ]

-- ---- the typed channels

-- the first of items, each made a thing
record First {A : Type 0} (made : A → Thing) (items : List A) (thing : Thing) (rest : List Thing) : Type 0 where
  item : A
  left : List A
  is : items ≡ item ∷ left
  first : thing ≡ made item
  after : rest ≡ map made left

first_of : {A : Type 0} (made : A → Thing) (items : List A) (thing : Thing) (rest : List Thing) → map made items ≡ thing ∷ rest → First made items thing rest
first_of made [] thing rest e = absurd cc
first_of made (item ∷ items) thing rest e = record { item = item; left = items; is = refl; first = cc; after = cc }

-- what a channel to a router or from one can begin with
mesh_from : (w : World) (x : Option ActorName) (r : ℕ) (item : Mesh) (rest : List Thing) → channel_of w x (Some (Router r)) ≡ MeshItem item ∷ rest
    → (q : ℕ) × (x ≡ Some (Router q))
mesh_from w None r item rest e = absurd cc
mesh_from w (Some (Router q)) r item rest e = (q, refl)
mesh_from w (Some (FarSide p)) r item rest e =
    let h : First SegmentItem (w.inward p r) (MeshItem item) rest = first_of SegmentItem (w.inward p r) (MeshItem item) rest e in absurd cc
mesh_from w (Some Operator) r item rest e =
    let h : First OrderItem (w.orders r) (MeshItem item) rest = first_of OrderItem (w.orders r) (MeshItem item) rest e in absurd cc

segment_from : (w : World) (x : Option ActorName) (r : ℕ) (item : PlacedSegment) (rest : List Thing)
    → channel_of w x (Some (Router r)) ≡ SegmentItem item ∷ rest → (p : ℕ) × (x ≡ Some (FarSide p))
segment_from w None r item rest e = absurd cc
segment_from w (Some (Router q)) r item rest e =
    let h : First MeshItem (w.mesh q r) (SegmentItem item) rest = first_of MeshItem (w.mesh q r) (SegmentItem item) rest e in absurd cc
segment_from w (Some (FarSide p)) r item rest e = (p, refl)
segment_from w (Some Operator) r item rest e =
    let h : First OrderItem (w.orders r) (SegmentItem item) rest = first_of OrderItem (w.orders r) (SegmentItem item) rest e in absurd cc

outward_from : (w : World) (x : Option ActorName) (p : ℕ) (item : Outward) (rest : List Thing)
    → channel_of w x (Some (FarSide p)) ≡ OutwardItem item ∷ rest → (r : ℕ) × (x ≡ Some (Router r))
outward_from w None p item rest e = absurd cc
outward_from w (Some (Router r)) p item rest e = (r, refl)
outward_from w (Some (FarSide q)) p item rest e = absurd cc
outward_from w (Some Operator) p item rest e =
    let h : First StepItem (w.says p) (OutwardItem item) rest = first_of StepItem (w.says p) (OutwardItem item) rest e in absurd cc

report_from : (w : World) (x : Option ActorName) (item : Report) (rest : List Thing) → channel_of w x (Some Operator) ≡ ReportItem item ∷ rest
    → (r : ℕ) × (x ≡ Some (Router r))
report_from w None item rest e = absurd cc
report_from w (Some (Router r)) item rest e = (r, refl)
report_from w (Some (FarSide q)) item rest e = absurd cc
report_from w (Some Operator) item rest e = absurd cc

-- ---- what each actor takes

-- the item of a kind that a thing is, if it is one
abbrev pub as_mesh : Thing → Option Mesh
as_mesh (MeshItem item) = Some item
as_mesh thing = None

abbrev pub as_outward : Thing → Option Outward
as_outward (OutwardItem item) = Some item
as_outward thing = None

abbrev pub as_segment : Thing → Option PlacedSegment
as_segment (SegmentItem item) = Some item
as_segment thing = None

abbrev pub as_order : Thing → Option GraftOrder
as_order (OrderItem item) = Some item
as_order thing = None

abbrev pub as_report : Thing → Option Report
as_report (ReportItem item) = Some item
as_report thing = None

abbrev pub as_step : Thing → Option ℕ
as_step (StepItem item) = Some item
as_step thing = None

-- a world from which an actor took what it took, and of which the rest is seen
pub record Left (setup : Setup) (rest : ℕ → ℕ → List Thing) (w : World) (Took : World → Type 0) : Type 0 where
  pub without : World
  pub took : Took without
  pub parts : (x : ActorName) → part_of without x ≡ part_of w x
  pub channels : AreChannels setup rest without

module _ (setup : Setup) (channel rest : ℕ → ℕ → List Thing) (deed : Deed Thing)
    (off : (a b : ℕ) → channel a b ≡ takes_on deed a b ++ rest a b) (w : World) (seen : AreChannels setup channel w) where
  -- the channel of the item, by its place in the world
  begins : (m : ℕ) (thing : Thing) (x y : Option ActorName) → deed.taken ≡ Some (m, thing) → actor_at setup m ≡ x
      → actor_at setup deed.entry.actor ≡ y → channel_of w x y ≡ thing ∷ rest m deed.entry.actor
  begins m thing x y e from to = sym (same_places w from to) ∙ sym (seen.each m deed.entry.actor) ∙ head setup channel rest deed off m thing e

  untouched : (a b : ℕ) → deed.taken ≡ None → rest a b ≡ channel_of w (actor_at setup a) (actor_at setup b)
  untouched a b e = sym (nothing setup channel rest deed off e a b) ∙ seen.each a b

  mesh_sender : (q r : ℕ) (item : Mesh) → actor_at setup deed.entry.actor ≡ Some (Router r) → deed.taken ≡ Some (q, MeshItem item)
      → actor_at setup q ≡ Some (Router q)
  mesh_sender q r item to e =
      let f : (other : ℕ) × (actor_at setup q ≡ Some (Router other)) =
      mesh_from w (actor_at setup q) r item (rest q deed.entry.actor) (begins q (MeshItem item) (actor_at setup q) (Some (Router r)) e refl to) in
      f.1 ∙ ap (λ (x : ℕ). Some (Router x)) (sym (of_number setup q (Router f.0) f.1).1)

  outward_sender : (r p : ℕ) (item : Outward) → actor_at setup deed.entry.actor ≡ Some (FarSide p) → deed.taken ≡ Some (r, OutwardItem item)
      → actor_at setup r ≡ Some (Router r)
  outward_sender r p item to e =
      let f : (other : ℕ) × (actor_at setup r ≡ Some (Router other)) = outward_from w (actor_at setup r) p item
      (rest r deed.entry.actor) (begins r (OutwardItem item) (actor_at setup r) (Some (FarSide p)) e refl to) in
      f.1 ∙ ap (λ (x : ℕ). Some (Router x)) (sym (of_number setup r (Router f.0) f.1).1)

  report_sender : (r : ℕ) (item : Report) → actor_at setup deed.entry.actor ≡ Some Operator → deed.taken ≡ Some (r, ReportItem item)
      → actor_at setup r ≡ Some (Router r)
  report_sender r item to e =
      let f : (other : ℕ) × (actor_at setup r ≡ Some (Router other)) =
      report_from w (actor_at setup r) item (rest r deed.entry.actor) (begins r (ReportItem item) (actor_at setup r) (Some Operator) e refl to) in
      f.1 ∙ ap (λ (x : ℕ). Some (Router x)) (sym (of_number setup r (Router f.0) f.1).1)

  same_peering : (p q : ℕ) → routers_in setup + p ≡ routers_in setup + q → q ≡ p
  same_peering p q e = omega arith

  segment_sender : (p r : ℕ) (item : PlacedSegment) → actor_at setup deed.entry.actor ≡ Some (Router r)
      → deed.taken ≡ Some (routers_in setup + p, SegmentItem item) → actor_at setup (routers_in setup + p) ≡ Some (FarSide p)
  segment_sender p r item to e =
      let m : ℕ = routers_in setup + p in
      let f : (other : ℕ) × (actor_at setup m ≡ Some (FarSide other)) =
      segment_from w (actor_at setup m) r item (rest m deed.entry.actor) (begins m (SegmentItem item) (actor_at setup m) (Some (Router r)) e refl to) in
      f.1 ∙ ap (λ (x : ℕ). Some (FarSide x)) (same_peering p f.0 (of_number setup m (FarSide f.0) f.1).1)

  heads : {A : Type 0} (made : A → Thing) (back : Thing → Option A) → ((a : A) → back (made a) ≡ Some a)
      → (items : List A) (item : A) (rest : List Thing) (s : First made items (made item) rest) → items ≡ item ∷ s.left
  heads made back law items item rest s = s.is ∙ ap (λ x. x ∷ s.left) (same (sym (law s.item) ∙ sym (ap back s.first) ∙ law item))
    where
      same : Some s.item ≡ Some item → s.item ≡ item
      same h = cc

  pub router_left : (r : ℕ) (took : Option RouterTaken) → actor_at setup deed.entry.actor ≡ Some (Router r)
      → deed.taken ≡ option_map (λ t. numbered setup (taken_by_router t)) took → Left setup rest w (RouterTook w r took)
  router_left r None to e = record { without = w; took = refl; parts = λ x. refl; channels = record { each = λ a b. untouched a b e; none = seen.none } }
  router_left r (Some (OrderIn order)) to e =
      let me : ℕ = deed.entry.actor in
      let m : ℕ = number_in setup Operator in
      let s : First OrderItem (w.orders r) (OrderItem order) (rest m me) = first_of OrderItem (w.orders r) (OrderItem order)
      (rest m me) (begins m (OrderItem order) (Some Operator) (Some (Router r)) e (at_operator setup) to) in
      let u : World = record w { orders = at w.orders r s.left } in
      let one : OneChannel w u Operator (Router r) (rest m me) = reads (sym s.after) (sets_orders w r s.left) in
      record {
        without = u;
        took = (record { rest = s.left; is = heads OrderItem as_order (λ a. refl) (w.orders r) order (rest m me) s }, refl);
        parts = one.parts;
        channels = left setup channel rest deed off w u m (OrderItem order) Operator (Router r) e (at_operator setup) to seen one;
      }
  router_left r (Some (SegmentIn p segment)) to e =
      let me : ℕ = deed.entry.actor in
      let m : ℕ = routers_in setup + p in
      let from : actor_at setup m ≡ Some (FarSide p) = segment_sender p r segment to e in
      let s : First SegmentItem (w.inward p r) (SegmentItem segment) (rest m me) = first_of SegmentItem (w.inward p r)
      (SegmentItem segment) (rest m me) (begins m (SegmentItem segment) (Some (FarSide p)) (Some (Router r)) e from to) in
      let u : World = record w { inward = at2 w.inward p r s.left } in
      let one : OneChannel w u (FarSide p) (Router r) (rest m me) = reads (sym s.after) (sets_inward w p r s.left) in
      record {
        without = u;
        took = (record { rest = s.left; is = heads SegmentItem as_segment (λ a. refl) (w.inward p r) segment (rest m me) s }, refl);
        parts = one.parts;
        channels = left setup channel rest deed off w u m (SegmentItem segment) (FarSide p) (Router r) e from to seen one;
      }
  router_left r (Some (MeshIn q item)) to e =
      let me : ℕ = deed.entry.actor in
      let from : actor_at setup q ≡ Some (Router q) = mesh_sender q r item to e in
      let s : First MeshItem (w.mesh q r) (MeshItem item) (rest q me) =
      first_of MeshItem (w.mesh q r) (MeshItem item) (rest q me) (begins q (MeshItem item) (Some (Router q)) (Some (Router r)) e from to) in
      let u : World = record w { mesh = at2 w.mesh q r s.left } in
      let one : OneChannel w u (Router q) (Router r) (rest q me) = reads (sym s.after) (sets_mesh w q r s.left) in
      record {
        without = u;
        took = (record { rest = s.left; is = heads MeshItem as_mesh (λ a. refl) (w.mesh q r) item (rest q me) s }, refl);
        parts = one.parts;
        channels = left setup channel rest deed off w u q (MeshItem item) (Router q) (Router r) e from to seen one;
      }

  pub far_left : (p : ℕ) (took : Option FarTaken) → actor_at setup deed.entry.actor ≡ Some (FarSide p)
      → deed.taken ≡ option_map (λ t. numbered setup (taken_by_far t)) took → Left setup rest w (FarTook w p took)
  far_left p None to e = record { without = w; took = refl; parts = λ x. refl; channels = record { each = λ a b. untouched a b e; none = seen.none } }
  far_left p (Some (OutwardIn r item)) to e =
      let me : ℕ = deed.entry.actor in
      let from : actor_at setup r ≡ Some (Router r) = outward_sender r p item to e in
      let s : First OutwardItem (w.outward r p) (OutwardItem item) (rest r me) =
      first_of OutwardItem (w.outward r p) (OutwardItem item) (rest r me) (begins r (OutwardItem item) (Some (Router r)) (Some (FarSide p)) e from to) in
      let u : World = record w { outward = at2 w.outward r p s.left } in
      let one : OneChannel w u (Router r) (FarSide p) (rest r me) = reads (sym s.after) (sets_outward w r p s.left) in
      record {
        without = u;
        took = (record { rest = s.left; is = heads OutwardItem as_outward (λ a. refl) (w.outward r p) item (rest r me) s }, refl);
        parts = one.parts;
        channels = left setup channel rest deed off w u r (OutwardItem item) (Router r) (FarSide p) e from to seen one;
      }
  far_left p (Some (SayIn step)) to e =
      let me : ℕ = deed.entry.actor in
      let m : ℕ = number_in setup Operator in
      let s : First StepItem (w.says p) (StepItem step) (rest m me) =
      first_of StepItem (w.says p) (StepItem step) (rest m me) (begins m (StepItem step) (Some Operator) (Some (FarSide p)) e (at_operator setup) to) in
      let u : World = record w { says = at w.says p s.left } in
      let one : OneChannel w u Operator (FarSide p) (rest m me) = reads (sym s.after) (sets_says w p s.left) in
      record {
        without = u;
        took = (record { rest = s.left; is = heads StepItem as_step (λ a. refl) (w.says p) step (rest m me) s }, refl);
        parts = one.parts;
        channels = left setup channel rest deed off w u m (StepItem step) Operator (FarSide p) e (at_operator setup) to seen one;
      }

  pub operator_left : (took : Option OperatorTaken) → actor_at setup deed.entry.actor ≡ Some Operator
      → deed.taken ≡ option_map (λ t. numbered setup (taken_by_operator t)) took → Left setup rest w (OperatorTook w took)
  operator_left None to e = record { without = w; took = refl; parts = λ x. refl; channels = record { each = λ a b. untouched a b e; none = seen.none } }
  operator_left (Some (ReportIn r report)) to e =
      let me : ℕ = deed.entry.actor in
      let from : actor_at setup r ≡ Some (Router r) = report_sender r report to e in
      let s : First ReportItem (w.reports r) (ReportItem report) (rest r me) =
      first_of ReportItem (w.reports r) (ReportItem report) (rest r me) (begins r (ReportItem report) (Some (Router r)) (Some Operator) e from to) in
      let u : World = record w { reports = at w.reports r s.left } in
      let one : OneChannel w u (Router r) Operator (rest r me) = reads (sym s.after) (sets_reports w r s.left) in
      record {
        without = u;
        took = (record { rest = s.left; is = heads ReportItem as_report (λ a. refl) (w.reports r) report (rest r me) s }, refl);
        parts = one.parts;
        channels = left setup channel rest deed off w u r (ReportItem report) (Router r) Operator e from to seen one;
      }
