-- A world in which one channel is another list.
use Rattle.std.proofs.Common.{◌≡◌, ℕ, List, [], ◌∷◌, ◌++◌, Option, Some, map, refl, ap, ◌∙◌, arith}
use Rattle.std.proofs.lemmas.Bool.Decides.{nat_tests}
use Rattle.std.proofs.lemmas.List.{map-append}
use Rattle.tcp_seq.specs.Endpoint.{PlacedSegment}
use Rattle.graft_model.specs.Points.{at, at2}
use Rattle.graft_model.specs.Parts.{Mesh, Outward, GraftOrder, Report, World}
use Rattle.graft_model.specs.RouterRows.{RouterSent, MeshTo, OutwardTo, ReportOut}
use Rattle.graft_model.specs.FarRows.{FarSent}
use Rattle.graft_model.specs.OperatorRows.{OperatorSent, OrderTo, SayTo}
use Rattle.graft_model.specs.Steps.{router_sends, far_sends, operator_sends}
use Rattle.graft_actors.specs.Actors.{Thing, MeshItem, OutwardItem, SegmentItem, OrderItem, ReportItem, StepItem, ActorName, Router, FarSide, Operator}
use Rattle.graft_actors.specs.Makes.{sent_by_router, sent_by_far, sent_by_operator}
use Rattle.graft_actors.specs.Seen.{part_of, channel_of}

pub at-here : {A : Type 0} (f : ℕ → A) (k : ℕ) (v : A) → at f k v k ≡ v
at-here f k v = grind (arith, nat_tests)

pub at-else : {A : Type 0} (f : ℕ → A) (k : ℕ) (v : A) (n : ℕ) → (n ≡ k → ⊥) → at f k v n ≡ f n
at-else f k v n h = grind (arith, nat_tests)

pub at2-here : {A : Type 0} (f : ℕ → ℕ → A) (a b : ℕ) (v : A) → at2 f a b v a b ≡ v
at2-here f a b v = grind (arith, nat_tests)

pub at2-else : {A : Type 0} (f : ℕ → ℕ → A) (a b : ℕ) (v : A) (c d : ℕ) → ((c ≡ a) × (d ≡ b) → ⊥) → at2 f a b v c d ≡ f c d
at2-else f a b v c d h = grind (arith, nat_tests)

-- the channel from one actor to another is this list, and all else is as it was
pub record OneChannel (w u : World) (from to : ActorName) (items : List Thing) : Type 0 where
  pub parts : (x : ActorName) → part_of u x ≡ part_of w x
  pub here : channel_of u (Some from) (Some to) ≡ items
  pub others : (x y : Option ActorName) → ((x ≡ Some from) × (y ≡ Some to) → ⊥) → channel_of u x y ≡ channel_of w x y

pub sets_mesh : (w : World) (a b : ℕ) (items : List Mesh) → OneChannel w (record w { mesh = at2 w.mesh a b items }) (Router a) (Router b) (map MeshItem items)
sets_mesh w a b items = record { parts = same; here = ap (map MeshItem) (at2-here w.mesh a b items); others = others }
  where
    same : (x : ActorName) → part_of (record w { mesh = at2 w.mesh a b items }) x ≡ part_of w x
    same (Router r) = refl
    same (FarSide p) = refl
    same Operator = refl

    others : (x y : Option ActorName) → ((x ≡ Some (Router a)) × (y ≡ Some (Router b)) → ⊥)
        → channel_of (record w { mesh = at2 w.mesh a b items }) x y ≡ channel_of w x y
    others (Some (Router c)) (Some (Router d)) not =
        ap (map MeshItem) (at2-else w.mesh a b items c d (λ e. not (ap (λ (n : ℕ). Some (Router n)) e.0, ap (λ (n : ℕ). Some (Router n)) e.1)))
    others x y not = refl

pub sets_outward : (w : World) (a b : ℕ) (items : List Outward)
    → OneChannel w (record w { outward = at2 w.outward a b items }) (Router a) (FarSide b) (map OutwardItem items)
sets_outward w a b items = record { parts = same; here = ap (map OutwardItem) (at2-here w.outward a b items); others = others }
  where
    same : (x : ActorName) → part_of (record w { outward = at2 w.outward a b items }) x ≡ part_of w x
    same (Router r) = refl
    same (FarSide p) = refl
    same Operator = refl

    others : (x y : Option ActorName) → ((x ≡ Some (Router a)) × (y ≡ Some (FarSide b)) → ⊥)
        → channel_of (record w { outward = at2 w.outward a b items }) x y ≡ channel_of w x y
    others (Some (Router c)) (Some (FarSide d)) not =
        ap (map OutwardItem) (at2-else w.outward a b items c d (λ e. not (ap (λ (n : ℕ). Some (Router n)) e.0, ap (λ (n : ℕ). Some (FarSide n)) e.1)))
    others x y not = refl

pub sets_inward : (w : World) (a b : ℕ) (items : List PlacedSegment)
    → OneChannel w (record w { inward = at2 w.inward a b items }) (FarSide a) (Router b) (map SegmentItem items)
sets_inward w a b items = record { parts = same; here = ap (map SegmentItem) (at2-here w.inward a b items); others = others }
  where
    same : (x : ActorName) → part_of (record w { inward = at2 w.inward a b items }) x ≡ part_of w x
    same (Router r) = refl
    same (FarSide p) = refl
    same Operator = refl

    others : (x y : Option ActorName) → ((x ≡ Some (FarSide a)) × (y ≡ Some (Router b)) → ⊥)
        → channel_of (record w { inward = at2 w.inward a b items }) x y ≡ channel_of w x y
    others (Some (FarSide c)) (Some (Router d)) not =
        ap (map SegmentItem) (at2-else w.inward a b items c d (λ e. not (ap (λ (n : ℕ). Some (FarSide n)) e.0, ap (λ (n : ℕ). Some (Router n)) e.1)))
    others x y not = refl

pub sets_orders : (w : World) (b : ℕ) (items : List GraftOrder)
    → OneChannel w (record w { orders = at w.orders b items }) Operator (Router b) (map OrderItem items)
sets_orders w b items = record { parts = same; here = ap (map OrderItem) (at-here w.orders b items); others = others }
  where
    same : (x : ActorName) → part_of (record w { orders = at w.orders b items }) x ≡ part_of w x
    same (Router r) = refl
    same (FarSide p) = refl
    same Operator = refl

    others : (x y : Option ActorName) → ((x ≡ Some Operator) × (y ≡ Some (Router b)) → ⊥)
        → channel_of (record w { orders = at w.orders b items }) x y ≡ channel_of w x y
    others (Some Operator) (Some (Router d)) not = ap (map OrderItem) (at-else w.orders b items d (λ e. not (refl, ap (λ (n : ℕ). Some (Router n)) e)))
    others x y not = refl

pub sets_says : (w : World) (b : ℕ) (items : List ℕ) → OneChannel w (record w { says = at w.says b items }) Operator (FarSide b) (map StepItem items)
sets_says w b items = record { parts = same; here = ap (map StepItem) (at-here w.says b items); others = others }
  where
    same : (x : ActorName) → part_of (record w { says = at w.says b items }) x ≡ part_of w x
    same (Router r) = refl
    same (FarSide p) = refl
    same Operator = refl

    others : (x y : Option ActorName) → ((x ≡ Some Operator) × (y ≡ Some (FarSide b)) → ⊥)
        → channel_of (record w { says = at w.says b items }) x y ≡ channel_of w x y
    others (Some Operator) (Some (FarSide d)) not = ap (map StepItem) (at-else w.says b items d (λ e. not (refl, ap (λ (n : ℕ). Some (FarSide n)) e)))
    others x y not = refl

pub sets_reports : (w : World) (a : ℕ) (items : List Report)
    → OneChannel w (record w { reports = at w.reports a items }) (Router a) Operator (map ReportItem items)
sets_reports w a items = record { parts = same; here = ap (map ReportItem) (at-here w.reports a items); others = others }
  where
    same : (x : ActorName) → part_of (record w { reports = at w.reports a items }) x ≡ part_of w x
    same (Router r) = refl
    same (FarSide p) = refl
    same Operator = refl

    others : (x y : Option ActorName) → ((x ≡ Some (Router a)) × (y ≡ Some Operator) → ⊥)
        → channel_of (record w { reports = at w.reports a items }) x y ≡ channel_of w x y
    others (Some (Router c)) (Some Operator) not = ap (map ReportItem) (at-else w.reports a items c (λ e. not (ap (λ (n : ℕ). Some (Router n)) e, refl)))
    others x y not = refl

-- ---- one more item

-- the channel that an item is sent on is longer by it
abbrev pub OneMore : World → World → ActorName → ActorName × Thing → Type 0
OneMore w u from x = OneChannel w u from x.0 (channel_of w (Some from) (Some x.0) ++ x.1 ∷ [])

pub reads : {w u : World} {from to : ActorName} {items other : List Thing} → items ≡ other → OneChannel w u from to items → OneChannel w u from to other
reads e h = record { parts = h.parts; here = h.here ∙ e; others = h.others }

pub router_sends_one : (r : ℕ) (w : World) (s : RouterSent) → OneMore w (router_sends r w s) (Router r) (sent_by_router s)
router_sends_one r w (MeshTo q item) = reads (map-append MeshItem (w.mesh r q) (item ∷ [])) (sets_mesh w r q (w.mesh r q ++ item ∷ []))
router_sends_one r w (OutwardTo p item) = reads (map-append OutwardItem (w.outward r p) (item ∷ [])) (sets_outward w r p (w.outward r p ++ item ∷ []))
router_sends_one r w (ReportOut report) = reads (map-append ReportItem (w.reports r) (report ∷ [])) (sets_reports w r (w.reports r ++ report ∷ []))

pub far_sends_one : (p : ℕ) (w : World) (s : FarSent) → OneMore w (far_sends p w s) (FarSide p) (sent_by_far s)
far_sends_one p w s = reads (map-append SegmentItem (w.inward p s.router) (s.segment ∷ [])) (sets_inward w p s.router (w.inward p s.router ++ s.segment ∷ []))

pub operator_sends_one : (w : World) (s : OperatorSent) → OneMore w (operator_sends w s) Operator (sent_by_operator s)
operator_sends_one w (OrderTo r order) = reads (map-append OrderItem (w.orders r) (order ∷ [])) (sets_orders w r (w.orders r ++ order ∷ []))
operator_sends_one w (SayTo p step) = reads (map-append StepItem (w.says p) (step ∷ [])) (sets_says w p (w.says p ++ step ∷ []))
