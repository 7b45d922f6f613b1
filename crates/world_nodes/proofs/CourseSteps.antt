-- A laboratory that runs: its actors work, and its looks are those of the world.
use Rattle.std.proofs.Common.{◌≡◌, ◌<◌, ◌+◌, ◌∙◌, ℕ, zero, suc, Bool, false, List, [], ◌∷◌, length, get_or, map, take, Option}
use Rattle.std.proofs.Common.{Some, None, Result, Ok, Err, IfOk, OnOk, refl, ap, sym, subst, arith, inl, inr}
use Rattle.std.specs.Prelude.{◌⊎◌, ◌↔◌, slice_get}
use Rattle.std.specs.List.{AllByRecursion}
use Rattle.std.proofs.lemmas.Bool.Decides.{eqb_tells}
use Rattle.std.proofs.lemmas.List.{length-map}
use Rattle.std.proofs.Math.Seq.{take-length}
use Rattle.ring_net.specs.Deeds.{Deed}
use Rattle.ring_net.specs.Phases.{View, NetPhase, Between, Levelled, is_edge}
use Rattle.graft_steps.specs.declared.rest.Pending.{Pending}
use Rattle.graft_model.specs.Setups.{Setup, routers_in, peerings_in}
use Rattle.graft_model.specs.Parts.{World, OperatorPart}
use Rattle.graft_model.specs.Quiet.{Quiet}
use Rattle.graft_actors.specs.Actors as names
use Rattle.graft_actors.specs.Seen.{part_of}
use Rattle.graft_actors.proofs.Numbers.{at_operator}
use Rattle.graft_actors.specs.Acts.{OwnPart, acts}
use Rattle.operator_state.specs.Holds.{IsHeldUp}
use Rattle.bgp_session.specs.Running.{carried}
use Rattle.settled_check.specs.Firsts.{IsFirstOf, IsEither}
use Rattle.settled_check.specs.Worlds.{IsLeft}
use Rattle.settled_check.proofs.Firsts.{first_of_both}
use Rattle.world_runs.specs.Labs.{actors_in}
use Rattle.world_runs.specs.Runs.{IsSeenAs}
use Rattle.world_nodes.specs.Nodes.{Mail, own, took, turned, paused, Works}
use Rattle.world_nodes.specs.Edges.{HasCounts, has_channel}
use Rattle.world_nodes.specs.Looks.{IsLowest, IsStuckIn, IsStuckWith, IsStuckAtOne, IsLeftToOne, IsSentOnOne, IsPending}
use Rattle.world_nodes.specs.declared.node.Node.{Node}
use Rattle.world_nodes.specs.declared.node.Node.TheVariants.{Router, Far, Operator}
use Rattle.world_nodes.proofs.Firsts.{first_same, lowest_same}
use Rattle.world_nodes.proofs.Seen.{part_is, of_one, to_one, net_left, left_net}

-- ---- results

pub always_ok : {T E Q : Type 0} (r : Result T E) → Q → OnOk r Q
always_ok (Ok x) q = q
always_ok (Err e) q = tt

pub if_on : {T E Q : Type 0} (P : T → Type 0) (r : Result T E) → ((x : T) → P x → Q) → IfOk r P → OnOk r Q
if_on P (Ok x) f p = f x p
if_on P (Err e) f p = tt

-- ---- all work

pub all_by_place : {A : Type 0} (P : A → Type 0) (xs : List A) → ((k : ℕ) (d : A) → k < length xs → P (get_or xs k d)) → AllByRecursion P xs
all_by_place P [] each = tt
all_by_place P (x ∷ xs) each = (each 0 x (omega arith), all_by_place P xs (λ k d k_in. each (suc k) d (omega (arith, k_in))))

pub one_of_all : {A : Type 0} (P : A → Type 0) (xs : List A) (k : ℕ) (d : A) → AllByRecursion P xs → k < length xs → P (get_or xs k d)
one_of_all P [] k d all k_in = absurd (omega arith)
one_of_all P (x ∷ xs) zero d all k_in = all.0
one_of_all P (x ∷ xs) (suc k) d all k_in = one_of_all P xs k d all.1 (omega arith)

pub works_at : (actors : List Node) (k : ℕ) (node : Node) → AllByRecursion Works actors → slice_get actors k ≡ Some node → Works node
works_at [] k node all is = absurd cc
works_at (x ∷ xs) zero node all is = let same : x ≡ node = cc in subst Works same all.0
works_at (x ∷ xs) (suc k) node all is = works_at xs k node all.1 is

turned_works : (old new : Node) (ds : List (Deed Mail)) → turned old ds new → Works new
turned_works (Router old) (Router new) ds t = t.0.1
turned_works (Router old) (Far new) ds t = tt
turned_works (Router old) (Operator new) ds t = tt
turned_works (Far old) (Router new) ds t = absurd t.0
turned_works (Far old) (Far new) ds t = tt
turned_works (Far old) (Operator new) ds t = tt
turned_works (Operator old) (Router new) ds t = absurd t.0
turned_works (Operator old) (Far new) ds t = tt
turned_works (Operator old) (Operator new) ds t = tt

pub phase_works : (old new : View Node Mail) → NetPhase own (acts carried) took turned old new → AllByRecursion Works new.actors
phase_works old new phase = all_by_place Works new.actors (λ k d k_in.
    let did = phase.actors k d (omega (arith, k_in, phase.size)) in turned_works did.mid (get_or new.actors k d) _ did.turn)

paused_works : (old new : Node) (ds : List (Deed Mail)) → paused old ds new → Works old → Works new
paused_works (Router old) (Router new) ds p works = subst (λ r. Works (Router r)) (sym p.1) works
paused_works (Router old) (Far new) ds p works = tt
paused_works (Router old) (Operator new) ds p works = tt
paused_works (Far old) (Router new) ds p works = absurd p
paused_works (Far old) (Far new) ds p works = tt
paused_works (Far old) (Operator new) ds p works = tt
paused_works (Operator old) (Router new) ds p works = absurd p
paused_works (Operator old) (Far new) ds p works = tt
paused_works (Operator old) (Operator new) ds p works = tt

pub pause_works : (k : ℕ) (old level new : View Node Mail) (answer : Bool) → Levelled old level
    → Between own (acts carried) paused k level new answer → AllByRecursion Works old.actors → AllByRecursion Works new.actors
pause_works k old level new answer levelled did works = all_by_place Works new.actors (λ j d j_in. elim (eqb_tells j k) [
  | inl s ↦ subst (λ n. Works (get_or new.actors n d)) (sym s.1) (paused_works (get_or level.actors k d) (get_or new.actors k d) did.deeds (did.paused d)
      (one_of_all Works level.actors k d here (omega (arith, j_in, s.1, did.size))))
  | inr ne ↦ subst Works (sym (did.others j d ne.1)) (one_of_all Works level.actors j d here (omega (arith, j_in, did.size)))
])
  where
    here : AllByRecursion Works level.actors
    here = subst (λ (xs : List Node). AllByRecursion Works xs) (sym levelled.only.actors) works

pub pause_size : (k : ℕ) (old level new : View Node Mail) (answer : Bool) → Levelled old level → Between own (acts carried) paused k level new answer
    → length new.actors ≡ length old.actors
pause_size k old level new answer levelled did = did.size ∙ ap (λ (xs : List Node). length xs) levelled.only.actors

-- ---- the counts are the laboratory's

pub size_in : (setup : Setup) (routers peerings n : ℕ) → HasCounts setup (routers, peerings) → n ≡ routers + peerings + 1 → n ≡ actors_in setup
size_in setup routers peerings n counts size = omega (arith, size, counts.routers, counts.peerings)

-- ---- a group that may not begin

held_by : (old new : Node) (ds : List (Deed Mail)) (setup : Setup) (part : OperatorPart)
    → own old ≡ record { setup = setup; name = names.Operator; part = names.OperatorIs part } → paused old ds new → (ds ≡ []) ↔ IsHeldUp setup part
held_by (Router old) new ds setup part is p = absurd (let h : names.Router old.fields.number.0 ≡ names.Operator = ap (λ (o : OwnPart). o.name) is in cc)
held_by (Far old) new ds setup part is p = absurd (let h : names.FarSide old.fields.peering.0 ≡ names.Operator = ap (λ (o : OwnPart). o.name) is in cc)
held_by (Operator old) (Router new) ds setup part is p = absurd p
held_by (Operator old) (Far new) ds setup part is p = absurd p
held_by (Operator old) (Operator new) ds setup part is p =
    subst (λ (s : Setup). (ds ≡ []) ↔ IsHeldUp s part) (ap (λ (o : OwnPart). o.setup) is)
    (subst (λ (o : OperatorPart). (ds ≡ []) ↔ IsHeldUp (own (Operator old)).setup o) (same (ap (λ (o : OwnPart). o.part) is)) p.held)
  where
    same : {a b : OperatorPart} → names.OperatorIs a ≡ names.OperatorIs b → a ≡ b
    same h = cc

pub pause_held : (setup : Setup) (old level new : View Node Mail) (w : World) (answer : Bool) (k : ℕ) → IsSeenAs own carried setup old w
    → length old.actors ≡ actors_in setup → k ≡ routers_in setup + peerings_in setup → Levelled old level
    → Between own (acts carried) paused k level new answer → (answer ≡ false) ↔ IsHeldUp setup w.operator
pause_held setup old level new w answer k seen size is levelled did =
    let k_in : k < length old.actors = omega (arith, is, size) in
    let d = some_of old.actors k k_in in
    let part = part_is own carried setup old w seen size k names.Operator d
    (subst (λ n. names.actor_at setup n ≡ Some names.Operator) (sym is) (at_operator setup)) k_in in
    let held = held_by (get_or level.actors k d) (get_or new.actors k d) did.deeds setup w.operator
    (ap (λ (xs : List Node). own (get_or xs k d)) levelled.only.actors ∙ part) (did.paused d) in
    (λ e. held.0 (did.answer.0 e), λ h. did.answer.1 (held.1 h))
  where
    some_of : (xs : List Node) (n : ℕ) → n < length xs → Node
    some_of [] n h = absurd (omega arith)
    some_of (x ∷ xs) n h = x

-- ---- what the actors tell

module _ (setup : Setup) (v : View Node Mail) (w : World) (seen : IsSeenAs own carried setup v w)
    (size : length v.actors ≡ actors_in setup) (count : ℕ) (all : count ≡ length v.actors) where
  parts : take count (map own v.actors) ≡ map own v.actors
  parts = rw (all ∙ sym (length-map v.actors own)) (take-length (map own v.actors))

  to_world : (p n : ℕ) → IsStuckAtOne (map own v.actors) p n → IsStuckIn setup w p n
  to_world p n any = let found = of_one own carried setup v w seen size (λ (o : OwnPart). IsStuckWith o p n) any in at_name found.0 found.1 found.2
    where
      at_name : (x : names.ActorName) → names.IsActor setup x → IsStuckWith (record { setup = setup; name = x; part = part_of w x }) p n → IsStuckIn setup w p n
      at_name (names.Router r) known stuck = record { router = r; there = known; stuck = stuck }
      at_name (names.FarSide q) known stuck = absurd stuck
      at_name names.Operator known stuck = absurd stuck

  pub stuck_world : (answer : Option (ℕ × ℕ)) → IsLowest (IsStuckAtOne (take count (map own v.actors))) answer → IsLowest (IsStuckIn setup w) answer
  stuck_world answer lowest = lowest_same (IsStuckAtOne (map own v.actors)) (IsStuckIn setup w) answer to_world
      (λ p n stuck. to_one own carried setup v w seen size (λ (o : OwnPart). IsStuckWith o p n) (names.Router stuck.router) stuck.there stuck.stuck)
      (subst (λ (xs : List OwnPart). IsLowest (IsStuckAtOne xs) answer) parts lowest)

  pub pending_world : (edges : List (ℕ × ℕ)) → ((a b : ℕ) → v.edge a b ≡ is_edge edges a b) → ((a b : ℕ) → is_edge edges a b ≡ has_channel setup a b)
      → ((r : ℕ) → w.mesh r r ≡ []) → (one other answer : Option Pending)
      → IsFirstOf (IsLeftToOne (take count (map own v.actors))) one → IsFirstOf (IsSentOnOne v.channel edges) other
      → IsFirstOf (IsEither one other) answer → IsPending setup w answer
  pending_world edges viewed each itself one other answer left sent first =
      first_same (λ x. IsLeftToOne (map own v.actors) x ⊎ IsSentOnOne v.channel edges x) (IsLeft setup w) answer
      (net_left own carried setup v w seen size edges viewed each itself) (left_net own carried setup v w seen size edges viewed each itself)
      (first_of_both (IsLeftToOne (map own v.actors)) (IsSentOnOne v.channel edges) one other answer
      (subst (λ (xs : List OwnPart). IsFirstOf (IsLeftToOne xs) one) parts left) sent first)

-- nothing is pending exactly where nothing is left
pub none_pending : (setup : Setup) (w : World) (answer : Option Pending) → ((x : Pending) → ¬ IsLeft setup w x) ↔ Quiet setup w
    → IsPending setup w answer → (answer ≡ None) ↔ Quiet setup w
none_pending setup w None law pending = (λ e. law.0 pending, λ quiet. refl)
none_pending setup w (Some first) law pending = (λ e. absurd cc, λ quiet. absurd (law.1 quiet first pending.0))
