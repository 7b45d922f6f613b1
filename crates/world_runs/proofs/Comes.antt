-- What comes to an actor of a laboratory is welcome.
use Rattle.std.proofs.Common.{◌≡◌, ℕ, List, [], ◌∷◌, ◌++◌, Option, Some, None, map, refl, sym, ap, ◌∙◌, subst, arith}
use Rattle.std.proofs.lemmas.Bool.Decides.{nat_tests}
use Rattle.ring_net.specs.Deeds.{Deed}
use Rattle.journal_merge.specs.Worlds as worlds
use Rattle.journal_merge.specs.Worlds.{takes_on}
use Rattle.graft_steps.specs.declared.item.Item.{Item}
use Rattle.session_value.specs.Sessions.{SessionValue}
use Rattle.graft_model.specs.Setups.{Setup}
use Rattle.graft_model.specs.Parts.{World}
use Rattle.graft_model.specs.RouterRows.{OrderIn, SegmentIn, MeshIn}
use Rattle.graft_model.specs.FarRows.{OutwardIn, SayIn}
use Rattle.graft_model.specs.OperatorRows.{ReportIn}
use Rattle.graft_model.specs.Steps.{Heads}
use Rattle.graft_laws.specs.Facts.{NothingIsDropped}
use Rattle.graft_actors.specs.Actors.{ActorPart, Thing, MeshItem, OutwardItem, SegmentItem, OrderItem, ReportItem}
use Rattle.graft_actors.specs.Actors.{StepItem, ActorName, Router, FarSide, Operator, IsActor, actor_at}
use Rattle.graft_actors.specs.Seen.{part_of, channel_of}
use Rattle.graft_actors.proofs.Numbers.{of_number}
use Rattle.graft_actors.specs.Items.{thing_of}
use Rattle.graft_actors.specs.Acts.{OwnPart, MayComeFrom, MayTake, MayTakeFrom, IsWelcome, TakesWelcome}
use Rattle.world_runs.specs.Labs.{AllMayGo, IsLab}

pub map_first : {A B : Type 0} (f : A → B) (xs : List A) (y : B) (ys : List B) → map f xs ≡ y ∷ ys → (x : A) × (f x ≡ y) × Heads xs x
map_first f [] y ys e = absurd cc
map_first f (x ∷ xs) y ys e = (x, cc, record { rest = xs; is = refl })

-- ---- in the world

module _ (setup : Setup) (w : World) (nothing : NothingIsDropped setup w) where
  head_taken : (from to : ActorName) (thing : Thing) (rest : List Thing) → IsActor setup to → channel_of w (Some from) (Some to) ≡ thing ∷ rest
      → MayTake setup to (part_of w to) from thing
  head_taken (Router a) (Router b) thing rest there e =
      let h = map_first MeshItem (w.mesh a b) thing rest e in
      (MeshIn a h.0, ap (λ (t : Thing). (Router a, t)) h.1, nothing.routers b (MeshIn a h.0) h.2)
  head_taken (Router r) (FarSide p) thing rest there e =
      let h = map_first OutwardItem (w.outward r p) thing rest e in
      (OutwardIn r h.0, ap (λ (t : Thing). (Router r, t)) h.1, nothing.far_sides p (OutwardIn r h.0) there h.2)
  head_taken (Router r) Operator thing rest there e =
      let h = map_first ReportItem (w.reports r) thing rest e in
      (ReportIn r h.0, ap (λ (t : Thing). (Router r, t)) h.1, nothing.operator (ReportIn r h.0) h.2)
  head_taken (FarSide p) (Router r) thing rest there e =
      let h = map_first SegmentItem (w.inward p r) thing rest e in
      (SegmentIn p h.0, ap (λ (t : Thing). (FarSide p, t)) h.1, nothing.routers r (SegmentIn p h.0) h.2)
  head_taken Operator (Router r) thing rest there e =
      let h = map_first OrderItem (w.orders r) thing rest e in
      (OrderIn h.0, ap (λ (t : Thing). (Operator, t)) h.1, nothing.routers r (OrderIn h.0) h.2)
  head_taken Operator (FarSide p) thing rest there e =
      let h = map_first StepItem (w.says p) thing rest e in
      (SayIn h.0, ap (λ (t : Thing). (Operator, t)) h.1, nothing.far_sides p (SayIn h.0) there h.2)
  head_taken from to thing rest there e = absurd cc

  takes_from : (o : Option ActorName) (to : ActorName) (thing : Thing) (rest : List Thing) → IsActor setup to
      → channel_of w o (Some to) ≡ thing ∷ rest → MayTakeFrom setup to (part_of w to) o thing
  takes_from None to thing rest there e = absurd cc
  takes_from (Some from) to thing rest there e = head_taken from to thing rest there e

-- ---- in the laboratory

module _ {C : Type 0} (session : C → SessionValue) (setup : Setup) where
  comes_from : (o : Option ActorName) (to : ActorName) (item : Item C) (rest : List (Item C)) → AllMayGo session setup o (Some to) (item ∷ rest)
      → MayComeFrom session setup o to item
  comes_from None to item rest goes = let e : item ∷ rest ≡ [] = goes in absurd cc
  comes_from (Some from) to item rest goes = goes.0

takes_here : {I : Type 0} (deed : Deed I) (from : ℕ) (item : I) → deed.taken ≡ Some (from, item) → takes_on deed from deed.entry.actor ≡ item ∷ []
takes_here deed from item e = grind (arith, nat_tests)

own_path : (own : OwnPart) (setup : Setup) (name : ActorName) (part : ActorPart) → own.setup ≡ setup → own.name ≡ name → own.part ≡ part
    → own ≡ record { setup = setup; name = name; part = part }
own_path own setup name part a b c = λ i. record { setup = a i; name = b i; part = c i }

module _ {C : Type 0} (session : C → SessionValue) (setup : Setup) (lab : worlds.DeedWorld OwnPart (Item C))
    (w : World) (is_lab : IsLab session setup lab w) (me : ℕ) (x : ActorName) (is : actor_at setup me ≡ Some x) where
  -- the actor as it is in the world
  pub own_is : lab.part me ≡ record { setup = setup; name = x; part = part_of w x }
  own_is = own_path (lab.part me) setup x (part_of w x) (is_lab.setups me x is) (is_lab.names me x is) (is_lab.sees.parts me x is)

  head_welcome : NothingIsDropped setup w → (from : ℕ) (item : Item C) (rest : List (Item C)) → lab.channel from me ≡ item ∷ rest
      → IsWelcome session (record { setup = setup; name = x; part = part_of w x }) from item
  head_welcome nothing from item rest e = record {
    comes = comes_from session setup (actor_at setup from) x item rest
        (subst (λ (o : Option ActorName). AllMayGo session setup (actor_at setup from) o (item ∷ rest)) is
        (subst (λ (items : List (Item C)). AllMayGo session setup (actor_at setup from) (actor_at setup me) items) e (is_lab.fits from me)));
    takes = takes_from setup w nothing (actor_at setup from) x (thing_of session setup item) (map (thing_of session setup) rest) (of_number setup me x is).0
        (ap (channel_of w (actor_at setup from)) (sym is) ∙ sym (is_lab.sees.channels from me) ∙ ap (map (thing_of session setup)) e);
  }

-- what an actor of the laboratory takes
pub takes_welcome : {C : Type 0} (session : C → SessionValue) (setup : Setup) (lab : worlds.DeedWorld OwnPart (Item C)) (w : World)
    → NothingIsDropped setup w → IsLab session setup lab w → (deed : Deed (Item C)) (x : ActorName)
    → actor_at setup deed.entry.actor ≡ Some x → (rest : ℕ → ℕ → List (Item C)) → ((a b : ℕ) → lab.channel a b ≡ takes_on deed a b ++ rest a b)
    → TakesWelcome session (record { setup = setup; name = x; part = part_of w x }) deed.taken
takes_welcome {C} session setup lab w nothing is_lab deed x is rest takes = by_taken deed.taken refl where
  by_taken : (t : Option (ℕ × Item C)) → deed.taken ≡ t → TakesWelcome session (record { setup = setup; name = x; part = part_of w x }) t
  by_taken None e = tt
  by_taken (Some (from, item)) e = head_welcome session setup lab w is_lab deed.entry.actor x is nothing from item (rest from deed.entry.actor)
      (takes from deed.entry.actor ∙ ap (λ (items : List (Item C)). items ++ rest from deed.entry.actor) (takes_here deed from item e))
