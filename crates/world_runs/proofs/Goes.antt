-- What is on its way in a laboratory may go there.
use Rattle.std.proofs.Common.{◌≡◌, ◌≢◌, ℕ, List, [], ◌∷◌, ◌++◌, Option, Some, None, refl, sym, ap, ◌∙◌, subst, inl, inr, arith}
use Rattle.std.proofs.lemmas.Bool.Decides.{nat_tests}
use Rattle.ring_net.specs.Deeds.{Deed, items_for}
use Rattle.journal_merge.specs.Worlds.{sends_on}
use Rattle.journal_merge.proofs.Orders.{equal_or_not}
use Rattle.graft_steps.specs.declared.item.Item.{Item}
use Rattle.session_value.specs.Sessions.{SessionValue}
use Rattle.graft_model.specs.Setups.{Setup}
use Rattle.graft_laws.proofs.Lists.{all_back, all_join}
use Rattle.graft_actors.specs.Actors.{ActorPart, ActorName, actor_at}
use Rattle.graft_actors.specs.Items.{MayGo}
use Rattle.graft_actors.specs.Acts.{SendsFit}
use Rattle.world_runs.specs.Labs.{AllMayGo}

none_behind : {A : Type 0} (xs ys : List A) → xs ++ ys ≡ [] → ys ≡ []
none_behind [] ys e = e
none_behind (x ∷ xs) ys e = absurd cc

items_here : {I : Type 0} (b : ℕ) (x : ℕ × I) (sent : List (ℕ × I)) → x.0 ≡ b → items_for b (x ∷ sent) ≡ x.1 ∷ items_for b sent
items_here b x sent e = grind (arith, nat_tests)

items_else : {I : Type 0} (b : ℕ) (x : ℕ × I) (sent : List (ℕ × I)) → x.0 ≢ b → items_for b (x ∷ sent) ≡ items_for b sent
items_else b x sent e = grind (arith, nat_tests)

sends_here : {I : Type 0} (deed : Deed I) (b : ℕ) → sends_on deed deed.entry.actor b ≡ items_for b deed.sent
sends_here deed b = grind (arith, nat_tests)

sends_else : {I : Type 0} (deed : Deed I) (a b : ℕ) → a ≢ deed.entry.actor → sends_on deed a b ≡ []
sends_else deed a b e = grind (arith, nat_tests)

module _ {C : Type 0} (session : C → SessionValue) (setup : Setup) where
  pub nothing_goes : (o q : Option ActorName) → AllMayGo session setup o q []
  nothing_goes (Some from) (Some to) = tt
  nothing_goes o q = refl

  goes_back : (o q : Option ActorName) (xs ys : List (Item C)) → AllMayGo session setup o q (xs ++ ys) → AllMayGo session setup o q ys
  goes_back (Some from) (Some to) xs ys goes = all_back (MayGo session setup from to) xs ys goes
  goes_back o q xs ys goes = none_behind xs ys goes

  goes_join : (o q : Option ActorName) (xs ys : List (Item C)) → AllMayGo session setup o q xs → AllMayGo session setup o q ys
      → AllMayGo session setup o q (xs ++ ys)
  goes_join (Some from) (Some to) xs ys first second = all_join (MayGo session setup from to) xs ys first second
  goes_join o q xs ys first second = ap (λ (items : List (Item C)). items ++ ys) first ∙ second

  goes_more : (from to : ActorName) (q : Option ActorName) (item : Item C) (items : List (Item C)) → q ≡ Some to → MayGo session setup from to item
      → AllMayGo session setup (Some from) q items
      → AllMayGo session setup (Some from) q (item ∷ items)
  goes_more from to None item items e may goes = absurd cc
  goes_more from to (Some other) item items e may goes =
      let same : to ≡ other = cc in (subst (λ (name : ActorName). MayGo session setup from name item) same may, goes)

  sent_goes : (name : ActorName) (part : ActorPart) (b : ℕ) (sent : List (ℕ × Item C))
      → SendsFit session (record { setup = setup; name = name; part = part }) sent
      → AllMayGo session setup (Some name) (actor_at setup b) (items_for b sent)
  sent_goes name part b [] fit = nothing_goes (Some name) (actor_at setup b)
  sent_goes name part b (x ∷ sent) fit = elim (equal_or_not x.0 b) [
    | inl e ↦ subst (AllMayGo session setup (Some name) (actor_at setup b)) (sym (items_here b x sent e))
        (goes_more name fit.0.0 (actor_at setup b) x.1 (items_for b sent) (ap (actor_at setup) (sym e) ∙ fit.0.1) fit.0.2 (sent_goes name part b sent fit.1))
    | inr ne ↦ subst (AllMayGo session setup (Some name) (actor_at setup b)) (sym (items_else b x sent ne)) (sent_goes name part b sent fit.1)
  ]

  module _ (deed : Deed (Item C)) (name : ActorName) (part : ActorPart) (is : actor_at setup deed.entry.actor ≡ Some name)
      (fit : SendsFit session (record { setup = setup; name = name; part = part }) deed.sent) where
    deed_goes : (a b : ℕ) → AllMayGo session setup (actor_at setup a) (actor_at setup b) (sends_on deed a b)
    deed_goes a b = elim (equal_or_not a deed.entry.actor) [
      | inl e ↦ subst (λ (n : ℕ). AllMayGo session setup (actor_at setup n) (actor_at setup b) (sends_on deed n b)) (sym e)
          (subst (λ (o : Option ActorName). AllMayGo session setup o (actor_at setup b) (sends_on deed deed.entry.actor b)) (sym is)
          (subst (AllMayGo session setup (Some name) (actor_at setup b)) (sym (sends_here deed b)) (sent_goes name part b deed.sent fit)))
      | inr ne ↦ subst (AllMayGo session setup (actor_at setup a) (actor_at setup b))
          (sym (sends_else deed a b ne)) (nothing_goes (actor_at setup a) (actor_at setup b))
    ]

    -- what is on its way after the deed may go there
    pub after_goes : (a b : ℕ) (taken was rest now : List (Item C)) → was ≡ taken ++ rest → now ≡ rest ++ sends_on deed a b
        → AllMayGo session setup (actor_at setup a) (actor_at setup b) was
        → AllMayGo session setup (actor_at setup a) (actor_at setup b) now
    after_goes a b taken was rest now before after goes = subst (AllMayGo session setup (actor_at setup a) (actor_at setup b)) (sym after)
        (goes_join (actor_at setup a) (actor_at setup b) rest (sends_on deed a b)
        (goes_back (actor_at setup a) (actor_at setup b) taken rest (subst (AllMayGo session setup (actor_at setup a) (actor_at setup b)) before goes))
        (deed_goes a b))
