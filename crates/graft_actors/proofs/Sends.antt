-- What an actor of a net sends stands at the ends of the world's channels.
use Rattle.std.proofs.Common.{◌≡◌, ℕ, ◌==◌, Bool, true, false, List, [], ◌∷◌, ◌++◌, Some, map, refl, sym, ap, ◌∙◌, inl, inr, arith, append_assoc, append-nil}
use Rattle.std.specs.Prelude.{if◌then◌else◌, fold}
use Rattle.std.specs.List.{AllByRecursion}
use Rattle.std.proofs.lemmas.Bool.Decides.{nat_tests}
use Rattle.ring_net.specs.Deeds.{items_for}
use Rattle.graft_model.specs.Points.{at2}
use Rattle.graft_model.specs.Setups.{Setup}
use Rattle.graft_model.specs.Parts.{World}
use Rattle.graft_actors.specs.Actors.{Thing, ActorName, number_in, IsActor, actor_at}
use Rattle.graft_actors.specs.Makes.{numbered}
use Rattle.graft_actors.specs.Seen.{part_of, channel_of}
use Rattle.graft_actors.proofs.Numbers.{of_number, once, there}
use Rattle.graft_actors.proofs.Changes.{OneMore, at2-here, at2-else}
use Rattle.graft_actors.proofs.Takes.{AreChannels, both_or_not, same_places, none_stays}

-- the channels with what the actor of a number sends behind them
abbrev pub with_sent : (ℕ → ℕ → List Thing) → ℕ → List (ℕ × Thing) → ℕ → ℕ → List Thing
with_sent channel n sent a b = channel a b ++ (if a == n then items_for b sent else [])

none_sent : (xs : List Thing) (t : Bool) → xs ++ (if t then [] else []) ≡ xs
none_sent xs true = append-nil xs
none_sent xs false = append-nil xs

choose : {A : Type 0} (t : Bool) (x y : A) → t ≡ true → (if t then x else y) ≡ x
choose true x y e = refl
choose false x y e = absurd cc

grown_here : (channel : ℕ → ℕ → List Thing) (n m : ℕ) (thing : Thing) (items : List Thing)
    → channel n m ++ (if n == n then (if m == m then thing ∷ items else items) else [])
    ≡ at2 channel n m (channel n m ++ thing ∷ []) n m ++ (if n == n then items else [])
grown_here channel n m thing items =
    let e : (n == n) ≡ true = grind (arith, nat_tests) in
    let f : (m == m) ≡ true = grind (arith, nat_tests) in
    ap (λ xs. channel n m ++ xs) (choose (n == n) (if m == m then thing ∷ items else items) [] e ∙ choose (m == m) (thing ∷ items) items f)
    ∙ sym (append_assoc (channel n m) (thing ∷ []) items)
    ∙ sym (ap (λ xs. xs ++ items) (at2-here channel n m (channel n m ++ thing ∷ [])))
    ∙ ap (λ xs. at2 channel n m (channel n m ++ thing ∷ []) n m ++ xs) (sym (choose (n == n) items [] e))

grown_else : (channel : ℕ → ℕ → List Thing) (n m a b : ℕ) (thing : Thing) (items : List Thing) → ((a ≡ n) × (b ≡ m) → ⊥)
    → channel a b ++ (if a == n then (if m == b then thing ∷ items else items) else [])
    ≡ at2 channel n m (channel n m ++ thing ∷ []) a b ++ (if a == n then items else [])
grown_else channel n m a b thing items not =
    let e : (if a == n then (if m == b then thing ∷ items else items) else []) ≡ (if a == n then items else []) = grind (arith, nat_tests) in
    ap (λ xs. channel a b ++ xs) e ∙ ap (λ xs. xs ++ (if a == n then items else [])) (sym (at2-else channel n m (channel n m ++ thing ∷ []) a b not))

grown : (channel : ℕ → ℕ → List Thing) (n m a b : ℕ) (thing : Thing) (sent : List (ℕ × Thing))
    → with_sent channel n ((m, thing) ∷ sent) a b ≡ with_sent (at2 channel n m (channel n m ++ thing ∷ [])) n sent a b
grown channel n m a b thing sent = elim (both_or_not a b n m) [
  | inl h ↦ moved h.0 h.1
  | inr not ↦ grown_else channel n m a b thing (items_for b sent) not
]
  where
    moved : a ≡ n → b ≡ m → with_sent channel n ((m, thing) ∷ sent) a b ≡ with_sent (at2 channel n m (channel n m ++ thing ∷ [])) n sent a b
    moved e f = ap (λ x. with_sent channel n ((m, thing) ∷ sent) x b) e ∙ ap (λ x. with_sent channel n ((m, thing) ∷ sent) n x) f
        ∙ grown_here channel n m thing (items_for m sent)
        ∙ sym (ap (λ x. with_sent (at2 channel n m (channel n m ++ thing ∷ [])) n sent n x) f)
        ∙ sym (ap (λ x. with_sent (at2 channel n m (channel n m ++ thing ∷ [])) n sent x b) e)

-- one item more is seen
added : (setup : Setup) (channel : ℕ → ℕ → List Thing) (w u : World) (n : ℕ) (me : ActorName) (x : ActorName × Thing) → actor_at setup n ≡ Some me
    → IsActor setup x.0 → AreChannels setup channel w → OneMore w u me x
    → AreChannels setup (at2 channel n (number_in setup x.0) (channel n (number_in setup x.0) ++ x.1 ∷ [])) u
added setup channel w u n me x is known seen one = record {
  each = each;
  none = none_stays setup w u me x.0 (channel_of w (Some me) (Some x.0) ++ x.1 ∷ []) one (of_number setup n me is).0 known seen.none;
}
  where
    to : actor_at setup (number_in setup x.0) ≡ Some x.0
    to = there setup x.0 known

    each : (a b : ℕ)
        → at2 channel n (number_in setup x.0) (channel n (number_in setup x.0) ++ x.1 ∷ []) a b ≡ channel_of u (actor_at setup a) (actor_at setup b)
    each a b = elim (both_or_not a b n (number_in setup x.0)) [
      | inl h ↦ ap (λ y. at2 channel n (number_in setup x.0) (channel n (number_in setup x.0) ++ x.1 ∷ []) y b) h.0
          ∙ ap (λ y. at2 channel n (number_in setup x.0) (channel n (number_in setup x.0) ++ x.1 ∷ []) n y) h.1
          ∙ at2-here channel n (number_in setup x.0) (channel n (number_in setup x.0) ++ x.1 ∷ [])
          ∙ ap (λ xs. xs ++ x.1 ∷ []) (seen.each n (number_in setup x.0) ∙ same_places w is to)
          ∙ sym one.here ∙ sym (same_places u (ap (actor_at setup) h.0 ∙ is) (ap (actor_at setup) h.1 ∙ to))
      | inr not ↦ at2-else channel n (number_in setup x.0) (channel n (number_in setup x.0) ++ x.1 ∷ []) a b not ∙ seen.each a b
          ∙ sym (one.others (actor_at setup a) (actor_at setup b) (λ h. not (once setup a n me h.0 is, once setup b (number_in setup x.0) x.0 h.1 to)))
    ]

-- a world to whose channels items were added
pub record Grown (setup : Setup) (channel : ℕ → ℕ → List Thing) (w u : World) : Type 0 where
  pub parts : (x : ActorName) → part_of u x ≡ part_of w x
  pub channels : AreChannels setup channel u

module _ (setup : Setup) (n : ℕ) (me : ActorName) (is : actor_at setup n ≡ Some me) {S : Type 0} (sends : World → S → World)
    (gives : S → ActorName × Thing) (one : (w : World) (s : S) → OneMore w (sends w s) me (gives s)) where
  pub all_sent : (gave : List S) (channel : ℕ → ℕ → List Thing) (w : World) → AllByRecursion (λ s. IsActor setup (gives s).0) gave → AreChannels setup channel w
      → Grown setup (with_sent channel n (map (λ s. numbered setup (gives s)) gave)) w (fold sends w gave)
  all_sent [] channel w known seen =
      record { parts = λ x. refl; channels = record { each = λ a b. none_sent (channel a b) (a == n) ∙ seen.each a b; none = seen.none } }
  all_sent (s ∷ gave) channel w known seen =
      let m : ℕ = number_in setup (gives s).0 in
      let more : ℕ → ℕ → List Thing = at2 channel n m (channel n m ++ (gives s).1 ∷ []) in
      let o : Grown setup (with_sent more n (map (λ s. numbered setup (gives s)) gave)) (sends w s) (fold sends (sends w s) gave) =
      all_sent gave more (sends w s) known.1 (added setup channel w (sends w s) n me (gives s) is known.0 seen (one w s)) in
      record {
        parts = λ x. o.parts x ∙ (one w s).parts x;
        channels = record {
          each = λ a b. grown channel n m a b (gives s).1 (map (λ s. numbered setup (gives s)) gave) ∙ o.channels.each a b;
          none = o.channels.none;
        };
      }
