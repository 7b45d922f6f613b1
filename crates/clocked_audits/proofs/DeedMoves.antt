-- What a deed takes and sends moves between the worlds before it and after.
use Rattle.std.proofs.Common.{◌≡◌, ◌≤◌, ◌<◌, ◌+◌, ◌-◌, ◌==◌, ◌&&◌, ℕ, Bool, true, false, if◌then◌else◌, List, [], ◌∷◌, length, map, refl, sym, ap, ◌∙◌}
use Rattle.std.proofs.Common.{subst, arith, inl, inr, Option, Some, None, option_map, length-append}
use Rattle.std.specs.Prelude.{◌⊎◌}
use Rattle.std.specs.Option.{option_to_list}
use Rattle.std.proofs.lemmas.Bool.{eq-eqb}
use Rattle.std.proofs.lemmas.Bool.Decides.{nat_tests}
use Rattle.std.proofs.lemmas.List.{length-map}
use Rattle.ring_net.specs.Deeds.{Deed, items_for}
use Rattle.journal_merge.specs.Worlds as worlds
use Rattle.journal_merge.specs.Worlds.{sends_on, taken_of, takes_on}
use Rattle.graft_steps.specs.declared.item.Item.{Item}
use Rattle.session_value.specs.Sessions.{SessionValue}
use Rattle.graft_model.specs.Setups.{Setup, peerings_in, routers_in}
use Rattle.graft_model.specs.Parts.{Mesh, World}
use Rattle.graft_actors.specs.Actors.{Thing, MeshItem, ActorName, Router, FarSide, Operator, IsActor, actor_at, number_in, same_name}
use Rattle.graft_actors.specs.Seen.{channel_of}
use Rattle.graft_actors.specs.Items.{thing_of}
use Rattle.graft_actors.specs.Acts.{OwnPart, acts}
use Rattle.graft_actors.proofs.Numbers.{of_number, same_tells, some_same, there}
use Rattle.world_runs.specs.Labs.{IsLab, actors_in}
use Rattle.audit_clocks.specs.Stamps.{is_named}
use Rattle.run_clocks.specs.Clocks.{on_way}
use Rattle.clocked_audits.specs.Timed.{AreKnown, is_it, named_number, one_if}
use Rattle.clocked_audits.specs.Laws.{DeedsMoveItems}
use Rattle.clocked_audits.proofs.Names.{both_ways, named_test, number_test}

-- ---- tests

turned : (m n : ℕ) → (m == n) ≡ (n == m)
turned m n = both_ways (m == n) (n == m) (λ e. grind (arith, nat_tests)) (λ e. grind (arith, nat_tests))

both_parts : (s t : Bool) → (s && t) ≡ true → (s ≡ true) × (t ≡ true)
both_parts true true e = (refl, refl)
both_parts true false e = (refl, e)
both_parts false t e = (e, absurd (let no : false ≡ true = e in cc))

if_behind : {X : Type 0} (t f : Bool) (xs : List X) → length xs ≡ one_if f → length (let ys : List X = if t then xs else [] in ys) ≡ one_if (f && t)
if_behind true true xs e = e
if_behind true false xs e = e
if_behind false true xs e = refl
if_behind false false xs e = refl

if_before : {X : Type 0} (t f : Bool) (xs : List X) → length xs ≡ one_if f → length (let ys : List X = if t then xs else [] in ys) ≡ one_if (t && f)
if_before true f xs e = e
if_before false f xs e = refl

one_or_none : {X : Type 0} (t : Bool) (x : X) → length (let ys : List X = if t then x ∷ [] else [] in ys) ≡ one_if t
one_or_none true x = refl
one_or_none false x = refl

known_or_not : (setup : Setup) (x : ActorName) → IsActor setup x ⊎ (IsActor setup x → ⊥)
known_or_not setup (Router r) = below_or_not r _ where
  below_or_not : (m n : ℕ) → (m < n) ⊎ (m < n → ⊥)
  below_or_not m n = grind arith
known_or_not setup (FarSide p) = below_or_not p _ where
  below_or_not : (m n : ℕ) → (m < n) ⊎ (m < n → ⊥)
  below_or_not m n = grind arith
known_or_not setup Operator = inl tt

it_known : (setup : Setup) (name : Option ActorName) (x : ActorName) → ((y : ActorName) → name ≡ Some y → IsActor setup y) → is_it name x ≡ true
    → IsActor setup x
it_known setup None x known e = absurd (let no : false ≡ true = e in cc)
it_known setup (Some y) x known e = subst (λ (z : ActorName). IsActor setup z) (sym (same_tells x y e)) (known y refl)

-- ---- what is taken and sent, in number

module _ {I : Type 0} where
  taken_many : (taken : Option (ℕ × I)) (a : ℕ) → length (taken_of a taken) ≡ one_if (is_named (option_map (λ (t : ℕ × I). t.0) taken) a)
  taken_many None a = refl
  taken_many (Some t) a = one_or_none (t.0 == a) t.1 ∙ ap one_if (turned t.0 a)

  sent_many : (sent : List (ℕ × I)) (to : Option ℕ) (b : ℕ) → map (λ (s : ℕ × I). s.0) sent ≡ option_to_list to
      → length (items_for b sent) ≡ one_if (is_named to b)
  sent_many [] None b e = refl
  sent_many [] (Some n) b e = absurd cc
  sent_many (s ∷ []) None b e = absurd cc
  sent_many (s ∷ []) (Some n) b e =
      let same : s.0 ≡ n = cc in
      one_or_none (s.0 == b) s.1 ∙ ap one_if (turned s.0 b ∙ ap (λ (m : ℕ). b == m) same)
  sent_many (s ∷ t ∷ rest) None b e = absurd cc
  sent_many (s ∷ t ∷ rest) (Some n) b e = absurd cc

module _ {C : Type 0} (session : C → SessionValue) (setup : Setup) where
  seen_many : (lab : worlds.DeedWorld OwnPart (Item C)) (w : World) (x y : ActorName) → IsLab session setup lab w → IsActor setup x → IsActor setup y
      → on_way w x y ≡ length (lab.channel (number_in setup x) (number_in setup y))
  seen_many lab w x y is_lab x_known y_known = (λ i. length (channel_of w (sym (there setup x x_known) i) (sym (there setup y y_known) i)))
      ∙ ap (λ (ts : List Thing). length ts) (sym (is_lab.sees.channels (number_in setup x) (number_in setup y)))
      ∙ length-map (lab.channel (number_in setup x) (number_in setup y)) (thing_of session setup)

  seen_none : (lab : worlds.DeedWorld OwnPart (Item C)) (w : World) (x y : ActorName) → IsLab session setup lab w → (IsActor setup x → IsActor setup y → ⊥)
      → on_way w x y ≡ 0
  seen_none lab w x y is_lab unknown = ap (λ (ts : List Thing). length ts) (is_lab.sees.within.channels x y unknown)

  module _ (lab next : worlds.DeedWorld OwnPart (Item C)) (deed : Deed (Item C)) (w u : World) (maker : ActorName) (from to : Option ActorName)
      (before : IsLab session setup lab w) (after : IsLab session setup next u) (made : worlds.DeedStep (acts session) lab deed next)
      (is : actor_at setup deed.entry.actor ≡ Some maker)
      (from_known : (x : ActorName) → from ≡ Some x → IsActor setup x) (took : option_map (λ (t : ℕ × Item C). t.0) deed.taken ≡ named_number setup from)
      (to_known : (x : ActorName) → to ≡ Some x → IsActor setup x)
      (gave : map (λ (s : ℕ × Item C). s.0) deed.sent ≡ option_to_list (named_number setup to)) where
    own : IsActor setup maker × (deed.entry.actor ≡ number_in setup maker)
    own = of_number setup deed.entry.actor maker is

    own_test : (x : ActorName) → IsActor setup x → (number_in setup x == deed.entry.actor) ≡ same_name x maker
    own_test x known = ap (λ (n : ℕ). number_in setup x == n) own.1 ∙ number_test setup x maker known own.0

    takes_many : (x y : ActorName) → IsActor setup x → IsActor setup y
        → length (takes_on deed (number_in setup x) (number_in setup y)) ≡ one_if (is_it from x && same_name y maker)
    takes_many x y x_known y_known =
        if_behind (number_in setup y == deed.entry.actor) (is_it from x) (taken_of (number_in setup x) deed.taken)
        (taken_many deed.taken (number_in setup x)
        ∙ ap (λ (o : Option ℕ). one_if (is_named o (number_in setup x))) took ∙ ap one_if (named_test setup from x from_known x_known))
        ∙ ap (λ (t : Bool). one_if (is_it from x && t)) (own_test y y_known)

    sends_many : (x y : ActorName) → IsActor setup x → IsActor setup y
        → length (sends_on deed (number_in setup x) (number_in setup y)) ≡ one_if (same_name x maker && is_it to y)
    sends_many x y x_known y_known =
        if_before (number_in setup x == deed.entry.actor) (is_it to y) (items_for (number_in setup y) deed.sent)
        (sent_many deed.sent (named_number setup to) (number_in setup y) gave ∙ ap one_if (named_test setup to y to_known y_known))
        ∙ ap (λ (t : Bool). one_if (t && is_it to y)) (own_test x x_known)

    -- nothing moves where one of the two is no actor
    takes_none : (x y : ActorName) → (IsActor setup x → IsActor setup y → ⊥) → one_if (is_it from x && same_name y maker) ≡ 0
    takes_none x y unknown = by_test (is_it from x && same_name y maker) refl where
      by_test : (t : Bool) → (is_it from x && same_name y maker) ≡ t → one_if t ≡ 0
      by_test true e =
          let parts = both_parts (is_it from x) (same_name y maker) e in
          absurd (unknown (it_known setup from x from_known parts.0)
          (subst (λ (z : ActorName). IsActor setup z) (sym (same_tells y maker parts.1)) own.0))
      by_test false e = refl

    sends_none : (x y : ActorName) → (IsActor setup x → IsActor setup y → ⊥) → one_if (same_name x maker && is_it to y) ≡ 0
    sends_none x y unknown = by_test (same_name x maker && is_it to y) refl where
      by_test : (t : Bool) → (same_name x maker && is_it to y) ≡ t → one_if t ≡ 0
      by_test true e =
          let parts = both_parts (same_name x maker) (is_it to y) e in
          absurd (unknown (subst (λ (z : ActorName). IsActor setup z) (sym (same_tells x maker parts.0)) own.0)
          (it_known setup to y to_known parts.1))
      by_test false e = refl

    abbrev Moves : ActorName → ActorName → Type 0
    Moves x y = (on_way u x y + one_if (is_it from x && same_name y maker) ≡ on_way w x y + one_if (same_name x maker && is_it to y))
        × (one_if (is_it from x && same_name y maker) ≤ on_way w x y)

    by_known : (x y : ActorName) → IsActor setup x → IsActor setup y → Moves x y
    by_known x y x_known y_known =
        let a = number_in setup x in
        let b = number_in setup y in
        let was = seen_many lab w x y before x_known y_known in
        let now = seen_many next u x y after x_known y_known in
        let taken = takes_many x y x_known y_known in
        let sent = sends_many x y x_known y_known in
        let old : length (lab.channel a b) ≡ length (takes_on deed a b) + length (made.rest a b) = ap (λ (xs : List (Item C)). length xs) (made.takes a b)
        ∙ length-append (takes_on deed a b) (made.rest a b) in
        let new : length (next.channel a b) ≡ length (made.rest a b) + length (sends_on deed a b) = ap (λ (xs : List (Item C)). length xs) (made.sends a b)
        ∙ length-append (made.rest a b) (sends_on deed a b) in
        (omega (arith, was, now, taken, sent, old, new), omega (arith, was, taken, old))

    by_unknown : (x y : ActorName) → (IsActor setup x → IsActor setup y → ⊥) → Moves x y
    by_unknown x y unknown =
        let was = seen_none lab w x y before unknown in
        let now = seen_none next u x y after unknown in
        let taken = takes_none x y unknown in
        let sent = sends_none x y unknown in
        (omega (arith, was, now, taken, sent), omega (arith, was, taken))

    both : (x y : ActorName) → Moves x y
    both x y = elim (known_or_not setup x) [
      | inl x_known ↦ elim (known_or_not setup y) [ inl y_known ↦ by_known x y x_known y_known | inr none ↦ by_unknown x y (λ x_is y_is. none y_is) ]
      | inr none ↦ by_unknown x y (λ x_is y_is. none x_is)
    ]

-- ---- numbers and names

-- the number is that of an actor, if there is one
record IsNamed (setup : Setup) (number : Option ℕ) : Type 0 where
  name : Option ActorName
  known : AreKnown setup name
  is : named_number setup name ≡ number

name_below : (setup : Setup) (n : ℕ) → n < actors_in setup → (x : ActorName) × IsActor setup x × (number_in setup x ≡ n)
name_below setup n below = elim (below_or_past n (routers_in setup)) [
  | inl router ↦ (Router n, router, refl)
  | inr past ↦ elim (below_or_past n (routers_in setup + peerings_in setup)) [
    | inl far ↦ (FarSide (n - routers_in setup), omega (arith, past, far), omega (arith, past))
    | inr last ↦ (Operator, tt, omega (arith, below, last))
  ]
]
  where
    below_or_past : (m n : ℕ) → (m < n) ⊎ (n ≤ m)
    below_or_past m n = grind arith

named_one : (setup : Setup) (x : ActorName) (n : ℕ) → IsActor setup x → number_in setup x ≡ n → IsNamed setup (Some n)
named_one setup x n known is = record {
  name = Some x;
  known = λ y e. subst (λ (z : ActorName). IsActor setup z) (some_same x y e) known;
  is = ap (λ (m : ℕ). Some m) is;
}

named_none : (setup : Setup) → IsNamed setup None
named_none setup = record { name = None; known = λ y e. absurd cc; is = refl }

named_below : (setup : Setup) (number : Option ℕ) → ((n : ℕ) → number ≡ Some n → n < actors_in setup) → IsNamed setup number
named_below setup None below = named_none setup
named_below setup (Some n) below = let x = name_below setup n (below n refl) in named_one setup x.0 n x.1 x.2

-- what is taken was an actor's
module _ {C : Type 0} (session : C → SessionValue) (setup : Setup) (lab next : worlds.DeedWorld OwnPart (Item C)) (deed : Deed (Item C)) (w : World)
    (before : IsLab session setup lab w) (made : worlds.DeedStep (acts session) lab deed next) where
  one_taken : (a : ℕ) (item : Item C) → deed.taken ≡ Some (a, item) → length (takes_on deed a deed.entry.actor) ≡ 1
  one_taken a item e = ap (λ (t : Bool). length (let xs : List (Item C) = if t then taken_of a deed.taken else [] in xs))
      (eq-eqb deed.entry.actor deed.entry.actor refl)
      ∙ taken_many deed.taken a ∙ ap (λ (o : Option (ℕ × Item C)). one_if (is_named (option_map (λ (t : ℕ × Item C). t.0) o) a)) e
      ∙ ap one_if (eq-eqb a a refl)

  none_there : (a : ℕ) → actor_at setup a ≡ None → length (lab.channel a deed.entry.actor) ≡ 0
  none_there a nobody = sym (length-map (lab.channel a deed.entry.actor) (thing_of session setup))
      ∙ ap (λ (ts : List Thing). length ts) (before.sees.channels a deed.entry.actor
      ∙ ap (λ (o : Option ActorName). channel_of w o (actor_at setup deed.entry.actor)) nobody)

  named_giver : (a : ℕ) (item : Item C) → deed.taken ≡ Some (a, item) → IsNamed setup (Some a)
  named_giver a item e = by_name (actor_at setup a) refl where
    by_name : (o : Option ActorName) → actor_at setup a ≡ o → IsNamed setup (Some a)
    by_name None nobody =
        let old : length (lab.channel a deed.entry.actor) ≡ length (takes_on deed a deed.entry.actor) + length (made.rest a deed.entry.actor) =
        ap (λ (xs : List (Item C)). length xs) (made.takes a deed.entry.actor) ∙ length-append (takes_on deed a deed.entry.actor) (made.rest a deed.entry.actor) in
        absurd (omega (arith, old, one_taken a item e, none_there a nobody))
    by_name (Some x) h = let is = of_number setup a x h in named_one setup x a is.0 (sym is.1)

  named_sender : (taken : Option (ℕ × Item C)) → deed.taken ≡ taken → IsNamed setup (option_map (λ (t : ℕ × Item C). t.0) taken)
  named_sender None e = named_none setup
  named_sender (Some t) e = named_giver t.0 t.1 e

-- nobody has a channel to itself
to_itself : (w : World) → ((r : ℕ) → w.mesh r r ≡ []) → (x : ActorName) → on_way w x x ≡ 0
to_itself w none (Router r) = ap (λ (items : List Mesh). length (map MeshItem items)) (none r)
to_itself w none (FarSide p) = refl
to_itself w none Operator = refl

pub deeds_move : {C : Type 0} (session : C → SessionValue) → DeedsMoveItems session
deeds_move session setup lab next deed w u maker to before after made is none_before none_after gave below =
    let sender = named_sender session setup lab next deed w before made deed.taken refl in
    let receiver = named_below setup to below in
    let all = both session setup lab next deed w u maker sender.name receiver.name before after made is sender.known (sym sender.is) receiver.known
    (gave ∙ ap (λ (o : Option ℕ). option_to_list o) (sym receiver.is)) in
    record {
      sender = sender.name;
      receiver = receiver.name;
      sender_is = sender.is;
      receiver_is = receiver.is;
      named = record {
        maker_known = (of_number setup deed.entry.actor maker is).0;
        from_known = sender.known;
        to_known = receiver.known;
        moves = λ x y. (all x y).0;
        some = λ x y. (all x y).1;
        none_before = to_itself w none_before maker;
        none_after = to_itself u none_after maker;
      };
    }
