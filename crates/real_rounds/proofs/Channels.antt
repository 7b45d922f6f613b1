-- What is taken from a channel in two rounds.
use Rattle.std.proofs.Common.{◌≡◌, ◌≤◌, ◌+◌, ◌∙◌, ℕ, List, [], ◌∷◌, ◌==◌, length, map, Bool, true, false}
use Rattle.std.proofs.Common.{if◌then◌else◌, refl, ap, sym, subst, inl, inr, arith, length-append}
use Rattle.std.specs.Prelude.{◌⊎◌, Option, Some, None, min}
use Rattle.std.specs.List.{AllByRecursion, count_by}
use Rattle.std.proofs.lemmas.Bool.Decides.{eqb_tells}
use Rattle.std.proofs.lemmas.List.{length-map}
use Rattle.std.proofs.lemmas.List.Sums.{sum_by-cons}
use Rattle.ring_net.specs.declared.entry.JournalEntry.{JournalEntry}
use Rattle.ring_net.specs.declared.entry.Stamped.{Stamped}
use Rattle.ring_net.specs.Deeds.{Noted, Replay, deeds, entries_of, from_option, gets, taken_from}
use Rattle.ring_net.specs.Phases.{View}
use Rattle.graft_model.specs.Setups.{Setup}
use Rattle.graft_model.specs.Parts.{World}
use Rattle.graft_actors.specs.Actors.{Thing, ActorName, number_in, IsActor, actor_at}
use Rattle.graft_actors.specs.Seen.{channel_of}
use Rattle.graft_actors.proofs.Numbers.{there, once, same_itself, same_tells, some_same}
use Rattle.graft_actors.specs.Items.{thing_of}
use Rattle.graft_actors.specs.Acts.{OwnPart, acts}
use Rattle.bgp_session.specs.Running.{carried}
use Rattle.world_runs.specs.Runs.{IsSeenAs}
use Rattle.world_nodes.specs.Edges.{has_channel, talks}
use Rattle.world_nodes.specs.Nodes.{Mail, own}
use Rattle.world_nodes.specs.declared.node.Node.{Node}
use Rattle.real_rounds.specs.Entries as entries
use Rattle.real_rounds.specs.Entries.{is_same_name, sender_of}
use Rattle.real_rounds.proofs.RouterDeeds.{IsKept}
use Rattle.real_rounds.proofs.Senders.{IsSentBy, act_sent}
use Rattle.world_nodes.proofs.Seen.{silent}

-- ---- one event

-- whether it took an item from this actor
same_test : (setup : Setup) (x name : ActorName) (from : ℕ) → IsActor setup x → actor_at setup from ≡ Some name
    → (from == number_in setup x) ≡ is_same_name x (Some name)
same_test setup x name from known is = elim (eqb_tells from (number_in setup x)) [
  | inl e ↦ e.0
      ∙ sym (ap (λ (y : ActorName). is_same_name x (Some y)) (some_same name x (sym is ∙ ap (actor_at setup) e.1 ∙ there setup x known)) ∙ same_itself x)
  | inr ne ↦ ne.0 ∙ sym (not_it (is_same_name x (Some name)) refl ne.1)
]
  where
    not_it : (b : Bool) → is_same_name x (Some name) ≡ b → (from ≡ number_in setup x → ⊥) → is_same_name x (Some name) ≡ false
    not_it false e apart = e
    not_it true e apart =
        absurd (apart (once setup from (number_in setup x) x (is ∙ ap (λ (y : ActorName). Some y) (sym (same_tells x name e))) (there setup x known)))

one_taken : (setup : Setup) (x : ActorName) (entry : JournalEntry) (stamp : ℕ) (taken : Option (ℕ × Mail)) → IsActor setup x → IsSentBy setup entry taken
    → length (from_option (number_in setup x) stamp taken) ≡ (if is_same_name x (sender_of entry) then 1 else 0)
one_taken setup x entry stamp None known sent = ap (λ (b : Bool). if b then 1 else 0) (sym (ap (λ (o : Option ActorName). is_same_name x o) sent))
one_taken setup x entry stamp (Some t) known (name, sender, is) =
    by_flag (t.0 == number_in setup x) (record { stamp = record { 0 = stamp }; item = t.1 })
    ∙ ap (λ (b : Bool). if b then 1 else 0) (same_test setup x name t.0 known is ∙ sym (ap (λ (o : Option ActorName). is_same_name x o) sender))
  where
    by_flag : (b : Bool) (item : Stamped Mail) → length (if b then item ∷ [] else []) ≡ (if b then 1 else 0)
    by_flag true item = refl
    by_flag false item = refl

-- ---- the notes of an actor

pub count_cons : {A : Type 0} (test : A → Bool) (x : A) (xs : List A) → count_by test (x ∷ xs) ≡ (if test x then 1 else 0) + count_by test xs
count_cons test x xs = sum_by-cons (λ y. if test y then 1 else 0) x xs

pub taken_are : (setup : Setup) (x : ActorName) (n : ℕ) (p q : OwnPart) (notes : List (Noted Mail)) → IsActor setup x → p.setup ≡ setup
    → Replay (acts carried) n p (deeds notes) q → AllByRecursion IsKept (deeds notes)
    → length (taken_from (number_in setup x) notes) ≡ entries.count_taken_from x (entries_of notes)
taken_are setup x n p q [] known of replay kept = refl
taken_are setup x n p q (note ∷ notes) known of replay kept =
    length-append (gets (number_in setup x) note) (taken_from (number_in setup x) notes)
    ∙ (λ i. one_taken setup x note.deed.entry note.stamp note.deed.taken known
    (subst (λ (s : Setup). IsSentBy s note.deed.entry note.deed.taken) of
    (act_sent p replay.0 note.deed.entry note.deed.taken note.deed.sent replay.1 kept.0)) i
    + taken_are setup x n replay.0 q notes known (replay.1.setup ∙ of) replay.2 kept.1 i)
    ∙ sym (count_cons (λ entry. is_same_name x (sender_of entry)) note.deed.entry (entries_of notes))

-- ---- what a channel of the world holds

-- a channel of the world is empty, or as long as the net's
pub channel_is : (setup : Setup) (v : View Node Mail) (w : World) → IsSeenAs own carried setup v w → ((a b : ℕ) → v.edge a b ≡ has_channel setup a b)
    → ((r : ℕ) → w.mesh r r ≡ []) → (x y : ActorName) → IsActor setup x → IsActor setup y
    → (length (channel_of w (Some x) (Some y)) ≡ 0) ⊎ ((v.edge (number_in setup x) (number_in setup y) ≡ true)
    × (length (v.channel (number_in setup x) (number_in setup y)) ≡ length (channel_of w (Some x) (Some y))))
channel_is setup v w seen edges itself x y x_known y_known = by_edge (talks (Some x) (Some y)) refl
  where
    named : has_channel setup (number_in setup x) (number_in setup y) ≡ talks (Some x) (Some y)
    named = λ i. talks (there setup x x_known i) (there setup y y_known i)

    by_edge : (t : Bool) → talks (Some x) (Some y) ≡ t
        → (length (channel_of w (Some x) (Some y)) ≡ 0) ⊎ ((v.edge (number_in setup x) (number_in setup y) ≡ true)
        × (length (v.channel (number_in setup x) (number_in setup y)) ≡ length (channel_of w (Some x) (Some y))))
    by_edge false e = inl (ap (λ (ts : List Thing). length ts) (silent w itself (Some x) (Some y) e))
    by_edge true e =
        let edge : v.edge (number_in setup x) (number_in setup y) ≡ true = edges (number_in setup x) (number_in setup y) ∙ named ∙ e in
        let is : map (thing_of carried setup) (map (λ (z : Stamped Mail). z.item) (v.channel (number_in setup x) (number_in setup y)))
        ≡ channel_of w (Some x) (Some y) =
        ap (λ items. map (thing_of carried setup) items) (sym (seen.is.channels (number_in setup x) (number_in setup y) edge))
        ∙ seen.sees.sees.channels (number_in setup x) (number_in setup y) ∙ (λ i. channel_of w (there setup x x_known i) (there setup y y_known i)) in
        inr (
          edge,
          sym (length-map (v.channel (number_in setup x) (number_in setup y)) (λ (z : Stamped Mail). z.item))
              ∙ sym (length-map (map (λ (z : Stamped Mail). z.item) (v.channel (number_in setup x) (number_in setup y))) (thing_of carried setup))
              ∙ ap (λ (ts : List Thing). length ts) is,
        )

-- of what is there before the first round, what the two take
pub drained : (had u s first second ring : ℕ) → had ≤ u → min 256 u ≤ first + ring → s ≡ ring → s ≤ second → min 256 had ≤ first + second
drained had u s first second ring le pushed same known = omega (arith, le, pushed, same, known)
