-- Pieces of a call, one after another; and one event as a piece of a call.
use Rattle.std.proofs.Common.{◌≡◌, ℕ, List, [], ◌∷◌, ◌++◌, Option, Some, None, refl, ap, sym, subst, ◌∙◌, inl}
use Rattle.ring_net.specs.Deeds.{Replay, TakesNone}
use Rattle.ring_net.specs.Posts.{actor_of}
use Rattle.ring_net.specs.declared.post.Post.{Post}
use Rattle.ring_net.proofs.PostLaws.{wrote_none, wrote_then}
use Rattle.ring_net.proofs.Replays.{all-append, replay-append}
use Rattle.graft_steps.specs.declared.item.Item.{Item}
use Rattle.bgp_session.specs.Running.{RunningSession, carried}
use Rattle.graft_model.specs.Setups.{Setup}
use Rattle.graft_model.specs.Parts.{RouterPart}
use Rattle.graft_model.specs.RouterRows.{RouterSent}
use Rattle.graft_model.specs.Codes.{router_code}
use Rattle.graft_model.specs.declared.event.RouterEvent.{RouterEvent}
use Rattle.graft_model.specs.Steps.{router_row}
use Rattle.graft_actors.specs.Actors.{ActorName, Router, RouterIs, Thing, number_in, IsActor, actor_at}
use Rattle.graft_actors.specs.Makes.{HasCode, sent_by_router}
use Rattle.graft_actors.proofs.Numbers.{there}
use Rattle.graft_actors.specs.Acts.{acts}
use Rattle.graft_actors.specs.Emissions.{Tally}
use Rattle.graft_actors.specs.Items.{thing_of, MayGo}
use Rattle.graft_actors.specs.Notes.{deed_of}
use Rattle.router_core.specs.Parts.{router_part, own_part}
use Rattle.router_core.specs.Rounds.{CarefulRouter, router_tally, RouterRound, SameRouter, DidAsRouter, WritesEvent}
use Rattle.router_core.specs.declared.fields.Fields.{Fields}
use Rattle.graft_actors.proofs.Deeds.{are_deeds-append}

-- ---- what a router is

pub same_router : (f : Fields) → SameRouter f f
same_router f = record { setup = refl; number = refl }

pub router_then : (a b c : Fields) → SameRouter a b → SameRouter b c → SameRouter a c
router_then a b c x y = record { setup = y.setup ∙ x.setup; number = y.number ∙ x.number }

-- ---- events after events

pub rounds_append : (setup : Setup) (r : ℕ) (a b c : RouterPart) (t u w : ℕ → Tally) (es fs : List RouterEvent) → RouterRound setup r a t es b u
    → RouterRound setup r b u fs c w → RouterRound setup r a t (es ++ fs) c w
rounds_append setup r a b c t u w [] fs h k =
    subst (λ (x : RouterPart). RouterRound setup r x t fs c w) h.0 (subst (λ (x : ℕ → Tally). RouterRound setup r b x fs c w) h.1 k)
rounds_append setup r a b c t u w (e ∷ es) fs (taken, sent, m, row, careful, rest) k =
    (taken, sent, m, row, careful, rounds_append setup r m b c (router_tally a e t) u w es fs rest k)

-- the round of what another field set is the same router of
pub round_at : (a b : Fields) (t u : ℕ → Tally) (es : List RouterEvent) (before after : RouterPart) → SameRouter a b
    → RouterRound b.known.setup b.number.0 before t es after u → RouterRound a.known.setup a.number.0 before t es after u
round_at a b t u es before after same h =
    subst (λ (s : Setup). RouterRound s a.number.0 before t es after u) same.setup
    (subst (λ (n : ℕ). RouterRound b.known.setup n before t es after u) (ap (λ k. k.0) same.number) h)

-- nothing that the model sees changes
pub did_same : (f g : Fields) (p : Post (Item RunningSession)) (t : ℕ → Tally) → SameRouter f g → router_part g ≡ router_part f → DidAsRouter f p t [] g p t
did_same f g p t same part = record {
  router = same;
  deeds = [];
  wrote = wrote_none p;
  none = tt;
  coded = tt;
  replay = λ i. record { setup = same.setup i; name = Router (same.number i).0; part = RouterIs (part i) };
  round = (part, refl);
}

pub did_then : (a b c : Fields) (p q r : Post (Item RunningSession)) (t u w : ℕ → Tally) (es fs : List RouterEvent) → DidAsRouter a p t es b q u
    → DidAsRouter b q u fs c r w → DidAsRouter a p t (es ++ fs) c r w
did_then a b c p q r t u w es fs x y = record {
  router = router_then a b c x.router y.router;
  deeds = x.deeds ++ y.deeds;
  wrote = wrote_then p q r x.deeds y.deeds x.wrote y.wrote;
  none = all-append TakesNone x.deeds y.deeds x.none y.none;
  coded = are_deeds-append router_code es fs x.deeds y.deeds x.coded y.coded;
  replay = replay-append (acts carried) (actor_of p) (own_part a) (own_part b) (own_part c) x.deeds y.deeds x.replay
      (subst (λ (n : ℕ). Replay (acts carried) n (own_part b) y.deeds (own_part c)) x.wrote.actor y.replay);
  round = rounds_append a.known.setup a.number.0 (router_part a) (router_part b) (router_part c) t u w es fs x.round
      (round_at a b u w fs (router_part b) (router_part c) x.router y.round);
}

-- ---- one event

-- what is written of an event has its code
pub has_code : (p : Post (Item RunningSession)) (event : RouterEvent) (taken : Option (ℕ × Item RunningSession)) (sent : List (ℕ × Item RunningSession))
    → HasCode (router_code event) (deed_of p (router_code event) taken sent).entry
has_code p event taken sent = record { kind = refl; a = refl; b = refl; c = refl }

-- An event that takes nothing and sends nothing.
pub did_one : (f g : Fields) (p q : Post (Item RunningSession)) (t : ℕ → Tally) (event : RouterEvent) → SameRouter f g → WritesEvent p event [] q
    → router_row f.known.setup f.number.0 event (router_part f) None [] (router_part g) → CarefulRouter f.known.setup f.number.0 (router_part f) event
    → DidAsRouter f p t (event ∷ []) g q (router_tally (router_part f) event t)
did_one f g p q t event same wrote row careful = record {
  router = same;
  deeds = deed_of p (router_code event) None [] ∷ [];
  wrote = wrote None;
  none = (refl, tt);
  coded = (has_code p event None [], tt);
  replay = (
    own_part g,
    record {
      setup = same.setup;
      name = ap (λ k. Router k.0) same.number;
      does = inl (record {
        welcome = tt;
        row = record { event = event; coded = has_code p event None []; took = None; gave = []; holds = row; is_taken = refl; is_sent = refl; there = tt };
        fit = tt;
      });
    },
    refl,
  );
  round = (None, [], router_part g, row, careful, (refl, refl));
}

-- An item stands for what a row sends, and may go to this actor.
pub record Sends (f : Fields) (to : ℕ) (item : Item RunningSession) (sent : RouterSent) : Type 0 where
  pub name : ActorName
  pub known : IsActor f.known.setup name
  pub number : to ≡ number_in f.known.setup name
  pub thing : sent_by_router sent ≡ (name, thing_of carried f.known.setup item)
  pub may : MayGo carried f.known.setup (Router f.number.0) name item

pub sends_name : (f : Fields) (to : ℕ) (item : Item RunningSession) (sent : RouterSent) → Sends f to item sent → IsActor f.known.setup (sent_by_router sent).0
sends_name f to item sent s = subst (λ (x : ActorName × Thing). IsActor f.known.setup x.0) (sym s.thing) s.known

pub sends_at : (f : Fields) (to : ℕ) (item : Item RunningSession) (sent : RouterSent) (s : Sends f to item sent) → actor_at f.known.setup to ≡ Some s.name
sends_at f to item sent s = ap (actor_at f.known.setup) s.number ∙ there f.known.setup s.name s.known

pub sends_is : (f : Fields) (to : ℕ) (item : Item RunningSession) (sent : RouterSent) → Sends f to item sent
    → ◌≡◌ {A = ℕ × Thing} (to, thing_of carried f.known.setup item) (number_in f.known.setup (sent_by_router sent).0, (sent_by_router sent).1)
sends_is f to item sent s = λ i. (
  (s.number ∙ sym (ap (λ (x : ActorName × Thing). number_in f.known.setup x.0) s.thing)) i,
  sym (ap (λ (x : ActorName × Thing). x.1) s.thing) i,
)

-- An event that takes nothing and sends one item.
pub did_sent : (f g : Fields) (p q : Post (Item RunningSession)) (t : ℕ → Tally) (event : RouterEvent) (to : ℕ) (item : Item RunningSession) (sent : RouterSent)
    → SameRouter f g → WritesEvent p event ((to, item) ∷ []) q
    → Sends f to item sent → router_row f.known.setup f.number.0 event (router_part f) None (sent ∷ []) (router_part g)
    → CarefulRouter f.known.setup f.number.0 (router_part f) event
    → DidAsRouter f p t (event ∷ []) g q (router_tally (router_part f) event t)
did_sent f g p q t event to item sent same wrote sends row careful = record {
  router = same;
  deeds = deed_of p (router_code event) None ((to, item) ∷ []) ∷ [];
  wrote = wrote None;
  none = (refl, tt);
  coded = (has_code p event None [], tt);
  replay = (
    own_part g,
    record {
      setup = same.setup;
      name = ap (λ k. Router k.0) same.number;
      does = inl (record {
        welcome = tt;
        row = record {
          event = event;
          coded = has_code p event None [];
          took = None;
          gave = sent ∷ [];
          holds = row;
          is_taken = refl;
          is_sent = ap (λ (x : ℕ × Thing). x ∷ []) (sends_is f to item sent sends);
          there = (sends_name f to item sent sends, tt);
        };
        fit = ((sends.name, sends_at f to item sent sends, sends.may), tt);
      });
    },
    refl,
  );
  round = (None, sent ∷ [], router_part g, row, careful, (refl, refl));
}
