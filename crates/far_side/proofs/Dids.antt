-- Pieces of a turn, one after another.
use Rattle.std.proofs.Common.{◌≡◌, ℕ, List, [], ◌∷◌, ◌++◌, None, refl, ap, subst, ◌∙◌, inl}
use Rattle.ring_net.specs.Deeds.{Replay, TakesNone}
use Rattle.ring_net.specs.Posts.{actor_of}
use Rattle.ring_net.specs.declared.post.Post.{Post}
use Rattle.ring_net.proofs.PostLaws.{wrote_none, wrote_then}
use Rattle.ring_net.proofs.Replays.{all-append, replay-append}
use Rattle.graft_steps.specs.declared.item.Item.{Item}
use Rattle.session_value.specs.Sessions.{SessionValue}
use Rattle.graft_model.specs.Setups.{Setup}
use Rattle.graft_model.specs.Parts.{FarPart}
use Rattle.graft_model.specs.Codes.{far_code}
use Rattle.graft_model.specs.declared.event.FarEvent.{FarEvent}
use Rattle.graft_model.specs.Steps.{far_row}
use Rattle.graft_actors.specs.Actors.{FarSide, FarIs}
use Rattle.graft_actors.specs.Acts.{acts}
use Rattle.graft_actors.specs.Emissions.{Tally}
use Rattle.graft_actors.specs.Notes.{deed_of, WroteOne}
use Rattle.far_side.specs.Parts.{far_part, own_part}
use Rattle.far_side.specs.Turns.{CarefulFar, far_tally, FarRound, DidAsFar}
use Rattle.far_side.specs.declared.fields.Fields.{Fields}
use Rattle.graft_actors.proofs.Deeds.{are_deeds-append}

rounds_append : (setup : Setup) (p : ℕ) (a b c : FarPart) (t u w : Tally) (es fs : List FarEvent) → FarRound setup p a t es b u
    → FarRound setup p b u fs c w → FarRound setup p a t (es ++ fs) c w
rounds_append setup p a b c t u w [] fs h k =
    subst (λ (x : FarPart). FarRound setup p x t fs c w) h.0 (subst (λ (x : Tally). FarRound setup p b x fs c w) h.1 k)
rounds_append setup p a b c t u w (e ∷ es) fs (taken, sent, m, row, careful, rest) k =
    (taken, sent, m, row, careful, rounds_append setup p m b c (far_tally a e t) u w es fs rest k)

module _ {C : Type 0} (session : C → SessionValue) where
  -- nothing that the model sees changes
  pub did_same : (f g : Fields) (p : Post (Item C)) (t : Tally) → g.known.setup ≡ f.known.setup → g.peering ≡ f.peering → far_part g ≡ far_part f
      → DidAsFar session f p t [] g p t
  did_same f g p t setup peering part = record {
    setup = setup;
    peering = peering;
    deeds = [];
    wrote = wrote_none p;
    none = tt;
    coded = tt;
    replay = λ i. record { setup = setup i; name = FarSide (peering i).0; part = FarIs (part i) };
    round = (part, refl);
  }

  pub did_then : (a b c : Fields) (p q r : Post (Item C)) (t u w : Tally) (es fs : List FarEvent) → DidAsFar session a p t es b q u
      → DidAsFar session b q u fs c r w → DidAsFar session a p t (es ++ fs) c r w
  did_then a b c p q r t u w es fs x y = record {
    setup = y.setup ∙ x.setup;
    peering = y.peering ∙ x.peering;
    deeds = x.deeds ++ y.deeds;
    wrote = wrote_then p q r x.deeds y.deeds x.wrote y.wrote;
    none = all-append TakesNone x.deeds y.deeds x.none y.none;
    coded = are_deeds-append far_code es fs x.deeds y.deeds x.coded y.coded;
    replay = replay-append (acts session) (actor_of p) (own_part a) (own_part b) (own_part c) x.deeds y.deeds x.replay
        (subst (λ (n : ℕ). Replay (acts session) n (own_part b) y.deeds (own_part c)) x.wrote.actor y.replay);
    round = rounds_append a.known.setup a.peering.0 (far_part a) (far_part b) (far_part c) t u w es fs x.round
        (subst (λ (s : Setup). FarRound s a.peering.0 (far_part b) u fs (far_part c) w) x.setup
        (subst (λ (n : ℕ). FarRound b.known.setup n (far_part b) u fs (far_part c) w) (ap (λ k. k.0) x.peering) y.round));
  }

  -- one event that takes and sends nothing
  pub did_one : (f g : Fields) (p q : Post (Item C)) (t : Tally) (event : FarEvent) → g.known.setup ≡ f.known.setup → g.peering ≡ f.peering
      → WroteOne p (far_code event) [] q
      → far_row f.known.setup f.peering.0 event (far_part f) None [] (far_part g) → CarefulFar (far_part f) event
      → DidAsFar session f p t (event ∷ []) g q (far_tally (far_part f) event t)
  did_one f g p q t event setup peering wrote row careful = record {
    setup = setup;
    peering = peering;
    deeds = deed_of p (far_code event) None [] ∷ [];
    wrote = wrote None;
    none = (refl, tt);
    coded = (record { kind = refl; a = refl; b = refl; c = refl }, tt);
    replay = (
      own_part g,
      record {
        setup = setup;
        name = ap (λ k. FarSide k.0) peering;
        does = inl (record {
          welcome = tt;
          row = record {
            event = event;
            coded = record { kind = refl; a = refl; b = refl; c = refl };
            took = None;
            gave = [];
            holds = row;
            is_taken = refl;
            is_sent = refl;
            there = tt;
          };
          fit = tt;
        });
      },
      refl,
    );
    round = (None, [], far_part g, row, careful, (refl, refl));
  }
