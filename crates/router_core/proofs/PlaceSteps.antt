-- One place of a router changes.
use Rattle.std.proofs.Common.{◌≡◌, ◌≢◌, ℕ, ◌<◌, List, [], length, Option, inl, inr, refl, sym, ap, subst, ◌∙◌, Some}
use Rattle.std.proofs.lemmas.List.{length-set}
use Rattle.ring_net.specs.declared.post.Post.{Post}
use Rattle.graft_steps.specs.declared.item.Item.{Item}
use Rattle.session_places.specs.Places.{with_place}
use Rattle.router_tables.proofs.Points.{one_or_other, at_here, at_else}
use Rattle.router_core.specs.declared.place.Errand.{Errand}
use Rattle.session_value.specs.declared.config.SessionConfig.{SessionConfig}
use Rattle.session_value.specs.Sessions.{unread}
use Rattle.session_value.specs.Fronts.{BeginsNothing}
use Rattle.session_value.specs.Sets.{Entries, Prefixes}
use Rattle.bgp_story.specs.States.{state_of}
use Rattle.bgp_session.specs.Running.{RunningSession}
use Rattle.rib_stages.specs.Values.{rib_of, table_at}
use Rattle.graft_model.specs.Points.{at}
use Rattle.graft_model.specs.Setups.{Setup}
use Rattle.graft_actors.specs.Emissions.{Tally}
use Rattle.router_core.specs.Parts.{router_part, RouterInvariant, KeepsPlace}
use Rattle.router_core.specs.Places.{place_of, place_at}
use Rattle.router_core.specs.Rounds.{DidAsRouter}
use Rattle.router_core.specs.Visits.{none_on, Stage, Visits, SameButPlaces}
use Rattle.router_core.specs.declared.fields.Fields.{Fields}
use Rattle.router_core.specs.declared.place.Place.{Place}
use Rattle.router_core.specs.declared.place.Place.TheVariants.{Live}
use Rattle.router_core.proofs.Dids.{did_same}
use Rattle.router_core.proofs.Kept.{keeps_on}
use Rattle.router_core.proofs.PlaceLists.{listed, rooms}
use Rattle.router_core.proofs.VisitSteps.{set_here, set_other, set_at}

-- a function with its own value at a place
pub at_own : {A : Type 0} (f : ℕ → A) (p : ℕ) (x : A) → x ≡ f p → (q : ℕ) → at f p x q ≡ f q
at_own f p x is q = elim (one_or_other p q) [ inl e ↦ at_here f p x q e ∙ is ∙ ap f (sym e) | inr not ↦ at_else f p x q not ]

-- a session with the same configuration and story, and as many unread bytes, keeps its place
pub keeps_live : (setup : Setup) (r p : ℕ) (entries : Entries) (due : Prefixes) (s u : RunningSession) (o : Option Errand)
    → KeepsPlace setup r p entries due (Some (Live s o))
    → u.session.config ≡ s.session.config → u.session.story ≡ s.session.story → unread u.session ≡ unread s.session
    → KeepsPlace setup r p entries due (Some (Live u o))
keeps_live setup r p entries due s u o keeps config story rest = (
  record {
    peering = ap (λ (c : SessionConfig). c.peering.0) config ∙ keeps.0.peering;
    sends = ap (λ (c : SessionConfig). c.send_first.0) config ∙ keeps.0.sends;
    receives = ap (λ (c : SessionConfig). c.receive_first.0) config ∙ keeps.0.receives;
  },
  λ unclosed. subst BeginsNothing (sym rest) (keeps.1 (λ closed. unclosed (ap state_of story ∙ closed))),
  keeps.2,
  λ x has. ap state_of story ∙ keeps.3 x has,
)

-- the places are another list, which has another place at a number
module _ (f g : Fields) (n : ℕ) (x : Option Place) (there : n < length f.places.places)
    (same : SameButPlaces f g) (items : g.places ≡ with_place f.places n x) where
  pub here : place_at g.places.places n ≡ x
  here = ap (λ (xs : List (Option Place)). place_at xs n) (listed items) ∙ set_here f.places.places n x there

  pub elsewhere : (q : ℕ) → q ≢ n → place_at g.places.places q ≡ place_at f.places.places q
  elsewhere q not = ap (λ (xs : List (Option Place)). place_at xs q) (listed items) ∙ set_other f.places.places n x there q not

  pub part_at : router_part g ≡ record (router_part f) { places = at (router_part f).places n (place_of x) }
  part_at = ap router_part same
      ∙ (λ i. record (router_part f) {
        places = λ q. (ap (λ (xs : List (Option Place)). place_of (place_at xs q)) (listed items) ∙ set_at f.places.places n x there q) i;
      })

  pub part_same : place_of x ≡ place_of (place_at f.places.places n) → router_part g ≡ router_part f
  part_same stays = part_at ∙ (λ i. record (router_part f) { places = λ q. at_own (router_part f).places n (place_of x) stays q i })

  pub keeps_at : RouterInvariant f → KeepsPlace f.known.setup f.number.0 n ((rib_of f.rib).entries n) (table_at f.due_out n) x → RouterInvariant g
  keeps_at keeps place = keeps_on f g keeps
      (subst (λ (h : Fields). h ≡ record f { places = h.places; rib = h.rib; due_in = h.due_in; due_out = h.due_out; turns = h.turns }) (sym same) refl)
      (record {
        places = ap length (listed items) ∙ length-set f.places.places n x;
        reserved = rooms items;
        due_in = ap (λ (h : Fields). length h.due_in) same;
        due_out = ap (λ (h : Fields). length h.due_out) same;
        config = ap (λ (h : Fields). h.rib.config) same;
        tellings = λ q out. ap (λ (h : Fields). (rib_of h.rib).tellings q) same;
      })
      (λ p. subst (λ (h : Fields). KeepsPlace f.known.setup f.number.0 p ((rib_of h.rib).entries p) (table_at h.due_out p) (place_at g.places.places p))
      (sym same) (each p))
    where
      each : (p : ℕ) → KeepsPlace f.known.setup f.number.0 p ((rib_of f.rib).entries p) (table_at f.due_out p) (place_at g.places.places p)
      each p = elim (one_or_other n p) [
        | inl e ↦
            subst (λ (q : ℕ). KeepsPlace f.known.setup f.number.0 q ((rib_of f.rib).entries q) (table_at f.due_out q) (place_at g.places.places q)) (sym e)
            (subst (λ (y : Option Place). KeepsPlace f.known.setup f.number.0 n ((rib_of f.rib).entries n) (table_at f.due_out n) y) (sym here) place)
        | inr not ↦ subst (λ (y : Option Place). KeepsPlace f.known.setup f.number.0 p ((rib_of f.rib).entries p) (table_at f.due_out p) y)
            (sym (elsewhere p not)) (keeps.each p)
      ]

  -- nothing that the model sees changes
  pub visits_same : (stage : Stage) (p : Post (Item RunningSession)) → RouterInvariant f → place_of x ≡ place_of (place_at f.places.places n)
      → stage.Goes none_on (place_at f.places.places n) x → ((t : Tally) → stage.count (place_at f.places.places n) t ≡ t) → stage.kept.Same f g
      → KeepsPlace f.known.setup f.number.0 n ((rib_of f.rib).entries n) (table_at f.due_out n) x → Visits stage n f p g p
  visits_same stage p keeps stays goes none same_rest place = record {
    events = [];
    did = λ t. subst (λ (u : ℕ → Tally). DidAsRouter f p t [] g p u) (λ i q. sym (at_own t n (stage.count (place_at f.places.places n) (t n)) (none (t n)) q) i)
        (did_same f g p t (record { setup = ap (λ (h : Fields). h.known.setup) same; number = ap (λ (h : Fields). h.number) same }) (part_same stays));
    at = tt;
    goes = subst (λ (y : Option Place). stage.Goes none_on (place_at f.places.places n) y) (sym here) goes;
    others = λ q not. (elsewhere q not, refl);
    same = same_rest;
    keeps = keeps_at keeps place;
  }
