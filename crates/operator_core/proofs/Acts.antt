-- The operator's events are acts of it.
use Rattle.std.proofs.Common.{◌≡◌, ℕ, ◌+◌, ◌<◌, [], ◌∷◌, Some, None, refl, ap, ◌∙◌, inl, inr}
use Rattle.ring_net.specs.declared.entry.JournalEntry.{JournalEntry}
use Rattle.graft_edge.specs.declared.ids.PeeringId.{PeeringId}
use Rattle.graft_edge.specs.declared.ids.RouterId.{RouterId}
use Rattle.graft_steps.specs.declared.item.Item.{Item}
use Rattle.graft_steps.specs.declared.item.Item.TheVariants.{GraftOrder, SayOrder, Report}
use Rattle.graft_steps.specs.declared.refusal.Outcome.{Outcome}
use Rattle.session_value.specs.Sessions.{SessionValue}
use Rattle.graft_model.specs.Setups.{Setup, routers_in, peerings_in}
use Rattle.graft_model.specs.Parts.{OperatorPart}
use Rattle.graft_model.specs.OperatorRows.{OrderTo, SayTo, ReportIn, OrdersSay, OrdersGraft, Notes, BeginsGroup}
use Rattle.graft_model.specs.declared.event.OperatorEvent.TheVariants.{Order, Note, Go}
use Rattle.graft_model.specs.Codes.{operator_code}
use Rattle.graft_actors.specs.Actors.{OperatorIs, StepItem, Router, FarSide, Operator, actor_at}
use Rattle.graft_actors.specs.Laws.{ActorsHaveNumbers}
use Rattle.graft_actors.specs.Acts.{OwnPart, ActsAs, IsWelcome}
use Rattle.graft_actors.specs.Notes.{dropped}
use Rattle.graft_model.specs.declared.code.Code.{Code}

abbrev own : Setup → OperatorPart → OwnPart
own setup part = record { setup = setup; name = Operator; part = OperatorIs part }

-- an entry of this code
abbrev entry_of : ℕ → ℕ → Code → JournalEntry
entry_of clock actor code = record { clock = clock; actor = actor; kind = code.kind; a = code.a; b = code.b; c = code.c }

module _ {C : Type 0} (session : C → SessionValue) (setup : Setup) (before after : OperatorPart) (clock actor : ℕ) where
  pub says : ActorsHaveNumbers → (n p to : ℕ) → p < peerings_in setup → to ≡ routers_in setup + p → OrdersSay setup n 0 before None (SayTo p n ∷ []) after
      → ActsAs session (own setup before) (entry_of clock actor (operator_code (Order n 0))) None ((to, SayOrder n) ∷ []) (own setup after)
  says numbers n p to there is row = record {
    setup = refl;
    name = refl;
    does = inl (record {
      welcome = tt;
      row = record {
        event = Order n 0;
        coded = record { kind = refl; a = refl; b = refl; c = refl };
        took = None;
        gave = SayTo p n ∷ [];
        holds = inl row;
        is_taken = refl;
        is_sent = ap (λ k. (k, StepItem n) ∷ []) is;
        there = (there, tt);
      };
      fit = ((FarSide p, ap (actor_at setup) is ∙ numbers setup (FarSide p) there, tt), tt);
    });
  }

  pub orders : ActorsHaveNumbers → (n number k : ℕ) (peering : PeeringId) (target place : RouterId) → place.0 < routers_in setup
      → OrdersGraft setup n number before None (OrderTo place.0 (record { graft = k; peering = peering.0; target = target.0 }) ∷ []) after
      → ActsAs session (own setup before) (entry_of clock actor (operator_code (Order n number))) None
      ((place.0, GraftOrder k peering target) ∷ []) (own setup after)
  orders numbers n number k peering target place there row = record {
    setup = refl;
    name = refl;
    does = inl (record {
      welcome = tt;
      row = record {
        event = Order n number;
        coded = record { kind = refl; a = refl; b = refl; c = refl };
        took = None;
        gave = OrderTo place.0 (record { graft = k; peering = peering.0; target = target.0 }) ∷ [];
        holds = inr row;
        is_taken = refl;
        is_sent = refl;
        there = (there, tt);
      };
      fit = ((Router place.0, numbers setup (Router place.0) there, tt), tt);
    });
  }

  pub notes : (r k : ℕ) (outcome : Outcome) → r < routers_in setup → IsWelcome session (own setup before) r (Report k outcome)
      → Notes r before (Some (ReportIn r (record { graft = k; outcome = outcome }))) [] after
      → ActsAs session (own setup before) (entry_of clock actor (operator_code (Note r))) (Some (r, Report k outcome)) [] (own setup after)
  notes r k outcome there welcome row = record {
    setup = refl;
    name = refl;
    does = inl (record {
      welcome = welcome;
      row = record {
        event = Note r;
        coded = record { kind = refl; a = refl; b = refl; c = refl };
        took = Some (ReportIn r (record { graft = k; outcome = outcome }));
        gave = [];
        holds = row;
        is_taken = refl;
        is_sent = refl;
        there = tt;
      };
      fit = tt;
    });
  }

  pub goes : BeginsGroup setup before None [] after → ActsAs session (own setup before) (entry_of clock actor (operator_code Go)) None [] (own setup after)
  goes row = record {
    setup = refl;
    name = refl;
    does = inl (record {
      welcome = tt;
      row = record {
        event = Go;
        coded = record { kind = refl; a = refl; b = refl; c = refl };
        took = None;
        gave = [];
        holds = row;
        is_taken = refl;
        is_sent = refl;
        there = tt;
      };
      fit = tt;
    });
  }

  pub drops : (from : ℕ) (item : Item C) → ¬ IsWelcome session (own setup before) from item → after ≡ before
      → ActsAs session (own setup before) (entry_of clock actor dropped) (Some (from, item)) [] (own setup after)
  drops from item unwelcome same = record {
    setup = refl;
    name = refl;
    does = inr (record {
      from = from;
      item = item;
      takes = refl;
      unwelcome = unwelcome;
      kind = refl;
      a = refl;
      b = refl;
      c = refl;
      sends = refl;
      stays = ap OperatorIs same;
    });
  }
