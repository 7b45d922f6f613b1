-- What is kept when the operator decides an event.
use Rattle.std.proofs.Common.{◌≡◌, ℕ, ◌-◌, ◌≤◌, false, List, [], ◌∷◌, length, Some, None, refl, sym, ap, ◌∙◌, subst}
use Rattle.std.specs.Prelude.{slice_get}
use Rattle.std.specs.List.{AllByRecursion}
use Rattle.bgp_session.specs.Running.{carried}
use Rattle.graft_model.specs.Parts.{OperatorPart}
use Rattle.graft_model.specs.OperatorRows.{OperatorSent}
use Rattle.graft_model.specs.declared.event.OperatorEvent.{OperatorEvent}
use Rattle.graft_model.specs.Steps.{operator_row}
use Rattle.graft_actors.specs.declared.known.Known.{Known}
use Rattle.graft_actors.specs.Actors.{Operator, Thing, IsActor, actor_at}
use Rattle.graft_actors.specs.Items.{MayGo, thing_of}
use Rattle.graft_actors.specs.Makes.{numbered, sent_by_operator}
use Rattle.graft_actors.proofs.Numbers.{there}
use Rattle.actor_configs.specs.declared.script.Script.{Script}
use Rattle.actor_configs.specs.declared.script.ScriptStep.TheVariants.{Settle}
use Rattle.actor_configs.specs.Scripts.{IsScriptOf}
use Rattle.operator_state.specs.declared.groups.Task.{Task}
use Rattle.operator_state.specs.Groups.{AreNumbers}
use Rattle.operator_state.specs.States.{State, part_of_state}
use Rattle.operator_state.specs.Keeps.{OperatorInvariant}
use Rattle.audit_ruling.specs.Rulings.{Parcel, OperatorRules}
use Rattle.audit_ruling.specs.declared.ruling.Ruling.{Ruling}
use Rattle.audit_ruling.specs.declared.ruling.Ruling.TheVariants.{Refused, Silent, Sends}
use Rattle.audit_operator.specs.Decides.{DecidesOperator, KeepsOperator}
use Rattle.audit_operator.specs.Opens.{IsSteady}
use Rattle.audit_operator.specs.Parts.{OperatorStands, operator_part, operator_state}
use Rattle.audit_operator.specs.declared.operator.AuditedOperator.{AuditedOperator}

-- the tasks are those that weren't ordered
abbrev pub NoneIssued : List Task → Type 0
NoneIssued tasks = AllByRecursion (λ (task : Task). task.issued ≡ false) tasks

pub refused : (o : AuditedOperator) → OperatorStands o → (event : OperatorEvent)
    → ((gave : List OperatorSent) (after : OperatorPart) → ¬ operator_row o.known.setup event (operator_part o) None gave after)
    → DecidesOperator event o Refused o
refused o k event never = record { rules = (refl, never); keeps = record { setup = refl; sound = k } }

module _ (o p : AuditedOperator) (k : OperatorStands o) (same : IsSteady o p) (t : State) (is : operator_state p ≡ t)
    (unissued : NoneIssued t.waiting) (keeps : OperatorInvariant t) where
  pub keeps_then : KeepsOperator o p
  keeps_then = record {
    setup = ap (λ (x : Known). x.setup) same.known;
    sound = record {
      script = subst (IsScriptOf p.known.setup) (sym same.script) (subst (λ (x : Known). IsScriptOf x.setup o.script) (sym same.known) k.script);
      numbers = subst (λ (x : Script). AreNumbers (length x.starts) x.steps p.numbers) (sym same.script)
          (subst (AreNumbers (length o.script.starts) o.script.steps) (sym same.numbers) k.numbers);
      few = subst (λ (x : Script). length x.rooms ≤ 256) (sym same.script) k.few;
      peerings = subst (λ (x : Script). length x.starts ≤ 256) (sym same.script) k.peerings;
      short = subst (λ (x : Script). length x.steps ≤ 4097) (sym same.script) k.short;
      ended = subst (λ (x : Script). slice_get x.steps (length x.steps - 1) ≡ Some Settle) (sym same.script) k.ended;
      unissued = subst (λ (x : State). NoneIssued x.waiting) (sym is) unissued;
      keeps = subst OperatorInvariant (sym is) keeps;
    };
  }

  decides : (event : OperatorEvent) (ruling : Ruling) → OperatorRules o.known.setup event (operator_part o) ruling (part_of_state t)
      → DecidesOperator event o ruling p
  decides event ruling rules = record {
    rules = subst (λ (x : State). OperatorRules o.known.setup event (operator_part o) ruling (part_of_state x)) (sym is) rules;
    keeps = keeps_then;
  }

  pub silent : (event : OperatorEvent) → operator_row o.known.setup event (operator_part o) None [] (part_of_state t) → DecidesOperator event o Silent p
  silent event row = decides event Silent (record { gave = []; row = row; is_sent = refl; there = tt; fit = tt })

  pub sends : (event : OperatorEvent) (to : ℕ) (item : Parcel) (gave : OperatorSent)
      → operator_row o.known.setup event (operator_part o) None (gave ∷ []) (part_of_state t)
      → ◌≡◌ {A = ℕ × Thing} (to, thing_of carried o.known.setup item) (numbered o.known.setup (sent_by_operator gave))
      → IsActor o.known.setup (sent_by_operator gave).0
      → MayGo carried o.known.setup Operator (sent_by_operator gave).0 item → DecidesOperator event o (Sends to item) p
  sends event to item gave row is_sent known fits = decides event (Sends to item) (record {
    gave = gave ∷ [];
    row = row;
    is_sent = ap (λ (x : ℕ × Thing). x ∷ []) is_sent;
    there = (known, tt);
    fit = (
      (
        (sent_by_operator gave).0,
        ap (actor_at o.known.setup) (ap (λ (x : ℕ × Thing). x.0) is_sent) ∙ there o.known.setup (sent_by_operator gave).0 known,
        fits,
      ),
      tt,
    );
  })
