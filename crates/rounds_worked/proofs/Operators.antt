-- Rounds of the operator in which one field is false.
use Rattle.std.proofs.Common.{◌<◌, true, List, [], ◌∷◌, None, refl, inl, inr, lit<, arith}
use Rattle.bgp_story.specs.WorkedSessions.{update_bytes}
use Rattle.graft_model.specs.Points.{at}
use Rattle.graft_model.specs.Setups.{Setup}
use Rattle.graft_model.specs.Parts.{OperatorPart}
use Rattle.graft_model.specs.First.{first_operator}
use Rattle.graft_model.specs.OperatorRows.{SayTo, OrdersSay}
use Rattle.graft_model.specs.declared.event.OperatorEvent.{OperatorEvent}
use Rattle.graft_model.specs.declared.event.OperatorEvent.TheVariants.{Go}
use Rattle.operator_state.specs.Holds.{NothingToOrder}
use Rattle.real_rounds.specs.Routers.{RealOperator}
use Rattle.graft_worked.specs.Base.{base}
use Rattle.graft_worked.specs.First.{operator_first}
use Rattle.rounds_worked.specs.Marks.{once}
use Rattle.rounds_worked.specs.Routers.{OperatorField, Goes, Issued, NoOperatorField, RealOperatorBut, OperatorFalseAlone}
use Rattle.rounds_worked.proofs.Marks.{less, not_some, once_says}

pub operator_of : (setup : Setup) (start : OperatorPart) (events : List OperatorEvent) (end : OperatorPart)
    → RealOperatorBut NoOperatorField setup start events end → RealOperator setup start events end
operator_of setup start events end b = record { goes = b.goes (λ e. cc); issued = b.issued (λ e. cc) }

pub of_operator : (but : OperatorField) (setup : Setup) (start : OperatorPart) (events : List OperatorEvent) (end : OperatorPart)
    → RealOperator setup start events end → RealOperatorBut but setup start events end
of_operator but setup start events end h = record { goes = λ other. h.goes; issued = λ other. h.issued }

-- the remote is to announce, by the first step
orders_say : OrdersSay base 0 0 operator_first None (SayTo 0 0 ∷ []) (record operator_first { issued = at operator_first.issued 0 true })
orders_say = record {
  alone = refl;
  group = refl;
  unissued = refl;
  peering = 0;
  bytes = update_bytes;
  is = refl;
  earlier = λ m other before. absurd (omega (arith, before));
  takes = refl;
  sends = refl;
  effect = refl;
}

pub say_left : OperatorFalseAlone Issued base operator_first [] operator_first
say_left = (record { goes = λ other. refl; issued = λ other. absurd (other refl) }, λ h. h.issued 0 0 _ _ (inl orders_say))

nothing_ordered : NothingToOrder once (first_operator once)
nothing_ordered step number sent after (inl say) = once_says step say.peering say.bytes say.is
nothing_ordered step number sent after (inr graft) = not_some graft.graft graft.known

pub nothing_is_ordered : RealOperator once (first_operator once) [] (first_operator once)
nothing_is_ordered = record { goes = refl; issued = nothing_ordered }

-- the script has no second group
no_second : RealOperator once (first_operator once) (Go ∷ []) (first_operator once) → ⊥
no_second h = less 1 2 (lit< tt) h.goes.3.further

pub second_group : OperatorFalseAlone Goes once (first_operator once) (Go ∷ []) (first_operator once)
second_group = (record { goes = λ other. absurd (other refl); issued = λ other. nothing_ordered }, no_second)
