use Rattle.std.proofs.Common.{sym, subst}
use Rattle.std.specs.Prelude.{IfOk}
use Rattle.graft_model.specs.declared.event.RouterEvent.{RouterEvent}
use Rattle.audit_router.specs.Decides.{Decides}
use Rattle.audit_router.specs.Parts.{places_of}
use Rattle.audit_router.specs.declared.router.AuditedRouter.{AuditedRouter}
use Rattle.audit_router.proofs.Dispatch.{has_sender, never_alone}
use Rattle.audit_router.proofs.Following.{both_ok}
use Rattle.audit_router.proofs.Kept as kept
use Rattle.audit_router.proofs.TableEvents.{tells_router}
use Rattle.audit_router.proofs.router.AuditedRouter.decide.Goals as goal

pub returns-in-Put : goal.returns-in-Put
returns-in-Put c = subst (λ (event : RouterEvent). IfOk c.put.result (λ ruling. Decides event c.args.self.now ruling c.put.new.self)) (sym c.in-Put.is) c.put.ensures

pub returns-in-Emit : goal.returns-in-Emit
returns-in-Emit c = subst (λ (event : RouterEvent). IfOk c.emit.result (λ ruling. Decides event c.args.self.now ruling c.emit.new.self)) (sym c.in-Emit.is) c.emit.ensures

pub returns-in-Got : goal.returns-in-Got
returns-in-Got c = subst (λ (event : RouterEvent). IfOk c.get.result (λ ruling. Decides event c.args.self.now ruling c.get.new.self)) (sym c.in-Got.is) c.get.ensures

pub returns-in-Tick : goal.returns-in-Tick
returns-in-Tick c = subst (λ (event : RouterEvent). IfOk c.tick.result (λ ruling. Decides event c.args.self.now ruling c.tick.new.self)) (sym c.in-Tick.is) c.tick.ensures

pub returns-in-Decide : goal.returns-in-Decide
returns-in-Decide c = subst (λ (event : RouterEvent). IfOk c.decide_prefix.result (λ ruling. Decides event c.args.self.now ruling c.decide_prefix.new.self)) (sym c.in-Decide.is) c.decide_prefix.ensures

pub returns-in-Refuse : goal.returns-in-Refuse
returns-in-Refuse c = subst (λ (event : RouterEvent). IfOk c.refuse.result (λ ruling. Decides event c.args.self.now ruling c.refuse.new.self)) (sym c.in-Refuse.is) c.refuse.ensures

pub returns-in-Freeze : goal.returns-in-Freeze
returns-in-Freeze c = subst (λ (event : RouterEvent). IfOk c.freeze.result (λ ruling. Decides event c.args.self.now ruling c.freeze.new.self)) (sym c.in-Freeze.is) c.freeze.ensures

pub returns-in-Leave : goal.returns-in-Leave
returns-in-Leave c = subst (λ (event : RouterEvent). IfOk c.leave.result (λ ruling. Decides event c.args.self.now ruling c.leave.new.self)) (sym c.in-Leave.is) c.leave.ensures

pub returns-in-Ask : goal.returns-in-Ask
returns-in-Ask c = subst (λ (event : RouterEvent). IfOk c.ask.result (λ ruling. Decides event c.args.self.now ruling c.ask.new.self)) (sym c.in-Ask.is) c.ask.ensures

pub returns-in-Confirm : goal.returns-in-Confirm
returns-in-Confirm c = subst (λ (event : RouterEvent). IfOk c.confirm.result (λ ruling. Decides event c.args.self.now ruling c.confirm.new.self)) (sym c.in-Confirm.is) c.confirm.ensures

pub returns-in-Tell : goal.returns-in-Tell
returns-in-Tell c =
    let r = c.args.self.now in
    let u : AuditedRouter = record r { tables = c.tell.new.self } in
    subst (λ (event : RouterEvent). IfOk c.tell.result (λ ruling. Decides event r ruling u)) (sym c.in-Tell.is)
    (both_ok c.tell.result (λ ruling decides pending. tells_router r c.requires c.tell.new.self c.in-Tell.router c.in-Tell.prefix ruling decides pending)
    (c.tell.ensures.decides (places_of r)) c.tell.ensures.known)

pub returns-in_default : goal.returns-in_default
returns-in_default c =
    let sender = has_sender c.args.event (record {
      put = c.in_default.not-Put;
      emit = c.in_default.not-Emit;
      got = c.in_default.not-Got;
      tick = c.in_default.not-Tick;
      decide = c.in_default.not-Decide;
      tell = c.in_default.not-Tell;
      refuse = c.in_default.not-Refuse;
      freeze = c.in_default.not-Freeze;
      leave = c.in_default.not-Leave;
      ask = c.in_default.not-Ask;
      confirm = c.in_default.not-Confirm;
    }) in
    kept.refused c.args.self.now c.requires c.args.event
    (never_alone c.args.self.now.tables.known.setup c.args.self.now.tables.number.0 c.args.event sender.0 sender.1 _)
