use Rattle.std.proofs.Common.{sym, ◌∙◌}
use Rattle.ring_net.proofs.TakesEach.{same_edges_self, same_edges_then}
use Rattle.rib_stages.specs.Values.{table_at}
use Rattle.rib_stages.proofs.Drops.{least_is, no_least_is}
use Rattle.router_core.proofs.TellSteps.{fewer_due, same_due_in, some_first, some_next, still_clean}
use Rattle.router_core.proofs.stages.tell.tell_router.Goals as goal

pub loop-prefix-init : goal.loop-prefix-init
loop-prefix-init c = (some_first c.args.q c.args.router.now c.args.post.now c.requires.keeps, same_edges_self c.args.post.now)

pub first-requires : goal.first-requires
first-requires c = same_due_in c.args.q c.args.router.now c.loop-prefix.router c.args.post.now
    c.loop-prefix.post c.requires.keeps c.loop-prefix.invariant.0 c.requires.there

pub tell_one-requires-clause-keeps : goal.tell_one-requires-clause-keeps
tell_one-requires-clause-keeps c = c.loop-prefix.invariant.0.keeps

pub tell_one-requires-clause-clean : goal.tell_one-requires-clause-clean
tell_one-requires-clause-clean c =
    still_clean c.args.q c.args.router.now c.loop-prefix.router c.args.post.now c.loop-prefix.post c.loop-prefix.invariant.0 c.requires.clean

pub tell_one-requires-clause-there : goal.tell_one-requires-clause-there
tell_one-requires-clause-there c = same_due_in c.args.q c.args.router.now c.loop-prefix.router
    c.args.post.now c.loop-prefix.post c.requires.keeps c.loop-prefix.invariant.0 c.requires.there

pub tell_one-requires-clause-due : goal.tell_one-requires-clause-due
tell_one-requires-clause-due c = least_is (table_at c.loop-prefix.router.due_in c.args.q) c.in-Some.prefix (sym c.first.ensures ∙ c.in-Some.is)

pub loop-prefix-preserved : goal.loop-prefix-preserved
loop-prefix-preserved c = (
  some_next c.args.q c.args.router.now c.loop-prefix.router c.tell_one.new.router c.args.post.now c.loop-prefix.post
      c.tell_one.new.post c.in-Some.prefix c.loop-prefix.invariant.0 c.in_ok-tell_one.ensures.told,
  same_edges_then c.args.post.now c.loop-prefix.post c.tell_one.new.post c.loop-prefix.invariant.1 c.tell_one.ensures.edges,
)

pub loop-prefix-smaller : goal.loop-prefix-smaller
loop-prefix-smaller c = fewer_due c.args.q c.args.router.now c.loop-prefix.router c.tell_one.new.router c.args.post.now
    c.loop-prefix.post c.tell_one.new.post c.in-Some.prefix c.loop-prefix.invariant.0 c.in_ok-tell_one.ensures.told
    (least_is (table_at c.loop-prefix.router.due_in c.args.q) c.in-Some.prefix (sym c.first.ensures ∙ c.in-Some.is))

pub returns-in_err-tell_one-clause-edges : goal.returns-in_err-tell_one-clause-edges
returns-in_err-tell_one-clause-edges c =
    same_edges_then c.args.post.now c.loop-prefix.post c.tell_one.new.post c.loop-prefix.invariant.1 c.tell_one.ensures.edges

pub returns-clause-edges : goal.returns-clause-edges
returns-clause-edges c = c.loop-prefix.invariant.1

pub returns-clause-told : goal.returns-clause-told
returns-clause-told c =
    record { told = c.loop-prefix.invariant.0; none = no_least_is (table_at c.loop-prefix.router.due_in c.args.q) (sym c.first.ensures ∙ c.in_default.is) }
