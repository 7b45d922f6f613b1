use Rattle.std.proofs.Common.{◌≡◌, ◌∙◌, ◌+◌, ℕ, List, ap, sym, subst, arith}
use Rattle.world_nodes.proofs.EdgeSteps.{RowUpTo, row_none, row_more, row_same, row_all, row_ahead}
use Rattle.world_nodes.proofs.edges.add_from.Goals.{then-may_talk+in_ok-push, else-may_talk}
use Rattle.world_nodes.proofs.edges.add_from.Goals as goal

pub loop-to-init : goal.loop-to-init
loop-to-init c = row_none c.args.routers c.args.peerings c.args.from c.args.edges.now.items c.requires.sound c.requires.none

pub loop-to-preserved : goal.loop-to-preserved
loop-to-preserved c =
    let row = λ (edges : List (ℕ × ℕ)). RowUpTo c.args.routers c.args.peerings c.args.from (c.loop-to.to + 1) c.args.edges.now.items edges in
    elim c.if-may_talk.branch [
      | then-may_talk+in_ok-push w ↦ subst row (sym (ap (λ v. v.items) w.edges-is ∙ w.in_ok-push.ensures.items))
          (row_more c.args.routers c.args.peerings c.args.from c.loop-to.to c.args.edges.now.items c.loop-to.edges.items c.requires.there c.loop-to-test.true
          (λ setup counts. sym w.if-may_talk.true ∙ c.may_talk.ensures.is setup counts) (c.may_talk.ensures.apart w.if-may_talk.true) c.loop-to.invariant)
      | else-may_talk w ↦ subst row (sym (ap (λ v. v.items) w.edges-is))
          (row_same c.args.routers c.args.peerings c.args.from c.loop-to.to c.args.edges.now.items c.loop-to.edges.items
          (λ setup counts. sym w.if-may_talk.false ∙ c.may_talk.ensures.is setup counts) c.loop-to.invariant)
    ]

pub returns-clause-none : goal.returns-clause-none
returns-clause-none c =
    let all : c.loop-to.to ≡ c.args.routers + c.args.peerings + 1 = omega arith in
    row_ahead c.args.routers c.args.peerings c.args.from c.args.edges.now.items c.loop-to.edges.items
    (subst (λ n. RowUpTo c.args.routers c.args.peerings c.args.from n c.args.edges.now.items c.loop-to.edges.items) all c.loop-to.invariant)

pub returns-clause-added : goal.returns-clause-added
returns-clause-added c =
    let all : c.loop-to.to ≡ c.args.routers + c.args.peerings + 1 = omega arith in
    row_all c.args.routers c.args.peerings c.args.from c.args.edges.now.items c.loop-to.edges.items
    (subst (λ n. RowUpTo c.args.routers c.args.peerings c.args.from n c.args.edges.now.items c.loop-to.edges.items) all c.loop-to.invariant)
