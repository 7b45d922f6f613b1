use Rattle.std.proofs.Common.{◌++◌, ◌∷◌, [], List, length, arith, ap, ◌∙◌, sym, subst, ℕ, ◌+◌}
use Rattle.std.specs.List.{AllByRecursion}
use Rattle.audit_channels.specs.declared.channel.Channel.{Channel}
use Rattle.audit_channels.proofs.Empties.{IsEmpty, none_at, one_more, longer}
use Rattle.audit_channels.proofs.inboxes.empty_inbox.Goals as goal

pub loop-n-preserved : goal.loop-n-preserved
loop-n-preserved c =
    let more : AllByRecursion IsEmpty (c.loop-n.channels.items ++ c.new.result ∷ []) =
    one_more IsEmpty c.loop-n.channels.items c.new.result c.loop-n.invariant.1 c.new.ensures.parcels in (
      ap (λ (xs : List Channel). length xs) c.in_ok-push.ensures.items ∙ longer c.loop-n.channels.items c.new.result
          ∙ ap (λ (n : ℕ). n + 1) c.loop-n.invariant.0,
      subst (AllByRecursion IsEmpty) (sym c.in_ok-push.ensures.items) more,
    )

pub returns-clause-count : goal.returns-clause-count
returns-clause-count c = omega (arith, c.loop-n.invariant.0, c.loop-n-test.false, c.loop-n.auto._n-end)

pub returns-clause-empty : goal.returns-clause-empty
returns-clause-empty c = λ n. none_at c.loop-n.channels.items c.loop-n.invariant.1 n
