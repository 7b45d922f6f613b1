use Rattle.std.proofs.Common.{ℕ, List, refl, codes}
use Rattle.std.specs.Borrow.{Bor}
use Rattle.lab_words.proofs.Lines.{line_more}
use Rattle.lab_words.proofs.command.line_of.Goals as goal

pub loop-k-preserved : goal.loop-k-preserved
loop-k-preserved c = line_more (λ (word : Bor (List ℕ)). word.now) (codes "graftlab") _ _ c.args.words.now
    c.loop-k.k c.get.result c.get.result.now c.loop-k.invariant c.in_ok-push-2.ensures.items refl c.get.ensures
