use Rattle.std.proofs.Common.{sym, ◌∙◌, ap}
use Rattle.std.proofs.lemmas.Result.{on_ok_weaker}
use Rattle.bgp_types.specs.Merge.{push_joined}
use Rattle.attr_codec.proofs.PathLaws.{push_joined_last}
use Rattle.attr_codec.proofs.merge.put_joined.Goals as goal

pub returns-in-Some : goal.returns-in-Some
returns-in-Some c =
    on_ok_weaker c.put_parts.result (λ d. d ∙ (sym (push_joined_last c.pop.new.self.items c.in-Some.last c.args.part)
    ∙ ap (λ xs. push_joined xs c.args.part) (sym c.in-Some.ensures.items))) c.put_parts.ensures
