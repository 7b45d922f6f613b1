use Rattle.std.proofs.Common.{◌≡◌, ◌∙◌, rules}
use Rattle.bgp_types.specs.Faults.{kept_raw}
use Rattle.attr_codec.specs.Pieces.{wire}
use Rattle.attr_codec.specs.Saying.{with_attr, with_kept}
use Rattle.attr_codec.proofs.SaidLaws.{other_ok, with_other}
use Rattle.attr_codec.proofs.said.Said.add.Goals as goal
use Rattle.attr_codec.proofs.said.Said.add.Goals.{in-1+in_ok-origin-in-1, in-2+in_ok-path-in-2+in-Some-1, in-2+in_ok-path-in-2+in-None-1}
use Rattle.attr_codec.proofs.said.Said.add.Goals.{in-3+in_ok-next_hop-in-3, in-4+in_ok-med-in-4, in-5, in-6+in_ok-atomic-in-6}
use Rattle.attr_codec.proofs.said.Said.add.Goals.{in-7+in_ok-aggregator-in-7, in-17+in_ok-optional-in-17+in_ok-self-in-17+in-Some-1}
use Rattle.attr_codec.proofs.said.Said.add.Goals.{in-17+in_ok-optional-in-17+in_ok-self-in-17+in-None-1, in-18+in_ok-optional-in-18}
use Rattle.attr_codec.proofs.said.Said.add.Goals.{in_default+in_ok-other-in_default+in_ok-keep-in_default}

pub returns-clause-said : goal.returns-clause-said
unfolding with_attr
returns-clause-said c = elim c.match-piece.branch [
  | in-1+in_ok-origin-in-1 w ↦ search rules
  | in-2+in_ok-path-in-2+in-Some-1 w ↦ search rules
  | in-2+in_ok-path-in-2+in-None-1 w ↦ search rules
  | in-3+in_ok-next_hop-in-3 w ↦ search rules
  | in-4+in_ok-med-in-4 w ↦ search rules
  | in-5 w ↦ search rules
  | in-6+in_ok-atomic-in-6 w ↦ search rules
  | in-7+in_ok-aggregator-in-7 w ↦ search rules
  | in-17+in_ok-optional-in-17+in_ok-self-in-17+in-Some-1 w ↦ search rules
  | in-17+in_ok-optional-in-17+in_ok-self-in-17+in-None-1 w ↦ search rules
  | in-18+in_ok-optional-in-18 w ↦ search rules
  | in_default+in_ok-other-in_default+in_ok-keep-in_default w ↦
      let e = other_ok (wire c.args.piece.now) w.in_ok-other-in_default.field-0 w.in_ok-other-in_default.ensures in
      let u : w.keep.new.unknown ≡ with_kept (kept_raw (wire c.args.piece.now)) c.args.self.now.unknown = rw e (w.in_ok-keep-in_default.ensures) in
      w.self-is
      ∙ with_other c.args.wide (wire c.args.piece.now) c.args.self.now w.keep.new.unknown (search rules) (search rules)
      (search rules) (search rules) (search rules) (search rules) (search rules) (search rules) (search rules) u
]
