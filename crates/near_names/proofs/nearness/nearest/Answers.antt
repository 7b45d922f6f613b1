use Rattle.std.proofs.Common.{◌+◌, [], map, sym, ap, subst, arith}
use Rattle.std.specs.Prelude.{option_map, None}
use Rattle.std.proofs.lemmas.List.{take_all, map_more}
use Rattle.near_names.specs.Nearness.{distance, most_edits}
use Rattle.near_names.proofs.Leading.{Leads, leads_closer, leads_on, leads_at_end, leads_at_start}
use Rattle.near_names.proofs.nearness.nearest.Goals as goal
use Rattle.near_names.proofs.nearness.nearest.Goals.{then-edits-least, else-edits-least}

pub loop-name-init : goal.loop-name-init
loop-name-init c =
    subst (λ n. Leads (distance c.args.text.now) (most_edits c.args.text.now) [] None (n + 1)) (sym c.most_edits-least.ensures)
    (leads_at_start (distance c.args.text.now) (most_edits c.args.text.now))

pub loop-name-preserved : goal.loop-name-preserved
loop-name-preserved c =
    let d = distance c.args.text.now in
    let most = most_edits c.args.text.now in
    let names = c.args.names.now in
    let i = c.loop-name.name-index in
    elim c.if-edits-least.branch [
      | then-edits-least w ↦
          leads_closer d most _ _ _ _ _ c.loop-name.least _ c.in_ok-edits.edits c.in_ok-edits.ensures (map_more (λ name. name.now) names i _ (omega arith))
          (ap (option_map (λ name. name.now)) w.near-is) w.least-is (omega arith) c.loop-name.invariant
      | else-edits-least w ↦
          leads_on d most _ _ _ _ _ c.loop-name.least _ c.in_ok-edits.edits c.in_ok-edits.ensures (map_more (λ name. name.now) names i _ (omega arith))
          (ap (option_map (λ name. name.now)) w.near-is) w.least-is (omega arith) c.loop-name.invariant
    ]

pub returns : goal.returns
returns c =
    let names = c.args.names.now in
    let whole = ap (map (λ name. name.now)) (take_all c.loop-name.name-index names (omega arith)) in
    leads_at_end (distance c.args.text.now) (most_edits c.args.text.now) (map (λ name. name.now) names)
    (option_map (λ name. name.now) c.loop-name.near) c.loop-name.least
    (subst (λ l. Leads (distance c.args.text.now) (most_edits c.args.text.now) l (option_map (λ name. name.now) c.loop-name.near) c.loop-name.least)
    whole c.loop-name.invariant)
