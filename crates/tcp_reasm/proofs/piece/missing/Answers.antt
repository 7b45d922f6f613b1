use Rattle.std.proofs.Common.{◌∙◌, ap, refl, subst, sym, List, length, drop, ◌-◌}
use Rattle.std.proofs.lemmas.Result.{IfOk-weaker}
use Rattle.tcp_seq.specs.declared.state.Piece.{Piece}
use Rattle.tcp_reasm.specs.Runs.{AreRuns, held}
use Rattle.tcp_reasm.specs.Steps.{runs_outside}
use Rattle.tcp_reasm.proofs.Held.{runs-take, runs-drop}
use Rattle.tcp_reasm.proofs.Missing.{missing_runs, missing_held, near_is}
use Rattle.tcp_reasm.proofs.piece.missing.Goals as goal

pub begun_count-requires : goal.begun_count-requires
begun_count-requires c =
    let from = c.passed_count.result in
    let ps = c.args.pieces.now in
    runs-take 0 (length ps - from) (drop from ps) (runs-drop 0 from ps c.requires.runs)

pub returns-clause-runs : goal.returns-clause-runs
returns-clause-runs c = IfOk-weaker c.runs_outside.result _ _
    (λ runs is. let offset = c.args.offset in let bytes = c.args.bytes.now in let ps = c.args.pieces.now in
    let all = is ∙ ap (runs_outside offset bytes offset)
    (near_is offset bytes ps _ _ c.passed_count.result c.begun_count.result c.passed_count.ensures.count refl c.begun_count.ensures.count refl) in
    subst (λ (qs : List Piece). AreRuns 0 qs) (sym all) (missing_runs offset bytes ps c.requires.within c.requires.runs))
    c.runs_outside.ensures

pub returns-clause-bytes : goal.returns-clause-bytes
returns-clause-bytes c = IfOk-weaker c.runs_outside.result _ _
    (λ runs is k. let offset = c.args.offset in let bytes = c.args.bytes.now in let ps = c.args.pieces.now in
    let all = is ∙ ap (runs_outside offset bytes offset)
    (near_is offset bytes ps _ _ c.passed_count.result c.begun_count.result c.passed_count.ensures.count refl c.begun_count.ensures.count refl) in
    ap (λ qs. held qs k) all ∙ missing_held offset bytes ps c.requires.within c.requires.runs k)
    c.runs_outside.ensures
