use Rattle.std.proofs.Common.{◌≡◌, drop}
use Rattle.report_json.specs.Run.{ases_json}
use Rattle.report_json.specs.Tokens.{with_values}
use Rattle.report_json.proofs.routers.write_ases.Given as goal

-- the tokens so far, and those of the ASes that are left behind them, are those of all
abbrev pub invariant-loop-as_number : goal.invariant-loop-as_number
invariant-loop-as_number l = with_values (ases_json (drop l.as_number-index l.ases)) l.out ≡ with_values (ases_json l.ases) l.initial.out
