use Rattle.std.proofs.Common.{◌∙◌, ap}
use Rattle.std.specs.Prelude.{Some, option_map, string_bytes}
use Rattle.lab_keys.specs.Keys.{names_of}
use Rattle.lab_keys.proofs.Strays.{stray_found}
use Rattle.lab_keys.proofs.keys.stray_in.Goals as goal

pub returns-in_err-key : goal.returns-in_err-key
returns-in_err-key c =
    ap (option_map (λ k. k.now)) c.from_residual.ensures ∙ ap (option_map string_bytes) c.in_err-key.ensures
    ∙ stray_found (names_of c.args.keys.now) c.args.table.now.entries

pub returns : goal.returns
returns c =
    ap Some c.as_str.ensures.value ∙ ap (option_map string_bytes) c.in_ok-key.ensures
    ∙ stray_found (names_of c.args.keys.now) c.args.table.now.entries
