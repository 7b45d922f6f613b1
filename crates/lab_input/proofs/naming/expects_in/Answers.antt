use Rattle.std.proofs.Common.{◌∙◌, map, sym, ap}
use Rattle.std.proofs.lemmas.Simd.{map-map}
use Rattle.toml.specs.View.{table_view}
use Rattle.lab_keys.specs.Kinds.{first_of}
use Rattle.lab_input.specs.Names.{expect_named}
use Rattle.lab_input.proofs.naming.expects_in.Goals as goal

pub returns : goal.returns
returns c =
    let named = expect_named c.args.names.now c.args.remotes.now in
    c.in_ok-bad.ensures ∙ ap first_of (sym (map-map named (λ t. table_view t.now) c.deref.result.now))
    ∙ ap (λ ts. first_of (map named (map (λ t. table_view t.now) ts))) c.deref.ensures
    ∙ ap (λ ts. first_of (map named ts)) c.in_ok-tables.ensures
