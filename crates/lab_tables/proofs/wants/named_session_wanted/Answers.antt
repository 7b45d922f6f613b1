use Rattle.std.proofs.Common.{◌≡◌, ◌∙◌, ℕ, ap, subst}
use Rattle.std.specs.Prelude.{IfOk, codes}
use Rattle.toml.specs.View.{table_view}
use Rattle.lab_keys.specs.Values.{text_at}
use Rattle.lab_tables.specs.Meanings.{index_of_name}
use Rattle.lab_tables.specs.Expects.{session_wanted}
use Rattle.lab_tables.proofs.wants.named_session_wanted.Goals as goal

pub returns : goal.returns
returns c =
    let routers = c.args.routers.now in
    let peerings = c.args.peerings.now in
    let t = table_view c.args.table.now in
    let peering : c.number_of-peering.result ≡ index_of_name peerings (text_at (codes "peering") t) =
    c.number_of-peering.ensures ∙ ap (index_of_name peerings) c.text_at.ensures in
    subst (λ (n : ℕ). IfOk c.session_wanted.result (λ wanted. wanted ≡ session_wanted routers n t)) peering c.session_wanted.ensures
