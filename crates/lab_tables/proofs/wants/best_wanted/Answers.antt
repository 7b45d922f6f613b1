use Rattle.std.proofs.Common.{◌≡◌, ◌∙◌, ℕ, ap}
use Rattle.std.specs.Prelude.{Option, Some, option_map, codes}
use Rattle.toml.specs.View.{table_view}
use Rattle.bgp_types.specs.Prefixes.{PrefixValue}
use Rattle.bgp_types.specs.declared.rank.From.{From}
use Rattle.lab_keys.specs.Values.{text_at, maybe_prefix}
use Rattle.lab_tables.specs.declared.expectation.ExpectedValue.{ExpectedValue}
use Rattle.lab_tables.specs.declared.expectation.ExpectedValue.TheVariants.{Best}
use Rattle.lab_tables.specs.Meanings.{index_of_name}
use Rattle.lab_tables.specs.Expects.{source_in}
use Rattle.lab_tables.proofs.wants.best_wanted.Goals as goal

abbrev wanted : ℕ → Option From → Option PrefixValue → Option ExpectedValue
wanted router from prefix = option_map (λ p. Best (record { 0 = router }) p from) prefix

pub returns : goal.returns
returns c =
    let routers = c.args.routers.now in
    let peerings = c.args.peerings.now in
    let t = table_view c.args.table.now in
    let some = Some c.in_ok-prefix.prefix in
    let router = index_of_name routers (text_at (codes "router") t) in
    let from = source_in routers peerings (text_at (codes "best") t) in
    let router_is : c.number_of.result ≡ router = c.number_of.ensures ∙ ap (index_of_name routers) c.text_at.ensures in
    let from_is : c.source_in.result ≡ from = c.source_in.ensures ∙ ap (source_in routers peerings) c.text_at-2.ensures in
    ap (λ n. wanted n c.source_in.result some) router_is ∙ ap (λ x. wanted router x some) from_is ∙ ap (wanted router from) c.in_ok-prefix.ensures
