use Rattle.std.proofs.Common.{◌≡◌, Option, Some, None, false, refl, sym, ap, subst, ◌∙◌, Bor, is_some, option_copied}
use Rattle.std.specs.FinMap as map
use Rattle.bgp_types.specs.declared.attrs.Attrs.{Attrs}
use Rattle.rib_stages.specs.Values.{rib_of}
use Rattle.route_policy.specs.Telling.{out_side_of_view, tell_out}
use Rattle.update_plan.specs.Passing.{IsPlain, TellsPassedOn}
use Rattle.update_plan.proofs.Passed.{told_on}
use Rattle.update_plan.proofs.passing.passing.Goals as goal

none_lent : {A : Type 0} (o : Option (Bor A)) → is_some o ≡ false → option_copied o ≡ None
none_lent None e = refl
none_lent (Some x) e = absurd cc

pub returns : goal.returns
returns c =
    let rib = rib_of c.args.rib.now in
    let out = out_side_of_view c.args.view.now in
    let best = c.in_ok-best.best.now in
    let there : map.get rib.best c.args.prefix ≡ Some best = sym c.in_ok-best.ensures.best in
    let free : out.export_rules ≡ None = none_lent c.args.view.now.export (sym c.is_some.ensures ∙ c.if-is_some.false) in
    let plain : IsPlain best.route.attrs = subst IsPlain c.deref-attrs.ensures (c.is_plain.ensures c.if-not-is_plain.false) in
    subst (λ (attrs : Attrs). TellsPassedOn rib out c.args.prefix attrs) (sym c.deref-attrs.ensures) (ap (tell_out rib.config.home_as out c.args.prefix) there
    ∙ told_on rib.config.home_as out c.args.prefix best free (sym c.is_kept_back.ensures ∙ c.if-is_kept_back.false) plain)
