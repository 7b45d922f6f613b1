use Rattle.std.proofs.Common.{◌≡◌, ◌<◌, ◌≤◌, List, [], ◌∷◌, ◌++◌, length, get_or, Some, None, sym, ap, subst, ◌∙◌}
use Rattle.std.specs.Option.{option_copied}
use Rattle.std.specs.FinMap as map
use Rattle.std.proofs.lemmas.List.{map-id}
use Rattle.bgp_types.specs.Prefixes.{PrefixValue}
use Rattle.bgp_types.specs.Tables.{prefix_cmp}
use Rattle.bgp_types.specs.declared.attrs.Attrs.{Attrs}
use Rattle.prefix_table.proofs.Listing.{one_more, has_one, all_listed}
use Rattle.show_view.proofs.tables.entries_of.Goals.{in-Some+in_ok-copy+in_ok-push, in_default}
use Rattle.show_view.proofs.tables.entries_of.Goals as goal

pub loop-prefix-preserved : goal.loop-prefix-preserved
loop-prefix-preserved c =
    let es = map.entries c.args.routes.now in
    let i = c.loop-prefix.prefix-index in
    let p = c.prefix-item.result in
    let list : c.deref-prefix-items.result.now ≡ map.keys c.args.routes.now = c.deref-prefix-items.ensures ∙ c.in_ok-prefixes.ensures in
    let within = subst (λ (xs : List PrefixValue). i < length xs) list c.loop-prefix-test.true in
    let named = c.prefix-item.is ∙ ap (λ (xs : List PrefixValue). get_or xs i p) list in
    elim c.match-get.branch [
      | in-Some+in_ok-copy+in_ok-push w ↦
          let found : map.find prefix_cmp p es ≡ Some w.in-Some.attrs.now =
          sym (map.get-entries c.args.routes.now p) ∙ (sym c.get.ensures ∙ ap option_copied w.in-Some.is) in
          w.entries-is ∙ (w.in_ok-push.ensures.ok ∙ (ap (λ (a : Attrs). c.loop-prefix.entries ++ (p, a) ∷ []) w.in_ok-copy.ensures
          ∙ one_more (λ e. e) es (map.entries_sorted c.args.routes.now) [] c.loop-prefix.entries i p w.in-Some.attrs.now within named found
          c.loop-prefix.invariant))
      | in_default w ↦
          let none : map.find prefix_cmp p es ≡ None = sym (map.get-entries c.args.routes.now p) ∙ (sym c.get.ensures ∙ ap option_copied w.in_default.is) in
          absurd (has_one (λ e. e) es (map.entries_sorted c.args.routes.now) i p within named none)
    ]

pub returns : goal.returns
returns c =
    let es = map.entries c.args.routes.now in
    let list : c.deref-prefix-items.result.now ≡ map.keys c.args.routes.now = c.deref-prefix-items.ensures ∙ c.in_ok-prefixes.ensures in
    all_listed (λ e. e) es (map.entries_sorted c.args.routes.now) [] c.loop-prefix.entries c.loop-prefix.prefix-index
    (subst (λ (xs : List PrefixValue). length xs ≤ c.loop-prefix.prefix-index) list c.loop-prefix-test.false) c.loop-prefix.invariant
    ∙ map-id es
