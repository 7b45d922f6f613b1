use Rattle.std.proofs.Common.{◌≡◌, ◌<◌, ◌≤◌, List, [], ◌∷◌, ◌++◌, length, get_or, Some, None, sym, ap, subst, ◌∙◌}
use Rattle.std.specs.Option.{option_copied}
use Rattle.std.specs.FinMap as table
use Rattle.bgp_types.specs.Prefixes.{PrefixValue}
use Rattle.bgp_types.specs.Tables.{prefix_cmp}
use Rattle.lab_seen.specs.Seen.{best_entry}
use Rattle.prefix_table.proofs.Listing.{one_more, has_one, all_listed}
use Rattle.lab_seen.proofs.tables.best_of.Goals.{in-Some+in_ok-best_seen+in_ok-push, in_default}
use Rattle.lab_seen.proofs.tables.best_of.Goals as goal

pub loop-prefix-preserved : goal.loop-prefix-preserved
loop-prefix-preserved c =
    let held = c.args.rib.now.best in
    let es = table.entries held in
    let i = c.loop-prefix.prefix-index in
    let p = c.prefix-item.result in
    let list : c.deref-prefix-items.result.now ≡ table.keys held = c.deref-prefix-items.ensures ∙ c.in_ok-best_prefixes.ensures in
    let within = subst (λ (xs : List PrefixValue). i < length xs) list c.loop-prefix-test.true in
    let named = c.prefix-item.is ∙ ap (λ (xs : List PrefixValue). get_or xs i p) list in
    elim c.match-best.branch [
      | in-Some+in_ok-best_seen+in_ok-push w ↦
          let found : table.find prefix_cmp p es ≡ Some w.in-Some.route.now =
          sym (table.get-entries held p) ∙ (sym c.best-in-loop-prefix.ensures.best ∙ ap option_copied w.in-Some.is) in
          w.best-is ∙ (w.in_ok-push.ensures.ok ∙ (ap (λ e. c.loop-prefix.best ++ e ∷ []) w.in_ok-best_seen.ensures
          ∙ one_more best_entry es (table.entries_sorted held) [] c.loop-prefix.best i p w.in-Some.route.now within named found c.loop-prefix.invariant))
      | in_default w ↦
          let none : table.find prefix_cmp p es ≡ None =
          sym (table.get-entries held p) ∙ (sym c.best-in-loop-prefix.ensures.best ∙ ap option_copied w.in_default.is) in
          absurd (has_one best_entry es (table.entries_sorted held) i p within named none)
    ]

pub returns : goal.returns
returns c =
    let held = c.args.rib.now.best in
    let list : c.deref-prefix-items.result.now ≡ table.keys held = c.deref-prefix-items.ensures ∙ c.in_ok-best_prefixes.ensures in
    all_listed best_entry (table.entries held) (table.entries_sorted held) [] c.loop-prefix.best c.loop-prefix.prefix-index
    (subst (λ (xs : List PrefixValue). length xs ≤ c.loop-prefix.prefix-index) list c.loop-prefix-test.false) c.loop-prefix.invariant
