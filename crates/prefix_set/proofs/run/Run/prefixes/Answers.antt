use Rattle.std.proofs.Common.{◌≡◌, ℕ, ◌-◌, List, length, take, drop, sym, ap, ◌∙◌}
use Rattle.std.specs.FinMap as map
use Rattle.std.proofs.lemmas.Result.{IfOk-weaker}
use Rattle.bgp_types.specs.Prefixes.{PrefixValue}
use Rattle.prefix_set.specs.Slots.{PrefixSet, Slot, those_in, united, with_all}
use Rattle.prefix_set.proofs.Sets.{with_those}
use Rattle.prefix_set.proofs.Slots.{AllOut, those_past, keys_united}
use Rattle.prefix_set.proofs.run.Run.prefixes.Goals as goal

-- the slice that is listed has what all slots have
listed_all : (es slots : List Slot) (start : ℕ) (prefixes : List PrefixValue) → slots ≡ es → AllOut (take start es)
    → prefixes ≡ those_in (take (length slots - start) (drop start slots)) → prefixes ≡ those_in es
listed_all es slots start prefixes same out is = is
    ∙ (ap (λ (xs : List Slot). those_in (take (length xs - start) (drop start xs))) same ∙ those_past es start out)

pub returns-clause-all : goal.returns-clause-all
returns-clause-all c =
    let es = c.self.inside.slots.items in
    IfOk-weaker c.listed.result _ (λ prefixes. (beside : PrefixSet) → with_all beside prefixes ≡ united c.args.self.now beside) (λ prefixes is beside.
    ap (with_all beside) (listed_all es c.deref.result.now c.self.inside.start prefixes c.deref.ensures.value c.self.invariant.out is)
    ∙ (with_those es beside ∙ ap (λ (xs : List Slot). united xs beside) c.self.view_is)) c.listed.ensures

pub returns-clause-alone : goal.returns-clause-alone
returns-clause-alone c =
    let es = c.self.inside.slots.items in
    IfOk-weaker c.listed.result _ (λ prefixes. (beside : PrefixSet) → map.len beside ≡ 0 → map.keys (united c.args.self.now beside) ≡ prefixes)
    (λ prefixes is beside none.
    ap (λ (xs : List Slot). map.keys (united xs beside)) (sym c.self.view_is)
    ∙ (keys_united es c.self.invariant.rise beside none
    ∙ sym (listed_all es c.deref.result.now c.self.inside.start prefixes c.deref.ensures.value c.self.invariant.out is))) c.listed.ensures
