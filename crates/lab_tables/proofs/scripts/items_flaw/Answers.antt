use Rattle.std.proofs.Common.{◌≡◌, ◌+◌, ◌-◌, ◌<◌, ◌∙◌, Bool, cond, List, length, map, take, drop, refl, sym, ap, arith}
use Rattle.std.specs.Prelude.{None, codes}
use Rattle.std.specs.List.{list_any, before_first}
use Rattle.std.proofs.lemmas.List.{length-map}
use Rattle.toml.specs.Data.{Data}
use Rattle.toml.specs.View.{view}
use Rattle.lab_keys.specs.declared.table_at.TableAt.TheVariants.{Top}
use Rattle.lab_keys.specs.Spots.{KeySpot, spot_of, member_of}
use Rattle.lab_keys.specs.Kinds.{each_from, table_flaw}
use Rattle.lab_keys.proofs.Walks.{each_goes_on}
use Rattle.lab_tables.specs.Scripts.{is_word, is_settle_word, is_evacuate, evacuates, group_before, group_from, grouped_flaw}
use Rattle.lab_tables.proofs.Groups.{any_mapped, group_next, mapped_get, mapped_drop, rest_whole}
use Rattle.lab_tables.proofs.scripts.items_flaw.Invariants.{step_at}
use Rattle.lab_tables.proofs.scripts.items_flaw.Goals as goal

pub loop-i-init : goal.loop-i-init
loop-i-init c = record {
  grouped = record {
    before_is = refl;
    whole_is = c.evacuates_in-whole.ensures ∙ any_mapped (is_word is_settle_word) (is_word is_evacuate) view c.args.steps.now;
  };
  walk = refl;
}

pub loop-i-preserved : goal.loop-i-preserved
loop-i-preserved c =
    let steps = c.args.steps.now in
    let i = c.loop-i.i in
    let v = c.index-steps-i.result in
    let d : Data = view v in
    let xs : List Data = map view steps in
    let at = c.loop-i.invariant.grouped in
    let within : i < length steps = omega arith in
    let inside : i < length xs = omega (arith, length-map steps view) in
    let S : Data → Bool = is_word is_settle_word in
    let ahead : list_any (λ w. is_word is_evacuate (view w)) (before_first (λ w. S (view w)) (take (length steps - (i + 1)) (drop (i + 1) steps)))
    ≡ evacuates (group_from xs (i + 1)) =
    ap (λ ys. list_any (λ w. is_word is_evacuate (view w)) (before_first (λ w. S (view w)) ys)) (rest_whole steps (i + 1))
    ∙ any_mapped S (is_word is_evacuate) view (drop (i + 1) steps)
    ∙ ap (λ ys. evacuates (before_first S ys)) (sym (mapped_drop view steps (i + 1))) in
    let spot : KeySpot = member_of (spot_of Top (codes "step")) i in
    let none : None ≡ step_at xs i d =
    c.in_default.ensures
    ∙ ap (λ (b : Bool). table_flaw spot (grouped_flaw b c.loop-i.whole i) d) at.before_is
    ∙ ap (λ (w : Bool). table_flaw spot (grouped_flaw (evacuates (group_before xs i)) w i) d) at.whole_is in
    record {
      grouped = group_next xs i d c.loop-i.before c.loop-i.whole c.before_next-before.result c.whole_next-whole.result inside
          (mapped_get view steps i v within c.index-steps-i.is) at
          c.before_next-before.ensures (c.whole_next-whole.ensures ∙ ap (λ (t : Bool). cond (S d) t c.loop-i.whole) ahead);
      walk = each_goes_on (step_at xs) view steps i v (each_from (step_at xs) 0 xs) within c.index-steps-i.is c.loop-i.invariant.walk none;
    }
