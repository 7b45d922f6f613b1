-- A value that is changed below a node, and in a table.
use Rattle.std.proofs.Common.{◌≡◌, true, List, Option, Some, None, length, sym, ap, ◌∙◌}
use Rattle.std.specs.Prelude.{T, is_some, IfSome, IfNone}
use Rattle.std.specs.FinMap as map
use Rattle.std.specs.FinMap.{find, is_sorted}
use Rattle.bgp_types.specs.Prefixes.{PrefixValue}
use Rattle.bgp_types.specs.Tables.{prefix_cmp}
use Rattle.bgp_types.proofs.TableLaws.{table_get, table_put}
use Rattle.prefix_trie.specs.Changes.{ChangeResult, ChangesAt}
use Rattle.prefix_trie.proofs.Counts.{put_len}

-- ---- a table

module _ {V R : Type 0} (steps : V → R → V → Type 0) (p : PrefixValue) (es fs : List (PrefixValue × V)) (rise : T (is_sorted prefix_cmp es)) where
  pub change_len : (r : Option R) → ChangeResult steps p r es fs → length fs ≡ length es
  change_len (Some x) c = ap length c.entries ∙ put_len p c.new es rise true (ap is_some c.there)
  change_len None c = ap length c.entries

  module _ (t : map.FinMap prefix_cmp V) (is : map.from_sorted {R = prefix_cmp} es ≡ t) where
    got : map.get t p ≡ find prefix_cmp p es
    got = ap (λ (m : map.FinMap prefix_cmp V). map.get m p) (sym is) ∙ table_get es rise p

    pub table_changed : (r : Option R) → ChangeResult steps p r es fs → IfSome r (λ x. ChangesAt steps p x t (map.from_sorted {R = prefix_cmp} fs))
    table_changed (Some x) c = record {
      old = c.old;
      new = c.new;
      there = got ∙ c.there;
      step = c.step;
      contents = ap (map.from_sorted {R = prefix_cmp}) c.entries ∙ (table_put es rise p c.new ∙ ap (λ (m : map.FinMap prefix_cmp V). map.insert m p c.new) is);
    }
    table_changed None c = tt

    pub table_absent : (r : Option R) → ChangeResult steps p r es fs → IfNone r (map.get t p ≡ None)
    table_absent (Some x) c = tt
    table_absent None c = got ∙ c.none
