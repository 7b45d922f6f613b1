-- What a table answers whose values are seen through a function.
use Rattle.std.proofs.Common.{◌≡◌, Bool, true, false, cond, ◌&&◌, List, [], ◌∷◌, map, Some, refl, sym, ap, ◌∙◌, subst}
use Rattle.std.specs.Prelude.{T}
use Rattle.std.specs.FinMap as table
use Rattle.std.specs.FinMap.Entries.{below_all}
use Rattle.std.specs.Option.{option_map}
use Rattle.std.specs.Ordering.{eq_by_cmp, is_lt}
use Rattle.bgp_types.specs.Prefixes.{PrefixValue}
use Rattle.bgp_types.specs.Tables.{prefix_cmp}
use Rattle.forward_laws.specs.Seen.{each_value}

module _ {V W : Type 0} (f : V → W) where
  below_seen : (k : PrefixValue) (es : List (PrefixValue × V)) → below_all prefix_cmp k (map (λ e. (e.0, f e.1)) es) ≡ below_all prefix_cmp k es
  below_seen k [] = refl
  below_seen k (e ∷ es) = ap (λ (b : Bool). is_lt (prefix_cmp k e.0) && b) (below_seen k es)

  sorted_seen : (es : List (PrefixValue × V)) → table.is_sorted prefix_cmp (map (λ e. (e.0, f e.1)) es) ≡ table.is_sorted prefix_cmp es
  sorted_seen [] = refl
  sorted_seen (e ∷ es) = ap (λ (b : Bool). b && table.is_sorted prefix_cmp (map (λ e. (e.0, f e.1)) es)) (below_seen e.0 es)
      ∙ ap (λ (b : Bool). below_all prefix_cmp e.0 es && b) (sorted_seen es)

  find_seen : (q : PrefixValue) (es : List (PrefixValue × V)) → table.find prefix_cmp q (map (λ e. (e.0, f e.1)) es) ≡ option_map f (table.find prefix_cmp q es)
  find_seen q [] = refl
  find_seen q (e ∷ es) = elim (eq_by_cmp prefix_cmp q e.0) as (λ b.
      cond b (Some (f e.1)) (table.find prefix_cmp q (map (λ e. (e.0, f e.1)) es)) ≡ option_map f (cond b (Some e.1) (table.find prefix_cmp q es))) [
        | true ↦ refl
        | false ↦ find_seen q es
      ]

  module _ (m : table.FinMap prefix_cmp V) where
    rises : T (table.is_sorted prefix_cmp (map (λ e. (e.0, f e.1)) (table.entries m)))
    rises = subst T (sym (sorted_seen (table.entries m))) (table.entries_sorted m)

    pub each_get : (q : PrefixValue) → table.get (each_value f m) q ≡ option_map f (table.get m q)
    each_get q = table.get-from_sorted prefix_cmp (map (λ e. (e.0, f e.1)) (table.entries m)) q rises
        ∙ (find_seen q (table.entries m) ∙ ap (option_map f) (sym (table.get-entries m q)))
