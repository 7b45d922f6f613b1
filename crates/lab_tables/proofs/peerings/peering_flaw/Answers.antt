use Rattle.std.proofs.Common.{◌≡◌, ◌∙◌, ◌++◌, [], refl, sym, ap, not, rules}
use Rattle.std.specs.Prelude.{◌==◌, ◌&&◌, Option, Some, None, false, codes}
use Rattle.std.specs.Option.{option_or}
use Rattle.toml.specs.View.{table_view}
use Rattle.lab_keys.specs.declared.flaw.Flaw.TheVariants.{Shape}
use Rattle.lab_keys.specs.declared.table_at.TableAt.TheVariants as tables
use Rattle.lab_keys.specs.Spots.{spot_of}
use Rattle.lab_keys.specs.Kinds.{flaw_if}
use Rattle.lab_keys.specs.Keys.{keys_flaw, stray_flaw, names_of}
use Rattle.lab_keys.specs.Values.{number_or, flag_or}
use Rattle.lab_tables.specs.Peerings.{peering_ends, peering_rest, peering_last, may_beat}
use Rattle.lab_tables.proofs.peerings.peering_flaw.Goals as goal

skip : {F : Type 0} (o rest : Option F) → o ≡ None → option_or o rest ≡ rest
skip o rest none = ap (λ x. option_or x rest) none

or_none : {F : Type 0} (o : Option F) → option_or o None ≡ o
or_none None = refl
or_none (Some x) = refl

last_of_six : {F : Type 0} (a b c d e f : Option F) → a ≡ None → b ≡ None → c ≡ None → d ≡ None → e ≡ None
    → option_or a (option_or b (option_or c (option_or d (option_or e (option_or f None))))) ≡ f
last_of_six a b c d e f is_a is_b is_c is_d is_e =
    skip a (option_or b (option_or c (option_or d (option_or e (option_or f None))))) is_a
    ∙ skip b (option_or c (option_or d (option_or e (option_or f None)))) is_b
    ∙ skip c (option_or d (option_or e (option_or f None))) is_c ∙ skip d (option_or e (option_or f None)) is_d ∙ skip e (option_or f None) is_e ∙ or_none f

pub returns : goal.returns
returns c =
    let t = table_view c.args.table.now in
    let doc = table_view c.args.doc.now in
    let at = tables.Peering c.args.i in
    let ends : keys_flaw at peering_ends t ≡ None = search rules in
    let own : flaw_if (number_or 32 0 (codes "remote_as") t == number_or 32 0 (codes "home_as") doc) (Shape (spot_of at (codes "remote_as"))) ≡ None =
    search rules in
    let rest : keys_flaw at peering_rest t ≡ None = search rules in
    let beats : flaw_if (flag_or false (codes "beats") t && not (may_beat doc t)) (Shape (spot_of at (codes "beats"))) ≡ None = search rules in
    let last : keys_flaw at peering_last t ≡ None = search rules in
    let stray : c.stray_flaw.result ≡ stray_flaw at (names_of (peering_ends ++ peering_rest ++ peering_last)) t =
    c.stray_flaw.ensures ∙ ap (λ ks. stray_flaw at (names_of ks) t) c.peering_keys-rows.ensures in
    stray ∙ sym (last_of_six _ _ _ _ _ (stray_flaw at (names_of (peering_ends ++ peering_rest ++ peering_last)) t) ends own rest beats last)
