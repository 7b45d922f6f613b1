use Rattle.std.proofs.Common.{◌≡◌, List, [], ◌∷◌, ◌++◌, Bool, true, false, refl, sym, ap, subst, ◌∙◌, length, length-append, arith}
use Rattle.std.specs.Prelude.{MatchBool, None}
use Rattle.std.specs.List.{All}
use Rattle.std.proofs.lemmas.List.Elements.{All-head}
use Rattle.bgp_types.specs.declared.message.Message.TheVariants.{UpdateMsg}
use Rattle.bgp_types.specs.declared.message.Update.{Update}
use Rattle.bgp_types.specs.Prefixes.{PrefixValue, IsPrefix}
use Rattle.bgp_types.specs.Writable.{IsWritable}
use Rattle.route_policy.specs.Telling.{OutSide}
use Rattle.rib_stages.specs.Values.{rib_of}
use Rattle.update_plan.specs.Gathering.{AreSound}
use Rattle.update_plan.specs.Plans.{IsPlan, IsWritableFor}
use Rattle.update_plan.specs.ToTell.{IsPrefixToTell, rib_to_tell}
use Rattle.update_plan.specs.declared.batch.Batch.{Batch}
use Rattle.update_plan.proofs.PlanLaws.{one_way}
use Rattle.rib_rows.proofs.plans.written.Goals as goal

when_true : (P Q : Type 0) (b : Bool) → b ≡ true → MatchBool b P Q → P
when_true P Q b e h = subst (λ (t : Bool). MatchBool t P Q) e h

none_before : (before : List Batch) (batch : Batch) (all : List Batch) → all ≡ before ++ batch ∷ [] → length all ≡ 1 → before ≡ []
none_before [] batch all e one = refl
none_before (x ∷ xs) batch all e one = let a = ap (λ (l : List Batch). length l) e in let b = length-append xs (batch ∷ []) in absurd (omega (arith, one))

alone : (all before : List Batch) (batch : Batch) → all ≡ before ++ batch ∷ [] → before ≡ [] → all ≡ batch ∷ []
alone all before batch e none = e ∙ ap (λ (l : List Batch). l ++ batch ∷ []) none

pub write_message-requires : goal.write_message-requires
write_message-requires c =
    let rib = rib_of c.args.rib.now in
    let out : OutSide = record { peering = record { 0 = c.args.peering }; remote_as = c.args.remote_as; local_address = 3221225990; export_rules = None } in
    let adj_rib_out = c.new-adj_rib_out.result in
    let is : c.in_ok-batches.batches ≡ c.in-Some.batch ∷ [] = alone c.in_ok-batches.batches c.pop.new.self.items c.in-Some.batch
    (sym c.into_vec-batches.ensures ∙ c.in-Some.ensures.items) (none_before c.pop.new.self.items c.in-Some.batch c.in_ok-batches.batches
    (sym c.into_vec-batches.ensures ∙ c.in-Some.ensures.items) (sym c.len.ensures ∙ c.if-len-ne1.false)) in
    let kind : PrefixValue → Type 0 = λ x. IsPrefixToTell c.args.due.now c.args.rib.now.dirty adj_rib_out (rib_to_tell rib out) x in
    let plan : IsPlan kind (rib_to_tell rib out) false (c.in-Some.batch ∷ []) =
    subst (λ (l : List Batch). IsPlan kind (rib_to_tell rib out) false l) is c.in_ok-batches.ensures.planned in
    let sound : AreSound (c.in-Some.batch ∷ []) = subst AreSound is c.in_ok-batches.ensures.sound in
    let writable = when_true (IsWritableFor c.in-Some.batch)
    (¬ IsWritableFor c.in-Some.batch) c.is_writable.result c.if-not-is_writable.false c.is_writable.ensures in
    let way = one_way kind (rib_to_tell rib out) false c.in-Some.batch plan.0
    (All-head (λ (b : Batch). All IsPrefix b.prefixes) c.in-Some.batch [] sound) writable in
    subst (λ (u : Update). IsWritable (UpdateMsg u) false) (sym c.into_update.ensures) way.writable
