use Rattle.std.proofs.Common.{◌≡◌, ◌==◌, ◌<◌, ◌∙◌, ℕ, Bool, List, cond, true, not, [], ◌∷◌, take, length, sym, ap, arith}
use Rattle.std.specs.HashSet.{contains_by}
use Rattle.std.specs.List.{list_any}
use Rattle.std.specs.Str.{bytes_eq}
use Rattle.bgp_types.specs.Texts.{address_text}
use Rattle.lab_keys.specs.Kinds.{first_of}
use Rattle.lab_tables.specs.declared.input.RouterInput.{RouterInput}
use Rattle.lab_input.specs.Names.{each_after, router_again, network_again, policy_again, repeated_if}
use Rattle.lab_input.proofs.Afters.{plain_goes_on, plain_stops, any_here, again_is}
use Rattle.lab_input.proofs.names.routers_again.Goals as goal

pub returns-in-Some : goal.returns-in-Some
returns-in-Some c =
    let r : RouterInput = c.router-item.result in
    let rs = c.args.routers.now in
    let i = c.loop-router.router-index in
    let behind = each_after network_again [] r.networks ∷ each_after policy_again [] r.policies ∷ [] in
    let is : c.as_str-name.result.now ≡ r.name = c.as_str-name.ensures in
    let had : contains_by (λ k. bytes_eq c.as_str-name.result.now k.now) c.loop-router.names ≡ list_any (λ q. bytes_eq q.name r.name) (take i rs) =
    c.loop-router.invariant.names c.as_str-name.result ∙ ap (λ (x : List ℕ). list_any (λ q. bytes_eq q.name x) (take i rs)) is in
    let name : not c.in_ok-new_name.new_name ≡ list_any (λ q. bytes_eq q.name r.name) (take i rs) = again_is _ _ _ c.in_ok-new_name.ensures.added had in
    let id : not c.in_ok-new_id.new_id ≡ list_any (λ q. q.id == r.id) (take i rs) =
    again_is _ _ _ c.in_ok-new_id.ensures.added (c.loop-router.invariant.ids r.id) in
    plain_stops router_again rs i r (omega arith) c.router-item.is c.in-Some.bad (each_after router_again [] rs) c.loop-router.invariant.walk
    (sym c.in-Some.is ∙ c.in_ok-found.ensures
    ∙ ap (λ (t : Bool). first_of (repeated_if t r.name ∷ repeated_if (not c.in_ok-new_id.new_id) (address_text r.id) ∷ behind)) name
    ∙ ap (λ (t : Bool). first_of (repeated_if (list_any (λ q. bytes_eq q.name r.name) (take i rs)) r.name ∷ repeated_if t (address_text r.id) ∷ behind)) id)

pub loop-router-preserved : goal.loop-router-preserved
loop-router-preserved c =
    let r : RouterInput = c.router-item.result in
    let rs = c.args.routers.now in
    let i = c.loop-router.router-index in
    let within : i < length rs = omega arith in
    let behind = each_after network_again [] r.networks ∷ each_after policy_again [] r.policies ∷ [] in
    let is : c.as_str-name.result.now ≡ r.name = c.as_str-name.ensures in
    let had : contains_by (λ k. bytes_eq c.as_str-name.result.now k.now) c.loop-router.names ≡ list_any (λ q. bytes_eq q.name r.name) (take i rs) =
    c.loop-router.invariant.names c.as_str-name.result ∙ ap (λ (x : List ℕ). list_any (λ q. bytes_eq q.name x) (take i rs)) is in
    let name : not c.in_ok-new_name.new_name ≡ list_any (λ q. bytes_eq q.name r.name) (take i rs) = again_is _ _ _ c.in_ok-new_name.ensures.added had in
    let id : not c.in_ok-new_id.new_id ≡ list_any (λ q. q.id == r.id) (take i rs) =
    again_is _ _ _ c.in_ok-new_id.ensures.added (c.loop-router.invariant.ids r.id) in
    record {
      names = λ text. any_here (λ q. bytes_eq q.name text.now) rs i r within c.router-item.is _ _
          (c.in_ok-new_name.ensures.updates.0 text
          ∙ ap (λ (x : List ℕ). cond (bytes_eq x text.now) true (contains_by (λ k. bytes_eq text.now k.now) c.loop-router.names)) is)
          (c.loop-router.invariant.names text);
      ids = λ other. any_here (λ q. q.id == other) rs i r within c.router-item.is _ _
          (c.in_ok-new_id.ensures.updates.0 other) (c.loop-router.invariant.ids other);
      walk = plain_goes_on router_again rs i r within c.router-item.is (each_after router_again [] rs) c.loop-router.invariant.walk
          (sym c.in-None.is ∙ c.in_ok-found.ensures
          ∙ ap (λ (t : Bool). first_of (repeated_if t r.name ∷ repeated_if (not c.in_ok-new_id.new_id) (address_text r.id) ∷ behind)) name
          ∙ ap (λ (t : Bool).
          first_of (repeated_if (list_any (λ q. bytes_eq q.name r.name) (take i rs)) r.name ∷ repeated_if t (address_text r.id) ∷ behind)) id);
    }
