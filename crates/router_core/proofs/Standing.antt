-- What a router keeps while its stages change it.
use Rattle.std.proofs.Common.{◌≡◌, ℕ, length, refl, sym, ap, subst, ◌∙◌}
use Rattle.rib_stages.specs.Values.{rib_of, table_at}
use Rattle.graft_model.specs.Setups.{peerings_in}
use Rattle.router_core.specs.Parts.{RouterInvariant, KeepsPlace}
use Rattle.router_core.specs.Places.{place_at}
use Rattle.router_core.specs.declared.fields.Fields.{Fields}
use Rattle.router_core.proofs.Kept.{keeps_on}

pub keeps_turns : (f : Fields) (n : ℕ) → RouterInvariant f → RouterInvariant (record f { turns = n })
keeps_turns f n k = keeps_on f (record f { turns = n }) k refl
    (record { places = refl; reserved = refl; due_in = refl; due_out = refl; config = refl; tellings = λ q out. refl }) k.each

-- there is a place for each peering, before and after
pub same_places : (f g : Fields) → RouterInvariant f → RouterInvariant g → g.known.setup ≡ f.known.setup → length g.places.places ≡ length f.places.places
same_places f g before after same = after.places ∙ ap peerings_in same ∙ sym before.places

-- what is due to routers changes, and nothing else
pub keeps_due_in : (f g : Fields) → RouterInvariant f → g ≡ record f { due_in = g.due_in } → length g.due_in ≡ length f.due_in → RouterInvariant g
keeps_due_in f g keeps same sizes = keeps_on f g keeps
    (subst (λ (h : Fields). h ≡ record f { places = h.places; rib = h.rib; due_in = h.due_in; due_out = h.due_out; turns = h.turns }) (sym same) refl)
    (record {
      places = ap (λ (h : Fields). length h.places.places) same;
      reserved = ap (λ (h : Fields). h.places.room) same;
      due_in = sizes;
      due_out = ap (λ (h : Fields). length h.due_out) same;
      config = ap (λ (h : Fields). h.rib.config) same;
      tellings = λ q out. ap (λ (h : Fields). (rib_of h.rib).tellings q) same;
    })
    (λ p. subst (λ (h : Fields). KeepsPlace f.known.setup f.number.0 p ((rib_of h.rib).entries p) (table_at h.due_out p) (place_at h.places.places p))
    (sym same) (keeps.each p))
