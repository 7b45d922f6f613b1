-- Entries of far sides.
use Rattle.std.proofs.Common.{◌≡◌, ◌≢◌, ℕ, ◌+◌, ◌<◌, ◌≤◌, length, sym, ap, ◌∙◌, arith}
use Rattle.ring_net.specs.declared.entry.JournalEntry.{JournalEntry}
use Rattle.graft_model.specs.Codes.{far_code}
use Rattle.graft_model.specs.Setups.{peerings_in, routers_in}
use Rattle.graft_model.specs.Steps.{ByFar}
use Rattle.graft_model.specs.declared.event.FarEvent.{FarEvent}
use Rattle.graft_model.specs.declared.code.Code.{Code}
use Rattle.graft_actors.specs.Laws.{IsEntryOf}
use Rattle.graft_actors.specs.Makes.{HasCode}
use Rattle.lab_tables.specs.declared.input.LabInput.{LabInput}
use Rattle.lab_setup.specs.Setups.{setup_of}
use Rattle.lab_capture.specs.Tapping.{code_in}
use Rattle.lab_setup.proofs.Ready.{as_many_peerings, as_many_routers}

coded_as : (code : Code) (entry : JournalEntry) → HasCode code entry → code ≡ code_in entry
coded_as code entry has = λ i. record { kind = sym has.kind i; a = sym has.a i; b = sym has.b i; c = sym has.c i }

has_code : (code : Code) (entry : JournalEntry) → code ≡ code_in entry → HasCode code entry
has_code code entry is = record {
  kind = sym (ap (λ (x : Code). x.kind) is);
  a = sym (ap (λ (x : Code). x.a) is);
  b = sym (ap (λ (x : Code). x.b) is);
  c = sym (ap (λ (x : Code). x.c) is);
}

module _ (input : LabInput) (entry : JournalEntry) where
  -- no far side's event has this code
  pub no_event : ((event : FarEvent) → far_code event ≢ code_in entry) → (p : ℕ) (event : FarEvent) → ¬ IsEntryOf (setup_of input) (ByFar p event) entry
  no_event none p event own = none event (coded_as (far_code event) entry own.coded)

  -- no far side has the actor's number
  pub below_all : entry.actor < length input.routers → (p : ℕ) (event : FarEvent) → ¬ IsEntryOf (setup_of input) (ByFar p event) entry
  below_all less p event own =
      let routers = as_many_routers input in let maker : entry.actor ≡ routers_in (setup_of input) + p = own.maker in omega (arith, less, routers, maker)

  pub above_all : (n : ℕ) → entry.actor ≡ length input.routers + n → length input.peerings ≤ n
      → (p : ℕ) (event : FarEvent) → ¬ IsEntryOf (setup_of input) (ByFar p event) entry
  above_all n at more p event own =
      let routers = as_many_routers input in
      let peerings = as_many_peerings input in
      let maker : entry.actor ≡ routers_in (setup_of input) + p = own.maker in
      let known : p < peerings_in (setup_of input) = own.there in
      omega (arith, at, more, routers, peerings, maker, known)

  pub far_entry : (n : ℕ) (event : FarEvent) → far_code event ≡ code_in entry → entry.actor ≡ length input.routers + n → n < length input.peerings
      → IsEntryOf (setup_of input) (ByFar n event) entry
  far_entry n event is at below = record {
    there = (let peerings = as_many_peerings input in omega (arith, below, peerings));
    maker = at ∙ ap (λ (k : ℕ). k + n) (sym (as_many_routers input));
    coded = has_code (far_code event) entry is;
  }
