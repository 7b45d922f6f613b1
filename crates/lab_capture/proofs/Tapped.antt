-- What is tapped at an entry that an auditor takes.
use Rattle.std.proofs.Common.{◌≡◌, ℕ, ◌<◌, Bool, List, length, get_or, Option, Some, None, sym, ap, ◌∙◌, subst}
use Rattle.std.specs.Prelude.{slice_get}
use Rattle.std.specs.Option.{option_and_then}
use Rattle.std.proofs.lemmas.Option.{slice_get-get_or}
use Rattle.ring_net.specs.declared.entry.JournalEntry.{JournalEntry}
use Rattle.graft_model.specs.Setups.{Setup, peerings_in}
use Rattle.graft_model.specs.Steps.{Event, ByFar}
use Rattle.graft_model.specs.declared.event.FarEvent.{FarEvent}
use Rattle.graft_model.specs.declared.event.FarEvent.TheVariants.{Send, Reach}
use Rattle.graft_actors.specs.Laws.{IsEntryOf, OneEventHasTheEntry}
use Rattle.audit_far.specs.declared.far.AuditedFar.{AuditedFar}
use Rattle.lab_tables.specs.declared.input.LabInput.{LabInput}
use Rattle.lab_setup.specs.Setups.{setup_of}
use Rattle.run_auditor.specs.Sound.{AuditorInvariant}
use Rattle.run_auditor.specs.Steps.{TakesEntry}
use Rattle.run_auditor.specs.declared.auditor.Auditor.{Auditor}
use Rattle.run_auditor.specs.declared.step.Step.{Step as Answer}
use Rattle.lab_capture.specs.Taps.{tapped}
use Rattle.lab_capture.specs.Tapping.{IsTapped, packet_of}
use Rattle.lab_capture.proofs.Links.{elsewhere_seen, none_seen, reach_seen, send_seen}

-- the auditor has the far side of an event
pub far_there : (input : LabInput) (f : Auditor) → AuditorInvariant f → f.known.setup ≡ setup_of input → (p : ℕ) (event : FarEvent) (entry : JournalEntry)
    → IsEntryOf (setup_of input) (ByFar p event) entry → p < length f.far_sides.items
far_there input f inv known p event entry own =
    subst (λ (n : ℕ). p < n) (sym (inv.all_far_sides ∙ ap (λ (s : Setup). peerings_in s) known)) own.there

module _ (input : LabInput) (entry : JournalEntry) (old new : Auditor) (inv : AuditorInvariant old) (known : old.known.setup ≡ setup_of input)
    (answer : Answer) (takes : TakesEntry entry old answer new) where
  pub by_no_far : ((p : ℕ) (event : FarEvent) → ¬ IsEntryOf (setup_of input) (ByFar p event) entry) → IsTapped input entry old None new
  by_no_far none = record { answer = answer; takes = takes; packet_is = λ event w v own stands stands_too. elsewhere_seen input entry none event w v own }

  module _ (one_event : OneEventHasTheEntry) (p : ℕ) (event : FarEvent) (own : IsEntryOf (setup_of input) (ByFar p event) entry) where
    same : (other : Event) → IsEntryOf (setup_of input) other entry → ByFar p event ≡ other
    same other is = one_event (setup_of input) (ByFar p event) other entry own is

    pub by_other : ((from len : ℕ) → event ≡ Send from len → ⊥) → ((index : ℕ) (keep : Bool) → event ≡ Reach index keep → ⊥)
        → IsTapped input entry old None new
    by_other send reach = record {
      answer = answer;
      takes = takes;
      packet_is = λ other w v is stands stands_too.
          subst (λ (e : Event). None ≡ tapped input e w v) (same other is) (none_seen input p event send reach w v);
    }

    pub by_reach : (index : ℕ) (keep : Bool) → event ≡ Reach index keep → (x : AuditedFar) → slice_get old.far_sides.items p ≡ Some x
        → (packet : Option (List ℕ)) → packet ≡ option_and_then (packet_of input) (slice_get x.remoteward index) → IsTapped input entry old packet new
    by_reach index keep is_reach x at packet is_packet = record {
      answer = answer;
      takes = takes;
      packet_is = λ other w v is stands stands_too. is_packet ∙ (reach_seen input old inv known p x at w stands v index keep
          ∙ ap (λ (e : Event). tapped input e w v) (sym (ap (λ (e : FarEvent). ByFar p e) is_reach) ∙ same other is));
    }

    pub by_send : (from len : ℕ) → event ≡ Send from len → (x y : AuditedFar) → slice_get old.far_sides.items p ≡ Some x
        → slice_get new.far_sides.items p ≡ Some y → (n : ℕ) → n ≡ length x.homeward → (packet : Option (List ℕ))
        → packet ≡ option_and_then (packet_of input) (slice_get y.homeward n) → IsTapped input entry old packet new
    by_send from len is_send x y at there n many packet is_packet = record {
      answer = answer;
      takes = takes;
      packet_is = λ other w v is stands stands_too. is_packet
          ∙ (send_seen input old inv known p x at w stands new takes.sound (takes.setup ∙ known) y there v stands_too from len n many
          ∙ ap (λ (e : Event). tapped input e w v) (sym (ap (λ (e : FarEvent). ByFar p e) is_send) ∙ same other is));
    }

-- the far side that is read at an index
pub far_read : (f : Auditor) (p : ℕ) (x : AuditedFar) (xs : List AuditedFar) → p < length f.far_sides.items → xs ≡ f.far_sides.items
    → x ≡ get_or xs p x → slice_get f.far_sides.items p ≡ Some x
far_read f p x xs below are is =
    slice_get-get_or f.far_sides.items p x below ∙ ap Some (sym (is ∙ ap (λ (l : List AuditedFar). get_or l p x) are))
