-- A laboratory that has no timer by its bytes has none whatever message is the first.
use Rattle.std.proofs.Common.{◌≡◌, ℕ, true, false, List, [], ◌++◌, Option, Some, None, min, refl, sym, ap, ◌∙◌, inl, inr}
use Rattle.std.specs.Prelude.{◌==◌, IsSome, slice_get, option_map, unwrap_or}
use Rattle.std.proofs.lemmas.Bool.{eqb-true, false≢true}
use Rattle.bgp_types.specs.declared.fault.Expected.{Expected}
use Rattle.bgp_types.specs.declared.fault.HeaderFault.{HeaderFault}
use Rattle.bgp_types.specs.declared.message.OpenMsg as open_type
use Rattle.bgp_types.specs.declared.message.SessionState.TheVariants.{OpenSent}
use Rattle.bgp_types.specs.FirstFault.{message_of, with_header}
use Rattle.bgp_types.specs.Header.{frame_at, header_fault}
use Rattle.bgp_types.proofs.FrameLaws.{front_frame}
use Rattle.bgp_story.specs.Legal.{IsGot, open_in}
use Rattle.graft_model.specs.Setups.{Setup, PeeringSetup, keepalive_interval_of}
use Rattle.one_answer.specs.Settled.{said_in_all, HasNoTimer}
use Rattle.even_inputs.specs.Announced.{open_at_front}
use Rattle.even_inputs.specs.Timers.{hold_offered, has_no_timer_on, has_no_timer}
use Rattle.even_inputs.proofs.Lists.{both, all_true, at_number}

-- a faulty header is no OPEN
faulty : (o : Option HeaderFault) (expected : Expected) (bytes : List ℕ) → IsSome o → open_in (with_header o expected bytes) ≡ None
faulty None expected bytes some = absurd (false≢true some)
faulty (Some fault) expected bytes some = refl

no_open : (expected : Expected) (bytes : List ℕ) → IsSome (header_fault bytes) → open_in (message_of expected bytes) ≡ None
unfolding message_of
no_open expected bytes some = faulty (header_fault bytes) expected bytes some

none_is_some : {A : Type 0} (x : A) → ◌≡◌ {A = Option A} None (Some x) → ⊥
none_is_some x e = absurd cc

module _ (peering : PeeringSetup) where
  -- as what the first message is read
  abbrev at_first : Expected
  at_first = record { state = OpenSent; remote_as = peering.config.remote_as; offered = peering.config.offered; wide = false }

  abbrev hold_in : Option open_type.OpenMsg → ℕ
  hold_in o = unwrap_or (option_map (λ (opened : open_type.OpenMsg). opened.hold) o) 0

  -- the hold time that is offered is that of the OPEN at the front
  offers_first : (said front rest : List ℕ) (opened : open_type.OpenMsg) → said ≡ front ++ rest → IsGot front
      → open_in (message_of at_first front) ≡ Some opened → hold_offered peering said ≡ opened.hold
  offers_first said front rest opened is (inl whole) e =
      ap (λ (o : Option (List ℕ × List ℕ)). hold_in (open_at_front peering o)) (ap frame_at is ∙ (front_frame front (front, []) whole).1 rest)
      ∙ ap hold_in e
  offers_first said front rest opened is (inr fault) e = absurd (none_is_some opened (sym (no_open at_first front fault.1) ∙ e))

module _ (setup : Setup) (none : has_no_timer setup ≡ true) where
  on : (p : ℕ) (peering : PeeringSetup) → slice_get setup.peerings p ≡ Some peering
      → ((min peering.config.home_hold (hold_offered peering (said_in_all setup p peering)) == 0) ≡ true) × ((keepalive_interval_of peering == 0) ≡ true)
  on p peering is = both _ _ (at_number (λ (x : ℕ × PeeringSetup). has_no_timer_on setup x ≡ true) setup.peerings p peering (all_true _ _ none) is)

  pub no_timer : HasNoTimer setup
  no_timer = record {
    holds = λ p peering front rest opened is said got opens.
        ap (λ (h : ℕ). min peering.config.home_hold h) (sym (offers_first peering (said_in_all setup p peering) front rest opened said got opens))
        ∙ eqb-true _ _ (on p peering is).0;
    beats = λ p peering is. eqb-true _ _ (on p peering is).1;
  }
