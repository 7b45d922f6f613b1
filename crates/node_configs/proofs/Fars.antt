-- The configuration of a far side.
use Rattle.std.proofs.Common.{◌≡◌, ℕ, ◌≤◌, Bool, false, List, length, sym, ap, ◌∙◌, subst, arith}
use Rattle.std.specs.Prelude.{Some, option_map, unwrap_or, slice_get}
use Rattle.graft_edge.specs.declared.ids.RouterId.{RouterId}
use Rattle.graft_model.specs.Setups.{IsPeeringSetup, keepalive_interval_of}
use Rattle.lab_tables.specs.declared.input.LabInput.{LabInput}
use Rattle.lab_tables.specs.declared.input.PeeringInput.{PeeringInput}
use Rattle.lab_input.specs.Counts.{is_wide}
use Rattle.lab_setup.specs.Setups.{setup_of, peering_setup, is_wide_at}
use Rattle.actor_configs.specs.Says.{bytes_to_say, say_by}
use Rattle.actor_configs.specs.Fars.{IsFarConfigOf}
use Rattle.actor_configs.specs.declared.far.FarConfig.{FarConfig}
use Rattle.node_configs.specs.Accepted.{IsAccepted}
use Rattle.node_configs.specs.Says.{says_of}
use Rattle.node_configs.proofs.Accepted.{HasFew, few, is_setup}
use Rattle.lab_setup.proofs.Ready.{as_many_routers, as_many_peerings}
use Rattle.lab_setup.proofs.Setups.{peering_there, steps_are}
use Rattle.node_configs.proofs.Said.{says_are}

width : (input : LabInput) (p : ℕ) (x : PeeringInput) → slice_get input.peerings p ≡ Some x → is_wide x ≡ is_wide_at input.peerings p
width input p x there = sym (ap (λ o. unwrap_or (option_map is_wide o) false) there)

module _ (input : LabInput) (accepted : IsAccepted input) (config : FarConfig)
    (x : PeeringInput) (there : slice_get input.peerings config.peering.0 ≡ Some x) where
  abbrev p : ℕ
  p = config.peering.0

  pub is_config : config.routers ≡ length input.routers → config.peerings ≡ length input.peerings → config.pointer ≡ x.at
      → config.send_first.0 ≡ x.remote_seq → config.receive_first.0 ≡ x.home_seq
      → config.opening ≡ x.opening → config.says ≡ says_of (is_wide x) p input.steps → config.beat ≡ keepalive_interval_of (peering_setup input (p, x))
      → IsFarConfigOf (setup_of input) config
  is_config routers peerings pointer sends receives opening said beat =
      let counts : HasFew input = few input accepted in
      let sound : IsPeeringSetup (setup_of input) p (peering_setup input (p, x)) =
      (is_setup input accepted).peerings p (peering_setup input (p, x)) (peering_there input p x there) in
      record {
        peering = peering_setup input (p, x);
        is = peering_there input p x there;
        routers = routers ∙ sym (as_many_routers input);
        few = (let most = counts.routers in omega arith);
        peerings = peerings ∙ sym (as_many_peerings input);
        pointer = ap (λ (r : RouterId). r.0) pointer;
        known = sound.start;
        sends = ap (λ n. record { 0 = n }) sends;
        receives = ap (λ n. record { 0 = n }) receives;
        opening = opening;
        short = subst (λ (bytes : List ℕ). length bytes ≤ 4096) (sym opening) sound.opening;
        says = λ step. ap (λ ss. bytes_to_say ss step) said
            ∙ ap (λ (w : Bool). bytes_to_say (says_of w p input.steps) step) (width input p x there)
            ∙ says_are input.peerings p input.steps step
            ∙ sym (ap (λ ss. say_by p (slice_get ss step)) (steps_are input));
        beat = beat;
      }
