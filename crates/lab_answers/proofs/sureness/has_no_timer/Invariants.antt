use Rattle.std.proofs.Common.{◌≡◌}
use Rattle.lab_setup.specs.Setups.{setup_of}
use Rattle.even_inputs.specs.Timers.{has_no_timer, has_no_timer_on}
use Rattle.lab_answers.proofs.Tested.{all_from}
use Rattle.lab_answers.proofs.sureness.has_no_timer.Given as goal

-- Whether any session has a timer is left to those from here on.
abbrev pub invariant-loop-i : goal.invariant-loop-i
invariant-loop-i l = all_from (has_no_timer_on (setup_of l.input)) (setup_of l.input).peerings l.i ≡ has_no_timer (setup_of l.input)
