use Rattle.std.proofs.Common.{arith, refl}
use Rattle.std.proofs.lemmas.Bool.Decides.{nat_tests}
use Rattle.session_rows.proofs.calls.begin.Goals as goal

pub begin-requires : goal.begin-requires
begin-requires c = record {
  home = record {
    home_as = 65000;
    offered = c.args.opening.offered;
    unicast = c.args.opening.unicast;
    is = refl;
    as_number = record { some = omega arith; fits = omega arith };
    hold_fits = omega arith;
    hold_time = grind (arith, nat_tests);
    host = refl;
  };
  remote_as = record { some = omega arith; fits = omega arith };
}
