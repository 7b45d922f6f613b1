use Rattle.std.proofs.Common.{refl}
use Rattle.bgp_types.specs.PathOctets.{path_octets}
use Rattle.bgp_types.specs.Spelling.{spell, spell_attrs, attrs_written}
use Rattle.route_policy.proofs.laws.worked_telling.Goals as goal

pub returns-clause-told : goal.returns-clause-told
unfolding spell spell_attrs attrs_written path_octets
returns-clause-told c = refl

pub returns-clause-plainly : goal.returns-clause-plainly
unfolding spell spell_attrs attrs_written path_octets
returns-clause-plainly c = refl

pub returns-clause-longest : goal.returns-clause-longest
unfolding spell spell_attrs attrs_written path_octets
returns-clause-longest c = refl

pub returns-clause-too_long : goal.returns-clause-too_long
unfolding spell spell_attrs attrs_written path_octets
returns-clause-too_long c = refl

pub returns-clause-back : goal.returns-clause-back
returns-clause-back c = refl

pub returns-clause-through : goal.returns-clause-through
returns-clause-through c = refl

pub returns-clause-aggregated : goal.returns-clause-aggregated
returns-clause-aggregated c = refl

pub returns-clause-elsewhere : goal.returns-clause-elsewhere
unfolding spell spell_attrs attrs_written path_octets
returns-clause-elsewhere c = refl

pub returns-clause-denied : goal.returns-clause-denied
returns-clause-denied c = refl

pub returns-clause-inside : goal.returns-clause-inside
returns-clause-inside c = refl
