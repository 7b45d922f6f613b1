use Rattle.bgp_types.specs.Spelling.{spell_attrs}
use Rattle.bgp_types.proofs.AttrsReads.{attrs_are}
use Rattle.bgp_types.proofs.AttrsWritten.{attrs_again}
use Rattle.attr_codec.specs.Fields.{all_found}
use Rattle.attr_codec.proofs.laws.written_attrs_read.Goals as goal

pub returns : goal.returns
returns c = λ attrs wide fits. attrs_are wide (spell_attrs wide attrs) (all_found attrs) (attrs_again wide attrs fits.writable fits.size)
