use Rattle.bgp_types.proofs.AttrsReads.{attrs_read, attrs_are}
use Rattle.attr_codec.proofs.laws.fields_read_alike.Goals as goal

pub returns : goal.returns
returns c = λ field wide found octets. (λ e. attrs_read wide field found octets e, λ r. attrs_are wide field found r)
