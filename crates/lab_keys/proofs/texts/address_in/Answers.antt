use Rattle.lab_keys.proofs.TextFinds.{same_address}
use Rattle.lab_keys.proofs.texts.address_in.Goals as goal

pub returns : goal.returns
returns c = same_address c.args.text.now c.read_address.result c.read_address.ensures
