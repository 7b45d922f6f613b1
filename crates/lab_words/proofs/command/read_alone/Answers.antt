use Rattle.std.proofs.Common.{◌≡◌, length, codes, rules, slice_get, arith}
use Rattle.std.proofs.lemmas.Grind.{common_steps}
use Rattle.std.specs.Prelude.{Some}
use Rattle.lab_words.proofs.Answers.{one_word}
use Rattle.lab_words.proofs.command.read_alone.Goals as goal

pub returns-in-text-clause-found : goal.returns-in-text-clause-found
returns-in-text-clause-found c =
    let one : length c.args.words.now ≡ 1 = first_of (search rules, omega arith, grind (arith, common_steps)) in
    let get : slice_get c.args.words.now 0 ≡ Some (codes "--help") = first_of (search rules, grind (arith, common_steps)) in
    one_word c.args.words.now (codes "--help") one get

pub returns-in-text-2-clause-found : goal.returns-in-text-2-clause-found
returns-in-text-2-clause-found c =
    let one : length c.args.words.now ≡ 1 = first_of (search rules, omega arith, grind (arith, common_steps)) in
    let get : slice_get c.args.words.now 0 ≡ Some (codes "--version") = first_of (search rules, grind (arith, common_steps)) in
    one_word c.args.words.now (codes "--version") one get
