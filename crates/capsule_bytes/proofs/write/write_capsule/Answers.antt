use Rattle.std.proofs.Common.{List, ℕ, [], ◌∷◌, ◌∙◌, ap, ◌++◌, length, refl}
use Rattle.std.specs.Int.{w32}
use Rattle.capsule_bytes.specs.Fields.{text, counted, spelled}
use Rattle.capsule_bytes.specs.Capsules.{config_fields, name_fields, end_fields, line_fields, change_fields, body_fields}
use Rattle.capsule_bytes.proofs.OneSpelling.{one_capsule}
use Rattle.capsule_bytes.proofs.Checked.{fits_below}
use Rattle.capsule_bytes.proofs.Written.{written, parts_right}
use Rattle.capsule_bytes.proofs.write.write_capsule.Goals as goal

pub push_name-requires : goal.push_name-requires
push_name-requires c = (parts_right c.args.parts.now c.requires).import

pub push_name-requires-2 : goal.push_name-requires-2
push_name-requires-2 c = (parts_right c.args.parts.now c.requires).export

pub push_end-requires : goal.push_end-requires
push_end-requires c = (parts_right c.args.parts.now c.requires).end

pub push_text-requires : goal.push_text-requires
push_text-requires c = rw c.deref.ensures (fits_below (length c.args.parts.now.held) 4294967296 (parts_right c.args.parts.now c.requires).held.0.0)

pub push_lines-requires : goal.push_lines-requires
push_lines-requires c = rw c.deref-2.ensures (parts_right c.args.parts.now c.requires).story

pub push_changes-requires : goal.push_changes-requires
push_changes-requires c = rw c.deref-3.ensures (parts_right c.args.parts.now c.requires).late

pub returns-clause-spelled : goal.returns-clause-spelled
returns-clause-spelled c =
    let p = c.args.parts.now in
    written (config_fields p.peering.0 p.remote_as p.home_as p.identifier p.remote_address p.local_address p.home_hold p.offered p.unicast
    ∷ name_fields p.import ∷ name_fields p.export ∷ end_fields p.end ∷ text w32 p.held ∷ counted line_fields p.story ∷ []) (counted change_fields p.late)
    _ _ _ (
      _,
      c.in_ok-push_config.ensures,
      (
        _,
        c.in_ok-push_name.ensures,
        (
          _,
          c.in_ok-push_name-2.ensures,
          (
            _,
            c.in_ok-push_end.ensures,
            (_, rw c.deref.ensures at c.in_ok-push_text.ensures, (_, rw c.deref-2.ensures at c.in_ok-push_lines.ensures, refl)),
          ),
        ),
      ),
    )
    (rw c.deref-3.ensures at c.in_ok-push_changes.ensures)
    ∙ ap (λ (o : List ℕ). o ++ spelled (body_fields p)) c.in_ok-octets.ensures

pub returns-clause-one : goal.returns-clause-one
returns-clause-one c = λ other it. one_capsule _ other c.args.parts.now it (record { capsule = c.requires; bytes_are = returns-clause-spelled c })
