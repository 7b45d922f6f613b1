use Rattle.std.proofs.Common.{◌≡◌, ap, ◌∙◌, option_copied, arith}
use Rattle.route_policy.specs.Telling.{OutSide}
use Rattle.session_value.specs.declared.config.SessionConfig.{SessionConfig}
use Rattle.router_tables.specs.Entering.{rules_by}
use Rattle.audit_tables.proofs.Finding.{found_here}
use Rattle.audit_tables.proofs.Known.{telling_on}
use Rattle.audit_tables.proofs.tables.Tables.find.Goals as goal

pub set-due-requires : goal.set-due-requires
set-due-requires c = omega (arith, c.requires.there, c.requires.sound.due_out)

pub returns : goal.returns
returns c =
    let t = c.args.self.now in
    let s = c.args.session.now.session in
    let config = c.config-config.result.now in
    let out : OutSide = record {
      peering = config.peering;
      remote_as = config.remote_as;
      local_address = config.local_address;
      export_rules = option_copied c.policy_of.result;
    } in
    let out_is : out ≡ record {
      peering = s.config.peering;
      remote_as = s.config.remote_as;
      local_address = s.config.local_address;
      export_rules = rules_by t.policies s.config.export;
    } =
    ap (λ x. let y : OutSide = record { peering = config.peering; remote_as = config.remote_as; local_address = config.local_address; export_rules = x } in
    y) c.policy_of.ensures
    ∙ ap (λ (k : SessionConfig). let y : OutSide =
    record { peering = k.peering; remote_as = k.remote_as; local_address = k.local_address; export_rules = rules_by t.policies k.export } in y)
    c.config-config.ensures in
    λ places. c.new.ensures (telling_on t places c.args.p s)
    (found_here t c.requires.sound places c.args.p s c.set-due.result.now c.told.result.now out c.in_ok-batches.batches c.set-due.ensures c.told.ensures
    out_is c.in_ok-batches.ensures)
