use Rattle.std.proofs.Common.{ℕ, replicate, None, refl, ap, ◌∙◌}
use Rattle.audit_tables.specs.declared.tables.Tables.{Tables}
use Rattle.audit_tables.proofs.Beginning.{first_part, first_sound, first_unknown}
use Rattle.audit_tables.proofs.tables.Tables.new.Goals as goal

pub returns-clause-first : goal.returns-clause-first
returns-clause-first c =
    let t : Tables = record {
      alloc = c.args.alloc;
      known = c.args.known;
      number = c.args.number;
      home_as = c.args.config.home_as;
      policies = c.args.policies;
      rib = c.in_ok-rib.rib;
      due_in = c.in_ok-due_in.due_in;
      due_out = c.in_ok-due_out.due_out;
      pending = c.in_ok-pending.pending;
    } in
    first_part t c.args.config c.in_ok-rib.ensures c.requires.rib c.in_ok-due_in.ensures.empty c.in_ok-due_out.ensures.empty

pub returns-clause-unknown : goal.returns-clause-unknown
returns-clause-unknown c =
    let t : Tables = record {
      alloc = c.args.alloc;
      known = c.args.known;
      number = c.args.number;
      home_as = c.args.config.home_as;
      policies = c.args.policies;
      rib = c.in_ok-rib.rib;
      due_in = c.in_ok-due_in.due_in;
      due_out = c.in_ok-due_out.due_out;
      pending = c.in_ok-pending.pending;
    } in
    first_unknown t c.args.peerings c.in_ok-pending.ensures

pub returns-clause-sound : goal.returns-clause-sound
returns-clause-sound c =
    let t : Tables = record {
      alloc = c.args.alloc;
      known = c.args.known;
      number = c.args.number;
      home_as = c.args.config.home_as;
      policies = c.args.policies;
      rib = c.in_ok-rib.rib;
      due_in = c.in_ok-due_in.due_in;
      due_out = c.in_ok-due_out.due_out;
      pending = c.in_ok-pending.pending;
    } in
    first_sound t c.args.config c.in_ok-rib.ensures c.requires.rib c.in_ok-due_in.ensures.empty c.in_ok-due_out.ensures.empty
    c.requires.there c.requires.few_routers c.requires.few_peerings refl c.requires.policies (c.in_ok-due_in.ensures.count ∙ c.requires.routers)
    (c.in_ok-due_out.ensures.count ∙ c.requires.peerings) (c.in_ok-pending.ensures ∙ ap (λ (n : ℕ). replicate n None) c.requires.peerings)
