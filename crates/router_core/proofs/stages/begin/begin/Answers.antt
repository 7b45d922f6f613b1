use Rattle.std.proofs.Common.{ℕ, sym, subst, ◌∙◌}
use Rattle.std.specs.List.{AllByRecursion}
use Rattle.router_core.specs.Beginning.{AreBegun, CanBegin}
use Rattle.router_core.specs.declared.fields.Fields.{Fields}
use Rattle.router_core.proofs.BeginSteps.{begin_in_room, begins_as, config_can_begin}
use Rattle.router_core.proofs.stages.begin.begin.Goals as goal

pub begin_places-requires-clause-each : goal.begin_places-requires-clause-each
begin_places-requires-clause-each c = subst (λ (n : ℕ). AllByRecursion (CanBegin n) c.args.config.sessions)
    (sym c.len-count.ensures) (config_can_begin c.args.known.setup c.args.config c.requires.setup c.requires.config)

pub begin_places-requires-clause-room : goal.begin_places-requires-clause-room
begin_places-requires-clause-room c = begin_in_room c.args.known.setup c.args.config c.requires.setup c.requires.config

pub returns : goal.returns
returns c =
    let f : Fields = record {
      alloc = c.args.alloc;
      known = c.args.known;
      number = c.args.config.number;
      routers = c.args.config.routers;
      room = c.args.config.room;
      home_as = c.args.config.rib.home_as;
      policies = c.args.config.policies;
      firsts = c.args.config.firsts;
      rib = c.in_ok-rib.rib;
      places = c.in_ok-places.places;
      due_in = c.in_ok-due_in.due_in;
      due_out = c.in_ok-due_out.due_out;
      turns = 0;
    } in
    begins_as f c.args.config c.requires.setup c.requires.config c.in_ok-rib.ensures
    (subst (λ (n : ℕ). AreBegun n c.args.config.sessions c.in_ok-places.places.places) c.len-count.ensures c.in_ok-places.ensures.begun)
    c.in_ok-places.ensures.room
    c.in_ok-due_in.ensures.count c.in_ok-due_in.ensures.empty (c.in_ok-due_out.ensures.count ∙ c.len-count.ensures) c.in_ok-due_out.ensures.empty
