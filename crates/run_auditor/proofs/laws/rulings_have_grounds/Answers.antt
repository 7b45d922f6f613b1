use Rattle.bgp_session.specs.Running.{carried}
use Rattle.run_auditor.proofs.laws.rulings_have_grounds.Goals as goal

pub returns : goal.returns
returns c = record {
  steps = c.an_act_is_a_step.ensures.step carried;
  events = c.an_entry_is_of_one_event.ensures.one;
  worlds = c.a_net_is_one_world.ensures;
  moves = c.deeds_move_items.ensures carried;
  itself = c.worlds_are_on_the_way.ensures.itself;
  welcome = c.no_item_is_dropped.ensures;
  numbers = c.actors_have_their_numbers.ensures.numbers;
  routers = c.events_name_their_senders.ensures.router;
  far_sides = c.events_name_their_senders.ensures.far;
  operator = c.events_name_their_senders.ensures.operator;
}
