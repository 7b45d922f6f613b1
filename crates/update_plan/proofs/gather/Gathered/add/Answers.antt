use Rattle.update_plan.proofs.Adding.{few_octets, among, is_counted, joins_ok, keeps_joins, begins_ok, keeps_begins}
use Rattle.update_plan.proofs.gather.Gathered.add.Goals as goal

pub room_for-requires-clause-counted : goal.room_for-requires-clause-counted
room_for-requires-clause-counted c = λ number at. is_counted c.args.self.now c.args.attrs c.in_ok-code.code c.requires.keeps c.in_ok-code.ensures number at

pub room_for-requires-clause-len : goal.room_for-requires-clause-len
room_for-requires-clause-len c = few_octets c.args.prefix c.prefix_len-len.result c.prefix_len-len.ensures.octets

pub join-requires-clause-counted : goal.join-requires-clause-counted
join-requires-clause-counted c = is_counted c.args.self.now c.args.attrs c.in_ok-code.code c.requires.keeps c.in_ok-code.ensures c.in-Some.number
    (c.room_for.ensures.some c.in-Some.number c.in-Some.is).0

pub join-requires-clause-number : goal.join-requires-clause-number
join-requires-clause-number c = among c.args.self.now c.args.attrs c.in_ok-code.code c.requires.keeps c.in_ok-code.ensures c.in-Some.number
    (c.room_for.ensures.some c.in-Some.number c.in-Some.is).0

pub returns-in-Some-clause-keeps : goal.returns-in-Some-clause-keeps
returns-in-Some-clause-keeps c =
    let some = c.room_for.ensures.some c.in-Some.number c.in-Some.is in
    keeps_joins c.args.self.now c.args.attrs c.in_ok-code.code c.requires.keeps c.in_ok-code.ensures c.join.new.self
    c.args.prefix c.prefix_len-len.result c.prefix_len-len.ensures.octets c.in-Some.number some.0
    c.join.result c.join.ensures.batches c.join.ensures.wide c.join.ensures.octets c.join.ensures.indices

pub returns-in-Some-clause-adds : goal.returns-in-Some-clause-adds
returns-in-Some-clause-adds c =
    let some = c.room_for.ensures.some c.in-Some.number c.in-Some.is in
    joins_ok c.args.self.now c.args.attrs c.in_ok-code.code c.requires.keeps c.in_ok-code.ensures c.join.new.self
    c.args.prefix c.prefix_len-len.result c.prefix_len-len.ensures.octets c.in-Some.number some.0
    c.join.result some.1 c.join.ensures.batches

pub returns-in-None-clause-keeps : goal.returns-in-None-clause-keeps
returns-in-None-clause-keeps c =
    keeps_begins c.args.self.now c.args.attrs c.in_ok-code.code c.requires.keeps c.in_ok-code.ensures
    c.begin.new.self c.args.prefix c.prefix_len-len.result c.prefix_len-len.ensures.octets
    (λ number at. c.room_for.ensures.none number c.in-None.is at) c.begin.result
    c.begin.ensures.batches c.begin.ensures.wide c.begin.ensures.octets c.begin.ensures.indices

pub returns-in-None-clause-adds : goal.returns-in-None-clause-adds
returns-in-None-clause-adds c =
    begins_ok c.args.self.now c.args.attrs c.in_ok-code.code c.requires.keeps c.in_ok-code.ensures
    c.begin.new.self c.args.prefix c.prefix_len-len.result c.prefix_len-len.ensures.octets
    (λ number at. c.room_for.ensures.none number c.in-None.is at) c.begin.result c.begin.ensures.batches
