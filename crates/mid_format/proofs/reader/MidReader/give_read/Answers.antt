use Rattle.std.proofs.Common.{[], ◌∷◌, ◌++◌, Option, subst}
use Rattle.mid_format.specs.HasRead.{HasRead, and_given}
use Rattle.mid_format.proofs.AtHand.{within_more}
use Rattle.mid_format.proofs.reader.MidReader.give_read.Goals as goal

pub take-requires-clause-room : goal.take-requires-clause-room
take-requires-clause-room g c =
    let so_far = c.requires.so_far in
    let reads = c.in-Ok-Some.ensures.reads so_far.start so_far.first so_far.events so_far.read in
    let more = subst (λ (o : Option (Unit {0})). HasRead so_far.start so_far.first (g.S.Source.told c.next.new.self.source).left c.next.new.self.progress (and_given so_far.events o c.next.new.into.event)) c.in-Ok-Some.field-0-is reads in
    rw (c.header.ensures, c.body.ensures) (record {
      events = so_far.before ++ so_far.events;
      taken = so_far.taken;
      within = within_more so_far.start so_far.first (g.S.Source.told c.next.new.self.source).left c.next.new.self.progress so_far.before so_far.events c.next.new.into.event so_far.few more;
    })

pub returns-in-Ok-None-clause-gives : goal.returns-in-Ok-None-clause-gives
returns-in-Ok-None-clause-gives g c = λ start first before events r t. record {
  event = c.next.new.into.event;
  read = subst (λ (o : Option (Unit {0})). HasRead start first (g.S.Source.told c.next.new.self.source).left c.next.new.self.progress (and_given events o c.next.new.into.event)) c.in-Ok-None.field-0-is (c.in-Ok-None.ensures.reads start first events r);
  taken = t;
}

pub returns-in-Err-clause-gives : goal.returns-in-Err-clause-gives
returns-in-Err-clause-gives g c = λ start first before events r t. record { event = c.next.new.into.event; read = c.in-Err.ensures.reads start first events r; taken = t }

pub returns-in-Ok-Some-clause-end : goal.returns-in-Ok-Some-clause-end
returns-in-Ok-Some-clause-end g c = rw c.in-Ok-Some.field-0-is at c.in-Ok-Some.ensures.end

pub returns-in-Ok-Some-clause-counted : goal.returns-in-Ok-Some-clause-counted
returns-in-Ok-Some-clause-counted g c = rw c.in-Ok-Some.field-0-is at c.in-Ok-Some.ensures.counted

pub returns-in-Ok-None-clause-end : goal.returns-in-Ok-None-clause-end
returns-in-Ok-None-clause-end g c = rw c.in-Ok-None.field-0-is at c.in-Ok-None.ensures.end

pub returns-in-Ok-None-clause-counted : goal.returns-in-Ok-None-clause-counted
returns-in-Ok-None-clause-counted g c = rw c.in-Ok-None.field-0-is at c.in-Ok-None.ensures.counted

pub returns-in-Err-clause-counted : goal.returns-in-Err-clause-counted
returns-in-Err-clause-counted g c = c.in-Err.ensures.counted
