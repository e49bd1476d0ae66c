-- Channels that pull one after another, and ports that stay the same.
use Rattle.std.specs.Prelude.{◌≡◌, ℕ, ◌+◌, Bool, true, false, ◌||◌, is_some, List, slice_get, Option, Some, None, refl}
use Rattle.std.proofs.Common.{ap, sym, subst, ◌∙◌, add-one}
use Rattle.mid_logger.specs.declared.channel.Channel.{Channel}
use Rattle.mid_logger.specs.declared.pulled.Pulled.{Pulled}
use Rattle.mid_logger.specs.declared.pulled.Pulled.TheVariants.{NoChannel}
use Rattle.buffer_core.specs.Ports.{Access}
use Rattle.buffer_core.specs.Slots.{slot_at}
use Rattle.loggers.specs.Moments.{LoggerMoment, AreSamePorts}
use Rattle.loggers.specs.SlotPulls.{PullsSlot, PullsNumbered}
use Rattle.daq_io.specs.Told.{FilesTold}
use Rattle.daq_members.specs.LoggerTaken.{PullsBelow, has_pulled}
use Rattle.daq_members.specs.ConnectedLoggers.{ConnectedSeen, StaysAtPulls}

pub same_ports : (ports : List Access) → AreSamePorts ports ports
same_ports ports = record {
  many = refl;
  there = λ buffer b at. (b, at);
  same = λ buffer a b one other.
      let both : Some a ≡ Some b = sym one ∙ other in
      let is : a ≡ b = cc (both) in
      (sym (ap (λ (x : Access). x.buffer) is), sym (ap (λ (x : Access). x.caller) is), sym (ap (λ (x : Access). x.size) is));
}

pub same_then : (ports between later : List Access) → AreSamePorts ports between → AreSamePorts between later → AreSamePorts ports later
same_then ports between later one two = record {
  many = two.many ∙ one.many;
  there = λ buffer c at. let b : (b : Access) × (slice_get between buffer ≡ Some b) = two.there buffer c at in one.there buffer b.0 b.1;
  same = λ buffer a c first last.
      let b : (b : Access) × (slice_get between buffer ≡ Some b) = two.there buffer c last in
      let early = one.same buffer a b.0 first b.1 in
      let late = two.same buffer b.0 c b.1 last in
      (late.0 ∙ early.0, late.1 ∙ early.1, late.2 ∙ early.2);
}

-- one pull more
pub pulls_more : (dump : List ℕ) (n : ℕ) (got later : Bool) (answer : Pulled) (a m b : LoggerMoment) → PullsBelow dump n got a m → PullsNumbered dump n answer m b → later ≡ (has_pulled answer || got) → PullsBelow dump (n + 1) later a b
pulls_more dump n got later answer a m b below pulls is = subst (λ (k : ℕ). PullsBelow dump k later a b) (sym (add-one n)) (m, got, answer, below, pulls, is)

-- what no pull leaves as it is, and what pulls behind pulls do
module _ {F : Type 0} (read : F → FilesTold) where
  pub stays_at_none : (logger : ConnectedSeen F) → StaysAtPulls read logger logger
  stays_at_none logger = record { run = refl; dumps = refl; same = same_ports logger.ports; keeps = λ turns stands. stands }

  pub stays_then : (a b c : ConnectedSeen F) → StaysAtPulls read a b → StaysAtPulls read b c → StaysAtPulls read a c
  stays_then a b c first then_ = record {
    run = then_.run ∙ first.run;
    dumps = then_.dumps ∙ first.dumps;
    same = same_then a.ports b.ports c.ports first.same then_.same;
    keeps = λ turns stands. then_.keeps turns (first.keeps turns stands);
  }

-- where there is no channel, nothing is done
pulls_none : (dump : List ℕ) (slot : Option Channel) (number : ℕ) (a : LoggerMoment) → is_some slot ≡ false → PullsSlot dump slot number NoChannel a a
pulls_none dump None number a none = (refl, refl)
pulls_none dump (Some c) number a none = absurd (cc (none))

pub pulls_nothing : (dump : List ℕ) (number : ℕ) (a : LoggerMoment) → is_some (slot_at a.slots number) ≡ false → PullsNumbered dump number NoChannel a a
pulls_nothing dump number a none = pulls_none dump (slot_at a.slots number) number a none
