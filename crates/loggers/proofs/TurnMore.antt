-- What the channels and the ports keep behind one turn more, and for other heads of files.
use Rattle.std.specs.Prelude.{◌≡◌, ◌+◌, ℕ, IsTrue, List, [], ◌∷◌, Option, Some, None, unwrap_or, refl}
use Rattle.std.proofs.Common.{ap, sym, subst, ◌∙◌, inl, inr}
use Rattle.daq_types.specs.declared.runs.ChannelEnd.{ChannelEnd}
use Rattle.daq_io.specs.Seen.{Seen}
use Rattle.buffer_core.specs.declared.entry.BufferEntry.{BufferEntry}
use Rattle.buffer_core.specs.declared.entry.BufferEntry.TheVariants.{End}
use Rattle.buffer_core.specs.Ports.{Access}
use Rattle.buffer_core.specs.Slots.{slot_at}
use Rattle.transitions.specs.declared.answers.Answer.TheVariants.{Yes}
use Rattle.transitions.specs.declared.answers.Tally.TheVariants.{Channels}
use Rattle.member_model.specs.Turns.{MemberTurn}
use Rattle.member_model.specs.SentCalls.{EachCall}
use Rattle.mid_logger.specs.declared.channel.Channel.{Channel}
use Rattle.sub_files.specs.Patterns.{piece_name_by}
use Rattle.mid_logger.specs.declared.stage.BegunRun.{BegunRun}
use Rattle.mid_logger.specs.declared.stage.ChannelRun.{ChannelRun}
use Rattle.mid_logger.specs.declared.stage.ChannelStage.{ChannelStage}
use Rattle.mid_logger.specs.Channels.{FileHead, channel_run}
use Rattle.loggers.specs.declared.logged_run.RunDumps.{RunDumps}
use Rattle.loggers.specs.Moments.{AreIdleChannels}
use Rattle.loggers.specs.LoggerStands.{HasHead, IsEndTold, IsHeadTold, ChannelKept, PortKept, TakenStays, LeftRun, ToldSo, SlotsStand}
use Rattle.loggers.proofs.TurnsKnown.{accepted_more}

pub each_map : (P Q : BufferEntry → Type 0) (es : List BufferEntry) → ((e : BufferEntry) → P e → Q e) → EachCall P es → EachCall Q es
each_map P Q [] f each = tt
each_map P Q (e ∷ es) f each = (f e each.0, each_map P Q es f each.1)

pub head_more : (t : MemberTurn) (turns : List MemberTurn) (start : ℕ) (head : FileHead) → HasHead turns start head → HasHead (t ∷ turns) start head
head_more t turns start head has = record { turn = has.turn; is_start = accepted_more t turns start has.turn has.is_start; run = has.run; time = has.time; dump = has.dump }

end_more : (t : MemberTurn) (turns : List MemberTurn) (e : BufferEntry) → IsEndTold turns e → IsEndTold (t ∷ turns) e
end_more t turns (End start reply) told = record { turn = told.turn; stands = inr told.stands; ends = told.ends; of = told.of }
end_more t turns e told = tt

-- a run that was left, where each head of the one turns is one of the others; it is the same run
pub left_as : (turns later : List MemberTurn) (slots : List (Option Channel)) (seen : Seen) (c : Channel) (a : Access) (stop now : MemberTurn) (told : ChannelEnd) → now.order ≡ stop.order → now.dump ≡ stop.dump
    → ((head : FileHead) → HasHead turns stop.order.start head → HasHead later stop.order.start head) → (l : LeftRun turns slots seen c a stop told) → (k : LeftRun later slots seen c a now told) × (k.run ≡ l.run)
left_as turns later slots seen c a stop now told order dump heads l =
    let here : LeftRun later slots seen c a (record now { order = stop.order; dump = stop.dump }) told = record {
      run = l.run;
      head = l.head;
      of = l.of;
      client = l.client;
      headed = heads l.head l.headed;
      ended = l.ended;
      state = l.state;
      framed = l.framed;
      few = l.few;
      left = l.left;
      apart = l.apart;
      last = l.last;
    } in
    let both : (k : LeftRun later slots seen c a (record now { order = stop.order; dump = stop.dump }) told) × (k.run ≡ l.run) = (here, refl) in
    rw (order, dump) both

-- what was told of a channel, so
pub told_as : (turns later : List MemberTurn) (slots : List (Option Channel)) (seen : Seen) (n : ℕ) (c : Channel) (a : Access) (stop : MemberTurn) (ends : List ChannelEnd) → ((head : FileHead) → HasHead turns stop.order.start head → HasHead later stop.order.start head)
    → ToldSo turns slots seen n c a stop ends → ToldSo later slots seen n c a stop ends
told_as turns later slots seen n c a stop ends heads so =
    let both = left_as turns later slots seen c a stop stop so.told refl refl heads so.left in
    record {
      told = so.told;
      at = so.at;
      left = both.0;
      taken = subst (λ (r : BegunRun). IsTrue seen.names → IsTrue r.opened.at.taken → TakenStays slots seen (piece_name_by c.spec.pattern r.opened.run (r.opened.at.sub + 1))) (sym both.1) so.taken;
    }

-- the turn tells no ends of channels
abbrev pub TellsNone : MemberTurn → Type 0
TellsNone t = (ends : List ChannelEnd) → t.answer ≡ Some (Yes (Channels ends)) → ⊥

-- what stands stands behind one turn more that tells none
pub turn_more : (H : ChannelRun → FileHead → Type 0) (t : MemberTurn) (turns : List MemberTurn) (slots : List (Option Channel)) (ports : List Access) (seen : Seen) → TellsNone t → SlotsStand H turns slots ports seen → SlotsStand H (t ∷ turns) slots ports seen
turn_more H t turns slots ports seen quiet stands = record {
  many = stands.many;
  numbered = stands.numbered;
  channels = stands.channels;
  apart = stands.apart;
  calls = λ buffer a at.
      let kept : PortKept turns a.own = stands.calls buffer a at in
      record { calls = kept.calls; alone = kept.alone; told = each_map (IsEndTold turns) (IsEndTold (t ∷ turns)) a.own (end_more t turns) kept.told; once = λ are. kept.once are.1 };
  left = λ are stop ends tells n c a stood at. elim tells.stands as (λ w. ToldSo (t ∷ turns) slots seen n c a stop ends) [
    | inl same ↦ absurd (quiet ends (ap (λ (u : MemberTurn). u.answer) same ∙ tells.answered))
    | inr old ↦
        let so : ToldSo turns slots seen n c a stop ends = stands.left are.1 stop ends (record { stands = old; is = tells.is; answered = tells.answered }) n c a stood at in
        told_as turns (t ∷ turns) slots seen n c a stop ends (λ head has. head_more t turns stop.order.start head has) so
  ];
}

-- what stands with these heads stands with those, where each head of a channel's run is one of those too
pub heads_as : (H J : ChannelRun → FileHead → Type 0) (turns : List MemberTurn) (slots : List (Option Channel)) (ports : List Access) (seen : Seen)
    → ((n : ℕ) (c : Channel) → slot_at slots n ≡ Some c → (opened : ChannelRun) (head : FileHead) → channel_run c.stage ≡ Some opened → H opened head → J opened head) → SlotsStand H turns slots ports seen → SlotsStand J turns slots ports seen
heads_as H J turns slots ports seen as_those stands = record {
  many = stands.many;
  numbered = stands.numbered;
  channels = λ n c a stood at.
      let kept : ChannelKept H seen c a = stands.channels n c a stood at in
      record { head = kept.head; stands = kept.stands; headed = λ opened is. as_those n c stood opened kept.head is (kept.headed opened is) };
  apart = stands.apart;
  calls = stands.calls;
  left = stands.left;
}

-- where every channel is idle, no head is asked for
pub heads_idle : (H J : ChannelRun → FileHead → Type 0) (turns : List MemberTurn) (slots : List (Option Channel)) (ports : List Access) (seen : Seen) → AreIdleChannels slots → SlotsStand H turns slots ports seen → SlotsStand J turns slots ports seen
heads_idle H J turns slots ports seen idle stands =
    heads_as H J turns slots ports seen
    (λ n c stood opened head is has. absurd (let never : None ≡ Some opened = sym (ap (λ (s : ChannelStage). channel_run s) (idle n c stood)) ∙ is in cc (never))) stands

-- behind a turn more that tells none, with its heads, while the dump of the start is kept
pub told_more : (t : MemberTurn) (turns : List MemberTurn) (dumps later : RunDumps) (slots : List (Option Channel)) (ports : List Access) (seen : Seen) → TellsNone t → later.start ≡ dumps.start → SlotsStand (IsHeadTold turns dumps) turns slots ports seen
    → SlotsStand (IsHeadTold (t ∷ turns) later) (t ∷ turns) slots ports seen
told_more t turns dumps later slots ports seen quiet same stands =
    turn_more (IsHeadTold (t ∷ turns) later) t turns slots ports seen quiet (heads_as (IsHeadTold turns dumps) (IsHeadTold (t ∷ turns) later) turns slots ports seen
    (λ n c stood opened head is has. record { has = head_more t turns opened.start head has.has; kept = has.kept ∙ ap (λ (d : Option (List ℕ)). unwrap_or d []) (sym same) }) stands)
