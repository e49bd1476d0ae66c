-- What a logger keeps between its calls has the logger's contract.
use Rattle.std.specs.Prelude.{◌≡◌, ◌≢◌, ◌<◌, ◌+◌, ℕ, zero, suc, IsTrue, IsSome, List, [], ◌∷◌, length, slice_get, unwrap_or, Option, Some, None, ◌⊎◌, refl}
use Rattle.std.proofs.Common.{ap, sym, subst, ◌∙◌, arith, inl, inr}
use Rattle.daq_types.specs.declared.events.Event.{Event}
use Rattle.daq_types.specs.declared.runs.ChannelEnd.{ChannelEnd}
use Rattle.daq_types.specs.declared.runs.ChannelState.{ChannelState}
use Rattle.daq_types.specs.declared.runs.ChannelState.TheVariants.{Broken as IsBroken, Ended}
use Rattle.event.specs.Events.{encoding}
use Rattle.event.specs.RunFile.{end_record}
use Rattle.daq_io.specs.Seen.{Seen}
use Rattle.buffer_core.specs.declared.entry.BufferEntry.{BufferEntry}
use Rattle.buffer_core.specs.Ports.{Access}
use Rattle.buffer_core.specs.Slots.{slot_at}
use Rattle.member_model.specs.RunEngines.{Answer}
use Rattle.transitions.specs.declared.answers.Answer.TheVariants.{Yes}
use Rattle.transitions.specs.declared.answers.Tally.TheVariants.{Channels}
use Rattle.member_model.specs.Turns.{MemberTurn, HasAnswer}
use Rattle.member_model.specs.SentCalls.{EachCall}
use Rattle.member_model.specs.OwnCalls.{calls_after, AreOwnCalls, SendsNone}
use Rattle.member_model.specs.ReadRuns.{HasReadRun}
use Rattle.member_model.specs.CutRuns.{MarksEnd, HasCutRun}
use Rattle.member_model.specs.LoggerKept.{LoggerChannel, LoggerPort, HasWritten, HasWrittenPart, IsStateSo, IsEndSo, KeepsLogger, series_from, stop_bytes}
use Rattle.sub_files.specs.declared.open_file.Fallen.{Fallen}
use Rattle.sub_files.specs.Patterns.{NamePattern, piece_name_by}
use Rattle.sub_files.specs.Pieces.{Series, HasRun, HasPart, series_of}
use Rattle.sub_files.specs.Rolls.{fallen_at}
use Rattle.mid_logger.specs.declared.channel.Channel.{Channel}
use Rattle.mid_logger.specs.declared.stage.BegunRun.{BegunRun}
use Rattle.mid_logger.specs.Channels.{FileHead, KeepsOwnCalls, HasReadUntil, HasReadPart, series_at}
use Rattle.mid_logger.specs.ChannelEnds.{HasClosed, HasBroken, HasLeftSo, last_bytes, state_ended}
use Rattle.loggers.specs.declared.logged_run.LoggedRun.{LoggedRun}
use Rattle.loggers.specs.declared.logged_run.RunDumps.{RunDumps}
use Rattle.loggers.specs.LoggerStands.{logger_channel, logger_channels, logger_port, logger_ports, IsEndedSo, HasHead, TakenStays, LeftRun, TellsEnds, ToldSo, LoggerHolds}

-- A channel and its port.

record FoundChannel (absent : ℕ → ℕ) (slots : List (Option Channel)) (channel : LoggerChannel) : Type 0 where
  number : ℕ
  c : Channel
  there : slot_at slots number ≡ Some c
  is : channel ≡ logger_channel (absent c.spec.number) c

found_later : (absent : ℕ → ℕ) (o : Option Channel) (slots : List (Option Channel)) (channel : LoggerChannel) → FoundChannel absent slots channel → FoundChannel absent (o ∷ slots) channel
found_later absent o slots channel f = record { number = suc f.number; c = f.c; there = f.there; is = f.is }

found : (absent : ℕ → ℕ) (slots : List (Option Channel)) (index : ℕ) (channel : LoggerChannel) → slice_get (logger_channels absent slots) index ≡ Some channel → FoundChannel absent slots channel
found absent [] index channel at = absurd (cc (at))
found absent (None ∷ slots) index channel at = found_later absent None slots channel (found absent slots index channel at)
found absent (Some c ∷ slots) zero channel at = record { number = 0; c = c; there = refl; is = let e : logger_channel (absent c.spec.number) c ≡ channel = cc (at) in sym e }
found absent (Some c ∷ slots) (suc index) channel at = found_later absent (Some c) slots channel (found absent slots index channel at)

pub there_is : {X : Type 0} (xs : List X) (n : ℕ) → n < length xs → (x : X) × (slice_get xs n ≡ Some x)
there_is [] n within = absurd (omega arith)
there_is (x ∷ xs) zero within = (x, refl)
there_is (x ∷ xs) (suc n) within = there_is xs n (omega arith)

port_calls : (o : Option Access) → ((a : Access) → o ≡ Some a → KeepsOwnCalls a.own) → EachCall SendsNone (logger_port o).own × AreOwnCalls (calls_after [] (logger_port o).own)
port_calls None keeps = (tt, tt)
port_calls (Some a) keeps = ((keeps a refl).sends_none, (keeps a refl).own_calls)

answer_in : (o : Option Answer) → HasAnswer o → (x : Answer) × (o ≡ Some x)
answer_in None has = absurd has
answer_in (Some x) has = (x, refl)

-- What was told.

state_so : (own : List BufferEntry) (start : ℕ) (ended : Option ℕ) (dump : Option (List ℕ)) → IsEndedSo own start ended → IsStateSo own start dump (state_ended ended dump)
state_so own start None dump so = (so.0, so.1.0, so.1.1)
state_so own start (Some place) None so = (refl, (place, so.1))
state_so own start (Some place) (Some bytes) so = ((λ never. cc (never)), (place, so.1))

-- told as ended: the end was marked, and there was a dump
record EndedParts (ended : Option ℕ) (dump : Option (List ℕ)) : Type 0 where
  place : ℕ
  bytes : List ℕ
  ended_is : ended ≡ Some place
  dump_is : dump ≡ Some bytes

ended_parts : (ended : Option ℕ) (dump : Option (List ℕ)) → Ended ≡ state_ended ended dump → EndedParts ended dump
ended_parts None dump is = absurd (cc (is))
ended_parts (Some place) None is = absurd (cc (is))
ended_parts (Some place) (Some bytes) is = record { place = place; bytes = bytes; ended_is = refl; dump_is = refl }

-- the place at which the end was accepted is the one that the run has
ended_place : (own : List BufferEntry) (start : ℕ) (ended : Option ℕ) (place : ℕ) → IsEndedSo own start ended → MarksEnd own start place → ((m n : ℕ) → MarksEnd own start m → MarksEnd own start n → m ≡ n) → ended ≡ Some place
ended_place own start None place so marks once = absurd (so.1.1 place marks)
ended_place own start (Some p) place so marks once = ap Some (once p place so.1 marks)

-- What was written.

-- what the files of the run have in common, by the start that was accepted
series_same : (p : NamePattern) (limit run run2 time time2 : ℕ) (dump dump2 : List ℕ) → run ≡ run2 → time ≡ time2 → dump ≡ dump2 → series_of p limit (record { run = run; time = time }) dump ≡ series_of p limit (record { run = run2; time = time2 }) dump2
series_same p limit run run2 time time2 dump dump2 one two three = rw (one, two, three) refl

series_told : (absent : ℕ) (turns : List MemberTurn) (start : ℕ) (c : Channel) (head : FileHead) (has : HasHead turns start head) → series_at c.spec head ≡ series_from (logger_channel absent c) has.turn
series_told absent turns start c head has = series_same c.spec.pattern c.spec.sub_bytes head.run has.turn.order.run head.time has.turn.order.time head.dump (unwrap_or has.turn.dump []) has.run has.time has.dump

-- the bytes at the end of the last file, by the turns
bytes_told : (run run2 time : ℕ) (ended : Option ℕ) (place : ℕ) (dump : Option (List ℕ)) (bytes : List ℕ) → run ≡ run2 → ended ≡ Some place → dump ≡ Some bytes → last_bytes run ended time dump ≡ encoding (end_record run2 time bytes)
bytes_told run run2 time ended place dump bytes one two three = rw (one, two, three) refl

-- where the name behind the last file was found taken, a file of it is there
beyond_told : (turns : List MemberTurn) (slots : List (Option Channel)) (seen : Seen) (c : Channel) (a : Access) (stop : MemberTurn) (told : ChannelEnd) (l : LeftRun turns slots seen c a stop told) (run : ℕ) → told.state ≢ IsBroken → l.run.opened.run ≡ run
    → (IsTrue seen.names → IsTrue l.run.opened.at.taken → TakenStays slots seen (piece_name_by c.spec.pattern l.run.opened.run (l.run.opened.at.sub + 1))) → IsTrue l.run.opened.at.taken → IsTrue seen.names → IsSome (seen.at (piece_name_by c.spec.pattern run told.files))
beyond_told turns slots seen c a stop told l run whole run_is stays taken names = rw (l.last whole, ← run_is) (stays names taken).there

left_written : (absent : ℕ) (turns : List MemberTurn) (slots : List (Option Channel)) (seen : Seen) (c : Channel) (a : Access) (stop : MemberTurn) (told : ChannelEnd) (l : LeftRun turns slots seen c a stop told) → told.state ≡ Ended
    → (IsTrue seen.names → IsTrue l.run.opened.at.taken → TakenStays slots seen (piece_name_by c.spec.pattern l.run.opened.run (l.run.opened.at.sub + 1))) → EndedParts l.run.ended stop.dump → HasWritten (logger_port (Some a)) turns seen (logger_channel absent c) stop told.files
left_written absent turns slots seen c a stop told l state stays parts =
    let run : BegunRun = l.run in
    let time : ℕ = stop.order.time in
    let closed : HasClosed c.spec l.head run told.files time stop.dump a.own a.got seen = subst (λ (x : ChannelState). HasLeftSo x told c.spec l.head run time stop.dump a.own a.got seen) state l.left in
    let events : List Event = closed.events in
    let turn : MemberTurn = l.headed.turn in
    let reads_0 : HasReadRun a.own a.got run.opened.client c.spec.id c.spec.mask run.opened.request run.opened.start run.begun parts.place events =
    subst (λ (e : Option ℕ). HasReadUntil e a.own a.got run.opened.client c.spec.id c.spec.mask run.opened.request run.opened.start run.begun events) parts.ended_is closed.reads in
    let reads_1 : HasReadRun a.own a.got run.opened.client c.spec.id c.spec.mask run.opened.request stop.order.start run.begun parts.place events =
    subst (λ (x : ℕ). HasReadRun a.own a.got run.opened.client c.spec.id c.spec.mask run.opened.request x run.begun parts.place events) l.of reads_0 in
    let client_is : unwrap_or c.client absent ≡ run.opened.client = ap (λ (o : Option ℕ). unwrap_or o absent) l.client in
    let run_is : run.opened.run ≡ turn.order.run = sym closed.number ∙ l.headed.run in
    let whole : told.state ≢ IsBroken = λ broken. (let never : Ended ≡ IsBroken = sym state ∙ broken in cc (never)) in
    let last_is : last_bytes run.opened.run run.ended time stop.dump ≡ stop_bytes turn stop parts.bytes = bytes_told run.opened.run turn.order.run time run.ended parts.place stop.dump parts.bytes run_is parts.ended_is parts.dump_is in
    let stored_0 : HasRun seen (series_from (logger_channel absent c) turn) told.files run.opened.at.taken (last_bytes run.opened.run run.ended time stop.dump) events =
    subst (λ (x : Series). HasRun seen x told.files run.opened.at.taken (last_bytes run.opened.run run.ended time stop.dump) events) (series_told absent turns stop.order.start c l.head l.headed) closed.stored in
    record {
      start = turn;
      is_start = l.headed.is_start;
      dump = parts.bytes;
      has_dump = parts.dump_is;
      number = run.opened.request;
      begun = run.begun;
      ended = parts.place;
      events = events;
      reads = subst (λ (k : ℕ). HasReadRun a.own a.got k c.spec.id c.spec.mask run.opened.request stop.order.start run.begun parts.place events) (sym client_is) reads_1;
      fine = closed.fine;
      taken = run.opened.at.taken;
      beyond = beyond_told turns slots seen c a stop told l turn.order.run whole run_is stays;
      stored = subst (λ (x : List ℕ). HasRun seen (series_from (logger_channel absent c) turn) told.files run.opened.at.taken x events) last_is stored_0;
    }

left_part : (absent : ℕ) (turns : List MemberTurn) (slots : List (Option Channel)) (seen : Seen) (c : Channel) (a : Access) (stop : MemberTurn) (told : ChannelEnd) (ended : ℕ) (dump : List ℕ) (l : LeftRun turns slots seen c a stop told) → told.state ≡ IsBroken → l.run.ended ≡ Some ended
    → stop.dump ≡ Some dump → HasWrittenPart (logger_port (Some a)) turns seen (logger_channel absent c) stop told ended dump
left_part absent turns slots seen c a stop told ended dump l state ended_is dump_is =
    let run : BegunRun = l.run in
    let time : ℕ = stop.order.time in
    let fallen : Fallen = fallen_at told.files told.framed in
    let broken : HasBroken c.spec l.head run fallen time stop.dump a.own a.got seen = subst (λ (x : ChannelState). HasLeftSo x told c.spec l.head run time stop.dump a.own a.got seen) state l.left in
    let events : List Event = broken.events in
    let turn : MemberTurn = l.headed.turn in
    let client_is : unwrap_or c.client absent ≡ run.opened.client = ap (λ (o : Option ℕ). unwrap_or o absent) l.client in
    let run_is : run.opened.run ≡ turn.order.run = sym broken.number ∙ l.headed.run in
    let series_is : series_at c.spec l.head ≡ series_from (logger_channel absent c) turn = series_told absent turns stop.order.start c l.head l.headed in
    record {
      start = turn;
      is_start = l.headed.is_start;
      number = run.opened.request;
      begun = run.begun;
      events = events;
      part = elim broken.reads as (λ w. (HasCutRun a.own a.got (unwrap_or c.client absent) c.spec.id c.spec.mask run.opened.request stop.order.start run.begun ended events
          × HasPart seen (series_from (logger_channel absent c) turn) fallen [] events)
          ⊎ (HasReadRun a.own a.got (unwrap_or c.client absent) c.spec.id c.spec.mask run.opened.request stop.order.start run.begun ended events
          × HasPart seen (series_from (logger_channel absent c) turn) fallen (stop_bytes turn stop dump) events)) [
            | inl cut ↦
                let cut_0 : HasCutRun a.own a.got run.opened.client c.spec.id c.spec.mask run.opened.request run.opened.start run.begun ended events =
                subst (λ (e : Option ℕ). HasReadPart e a.own a.got run.opened.client c.spec.id c.spec.mask run.opened.request run.opened.start run.begun events) ended_is cut.0 in
                let cut_1 : HasCutRun a.own a.got run.opened.client c.spec.id c.spec.mask run.opened.request stop.order.start run.begun ended events =
                subst (λ (x : ℕ). HasCutRun a.own a.got run.opened.client c.spec.id c.spec.mask run.opened.request x run.begun ended events) l.of cut_0 in
                inl (
                  subst (λ (k : ℕ). HasCutRun a.own a.got k c.spec.id c.spec.mask run.opened.request stop.order.start run.begun ended events) (sym client_is) cut_1,
                  subst (λ (x : Series). HasPart seen x fallen [] events) series_is cut.1,
                )
            | inr whole ↦
                let read_0 : HasReadRun a.own a.got run.opened.client c.spec.id c.spec.mask run.opened.request run.opened.start run.begun ended events =
                subst (λ (e : Option ℕ). HasReadUntil e a.own a.got run.opened.client c.spec.id c.spec.mask run.opened.request run.opened.start run.begun events) ended_is whole.0 in
                let read_1 : HasReadRun a.own a.got run.opened.client c.spec.id c.spec.mask run.opened.request stop.order.start run.begun ended events =
                subst (λ (x : ℕ). HasReadRun a.own a.got run.opened.client c.spec.id c.spec.mask run.opened.request x run.begun ended events) l.of read_0 in
                let part_0 : HasPart seen (series_from (logger_channel absent c) turn) fallen (last_bytes run.opened.run run.ended time stop.dump) events =
                subst (λ (x : Series). HasPart seen x fallen (last_bytes run.opened.run run.ended time stop.dump) events) series_is whole.1 in
                inr (
                  subst (λ (k : ℕ). HasReadRun a.own a.got k c.spec.id c.spec.mask run.opened.request stop.order.start run.begun ended events) (sym client_is) read_1,
                  subst (λ (x : List ℕ). HasPart seen (series_from (logger_channel absent c) turn) fallen x events) (bytes_told run.opened.run turn.order.run time run.ended ended stop.dump dump run_is ended_is dump_is) part_0,
                )
          ];
    }

-- The contract.

-- what is known of a channel of the contract
record KnownChannel (absent : ℕ → ℕ) (run : Option LoggedRun) (dumps : RunDumps) (slots : List (Option Channel)) (ports : List Access) (turns : List MemberTurn) (seen : Seen) (channel : LoggerChannel) : Type 0 where
  number : ℕ
  c : Channel
  a : Access
  there : slot_at slots number ≡ Some c
  at_port : slice_get ports c.spec.buffer ≡ Some a
  is : channel ≡ logger_channel (absent c.spec.number) c
  numbered : channel.number ≡ number

known : (absent : ℕ → ℕ) (run : Option LoggedRun) (dumps : RunDumps) (slots : List (Option Channel)) (ports : List Access) (turns : List MemberTurn) (seen : Seen) (index : ℕ) (channel : LoggerChannel) → LoggerHolds run dumps slots ports turns seen
    → slice_get (logger_channels absent slots) index ≡ Some channel → KnownChannel absent run dumps slots ports turns seen channel
known absent run dumps slots ports turns seen index channel stands at =
    let f : FoundChannel absent slots channel = found absent slots index channel at in
    let port : (x : Access) × (slice_get ports f.c.spec.buffer ≡ Some x) = there_is ports f.c.spec.buffer (stands.served f.number f.c f.there) in
    record { number = f.number; c = f.c; a = port.0; there = f.there; at_port = port.1; is = f.is; numbered = ap (λ (x : LoggerChannel). x.number) f.is ∙ stands.standing.numbered f.number f.c f.there }

-- what holds of the channel and its port holds of the contract's
at_contract : (P : LoggerPort → LoggerChannel → Type 0) (absent : ℕ → ℕ) (run : Option LoggedRun) (dumps : RunDumps) (slots : List (Option Channel)) (ports : List Access) (turns : List MemberTurn) (seen : Seen) (channel : LoggerChannel)
    → (k : KnownChannel absent run dumps slots ports turns seen channel) → P (logger_port (Some k.a)) (logger_channel (absent k.c.spec.number) k.c) → P (logger_ports ports channel.buffer) channel
at_contract P absent run dumps slots ports turns seen channel k holds =
    subst (λ (x : LoggerChannel). P (logger_ports ports x.buffer) x) (sym k.is)
    (subst (λ (o : Option Access). P (logger_port o) (logger_channel (absent k.c.spec.number) k.c)) (sym k.at_port) holds)

-- a mark among the contract's calls is one among the port's
marks_at : (absent : ℕ → ℕ) (run : Option LoggedRun) (dumps : RunDumps) (slots : List (Option Channel)) (ports : List Access) (turns : List MemberTurn) (seen : Seen) (channel : LoggerChannel)
    → (k : KnownChannel absent run dumps slots ports turns seen channel) → (start ended : ℕ) → MarksEnd (logger_ports ports channel.buffer).own start ended → MarksEnd k.a.own start ended
marks_at absent run dumps slots ports turns seen channel k start ended marks =
    let here : MarksEnd (logger_ports ports k.c.spec.buffer).own start ended = subst (λ (x : LoggerChannel). MarksEnd (logger_ports ports x.buffer).own start ended) k.is marks in
    subst (λ (o : Option Access). MarksEnd (logger_port o).own start ended) k.at_port here

-- what was told of a channel is that which its run has
end_told : (ends : List ChannelEnd) (n m : ℕ) (x y : ChannelEnd) → n ≡ m → slice_get ends n ≡ Some x → slice_get ends m ≡ Some y → y ≡ x
end_told ends n m x y same first second = cc (same, first, second)

-- what was told at a stop, of a channel whose run was left so
record ToldAs (turns : List MemberTurn) (slots : List (Option Channel)) (seen : Seen) (c : Channel) (port : Access) (stop : MemberTurn) (told : ChannelEnd) : Type 0 where
  left : LeftRun turns slots seen c port stop told
  taken : IsTrue seen.names → IsTrue left.run.opened.at.taken → TakenStays slots seen (piece_name_by c.spec.pattern left.run.opened.run (left.run.opened.at.sub + 1))

told_as : (turns : List MemberTurn) (slots : List (Option Channel)) (seen : Seen) (n : ℕ) (c : Channel) (a : Access) (stop : MemberTurn) (ends : List ChannelEnd) (told : ChannelEnd) (so : ToldSo turns slots seen n c a stop ends) → so.told ≡ told → ToldAs turns slots seen c a stop told
told_as turns slots seen n c a stop ends told so same =
    let now : ToldAs turns slots seen c a stop so.told = record { left = so.left; taken = so.taken } in
    subst (λ (x : ChannelEnd). ToldAs turns slots seen c a stop x) same now

told_so : (turns : List MemberTurn) (slots : List (Option Channel)) (seen : Seen) (c : Channel) (a : Access) (stop : MemberTurn) (told : ChannelEnd) → LeftRun turns slots seen c a stop told → IsStateSo a.own stop.order.start stop.dump told.state
told_so turns slots seen c a stop told l = elim l.state as (λ w. IsStateSo a.own stop.order.start stop.dump told.state) [
  | inl broken ↦ subst (λ (x : ChannelState). IsStateSo a.own stop.order.start stop.dump x) (sym broken) l.ended.0
  | inr is ↦ subst (λ (x : ChannelState). IsStateSo a.own stop.order.start stop.dump x) (sym is) (state_so a.own stop.order.start l.run.ended stop.dump l.ended)
]

told_ended : (turns : List MemberTurn) (slots : List (Option Channel)) (seen : Seen) (c : Channel) (a : Access) (stop : MemberTurn) (told : ChannelEnd) (l : LeftRun turns slots seen c a stop told) → told.state ≡ Ended → EndedParts l.run.ended stop.dump
told_ended turns slots seen c a stop told l state = elim l.state as (λ w. EndedParts l.run.ended stop.dump) [
  | inl broken ↦ absurd (let never : Ended ≡ IsBroken = sym state ∙ broken in cc (never))
  | inr is ↦ ended_parts l.run.ended stop.dump (sym state ∙ is)
]

pub keeps_contract : (run : Option LoggedRun) (dumps : RunDumps) (slots : List (Option Channel)) (ports : List Access) (turns : List MemberTurn) (seen : Seen) (absent : ℕ → ℕ) → LoggerHolds run dumps slots ports turns seen
    → KeepsLogger (logger_channels absent slots) (logger_ports ports) turns seen
keeps_contract run dumps slots ports turns seen absent stands =
    let calls : (buffer : ℕ) → EachCall SendsNone (logger_ports ports buffer).own × AreOwnCalls (calls_after [] (logger_ports ports buffer).own) =
    λ buffer. port_calls (slice_get ports buffer) (λ a there. (stands.standing.calls buffer a there).calls) in
    record {
      sends_none = λ buffer. (calls buffer).0;
      own_calls = λ buffer. (calls buffer).1;
      starts = stands.starts;
      stops = λ are begin stop accepted has is answered index channel at.
          let answer : (x : Answer) × (stop.answer ≡ Some x) = answer_in stop.answer answered in
          let told : (ends : List ChannelEnd) × (answer.0 ≡ Yes (Channels ends)) = stands.stops are begin stop answer.0 accepted has is answer.1 in
          let tells : TellsEnds turns stop told.0 = record { stands = has; is = is; answered = answer.1 ∙ ap Some told.1 } in
          let k : KnownChannel absent run dumps slots ports turns seen channel = known absent run dumps slots ports turns seen index channel stands at in
          let so : ToldSo turns slots seen k.number k.c k.a stop told.0 = stands.standing.left are stop told.0 tells k.number k.c k.a k.there k.at_port in
          let end_so : IsEndSo k.a.own stop.order.start stop.dump so.told = record { state = told_so turns slots seen k.c k.a stop so.told so.left; framed = so.left.framed; few = so.left.few } in (
            so.told,
            record { stands = has; is = is; ends = told.0; answered = tells.answered; at = subst (λ (n : ℕ). slice_get told.0 n ≡ Some so.told) (sym k.numbered) so.at },
            at_contract (λ port x. IsEndSo port.own stop.order.start stop.dump so.told) absent run dumps slots ports turns seen channel k end_so,
          );
      ended = λ are stop index channel told at tells state.
          let k : KnownChannel absent run dumps slots ports turns seen channel = known absent run dumps slots ports turns seen index channel stands at in
          let so : ToldSo turns slots seen k.number k.c k.a stop tells.ends =
          stands.standing.left are stop tells.ends (record { stands = tells.stands; is = tells.is; answered = tells.answered }) k.number k.c k.a k.there k.at_port in
          let l : ToldAs turns slots seen k.c k.a stop told = told_as turns slots seen k.number k.c k.a stop tells.ends told so (end_told tells.ends channel.number k.number told so.told k.numbered tells.at so.at) in
          at_contract (λ port x. HasWritten port turns seen x stop told.files) absent run dumps slots ports turns seen channel k
          (left_written (absent k.c.spec.number) turns slots seen k.c k.a stop told l.left state l.taken (told_ended turns slots seen k.c k.a stop told l.left state));
      broken = λ are stop index channel told at tells state ended marks dump dump_is.
          let k : KnownChannel absent run dumps slots ports turns seen channel = known absent run dumps slots ports turns seen index channel stands at in
          let so : ToldSo turns slots seen k.number k.c k.a stop tells.ends =
          stands.standing.left are stop tells.ends (record { stands = tells.stands; is = tells.is; answered = tells.answered }) k.number k.c k.a k.there k.at_port in
          let l : ToldAs turns slots seen k.c k.a stop told = told_as turns slots seen k.number k.c k.a stop tells.ends told so (end_told tells.ends channel.number k.number told so.told k.numbered tells.at so.at) in
          let marks_here : MarksEnd k.a.own stop.order.start ended = marks_at absent run dumps slots ports turns seen channel k stop.order.start ended marks in
          let ended_is : l.left.run.ended ≡ Some ended = ended_place k.a.own stop.order.start l.left.run.ended ended l.left.ended marks_here ((stands.standing.calls k.c.spec.buffer k.a k.at_port).once are stop.order.start) in
          at_contract (λ port x. HasWrittenPart port turns seen x stop told ended dump) absent run dumps slots ports turns seen channel k
          (left_part (absent k.c.spec.number) turns slots seen k.c k.a stop told ended dump l.left state ended_is dump_is);
    }
