-- The logger marks each pause and each resume of its runs in every buffer, and nothing else as one.
use Rattle.std.specs.Prelude.{◌≡◌, ◌≢◌, ◌≤◌, ◌<◌, ◌==◌, ◌&&◌, ◌||◌, ℕ, zero, suc, Bool, true, false, if◌then◌else◌, List, [], ◌∷◌, ◌++◌, length, slice_get, slice_set, Option, Some, None, Result, Ok, Err, ⊤, ◌⊎◌, refl}
use Rattle.std.proofs.Common.{ap, sym, subst, ◌∙◌, arith, inl, inr, append_assoc, eq-eqb}
use Rattle.std.proofs.lemmas.Bool.{and_parts, eqb-true}
use Rattle.std.proofs.lemmas.List.{append-nil}
use Rattle.std.proofs.lemmas.Option.{slice_get_within}
use Rattle.daq_types.specs.declared.runs.Order.{Order}
use Rattle.daq_types.specs.declared.runs.Transition.{Transition}
use Rattle.daq_types.specs.declared.runs.Transition.TheVariants.{Start, Stop, Pause, Resume, StartAbort}
use Rattle.daq_types.specs.declared.runs.Why.{Why}
use Rattle.buffer_core.specs.declared.entry.BufferEntry.{BufferEntry}
use Rattle.buffer_core.specs.declared.entry.BufferEntry.TheVariants.{Begin, End, Pause as PausesRun, Resume as ResumesRun}
use Rattle.buffer_core.specs.Ports.{Access}
use Rattle.buffer_core.specs.Runs.{Mark, Paused, Resumed}
use Rattle.buffer_core.specs.Slots.{slot_at}
use Rattle.buffer_core.proofs.SlotLaws.{split}
use Rattle.member_model.specs.RunEngines.{Answer}
use Rattle.transitions.specs.declared.answers.Answer.TheVariants.{Yes}
use Rattle.transitions.specs.declared.answers.Tally.TheVariants.{Plain}
use Rattle.member_model.specs.Turns.{MemberTurn, IsAcceptedStart, IsNextTurn, IsOfRun, AreEngineTurns, latest_answered}
use Rattle.member_model.specs.SentCalls.{EachCall}
use Rattle.member_model.specs.EndedRuns.{MakesNoMark}
use Rattle.mid_logger.specs.declared.channel.Channel.{Channel}
use Rattle.mid_logger.specs.declared.pulled.Pulled.{Pulled}
use Rattle.loggers.specs.declared.logged_run.LoggedRun.{LoggedRun}
use Rattle.loggers.specs.declared.logged_run.RunDumps.{RunDumps}
use Rattle.loggers.specs.declared.logged_run.RunPart.{RunPart}
use Rattle.loggers.specs.declared.logged_run.RunPart.TheVariants.{Started}
use Rattle.loggers.specs.Moments.{LoggerMoment, StepsChannel, CallsBuffer, InTurn}
use Rattle.loggers.specs.ChannelSteps.{OpensChannel}
use Rattle.loggers.specs.SlotPulls.{PullsSlot, PullsNumbered}
use Rattle.loggers.specs.NewLoggers.{AreUnused}
use Rattle.loggers.specs.Turning.{BeginsBuffer, EndsBuffer, PausesBuffer, ResumesBuffer, LoggerTurn, OpensBelow, BeginsBelow, AbortsAll, StartsSo, TakesStart, TakesStop, TakesMark, TakesAbort, TakesTurnBy, TakesTurn, is_run_on, is_started, is_of_start, buffers_begun}
use Rattle.loggers.specs.TurnMarks.{mark_called, marks_called, accepts_start, is_accepted, mark_asked, marks_asked, MarksAsAsked}
use Rattle.loggers.specs.LoggerStands.{logger_turn, HasAcceptedStart, IsPartTold, IsRunTold, HasCurrentRun}
use Rattle.loggers.proofs.InTurns.{turns_keep}
use Rattle.loggers.proofs.PortSteps.{which_port}
use Rattle.loggers.proofs.SameShape.{turn_ports}
use Rattle.loggers.proofs.TurnsKnown.{of_current, in_started, started_run}
use Rattle.loggers.proofs.FairPorts.{CallsQuietly}
use Rattle.loggers.proofs.QuietSteps.{same_kept, opened_kept, pull_kept, opens_kept, aborts_kept}

-- Calls.

called_append : (own more : List BufferEntry) → marks_called (own ++ more) ≡ marks_called own ++ marks_called more
called_append [] more = refl
called_append (e ∷ es) more = ap (λ (l : List Mark). mark_called e ++ l) (called_append es more) ∙ sym (append_assoc (mark_called e) (marks_called es) (marks_called more))

quiet_mark : (e : BufferEntry) → MakesNoMark e → mark_called e ≡ []
quiet_mark (PausesRun start reply) none = absurd none
quiet_mark (ResumesRun start reply) none = absurd none
quiet_mark e none = refl

quiet_marks : (es : List BufferEntry) → EachCall MakesNoMark es → marks_called es ≡ []
quiet_marks [] none = refl
quiet_marks (e ∷ es) none = ap (λ (l : List Mark). l ++ marks_called es) (quiet_mark e none.0) ∙ quiet_marks es none.1

-- Ports.

-- the marks for which was called in each buffer are so
abbrev HaveMarks : (Are : (buffer : ℕ) → List Mark → Type 0) → List Access → Type 0
HaveMarks Are ports = (buffer : ℕ) → (a : Access) → slice_get ports buffer ≡ Some a → Are buffer (marks_called a.own)

put_marks : (Are Now : (buffer : ℕ) → List Mark → Type 0) (ports : List Access) (buffer : ℕ) (p q : Access) (more : List BufferEntry) → slice_get ports buffer ≡ Some p → q.own ≡ p.own ++ more
    → ((was : List Mark) → Are buffer was → Now buffer (was ++ marks_called more)) → ((k : ℕ) (was : List Mark) → k ≢ buffer → Are k was → Now k was) → HaveMarks Are ports → HaveMarks Now (slice_set ports buffer q)
put_marks Are Now ports buffer p q more there own here others have k a at = elim (which_port ports buffer p q k a there at) as (λ w. Now k (marks_called a.own)) [
  | inl hit ↦
      let marks : marks_called a.own ≡ marks_called p.own ++ marks_called more =
      ap (λ (x : Access). marks_called x.own) (sym hit.1) ∙ (ap marks_called own ∙ called_append p.own more) in
      subst (λ (j : ℕ). Now j (marks_called a.own)) (sym hit.0) (subst (λ (l : List Mark). Now buffer l) (sym marks) (here (marks_called p.own) (have buffer p there)))
  | inr miss ↦ others k (marks_called a.own) miss.0 (have k a miss.1)
]

call_marks : (Are Now : (buffer : ℕ) → List Mark → Type 0) (e : BufferEntry) (buffer : ℕ) (a b : LoggerMoment) → CallsBuffer e buffer a b → ((was : List Mark) → Are buffer was → Now buffer (was ++ marks_called (e ∷ []))) → ((k : ℕ) (was : List Mark) → k ≢ buffer → Are k was → Now k was)
    → HaveMarks Are a.ports → HaveMarks Now b.ports
call_marks Are Now e buffer a b c here others have =
    subst (λ (ports : List Access). HaveMarks Now ports) (sym c.ports) (put_marks Are Now a.ports buffer c.port c.later_port (e ∷ []) c.at_port c.called.own here others have)

-- Steps that mark no pause and no resume.

module _ (Are : (buffer : ℕ) → List Mark → Type 0) where
  abbrev Have : LoggerMoment → Type 0
  Have m = HaveMarks Are m.ports

  none_more : (buffer : ℕ) (more : List BufferEntry) → marks_called more ≡ [] → (was : List Mark) → Are buffer was → Are buffer (was ++ marks_called more)
  none_more buffer more none was is = subst (λ (l : List Mark). Are buffer (was ++ l)) (sym none) (subst (λ (l : List Mark). Are buffer l) (sym (append-nil was)) is)

  quiet_ports : (ports : List Access) (buffer : ℕ) (p q : Access) (before after : Option ℕ) → slice_get ports buffer ≡ Some p → CallsQuietly p q before after → HaveMarks Are ports → HaveMarks Are (slice_set ports buffer q)
  quiet_ports ports buffer p q before after there calls have =
      put_marks Are Are ports buffer p q calls.more there calls.own (none_more buffer calls.more (quiet_marks calls.more calls.quiet)) (λ k was other is. is) have

  same_have : (a b : LoggerMoment) → b ≡ a → Have a → Have b
  same_have = same_kept (HaveMarks Are) quiet_ports

  opened_have : (order : Order) (dump : List ℕ) (r : Result ⊤ Why) (n : ℕ) (before : Channel) (a b : LoggerMoment) → StepsChannel (OpensChannel order dump r) n before a b → Have a → Have b
  opened_have = opened_kept (HaveMarks Are) quiet_ports

  pull_have : (dump : List ℕ) (n : ℕ) (answer : Pulled) (slot : Option Channel) (a b : LoggerMoment) → PullsSlot dump slot n answer a b → Have a → Have b
  pull_have = pull_kept (HaveMarks Are) quiet_ports

  opens_have : (order : Order) (dump : List ℕ) (count : ℕ) (a b : LoggerMoment) → OpensBelow order dump count a b → Have a → Have b
  opens_have = opens_kept (HaveMarks Are) quiet_ports

  aborts_have : (a b : LoggerMoment) → AbortsAll a b → Have a → Have b
  aborts_have = aborts_kept (HaveMarks Are) quiet_ports

  other_have : (e : BufferEntry) (buffer : ℕ) (a b : LoggerMoment) → mark_called e ≡ [] → CallsBuffer e buffer a b → Have a → Have b
  other_have e buffer a b none c have = call_marks Are Are e buffer a b c (none_more buffer (e ∷ []) (ap (λ (l : List Mark). l ++ []) none)) (λ k was other is. is) have

  begins_have : (start count : ℕ) (a b : LoggerMoment) → BeginsBelow start count a b → Have a → Have b
  begins_have start count a b begins have = turns_keep (λ k. BeginsBuffer start k) Have count a b (λ k x y step kept. other_have (Begin start (Ok step.0)) k x (record y { slots = x.slots }) refl step.1.marks kept) begins have

  ends_have : (start count : ℕ) (a b : LoggerMoment) → InTurn (λ buffer. EndsBuffer start buffer) count a b → Have a → Have b
  ends_have start count a b ends have = turns_keep (λ k. EndsBuffer start k) Have count a b (λ k x y step kept. other_have (End start step.0) k x (record y { slots = x.slots }) refl step.1.marks kept) ends have

  starts_have : (order : Order) (dump : List ℕ) (begun : ℕ) (result : Result ⊤ Why) (a b : LoggerMoment) → StartsSo result order dump begun a b → Have a → Have b
  starts_have order dump begun (Ok done) a b starts have = begins_have order.start (length a.ports) starts.opened b starts.begins (opens_have order dump (length a.slots) a starts.opened starts.opens have)
  starts_have order dump begun (Err why) a b starts have = elim starts as (λ w. Have b) [
    | inl undoes ↦
        let r = undoes.opens in
        let opened : Have r.opened = opens_have order dump r.number a r.opened r.opens have in
        aborts_have undoes.refused b undoes.aborts (opened_have order dump (Err why) r.number r.channel r.opened undoes.refused r.refuses opened)
    | inr undoes ↦
        let m = undoes.begins in
        let opened : Have undoes.opened = opens_have order dump (length a.slots) a undoes.opened undoes.opens have in
        let begun_so : Have m.begun = begins_have order.start begun undoes.opened m.begun m.begins opened in
        aborts_have undoes.refused b undoes.aborts (other_have (Begin order.start (Err m.refuses.0)) begun m.begun undoes.refused refl m.refuses.1 begun_so)
  ]

  start_have : (on : Bool) (t : LoggerTurn) → TakesStart on t → Have t.before → Have t.after
  start_have true t takes have = same_have t.before t.after takes.moment have
  start_have false t takes have = starts_have t.order _ takes.begun takes.result t.before t.after takes.starts have

  stop_have : (of : Bool) (t : LoggerTurn) → TakesStop of t → Have t.before → Have t.after
  stop_have true t takes have = ends_have t.order.start (length t.before.ports) t.before t.after takes.ends have
  stop_have false t takes have = same_have t.before t.after takes.moment have

  off_have : (of : Bool) (t : LoggerTurn) → TakesAbort of t → Have t.before → Have t.after
  off_have true t takes have = aborts_have takes.ended t.after takes.aborts (ends_have t.order.start (buffers_begun t.run) t.before takes.ended takes.ends have)
  off_have false t takes have = same_have t.before t.after takes.moment have

-- A mark in one buffer after another.

-- in the buffers with numbers below this the mark was set behind these marks, and in the others it was not yet
record MarkedBelow (marks : List Mark) (mark : Mark) (count buffer : ℕ) (now : List Mark) : Type 0 where
  below : buffer < count → now ≡ marks ++ mark ∷ []
  above : count ≤ buffer → now ≡ marks

mark_here : (marks : List Mark) (mark : Mark) (e : BufferEntry) (n : ℕ) (a b : LoggerMoment) → mark_called e ≡ mark ∷ [] → CallsBuffer e n a b → HaveMarks (MarkedBelow marks mark n) a.ports → HaveMarks (MarkedBelow marks mark (suc n)) b.ports
mark_here marks mark e n a b is c have =
    call_marks (MarkedBelow marks mark n) (MarkedBelow marks mark (suc n)) e n a b c
    (λ was so. record {
      below = λ within. ap (λ (l : List Mark). was ++ (l ++ [])) is ∙ ap (λ (l : List Mark). l ++ mark ∷ []) (so.above (omega arith));
      above = λ past. absurd (omega (arith, past));
    })
    (λ k was other so. record { below = λ within. so.below (omega (arith, within)); above = λ past. so.above (omega (arith, past)) }) have

module _ (marks : List Mark) (mark : Mark) (Marks : (buffer : ℕ) → (a b : LoggerMoment) → Type 0)
    (step : (n : ℕ) (a b : LoggerMoment) → Marks n a b → HaveMarks (MarkedBelow marks mark n) a.ports → HaveMarks (MarkedBelow marks mark (suc n)) b.ports) where
  marked_below : (count : ℕ) (a b : LoggerMoment) → InTurn Marks count a b → HaveMarks (λ buffer now. now ≡ marks) a.ports → HaveMarks (MarkedBelow marks mark count) b.ports
  marked_below zero a b steps have = subst (λ (m : LoggerMoment). HaveMarks (MarkedBelow marks mark 0) m.ports) (sym steps) (λ k x at. record { below = λ within. absurd (omega (arith, within)); above = λ past. have k x at })
  marked_below (suc n) a b steps have = step n steps.0 b steps.2 (marked_below n a steps.0 steps.1 have)

all_marked : (marks : List Mark) (mark : Mark) (count : ℕ) (ports : List Access) → length ports ≡ count → HaveMarks (MarkedBelow marks mark count) ports → HaveMarks (λ buffer now. now ≡ marks ++ mark ∷ []) ports
all_marked marks mark count ports many have k a at = (have k a at).below (omega (arith, many, slice_get_within ports k a at))

-- Starts that were accepted.

accepts_parts : (transition : Transition) (answer : Option Answer) → accepts_start transition answer ≡ true → (transition ≡ Start) × (answer ≡ Some (Yes Plain))
accepts_parts Start (Some (Yes Plain)) is = (refl, refl)
accepts_parts transition answer is = absurd (cc (is))

or_given : (a b : Bool) → b ≡ true → (a || b) ≡ true
or_given true b is = refl
or_given false b is = is

or_found : (a b : Bool) → (a || b) ≡ true → (a ≡ true) ⊎ (b ≡ true)
or_found true b is = inl refl
or_found false b is = inr is

accepted_told : (turns : List MemberTurn) (start : ℕ) (begin : MemberTurn) → IsAcceptedStart turns start begin → is_accepted turns start ≡ true
accepted_told [] start begin accepted = absurd accepted.is_start.stands
accepted_told (u ∷ us) start begin accepted = elim accepted.is_start.stands as (λ w. is_accepted (u ∷ us) start ≡ true) [
  | inl same ↦
      let transition : u.transition ≡ Start = ap (λ (x : MemberTurn). x.transition) same ∙ accepted.is_start.is in
      let answer : u.answer ≡ Some (Yes Plain) = ap (λ (x : MemberTurn). x.answer) same ∙ accepted.accepted in
      let of : u.order.start ≡ start = ap (λ (x : MemberTurn). x.order.start) same ∙ accepted.is_start.of in
      rw (transition, answer, eq-eqb u.order.start start of) refl
  | inr before ↦
      or_given (accepts_start u.transition u.answer && (u.order.start == start)) (is_accepted us start)
      (accepted_told us start begin (record { is_start = record { stands = before; is = accepted.is_start.is; of = accepted.is_start.of }; accepted = accepted.accepted }))
]

told_accepted : (turns : List MemberTurn) (start : ℕ) → is_accepted turns start ≡ true → HasAcceptedStart turns start
told_accepted [] start is = absurd (cc (is))
told_accepted (u ∷ us) start is = elim (or_found (accepts_start u.transition u.answer && (u.order.start == start)) (is_accepted us start) is) as (λ w. HasAcceptedStart (u ∷ us) start) [
  | inl here ↦
      let parts = and_parts (accepts_start u.transition u.answer) (u.order.start == start) here in
      let accepts = accepts_parts u.transition u.answer parts.0 in
      (u, record { is_start = record { stands = inl refl; is = accepts.0; of = eqb-true u.order.start start parts.1 }; accepted = accepts.1 })
  | inr before ↦
      let has : HasAcceptedStart us start = told_accepted us start before in
      (has.0, record { is_start = record { stands = inr has.1.is_start.stands; is = has.1.is_start.is; of = has.1.is_start.of }; accepted = has.1.accepted })
]

-- the run that goes on was accepted
going_accepted : (run : Option LoggedRun) (start : ℕ) (turns : List MemberTurn) (dumps : RunDumps) → is_started run start ≡ true → IsRunTold run turns dumps → HasAcceptedStart turns start
going_accepted run start turns dumps on told =
    let going = started_run run start on in
    let r : LoggedRun = going.0 in
    let of_run : IsRunTold (Some r) turns dumps = subst (λ (x : Option LoggedRun). IsRunTold x turns dumps) going.1 told in
    let of_part : IsPartTold Started turns r.start dumps = subst (λ (p : RunPart). IsPartTold p turns r.start dumps) going.2.1 of_run in
    subst (λ (n : ℕ). HasAcceptedStart turns n) going.2.0 of_part.1

-- while one goes on that was accepted, the logger has it
accepted_goes : (run : Option LoggedRun) (start : ℕ) (turns : List MemberTurn) → IsOfRun start turns → HasCurrentRun run turns → is_accepted turns start ≡ true → is_started run start ≡ true
accepted_goes run start turns of_run current accepted =
    let begin : HasAcceptedStart turns start = told_accepted turns start accepted in
    in_started run start (current start begin.0 (of_current turns start (begin.0, begin.1.is_start) of_run) begin.1)

-- A turn.

-- what is known before a turn of the engine
record MarksGiven (t : LoggerTurn) (turns : List MemberTurn) : Type 0 where
  told : IsRunTold t.run turns t.dumps
  current : HasCurrentRun t.run turns
  next : IsNextTurn t.transition t.order.start turns
  marks : MarksAsAsked t.before.ports turns
  many : length t.after.ports ≡ length t.before.ports

abbrev MarksNow : LoggerTurn → List MemberTurn → Type 0
MarksNow t turns = MarksAsAsked t.after.ports (logger_turn t.transition t.order t.dump t.answer ∷ turns)

none_asked : (accepted : Bool) (asked : List Mark) → asked ≡ [] → (if accepted then asked else []) ≡ []
none_asked true asked none = none
none_asked false asked none = refl

-- where the turn asks for no mark, and none was set
none_now : (t : LoggerTurn) (turns : List MemberTurn) → (if is_accepted turns t.order.start then mark_asked t.transition t.order.start else []) ≡ [] → HaveMarks (λ buffer now. now ≡ marks_asked turns) t.after.ports → MarksNow t turns
none_now t turns none have k a at = have k a at ∙ (sym (append-nil (marks_asked turns)) ∙ ap (λ (l : List Mark). marks_asked turns ++ l) (sym none))

-- where it asks for one, and that was set in every buffer
one_now : (t : LoggerTurn) (turns : List MemberTurn) (mark : Mark) → mark_asked t.transition t.order.start ≡ mark ∷ [] → is_accepted turns t.order.start ≡ true → HaveMarks (λ buffer now. now ≡ marks_asked turns ++ mark ∷ []) t.after.ports → MarksNow t turns
one_now t turns mark is accepted have k a at =
    let asked : (if is_accepted turns t.order.start then mark_asked t.transition t.order.start else []) ≡ mark ∷ [] = rw (accepted) is in
    have k a at ∙ ap (λ (l : List Mark). marks_asked turns ++ l) (sym asked)

-- a pause or a resume of a run that does not go on
off_now : (t : LoggerTurn) (turns : List MemberTurn) → IsOfRun t.order.start turns → MarksGiven t turns → is_started t.run t.order.start ≡ false → t.after ≡ t.before → MarksNow t turns
off_now t turns of_run given off same =
    none_now t turns
    (split (is_accepted turns t.order.start) (λ b. (if b then mark_asked t.transition t.order.start else []) ≡ [])
    (λ accepted. absurd (let on : is_started t.run t.order.start ≡ true = accepted_goes t.run t.order.start turns of_run given.current accepted in let never : true ≡ false = sym on ∙ off in cc (never))) (λ refused. refl))
    (same_have (λ buffer now. now ≡ marks_asked turns) t.before t.after same given.marks)

-- one that goes on
on_now : (t : LoggerTurn) (turns : List MemberTurn) (mark : Mark) → mark_asked t.transition t.order.start ≡ mark ∷ [] → MarksGiven t turns → is_started t.run t.order.start ≡ true → HaveMarks (MarkedBelow (marks_asked turns) mark (length t.before.ports)) t.after.ports → MarksNow t turns
on_now t turns mark is given on have =
    let begin : HasAcceptedStart turns t.order.start = going_accepted t.run t.order.start turns t.dumps on given.told in
    one_now t turns mark is (accepted_told turns t.order.start begin.0 begin.1) (all_marked (marks_asked turns) mark (length t.before.ports) t.after.ports given.many have)

pause_now : (on : Bool) (t : LoggerTurn) (turns : List MemberTurn) → t.transition ≡ Pause → is_started t.run t.order.start ≡ on → IsOfRun t.order.start turns → MarksGiven t turns → TakesMark PausesBuffer on t → MarksNow t turns
pause_now true t turns is on of_run given takes =
    let start : ℕ = t.order.start in
    on_now t turns (Paused start) (ap (λ (x : Transition). mark_asked x start) is) given on
    (marked_below (marks_asked turns) (Paused start) (λ buffer. PausesBuffer start buffer) (λ n a b step have. mark_here (marks_asked turns) (Paused start) (PausesRun start step.0) n a b refl step.1 have) (length t.before.ports) t.before t.after takes.marks given.marks)
pause_now false t turns is off of_run given takes = off_now t turns of_run given off takes.moment

resume_now : (on : Bool) (t : LoggerTurn) (turns : List MemberTurn) → t.transition ≡ Resume → is_started t.run t.order.start ≡ on → IsOfRun t.order.start turns → MarksGiven t turns → TakesMark ResumesBuffer on t → MarksNow t turns
resume_now true t turns is on of_run given takes =
    let start : ℕ = t.order.start in
    on_now t turns (Resumed start) (ap (λ (x : Transition). mark_asked x start) is) given on
    (marked_below (marks_asked turns) (Resumed start) (λ buffer. ResumesBuffer start buffer) (λ n a b step have. mark_here (marks_asked turns) (Resumed start) (ResumesRun start step.0) n a b refl step.1 have) (length t.before.ports) t.before t.after takes.marks given.marks)
resume_now false t turns is off of_run given takes = off_now t turns of_run given off takes.moment

other_now : (t : LoggerTurn) (turns : List MemberTurn) (transition : Transition) → t.transition ≡ transition → mark_asked transition t.order.start ≡ [] → HaveMarks (λ buffer now. now ≡ marks_asked turns) t.after.ports → MarksNow t turns
other_now t turns transition is none have =
    none_now t turns (none_asked (is_accepted turns t.order.start) (mark_asked t.transition t.order.start) (ap (λ (x : Transition). mark_asked x t.order.start) is ∙ none)) have

now_by : (transition : Transition) (t : LoggerTurn) (turns : List MemberTurn) → t.transition ≡ transition → IsNextTurn transition t.order.start turns → MarksGiven t turns → TakesTurnBy transition t → MarksNow t turns
now_by Start t turns is next given takes = other_now t turns Start is refl (start_have (λ buffer now. now ≡ marks_asked turns) (is_run_on t.run) t takes given.marks)
now_by Stop t turns is next given takes = other_now t turns Stop is refl (stop_have (λ buffer now. now ≡ marks_asked turns) (is_started t.run t.order.start) t takes given.marks)
now_by Pause t turns is next given takes = pause_now (is_started t.run t.order.start) t turns is refl next given takes
now_by Resume t turns is next given takes = resume_now (is_started t.run t.order.start) t turns is refl next given takes
now_by StartAbort t turns is next given takes = other_now t turns StartAbort is refl (off_have (λ buffer now. now ≡ marks_asked turns) (is_of_start t.run t.order.start) t takes given.marks)

pub turn_marks : (t : LoggerTurn) (turns : List MemberTurn) → TakesTurn t → IsRunTold t.run turns t.dumps → (AreEngineTurns turns → HasCurrentRun t.run turns) → (AreEngineTurns turns → MarksAsAsked t.before.ports turns)
    → AreEngineTurns (logger_turn t.transition t.order t.dump t.answer ∷ turns) → MarksNow t turns
turn_marks t turns takes told current marks are =
    now_by t.transition t turns refl are.0 (record { told = told; current = current are.1; next = are.0; marks = marks are.1; many = (turn_ports t takes).many }) takes

-- A pull, a call to finish, and a new logger.

pub pull_marks : (dump : List ℕ) (n : ℕ) (answer : Pulled) (a b : LoggerMoment) (turns : List MemberTurn) → PullsNumbered dump n answer a b → (AreEngineTurns turns → MarksAsAsked a.ports turns) → AreEngineTurns turns → MarksAsAsked b.ports turns
pull_marks dump n answer a b turns pulls marks are = pull_have (λ buffer now. now ≡ marks_asked turns) dump n answer (slot_at a.slots n) a b pulls (marks are)

answered_marks : (turns : List MemberTurn) (answer : Option Answer) → marks_asked (latest_answered turns answer) ≡ marks_asked turns
answered_marks turns None = refl
answered_marks [] (Some answer) = refl
answered_marks (t ∷ ts) (Some answer) = refl

answered_engine : (turns : List MemberTurn) (answer : Option Answer) → AreEngineTurns (latest_answered turns answer) → AreEngineTurns turns
answered_engine turns None are = are
answered_engine [] (Some answer) are = are
answered_engine (t ∷ ts) (Some answer) are = are

pub finish_marks : (turns : List MemberTurn) (answer : Option Answer) (ports : List Access) → (AreEngineTurns turns → MarksAsAsked ports turns) → AreEngineTurns (latest_answered turns answer) → MarksAsAsked ports (latest_answered turns answer)
finish_marks turns answer ports marks are k a at = marks (answered_engine turns answer are) k a at ∙ sym (answered_marks turns answer)

pub new_marks : (ports : List Access) → AreUnused ports → MarksAsAsked ports []
new_marks ports unused k a at = ap marks_called (unused k a at).0
