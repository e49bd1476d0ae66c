-- Once each start is over, the names stay that no file of a run has that came about, but those of starts that were refused.
use Rattle.std.specs.Prelude.{◌≡◌, ◌<◌, ◌+◌, ◌⊎◌, ℕ, suc, IsTrue, List, [], ◌∷◌, ◌++◌, slice_get, Contains, Some, None, Ok, refl}
use Rattle.std.proofs.Common.{ap, sym, subst, ◌∙◌, arith, inl, inr}
use Rattle.std.proofs.lemmas.List.Elements.{Contains-append_right}
use Rattle.daq_types.specs.Callers.{main_caller}
use Rattle.daq_types.specs.declared.runs.ChannelEnd.{ChannelEnd}
use Rattle.daq_types.specs.declared.runs.Order.{Order}
use Rattle.daq_types.specs.declared.runs.StartOutcome.TheVariants.{Refused}
use Rattle.daq_types.specs.declared.runs.Transition.TheVariants.{Start, Stop, StartAbort}
use Rattle.daq_types.specs.declared.runs.Why.{Why}
use Rattle.daq_io.specs.Seen.{Stored}
use Rattle.daq_io.specs.Told.{FilesTold}
use Rattle.transitions.specs.declared.answers.Answer.TheVariants.{Yes, No}
use Rattle.transitions.specs.declared.answers.Tally.TheVariants.{Channels}
use Rattle.buffer_core.specs.Slots.{slot_at}
use Rattle.transitions.specs.declared.replies.Progress.TheVariants.{Done}
use Rattle.member_model.specs.RunEngines.{Sheet, EngineEntry}
use Rattle.transitions.specs.declared.entry.EngineEntry.TheVariants.{Begin, Check}
use Rattle.member_model.specs.Turns.{MemberTurn, HasTurn, HasTurnOf}
use Rattle.member_model.specs.TurnCalls.{member_turns}
use Rattle.sub_files.specs.Patterns.{piece_name_by}
use Rattle.mid_logger.specs.declared.channel.Channel.{Channel}
use Rattle.mid_logger.specs.declared.channel_spec.ChannelSpec.{ChannelSpec}
use Rattle.loggers.specs.LoggerStands.{LoggerStands}
use Rattle.loggers.specs.OtherFiles.{specs_in}
use Rattle.loggers.specs.LeftNames.{HasUntoldFault, NamesLeft, IsOpenName, IsStoppedName, IsUndoneRun, IsUndoneName, IsNameLeft, IsStartedRun, KeepsNames}
use Rattle.loggers.proofs.NamesTaken.{free_name}
use Rattle.loggers.proofs.StoppedThere.{one_start}
use Rattle.history_laws.specs.BegunTurns.{HasTransition, IsCalledOff, IsRegisteredIn}
use Rattle.session_runs.specs.RunsFit.{start_begun as begun_number, starts_begun}
use Rattle.composition.specs.Sessions.{Session}
use Rattle.composition.specs.SessionRuns.{SessionRun, IsStoppedRun}
use Rattle.composition.proofs.SessionTurns.{IsStartTurn, start_turn, speaks}
use Rattle.session_laws.specs.ClosedSessions.{ClosedSession, logger_client, logger_caller, engine_calls, session_of}
use Rattle.session_laws.specs.MembersAtEnd.{MembersAtEnd}
use Rattle.session_laws.specs.MadeRuns.{RunIn}
use Rattle.session_laws.specs.OtherNames.{BeginsStartOf, RefusesStart, GivesNoName, GivesOthers, HasUndoneName, IsUnmadeName, IsNameKept}
use Rattle.session_laws.specs.CountedFaults.{LoggerNames}
use Rattle.session_laws.proofs.KeptTogether.{names_own}
use Rattle.session_laws.proofs.LoggerEnd.{given_once}
use Rattle.session_laws.proofs.MainFirst.{logger_called}
use Rattle.session_laws.proofs.NamesStay.{StartBegun, start_begun, HasSpec, has_spec}
use Rattle.session_laws.proofs.RunsMade.{has_made, made_are_stopped}
use Rattle.session_laws.proofs.RunTurns.{TurnLaws, Turned, TurnsOf, one_end, are_turns, turns_of_run, told_is, never_open}

-- The starts that the main thread began.

pub started_in : (before after : List EngineEntry) (sheet : Sheet) (start : ℕ) → Contains (starts_begun (before ++ Begin Start sheet (Ok start) ∷ after)) start
started_in [] after sheet start = (0, omega arith, refl)
started_in (e ∷ before) after sheet start =
    Contains-append_right (begun_number e) (starts_begun (before ++ Begin Start sheet (Ok start) ∷ after)) start (started_in before after sheet start)

-- a number that the start numbers of these turns are not above
abbrev greatest : List MemberTurn → ℕ
greatest [] = 0
greatest (t ∷ ts) = t.order.start + greatest ts

below_greatest : (ts : List MemberTurn) (u : MemberTurn) → HasTurn ts u → u.order.start < suc (greatest ts)
below_greatest [] u has = absurd has
below_greatest (t ∷ ts) u has = elim has as (λ w. u.order.start < suc (greatest (t ∷ ts))) [
  | inl same ↦
      let is : t.order.start ≡ u.order.start = ap (λ (v : MemberTurn). v.order.start) same in
      let sum : greatest (t ∷ ts) ≡ t.order.start + greatest ts = refl in
      omega (arith, is, sum)
  | inr old ↦
      let below = below_greatest ts u old in
      let sum : greatest (t ∷ ts) ≡ t.order.start + greatest ts = refl in
      omega (arith, below, sum)
]

module _ (laws : TurnLaws) (c : ClosedSession) (ends : MembersAtEnd c) where
  abbrev turns : List MemberTurn
  turns = member_turns (logger_client c) (engine_calls c (logger_caller c))

  abbrev its : Session
  its = session_of c ends.moments

  -- a start that was refused is called off
  pub called_off : (start : ℕ) → RefusesStart (engine_calls c main_caller) start → IsCalledOff turns start
  called_off start r =
      let n : ℕ = logger_client c in
      let has : HasTransition c.engine Start r.sheet start (Refused r.client r.why) r.tallies = has_made laws.main c.engine Start r.sheet start (Refused r.client r.why) r.tallies ends.engine r.made in
      let is : IsRegisteredIn has.earlier n StartAbort =
      logger_called c ends StartAbort 800 refl (λ client. []) has.earlier (has.between ++ (has.closer, Check (Done (Refused r.client r.why)) r.tallies) ∷ has.later) has.opener Start r.sheet start has.whole in
      laws.calls_off (logger_caller c) n c.engine ends.engine (speaks n c.engine (names_own c ends)) r.sheet start r.client r.why r.tallies has is

  -- The run of this start turn came about, and no file of it has the name.
  record CameWithout (name : List ℕ) (begin : MemberTurn) : Type 0 where
    run : SessionRun
    came : IsStoppedRun its run
    of : run.start ≡ begin.order.start
    number : run.first.run ≡ begin.order.run
    each : (n : ℕ) → (channel : Channel) → slot_at c.slots n ≡ Some channel → GivesOthers c run channel name

  -- so it is with a run that the logger started, and that was not called off
  came_without : (name : List ℕ) → IsUnmadeName c name → (begin : MemberTurn) → HasTurn turns begin → begin.transition ≡ Start → (IsCalledOff turns begin.order.start → ⊥) → CameWithout name begin
  came_without name unmade begin has starts never =
      let own : List EngineEntry = engine_calls c main_caller in
      let b : StartBegun c begin = start_begun laws.facts.begun c ends begin has starts in
      let among : Contains (starts_begun own) begin.order.start = subst (λ (l : List EngineEntry). Contains (starts_begun l) begin.order.start) (sym b.whole) (started_in b.before b.after b.sheet begin.order.start) in
      elim (unmade begin.order.start among) as (λ w. CameWithout name begin) [
        | inl refused ↦ absurd (never (called_off begin.order.start refused))
        | inr over ↦
            let keep = laws.keep c ends in
            let came : IsStoppedRun its over.run = made_are_stopped laws.main its ends.engine over.run over.made in
            let turn : IsStartTurn over.run begin = start_turn laws.facts its keep over.run came (logger_client c) begin (record { stands = has; is = starts; of = sym over.of }) in
            record { run = over.run; came = came; of = over.of; number = sym (ap (λ (o : Order). o.run) turn.order); each = over.each }
      ]

  -- such a name is not that of a run that was stopped
  not_stopped : (name : List ℕ) → IsUnmadeName c name → IsStoppedName (specs_in c.slots) turns name → ⊥
  not_stopped name unmade o =
      let begin : MemberTurn = o.stopped.begin in
      let stop : MemberTurn = o.stopped.stop in
      let first = o.stopped.is_start.is_start in
      let channel : HasSpec c.slots o.number o.spec = has_spec c.slots o.number o.spec o.there in
      let ch : Channel = channel.channel in
      let went : CameWithout name begin = came_without name unmade begin first.stands first.is
      (λ off. one_end turns begin.order.start begin stop off.turn (are_turns laws c ends) (record { stands = first.stands; is = first.is; of = refl })
      (record { stands = o.stopped.stands; is = o.stopped.is; of = sym first.of }) (record { stands = off.stands; is = off.is; of = off.of })) in
      let others : GivesOthers c went.run ch name = went.each o.number ch channel.at in
      let tells = others.tells in
      let stops : Turned turns Stop went.run.start stop = record { stands = o.stopped.stands; is = o.stopped.is; of = sym first.of ∙ sym went.of } in
      let answers : Some (Yes (Channels o.ends)) ≡ Some (Yes (Channels tells.ends)) = sym o.stopped.answered ∙ told_is laws c ends went.run went.came tells.index tells.ends tells.tells stop stops in
      let same : o.ends ≡ tells.ends = cc (answers) in
      let number : ch.spec.number ≡ o.number = (ends.logger.stands (given_once laws.once c ends)).holds.standing.numbered o.number ch channel.at in
      let at : slice_get tells.ends o.number ≡ Some others.told = subst (λ (n : ℕ). slice_get tells.ends n ≡ Some others.told) number tells.at in
      let both : Some o.told ≡ Some others.told = sym o.at ∙ (ap (λ (l : List ChannelEnd). slice_get l o.number) same ∙ at) in
      let told : o.told ≡ others.told = cc (both) in
      others.others o.sub (subst (λ (t : ChannelEnd). o.sub < t.files) told o.made)
      (ap (λ (s : ChannelSpec). piece_name_by s.pattern went.run.first.run o.sub) channel.is ∙ (ap (λ (n : ℕ). piece_name_by o.spec.pattern n o.sub) (went.number ∙ o.stopped.number) ∙ o.is))

  -- nor that of a run that a channel has: a run that came about is no channel's any more
  not_open : (name : List ℕ) → IsUnmadeName c name → IsOpenName c.slots name → ⊥
  not_open name unmade o =
      let stands : LoggerStands ends.logger.run ends.logger.dumps c.slots ends.logger.ports turns c.files = ends.logger.stands (given_once laws.once c ends) in
      let started : IsStartedRun turns o.opened = laws.started ends.logger.run ends.logger.dumps c.slots ends.logger.ports turns c.files stands (are_turns laws c ends) o.number o.channel o.opened o.there o.of in
      let first = started.is_start.is_start in
      let went : CameWithout name started.begin = came_without name unmade started.begin first.stands first.is (λ off. started.on off.turn off.stands off.is (off.of ∙ first.of)) in
      never_open laws c ends went.run went.came o.number o.channel o.opened o.there o.of (sym first.of ∙ sym went.of)

  -- A run that came about was not undone.
  pub never_undone : (run : SessionRun) → IsStoppedRun its run → (begin : MemberTurn) → HasTurnOf turns Start run.start begin → ((why : Why) × (begin.answer ≡ Some (No why))) ⊎ ((off : MemberTurn) × HasTurnOf turns StartAbort begin.order.start off) → ⊥
  never_undone run came begin of undone =
      let t : TurnsOf turns run.start = turns_of_run laws c ends run came in
      let same : begin ≡ t.begin = one_start turns run.start begin t.begin (are_turns laws c ends) of (record { stands = t.starts.stands; is = t.starts.is; of = t.starts.of }) in
      elim undone as (λ w. ⊥) [
        | inl refused ↦ (let both : Some (No refused.0) ≡ Some (Yes t.tally) = sym refused.1 ∙ (ap (λ (u : MemberTurn). u.answer) same ∙ t.accepted) in cc (both))
        | inr off ↦ one_end turns run.start t.begin t.stop off.0 (are_turns laws c ends) t.starts t.stops (record { stands = off.1.stands; is = off.1.is; of = off.1.of ∙ of.of })
      ]

  -- where each start is over, one that the logger undid was refused
  pub undone_before : (older : List MemberTurn) → ((u : MemberTurn) → HasTurn older u → HasTurn turns u) → (start : ℕ) → ((u : MemberTurn) → HasTurn older u → u.order.start < start)
      → ((begun : ℕ) → Contains (starts_begun (engine_calls c main_caller)) begun → RefusesStart (engine_calls c main_caller) begun ⊎ ((run : SessionRun) × RunIn (engine_calls c main_caller) run × (run.start ≡ begun))) → (run : ℕ) → IsUndoneRun older run
      → (begun : BeginsStartOf (engine_calls c main_caller) run) × RefusesStart (engine_calls c main_caller) begun.start × (begun.start < start)
  undone_before older among start above over number undone =
      let own : List EngineEntry = engine_calls c main_caller in
      let begin : MemberTurn = undone.begin in
      let has : HasTurn turns begin = among begin undone.stands in
      let b : StartBegun c begin = start_begun laws.facts.begun c ends begin has undone.is in
      let among_begun : Contains (starts_begun own) begin.order.start = subst (λ (l : List EngineEntry). Contains (starts_begun l) begin.order.start) (sym b.whole) (started_in b.before b.after b.sheet begin.order.start) in
      elim (over begin.order.start among_begun) as (λ w. (begun : BeginsStartOf own number) × RefusesStart own begun.start × (begun.start < start)) [
        | inl refused ↦ (
          record { sheet = b.sheet; start = begin.order.start; before = b.before; after = b.after; whole = b.whole; number = b.number ∙ undone.number },
          refused,
          above begin undone.stands,
        )
        | inr came ↦
            let run : IsStoppedRun its came.0 = made_are_stopped laws.main its ends.engine came.0 came.1 in
            absurd (never_undone came.0 run begin (record { stands = has; is = undone.is; of = sym came.2 })
            (elim undone.undone as (λ w. ((why : Why) × (begin.answer ≡ Some (No why))) ⊎ ((off : MemberTurn) × HasTurnOf turns StartAbort begin.order.start off)) [
              | inl refused ↦ inl refused
              | inr off ↦ inr (off.0, record { stands = among off.0 off.1.stands; is = off.1.is; of = off.1.of })
            ]))
      ]

  -- a name of such a start is one of a start that was refused
  pub undone_name : (older : List MemberTurn) (name : List ℕ) → ((u : MemberTurn) → HasTurn older u → HasTurn turns u) → (start : ℕ) → ((u : MemberTurn) → HasTurn older u → u.order.start < start)
      → ((begun : ℕ) → Contains (starts_begun (engine_calls c main_caller)) begun → RefusesStart (engine_calls c main_caller) begun ⊎ ((run : SessionRun) × RunIn (engine_calls c main_caller) run × (run.start ≡ begun))) → IsUndoneName (specs_in c.slots) older name
      → (undone : HasUndoneName c name) × (undone.begun.start < start)
  undone_name older name among start above over o =
      let was = undone_before older among start above over o.run o.undone in
      let channel : HasSpec c.slots o.number o.spec = has_spec c.slots o.number o.spec o.there in (
        record {
          run = o.run;
          begun = was.0;
          refused = was.1;
          place = o.number;
          channel = channel.channel;
          there = channel.at;
          sub = o.sub;
          few = o.few;
          is = ap (λ (s : ChannelSpec). piece_name_by s.pattern o.run o.sub) channel.is ∙ o.is;
        },
        was.2,
      )

  pub undone_stay : (first now : FilesTold) → LoggerNames c ends first now → IsTrue first.seen.names → (name : List ℕ) → IsUnmadeName c name → IsNameKept c first now name
  undone_stay first now names tells name unmade =
      let kept : KeepsNames c.slots first now turns = names (given_once laws.once c ends) in
      let left : NamesLeft (IsNameLeft (HasUntoldFault c.slots turns first now) (specs_in c.slots) turns first.seen) c.slots now.seen = kept.names tells in
      let above : (u : MemberTurn) → HasTurn turns u → u.order.start < suc (greatest turns) = λ u has. below_greatest turns u has in
      elim (left.each name) as (λ w. IsNameKept c first now name) [
        | inl good ↦ elim good as (λ w. IsNameKept c first now name) [
          | inl same ↦ inl same
          | inr made ↦ elim made.1 as (λ w. IsNameKept c first now name) [
            | inl stopped ↦ absurd (not_stopped name unmade stopped)
            | inr undone ↦ inr (made.0, (undone.0, (undone_name turns name (λ u has. has) (suc (greatest turns)) above (λ begun is. or_made (unmade begun is)) undone.1).0))
          ]
        ]
        | inr open_ ↦ absurd (not_open name unmade open_)
      ]
    where
      or_made : {begun : ℕ} → RefusesStart (engine_calls c main_caller) begun ⊎ GivesNoName c name begun → RefusesStart (engine_calls c main_caller) begun ⊎ ((run : SessionRun) × RunIn (engine_calls c main_caller) run × (run.start ≡ begun))
      or_made (inl refused) = inl refused
      or_made (inr over) = inr (over.run, over.made, over.of)

  -- a file that was there at first is there, with the same bytes
  pub firsts_stay : (first now : FilesTold) → LoggerNames c ends first now → IsTrue first.seen.names → (name : List ℕ) (file : Stored) → first.seen.at name ≡ Some file → now.seen.at name ≡ Some file
  firsts_stay first now names tells name file there =
      let kept : KeepsNames c.slots first now turns = names (given_once laws.once c ends) in
      let Untold : Type 0 = HasUntoldFault c.slots turns first now in
      let left : NamesLeft (IsNameLeft Untold (specs_in c.slots) turns first.seen) c.slots now.seen = kept.names tells in
      let taken : first.seen.at name ≡ None → ⊥ = λ free. (let both : Some file ≡ None = sym there ∙ free in cc (both)) in
      elim (left.each name) as (λ w. now.seen.at name ≡ Some file) [
        | inl good ↦ elim good as (λ w. now.seen.at name ≡ Some file) [
          | inl same ↦ same ∙ there
          | inr made ↦ absurd (taken made.0)
        ]
        | inr open_ ↦ absurd (taken (free_name Untold (specs_in c.slots) turns first.seen name (left.fresh name open_)))
      ]
