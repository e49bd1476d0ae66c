-- The logger of a closed session refused a start for a name only where that was taken, and accepted one only where all were free.
use Rattle.std.specs.Option.{option_map}
use Rattle.std.proofs.lemmas.List.{length-map}
use Rattle.std.specs.Prelude.{◌≡◌, ◌<◌, ◌≤◌, ℕ, IsTrue, IsSome, List, [], ◌∷◌, length, slice_get, Contains, Option, Some, None, refl, ◌⊎◌}
use Rattle.std.proofs.Common.{ap, sym, subst, ◌∙◌, arith, inl, inr}
use Rattle.daq_types.specs.Callers.{main_caller}
use Rattle.daq_types.specs.declared.runs.ChannelEnd.{ChannelEnd}
use Rattle.daq_types.specs.declared.runs.Order.{Order}
use Rattle.daq_types.specs.declared.runs.Transition.{Transition}
use Rattle.daq_types.specs.declared.runs.Transition.TheVariants.{Start, Stop, Pause, Resume, StartAbort}
use Rattle.daq_types.specs.declared.runs.Why.TheVariants.{Exists, Fault}
use Rattle.daq_io.specs.Seen.{Seen}
use Rattle.daq_io.specs.Told.{FilesTold}
use Rattle.buffer_core.specs.Slots.{slot_at}
use Rattle.transitions.specs.declared.answers.Answer.TheVariants.{Yes, No}
use Rattle.transitions.specs.declared.answers.Tally.TheVariants.{Plain}
use Rattle.member_model.specs.RunEngines.{EngineEntry, Tally}
use Rattle.member_model.specs.Turns.{MemberTurn, HasTurn, HasTurnOf, IsNextTurn, IsOfRun, AreEngineTurns, current_run}
use Rattle.member_model.specs.TurnCalls.{member_turns}
use Rattle.sub_files.specs.Patterns.{piece_name_by}
use Rattle.mid_logger.specs.declared.channel.Channel.{Channel}
use Rattle.mid_logger.specs.declared.channel_spec.ChannelSpec.{ChannelSpec}
use Rattle.mid_logger.specs.Patterns.{file_name_by}
use Rattle.loggers.specs.OtherFiles.{specs_in}
use Rattle.loggers.specs.LeftNames.{HasUntoldFault, IsStoppedRunOf, IsStoppedName, IsBrokenName, IsUndoneFile, IsFaultOf, NamesFaultOfStart, IsGivenBefore, IsNameMade, AreNamesFree, IsNameTaken, FindsNames, EachBehind, KeepsNames}
use Rattle.loggers.proofs.FilesLeft.{spec_at}
use Rattle.history_laws.specs.BegunTurns.{StartsComeLast}
use Rattle.history_laws.specs.EngineLaws.{RunsAreOver}
use Rattle.session_runs.specs.RunsFit.{starts_begun}
use Rattle.composition.specs.SessionRuns.{SessionRun, IsStoppedRun}
use Rattle.composition.proofs.SessionTurns.{IsStartTurn, start_turn, speaks}
use Rattle.session_laws.specs.ClosedSessions.{ClosedSession, logger_client, logger_caller, engine_calls, session_of}
use Rattle.session_laws.specs.MembersAtEnd.{MembersAtEnd}
use Rattle.session_laws.specs.MadeRuns.{RunIn}
use Rattle.session_laws.specs.OtherNames.{AreStartsOver, ToldOf, HasMadeBefore, HasBrokenBefore, HasRefusedBefore, IsFirstFile, HasFirstFault, IsMadeName, GivesNameBefore, AreFreeNames, IsTakenName}
use Rattle.session_laws.specs.CountedFaults.{LoggerNames}
use Rattle.session_laws.proofs.KeptTogether.{names_own}
use Rattle.session_laws.proofs.LoggerEnd.{given_once}
use Rattle.session_laws.proofs.LoggerRefusals.{always_called}
use Rattle.session_laws.proofs.NamesStay.{StartBegun, start_begun, HasSpec, has_spec}
use Rattle.session_laws.proofs.RunsMade.{made_are_stopped}
use Rattle.session_laws.proofs.RunTurns.{TurnLaws, Turned, TurnsOf, one_end, are_turns, turns_of_run, told_is, told_there}
use Rattle.session_laws.proofs.UndoneNames.{started_in, called_off, undone_before, undone_name}

-- The turns before one of them.

-- what is told at a turn, by the turns before it
record Before (Is : List MemberTurn → MemberTurn → Type 0) (ts : List MemberTurn) (t : MemberTurn) : Type 0 where
  older : List MemberTurn
  are : AreEngineTurns older
  among : (u : MemberTurn) → HasTurn older u → HasTurn ts u
  above : (u : MemberTurn) → HasTurn older u → u.order.start < t.order.start
  starts : (u : MemberTurn) → HasTurn ts u → u.transition ≡ Start → u.order.start < t.order.start → HasTurn older u
  stops : (begin u : MemberTurn) → HasTurn ts u → u.transition ≡ Stop → u.order.start < t.order.start → HasTurnOf older Start u.order.start begin → HasTurn older u
  found : Is older t

-- what is told of names there
abbrev Found : (Untold : Type 0) → List (Option ChannelSpec) → (first : Seen) → List MemberTurn → MemberTurn → Type 0
Found Untold specs first ts t = FindsNames Untold specs ts first t

-- the run that is on behind turns is that of the last start
last_is : (ts : List MemberTurn) (t : MemberTurn) (start : ℕ) → StartsComeLast ts → HasTurn ts t → t.transition ≡ Start → current_run ts ≡ Some start → t.order.start ≤ start
last_is [] t start last has starts on = absurd has
last_is (u ∷ us) t start last has starts on = by_kind u.transition refl on (λ old still. last_is us t start last.1 old starts still)
  where
    by_kind : (kind : Transition) → u.transition ≡ kind → current_run (record u { transition = kind } ∷ us) ≡ Some start → (HasTurn us t → current_run us ≡ Some start → t.order.start ≤ start) → t.order.start ≤ start
    by_kind Start kind on earlier =
        let number : u.order.start ≡ start = cc (on) in
        elim has as (λ w. t.order.start ≤ start) [
          | inl same ↦ (let is : u.order.start ≡ t.order.start = ap (λ (x : MemberTurn). x.order.start) same in omega (arith, is, number))
          | inr old ↦ (let low = (last.0 kind).above t old in omega (arith, low, number))
        ]
    by_kind Stop kind on earlier = absurd (cc (on))
    by_kind StartAbort kind on earlier = absurd (cc (on))
    by_kind Pause kind on earlier = elim has as (λ w. t.order.start ≤ start) [
      | inl same ↦ absurd (let both : Pause ≡ Start = sym kind ∙ (ap (λ (x : MemberTurn). x.transition) same ∙ starts) in cc (both))
      | inr old ↦ earlier old on
    ]
    by_kind Resume kind on earlier = elim has as (λ w. t.order.start ≤ start) [
      | inl same ↦ absurd (let both : Resume ≡ Start = sym kind ∙ (ap (λ (x : MemberTurn). x.transition) same ∙ starts) in cc (both))
      | inr old ↦ earlier old on
    ]

before : (Is : List MemberTurn → MemberTurn → Type 0) (ts : List MemberTurn) (t : MemberTurn) → EachBehind Is ts → AreEngineTurns ts → StartsComeLast ts → HasTurn ts t → t.transition ≡ Start → Before Is ts t
before Is [] t found are last has starts = absurd has
before Is (u ∷ us) t found are last has starts = elim has as (λ w. Before Is (u ∷ us) t) [
  | inl same ↦
      let number : u.order.start ≡ t.order.start = ap (λ (x : MemberTurn). x.order.start) same in
      let lower : (v : MemberTurn) → HasTurn (u ∷ us) v → v.order.start < t.order.start → HasTurn us v = λ v is less. elim is as (λ w. HasTurn us v) [
        | inl here ↦ absurd (let its : u.order.start ≡ v.order.start = ap (λ (x : MemberTurn). x.order.start) here in omega (arith, its, number, less))
        | inr old ↦ old
      ] in
      record {
        older = us;
        are = are.1;
        among = λ v is. inr is;
        above = λ v is. subst (λ (n : ℕ). v.order.start < n) number ((last.0 (ap (λ (x : MemberTurn). x.transition) same ∙ starts)).above v is);
        starts = λ v is kind less. lower v is less;
        stops = λ begin v is kind less of. lower v is less;
        found = subst (λ (x : MemberTurn). Is us x) same found.0;
      }
  | inr old ↦
      let b : Before Is us t = before Is us t found.1 are.1 last.1 old starts in
      record {
        older = b.older;
        are = b.are;
        among = λ v is. inr (b.among v is);
        above = b.above;
        starts = λ v is kind less. elim is as (λ w. HasTurn b.older v) [
          | inl here ↦ absurd (
              let low : t.order.start < u.order.start = (last.0 (ap (λ (x : MemberTurn). x.transition) here ∙ kind)).above t old in
              let its : u.order.start ≡ v.order.start = ap (λ (x : MemberTurn). x.order.start) here in
              omega (arith, low, its, less))
          | inr earlier ↦ b.starts v earlier kind less
        ];
        stops = λ begin v is kind less of. elim is as (λ w. HasTurn b.older v) [
          | inl here ↦ absurd (
              let its : u.order.start ≡ v.order.start = ap (λ (x : MemberTurn). x.order.start) here in
              let next : IsOfRun u.order.start us = subst (λ (k : Transition). IsNextTurn k u.order.start us) (ap (λ (x : MemberTurn). x.transition) here ∙ kind) are.0 in
              elim next as (λ w. ⊥) [
                | inl on ↦ (let low = last_is us t u.order.start last.1 old starts on in omega (arith, low, its, less))
                | inr none ↦ none begin (b.among begin of.stands) of.is (of.of ∙ sym its)
              ])
          | inr earlier ↦ b.stops begin v earlier kind less of
        ];
        found = b.found;
      }
]

module _ (laws : TurnLaws) (over_law : RunsAreOver) (c : ClosedSession) (ends : MembersAtEnd c) where
  abbrev turns : List MemberTurn
  turns = member_turns (logger_client c) (engine_calls c (logger_caller c))

  last : StartsComeLast turns
  last = over_law (logger_caller c) (logger_client c) c.engine ends.engine (speaks (logger_client c) c.engine (names_own c ends)) (always_called c ends)

  -- A run that was stopped came about, before the start with this number; and this was told of a channel.
  record CameBefore (start run number : ℕ) (spec : ChannelSpec) (told : ChannelEnd) : Type 0 where
    its : SessionRun
    made : RunIn (engine_calls c main_caller) its
    before : its.start < start
    channel : Channel
    there : slot_at c.slots number ≡ Some channel
    tells : ToldOf c its channel told
    name : (sub : ℕ) → piece_name_by channel.spec.pattern its.first.run sub ≡ piece_name_by spec.pattern run sub

  came_before : AreStartsOver (engine_calls c main_caller) → (older : List MemberTurn) (start : ℕ) → ((u : MemberTurn) → HasTurn older u → HasTurn turns u) → ((u : MemberTurn) → HasTurn older u → u.order.start < start) → (run number : ℕ) (spec : ChannelSpec) (ends : List ChannelEnd) (told : ChannelEnd)
      → IsStoppedRunOf older run ends → slot_at (specs_in c.slots) number ≡ Some spec → slice_get ends number ≡ Some told → CameBefore start run number spec told
  came_before over older start among above run number spec ends_told told stopped there at =
      let own : List EngineEntry = engine_calls c main_caller in
      let begin : MemberTurn = stopped.begin in
      let first = stopped.is_start.is_start in
      let has : HasTurn turns begin = among begin first.stands in
      let b : StartBegun c begin = start_begun laws.facts.begun c ends begin has first.is in
      let begun : Contains (starts_begun own) begin.order.start = subst (λ (l : List EngineEntry). Contains (starts_begun l) begin.order.start) (sym b.whole) (started_in b.before b.after b.sheet begin.order.start) in
      let channel : HasSpec c.slots number spec = has_spec c.slots number spec there in
      elim (over begin.order.start begun) as (λ w. CameBefore start run number spec told) [
        | inl refused ↦
            let off = called_off laws c ends begin.order.start refused in
            absurd (one_end turns begin.order.start begin stopped.stop off.turn (are_turns laws c ends) (record { stands = has; is = first.is; of = refl })
            (record { stands = among stopped.stop stopped.stands; is = stopped.is; of = sym first.of }) (record { stands = off.stands; is = off.is; of = off.of }))
        | inr came ↦
            let keep = laws.keep c ends in
            let ch : Channel = channel.channel in
            let r : SessionRun = came.0 in
            let its_run : IsStoppedRun (session_of c ends.moments) r = made_are_stopped laws.main (session_of c ends.moments) ends.engine r came.1 in
            let turn : IsStartTurn r begin = start_turn laws.facts (session_of c ends.moments) keep r its_run (logger_client c) begin (record { stands = has; is = first.is; of = sym came.2 }) in
            let stops : Turned turns Stop r.start stopped.stop = record { stands = among stopped.stop stopped.stands; is = stopped.is; of = sym first.of ∙ sym came.2 } in
            let told_at = told_there laws c ends r its_run stopped.stop stops ends_told stopped.answered in
            let number_is : number ≡ ch.spec.number = sym ((ends.logger.stands (given_once laws.once c ends)).holds.standing.numbered number ch channel.at) in
            record {
              its = r;
              made = came.1;
              before = subst (λ (n : ℕ). n < start) (sym came.2) (above begin first.stands);
              channel = ch;
              there = channel.at;
              tells = record { index = told_at.0; ends = ends_told; tells = told_at.1; at = subst (λ (n : ℕ). slice_get ends_told n ≡ Some told) number_is at };
              name = λ sub. ap (λ (s : ChannelSpec). piece_name_by s.pattern r.first.run sub) channel.is
                  ∙ ap (λ (n : ℕ). piece_name_by spec.pattern n sub) (sym (ap (λ (x : Order). x.run) turn.order) ∙ stopped.number);
            }
      ]

  -- the name of a run that was stopped is that of a run that came about
  made_before : AreStartsOver (engine_calls c main_caller) → (older : List MemberTurn) (start : ℕ) (name : List ℕ) → ((u : MemberTurn) → HasTurn older u → HasTurn turns u) → ((u : MemberTurn) → HasTurn older u → u.order.start < start) → IsStoppedName (specs_in c.slots) older name → HasMadeBefore c start name
  made_before over older start name among above o =
      let came : CameBefore start o.run o.number o.spec o.told = came_before over older start among above o.run o.number o.spec o.ends o.told o.stopped o.there o.at in
      record { run = came.its; made = came.made; before = came.before; place = o.number; channel = came.channel; there = came.there; told = o.told; tells = came.tells; sub = o.sub; has = o.made; is = came.name o.sub ∙ o.is }

  -- and so is that of one of which a channel is told to be broken
  broken_before : AreStartsOver (engine_calls c main_caller) → (older : List MemberTurn) (start : ℕ) (name : List ℕ) → ((u : MemberTurn) → HasTurn older u → HasTurn turns u) → ((u : MemberTurn) → HasTurn older u → u.order.start < start) → IsBrokenName (specs_in c.slots) older name → HasBrokenBefore c start name
  broken_before over older start name among above o =
      let came : CameBefore start o.run o.number o.spec o.told = came_before over older start among above o.run o.number o.spec o.ends o.told o.stopped o.there o.at in
      record { run = came.its; made = came.made; before = came.before; place = o.number; channel = came.channel; there = came.there; told = o.told; tells = came.tells; broken = o.broken; sub = o.sub; few = o.few; is = came.name o.sub ∙ o.is }

  given_before : (place run : ℕ) (name : List ℕ) → IsGivenBefore (specs_in c.slots) place run name → GivesNameBefore c place run name
  given_before place run name g =
      let channel : HasSpec c.slots g.lower g.spec = has_spec c.slots g.lower g.spec g.there in
      record { lower = g.lower; channel = channel.channel; below = g.below; there = channel.at; is = ap (λ (s : ChannelSpec). file_name_by s.pattern run) channel.is ∙ g.is }

  -- a name that channels of runs that were stopped before gave not, no run that came about before has
  none_made : (older : List MemberTurn) (start : ℕ) (name : List ℕ) → AreEngineTurns older
      → ((u : MemberTurn) → HasTurn turns u → u.transition ≡ Start → u.order.start < start → HasTurn older u)
      → ((begin u : MemberTurn) → HasTurn turns u → u.transition ≡ Stop → u.order.start < start → HasTurnOf older Start u.order.start begin → HasTurn older u)
      → (AreEngineTurns older → IsStoppedName (specs_in c.slots) older name → ⊥) → HasMadeBefore c start name → ⊥
  none_made older start name are starts stops none made =
      let r : SessionRun = made.run in
      let run : IsStoppedRun (session_of c ends.moments) r = made_are_stopped laws.main (session_of c ends.moments) ends.engine r made.made in
      let t : TurnsOf turns r.start = turns_of_run laws c ends r run in
      let stands = (ends.logger.stands (given_once laws.once c ends)).holds in
      let began : HasTurn older t.begin = starts t.begin t.starts.stands t.starts.is (subst (λ (n : ℕ). n < start) (sym t.starts.of) made.before) in
      let stop_of : t.stop.order.start ≡ r.start = t.stops.of in
      let ended : HasTurn older t.stop = stops t.begin t.stop t.stops.stands t.stops.is (subst (λ (n : ℕ). n < start) (sym stop_of) made.before) (record { stands = began; is = t.starts.is; of = t.starts.of ∙ sym stop_of }) in
      let tally : t.tally ≡ Plain = stands.starts t.begin (Yes t.tally) t.starts.stands t.starts.is t.accepted in
      let turn : IsStartTurn r t.begin = start_turn laws.facts (session_of c ends.moments) (laws.keep c ends) r run (logger_client c) t.begin (record { stands = t.starts.stands; is = t.starts.is; of = t.starts.of }) in
      let number : made.channel.spec.number ≡ made.place = stands.standing.numbered made.place made.channel made.there in
      none are (record {
        number = made.place;
        spec = made.channel.spec;
        there = spec_at c.slots made.place made.channel made.there;
        run = r.first.run;
        ends = made.tells.ends;
        stopped = record {
          begin = t.begin;
          stop = t.stop;
          is_start = record { is_start = record { stands = began; is = t.starts.is; of = t.starts.of ∙ sym stop_of }; accepted = t.accepted ∙ ap (λ (x : Tally). Some (Yes x)) tally };
          number = ap (λ (o : Order). o.run) turn.order;
          stands = ended;
          is = t.stops.is;
          answered = told_is laws c ends r run made.tells.index made.tells.ends made.tells.tells t.stop t.stops;
        };
        told = made.told;
        at = subst (λ (n : ℕ). slice_get made.tells.ends n ≡ Some made.told) number made.tells.at;
        sub = made.sub;
        made = made.has;
        is = made.is;
      })

  given_told : (place run : ℕ) (name : List ℕ) → GivesNameBefore c place run name → IsGivenBefore (specs_in c.slots) place run name
  given_told place run name g = record { lower = g.lower; spec = g.channel.spec; below = g.below; there = spec_at c.slots g.lower g.channel g.there; is = g.is }

  free_so : (Untold : Type 0) (first : Seen) (t : MemberTurn) (b : Before (Found Untold (specs_in c.slots) first) turns t) (run place : ℕ) → AreNamesFree (specs_in c.slots) b.older first run place → AreFreeNames c first run t.order.start place
  free_so Untold first t b run place free lower channel below there =
      let one = free lower channel.spec below (spec_at c.slots lower channel there) in
      record {
        first_none = one.first_none;
        none_made = none_made b.older t.order.start (file_name_by channel.spec.pattern run) b.are b.starts b.stops one.none_made;
        none_gives = λ given. one.none_gives (given_told lower run (file_name_by channel.spec.pattern run) given);
      }

  abbrev TakenBy : (first now : FilesTold) → (run start place : ℕ) → (name : List ℕ) → Type 0
  TakenBy first now run start place name = IsSome (first.seen.at name) ⊎ (IsMadeName c first now start name ⊎ GivesNameBefore c place run name)

  made_so : AreStartsOver (engine_calls c main_caller) → (first now : FilesTold) (older : List MemberTurn) (start : ℕ) (name : List ℕ) → ((u : MemberTurn) → HasTurn older u → HasTurn turns u) → ((u : MemberTurn) → HasTurn older u → u.order.start < start)
      → IsNameMade (HasUntoldFault c.slots turns first now) (specs_in c.slots) older name → IsMadeName c first now start name
  made_so over first now older start name among above (inl stopped) = inl (made_before over older start name among above stopped)
  made_so over first now older start name among above (inr undone) = inr (undone.0, undone_name laws c ends older name among start above over undone.1)

  taken_so : AreStartsOver (engine_calls c main_caller) → (first now : FilesTold) (t : MemberTurn) (b : Before (Found (HasUntoldFault c.slots turns first now) (specs_in c.slots) first.seen) turns t) (number : ℕ) → IsNameTaken (HasUntoldFault c.slots turns first now) (specs_in c.slots) b.older first.seen t.order.run number
      → IsTakenName c first now t.order.run t.order.start number
  taken_so over first now t b number taken =
      let run : ℕ = t.order.run in
      let start : ℕ = t.order.start in
      let channel : HasSpec c.slots taken.place taken.spec = has_spec c.slots taken.place taken.spec taken.there in
      let its : List ℕ = file_name_by taken.spec.pattern run in
      let name : its ≡ file_name_by channel.channel.spec.pattern run = ap (λ (s : ChannelSpec). file_name_by s.pattern run) (sym channel.is) in
      let by_its : TakenBy first now run start taken.place its = elim taken.by as (λ w. TakenBy first now run start taken.place its) [
        | inl there ↦ inl there
        | inr later ↦ elim later as (λ w. TakenBy first now run start taken.place its) [
          | inl made ↦ inr (inl (made_so over first now b.older start its b.among b.above made))
          | inr given ↦ inr (inr (given_before taken.place run its given))
        ]
      ] in
      record {
        place = taken.place;
        channel = channel.channel;
        there = channel.at;
        number_is = ap (λ (s : ChannelSpec). s.number) channel.is ∙ taken.number_is;
        by = subst (λ (l : List ℕ). TakenBy first now run start taken.place l) name by_its;
        least = free_so (HasUntoldFault c.slots turns first now) first.seen t b run taken.place taken.least;
      }

  -- what is told of names at a start turn
  before_turn : (first now : FilesTold) → LoggerNames c ends first now → IsTrue first.seen.names → (turn : MemberTurn) → HasTurn turns turn → turn.transition ≡ Start → Before (Found (HasUntoldFault c.slots turns first now) (specs_in c.slots) first.seen) turns turn
  before_turn first now names tells turn has starts =
      let kept : KeepsNames c.slots first now turns = names (given_once laws.once c ends) in
      before (Found (HasUntoldFault c.slots turns first now) (specs_in c.slots) first.seen) turns turn (kept.found tells) (are_turns laws c ends) last has starts

  pub taken_name : (first now : FilesTold) → LoggerNames c ends first now → IsTrue first.seen.names → AreStartsOver (engine_calls c main_caller) → (turn : MemberTurn) → HasTurn turns turn → turn.transition ≡ Start → (number : ℕ) → turn.answer ≡ Some (No (Exists number))
      → (run start : ℕ) → turn.order.run ≡ run → turn.order.start ≡ start → IsTakenName c first now run start number
  taken_name first now names tells over turn has starts number answered run start run_is start_is =
      let b : Before (Found (HasUntoldFault c.slots turns first now) (specs_in c.slots) first.seen) turns turn = before_turn first now names tells turn has starts in
      let so : IsTakenName c first now turn.order.run turn.order.start number = taken_so over first now turn b number (b.found.taken number answered) in
      subst (λ (n : ℕ). IsTakenName c first now n start number) run_is (subst (λ (n : ℕ). IsTakenName c first now turn.order.run n number) start_is so)

  -- the names of a run that came about were free
  pub free_names : (first now : FilesTold) → LoggerNames c ends first now → IsTrue first.seen.names → (r : SessionRun) → RunIn (engine_calls c main_caller) r → AreFreeNames c first.seen r.first.run r.start (length c.slots)
  free_names first now names tells r made =
      let run : IsStoppedRun (session_of c ends.moments) r = made_are_stopped laws.main (session_of c ends.moments) ends.engine r made in
      let t : TurnsOf turns r.start = turns_of_run laws c ends r run in
      let turn : IsStartTurn r t.begin = start_turn laws.facts (session_of c ends.moments) (laws.keep c ends) r run (logger_client c) t.begin (record { stands = t.starts.stands; is = t.starts.is; of = t.starts.of }) in
      let b : Before (Found (HasUntoldFault c.slots turns first now) (specs_in c.slots) first.seen) turns t.begin = before_turn first now names tells t.begin t.starts.stands t.starts.is in
      let free : AreNamesFree (specs_in c.slots) b.older first.seen t.begin.order.run (length c.slots) =
      subst (λ (n : ℕ). AreNamesFree (specs_in c.slots) b.older first.seen t.begin.order.run n) (length-map c.slots (option_map (λ (x : Channel). x.spec))) (b.found.free t.starts.is t.tally t.accepted) in
      subst (λ (n : ℕ). AreFreeNames c first.seen n r.start (length c.slots)) (ap (λ (o : Order). o.run) turn.order)
      (subst (λ (n : ℕ). AreFreeNames c first.seen t.begin.order.run n (length c.slots)) t.starts.of (free_so (HasUntoldFault c.slots turns first now) first.seen t.begin b t.begin.order.run (length c.slots) free))

  -- Faults.

  refused_before : AreStartsOver (engine_calls c main_caller) → (older : List MemberTurn) (start : ℕ) (name : List ℕ) → ((u : MemberTurn) → HasTurn older u → HasTurn turns u) → ((u : MemberTurn) → HasTurn older u → u.order.start < start) → IsUndoneFile (specs_in c.slots) older name → HasRefusedBefore c start name
  refused_before over older start name among above o =
      let was = undone_before laws c ends older among start above over o.run o.undone in
      let channel : HasSpec c.slots o.number o.spec = has_spec c.slots o.number o.spec o.there in
      record {
        run = o.run;
        begun = was.0;
        refused = was.1;
        before = was.2;
        place = o.number;
        channel = channel.channel;
        there = channel.at;
        sub = o.sub;
        is = ap (λ (s : ChannelSpec). piece_name_by s.pattern o.run o.sub) channel.is ∙ o.is;
      }

  fault_so : AreStartsOver (engine_calls c main_caller) → (now : FilesTold) (older : List MemberTurn) (run start number : ℕ) → ((u : MemberTurn) → HasTurn older u → HasTurn turns u) → ((u : MemberTurn) → HasTurn older u → u.order.start < start) → IsFaultOf (specs_in c.slots) older now run number → HasFirstFault c now run start number
  fault_so over now older run start number among above o = record {
    name = o.name;
    named = o.named;
    of = elim o.of as (λ w. IsFirstFile c number run o.name ⊎ (HasBrokenBefore c start o.name ⊎ HasRefusedBefore c start o.name)) [
      | inl given ↦
          let channel : HasSpec c.slots given.place given.spec = has_spec c.slots given.place given.spec given.there in
          inl (record {
            place = given.place;
            channel = channel.channel;
            there = channel.at;
            number_is = ap (λ (s : ChannelSpec). s.number) channel.is ∙ given.number_is;
            is = ap (λ (s : ChannelSpec). file_name_by s.pattern run) channel.is ∙ given.is;
          })
      | inr earlier ↦ elim earlier as (λ w. IsFirstFile c number run o.name ⊎ (HasBrokenBefore c start o.name ⊎ HasRefusedBefore c start o.name)) [
        | inl broken ↦ inr (inl (broken_before over older start o.name among above broken))
        | inr undone ↦ inr (inr (refused_before over older start o.name among above undone))
      ]
    ];
  }

  -- the file of the first fault, where a start was refused for one
  pub first_fault : (first now : FilesTold) → LoggerNames c ends first now → first.first ≡ None → AreStartsOver (engine_calls c main_caller) → (turn : MemberTurn) → HasTurn turns turn → turn.transition ≡ Start → (number : ℕ) → turn.answer ≡ Some (No (Fault number))
      → (run start : ℕ) → turn.order.run ≡ run → turn.order.start ≡ start → HasFirstFault c now run start number
  first_fault first now names none over turn has starts number answered run start run_is start_is =
      let kept : KeepsNames c.slots first now turns = names (given_once laws.once c ends) in
      let b : Before (NamesFaultOfStart (specs_in c.slots) first now) turns turn = before (NamesFaultOfStart (specs_in c.slots) first now) turns turn kept.faults_named (are_turns laws c ends) last has starts in
      let so : HasFirstFault c now turn.order.run turn.order.start number = fault_so over now b.older turn.order.run turn.order.start number b.among b.above (b.found none number answered) in
      subst (λ (n : ℕ). HasFirstFault c now n start number) run_is (subst (λ (n : ℕ). HasFirstFault c now turn.order.run n number) start_is so)
