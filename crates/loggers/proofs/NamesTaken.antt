-- A logger refuses a start for a name only where that is taken, and accepts one only where all are free.
use Rattle.std.specs.Prelude.{◌≡◌, ◌≢◌, ◌<◌, ℕ, Bool, true, false, IsTrue, IsSome, List, [], ◌∷◌, length, Option, Some, None, Result, Ok, Err, ⊤, ◌⊎◌, refl}
use Rattle.std.specs.Option.{option_map}
use Rattle.std.proofs.lemmas.List.{length-map}
use Rattle.std.proofs.Common.{ap, sym, subst, ◌∙◌, inl, inr}
use Rattle.daq_types.specs.declared.runs.Order.{Order}
use Rattle.daq_types.specs.declared.runs.Transition.{Transition}
use Rattle.daq_types.specs.declared.runs.Transition.TheVariants.{Start, Stop, Pause, Resume, StartAbort}
use Rattle.daq_types.specs.declared.runs.Why.{Why}
use Rattle.daq_types.specs.declared.runs.Why.TheVariants.{NotReady, Exists, Fault, BufferRefused}
use Rattle.daq_io.specs.Seen.{Seen, Stored}
use Rattle.buffer_core.specs.Slots.{slot_at}
use Rattle.member_model.specs.RunEngines.{Answer, Tally}
use Rattle.transitions.specs.declared.answers.Answer.TheVariants.{Yes, No}
use Rattle.transitions.specs.declared.answers.Tally.TheVariants.{Plain}
use Rattle.member_model.specs.Turns.{MemberTurn, AreEngineTurns}
use Rattle.mid_logger.specs.declared.channel.Channel.{Channel}
use Rattle.mid_logger.specs.declared.channel_spec.ChannelSpec.{ChannelSpec}
use Rattle.mid_logger.specs.ChannelTurns.{ChannelAt, RefusesRun}
use Rattle.mid_logger.specs.Patterns.{file_name_by}
use Rattle.loggers.specs.Moments.{LoggerMoment, AreIdleChannels}
use Rattle.loggers.specs.Turning.{LoggerTurn, OpensBelow, UndoesOpens, StartsSo, PausesBuffer, ResumesBuffer, TakesStart, TakesStop, TakesMark, TakesAbort, TakesTurnBy, TakesTurn, IsIdleOutside, is_run_on, is_started, is_of_start, start_answer}
use Rattle.loggers.specs.OtherFiles.{specs_in}
use Rattle.loggers.specs.LoggerStands.{logger_turn}
use Rattle.loggers.specs.LeftNames.{NamesLeft, IsNameLeft, IsNameMade, IsStoppedName, IsGivenBefore, AreNamesFree, IsNameTaken, FindsNames, EachFindsNames}
use Rattle.loggers.proofs.FilesLeft.{spec_at, no_run}
use Rattle.loggers.proofs.NamesOpened.{OpenFrom, Opening, Opens, WasFree, opening_all, opening_first, opens_all, opened_first}
use Rattle.loggers.proofs.SlotLists.{below_or_not}

-- Where a channel refuses.

exists_number : (why : Why) (number : ℕ) (spec : ChannelSpec) (name : List ℕ) (a b : ChannelAt) → why ≡ Exists number → RefusesRun why spec name a b → number ≡ spec.number
exists_number NotReady number spec name a b is refuses = absurd (cc (is))
exists_number (Exists channel) number spec name a b is refuses = (let same : channel ≡ number = cc (is) in sym same ∙ refuses.0)
exists_number (Fault channel) number spec name a b is refuses = absurd (cc (is))
exists_number BufferRefused number spec name a b is refuses = absurd (cc (is))

-- What was found of names, with more that is so where more faults were counted than are told.

pub made_more : {One Other : Type 0} (specs : List (Option ChannelSpec)) (turns : List MemberTurn) (name : List ℕ) → (One → Other) → IsNameMade One specs turns name → IsNameMade Other specs turns name
made_more specs turns name more (inl stopped) = inl stopped
made_more specs turns name more (inr undone) = inr (more undone.0, undone.1)

pub found_more : {One Other : Type 0} (specs : List (Option ChannelSpec)) (first : Seen) (turns : List MemberTurn) → (One → Other) → EachFindsNames One specs first turns → EachFindsNames Other specs first turns
found_more specs first [] more found = tt
found_more {One} {Other} specs first (t ∷ ts) more found = (
  record {
    taken = λ number answered.
        let n : IsNameTaken One specs ts first t.order.run number = found.0.taken number answered in
        record { place = n.place; spec = n.spec; there = n.there; number_is = n.number_is; by = by_more n.place (file_name_by n.spec.pattern t.order.run) n.by; least = n.least };
    free = found.0.free;
  },
  found_more specs first ts more found.1,
)
  where
    by_more : (place : ℕ) (name : List ℕ) → IsSome (first.at name) ⊎ (IsNameMade One specs ts name ⊎ IsGivenBefore specs place t.order.run name) → IsSome (first.at name) ⊎ (IsNameMade Other specs ts name ⊎ IsGivenBefore specs place t.order.run name)
    by_more place name (inl there) = inl there
    by_more place name (inr later) = inr (elim later as (λ w. IsNameMade Other specs ts name ⊎ IsGivenBefore specs place t.order.run name) [
      | inl made ↦ inl (made_more specs ts name more made)
      | inr given ↦ inr given
    ])

-- where it is good that there is no file, there was none at first
pub free_name : (Untold : Type 0) (specs : List (Option ChannelSpec)) (turns : List MemberTurn) (first : Seen) (name : List ℕ) → IsNameLeft Untold specs turns first name None → first.at name ≡ None
free_name Untold specs turns first name good = elim good as (λ w. first.at name ≡ None) [
  | inl same ↦ sym same
  | inr made ↦ made.0
]

-- While a run is opened, behind turns of which the files are there.

module _ (Untold : Type 0) (turns : List MemberTurn) (first : Seen) (a : LoggerMoment) (idle : AreIdleChannels a.slots) (tells : IsTrue a.files.seen.names) (left : NamesLeft (IsNameLeft Untold (specs_in a.slots) turns first) a.slots a.files.seen)
    (made : AreEngineTurns turns → (name : List ℕ) → IsStoppedName (specs_in a.slots) turns name → IsSome (a.files.seen.at name)) where
  abbrev specs : List (Option ChannelSpec)
  specs = specs_in a.slots

  abbrev Good : (name : List ℕ) → Option Stored → Type 0
  Good = IsNameLeft Untold specs turns first

  -- the channels that opened the run found their names free
  names_free : (run n : ℕ) (m : LoggerMoment) → Opens Good specs run n a.files.seen m → AreNamesFree specs turns first run n
  names_free run n m opens lower spec below there =
      let name : List ℕ = file_name_by spec.pattern run in
      let free : WasFree Good specs run a.files.seen lower name = opens.free lower spec below there in
      record {
        first_none = free_name Untold specs turns first name free.good;
        none_made = λ are stopped. free.none (made are name stopped);
        none_gives = free.none_gives;
      }

  -- all channels opened it
  pub started_free : (order : Order) (dump : List ℕ) (n : ℕ) (b : LoggerMoment) → OpensBelow order dump n a b → AreNamesFree specs turns first order.run n
  started_free order dump n b opens = names_free order.run n b (opens_all Good order dump n a b opens idle (opening_first Good a idle tells left))

  -- one refused it
  module _ (order : Order) (dump : List ℕ) (why : Why) (begun : ℕ) (b : LoggerMoment) (undoes : UndoesOpens order dump why begun a b) (number : ℕ) (is : why ≡ Exists number) where
    abbrev spec : ChannelSpec
    spec = undoes.opens.channel.spec

    abbrev name : List ℕ
    name = file_name_by spec.pattern order.run

    opening : Opening Good undoes.opens.number undoes.opens.opened
    opening = opening_all Good order dump undoes.opens.number a undoes.opens.opened undoes.opens.opens (opening_first Good a idle tells left)

    opens : Opens Good specs order.run undoes.opens.number a.files.seen undoes.opens.opened
    opens = opens_all Good order dump undoes.opens.number a undoes.opens.opened undoes.opens.opens idle (opening_first Good a idle tells left)

    its_spec : (n : ℕ) (c : Channel) → slot_at undoes.opens.opened.slots n ≡ Some c → slot_at specs n ≡ Some c.spec
    its_spec n c at = subst (λ (l : List (Option ChannelSpec)). slot_at l n ≡ Some c.spec) opens.specs_are (spec_at undoes.opens.opened.slots n c at)

    number_is : number ≡ spec.number
    number_is = exists_number why number spec _ _ _ is undoes.opens.refuses.step.opens.1

    was_there : IsSome (undoes.opens.opened.files.seen.at name)
    was_there = (undoes.opens.refuses.step.exists opening.names).0 (ap (λ (w : Why). Err w) (is ∙ ap (λ (n : ℕ). Exists n) number_is))

    -- another channel of the run has it
    given : OpenFrom 0 undoes.opens.opened.slots name → IsGivenBefore specs undoes.opens.number order.run name
    given o =
        let c : Channel = o.open_name.channel in
        let below : o.open_name.number < undoes.opens.number = elim (below_or_not o.open_name.number undoes.opens.number) as (λ w. o.open_name.number < undoes.opens.number) [
          | inl less ↦ less
          | inr more ↦ absurd (no_run c.stage o.open_name.opened (opening.idle o.open_name.number c more o.open_name.there) o.open_name.of)
        ] in
        record {
          lower = o.open_name.number;
          spec = c.spec;
          below = below;
          there = its_spec o.open_name.number c o.open_name.there;
          is = opened_first Good specs order.run undoes.opens.number a.files.seen undoes.opens.opened opens name o.open_name;
        }

    pub refused_taken : IsNameTaken Untold specs turns first order.run number
    refused_taken = record {
      place = undoes.opens.number;
      spec = spec;
      there = its_spec undoes.opens.number undoes.opens.channel undoes.opens.there;
      number_is = sym number_is;
      by = elim (opening.each name) as (λ w. IsSome (first.at name) ⊎ (IsNameMade Untold specs turns name ⊎ IsGivenBefore specs undoes.opens.number order.run name)) [
        | inl good ↦ elim good as (λ w. IsSome (first.at name) ⊎ (IsNameMade Untold specs turns name ⊎ IsGivenBefore specs undoes.opens.number order.run name)) [
          | inl same ↦ inl (subst (λ (x : Option Stored). IsSome x) same was_there)
          | inr left_made ↦ inr (inl left_made.1)
        ]
        | inr open_ ↦ inr (inr (given open_))
      ];
      least = names_free order.run undoes.opens.number undoes.opens.opened opens;
    }

-- A turn.

module _ (Untold : Type 0) (turns : List MemberTurn) (first : Seen) (t : LoggerTurn) (idle : IsIdleOutside t.run t.before.slots) (tells : IsTrue t.before.files.seen.names)
    (left : NamesLeft (IsNameLeft Untold (specs_in t.before.slots) turns first) t.before.slots t.before.files.seen) (made : AreEngineTurns turns → (name : List ℕ) → IsStoppedName (specs_in t.before.slots) turns name → IsSome (t.before.files.seen.at name)) where
  abbrev its : List (Option ChannelSpec)
  its = specs_in t.before.slots

  abbrev Finds : Type 0
  Finds = FindsNames Untold its turns first (logger_turn t.transition t.order t.dump t.answer)

  -- a turn that is answered otherwise
  otherwise : (known : Option Answer) → t.answer ≡ known → ((number : ℕ) → known ≡ Some (No (Exists number)) → ⊥) → (t.transition ≡ Start → (tally : Tally) → known ≡ Some (Yes tally) → ⊥) → Finds
  otherwise known is never none = record { taken = λ number answered. absurd (never number (sym is ∙ answered)); free = λ starts tally answered. absurd (none starts tally (sym is ∙ answered)) }

  -- a turn that is no start, and is done at once
  other_turn : (kind : Transition) → t.transition ≡ kind → kind ≢ Start → t.answer ≡ Some (Yes Plain) → Finds
  other_turn kind is other answered = otherwise (Some (Yes Plain)) answered (λ n e. cc (e)) (λ starts tally e. other (sym is ∙ starts))

  starts_found : (result : Result ⊤ Why) (dump : List ℕ) (begun : ℕ) → StartsSo result t.order dump begun t.before t.after → AreIdleChannels t.before.slots → t.answer ≡ Some (start_answer result) → Finds
  starts_found (Ok done) dump begun starts idle_now is = record {
    taken = λ number answered. absurd (let both : Some (Yes Plain) ≡ Some (No (Exists number)) = sym is ∙ answered in cc (both));
    free = λ kind tally answered. subst (λ (n : ℕ). AreNamesFree its turns first t.order.run n) (sym (length-map t.before.slots (option_map (λ (c : Channel). c.spec))))
        (started_free Untold turns first t.before idle_now tells left made t.order dump (length t.before.slots) starts.opened starts.opens);
  }
  starts_found (Err why) dump begun starts idle_now is = record {
    taken = λ number answered.
        let both : Some (No why) ≡ Some (No (Exists number)) = sym is ∙ answered in
        let same : why ≡ Exists number = cc (both) in
        elim starts as (λ w. IsNameTaken Untold its turns first t.order.run number) [
          | inl opens ↦ refused_taken Untold turns first t.before idle_now tells left made t.order dump why begun t.after opens number same
          | inr begins ↦ absurd (let never : BufferRefused ≡ Exists number = sym begins.why_is ∙ same in cc (never))
        ];
    free = λ kind tally answered. absurd (let both : Some (No why) ≡ Some (Yes tally) = sym is ∙ answered in cc (both));
  }

  start_found : (on : Bool) → is_run_on t.run ≡ on → TakesStart on t → Finds
  start_found true on takes = otherwise (Some (No NotReady)) takes.answer_is (λ n e. cc (e)) (λ starts tally e. cc (e))
  start_found false on takes = starts_found takes.result _ takes.begun takes.starts (idle on) takes.answer_is

  stop_found : (of : Bool) → t.transition ≡ Stop → TakesStop of t → Finds
  stop_found true kind takes = otherwise None takes.answer_is (λ n e. cc (e)) (λ starts tally e. cc (e))
  stop_found false kind takes = other_turn Stop kind (λ e. cc (e)) takes.answer_is

  pause_found : (of : Bool) → t.transition ≡ Pause → TakesMark PausesBuffer of t → Finds
  pause_found true kind takes = other_turn Pause kind (λ e. cc (e)) takes.answer_is
  pause_found false kind takes = other_turn Pause kind (λ e. cc (e)) takes.answer_is

  resume_found : (of : Bool) → t.transition ≡ Resume → TakesMark ResumesBuffer of t → Finds
  resume_found true kind takes = other_turn Resume kind (λ e. cc (e)) takes.answer_is
  resume_found false kind takes = other_turn Resume kind (λ e. cc (e)) takes.answer_is

  off_found : (of : Bool) → t.transition ≡ StartAbort → TakesAbort of t → Finds
  off_found true kind takes = other_turn StartAbort kind (λ e. cc (e)) takes.answer_is
  off_found false kind takes = other_turn StartAbort kind (λ e. cc (e)) takes.answer_is

  found_by : (transition : Transition) → t.transition ≡ transition → TakesTurnBy transition t → Finds
  found_by Start is takes = start_found (is_run_on t.run) refl takes
  found_by Stop is takes = stop_found (is_started t.run t.order.start) is takes
  found_by Pause is takes = pause_found (is_started t.run t.order.start) is takes
  found_by Resume is takes = resume_found (is_started t.run t.order.start) is takes
  found_by StartAbort is takes = off_found (is_of_start t.run t.order.start) is takes

  pub turn_found : TakesTurn t → Finds
  turn_found takes = found_by t.transition refl takes
