-- The file of the first fault is one of a channel that broke off, or of a run whose start was undone; and a start is refused for a fault
-- of the channel whose file it is, where no fault was there before.
use Rattle.std.specs.Prelude.{◌≡◌, ◌≤◌, ◌<◌, ◌+◌, ℕ, zero, suc, Bool, true, false, List, [], ◌∷◌, length, Option, Some, None, Result, Ok, Err, ⊤, ◌⊎◌, refl}
use Rattle.std.proofs.Common.{ap, sym, subst, ◌∙◌, arith, inl, inr}
use Rattle.daq_types.specs.declared.runs.ChannelEnd.{ChannelEnd}
use Rattle.daq_types.specs.declared.runs.Order.{Order}
use Rattle.daq_types.specs.declared.runs.Transition.{Transition}
use Rattle.daq_types.specs.declared.runs.Transition.TheVariants.{Start, Stop, Pause, Resume, StartAbort}
use Rattle.daq_types.specs.declared.runs.Why.{Why}
use Rattle.daq_types.specs.declared.runs.Why.TheVariants.{NotReady, Exists, Fault, BufferRefused}
use Rattle.daq_io.specs.Counts.{first_of}
use Rattle.daq_io.specs.Told.{FilesTold}
use Rattle.buffer_core.specs.Slots.{slot_at}
use Rattle.buffer_core.proofs.SlotLaws.{slot_set_other}
use Rattle.sub_files.specs.declared.open_file.OpenFile.{OpenFile}
use Rattle.sub_files.specs.Patterns.{piece_name_by}
use Rattle.transitions.specs.declared.answers.Answer.TheVariants.{Yes, No}
use Rattle.transitions.specs.declared.answers.Tally.TheVariants.{Plain}
use Rattle.member_model.specs.Turns.{MemberTurn}
use Rattle.mid_logger.specs.declared.channel.Channel.{Channel}
use Rattle.mid_logger.specs.declared.channel_spec.ChannelSpec.{ChannelSpec}
use Rattle.mid_logger.specs.declared.stage.ChannelRun.{ChannelRun}
use Rattle.mid_logger.specs.declared.stage.ChannelStage.{ChannelStage}
use Rattle.mid_logger.specs.declared.stage.ChannelStage.TheVariants.{Idle, Asking, Writing, Draining, Drained, Broken}
use Rattle.mid_logger.specs.Channels.{channel_run, written_run, stage_begun, stage_ended, place_marked, files_by as files_made}
use Rattle.mid_logger.specs.ChannelEnds.{NamesOpen, NamesRun}
use Rattle.mid_logger.specs.ChannelTurns.{OpenFirst}
use Rattle.mid_logger.specs.Patterns.{file_name_by}
use Rattle.loggers.specs.Moments.{LoggerMoment, StepsChannel, StepsSlot, StepsAt, CallsBuffer, MarksBuffer, InTurn, AreIdleChannels}
use Rattle.loggers.specs.ChannelSteps.{OpensChannel, AbortsChannel}
use Rattle.loggers.specs.Finishing.{LoggerFinish}
use Rattle.loggers.specs.Turning.{BeginsBuffer, EndsBuffer, PausesBuffer, ResumesBuffer, LoggerTurn, OpensBelow, BeginsBelow, AbortsAll, RefusesOpen, StartsSo, TakesStart, TakesStop, TakesMark, TakesAbort, TakesTurnBy, TakesTurn, IsIdleOutside, is_run_on, is_started, is_of_start, buffers_begun, start_answer}
use Rattle.loggers.specs.LoggerStands.{logger_turn}
use Rattle.loggers.specs.OtherFiles.{specs_in}
use Rattle.loggers.specs.LeftNames.{IsOpenName, IsStoppedRunOf, IsUndoneRun, IsUndoneFile, IsBrokenName, IsBrokenOffName, IsFaultName, IsFaultKnown, IsFaultOf, NamesFaultOfStart, EachBehind}
use Rattle.loggers.proofs.FilesLeft.{KeepsFiles, spec_at, begun_files, ended_files_kept}
use Rattle.loggers.proofs.InTurns.{turns_keep}
use Rattle.loggers.proofs.FirstNamed.{Quiet, OffNamed, none_off, opens_first, first_stays, broken_more, quiet_same, starts_quiet, stop_quiet, pause_quiet, resume_quiet}
use Rattle.loggers.proofs.NamesOpened.{HasOpen, has_open, open_at, set_open, idle_none}
use Rattle.loggers.proofs.NamesUndone.{AreIts, map_from, open_noted}

-- What is known of the first fault, where more turns and other files follow.

pub known_moved : (slots later_slots : List (Option Channel)) (turns later : List MemberTurn) (first old new : FilesTold) → ((name : List ℕ) → IsFaultName slots turns name → IsFaultName later_slots later name)
    → ((name : List ℕ) → new.first ≡ Some name → (old.first ≡ Some name) ⊎ IsFaultName later_slots later name) → IsFaultKnown slots turns first old → IsFaultKnown later_slots later first new
known_moved slots later_slots turns later first old new more named known none name is = elim (named name is) as (λ w. IsFaultName later_slots later name) [
  | inl was ↦ more name (known none name was)
  | inr now ↦ now
]

fault_of_stays : (specs : List (Option ChannelSpec)) (turns : List MemberTurn) (old new : FilesTold) (run number : ℕ) → ((name : List ℕ) → old.first ≡ Some name → new.first ≡ Some name) → IsFaultOf specs turns old run number → IsFaultOf specs turns new run number
fault_of_stays specs turns old new run number stays of = record { name = of.name; named = stays of.name of.named; of = of.of }

pub named_stays : (specs : List (Option ChannelSpec)) (first old new : FilesTold) (turns : List MemberTurn) → ((name : List ℕ) → old.first ≡ Some name → new.first ≡ Some name) → EachBehind (NamesFaultOfStart specs first old) turns → EachBehind (NamesFaultOfStart specs first new) turns
named_stays specs first old new [] stays each = tt
named_stays specs first old new (t ∷ ts) stays each = (λ none number answered. fault_of_stays specs ts old new t.order.run number stays (each.0 none number answered), named_stays specs first old new ts stays each.1)

-- Undoing.

first_named : (old : Option (List ℕ)) (name x : List ℕ) → first_of old name ≡ Some x → (old ≡ Some x) ⊎ (name ≡ x)
first_named None name x is = inr (cc (is))
first_named (Some before) name x is = inl is

-- a channel with this spec has the name open, in this stage
record OpenIn (spec : ChannelSpec) (stage : ChannelStage) (name : List ℕ) : Type 0 where
  opened : ChannelRun
  of : channel_run stage ≡ Some opened
  sub : ℕ
  made : sub < files_made stage
  is : piece_name_by spec.pattern opened.run sub ≡ name

-- the file that is written is the last one that was made
record Written (stage : ChannelStage) (opened : ChannelRun) : Type 0 where
  of : channel_run stage ≡ Some opened
  made : files_made stage ≡ opened.at.sub + 1

written_is : (stage : ChannelStage) (opened : ChannelRun) → written_run stage ≡ Some opened → Written stage opened
written_is Idle opened is = absurd (cc (is))
written_is (Asking o) opened is = record { of = is; made = (let same : o ≡ opened = cc (is) in ap (λ (r : ChannelRun). r.at.sub + 1) same) }
written_is (Writing o begun) opened is = record { of = is; made = (let same : o ≡ opened = cc (is) in ap (λ (r : ChannelRun). r.at.sub + 1) same) }
written_is (Draining run) opened is = record { of = is; made = (let same : run.opened ≡ opened = cc (is) in ap (λ (r : ChannelRun). r.at.sub + 1) same) }
written_is (Drained run) opened is = record { of = is; made = (let same : run.opened ≡ opened = cc (is) in ap (λ (r : ChannelRun). r.at.sub + 1) same) }
written_is (Broken run fallen) opened is = absurd (cc (is))

open_named : (spec : ChannelSpec) (stage : ChannelStage) (written : Option ChannelRun) (old new : Option (List ℕ)) (x : List ℕ) → written_run stage ≡ written → NamesOpen spec written old new → new ≡ Some x → (old ≡ Some x) ⊎ OpenIn spec stage x
open_named spec stage None old new x at names is = absurd names
open_named spec stage (Some opened) old new x at names is =
    let w : Written stage opened = written_is stage opened at in
    elim (first_named old (piece_name_by spec.pattern opened.run opened.at.sub) x (sym names ∙ is)) as (λ e. (old ≡ Some x) ⊎ OpenIn spec stage x) [
      | inl was ↦ inl was
      | inr now ↦ inr (record { opened = opened; of = w.of; sub = opened.at.sub; made = (let made = w.made in omega (arith, made)); is = now })
    ]

-- what is named as a run is called off
run_named : (spec : ChannelSpec) (stage : ChannelStage) (run : Option ChannelRun) (old new : Option (List ℕ)) (x : List ℕ) → channel_run stage ≡ run → NamesRun spec run (written_run stage) (files_made stage) old new → new ≡ Some x → (old ≡ Some x) ⊎ OpenIn spec stage x
run_named spec stage None old new x at same is = inl (sym same ∙ is)
run_named spec stage (Some opened) old new x at names is = elim names as (λ w. (old ≡ Some x) ⊎ OpenIn spec stage x) [
  | inl same ↦ inl (sym same ∙ is)
  | inr more ↦ elim more as (λ w. (old ≡ Some x) ⊎ OpenIn spec stage x) [
    | inl last ↦ open_named spec stage (written_run stage) old new x refl last is
    | inr one ↦ elim (first_named old (piece_name_by spec.pattern opened.run one.0) x (sym one.2 ∙ is)) as (λ w. (old ≡ Some x) ⊎ OpenIn spec stage x) [
      | inl was ↦ inl was
      | inr now ↦ inr (record { opened = opened; of = at; sub = one.0; made = one.1; is = now })
    ]
  ]
]

open_stays : (spec : ChannelSpec) (written : Option ChannelRun) (old new : Option (List ℕ)) (x : List ℕ) → NamesOpen spec written old new → old ≡ Some x → new ≡ Some x
open_stays spec None old new x names is = absurd names
open_stays spec (Some opened) old new x names is = names ∙ first_stays old (piece_name_by spec.pattern opened.run opened.at.sub) x is

run_stays : (spec : ChannelSpec) (run written : Option ChannelRun) (many : ℕ) (old new : Option (List ℕ)) (x : List ℕ) → NamesRun spec run written many old new → old ≡ Some x → new ≡ Some x
run_stays spec None written many old new x same is = same ∙ is
run_stays spec (Some opened) written many old new x names is = elim names as (λ w. new ≡ Some x) [
  | inl same ↦ same ∙ is
  | inr more ↦ elim more as (λ w. new ≡ Some x) [
    | inl last ↦ open_stays spec written old new x last is
    | inr one ↦ one.2 ∙ first_stays old (piece_name_by spec.pattern opened.run one.0) x is
  ]
]

refuse_named : (why : Why) (name x : List ℕ) (old new : Option (List ℕ)) → OpenFirst (Err why) name old new → new ≡ Some x → (old ≡ Some x) ⊎ (name ≡ x)
refuse_named NotReady name x old new same is = inl (sym same ∙ is)
refuse_named (Exists channel) name x old new same is = inl (sym same ∙ is)
refuse_named (Fault channel) name x old new of is = first_named old name x (sym of ∙ is)
refuse_named BufferRefused name x old new of is = elim of as (λ w. (old ≡ Some x) ⊎ (name ≡ x)) [
  | inl same ↦ inl (sym same ∙ is)
  | inr now ↦ first_named old name x (sym now ∙ is)
]

refuse_stays : (why : Why) (name x : List ℕ) (old new : Option (List ℕ)) → OpenFirst (Err why) name old new → old ≡ Some x → new ≡ Some x
refuse_stays NotReady name x old new same is = same ∙ is
refuse_stays (Exists channel) name x old new same is = same ∙ is
refuse_stays (Fault channel) name x old new of is = of ∙ first_stays old name x is
refuse_stays BufferRefused name x old new of is = elim of as (λ w. new ≡ Some x) [
  | inl same ↦ same ∙ is
  | inr now ↦ now ∙ first_stays old name x is
]

module _ (Its : List ℕ → Type 0) (old : Option (List ℕ)) where
  -- The names that channels have open are such; the first fault stays, and one that is named since is such a name.
  record Undoing (m : LoggerMoment) : Type 0 where
    its : (name : List ℕ) → IsOpenName m.slots name → Its name
    stays : (name : List ℕ) → old ≡ Some name → m.files.first ≡ Some name
    named : (name : List ℕ) → m.files.first ≡ Some name → (old ≡ Some name) ⊎ Its name

  undoing_abort : (n : ℕ) (slot : Option Channel) (a b : LoggerMoment) → slot_at a.slots n ≡ slot → StepsSlot AbortsChannel n slot a b → Undoing a → Undoing b
  undoing_abort n None a b there same u = subst Undoing (sym same) u
  undoing_abort n (Some before) a b there s u = record {
    its = λ name o. elim (set_open a.slots n before s.after name there (subst (λ (l : List (Option Channel)). IsOpenName l name) s.slots o)) as (λ w. Its name) [
      | inl mine ↦ absurd (idle_none s.after name (ap (λ (c : Channel). c.stage) s.step.channel) mine)
      | inr was ↦ u.its name was
    ];
    stays = λ name is. run_stays before.spec (channel_run before.stage) (written_run before.stage) (files_made before.stage) a.files.first b.files.first name s.step.first (u.stays name is);
    named = λ name is. elim (run_named before.spec before.stage (channel_run before.stage) a.files.first b.files.first name refl s.step.first is) as (λ w. (old ≡ Some name) ⊎ Its name) [
      | inl was ↦ u.named name was
      | inr now ↦ inr (u.its name (open_at a.slots n before name there (record { opened = now.opened; of = now.of; sub = now.sub; made = now.made; is = now.is })))
    ];
  }

  undoing_aborts : (a b : LoggerMoment) → AbortsAll a b → Undoing a → Undoing b
  undoing_aborts a b aborts u = turns_keep (λ k. StepsAt AbortsChannel k) Undoing (length a.slots) a b (λ k x y step kept. undoing_abort k (slot_at x.slots k) x y refl step kept) aborts u

  undoing_call : (entry : _) (buffer : ℕ) (a b : LoggerMoment) → CallsBuffer entry buffer a b → Undoing a → Undoing b
  undoing_call entry buffer a b calls u = record {
    its = λ name o. u.its name (subst (λ (l : List (Option Channel)). IsOpenName l name) calls.slots o);
    stays = λ name is. ap (λ (f : FilesTold). f.first) calls.files ∙ u.stays name is;
    named = λ name is. u.named name (sym (ap (λ (f : FilesTold). f.first) calls.files) ∙ is);
  }

  undoing_mark : (entry : _) (note : ChannelStage → ChannelStage) (buffer : ℕ) (a b : LoggerMoment) → KeepsFiles note → MarksBuffer entry note buffer a b → Undoing a → Undoing b
  undoing_mark entry note buffer a b keeps marks u = record {
    its = λ name o.
        let slots = subst (λ (l : List (Option Channel)). IsOpenName l name) marks.noted o in
        let was = map_from note buffer a.slots slots.number slots.channel slots.there in
        u.its name (open_at a.slots slots.number was.0 name was.1 (open_noted note buffer was.0 name keeps (subst (λ (c : Channel). HasOpen c name) (sym was.2) (record { opened = slots.opened; of = slots.of; sub = slots.sub; made = slots.made; is = slots.is }))));
    stays = λ name is. ap (λ (f : FilesTold). f.first) marks.marks.files ∙ u.stays name is;
    named = λ name is. u.named name (sym (ap (λ (f : FilesTold). f.first) marks.marks.files) ∙ is);
  }

  undoing_begins : (start n : ℕ) (a b : LoggerMoment) → BeginsBelow start n a b → Undoing a → Undoing b
  undoing_begins start n a b begins u = turns_keep (λ k. BeginsBuffer start k) Undoing n a b (λ k x y step kept. undoing_mark _ (λ stage. stage_begun stage step.0) k x y (begun_files step.0) step.1 kept) begins u

  undoing_ends : (start n : ℕ) (a b : LoggerMoment) → InTurn (λ buffer. EndsBuffer start buffer) n a b → Undoing a → Undoing b
  undoing_ends start n a b ends u = turns_keep (λ k. EndsBuffer start k) Undoing n a b (λ k x y step kept. undoing_mark _ (λ stage. stage_ended stage (place_marked step.0)) k x y (ended_files_kept (place_marked step.0)) step.1 kept) ends u

  -- A start, from idle channels on: the names of the channels' first files in the run are such.
  module _ (order : Order) (dump : List ℕ) (slots : List (Option Channel)) (idle : AreIdleChannels slots) (are : AreIts Its (specs_in slots) order.run) where
    -- the channels with lower numbers opened the run
    record Opened (n : ℕ) (m : LoggerMoment) : Type 0 where
      still : (i : ℕ) → n ≤ i → slot_at m.slots i ≡ slot_at slots i
      its : (name : List ℕ) → IsOpenName m.slots name → Its name
      first : m.files.first ≡ old

    opened_one : (n : ℕ) (slot : Option Channel) (a b : LoggerMoment) → slot_at a.slots n ≡ slot → StepsSlot (OpensChannel order dump (Ok tt)) n slot a b → Opened n a → Opened (suc n) b
    opened_one n None a b there same g = subst (λ (m : LoggerMoment). Opened (suc n) m) (sym same) (record { still = λ i from. g.still i (omega (arith, from)); its = g.its; first = g.first })
    opened_one n (Some before) a b there s g =
        let o = s.step.opens in
        let opened : ChannelRun = record { run = order.run; start = order.start; time = order.time; at = o.at; client = o.asks.client; request = o.asks.request } in
        let of : channel_run s.after.stage ≡ Some opened = ap channel_run o.asks.stage in
        let sub : o.at.sub ≡ 0 = ap (λ (f : OpenFile). f.sub) o.first in
        let made : files_made s.after.stage ≡ o.at.sub + 1 = ap files_made o.asks.stage in
        let at_first : slot_at slots n ≡ Some before = sym (g.still n (omega arith)) ∙ there in
        record {
          still = λ i from. ap (λ (l : List (Option Channel)). slot_at l i) s.slots ∙ (slot_set_other a.slots n i (Some s.after) (λ same. omega (arith, from, same)) ∙ g.still i (omega (arith, from)));
          its = λ name o_. elim (set_open a.slots n before s.after name there (subst (λ (l : List (Option Channel)). IsOpenName l name) s.slots o_)) as (λ w. Its name) [
            | inl mine ↦
                let same_run : opened.run ≡ mine.opened.run = (let is = mine.of in cc (of, is)) in
                let first : 0 ≡ mine.sub = (let below = mine.made in omega (arith, below, made, sub)) in
                let is : file_name_by before.spec.pattern order.run ≡ name = ap (λ (x : ChannelSpec). file_name_by x.pattern order.run) (sym s.step.spec)
                ∙ (ap (λ (r : ℕ). file_name_by s.after.spec.pattern r) same_run ∙ (ap (λ (k : ℕ). piece_name_by s.after.spec.pattern mine.opened.run k) first ∙ mine.is)) in
                subst Its is (are n before.spec (spec_at slots n before at_first))
            | inr was ↦ g.its name was
          ];
          first = s.step.first ∙ g.first;
        }

    opened_all : (n : ℕ) (a b : LoggerMoment) → a.slots ≡ slots → a.files.first ≡ old → OpensBelow order dump n a b → Opened n b
    opened_all zero a b same first opens = subst (λ (m : LoggerMoment). Opened 0 m) (sym opens) (record {
      still = λ i from. ap (λ (l : List (Option Channel)). slot_at l i) same;
      its = λ name o.
          let at = subst (λ (l : List (Option Channel)). IsOpenName l name) same o in
          absurd (idle_none at.channel name (idle at.number at.channel at.there) (has_open slots name at));
      first = first;
    })
    opened_all (suc n) a b same first opens = opened_one n (slot_at opens.0.slots n) opens.0 b refl opens.2 (opened_all n a opens.0 same first opens.1)

    undoing_opened : (n : ℕ) (m : LoggerMoment) → Opened n m → Undoing m
    undoing_opened n m g = record { its = g.its; stays = λ name is. g.first ∙ is; named = λ name is. inl (sym g.first ∙ is) }

    refused_one : (why : Why) (n : ℕ) (channel : Channel) (a b : LoggerMoment) → slot_at a.slots n ≡ Some channel → StepsChannel (OpensChannel order dump (Err why)) n channel a b → Opened n a → Undoing b
    refused_one why n channel a b there s g =
        let at_first : slot_at slots n ≡ Some channel = sym (g.still n (omega arith)) ∙ there in
        let stage : s.after.stage ≡ Idle = s.step.opens.0 ∙ idle n channel at_first in
        record {
          its = λ name o. elim (set_open a.slots n channel s.after name there (subst (λ (l : List (Option Channel)). IsOpenName l name) s.slots o)) as (λ w. Its name) [
            | inl mine ↦ absurd (idle_none s.after name stage mine)
            | inr was ↦ g.its name was
          ];
          stays = λ name is. refuse_stays why (file_name_by channel.spec.pattern order.run) name a.files.first b.files.first s.step.first (g.first ∙ is);
          named = λ name is. elim (refuse_named why (file_name_by channel.spec.pattern order.run) name a.files.first b.files.first s.step.first is) as (λ w. (old ≡ Some name) ⊎ Its name) [
            | inl was ↦ inl (sym g.first ∙ was)
            | inr now ↦ inr (subst Its now (are n channel.spec (spec_at slots n channel at_first)))
          ];
        }

    undone_start : (why : Why) (begun : ℕ) (a b : LoggerMoment) → a.slots ≡ slots → a.files.first ≡ old → StartsSo (Err why) order dump begun a b → Undoing b
    undone_start why begun a b same first starts = elim starts as (λ w. Undoing b) [
      | inl undoes ↦
          let r : RefusesOpen order dump why a undoes.refused = undoes.opens in
          undoing_aborts undoes.refused b undoes.aborts (refused_one why r.number r.channel r.opened undoes.refused r.there r.refuses (opened_all r.number a r.opened same first r.opens))
      | inr undoes ↦
          let m = undoes.begins in
          let opened : Undoing undoes.opened = undoing_opened (length a.slots) undoes.opened (opened_all (length a.slots) a undoes.opened same first undoes.opens) in
          undoing_aborts undoes.refused b undoes.aborts (undoing_call _ begun m.begun undoes.refused m.refuses.1 (undoing_begins order.start begun undoes.opened m.begun m.begins opened))
    ]

-- A start that is refused for a fault.

abort_stays : (n : ℕ) (slot : Option Channel) (a b : LoggerMoment) (name : List ℕ) → StepsSlot AbortsChannel n slot a b → a.files.first ≡ Some name → b.files.first ≡ Some name
abort_stays n None a b name same is = ap (λ (m : LoggerMoment). m.files.first) same ∙ is
abort_stays n (Some before) a b name s is = run_stays before.spec (channel_run before.stage) (written_run before.stage) (files_made before.stage) a.files.first b.files.first name s.step.first is

aborts_stay : (a b : LoggerMoment) (name : List ℕ) → AbortsAll a b → a.files.first ≡ Some name → b.files.first ≡ Some name
aborts_stay a b name aborts is = turns_keep (λ k. StepsAt AbortsChannel k) (λ (m : LoggerMoment). m.files.first ≡ Some name) (length a.slots) a b (λ k x y step kept. abort_stays k (slot_at x.slots k) x y name step kept) aborts is

-- the channels with lower numbers left this one as it was
left_above : (order : Order) (dump : List ℕ) (n : ℕ) (a b : LoggerMoment) (i : ℕ) → n ≤ i → OpensBelow order dump n a b → slot_at b.slots i ≡ slot_at a.slots i
left_above order dump zero a b i above opens = ap (λ (m : LoggerMoment). slot_at m.slots i) opens
left_above order dump (suc n) a b i above opens = one_left (slot_at opens.0.slots n) opens.2 ∙ left_above order dump n a opens.0 i (omega (arith, above)) opens.1
  where
    one_left : (slot : Option Channel) → StepsSlot (OpensChannel order dump (Ok tt)) n slot opens.0 b → slot_at b.slots i ≡ slot_at opens.0.slots i
    one_left None same = ap (λ (m : LoggerMoment). slot_at m.slots i) same
    one_left (Some before) s = ap (λ (l : List (Option Channel)). slot_at l i) s.slots ∙ slot_set_other opens.0.slots n i (Some s.after) (λ same. omega (arith, above, same))

-- where no fault was there before, it is that of the channel
fault_given : (order : Order) (dump : List ℕ) (number : ℕ) (a b : LoggerMoment) (turns : List MemberTurn) → (old : Option (List ℕ)) → a.files.first ≡ old → (r : RefusesOpen order dump (Fault number) a b)
    → ((name : List ℕ) → a.files.first ≡ Some name → IsBrokenName (specs_in a.slots) turns name ⊎ IsUndoneFile (specs_in a.slots) turns name) → IsFaultOf (specs_in a.slots) turns b.files order.run number
fault_given order dump number a b turns old is r known =
    let opened : r.opened.files.first ≡ a.files.first = opens_first order dump r.number a r.opened r.opens in
    let name : List ℕ = file_name_by r.channel.spec.pattern order.run in
    let first : b.files.first ≡ first_of a.files.first name = r.refuses.step.first ∙ ap (λ (o : Option (List ℕ)). first_of o name) opened in
    by_old old is (first ∙ ap (λ (o : Option (List ℕ)). first_of o name) is)
  where
    by_old : (o : Option (List ℕ)) → a.files.first ≡ o → b.files.first ≡ first_of o (file_name_by r.channel.spec.pattern order.run) → IsFaultOf (specs_in a.slots) turns b.files order.run number
    by_old None was named = record {
      name = file_name_by r.channel.spec.pattern order.run;
      named = named;
      of = inl (record {
        place = r.number;
        spec = r.channel.spec;
        there = spec_at a.slots r.number r.channel (sym (left_above order dump r.number a r.opened r.number (omega arith) r.opens) ∙ r.there);
        number_is = sym r.refuses.step.opens.1.0;
        is = refl;
      });
    }
    by_old (Some x) was named = record { name = x; named = named; of = inr (known x was) }

start_fault : (order : Order) (dump : List ℕ) (number begun : ℕ) (a b : LoggerMoment) (turns : List MemberTurn) → ((name : List ℕ) → a.files.first ≡ Some name → IsBrokenName (specs_in a.slots) turns name ⊎ IsUndoneFile (specs_in a.slots) turns name) → StartsSo (Err (Fault number)) order dump begun a b
    → IsFaultOf (specs_in a.slots) turns b.files order.run number
start_fault order dump number begun a b turns known starts = elim starts as (λ w. IsFaultOf (specs_in a.slots) turns b.files order.run number) [
  | inl undoes ↦
      fault_of_stays (specs_in a.slots) turns undoes.refused.files b.files order.run number (λ name is. aborts_stay undoes.refused b name undoes.aborts is)
      (fault_given order dump number a undoes.refused turns a.files.first refl undoes.opens known)
  | inr undoes ↦ absurd (let is = undoes.why_is in cc (is))
]

-- A turn.

-- What is known at a turn of what it undoes: where a start was called off, the runs that its channels have.
abbrev pub OffRuns : LoggerTurn → List MemberTurn → Type 0
OffRuns t turns = t.transition ≡ StartAbort → is_of_start t.run t.order.start ≡ true → (n : ℕ) → (c : Channel) → (opened : ChannelRun) → slot_at t.before.slots n ≡ Some c → channel_run c.stage ≡ Some opened → IsUndoneRun (logger_turn t.transition t.order t.dump t.answer ∷ turns) opened.run

module _ (t : LoggerTurn) (turns : List MemberTurn) where
  abbrev now : MemberTurn
  now = logger_turn t.transition t.order t.dump t.answer

  abbrev Its : List ℕ → Type 0
  Its name = IsUndoneFile (specs_in t.before.slots) (now ∷ turns) name

  -- The first fault stays; one that is named now is in a run that is undone; and so is what a channel had broken off that has it no more.
  record Moves : Type 0 where
    stays : (name : List ℕ) → t.before.files.first ≡ Some name → t.after.files.first ≡ Some name
    named : (name : List ℕ) → t.after.files.first ≡ Some name → (t.before.files.first ≡ Some name) ⊎ Its name
    off : (name : List ℕ) → IsBrokenOffName t.before.slots name → IsBrokenOffName t.after.slots name ⊎ Its name

  quiet_moves : Quiet t.before t.after → Moves
  quiet_moves q = record { stays = λ name is. q.first ∙ is; named = λ name is. inl (sym q.first ∙ is); off = λ name o. inl (q.off name o) }

  refused_its : (why : Why) → t.transition ≡ Start → t.answer ≡ Some (No why) → AreIts Its (specs_in t.before.slots) t.order.run
  refused_its why starts answered i spec there = record {
    number = i;
    spec = spec;
    there = there;
    run = t.order.run;
    undone = record { begin = now; stands = inl refl; is = starts; number = refl; undone = inl (why, answered) };
    sub = 0;
    is = refl;
  }

  start_moves : (result : Result ⊤ Why) (dump : List ℕ) (begun : ℕ) → t.transition ≡ Start → t.answer ≡ Some (start_answer result) → AreIdleChannels t.before.slots → StartsSo result t.order dump begun t.before t.after → Moves
  start_moves (Ok done) dump begun starts answered idle so = quiet_moves (starts_quiet (Ok done) t.order dump begun t.before t.after so idle refl)
  start_moves (Err why) dump begun starts answered idle so =
      let u : Undoing Its t.before.files.first t.after = undone_start Its t.before.files.first t.order dump t.before.slots idle (refused_its why starts answered) why begun t.before t.after refl refl so in
      record { stays = u.stays; named = u.named; off = λ name o. absurd (none_off t.before.slots name idle o) }

  took_start : (on : Bool) → t.transition ≡ Start → (on ≡ false → AreIdleChannels t.before.slots) → TakesStart on t → Moves
  took_start true starts idle takes = quiet_moves (quiet_same t.before t.after takes.moment)
  took_start false starts idle takes = start_moves takes.result _ takes.begun starts takes.answer_is (idle refl) takes.starts

  took_abort : (of : Bool) → t.transition ≡ StartAbort → is_of_start t.run t.order.start ≡ of → OffRuns t turns → TakesAbort of t → Moves
  took_abort true aborts is runs takes =
      let file : (n : ℕ) (c : Channel) (opened : ChannelRun) (sub : ℕ) (name : List ℕ) → slot_at t.before.slots n ≡ Some c → channel_run c.stage ≡ Some opened → piece_name_by c.spec.pattern opened.run sub ≡ name → Its name =
      λ n c opened sub name there of names. record { number = n; spec = c.spec; there = spec_at t.before.slots n c there; run = opened.run; undone = runs aborts is n c opened there of; sub = sub; is = names } in
      let before : Undoing Its t.before.files.first t.before = record {
        its = λ name o. file o.number o.channel o.opened o.sub name o.there o.of o.is;
        stays = λ name was. was;
        named = λ name was. inl was;
      } in
      let u : Undoing Its t.before.files.first t.after =
      undoing_aborts Its t.before.files.first takes.ended t.after takes.aborts (undoing_ends Its t.before.files.first t.order.start (buffers_begun t.run) t.before takes.ended takes.ends before) in
      record { stays = u.stays; named = u.named; off = λ name o. inr (file o.number o.channel o.run.opened o.sub name o.there (ap channel_run o.of) o.is) }
  took_abort false aborts is runs takes = quiet_moves (quiet_same t.before t.after takes.moment)

  turn_moves : (transition : Transition) → t.transition ≡ transition → IsIdleOutside t.run t.before.slots → OffRuns t turns → TakesTurnBy transition t → Moves
  turn_moves Start is idle runs takes = took_start (is_run_on t.run) is idle takes
  turn_moves Stop is idle runs takes = quiet_moves (stop_quiet (is_started t.run t.order.start) t takes)
  turn_moves Pause is idle runs takes = quiet_moves (pause_quiet (is_started t.run t.order.start) t takes)
  turn_moves Resume is idle runs takes = quiet_moves (resume_quiet (is_started t.run t.order.start) t takes)
  turn_moves StartAbort is idle runs takes = took_abort (is_of_start t.run t.order.start) is refl runs takes

  -- A start that was refused for a fault.

  refused_fault : (result : Result ⊤ Why) (dump : List ℕ) (begun number : ℕ) → t.answer ≡ Some (start_answer result) → t.answer ≡ Some (No (Fault number))
      → ((name : List ℕ) → t.before.files.first ≡ Some name → IsBrokenName (specs_in t.before.slots) turns name ⊎ IsUndoneFile (specs_in t.before.slots) turns name) → StartsSo result t.order dump begun t.before t.after
      → IsFaultOf (specs_in t.before.slots) turns t.after.files t.order.run number
  refused_fault (Ok done) dump begun number is answered known so = absurd (let both : Some (Yes Plain) ≡ Some (No (Fault number)) = sym is ∙ answered in cc (both))
  refused_fault (Err why) dump begun number is answered known so =
      let both : Some (No why) ≡ Some (No (Fault number)) = sym is ∙ answered in
      let same : why ≡ Fault number = cc (both) in
      start_fault t.order dump number begun t.before t.after turns known (subst (λ (w : Why). StartsSo (Err w) t.order dump begun t.before t.after) same so)

  start_names : (on : Bool) (number : ℕ) → (on ≡ false → AreIdleChannels t.before.slots) → t.answer ≡ Some (No (Fault number)) → ((name : List ℕ) → t.before.files.first ≡ Some name → IsFaultName t.before.slots turns name) → TakesStart on t
      → IsFaultOf (specs_in t.before.slots) turns t.after.files t.order.run number
  start_names true number idle answered known takes = absurd (let both : Some (No NotReady) ≡ Some (No (Fault number)) = sym takes.answer_is ∙ answered in cc (both))
  start_names false number idle answered known takes =
      refused_fault takes.result _ takes.begun number takes.answer_is answered
      (λ name is. elim (known name is) as (λ w. IsBrokenName (specs_in t.before.slots) turns name ⊎ IsUndoneFile (specs_in t.before.slots) turns name) [
        | inl broken ↦ inl broken
        | inr more ↦ elim more as (λ w. IsBrokenName (specs_in t.before.slots) turns name ⊎ IsUndoneFile (specs_in t.before.slots) turns name) [
          | inl off ↦ absurd (none_off t.before.slots name (idle refl) off)
          | inr undone ↦ inr undone
        ]
      ]) takes.starts

  -- no other turn is refused
  yes_or_none : (number : ℕ) → (t.answer ≡ Some (Yes Plain)) ⊎ (t.answer ≡ None) → t.answer ≡ Some (No (Fault number)) → ⊥
  yes_or_none number (inl plain) answered = (let both : Some (Yes Plain) ≡ Some (No (Fault number)) = sym plain ∙ answered in cc (both))
  yes_or_none number (inr open_) answered = (let both : None ≡ Some (No (Fault number)) = sym open_ ∙ answered in cc (both))

  stop_answer : (of : Bool) → TakesStop of t → (t.answer ≡ Some (Yes Plain)) ⊎ (t.answer ≡ None)
  stop_answer true takes = inr takes.answer_is
  stop_answer false takes = inl takes.answer_is

  mark_answer : (Mark : (start buffer : ℕ) → (a b : LoggerMoment) → Type 0) (of : Bool) → TakesMark Mark of t → t.answer ≡ Some (Yes Plain)
  mark_answer Mark true takes = takes.answer_is
  mark_answer Mark false takes = takes.answer_is

  abort_answer : (of : Bool) → TakesAbort of t → t.answer ≡ Some (Yes Plain)
  abort_answer true takes = takes.answer_is
  abort_answer false takes = takes.answer_is

  turn_names : (transition : Transition) (number : ℕ) → IsIdleOutside t.run t.before.slots → t.answer ≡ Some (No (Fault number)) → ((name : List ℕ) → t.before.files.first ≡ Some name → IsFaultName t.before.slots turns name) → TakesTurnBy transition t
      → IsFaultOf (specs_in t.before.slots) turns t.after.files t.order.run number
  turn_names Start number idle answered known takes = start_names (is_run_on t.run) number idle answered known takes
  turn_names Stop number idle answered known takes = absurd (yes_or_none number (stop_answer (is_started t.run t.order.start) takes) answered)
  turn_names Pause number idle answered known takes = absurd (yes_or_none number (inl (mark_answer PausesBuffer (is_started t.run t.order.start) takes)) answered)
  turn_names Resume number idle answered known takes = absurd (yes_or_none number (inl (mark_answer ResumesBuffer (is_started t.run t.order.start) takes)) answered)
  turn_names StartAbort number idle answered known takes = absurd (yes_or_none number (inl (abort_answer (is_of_start t.run t.order.start) takes)) answered)

undone_file : (specs : List (Option ChannelSpec)) (turns later : List MemberTurn) (name : List ℕ) → ((run : ℕ) → IsUndoneRun turns run → IsUndoneRun later run) → IsUndoneFile specs turns name → IsUndoneFile specs later name
undone_file specs turns later name more o = record { number = o.number; spec = o.spec; there = o.there; run = o.run; undone = more o.run o.undone; sub = o.sub; is = o.is }

-- what a turn leaves of both
pub turn_faults : (t : LoggerTurn) (first : FilesTold) (turns : List MemberTurn) → TakesTurn t → IsIdleOutside t.run t.before.slots → OffRuns t turns → specs_in t.after.slots ≡ specs_in t.before.slots
    → ((run : ℕ) (ends : List ChannelEnd) → IsStoppedRunOf turns run ends → IsStoppedRunOf (logger_turn t.transition t.order t.dump t.answer ∷ turns) run ends) → ((run : ℕ) → IsUndoneRun turns run → IsUndoneRun (logger_turn t.transition t.order t.dump t.answer ∷ turns) run)
    → IsFaultKnown t.before.slots turns first t.before.files → EachBehind (NamesFaultOfStart (specs_in t.before.slots) first t.before.files) turns
    → IsFaultKnown t.after.slots (logger_turn t.transition t.order t.dump t.answer ∷ turns) first t.after.files × EachBehind (NamesFaultOfStart (specs_in t.after.slots) first t.after.files) (logger_turn t.transition t.order t.dump t.answer ∷ turns)
turn_faults t first turns takes idle runs specs stopped undone known each =
    let later : List MemberTurn = logger_turn t.transition t.order t.dump t.answer ∷ turns in
    let moves : Moves t turns = turn_moves t turns t.transition refl idle runs takes in
    let its : (name : List ℕ) → IsUndoneFile (specs_in t.before.slots) later name → IsFaultName t.after.slots later name = λ name o.
    inr (inr (subst (λ (l : List (Option ChannelSpec)). IsUndoneFile l later name) (sym specs) o)) in
    let more : (name : List ℕ) → IsFaultName t.before.slots turns name → IsFaultName t.after.slots later name = λ name was. elim was as (λ w. IsFaultName t.after.slots later name) [
      | inl broken ↦ inl (subst (λ (l : List (Option ChannelSpec)). IsBrokenName l later name) (sym specs) (broken_more (specs_in t.before.slots) turns later name stopped broken))
      | inr rest ↦ elim rest as (λ w. IsFaultName t.after.slots later name) [
        | inl off ↦ elim (moves.off name off) as (λ w. IsFaultName t.after.slots later name) [
          | inl still ↦ inr (inl still)
          | inr over ↦ its name over
        ]
        | inr o ↦ its name (undone_file (specs_in t.before.slots) turns later name undone o)
      ]
    ] in
    let named : (name : List ℕ) → t.after.files.first ≡ Some name → (t.before.files.first ≡ Some name) ⊎ IsFaultName t.after.slots later name = λ name is. elim (moves.named name is) as (λ w. (t.before.files.first ≡ Some name) ⊎ IsFaultName t.after.slots later name) [
      | inl was ↦ inl was
      | inr now ↦ inr (its name now)
    ] in
    let all : EachBehind (NamesFaultOfStart (specs_in t.before.slots) first t.after.files) later = (
      λ none number answered. turn_names t turns t.transition number idle answered (known none) takes,
      named_stays (specs_in t.before.slots) first t.before.files t.after.files turns moves.stays each,
    ) in
    (known_moved t.before.slots t.after.slots turns later first t.before.files t.after.files more named known, subst (λ (l : List (Option ChannelSpec)). EachBehind (NamesFaultOfStart l first t.after.files) later) (sym specs) all)

-- A pull.

pub pull_faults : (a b : LoggerMoment) (first : FilesTold) (turns : List MemberTurn) → OffNamed a b → specs_in b.slots ≡ specs_in a.slots → IsFaultKnown a.slots turns first a.files → EachBehind (NamesFaultOfStart (specs_in a.slots) first a.files) turns
    → IsFaultKnown b.slots turns first b.files × EachBehind (NamesFaultOfStart (specs_in b.slots) first b.files) turns
pull_faults a b first turns moved specs known each = (
  known_moved a.slots b.slots turns turns first a.files b.files
      (λ name was. elim was as (λ w. IsFaultName b.slots turns name) [
        | inl broken ↦ inl (subst (λ (l : List (Option ChannelSpec)). IsBrokenName l turns name) (sym specs) broken)
        | inr rest ↦ elim rest as (λ w. IsFaultName b.slots turns name) [
          | inl off ↦ inr (inl (moved.off name off))
          | inr o ↦ inr (inr (subst (λ (l : List (Option ChannelSpec)). IsUndoneFile l turns name) (sym specs) o))
        ]
      ])
      (λ name is. elim (moved.named name is) as (λ w. (a.files.first ≡ Some name) ⊎ IsFaultName b.slots turns name) [
        | inl was ↦ inl was
        | inr off ↦ inr (inr (inl off))
      ]) known,
  subst (λ (l : List (Option ChannelSpec)). EachBehind (NamesFaultOfStart l first b.files) turns) (sym specs) (named_stays (specs_in a.slots) first a.files b.files turns moved.stays each),
)

-- A call to finish.

-- the same of turns of which only the latest differs, and that was not refused
pub finish_faults : (f : LoggerFinish) (first : FilesTold) (latest answered : MemberTurn) (earlier : List MemberTurn) → ((name : List ℕ) → f.files.first ≡ Some name → f.later_files.first ≡ Some name)
    → ((name : List ℕ) → f.later_files.first ≡ Some name → (f.files.first ≡ Some name) ⊎ IsBrokenName (specs_in f.slots) (answered ∷ earlier) name) → ((name : List ℕ) → IsBrokenOffName f.slots name → IsBrokenName (specs_in f.slots) (answered ∷ earlier) name) → specs_in f.later_slots ≡ specs_in f.slots
    → ((run : ℕ) (ends : List ChannelEnd) → IsStoppedRunOf (latest ∷ earlier) run ends → IsStoppedRunOf (answered ∷ earlier) run ends) → ((run : ℕ) → IsUndoneRun (latest ∷ earlier) run → IsUndoneRun (answered ∷ earlier) run) → ((why : Why) → answered.answer ≡ Some (No why) → ⊥)
    → IsFaultKnown f.slots (latest ∷ earlier) first f.files → EachBehind (NamesFaultOfStart (specs_in f.slots) first f.files) (latest ∷ earlier)
    → IsFaultKnown f.later_slots (answered ∷ earlier) first f.later_files × EachBehind (NamesFaultOfStart (specs_in f.later_slots) first f.later_files) (answered ∷ earlier)
finish_faults f first latest answered earlier stays named off specs stopped undone never known each =
    let old : List MemberTurn = latest ∷ earlier in
    let later : List MemberTurn = answered ∷ earlier in
    let broken : (name : List ℕ) → IsBrokenName (specs_in f.slots) later name → IsFaultName f.later_slots later name = λ name o. inl (subst (λ (l : List (Option ChannelSpec)). IsBrokenName l later name) (sym specs) o) in (
      known_moved f.slots f.later_slots old later first f.files f.later_files
          (λ name was. elim was as (λ w. IsFaultName f.later_slots later name) [
            | inl o ↦ broken name (broken_more (specs_in f.slots) old later name stopped o)
            | inr rest ↦ elim rest as (λ w. IsFaultName f.later_slots later name) [
              | inl o ↦ broken name (off name o)
              | inr o ↦ inr (inr (subst (λ (l : List (Option ChannelSpec)). IsUndoneFile l later name) (sym specs) (undone_file (specs_in f.slots) old later name undone o)))
            ]
          ])
          (λ name is. elim (named name is) as (λ w. (f.files.first ≡ Some name) ⊎ IsFaultName f.later_slots later name) [
            | inl was ↦ inl was
            | inr now ↦ inr (broken name now)
          ]) known,
      subst (λ (l : List (Option ChannelSpec)). EachBehind (NamesFaultOfStart l first f.later_files) later) (sym specs)
          (λ none number refused. absurd (never (Fault number) refused), named_stays (specs_in f.slots) first f.files f.later_files earlier stays each.1),
    )
