-- Which names of run files each call of a logger leaves as they should be.
use Rattle.std.specs.Prelude.{◌≡◌, ◌≤◌, ◌<◌, ◌+◌, ℕ, zero, suc, Bool, true, false, IsTrue, List, [], ◌∷◌, length, map, slice_set, Option, Some, None, Result, Ok, Err, ⊤, ◌⊎◌, refl}
use Rattle.std.specs.Option.{option_map}
use Rattle.std.proofs.Common.{ap, sym, subst, ◌∙◌, arith, inl, inr}
use Rattle.daq_types.specs.declared.runs.Order.{Order}
use Rattle.daq_types.specs.declared.runs.Transition.{Transition}
use Rattle.daq_types.specs.declared.runs.Transition.TheVariants.{Start, Stop, Pause, Resume, StartAbort}
use Rattle.daq_types.specs.declared.runs.Why.{Why}
use Rattle.daq_types.specs.declared.runs.Why.TheVariants.{NotReady, Exists, Fault, BufferRefused}
use Rattle.daq_io.specs.Counts.{Rose}
use Rattle.daq_io.specs.Seen.{Seen, Stored, Touches}
use Rattle.daq_io.specs.Told.{FilesTold}
use Rattle.buffer_core.specs.Slots.{slot_at}
use Rattle.buffer_core.proofs.SlotLaws.{slot_set_other, slot_within}
use Rattle.mid_logger.specs.declared.channel.Channel.{Channel}
use Rattle.mid_logger.specs.declared.channel_spec.ChannelSpec.{ChannelSpec}
use Rattle.mid_logger.specs.declared.pulled.Pulled.{Pulled}
use Rattle.mid_logger.specs.declared.stage.ChannelRun.{ChannelRun}
use Rattle.mid_logger.specs.declared.stage.ChannelStage.{ChannelStage}
use Rattle.mid_logger.specs.declared.stage.ChannelStage.TheVariants.{Idle}
use Rattle.sub_files.specs.Patterns.{piece_name_by}
use Rattle.sub_files.specs.RecordFiles.{AreGone, IsGone, LeavesNone, RoseTwice}
use Rattle.mid_logger.specs.Channels.{channel_run, written_run, stage_begun, stage_ended, place_marked, files_by as files_made}
use Rattle.mid_logger.specs.ChannelEnds.{RemovesRun, stage_settled}
use Rattle.mid_logger.specs.Keeping.{ChangesRun, KeepsRun, any_file, PullsChange, AbortsChange, ClosesChange}
use Rattle.mid_logger.specs.ChannelTurns.{ChannelAt, RefusesRun}
use Rattle.mid_logger.specs.Patterns.{file_name_by}
use Rattle.loggers.specs.Moments.{LoggerMoment, StepsChannel, StepsSlot, StepsAt, CallsBuffer, MarksBuffer, InTurn, noted_channel, AreIdleChannels, HaveFilesOpen}
use Rattle.loggers.specs.ChannelSteps.{OpensChannel, AbortsChannel, PullsChannel}
use Rattle.loggers.specs.SlotPulls.{PullsSlot, PullsNumbered}
use Rattle.loggers.specs.Finishing.{EndingMoment, EndsSlot, EndsSlotAt, EndsFiles, LoggerFinish, ending_of, ends_idle}
use Rattle.loggers.specs.Turning.{EndsBuffer, PausesBuffer, ResumesBuffer, LoggerTurn, BeginsBelow, AbortsAll, UndoesOpens, UndoesBegins, StartsSo, TakesStart, TakesStop, TakesMark, TakesAbort, TakesTurnBy, TakesTurn, IsIdleOutside, is_run_on, is_started, is_of_start, buffers_begun, start_answer}
use Rattle.transitions.specs.declared.answers.Answer.TheVariants.{No}
use Rattle.loggers.specs.OtherFiles.{specs_in}
use Rattle.loggers.specs.LeftNames.{IsOpenName, NamesLeft}
use Rattle.loggers.proofs.CloseMoves.{settled_made}
use Rattle.loggers.proofs.FaultsNoted.{rose_then, then_rose, counts_then}
use Rattle.loggers.proofs.FilesLeft.{KeepsFiles, spec_at, noted_spec, noted_run, noted_made, begun_files, ended_files_kept, same_run, settled_run}
use Rattle.loggers.proofs.InTurns.{turns_keep}
use Rattle.loggers.proofs.NamesOpened.{IsOneOf, IsNoneOf, names_tell, one_or_none, OpenFrom, HasOpen, has_open, open_at, set_open, open_set, open_past, idle_none, Opening, Opens, opening_all, opening_first, opens_all, opened_first}
use Rattle.loggers.specs.ToldCounts.{faults_of_refusal, faults_of_answer, count_in_answer}
use Rattle.daq_io.specs.Counts.{RoseBy}
use Rattle.daq_io.proofs.Counts.{RoseBy-fewer, RoseBy-then}
use Rattle.loggers.proofs.ReadySteps.{ended_files}
use Rattle.loggers.proofs.ManyRose.{StaysOrRose, by_none}
use Rattle.loggers.proofs.ReasonsKept.{step_stays, opens_kept, begins_kept, ends_kept, aborts_kept, abort_kept, call_kept, refusal_rose}
use Rattle.loggers.proofs.SlotLists.{same_or_other, below_or_not, one_changed, put_there, many_set}

-- what is so where the count rose is so where it rose in a part of that

pub rose_first : {Then : Type 0} (f g h : ℕ) → (Rose f h → Then) → StaysOrRose g h → Rose f g → Then
rose_first f g h so stays rose = so (rose_then f g h rose stays)

pub rose_last : {Then : Type 0} (f g h : ℕ) → (Rose f h → Then) → StaysOrRose f g → Rose g h → Then
rose_last f g h so stays rose = so (then_rose f g h stays rose)

-- Undoing.

-- Where it is good that one of its names has no file, any file is.
abbrev pub IsLoose : (Good : List ℕ → Option Stored → Type 0) → (Its : List ℕ → Type 0) → Type 0
IsLoose Good Its = (name : List ℕ) → Its name → Good name None → (x : Option Stored) → Good name x

-- each file is as it was at Good, but for open names of channels from this number on, which are its names
record Undo (Good : List ℕ → Option Stored → Type 0) (Its : List ℕ → Type 0) (k many : ℕ) (m : LoggerMoment) : Type 0 where
  names : IsTrue m.files.seen.names
  many_is : length m.slots ≡ many
  each : (name : List ℕ) → (Good name (m.files.seen.at name)) ⊎ OpenFrom k m.slots name
  fresh : (name : List ℕ) → IsOpenName m.slots name → Good name None
  its : (name : List ℕ) → IsOpenName m.slots name → Its name

undo_opened : (Good : List ℕ → Option Stored → Type 0) (Its : List ℕ → Type 0) (n : ℕ) (m : LoggerMoment) → Opening Good n m → ((name : List ℕ) → IsOpenName m.slots name → Its name) → Undo Good Its 0 (length m.slots) m
undo_opened Good Its n m g its = record { names = g.names; many_is = refl; each = g.each; fresh = g.fresh; its = its }

-- nothing was made, or what was made is gone
none_left : (old new : Seen) (name : List ℕ) → LeavesNone old new name → IsGone new name
none_left old new name (inl none) = none.0
none_left old new name (inr undone) = undone.gone

-- a refusal leaves all files, but where a fault was counted

-- what was done to the file of this name, of which there was none, is good
undone_good : (Good : List ℕ → Option Stored → Type 0) (Its : List ℕ → Type 0) (old new : Seen) (name other : List ℕ) → IsTrue old.names → Touches old new name → IsGone old name → (LeavesNone old new name ⊎ IsLoose Good Its) → Its name → Good other (old.at other) → Good other (new.at other)
undone_good Good Its old new name other tells touches fresh gone its good = elim (names_tell other name) as (λ w. Good other (new.at other)) [
  | inl same ↦
      let was : old.at other ≡ None = subst (λ (l : List ℕ). old.at l ≡ None) (sym same) (fresh tells) in
      let none : Good other None = subst (λ (x : Option Stored). Good other x) was good in
      elim gone as (λ w. Good other (new.at other)) [
        | inl left ↦
            let is : new.at other ≡ None = subst (λ (l : List ℕ). new.at l ≡ None) (sym same) (none_left old new name left (subst (λ (t : Bool). IsTrue t) (sym touches.names) tells)) in
            subst (λ (x : Option Stored). Good other x) (sym is) none
        | inr loose ↦ loose other (subst (λ (l : List ℕ). Its l) (sym same) its) none (new.at other)
      ]
  | inr differs ↦ subst (λ (x : Option Stored). Good other x) (sym (touches.others other differs)) good
]

refused_good : (Good : List ℕ → Option Stored → Type 0) (Its : List ℕ → Type 0) (why : Why) (spec : ChannelSpec) (name other : List ℕ) (a b : ChannelAt) → (RoseBy (faults_of_refusal why + 1) a.faults b.faults → IsLoose Good Its) → IsTrue a.files.names → Its name → RefusesRun why spec name a b → Good other (a.files.at other)
    → Good other (b.files.at other)
refused_good Good Its NotReady spec name other a b loose tells its r good = absurd r
refused_good Good Its (Exists channel) spec name other a b loose tells its r good = subst (λ (x : Option Stored). Good other x) (sym (r.2.files.at other)) good
refused_good Good Its (Fault channel) spec name other a b loose tells its r good =
    undone_good Good Its a.files b.files name other tells r.2.touches r.2.fresh (or_loose r.2.gone) its good
  where
    or_loose : LeavesNone a.files b.files name ⊎ RoseTwice a.faults b.faults → LeavesNone a.files b.files name ⊎ IsLoose Good Its
    or_loose (inl gone) = inl gone
    or_loose (inr rose) = inr (loose rose)
refused_good Good Its BufferRefused spec name other a b loose tells its r good =
    undone_good Good Its a.files b.files name other tells r.1.touches r.1.fresh (or_loose r.1.gone) its good
  where
    or_loose : LeavesNone a.files b.files name ⊎ Rose a.faults b.faults → LeavesNone a.files b.files name ⊎ IsLoose Good Its
    or_loose (inl gone) = inl gone
    or_loose (inr rose) = inr (loose rose)

refused_tells : (why : Why) (spec : ChannelSpec) (name : List ℕ) (a b : ChannelAt) → RefusesRun why spec name a b → b.files.names ≡ a.files.names
refused_tells NotReady spec name a b r = absurd r
refused_tells (Exists channel) spec name a b r = r.2.files.names
refused_tells (Fault channel) spec name a b r = r.2.touches.names
refused_tells BufferRefused spec name a b r = r.1.touches.names

undo_refused : (Good : List ℕ → Option Stored → Type 0) (Its : List ℕ → Type 0) (order : Order) (dump : List ℕ) (why : Why) (n : ℕ) (old : Seen) (before : Channel) (specs : List (Option ChannelSpec)) (a b : LoggerMoment) → slot_at a.slots n ≡ Some before → StepsChannel (OpensChannel order dump (Err why)) n before a b
    → (RoseBy (faults_of_refusal why + 1) a.files.faults b.files.faults → IsLoose Good Its) → ((i : ℕ) (spec : ChannelSpec) → slot_at specs i ≡ Some spec → Its (file_name_by spec.pattern order.run)) → Opening Good n a → Opens Good specs order.run n old a → Undo Good Its 0 (length b.slots) b
undo_refused Good Its order dump why n old before specs a b there s loose gives g o =
    let r = s.step.opens.1 in
    let name_n : List ℕ = file_name_by before.spec.pattern order.run in
    let slots : List (Option Channel) = slice_set a.slots n (Some s.after) in
    let idle : before.stage ≡ Idle = g.idle n before (omega arith) there in
    let now_idle : s.after.stage ≡ Idle = s.step.opens.0 ∙ idle in
    let spec : (i : ℕ) (c : Channel) → slot_at a.slots i ≡ Some c → slot_at specs i ≡ Some c.spec = λ i c at. subst (λ (l : List (Option ChannelSpec)). slot_at l i ≡ Some c.spec) o.specs_are (spec_at a.slots i c at) in
    let its : (name : List ℕ) → IsOpenName a.slots name → Its name = λ name open_.
    subst (λ (l : List ℕ). Its l) (opened_first Good specs order.run n old a o name open_) (gives open_.number open_.channel.spec (spec open_.number open_.channel open_.there)) in
    let now : Undo Good Its 0 (length b.slots) (record b { slots = slots }) = record {
      names = subst (λ (t : Bool). IsTrue t) (sym (refused_tells why before.spec name_n _ _ r)) g.names;
      many_is = sym (ap (λ (l : List (Option Channel)). length l) s.slots);
      each = λ name. elim (g.each name) as (λ w. (Good name (b.files.seen.at name)) ⊎ OpenFrom 0 slots name) [
        | inl old_ ↦ inl (refused_good Good Its why before.spec name_n name _ _ loose g.names (gives n before.spec (spec n before there)) r old_)
        | inr open_ ↦ inr (open_set 0 a.slots n before s.after name there open_ (idle_none before name idle))
      ];
      fresh = λ name open_. elim (set_open a.slots n before s.after name there open_) as (λ w. Good name None) [
        | inl mine ↦ absurd (idle_none s.after name now_idle mine)
        | inr was ↦ g.fresh name was
      ];
      its = λ name open_. elim (set_open a.slots n before s.after name there open_) as (λ w. Its name) [
        | inl mine ↦ absurd (idle_none s.after name now_idle mine)
        | inr was ↦ its name was
      ];
    } in
    subst (λ (l : List (Option Channel)). Undo Good Its 0 (length b.slots) (record b { slots = l })) (sym s.slots) now

-- marks leave all files and all runs

pub map_at : (note : ChannelStage → ChannelStage) (buffer : ℕ) (slots : List (Option Channel)) (n : ℕ) (c : Channel) → slot_at slots n ≡ Some c → slot_at (map (option_map (noted_channel note buffer)) slots) n ≡ Some (noted_channel note buffer c)
map_at note buffer [] n c there = absurd (cc (there))
map_at note buffer (o ∷ os) zero c there = ap (option_map (noted_channel note buffer)) there
map_at note buffer (o ∷ os) (suc n) c there = map_at note buffer os n c there

pub map_from : (note : ChannelStage → ChannelStage) (buffer : ℕ) (slots : List (Option Channel)) (n : ℕ) (c : Channel) → slot_at (map (option_map (noted_channel note buffer)) slots) n ≡ Some c → (d : Channel) × (slot_at slots n ≡ Some d) × (noted_channel note buffer d ≡ c)
map_from note buffer [] n c there = absurd (cc (there))
map_from note buffer (None ∷ os) zero c there = absurd (cc (there))
map_from note buffer (Some d ∷ os) zero c there = (d, refl, cc (there))
map_from note buffer (o ∷ os) (suc n) c there = map_from note buffer os n c there

map_length : (f : Option Channel → Option Channel) (slots : List (Option Channel)) → length (map f slots) ≡ length slots
map_length f [] = refl
map_length f (o ∷ os) = ap (λ (n : ℕ). suc n) (map_length f os)

-- a channel has a name open as before, once it has noted a mark
noted_open : (note : ChannelStage → ChannelStage) (buffer : ℕ) (c : Channel) (name : List ℕ) → KeepsFiles note → HasOpen c name → HasOpen (noted_channel note buffer c) name
noted_open note buffer c name keeps has = record {
  opened = has.opened;
  of = noted_run note buffer c keeps ∙ has.of;
  sub = has.sub;
  made = subst (λ (k : ℕ). has.sub < k) (sym (noted_made note buffer c keeps)) has.made;
  is = ap (λ (x : ChannelSpec). piece_name_by x.pattern has.opened.run has.sub) (noted_spec note buffer c) ∙ has.is;
}

pub open_noted : (note : ChannelStage → ChannelStage) (buffer : ℕ) (c : Channel) (name : List ℕ) → KeepsFiles note → HasOpen (noted_channel note buffer c) name → HasOpen c name
open_noted note buffer c name keeps has = record {
  opened = has.opened;
  of = sym (noted_run note buffer c keeps) ∙ has.of;
  sub = has.sub;
  made = subst (λ (k : ℕ). has.sub < k) (noted_made note buffer c keeps) has.made;
  is = ap (λ (x : ChannelSpec). piece_name_by x.pattern has.opened.run has.sub) (sym (noted_spec note buffer c)) ∙ has.is;
}

undo_marked : (Good : List ℕ → Option Stored → Type 0) (Its : List ℕ → Type 0) (many : ℕ) (entry : _) (note : ChannelStage → ChannelStage) (buffer : ℕ) (a b : LoggerMoment) → KeepsFiles note → MarksBuffer entry note buffer a b → Undo Good Its 0 many a → Undo Good Its 0 many b
undo_marked Good Its many entry note buffer a b keeps marks g =
    let slots : List (Option Channel) = map (option_map (noted_channel note buffer)) a.slots in
    let now : Undo Good Its 0 many (record a { slots = slots }) = record {
      names = g.names;
      many_is = map_length (option_map (noted_channel note buffer)) a.slots ∙ g.many_is;
      each = λ name. elim (g.each name) as (λ w. (Good name (a.files.seen.at name)) ⊎ OpenFrom 0 slots name) [
        | inl old ↦ inl old
        | inr o ↦ inr (record {
          open_name = open_at slots o.open_name.number (noted_channel note buffer o.open_name.channel) name (map_at note buffer a.slots o.open_name.number o.open_name.channel o.open_name.there)
              (noted_open note buffer o.open_name.channel name keeps (has_open a.slots name o.open_name));
          from = omega arith;
        })
      ];
      fresh = λ name o.
          let was = map_from note buffer a.slots o.number o.channel o.there in
          g.fresh name (open_at a.slots o.number was.0 name was.1 (open_noted note buffer was.0 name keeps (subst (λ (c : Channel). HasOpen c name) (sym was.2) (has_open slots name o))));
      its = λ name o.
          let was = map_from note buffer a.slots o.number o.channel o.there in
          g.its name (open_at a.slots o.number was.0 name was.1 (open_noted note buffer was.0 name keeps (subst (λ (c : Channel). HasOpen c name) (sym was.2) (has_open slots name o))));
    } in
    let files : Undo Good Its 0 many (record a { slots = slots; files = b.files }) = subst (λ (f : FilesTold). Undo Good Its 0 many (record a { slots = slots; files = f })) (sym marks.marks.files) now in
    let all : Undo Good Its 0 many (record b { slots = slots }) = record { names = files.names; many_is = files.many_is; each = files.each; fresh = files.fresh; its = files.its } in
    subst (λ (l : List (Option Channel)). Undo Good Its 0 many (record b { slots = l })) (sym marks.noted) all

undo_called : (Good : List ℕ → Option Stored → Type 0) (Its : List ℕ → Type 0) (many : ℕ) (entry : _) (buffer : ℕ) (a b : LoggerMoment) → CallsBuffer entry buffer a b → Undo Good Its 0 many a → Undo Good Its 0 many b
undo_called Good Its many entry buffer a b calls g =
    let files : Undo Good Its 0 many (record a { files = b.files }) = subst (λ (f : FilesTold). Undo Good Its 0 many (record a { files = f })) (sym calls.files) g in
    let all : Undo Good Its 0 many (record b { slots = a.slots }) = record { names = files.names; many_is = files.many_is; each = files.each; fresh = files.fresh; its = files.its } in
    subst (λ (l : List (Option Channel)). Undo Good Its 0 many (record b { slots = l })) (sym calls.slots) all

undo_begins : (Good : List ℕ → Option Stored → Type 0) (Its : List ℕ → Type 0) (many start n : ℕ) (a b : LoggerMoment) → BeginsBelow start n a b → Undo Good Its 0 many a → Undo Good Its 0 many b
undo_begins Good Its many start zero a b same g = subst (λ (m : LoggerMoment). Undo Good Its 0 many m) (sym same) g
undo_begins Good Its many start (suc n) a b begins g = undo_marked Good Its many _ (λ stage. stage_begun stage begins.2.0) n begins.0 b (begun_files begins.2.0) begins.2.1 (undo_begins Good Its many start n a begins.0 begins.1 g)

undo_ends : (Good : List ℕ → Option Stored → Type 0) (Its : List ℕ → Type 0) (many start n : ℕ) (a b : LoggerMoment) → InTurn (λ k. EndsBuffer start k) n a b → Undo Good Its 0 many a → Undo Good Its 0 many b
undo_ends Good Its many start zero a b same g = subst (λ (m : LoggerMoment). Undo Good Its 0 many m) (sym same) g
undo_ends Good Its many start (suc n) a b ends g = undo_marked Good Its many _ (λ stage. stage_ended stage (place_marked ends.2.0)) n ends.0 b (ended_files_kept (place_marked ends.2.0)) ends.2.1 (undo_ends Good Its many start n a ends.0 ends.1 g)

-- one channel calls its run off

-- all its files are gone, so many, or it is good what is left of them; and no other file changed
record RemovesAll (Good : List ℕ → Option Stored → Type 0) (Its : List ℕ → Type 0) (names : ℕ → List ℕ) (many : ℕ) (old new : Seen) : Type 0 where
  told : new.names ≡ old.names
  others : (name : List ℕ) → IsNoneOf names many name → new.at name ≡ old.at name
  gone : (n : ℕ) → n < many → IsGone new (names n) ⊎ IsLoose Good Its

abbrev Removes : (Good : List ℕ → Option Stored → Type 0) → (Its : List ℕ → Type 0) → ChannelSpec → Option ChannelRun → (many : ℕ) → (old new : Seen) → Type 0
Removes Good Its spec None many old new = new ≡ old
Removes Good Its spec (Some opened) many old new = RemovesAll Good Its (piece_name_by spec.pattern opened.run) many old new

gone_or_loose : (Good : List ℕ → Option Stored → Type 0) (Its : List ℕ → Type 0) (old new : Seen) (names : ℕ → List ℕ) (many f g : ℕ) → (Rose f g → IsLoose Good Its) → AreGone old new names many ⊎ Rose f g → (n : ℕ) → n < many → IsGone new (names n) ⊎ IsLoose Good Its
gone_or_loose Good Its old new names many f g loose (inl gone) n below = inl (gone n below).gone
gone_or_loose Good Its old new names many f g loose (inr rose) n below = inr (loose rose)

removes_by : (Good : List ℕ → Option Stored → Type 0) (Its : List ℕ → Type 0) (spec : ChannelSpec) (run written : Option ChannelRun) (many : ℕ) (old new : Seen) (f g : ℕ) → (Rose f g → IsLoose Good Its) → ChangesRun spec run written many many old new → RemovesRun run written spec many old new f g → Removes Good Its spec run many old new
removes_by Good Its spec None written many old new f g loose changes removes = removes.0
removes_by Good Its spec (Some opened) written many old new f g loose changes removes = record {
  told = changes.told;
  others = changes.others;
  gone = gone_or_loose Good Its removes.closed new (piece_name_by spec.pattern opened.run) many f g loose removes.gone;
}

-- the files behind that
record Aborted (Good : List ℕ → Option Stored → Type 0) (Its : List ℕ → Type 0) (k : ℕ) (before : Channel) (a : LoggerMoment) (new : Seen) : Type 0 where
  names : IsTrue new.names
  each : (name : List ℕ) → (Good name (new.at name)) ⊎ (OpenFrom k a.slots name × (HasOpen before name → ⊥))

aborted_by : (Good : List ℕ → Option Stored → Type 0) (Its : List ℕ → Type 0) (k many : ℕ) (before : Channel) (a : LoggerMoment) (new : Seen) (run : Option ChannelRun) → channel_run before.stage ≡ run → slot_at a.slots k ≡ Some before → Removes Good Its before.spec run (files_made before.stage) a.files.seen new → Undo Good Its k many a
    → Aborted Good Its k before a new
aborted_by Good Its k many before a new None is there same g = record {
  names = subst (λ (s : Seen). IsTrue s.names) (sym same) g.names;
  each = λ name. elim (g.each name) as (λ w. (Good name (new.at name)) ⊎ (OpenFrom k a.slots name × (HasOpen before name → ⊥))) [
    | inl old ↦ inl (subst (λ (s : Seen). Good name (s.at name)) (sym same) old)
    | inr o ↦ inr (o, λ has. absurd (let of = has.of in cc (is, of)))
  ];
}
aborted_by Good Its k many before a new (Some opened) is there removes g =
    let names : ℕ → List ℕ = piece_name_by before.spec.pattern opened.run in
    let tells : IsTrue new.names = subst (λ (t : Bool). IsTrue t) (sym removes.told) g.names in
    record {
      names = tells;
      each = λ name. elim (one_or_none names (files_made before.stage) name) as (λ w. (Good name (new.at name)) ⊎ (OpenFrom k a.slots name × (HasOpen before name → ⊥))) [
        | inl one ↦
            let open_ : IsOpenName a.slots (names one.place) = open_at a.slots k before (names one.place) there (record { opened = opened; of = is; sub = one.place; made = one.below; is = refl }) in
            let free : Good (names one.place) None = g.fresh (names one.place) open_ in
            inl (subst (λ (l : List ℕ). Good l (new.at l)) (sym one.is) (elim (removes.gone one.place one.below) as (λ w. Good (names one.place) (new.at (names one.place))) [
              | inl gone ↦ subst (λ (x : Option Stored). Good (names one.place) x) (sym (gone tells)) free
              | inr loose ↦ loose (names one.place) (g.its (names one.place) open_) free (new.at (names one.place))
            ]))
        | inr none ↦ elim (g.each name) as (λ w. (Good name (new.at name)) ⊎ (OpenFrom k a.slots name × (HasOpen before name → ⊥))) [
          | inl old ↦ inl (subst (λ (x : Option Stored). Good name x) (sym (removes.others name none)) old)
          | inr o ↦ inr (
            o,
            λ has. none has.sub has.made (
                let of = has.of in
                let its_run : has.opened.run ≡ opened.run = cc (is, of) in
                sym has.is ∙ ap (λ (r : ℕ). piece_name_by before.spec.pattern r has.sub) its_run),
          )
        ]
      ];
    }

undo_one : AbortsChange → (Good : List ℕ → Option Stored → Type 0) (Its : List ℕ → Type 0) (k many : ℕ) (before : Channel) (a b : LoggerMoment) → slot_at a.slots k ≡ Some before → StepsChannel AbortsChannel k before a b → (Rose a.files.faults b.files.faults → IsLoose Good Its) → Undo Good Its k many a → Undo Good Its (suc k) many b
undo_one change Good Its k many before a b there s none g =
    let slots : List (Option Channel) = slice_set a.slots k (Some s.after) in
    let idle : s.after.stage ≡ Idle = ap (λ (c : Channel). c.stage) s.step.channel in
    let files : Aborted Good Its k before a b.files.seen =
    aborted_by Good Its k many before a b.files.seen (channel_run before.stage) refl there
    (removes_by Good Its before.spec (channel_run before.stage) (written_run before.stage) (files_made before.stage) a.files.seen b.files.seen a.files.faults b.files.faults none
    (change before.spec before.stage a.files.seen b.files.seen a.files.faults b.files.faults s.step.removes s.step.last) s.step.removes) g in
    let now : Undo Good Its (suc k) many (record b { slots = slots }) = record {
      names = files.names;
      many_is = many_set a.slots k (Some s.after) ∙ g.many_is;
      each = λ name. elim (files.each name) as (λ w. (Good name (b.files.seen.at name)) ⊎ OpenFrom (suc k) slots name) [
        | inl same ↦ inl same
        | inr o ↦ inr (open_past a.slots k before s.after name there o.0 o.1)
      ];
      fresh = λ name open_. elim (set_open a.slots k before s.after name there open_) as (λ w. Good name None) [
        | inl mine ↦ absurd (idle_none s.after name idle mine)
        | inr old ↦ g.fresh name old
      ];
      its = λ name open_. elim (set_open a.slots k before s.after name there open_) as (λ w. Its name) [
        | inl mine ↦ absurd (idle_none s.after name idle mine)
        | inr old ↦ g.its name old
      ];
    } in
    subst (λ (l : List (Option Channel)). Undo Good Its (suc k) many (record b { slots = l })) (sym s.slots) now

undo_none : (Good : List ℕ → Option Stored → Type 0) (Its : List ℕ → Type 0) (k many : ℕ) (a b : LoggerMoment) → slot_at a.slots k ≡ None → b ≡ a → Undo Good Its k many a → Undo Good Its (suc k) many b
undo_none Good Its k many a b there same g = subst (λ (m : LoggerMoment). Undo Good Its (suc k) many m) (sym same) (record {
  names = g.names;
  many_is = g.many_is;
  each = λ name. elim (g.each name) as (λ w. (Good name (a.files.seen.at name)) ⊎ OpenFrom (suc k) a.slots name) [
    | inl old ↦ inl old
    | inr o ↦ inr (elim (same_or_other o.open_name.number k) as (λ w. OpenFrom (suc k) a.slots name) [
      | inl here ↦ absurd (let at_k : slot_at a.slots k ≡ Some o.open_name.channel = subst (λ (i : ℕ). slot_at a.slots i ≡ Some o.open_name.channel) here o.open_name.there in cc (there, at_k))
      | inr other ↦ record { open_name = o.open_name; from = (let least : k ≤ o.open_name.number = o.from in omega arith) }
    ])
  ];
  fresh = g.fresh;
  its = g.its;
})

undo_slot : AbortsChange → (Good : List ℕ → Option Stored → Type 0) (Its : List ℕ → Type 0) (k many : ℕ) (slot : Option Channel) (a b : LoggerMoment) → slot_at a.slots k ≡ slot → StepsSlot AbortsChannel k slot a b → (Rose a.files.faults b.files.faults → IsLoose Good Its) → Undo Good Its k many a → Undo Good Its (suc k) many b
undo_slot change Good Its k many None a b there same none g = undo_none Good Its k many a b there same g
undo_slot change Good Its k many (Some before) a b there s none g = undo_one change Good Its k many before a b there s none g

-- so many channels call their runs off

aborted_count : (n : ℕ) (a b : LoggerMoment) → InTurn (λ k. StepsAt AbortsChannel k) n a b → StaysOrRose a.files.faults b.files.faults
aborted_count zero a b same = inl (ap (λ (m : LoggerMoment). m.files.faults) same)
aborted_count (suc n) a b turns = counts_then a.files.faults turns.0.files.faults b.files.faults (aborted_count n a turns.0 turns.1) (step_stays turns.0 b (abort_kept n (slot_at turns.0.slots n) turns.0 b refl turns.2))

-- behind that those are idle
aborts_below : (n : ℕ) (a b : LoggerMoment) → InTurn (λ k. StepsAt AbortsChannel k) n a b → (length b.slots ≡ length a.slots) × ((i : ℕ) (c : Channel) → i < n → slot_at b.slots i ≡ Some c → c.stage ≡ Idle)
aborts_below zero a b same = (ap (λ (m : LoggerMoment). length m.slots) same, λ i c below at. absurd (omega (arith, below)))
aborts_below (suc n) a b turns = (let before = aborts_below n a turns.0 turns.1 in one (slot_at turns.0.slots n) refl turns.2 before.0 before.1)
  where
    one : (slot : Option Channel) → slot_at turns.0.slots n ≡ slot → StepsSlot AbortsChannel n slot turns.0 b → length turns.0.slots ≡ length a.slots → ((i : ℕ) (c : Channel) → i < n → slot_at turns.0.slots i ≡ Some c → c.stage ≡ Idle)
        → (length b.slots ≡ length a.slots) × ((i : ℕ) (c : Channel) → i < suc n → slot_at b.slots i ≡ Some c → c.stage ≡ Idle)
    one None there same many idle = (
      ap (λ (m : LoggerMoment). length m.slots) same ∙ many,
      λ i c below at. elim (same_or_other i n) as (λ w. c.stage ≡ Idle) [
        | inl is ↦ absurd (let here : slot_at turns.0.slots n ≡ Some c = subst (λ (k : ℕ). slot_at turns.0.slots k ≡ Some c) is (subst (λ (m : LoggerMoment). slot_at m.slots i ≡ Some c) same at) in cc (there, here))
        | inr other ↦ idle i c (omega (arith, below, other)) (subst (λ (m : LoggerMoment). slot_at m.slots i ≡ Some c) same at)
      ],
    )
    one (Some before) there s many idle = (
      ap (λ (l : List (Option Channel)). length l) s.slots ∙ (many_set turns.0.slots n (Some s.after) ∙ many),
      λ i c below at.
          one_changed (λ k x. k < suc n → x.stage ≡ Idle) turns.0.slots n s.after (λ x here low. ap (λ (z : Channel). z.stage) s.step.channel) (λ k x other here low. idle k x (omega (arith, low, other)) here) before there i c
          (subst (λ (l : List (Option Channel)). slot_at l i ≡ Some c) s.slots at) below,
    )

aborts_idle : (a b : LoggerMoment) → AbortsAll a b → AreIdleChannels b.slots
aborts_idle a b aborts i c at = (let behind = aborts_below (length a.slots) a b aborts in behind.1 i c (omega (arith, behind.0, slot_within b.slots i c at)) at)

undo_below : AbortsChange → (Good : List ℕ → Option Stored → Type 0) (Its : List ℕ → Type 0) (many n : ℕ) (a b : LoggerMoment) → InTurn (λ k. StepsAt AbortsChannel k) n a b → (Rose a.files.faults b.files.faults → IsLoose Good Its) → Undo Good Its 0 many a → Undo Good Its n many b
undo_below change Good Its many zero a b same none g = subst (λ (m : LoggerMoment). Undo Good Its 0 many m) (sym same) g
undo_below change Good Its many (suc n) a b turns none g =
    let m : LoggerMoment = turns.0 in
    let last = step_stays m b (abort_kept n (slot_at m.slots n) m b refl turns.2) in
    undo_slot change Good Its n many (slot_at m.slots n) m b refl turns.2 (rose_last a.files.faults m.files.faults b.files.faults none (aborted_count n a m turns.1))
    (undo_below change Good Its many n a m turns.1 (rose_first a.files.faults m.files.faults b.files.faults none last) g)

undone : AbortsChange → (Good : List ℕ → Option Stored → Type 0) (Its : List ℕ → Type 0) (a b : LoggerMoment) → AbortsAll a b → (Rose a.files.faults b.files.faults → IsLoose Good Its) → Undo Good Its 0 (length a.slots) a → NamesLeft Good b.slots b.files.seen
undone change Good Its a b aborts none g =
    let done : Undo Good Its (length a.slots) (length a.slots) b = undo_below change Good Its (length a.slots) (length a.slots) a b aborts none g in
    record {
      each = λ name. elim (done.each name) as (λ w. Good name (b.files.seen.at name) ⊎ IsOpenName b.slots name) [
        | inl same ↦ inl same
        | inr o ↦ inr o.open_name
      ];
      fresh = done.fresh;
    }

left_undo : (Good : List ℕ → Option Stored → Type 0) (Its : List ℕ → Type 0) (a : LoggerMoment) → IsTrue a.files.seen.names → ((name : List ℕ) → IsOpenName a.slots name → Its name) → NamesLeft Good a.slots a.files.seen → Undo Good Its 0 (length a.slots) a
left_undo Good Its a tells its left = record {
  names = tells;
  many_is = refl;
  each = λ name. elim (left.each name) as (λ w. Good name (a.files.seen.at name) ⊎ OpenFrom 0 a.slots name) [
    | inl same ↦ inl same
    | inr o ↦ inr (record { open_name = o; from = omega arith })
  ];
  fresh = left.fresh;
  its = its;
}

undo_left : (Good : List ℕ → Option Stored → Type 0) (Its : List ℕ → Type 0) (many : ℕ) (a : LoggerMoment) → Undo Good Its 0 many a → NamesLeft Good a.slots a.files.seen
undo_left Good Its many a g = record {
  each = λ name. elim (g.each name) as (λ w. Good name (a.files.seen.at name) ⊎ IsOpenName a.slots name) [
    | inl same ↦ inl same
    | inr o ↦ inr o.open_name
  ];
  fresh = g.fresh;
}

same_many : (Good : List ℕ → Option Stored → Type 0) (Its : List ℕ → Type 0) (many : ℕ) (m : LoggerMoment) → Undo Good Its 0 many m → Undo Good Its 0 (length m.slots) m
same_many Good Its many m g = record { names = g.names; many_is = refl; each = g.each; fresh = g.fresh; its = g.its }

-- The turns.

-- the names that these channels give to their first files in the run are its names
abbrev pub AreIts : (Its : List ℕ → Type 0) → List (Option ChannelSpec) → (run : ℕ) → Type 0
AreIts Its specs run = (i : ℕ) → (spec : ChannelSpec) → slot_at specs i ≡ Some spec → Its (file_name_by spec.pattern run)

-- one count rose by so many, and then by more
rose_within : (many more total f g h : ℕ) → total ≤ many + more → RoseBy many f g → RoseBy more g h → RoseBy total f h
rose_within many more total f g h few first second = RoseBy-fewer total (many + more) f h few (RoseBy-then many more f g h first second)

opens_undone : AbortsChange → (Good : List ℕ → Option Stored → Type 0) (Its : List ℕ → Type 0) (order : Order) (dump : List ℕ) (why : Why) (begun : ℕ) (a b : LoggerMoment) → UndoesOpens order dump why begun a b → AreIdleChannels a.slots → IsTrue a.files.seen.names → AreIts Its (specs_in a.slots) order.run
    → (AreIdleChannels b.slots → RoseBy (faults_of_refusal why + 1) a.files.faults b.files.faults → IsLoose Good Its) → NamesLeft Good a.slots a.files.seen → NamesLeft Good b.slots b.files.seen
opens_undone change Good Its order dump why begun a b undoes idle tells gives where_idle left =
    let r = undoes.opens in
    let m : LoggerMoment = undoes.refused in
    let loose : RoseBy (faults_of_refusal why + 1) a.files.faults b.files.faults → IsLoose Good Its = where_idle (aborts_idle m b undoes.aborts) in
    let told : ℕ = faults_of_refusal why in
    let early : RoseBy 0 a.files.faults r.opened.files.faults = by_none a.files.faults r.opened.files.faults (step_stays a r.opened (opens_kept order dump r.number a r.opened r.opens)) in
    let late : RoseBy 0 m.files.faults b.files.faults = by_none m.files.faults b.files.faults (step_stays m b (aborts_kept m b undoes.aborts)) in
    let middle : RoseBy told r.opened.files.faults m.files.faults = refusal_rose order dump why r.number r.channel r.opened m r.refuses in
    let opening : Opening Good r.number r.opened = opening_all Good order dump r.number a r.opened r.opens (opening_first Good a idle tells left) in
    let opens : Opens Good (specs_in a.slots) order.run r.number a.files.seen r.opened = opens_all Good order dump r.number a r.opened r.opens idle (opening_first Good a idle tells left) in
    undone change Good Its m b undoes.aborts
    (λ rose. loose (rose_within told 1 (told + 1) a.files.faults m.files.faults b.files.faults (omega arith) (rose_within 0 told told a.files.faults r.opened.files.faults m.files.faults (omega arith) early middle) rose))
    (undo_refused Good Its order dump why r.number a.files.seen r.channel (specs_in a.slots) r.opened m r.there r.refuses
    (λ rose. loose (rose_within 0 (told + 1) (told + 1) a.files.faults r.opened.files.faults b.files.faults (omega arith) early (rose_within (told + 1) 0 (told + 1) r.opened.files.faults m.files.faults b.files.faults (omega arith) rose late))) gives opening opens)

begins_undone : AbortsChange → (Good : List ℕ → Option Stored → Type 0) (Its : List ℕ → Type 0) (order : Order) (dump : List ℕ) (why : Why) (begun : ℕ) (a b : LoggerMoment) → UndoesBegins order dump why begun a b → AreIdleChannels a.slots → IsTrue a.files.seen.names → AreIts Its (specs_in a.slots) order.run
    → (AreIdleChannels b.slots → RoseBy (faults_of_refusal why + 1) a.files.faults b.files.faults → IsLoose Good Its) → NamesLeft Good a.slots a.files.seen → NamesLeft Good b.slots b.files.seen
begins_undone change Good Its order dump why begun a b undoes idle tells gives where_idle left =
    let m : LoggerMoment = undoes.refused in
    let loose : RoseBy (faults_of_refusal why + 1) a.files.faults b.files.faults → IsLoose Good Its = where_idle (aborts_idle m b undoes.aborts) in
    let c = undoes.begins in
    let opened : LoggerMoment = undoes.opened in
    let first : Opening Good 0 a = opening_first Good a idle tells left in
    let opens : Opens Good (specs_in a.slots) order.run (length a.slots) a.files.seen opened = opens_all Good order dump (length a.slots) a opened undoes.opens idle first in
    let its : (name : List ℕ) → IsOpenName opened.slots name → Its name = λ name o.
    subst (λ (l : List ℕ). Its l) (opened_first Good (specs_in a.slots) order.run (length a.slots) a.files.seen opened opens name o)
    (gives o.number o.channel.spec (subst (λ (l : List (Option ChannelSpec)). slot_at l o.number ≡ Some o.channel.spec) opens.specs_are (spec_at opened.slots o.number o.channel o.there))) in
    let open_ : Undo Good Its 0 (length opened.slots) opened = undo_opened Good Its (length a.slots) opened (opening_all Good order dump (length a.slots) a opened undoes.opens first) its in
    let refused : Undo Good Its 0 (length opened.slots) m = undo_called Good Its (length opened.slots) _ begun c.begun m c.refuses.1 (undo_begins Good Its (length opened.slots) order.start begun opened c.begun c.begins open_) in
    let until : StaysOrRose a.files.faults m.files.faults =
    counts_then a.files.faults opened.files.faults m.files.faults (step_stays a opened (opens_kept order dump (length a.slots) a opened undoes.opens))
    (counts_then opened.files.faults c.begun.files.faults m.files.faults (step_stays opened c.begun (begins_kept order.start begun opened c.begun c.begins)) (step_stays c.begun m (call_kept _ begun c.begun m c.refuses.1))) in
    let untold : faults_of_refusal why ≡ 0 = ap faults_of_refusal undoes.why_is in
    undone change Good Its m b undoes.aborts
    (λ rose. loose (rose_within 0 1 (faults_of_refusal why + 1) a.files.faults m.files.faults b.files.faults (omega (arith, untold)) (by_none a.files.faults m.files.faults until) rose)) (same_many Good Its (length opened.slots) m refused)

-- what a start tells of faults
abbrev result_faults : Result ⊤ Why → ℕ
result_faults (Ok done) = 0
result_faults (Err why) = faults_of_refusal why

starts_left : AbortsChange → (Good : List ℕ → Option Stored → Type 0) (Its : List ℕ → Type 0) (result : Result ⊤ Why) (order : Order) (dump : List ℕ) (begun : ℕ) (a b : LoggerMoment) → StartsSo result order dump begun a b → AreIdleChannels a.slots → IsTrue a.files.seen.names → ((why : Why) → result ≡ Err why → AreIts Its (specs_in a.slots) order.run)
    → (AreIdleChannels b.slots → RoseBy (result_faults result + 1) a.files.faults b.files.faults → IsLoose Good Its) → NamesLeft Good a.slots a.files.seen → NamesLeft Good b.slots b.files.seen
starts_left change Good Its (Ok done) order dump begun a b starts idle tells gives loose left =
    let opened : LoggerMoment = starts.opened in
    let any : List ℕ → Type 0 = λ name. ⊤ in
    undo_left Good any (length opened.slots) b (undo_begins Good any (length opened.slots) order.start (length a.ports) opened b starts.begins
    (undo_opened Good any (length a.slots) opened (opening_all Good order dump (length a.slots) a opened starts.opens (opening_first Good a idle tells left)) (λ name o. tt)))
starts_left change Good Its (Err why) order dump begun a b starts idle tells gives loose left = elim starts as (λ w. NamesLeft Good b.slots b.files.seen) [
  | inl opens ↦ opens_undone change Good Its order dump why begun a b opens idle tells (gives why refl) loose left
  | inr begins ↦ begins_undone change Good Its order dump why begun a b begins idle tells (gives why refl) loose left
]

same_left : (Good : List ℕ → Option Stored → Type 0) (a b : LoggerMoment) → b ≡ a → NamesLeft Good a.slots a.files.seen → NamesLeft Good b.slots b.files.seen
same_left Good a b same left = subst (λ (m : LoggerMoment). NamesLeft Good m.slots m.files.seen) (sym same) left

-- A turn that is a start, and was refused, gives its names to the first files of its run; and so are the names that channels have open
-- where it is a start-abort. Where more faults were counted than its answer tells, what is left of these is good.
pub record Undoes (Good : List ℕ → Option Stored → Type 0) (Its : List ℕ → Type 0) (t : LoggerTurn) : Type 0 where
  pub refused : t.transition ≡ Start → (why : Why) → t.answer ≡ Some (No why) → AreIts Its (specs_in t.before.slots) t.order.run
  pub off : t.transition ≡ StartAbort → is_of_start t.run t.order.start ≡ true → (name : List ℕ) → IsOpenName t.before.slots name → Its name
  pub loose : AreIdleChannels t.after.slots → RoseBy (count_in_answer faults_of_answer t.answer + 1) t.before.files.faults t.after.files.faults → IsLoose Good Its

told_result : (result : Result ⊤ Why) → faults_of_answer (start_answer result) ≡ result_faults result
told_result (Ok done) = refl
told_result (Err why) = refl

start_left : AbortsChange → (Good : List ℕ → Option Stored → Type 0) (Its : List ℕ → Type 0) (on : Bool) (t : LoggerTurn) → t.transition ≡ Start → (on ≡ false → AreIdleChannels t.before.slots) → TakesStart on t → IsTrue t.before.files.seen.names → Undoes Good Its t → NamesLeft Good t.before.slots t.before.files.seen
    → NamesLeft Good t.after.slots t.after.files.seen
start_left change Good Its true t starts idle takes tells u left = same_left Good t.before t.after takes.moment left
start_left change Good Its false t starts idle takes tells u left =
    let told : count_in_answer faults_of_answer t.answer ≡ result_faults takes.result = ap (count_in_answer faults_of_answer) takes.answer_is ∙ told_result takes.result in
    starts_left change Good Its takes.result t.order _ takes.begun t.before t.after takes.starts (idle refl) tells
    (λ why is. u.refused starts why (takes.answer_is ∙ ap (λ (r : Result ⊤ Why). Some (start_answer r)) is))
    (subst (λ (n : ℕ). AreIdleChannels t.after.slots → RoseBy (n + 1) t.before.files.faults t.after.files.faults → IsLoose Good Its) told u.loose) left

stop_left : (Good : List ℕ → Option Stored → Type 0) (of : Bool) (t : LoggerTurn) → TakesStop of t → IsTrue t.before.files.seen.names → NamesLeft Good t.before.slots t.before.files.seen → NamesLeft Good t.after.slots t.after.files.seen
stop_left Good true t takes tells left =
    let any : List ℕ → Type 0 = λ name. ⊤ in
    undo_left Good any (length t.before.slots) t.after (undo_ends Good any (length t.before.slots) t.order.start (length t.before.ports) t.before t.after takes.ends (left_undo Good any t.before tells (λ name o. tt) left))
stop_left Good false t takes tells left = same_left Good t.before t.after takes.moment left

called_left : (Good : List ℕ → Option Stored → Type 0) (entry : _) (buffer : ℕ) (a b : LoggerMoment) → CallsBuffer entry buffer a b → NamesLeft Good a.slots a.files.seen → NamesLeft Good b.slots b.files.seen
called_left Good entry buffer a b calls left = subst (λ (l : List (Option Channel)). NamesLeft Good l b.files.seen) (sym calls.slots) (subst (λ (f : FilesTold). NamesLeft Good a.slots f.seen) (sym calls.files) left)

pause_left : (Good : List ℕ → Option Stored → Type 0) (of : Bool) (t : LoggerTurn) → TakesMark PausesBuffer of t → NamesLeft Good t.before.slots t.before.files.seen → NamesLeft Good t.after.slots t.after.files.seen
pause_left Good true t takes left = turns_keep (λ k. PausesBuffer t.order.start k) (λ m. NamesLeft Good m.slots m.files.seen) (length t.before.ports) t.before t.after (λ k x y step kept. called_left Good _ k x y step.1 kept) takes.marks left
pause_left Good false t takes left = same_left Good t.before t.after takes.moment left

resume_left : (Good : List ℕ → Option Stored → Type 0) (of : Bool) (t : LoggerTurn) → TakesMark ResumesBuffer of t → NamesLeft Good t.before.slots t.before.files.seen → NamesLeft Good t.after.slots t.after.files.seen
resume_left Good true t takes left = turns_keep (λ k. ResumesBuffer t.order.start k) (λ m. NamesLeft Good m.slots m.files.seen) (length t.before.ports) t.before t.after (λ k x y step kept. called_left Good _ k x y step.1 kept) takes.marks left
resume_left Good false t takes left = same_left Good t.before t.after takes.moment left

called_off_left : AbortsChange → (Good : List ℕ → Option Stored → Type 0) (Its : List ℕ → Type 0) (of : Bool) (t : LoggerTurn) → t.transition ≡ StartAbort → is_of_start t.run t.order.start ≡ of → TakesAbort of t → IsTrue t.before.files.seen.names → Undoes Good Its t → NamesLeft Good t.before.slots t.before.files.seen
    → NamesLeft Good t.after.slots t.after.files.seen
called_off_left change Good Its true t aborts is takes tells u left =
    let a : LoggerMoment = t.before in
    let m : LoggerMoment = takes.ended in
    let ended : Undo Good Its 0 (length a.slots) m = undo_ends Good Its (length a.slots) t.order.start (buffers_begun t.run) a m takes.ends (left_undo Good Its a tells (u.off aborts is) left) in
    let untold : count_in_answer faults_of_answer t.answer ≡ 0 = ap (count_in_answer faults_of_answer) takes.answer_is in
    undone change Good Its m t.after takes.aborts
    (λ rose. u.loose (aborts_idle m t.after takes.aborts) (rose_within 0 1 (count_in_answer faults_of_answer t.answer + 1) a.files.faults m.files.faults t.after.files.faults (omega (arith, untold)) (by_none a.files.faults m.files.faults (step_stays a m (ends_kept t.order.start (buffers_begun t.run) a m takes.ends))) rose))
    (same_many Good Its (length a.slots) m ended)
called_off_left change Good Its false t aborts is takes tells u left = same_left Good t.before t.after takes.moment left

turn_by : AbortsChange → (Good : List ℕ → Option Stored → Type 0) (Its : List ℕ → Type 0) (transition : Transition) (t : LoggerTurn) → t.transition ≡ transition → IsIdleOutside t.run t.before.slots → TakesTurnBy transition t → IsTrue t.before.files.seen.names → Undoes Good Its t → NamesLeft Good t.before.slots t.before.files.seen
    → NamesLeft Good t.after.slots t.after.files.seen
turn_by change Good Its Start t is idle takes tells u left = start_left change Good Its (is_run_on t.run) t is idle takes tells u left
turn_by change Good Its Stop t is idle takes tells u left = stop_left Good (is_started t.run t.order.start) t takes tells left
turn_by change Good Its Pause t is idle takes tells u left = pause_left Good (is_started t.run t.order.start) t takes left
turn_by change Good Its Resume t is idle takes tells u left = resume_left Good (is_started t.run t.order.start) t takes left
turn_by change Good Its StartAbort t is idle takes tells u left = called_off_left change Good Its (is_of_start t.run t.order.start) t is refl takes tells u left

-- A turn leaves the names that are good so.
pub turn_left : AbortsChange → (Good : List ℕ → Option Stored → Type 0) (Its : List ℕ → Type 0) (t : LoggerTurn) → TakesTurn t → IsIdleOutside t.run t.before.slots → IsTrue t.before.files.seen.names → Undoes Good Its t → NamesLeft Good t.before.slots t.before.files.seen → NamesLeft Good t.after.slots t.after.files.seen
turn_left change Good Its t takes idle tells u left = turn_by change Good Its t.transition t refl idle takes tells u left

-- A pull.

-- a channel has the names open that it had, behind a pull
pulled_open : (before after : Channel) (old : Seen) (name : List ℕ) → after.spec ≡ before.spec → KeepsRun old before.stage after.stage → HasOpen before name → HasOpen after name
pulled_open before after old name spec keeps has =
    let was = same_run (channel_run before.stage) (channel_run after.stage) (sym keeps.run) has.opened has.of in
    let more : files_made before.stage ≤ files_made after.stage = keeps.made in
    let made = has.made in
    record {
      opened = was.0;
      of = was.1;
      sub = has.sub;
      made = omega (arith, more, made);
      is = ap (λ (x : ChannelSpec). piece_name_by x.pattern was.0.run has.sub) spec ∙ (ap (λ (r : ChannelRun). piece_name_by before.spec.pattern r.run has.sub) (sym was.2) ∙ has.is);
    }

module _ (Good : List ℕ → Option Stored → Type 0) (number : ℕ) (before after : Channel) (a : LoggerMoment) (new : Seen) (spec : after.spec ≡ before.spec) (there : slot_at a.slots number ≡ Some before) (tells : IsTrue a.files.seen.names) (left : NamesLeft Good a.slots a.files.seen)
    (keeps : KeepsRun a.files.seen before.stage after.stage) where
  abbrev slots : List (Option Channel)
  slots = slice_set a.slots number (Some after)

  abbrev Changes : Option ChannelRun → Type 0
  Changes run = ChangesRun before.spec run (written_run before.stage) (files_made before.stage) (files_made after.stage) a.files.seen new

  mine_open : (name : List ℕ) → HasOpen after name → IsOpenName slots name
  mine_open name has = open_at slots number after name (put_there a.slots number before after there) has

  still : (name : List ℕ) → IsOpenName a.slots name → IsOpenName slots name
  still name o = elim (same_or_other o.number number) as (λ w. IsOpenName slots name) [
    | inl same ↦
        let at_n : slot_at a.slots number ≡ Some o.channel = subst (λ (i : ℕ). slot_at a.slots i ≡ Some o.channel) same o.there in
        let is : o.channel ≡ before = cc (at_n, there) in
        mine_open name (pulled_open before after a.files.seen name spec keeps (subst (λ (c : Channel). HasOpen c name) is (has_open a.slots name o)))
    | inr other ↦ open_at slots o.number o.channel name (slot_set_other a.slots number o.number (Some after) other ∙ o.there) (has_open a.slots name o)
  ]

  -- one of the files that the run has now
  now_open : (opened : ChannelRun) → channel_run before.stage ≡ Some opened → (name : List ℕ) → IsOneOf (piece_name_by before.spec.pattern opened.run) (files_made after.stage) name → HasOpen after name
  now_open opened is name one =
      let later = same_run (channel_run before.stage) (channel_run after.stage) (sym keeps.run) opened is in
      record {
        opened = later.0;
        of = later.1;
        sub = one.place;
        made = one.below;
        is = ap (λ (x : ChannelSpec). piece_name_by x.pattern later.0.run one.place) spec ∙ (ap (λ (r : ChannelRun). piece_name_by before.spec.pattern r.run one.place) (sym later.2) ∙ sym one.is);
      }

  one_name : (run : Option ChannelRun) → channel_run before.stage ≡ run → Changes run → (name : List ℕ) → Good name (a.files.seen.at name) ⊎ IsOpenName a.slots name → Good name (new.at name) ⊎ IsOpenName slots name
  one_name run is changes name (inr o) = inr (still name o)
  one_name None is changes name (inl old) = inl (subst (λ (x : Seen). Good name (x.at name)) (sym changes) old)
  one_name (Some opened) is changes name (inl old) = elim (one_or_none (piece_name_by before.spec.pattern opened.run) (files_made after.stage) name) as (λ w. Good name (new.at name) ⊎ IsOpenName slots name) [
    | inl one ↦ inr (mine_open name (now_open opened is name one))
    | inr none ↦ inl (subst (λ (x : Option Stored). Good name x) (sym (changes.others name none)) old)
  ]

  -- where there was no file of the name
  was_free : (name : List ℕ) → a.files.seen.at name ≡ None → Good name None
  was_free name none = elim (left.each name) as (λ w. Good name None) [
    | inl good ↦ subst (λ (x : Option Stored). Good name x) none good
    | inr o ↦ left.fresh name o
  ]

  -- a name that the channel has open behind the pull had no file, or was open before
  free_name : (run : Option ChannelRun) → channel_run before.stage ≡ run → Changes run → (name : List ℕ) → HasOpen after name → Good name None
  free_name None is changes name mine = (let was = same_run (channel_run after.stage) (channel_run before.stage) keeps.run mine.opened mine.of in absurd (let of = was.1 in cc (is, of)))
  free_name (Some opened) is changes name mine =
      let was = same_run (channel_run after.stage) (channel_run before.stage) keeps.run mine.opened mine.of in
      let its_run : was.0 ≡ opened = (let of = was.1 in cc (is, of)) in
      let files : any_file mine.opened ≡ any_file opened = subst (λ (r : ChannelRun). any_file mine.opened ≡ any_file r) its_run was.2 in
      let name_is : piece_name_by before.spec.pattern opened.run mine.sub ≡ name =
      ap (λ (x : ChannelSpec). piece_name_by x.pattern opened.run mine.sub) (sym spec) ∙ (ap (λ (r : ChannelRun). piece_name_by after.spec.pattern r.run mine.sub) (sym files) ∙ mine.is) in
      elim (below_or_not mine.sub (files_made before.stage)) as (λ w. Good name None) [
        | inl early ↦ left.fresh name (open_at a.slots number before name there (record { opened = opened; of = is; sub = mine.sub; made = early; is = name_is }))
        | inr late ↦ was_free name (subst (λ (l : List ℕ). a.files.seen.at l ≡ None) name_is (changes.fresh mine.sub late mine.made tells))
      ]

  pulled_left : Changes (channel_run before.stage) → NamesLeft Good slots new
  pulled_left changes = record {
    each = λ name. one_name (channel_run before.stage) refl changes name (left.each name);
    fresh = λ name open_. elim (set_open a.slots number before after name there open_) as (λ w. Good name None) [
      | inl mine ↦ free_name (channel_run before.stage) refl changes name mine
      | inr old ↦ left.fresh name old
    ];
  }

pull_step : PullsChange → (Good : List ℕ → Option Stored → Type 0) (dump : List ℕ) (number : ℕ) (answer : Pulled) (before : Channel) (a b : LoggerMoment) → slot_at a.slots number ≡ Some before → HaveFilesOpen a.slots a.files.seen → IsTrue a.files.seen.names → StepsChannel (PullsChannel dump answer) number before a b
    → NamesLeft Good a.slots a.files.seen → NamesLeft Good b.slots b.files.seen
pull_step change Good dump number answer before a b there open_files tells s left =
    let changes = change _ before.event.room s.step.pulls (open_files.files number before there) in
    subst (λ (l : List (Option Channel)). NamesLeft Good l b.files.seen) (sym s.slots) (pulled_left Good number before s.after a b.files.seen s.step.spec there tells left changes.1 changes.0)

pull_by : PullsChange → (Good : List ℕ → Option Stored → Type 0) (dump : List ℕ) (number : ℕ) (answer : Pulled) (slot : Option Channel) (a b : LoggerMoment) → slot_at a.slots number ≡ slot → HaveFilesOpen a.slots a.files.seen → IsTrue a.files.seen.names → PullsSlot dump slot number answer a b
    → NamesLeft Good a.slots a.files.seen → NamesLeft Good b.slots b.files.seen
pull_by change Good dump number answer None a b there open_files tells pulls left = same_left Good a b pulls.1 left
pull_by change Good dump number answer (Some before) a b there open_files tells s left = pull_step change Good dump number answer before a b there open_files tells s left

pub pull_left : PullsChange → (Good : List ℕ → Option Stored → Type 0) (dump : List ℕ) (number : ℕ) (answer : Pulled) (a b : LoggerMoment) → PullsNumbered dump number answer a b → HaveFilesOpen a.slots a.files.seen → IsTrue a.files.seen.names → NamesLeft Good a.slots a.files.seen
    → NamesLeft Good b.slots b.files.seen
pull_left change Good dump number answer a b pulls open_files tells left = pull_by change Good dump number answer (slot_at a.slots number) a b refl open_files tells pulls left

-- A call to finish.

-- while files are ended, all names are good, and whatever becomes of an open one is
record Ending (Good : List ℕ → Option Stored → Type 0) (m : EndingMoment) : Type 0 where
  each : (name : List ℕ) → Good name (m.files.seen.at name)
  any : (name : List ℕ) → IsOpenName m.slots name → (x : Option Stored) → Good name x
  files : HaveFilesOpen m.slots m.files.seen

settled_open : (before after : Channel) (name : List ℕ) → after.spec ≡ before.spec → after.stage ≡ stage_settled before.stage → HasOpen after name → HasOpen before name
settled_open before after name spec stage has =
    let fewer : files_made after.stage ≤ files_made before.stage = subst (λ (x : ChannelStage). files_made x ≤ files_made before.stage) (sym stage) (settled_made before.stage) in
    let made = has.made in
    record {
      opened = has.opened;
      of = settled_run before.stage has.opened (sym (ap channel_run stage) ∙ has.of);
      sub = has.sub;
      made = omega (arith, fewer, made);
      is = ap (λ (x : ChannelSpec). piece_name_by x.pattern has.opened.run has.sub) (sym spec) ∙ has.is;
    }

ending_slot : ClosesChange → (Good : List ℕ → Option Stored → Type 0) (time : ℕ) (dump : Option (List ℕ)) (n : ℕ) (slot : Option Channel) (a b : EndingMoment) → slot_at a.slots n ≡ slot → EndsSlot time dump n slot a b → Ending Good a → Ending Good b
ending_slot change Good time dump n None a b there same g = subst (λ (m : EndingMoment). Ending Good m) (sym same) g
ending_slot change Good time dump n (Some before) a b there ends g =
    let stage : ends.after.stage ≡ stage_settled before.stage = ap (λ (c : Channel). c.stage) ends.ends.channel in
    let spec : ends.after.spec ≡ before.spec = ap (λ (c : Channel). c.spec) ends.ends.channel in
    let changes = change before.spec before.stage ends.told.state time dump a.files.seen b.files.seen a.files.faults b.files.faults ends.ends.ends (g.files.files n before there) in
    let slots : List (Option Channel) = slice_set a.slots n (Some ends.after) in
    let files : HaveFilesOpen slots b.files.seen = ended_files change time dump ends.told a.slots n before ends.after a.files b.files there ends.ends g.files in
    let now : Ending Good (record b { slots = slots }) = record {
      each = λ name. one_name (channel_run before.stage) refl changes name;
      any = λ name open_ x. elim (set_open a.slots n before ends.after name there open_) as (λ w. Good name x) [
        | inl mine ↦ g.any name (open_at a.slots n before name there (settled_open before ends.after name spec stage mine)) x
        | inr old ↦ g.any name old x
      ];
      files = files;
    } in
    subst (λ (l : List (Option Channel)). Ending Good (record b { slots = l })) (sym ends.slots) now
  where
    one_name : (run : Option ChannelRun) → channel_run before.stage ≡ run → ChangesRun before.spec run (written_run before.stage) (files_made before.stage) (files_made before.stage) a.files.seen b.files.seen → (name : List ℕ) → Good name (b.files.seen.at name)
    one_name None is changes name = subst (λ (x : Seen). Good name (x.at name)) (sym changes) (g.each name)
    one_name (Some opened) is changes name = elim (one_or_none (piece_name_by before.spec.pattern opened.run) (files_made before.stage) name) as (λ w. Good name (b.files.seen.at name)) [
      | inl one ↦ g.any name (open_at a.slots n before name there (record { opened = opened; of = is; sub = one.place; made = one.below; is = sym one.is })) (b.files.seen.at name)
      | inr none ↦ subst (λ (x : Option Stored). Good name x) (sym (changes.others name none)) (g.each name)
    ]

pub ends_left : ClosesChange → (Good : List ℕ → Option Stored → Type 0) (f : LoggerFinish) (time : ℕ) → EndsFiles f time → HaveFilesOpen f.slots f.files.seen → ((name : List ℕ) → IsOpenName f.slots name → (x : Option Stored) → Good name x) → NamesLeft Good f.slots f.files.seen
    → NamesLeft Good f.later_slots f.later_files.seen
ends_left change Good f time ends open_files any left =
    let first : EndingMoment = ending_of f.slots f.files ends_idle in
    let last : EndingMoment = ending_of f.later_slots f.later_files ends.told in
    let before : Ending Good first = record {
      each = λ name. elim (left.each name) as (λ w. Good name (f.files.seen.at name)) [
        | inl good ↦ good
        | inr o ↦ any name o (f.files.seen.at name)
      ];
      any = any;
      files = open_files;
    } in
    let behind : Ending Good last = turns_keep (λ k. EndsSlotAt time f.dumps.stop k) (Ending Good) (length f.slots) first last (λ k x y step g. ending_slot change Good time f.dumps.stop k (slot_at x.slots k) x y refl step g) ends.ends before in
    record { each = λ name. inl (behind.each name); fresh = λ name open_. behind.any name open_ None }
