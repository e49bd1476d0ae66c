-- How what was gathered and printed makes the end of a tool that reads several files.
use Rattle.std.proofs.Common.{◌≡◌, ◌≢◌, ◌∙◌, ℕ, ◌+◌, ◌<◌, List, [], ◌∷◌, length, take, drop, get_or, Option, Bool, nat_lt, inl, inr, refl, ap, sym, subst, arith}
use Rattle.std.specs.Prelude.{IsTrue, IsSome, false, unwrap_or, ⊤}
use Rattle.std.proofs.lemmas.List.Elements.{All-nil}
use Rattle.daq_types.specs.Names.{is_compressed}
use Rattle.daq_types.specs.declared.events.Event.{Event}
use Rattle.daq_io.specs.Seen.{Seen}
use Rattle.midas_tools.specs.Texts.{bad_file_line}
use Rattle.midas_tools.specs.Together.{AreSoundTogether, EndsBy, FindsTogether, FindsWrong, IsFirstWrong, OfFirst, TellsRun, WritesTogether}
use Rattle.midas_tools.specs.Findings.{CallCounts, ClashCounts, ComesTo, FilesByEnd, Printed, SinkByEnd, WritesAll}
use Rattle.midas_tools.specs.Gathering.{GathersAll, GathersTo, LooksFor, SaysStop, TellsEnd}
use Rattle.midas_tools.specs.declared.extents.Extent.{Extent}
use Rattle.midas_tools.specs.declared.ends.InputFault.{InputFault}
use Rattle.midas_tools.specs.declared.ends.InputFault.TheVariants.{Mid, Compressed, Missing, ScriptTooLong, OtherRun}
use Rattle.midas_tools.specs.declared.ends.ToolEnd.{ToolEnd}
use Rattle.midas_tools.specs.declared.ends.ToolEnd.TheVariants.{Done, Input, FileFault, SinkFault, NoMemory}
use Rattle.midas_tools.proofs.Pieces.{finds_none}
use Rattle.midas_tools.proofs.OneWrong.{first_one}
use Rattle.midas_tools.proofs.Gathered.{first_all, holds_run, no_run, split_at}

-- What was written

module _ (Text : ℕ → List Event → ℕ → List ℕ) (seen : Seen) (names : List (List ℕ)) (told_old told_new : Option (List ℕ)) (sink_old sink_new : ℕ) where
  abbrev Writes : ToolEnd → Type 0
  Writes end = WritesTogether Text seen names told_old told_new end

  printed : (text : List ℕ) (end result : ToolEnd) → FindsTogether Text seen names text end → (WritesAll (FindsTogether Text seen names) told_old told_new end → WritesTogether Text seen names told_old told_new end)
      → Printed text told_old told_new sink_old sink_new end result → WritesTogether Text seen names told_old told_new result
  printed text end result finds all (inl whole) = subst (λ (e : ToolEnd). Writes e) (sym whole.0) (all (record { text = text; finds = finds; written = whole.1 }))
  printed text end result finds all (inr part) = subst (λ (e : ToolEnd). Writes e) (sym part.0) (record { found = end; text = text; finds = finds; written = part.1 })

  module _ (Taken : List Event → Type 0) (extent : Extent) where
    tells_run : (g : GathersAll Taken seen names extent) (text : List ℕ) → 0 < length names → ((events : List Event) → Taken events → text ≡ Text (unwrap_or extent.run 0) events extent.bytes) → IsTrue seen.names → TellsRun Text seen names text
    tells_run g text some shows tells = record {
      holds = holds_run Taken Taken seen names extent extent g tells;
      text_is = shows g.gathered.events g.gathered.taken ∙ ap (λ (run : Option ℕ). Text (unwrap_or run 0) g.gathered.events extent.bytes) (g.run_is some)
          ∙ ap (λ (size : ℕ). Text g.run g.gathered.events size) (g.told tells).size_is;
    }

    all_there : GathersAll Taken seen names extent → 0 < length names → OfFirst names (λ name. (is_compressed name ≡ false) × (IsTrue seen.names → IsSome (seen.at name)))
    all_there g some = first_all Taken seen names extent some g

    pub writes_all : GathersAll Taken seen names extent → 0 < length names → (result : ToolEnd) → TellsEnd Text Taken extent told_old told_new sink_old sink_new result → WritesTogether Text seen names told_old told_new result
    writes_all g some result (inl t) = printed t.0 Done result (g.plain, λ tells. tells_run g t.0 some t.1 tells) (λ all. all) t.2
    writes_all g some result (inr u) = subst (λ (e : ToolEnd). Writes e) (sym u.0) (all_there g some, u.1)

    pub writes_stop : (at : ℕ) (several : Bool) (name : List ℕ) (end result : ToolEnd) → end ≢ Done → several ≡ nat_lt 1 (length names) → name ≡ get_or names at [] → GathersTo Taken seen names extent at end
        → SaysStop several name told_old told_new sink_old sink_new end result → WritesTogether Text seen names told_old told_new result
    writes_stop at several name Done result ne many is g s = absurd (ne refl)
    writes_stop at several name (Input fault) result ne many is g s =
        printed (bad_file_line several name fault) (Input fault) result (record {
          before = take at names;
          name = get_or names at [];
          behind = drop (at + 1) names;
          names_are = split_at names at g.inside;
          plain = g.plain;
          wrong = g.wrong;
          text_is = ap (λ (b : Bool). bad_file_line b name fault) many ∙ ap (λ (n : List ℕ). bad_file_line (nat_lt 1 (length names)) n fault) is;
        }) (λ all. all) s
    writes_stop at several name FileFault result ne many is g s = subst (λ (e : ToolEnd). Writes e) (sym s.0) (g, s.1)
    writes_stop at several name SinkFault result ne many is g s = absurd g
    writes_stop at several name NoMemory result ne many is g s = subst (λ (e : ToolEnd). Writes e) (sym s.0) (g, s.1)

-- Where there is no memory to read with
pub looks_to : (Taken : List Event → Type 0) (seen : Seen) (names : List (List ℕ)) (extent : Extent) (end : ToolEnd) → 0 < length names → LooksFor seen (get_or names 0 []) end → GathersTo Taken seen names extent 0 end
looks_to Taken seen [] extent end some l = absurd (omega (arith, some))
looks_to Taken seen (name ∷ names) extent Done some l = absurd l
looks_to Taken seen (name ∷ names) extent (Input (Mid f)) some l = absurd l
looks_to Taken seen (name ∷ names) extent (Input Compressed) some l =
    record { inside = some; plain = All-nil (λ (n : List ℕ). is_compressed n ≡ false); wrong = (l, λ tells. no_run seen) }
looks_to Taken seen (name ∷ names) extent (Input Missing) some l =
    record { inside = some; plain = All-nil (λ (n : List ℕ). is_compressed n ≡ false); wrong = (l.0, λ tells. (no_run seen, l.1 tells)) }
looks_to Taken seen (name ∷ names) extent (Input ScriptTooLong) some l = absurd l
looks_to Taken seen (name ∷ names) extent (Input (OtherRun file run)) some l = absurd l
looks_to Taken seen (name ∷ names) extent FileFault some l = l
looks_to Taken seen (name ∷ names) extent SinkFault some l = absurd l
looks_to Taken seen (name ∷ names) extent NoMemory some l = l

pub looks_on : (seen : Seen) (name : List ℕ) → LooksFor seen name Done → ⊥
looks_on seen name l = l

-- The counts

module _ (sink_old sink_new : ℕ) where
  abbrev BySink : ToolEnd → Type 0
  BySink end = SinkByEnd end sink_old sink_new

  printed_sink : (text : List ℕ) (told_old told_new : Option (List ℕ)) (end result : ToolEnd) → (sink_new ≡ sink_old → SinkByEnd end sink_old sink_new) → Printed text told_old told_new sink_old sink_new end result
      → SinkByEnd result sink_old sink_new
  printed_sink text told_old told_new end result calm (inl whole) = subst (λ (e : ToolEnd). BySink e) (sym whole.0) (calm whole.2)
  printed_sink text told_old told_new end result calm (inr part) = subst (λ (e : ToolEnd). BySink e) (sym part.0) part.2

  pub sink_all : (Text : ℕ → List Event → ℕ → List ℕ) (Taken : List Event → Type 0) (extent : Extent) (told_old told_new : Option (List ℕ)) (result : ToolEnd) → TellsEnd Text Taken extent told_old told_new sink_old sink_new result
      → SinkByEnd result sink_old sink_new
  sink_all Text Taken extent told_old told_new result (inl t) = printed_sink t.0 told_old told_new Done result (λ calm. calm) t.2
  sink_all Text Taken extent told_old told_new result (inr u) = subst (λ (e : ToolEnd). BySink e) (sym u.0) u.2

  pub sink_stop : (several : Bool) (name : List ℕ) (told_old told_new : Option (List ℕ)) (end result : ToolEnd) → end ≢ SinkFault → SaysStop several name told_old told_new sink_old sink_new end result → SinkByEnd result sink_old sink_new
  sink_stop several name told_old told_new Done result ne s = subst (λ (e : ToolEnd). BySink e) (sym s.0) s.2
  sink_stop several name told_old told_new (Input fault) result ne s = printed_sink (bad_file_line several name fault) told_old told_new (Input fault) result (λ calm. calm) s
  sink_stop several name told_old told_new FileFault result ne s = subst (λ (e : ToolEnd). BySink e) (sym s.0) s.2
  sink_stop several name told_old told_new SinkFault result ne s = absurd (ne refl)
  sink_stop several name told_old told_new NoMemory result ne s = subst (λ (e : ToolEnd). BySink e) (sym s.0) s.2

-- the files' count and that of clashes stay at what is written
module _ (By : ToolEnd → Type 0) (told_old told_new : Option (List ℕ)) (sink_old sink_new : ℕ) where
  printed_by : (text : List ℕ) (end result : ToolEnd) → By end → By SinkFault → Printed text told_old told_new sink_old sink_new end result → By result
  printed_by text end result by cut (inl whole) = subst By (sym whole.0) by
  printed_by text end result by cut (inr part) = subst By (sym part.0) cut

  pub by_all : (Text : ℕ → List Event → ℕ → List ℕ) (Taken : List Event → Type 0) (extent : Extent) (result : ToolEnd) → By Done → By SinkFault → By NoMemory → TellsEnd Text Taken extent told_old told_new sink_old sink_new result → By result
  by_all Text Taken extent result by cut none (inl t) = printed_by t.0 Done result by cut t.2
  by_all Text Taken extent result by cut none (inr u) = subst By (sym u.0) none

  pub by_stop : (several : Bool) (name : List ℕ) (end result : ToolEnd) → By end → ((fault : InputFault) → end ≡ Input fault → By SinkFault) → SaysStop several name told_old told_new sink_old sink_new end result → By result
  by_stop several name Done result by cut s = subst By (sym s.0) by
  by_stop several name (Input fault) result by cut s = printed_by (bad_file_line several name fault) (Input fault) result by (cut fault refl) s
  by_stop several name FileFault result by cut s = subst By (sym s.0) by
  by_stop several name SinkFault result by cut s = subst By (sym s.0) by
  by_stop several name NoMemory result by cut s = subst By (sym s.0) by

pub files_cut : (old new : ℕ) (end : ToolEnd) (fault : InputFault) → FilesByEnd end old new → end ≡ Input fault → FilesByEnd SinkFault old new
files_cut old new end fault by is = let same : new ≡ old = subst (λ (e : ToolEnd). FilesByEnd e old new) is by in omega (arith, same)

-- Causes

-- what was found, by the end that this leads to where no call failed and there was memory
abbrev pub FoundAs : Seen → (names : List (List ℕ)) → ToolEnd → Type 0
FoundAs seen names Done = IsTrue seen.names → AreSoundTogether seen names
FoundAs seen names (Input fault) = (text : List ℕ) × FindsWrong seen names fault text
FoundAs seen names FileFault = ⊤
FoundAs seen names SinkFault = ⊤
FoundAs seen names NoMemory = ⊤

module _ (seen : Seen) (names : List (List ℕ)) (counts : CallCounts) where
  completes_by : (end : ToolEnd) → FoundAs seen names end → SinkByEnd end counts.sink_old counts.sink_new → FilesByEnd end counts.files_old counts.files_new
      → ComesTo (AreSoundTogether seen names) Done counts.sink_old counts.sink_new counts.files_old counts.files_new end
  completes_by Done found s f = λ h calm_sink calm_files. inl refl
  completes_by (Input fault) found s f = λ h calm_sink calm_files. absurd (finds_none seen names fault found.0 h found.1)
  completes_by FileFault found s f = λ h calm_sink calm_files. absurd (calm_files f)
  completes_by SinkFault found s f = λ h calm_sink calm_files. absurd (calm_sink s)
  completes_by NoMemory found s f = λ h calm_sink calm_files. inr refl

  faulty_by : (fault : InputFault) (end : ToolEnd) → FoundAs seen names end → SinkByEnd end counts.sink_old counts.sink_new → FilesByEnd end counts.files_old counts.files_new
      → ComesTo (IsFirstWrong seen names fault) (Input fault) counts.sink_old counts.sink_new counts.files_old counts.files_new end
  faulty_by fault Done found s f = λ h calm_sink calm_files. absurd (finds_none seen names fault h.text (found h.tells) h.wrong)
  faulty_by fault (Input other) found s f = λ h calm_sink calm_files. inl (ap Input (first_one seen names h.tells other fault found.0 h.text found.1 h.wrong))
  faulty_by fault FileFault found s f = λ h calm_sink calm_files. absurd (calm_files f)
  faulty_by fault SinkFault found s f = λ h calm_sink calm_files. absurd (calm_sink s)
  faulty_by fault NoMemory found s f = λ h calm_sink calm_files. inr refl

  pub ends_by : (end : ToolEnd) → FoundAs seen names end → SinkByEnd end counts.sink_old counts.sink_new → FilesByEnd end counts.files_old counts.files_new
      → (length names ≡ 1 → ClashCounts end counts.clashes_old counts.clashes_new) → EndsBy end seen names counts
  ends_by end found s f c = record { sink = s; files = f; completes = completes_by end found s f; faulty = λ fault. faulty_by fault end found s f; clashes = c }

found_as : (Text : ℕ → List Event → ℕ → List ℕ) (seen : Seen) (names : List (List ℕ)) (told_old told_new : Option (List ℕ)) (end : ToolEnd) → WritesTogether Text seen names told_old told_new end → FoundAs seen names end
found_as Text seen names told_old told_new Done w = λ tells. record { plain = w.finds.0; tells = tells; holds = (w.finds.1 tells).holds }
found_as Text seen names told_old told_new (Input fault) w = (w.text, w.finds)
found_as Text seen names told_old told_new FileFault w = tt
found_as Text seen names told_old told_new SinkFault w = tt
found_as Text seen names told_old told_new NoMemory w = tt

pub ends_together : (Text : ℕ → List Event → ℕ → List ℕ) (seen : Seen) (names : List (List ℕ)) (told_old told_new : Option (List ℕ)) (counts : CallCounts) (end : ToolEnd) → WritesTogether Text seen names told_old told_new end
    → SinkByEnd end counts.sink_old counts.sink_new → FilesByEnd end counts.files_old counts.files_new → (length names ≡ 1 → ClashCounts end counts.clashes_old counts.clashes_new) → EndsBy end seen names counts
ends_together Text seen names told_old told_new counts end w s f c = ends_by seen names counts end (found_as Text seen names told_old told_new end w) s f c
