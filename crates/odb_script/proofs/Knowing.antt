-- What a source gave up to its last step, seen from there: as if the source had told it as what was left.
use Rattle.std.specs.Prelude.{◌≡◌, ℕ, List, [], ◌++◌, Some, refl}
use Rattle.std.proofs.Common.{sym}
use Rattle.std.proofs.lemmas.List.{append-nil}
use Rattle.daq_io.specs.Told.{SourceTold}
use Rattle.odb_script.specs.Lines.{SourceGives, Reading, ReadsLast, ReadsLine, ReadsNone, ReadsPart, ReadsTooMuch, Takes}
use Rattle.odb_script.specs.ReadLines.{HasReadLines}

-- the source, as one that tells that this is left
abbrev pub knowing : (left : List ℕ) → SourceTold → SourceTold
knowing left source = record source { left = Some left }

-- The steps up to the last.
pub HasReadLines-knowing : (first now : SourceTold) (reading : Reading) (lines : List (List ℕ)) (more : List ℕ) → (h : HasReadLines first now reading lines)
    → HasReadLines (knowing ((h.done ++ reading.pending) ++ more) first) (knowing more now) reading lines
HasReadLines-knowing first now reading lines more h = record {
  done = h.done;
  gives = record { gave = h.gives.gave; consumed = refl };
  whole = h.whole;
  lines = h.lines;
  taken = h.taken;
  within = h.within;
}

-- The last step, behind which nothing is left of what came.

Takes-knowing : (old : Reading) (before after : SourceTold) (part rest : List ℕ) → (t : Takes old before after part rest) → Takes old (knowing t.more before) (knowing [] after) part rest
Takes-knowing old before after part rest t = record {
  more = t.more;
  gives = record { gave = t.gives.gave; consumed = sym (append-nil t.more) };
  bytes = t.bytes;
  plain = t.plain;
}

pub ReadsLine-knowing : (old new : Reading) (before after : SourceTold) (line : List ℕ) → (r : ReadsLine old new before after line) → ReadsLine old new (knowing r.takes.more before) (knowing [] after) line
ReadsLine-knowing old new before after line r = record {
  part = r.part;
  takes = Takes-knowing old before after r.part _ r.takes;
  stripped = r.stripped;
  keeps = r.keeps;
  taken = r.taken;
  within = r.within;
}

pub ReadsLast-knowing : (old new : Reading) (before after : SourceTold) (line : List ℕ) → (r : ReadsLast old new before after line) → ReadsLast old new (knowing r.takes.more before) (knowing [] after) line
ReadsLast-knowing old new before after line r = record {
  takes = Takes-knowing old before after line [] r.takes;
  some = r.some;
  at_end = refl;
  none_pending = r.none_pending;
  keeps = r.keeps;
  taken = r.taken;
  within = r.within;
}

pub ReadsNone-knowing : (old new : Reading) (before after : SourceTold) → (r : ReadsNone old new before after) → ReadsNone old new (knowing r.takes.more before) (knowing [] after)
ReadsNone-knowing old new before after r = record { takes = Takes-knowing old before after [] [] r.takes; at_end = refl; none_pending = r.none_pending; taken = r.taken }

pub ReadsTooMuch-knowing : (old new : Reading) (before after : SourceTold) → (r : ReadsTooMuch old new before after) → ReadsTooMuch old new (knowing r.takes.more before) (knowing [] after)
ReadsTooMuch-knowing old new before after r = record {
  part = r.part;
  takes = Takes-knowing old before after r.part new.pending r.takes;
  more = r.more;
  taken = r.taken;
  limit = r.limit;
}

pub ReadsPart-knowing : (old new : Reading) (before after : SourceTold) → (r : ReadsPart old new before after) → ReadsPart old new (knowing r.takes.more before) (knowing [] after)
ReadsPart-knowing old new before after r = record {
  part = r.part;
  takes = Takes-knowing old before after r.part new.pending r.takes;
  none_pending = r.none_pending;
  taken = r.taken;
  within = r.within;
}
