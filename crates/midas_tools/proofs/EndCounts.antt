-- What the end of a tool says of the counts of faults and of clashes.
use Rattle.std.proofs.Common.{◌≡◌, ◌∙◌, ℕ, ◌≤◌, List, Option, inl, inr, sym, subst, arith}
use Rattle.daq_io.specs.Counts.{Rose, RoseBy}
use Rattle.daq_io.specs.Seen.{Seen}
use Rattle.midas_tools.specs.Dumps.{DumpsTo, ReadCounts}
use Rattle.midas_tools.specs.Findings.{RefusesFile, SaysWhy, Printed, ClosesWell, ClosedAs, SinkByEnd, FilesByEnd, ClashCounts}
use Rattle.midas_tools.specs.declared.opening.Refused.{Refused}
use Rattle.midas_tools.specs.declared.opening.Refused.TheVariants.{NameCompressed, NameMissing, OpenFailed}
use Rattle.midas_tools.specs.declared.ends.InputFault.TheVariants.{Mid, Compressed, Missing, ScriptTooLong, OtherRun}
use Rattle.midas_tools.specs.declared.ends.ToolEnd.{ToolEnd}
use Rattle.midas_tools.specs.declared.ends.ToolEnd.TheVariants.{Done, Input, FileFault, SinkFault, NoMemory}

rose_later : (first old new : ℕ) → Rose first old → old ≤ new → Rose first new
rose_later first old new rose later = omega (arith, rose, later)

rose_from : (first old new : ℕ) → old ≡ first → Rose old new → Rose first new
rose_from first old new same rose = subst (λ (n : ℕ). Rose n new) same rose

-- a count that is as it was, or no less, rose by none or more
pub stays_by_none : (old new : ℕ) → new ≡ old → RoseBy 0 old new
stays_by_none old new same = omega (arith, same)

later_by_none : (first old new : ℕ) → RoseBy 0 first old → old ≤ new → RoseBy 0 first new
later_by_none first old new rose later = omega (arith, rose, later)

-- The sink's count

module _ (sink_old sink_new : ℕ) where
  by_sink : (end result : ToolEnd) → result ≡ end → SinkByEnd end sink_old sink_new → SinkByEnd result sink_old sink_new
  by_sink end result is counts = subst (λ (e : ToolEnd). SinkByEnd e sink_old sink_new) (sym is) counts

  printed_sink : (text : List ℕ) (told_old told_new : Option (List ℕ)) (end result : ToolEnd) → (sink_new ≡ sink_old → SinkByEnd end sink_old sink_new)
      → Printed text told_old told_new sink_old sink_new end result → SinkByEnd result sink_old sink_new
  printed_sink text told_old told_new end result calm (inl whole) = by_sink end result whole.0 (calm whole.2)
  printed_sink text told_old told_new end result calm (inr part) = by_sink SinkFault result part.0 part.2

  pub refused_sink : (told_old told_new : Option (List ℕ)) (refused : Refused) (result : ToolEnd) → SaysWhy refused told_old told_new sink_old sink_new result → SinkByEnd result sink_old sink_new
  refused_sink told_old told_new NameCompressed result s = printed_sink _ told_old told_new (Input Compressed) result (λ calm. calm) s
  refused_sink told_old told_new NameMissing result s = printed_sink _ told_old told_new (Input Missing) result (λ calm. calm) s
  refused_sink told_old told_new OpenFailed result s = by_sink FileFault result s.0 s.2

  module _ (files_old files_new : ℕ) where
    closed_after : (end result : ToolEnd) → sink_new ≡ sink_old → SinkByEnd end sink_old sink_new → ClosesWell files_old files_new end result → SinkByEnd result sink_old sink_new
    closed_after end result calm counts (inl well) = by_sink end result well.0 counts
    closed_after end result calm counts (inr failed) = by_sink FileFault result failed.0 calm

    pub closed_sink : (end result : ToolEnd) → SinkByEnd end sink_old sink_new → ClosedAs end files_old files_new result → SinkByEnd result sink_old sink_new
    closed_sink Done result counts c = closed_after Done result counts counts c
    closed_sink (Input fault) result counts c = closed_after (Input fault) result counts counts c
    closed_sink FileFault result counts c = by_sink FileFault result c.0 counts
    closed_sink SinkFault result counts c = by_sink SinkFault result c.0 counts
    closed_sink NoMemory result counts c = by_sink NoMemory result c.0 counts

-- The files' count, from before the file was opened

module _ (first new : ℕ) where
  by_files : (end result : ToolEnd) → result ≡ end → FilesByEnd end first new → FilesByEnd result first new
  by_files end result is counts = subst (λ (e : ToolEnd). FilesByEnd e first new) (sym is) counts

  printed_files : (text : List ℕ) (told_old told_new : Option (List ℕ)) (sink_old sink_new : ℕ) (end result : ToolEnd) → new ≡ first → (new ≡ first → FilesByEnd end first new) → Printed text told_old told_new sink_old sink_new end result → FilesByEnd result first new
  printed_files text told_old told_new sink_old sink_new end result same counts (inl whole) = by_files end result whole.0 (counts same)
  printed_files text told_old told_new sink_old sink_new end result same counts (inr part) = by_files SinkFault result part.0 (stays_by_none first new same)

  pub refused_files : (seen : Seen) (name : List ℕ) (clashes_old clashes_new : ℕ) (told_old told_new : Option (List ℕ)) (sink_old sink_new : ℕ) (refused : Refused) (result : ToolEnd)
      → RefusesFile seen name first new clashes_old clashes_new refused → SaysWhy refused told_old told_new sink_old sink_new result → FilesByEnd result first new
  refused_files seen name clashes_old clashes_new told_old told_new sink_old sink_new NameCompressed result r s = printed_files _ told_old told_new sink_old sink_new (Input Compressed) result r.1 (λ same. same) s
  refused_files seen name clashes_old clashes_new told_old told_new sink_old sink_new NameMissing result r s = printed_files _ told_old told_new sink_old sink_new (Input Missing) result r.2 (λ same. same) s
  refused_files seen name clashes_old clashes_new told_old told_new sink_old sink_new OpenFailed result r s = by_files FileFault result s.0 r.1

  module _ (old : ℕ) where
    closed_counts : (end result : ToolEnd) → old ≡ first → (new ≡ first → FilesByEnd end first new) → ClosesWell old new end result → FilesByEnd result first new
    closed_counts end result same counts (inl well) = by_files end result well.0 (counts (well.1 ∙ same))
    closed_counts end result same counts (inr failed) = by_files FileFault result failed.0 (rose_from first old new same failed.1)

    pub closed_files : (end result : ToolEnd) → ReadCounts end first old → ClosedAs end old new result → FilesByEnd result first new
    closed_files Done result s c = closed_counts Done result s (λ same. same) c
    closed_files (Input fault) result s c = closed_counts (Input fault) result s (λ same. same) c
    closed_files FileFault result s c = by_files FileFault result c.0 (rose_later first old new s c.1)
    closed_files SinkFault result s c = by_files SinkFault result c.0 (later_by_none first old new s c.1)
    closed_files NoMemory result s c = absurd s

-- The count of clashes

module _ (clashes_old clashes_new : ℕ) where
  by_clashes : (end result : ToolEnd) → result ≡ end → ClashCounts end clashes_old clashes_new → ClashCounts result clashes_old clashes_new
  by_clashes end result is counts = subst (λ (e : ToolEnd). ClashCounts e clashes_old clashes_new) (sym is) counts

  printed_clashes : (text : List ℕ) (told_old told_new : Option (List ℕ)) (sink_old sink_new : ℕ) (end result : ToolEnd) → ClashCounts end clashes_old clashes_new → Printed text told_old told_new sink_old sink_new end result
      → ClashCounts result clashes_old clashes_new
  printed_clashes text told_old told_new sink_old sink_new end result counts (inl whole) = by_clashes end result whole.0 counts
  printed_clashes text told_old told_new sink_old sink_new end result counts (inr part) = by_clashes SinkFault result part.0 tt

  pub refused_clashes : (seen : Seen) (name : List ℕ) (faults_old faults_new : ℕ) (told_old told_new : Option (List ℕ)) (sink_old sink_new : ℕ) (refused : Refused) (result : ToolEnd)
      → RefusesFile seen name faults_old faults_new clashes_old clashes_new refused → SaysWhy refused told_old told_new sink_old sink_new result → ClashCounts result clashes_old clashes_new
  refused_clashes seen name faults_old faults_new told_old told_new sink_old sink_new NameCompressed result r s = printed_clashes _ told_old told_new sink_old sink_new (Input Compressed) result tt s
  refused_clashes seen name faults_old faults_new told_old told_new sink_old sink_new NameMissing result r s = printed_clashes _ told_old told_new sink_old sink_new (Input Missing) result r.3 s
  refused_clashes seen name faults_old faults_new told_old told_new sink_old sink_new OpenFailed result r s = by_clashes FileFault result s.0 tt

  module _ (files_old files_new : ℕ) where
    closed_so : (end result : ToolEnd) → ClashCounts end clashes_old clashes_new → ClosesWell files_old files_new end result → ClashCounts result clashes_old clashes_new
    closed_so end result counts (inl well) = by_clashes end result well.0 counts
    closed_so end result counts (inr failed) = by_clashes FileFault result failed.0 tt

    pub closed_clashes : (source now told_old told_new : Option (List ℕ)) (end result : ToolEnd) → DumpsTo source now told_old told_new end → ClosedAs end files_old files_new result → ClashCounts result clashes_old clashes_new
    closed_clashes source now told_old told_new Done result d c = closed_so Done result tt c
    closed_clashes source now told_old told_new (Input (Mid fault)) result d c = closed_so (Input (Mid fault)) result tt c
    closed_clashes source now told_old told_new (Input Compressed) result d c = absurd d
    closed_clashes source now told_old told_new (Input Missing) result d c = absurd d
    closed_clashes source now told_old told_new (Input ScriptTooLong) result d c = absurd d
    closed_clashes source now told_old told_new (Input (OtherRun file run)) result d c = absurd d
    closed_clashes source now told_old told_new FileFault result d c = by_clashes FileFault result c.0 tt
    closed_clashes source now told_old told_new SinkFault result d c = by_clashes SinkFault result c.0 tt
    closed_clashes source now told_old told_new NoMemory result d c = absurd d
