-- Each fault and each clash of the files of the dumps that came of a line was counted.
use Rattle.daq_io.specs.Told.{FilesTold, SourceTold}
use Rattle.std.proofs.Common.{◌≡◌, ◌+◌, ℕ, List, [], ◌∷◌, Option, Some, None, refl, ap, sym, ◌∙◌, subst, arith}
use Rattle.std.proofs.Math.Logic.{⊎_elim}
use Rattle.std.specs.Prelude.{◌++◌, Bool, cond, count_by}
use Rattle.std.proofs.lemmas.List.Sums.{sum_by-append}
use Rattle.daq_io.specs.Counts.{RoseBy}
use Rattle.daq_io.proofs.Counts.{RoseBy-then}
use Rattle.odb_commands.specs.declared.dump_replies.FileReply.{FileReply}
use Rattle.odb_commands.specs.declared.dump_replies.FileReply.TheVariants as file
use Rattle.odb_commands.specs.WatchCalls.{ClashesIf, FaultsIf}
use Rattle.console.specs.DatabaseLines.{LacksEntry, TakesEntry, file_replied}
use Rattle.session_commands.specs.Stages.{SessionStage}
use Rattle.session_commands.specs.ScriptLines.{BreaksScriptLine, ClosesScript, DoesScriptLine, GivesUp, WithdrawsLine}
use Rattle.console.specs.declared.refusals.Refusals.{Refusals}
use Rattle.console.specs.declared.endings.Ending.{Ending}
use Rattle.console.specs.declared.halts.Halt.{Halt}
use Rattle.console.specs.Closing.{Finished}
use Rattle.console.proofs.KeepingLaws.{behind_keeps, plays_keep}
use Rattle.session_commands.specs.Endings.{OneReply, is_clash, is_fault}
use Rattle.session_commands.proofs.WithdrawnLaws.{withdrawn}
use Rattle.session_commands.proofs.FilesWalk.{FilesKept, KeptByCut, KeptByLine, break_kept, closed_kept, given_up_kept, line_kept}

-- a count that stayed rose by none
same_rose : (old new : ℕ) → new ≡ old → RoseBy 0 old new
same_rose old new same = omega (arith, same)

fault_counted : (came : Option FileReply) (number : ℕ) (old new : ℕ) → FaultsIf came old new → RoseBy (count_by is_fault (file_replied number came)) old new
fault_counted None number old new same = same_rose old new same
fault_counted (Some file.Done) number old new same = same_rose old new same
fault_counted (Some file.Clash) number old new same = same_rose old new same
fault_counted (Some file.TooLong) number old new same = same_rose old new same
fault_counted (Some file.Fault) number old new rose = rose

clash_counted : (came : Option FileReply) (number : ℕ) (old new : ℕ) → ClashesIf came old new → RoseBy (count_by is_clash (file_replied number came)) old new
clash_counted None number old new same = same_rose old new same
clash_counted (Some file.Done) number old new same = same_rose old new same
clash_counted (Some file.Clash) number old new rose = rose
clash_counted (Some file.TooLong) number old new same = same_rose old new same
clash_counted (Some file.Fault) number old new same = same_rose old new same

-- one line more
counted_more : (passes : ℕ × FileReply → Bool) (replies came : List (ℕ × FileReply)) (first old new : ℕ) → RoseBy (count_by passes replies) first old → RoseBy (count_by passes came) old new → RoseBy (count_by passes (replies ++ came)) first new
counted_more passes replies came first old new before rose =
    subst (λ (many : ℕ). RoseBy many first new) (sym (sum_by-append (λ (x : ℕ × FileReply). cond (passes x) 1 0) replies came))
    (RoseBy-then (count_by passes replies) (count_by passes came) first old new before rose)

-- what came of the lines so far, where the files were so at first
abbrev Counted : (first : FilesTold) → List (ℕ × FileReply) → FilesTold → Type 0
Counted first replies files = OneReply replies first files

line_counts : (first : FilesTold) → KeptByLine (Counted first)
line_counts first came number replies old new faults clashes kept = record {
  faults = counted_more is_fault replies (file_replied number came) first.faults old.faults new.faults kept.faults (fault_counted came number old.faults new.faults faults);
  clashes = counted_more is_clash replies (file_replied number came) first.clashes old.clashes new.clashes kept.clashes (clash_counted came number old.clashes new.clashes clashes);
}

cut_counts : (first : FilesTold) → KeptByCut (Counted first)
cut_counts first replies old new still same kept = record {
  faults = subst (λ (n : ℕ). RoseBy (count_by is_fault replies) first.faults n) (sym still) kept.faults;
  clashes = subst (λ (n : ℕ). RoseBy (count_by is_clash replies) first.clashes n) (sym same) kept.clashes;
}

-- what came of the last of these lines is taken out again
fewer_counted : (passes : ℕ × FileReply → Bool) (many fewer more : List (ℕ × FileReply)) (first now : ℕ) → many ≡ fewer ++ more → RoseBy (count_by passes many) first now → RoseBy (count_by passes fewer) first now
fewer_counted passes many fewer more first now are rose =
    let all : count_by passes many ≡ count_by passes fewer + count_by passes more = ap (count_by passes) are ∙ sum_by-append (λ (x : ℕ × FileReply). cond (passes x) 1 0) fewer more in
    omega (arith, rose, all)

fewer_told : (first now : FilesTold) (many fewer more : List (ℕ × FileReply)) → many ≡ fewer ++ more → Counted first many now → Counted first fewer now
fewer_told first now many fewer more are counted = record {
  faults = fewer_counted is_fault many fewer more first.faults now.faults are counted.faults;
  clashes = fewer_counted is_clash many fewer more first.clashes now.clashes are counted.clashes;
}

entry_taken : (first now : FilesTold) (number : ℕ) (old new : List (ℕ × FileReply)) → TakesEntry number old new → Counted first old now → Counted first new now
entry_taken first now number old new takes counted = ⊎_elim
    (λ (taken : (came : FileReply) × (old ≡ new ++ (number, came) ∷ [])). fewer_told first now old new ((number, taken.0) ∷ []) taken.1 counted)
    (λ (stays : LacksEntry number old × (new ≡ old)). subst (λ (came : List (ℕ × FileReply)). Counted first came now) (sym stays.1) counted)
    takes

withdraw_counts : (first : FilesTold) (number : ℕ) (old new : SessionStage) → WithdrawsLine number old new → FilesKept (Counted first) old → FilesKept (Counted first) new
withdraw_counts first number old new withdrew kept =
    subst (Counted first new.database.replies) (sym (ap (λ (s : SessionStage). s.database.files) (withdrawn number old new withdrew)))
    (entry_taken first old.database.files number old.database.replies new.database.replies withdrew.0.entry kept)

-- nothing came of no line
pub none_counted : (files : FilesTold) → OneReply [] files files
none_counted files = record { faults = same_rose files.faults files.faults refl; clashes = same_rose files.clashes files.clashes refl }

-- So it is behind a whole script, however it ended.
pub script_counted : (first final : SessionStage) (ending : Ending) (closing : Option Halt) (source left : SourceTold) (told_first told : Option (List ℕ)) (refusals : Refusals)
    → Finished DoesScriptLine BreaksScriptLine WithdrawsLine ClosesScript GivesUp first ending closing source left told_first told final refusals
    → first.database.replies ≡ [] → OneReply final.database.replies first.database.files final.database.files
script_counted first final ending closing source left told_first told refusals finished none =
    let files : FilesTold = first.database.files in
    let began : FilesKept (Counted files) first = subst (λ (came : List (ℕ × FileReply)). OneReply came files files) (sym none) (none_counted files) in
    behind_keeps DoesScriptLine BreaksScriptLine WithdrawsLine ClosesScript GivesUp (FilesKept (Counted files)) (withdraw_counts files) (break_kept (Counted files) (cut_counts files)) (closed_kept (Counted files)) (given_up_kept (Counted files))
    first final ending closing source left told_first told refusals finished
    (plays_keep DoesScriptLine BreaksScriptLine WithdrawsLine ClosesScript GivesUp (FilesKept (Counted files)) (line_kept (Counted files) (line_counts files)) 1 finished.lines finished.replies first finished.between finished.plays began)
