-- How a script is closed.
use Rattle.std.proofs.Common.{◌≡◌, ◌≢◌, ℕ, ◌+◌, ◌≤◌, List, [], ◌∷◌, ◌++◌, Option, Some, None, true, false, length, take, refl, ap, sym, subst, ◌∙◌, arith, inl, inr, append_assoc}
use Rattle.std.specs.Prelude.{Bool, Err, Ok, ◌⊎◌}
use Rattle.std.proofs.lemmas.List.{append-nil, take_all, take-append-le}
use Rattle.std.proofs.Math.Seq.{take-append_seam, take-append-add}
use Rattle.std.proofs.Math.Logic.{⊎_elim}
use Rattle.std.proofs.lemmas.Bool.{cases_lt}
use Rattle.std.specs.Io.KnownBytes.{Appends, Keeps}
use Rattle.daq_io.specs.Counts.{Rose}
use Rattle.daq_io.specs.Streams.{AppendsPart, LeavesOver}
use Rattle.daq_io.specs.Told.{SourceTold}
use Rattle.daq_io.proofs.StreamsLaws.{Appends-nil, Appends-trans, Appends-kept}
use Rattle.odb_script.specs.declared.commands.Command.{Command}
use Rattle.odb_script.specs.Forms.{Read}
use Rattle.console.specs.declared.endings.Ending.{Ending}
use Rattle.console.specs.declared.endings.Ending.TheVariants.{End, TooLong, SourceFault, Halted}
use Rattle.console.specs.declared.halts.Halt.{Halt}
use Rattle.console.specs.declared.halts.Halt.TheVariants.{NoMemory, SinkFault}
use Rattle.console.specs.declared.refusals.Refusals.{Refusals}
use Rattle.console.specs.declared.replies.Reply.{Reply}
use Rattle.console.specs.Console.{console_text, text_of}
use Rattle.console.proofs.ConsoleLaws.{console_text-more}
use Rattle.console.specs.Endings.{SinkByEnding}
use Rattle.console.specs.Playing.{Played, Prints, Wrote, WroteAll, WroteUpTo, WroteBut}
use Rattle.console.specs.Closing.{ClosesBy, Finished, MayFail, SinkBehind, WroteBehind, WroteMore, ended_by, prints, reply_list, script_text}
use Rattle.console.proofs.PlayingLaws.{keeps_same, wrote_whole}

-- What was written.

part_kept : (first old new : Option (List ℕ)) (text : List ℕ) → AppendsPart first old text → Keeps old new → AppendsPart first new text
part_kept first old new text part kept = record { count = part.count; appends = Appends-kept first old new (take part.count text) part.appends kept }

-- a part of a text is a part of a longer one
part_longer : (first now : Option (List ℕ)) (text more : List ℕ) → AppendsPart first now text → AppendsPart first now (text ++ more)
part_longer first now text more part = ⊎_elim
    (λ (beyond : length text ≤ part.count). record { count = length text; appends = subst (Appends first now) (take_all part.count text beyond ∙ sym (take-append_seam text more)) part.appends })
    (λ (within : part.count ≤ length text). record { count = part.count; appends = subst (Appends first now) (sym (take-append-le part.count text more within)) part.appends })
    (at_least (length text) part.count)
  where
    at_least : (m n : ℕ) → (m ≤ n) ⊎ (n ≤ m)
    at_least m n = ⊎_elim (λ less. inr (omega (arith, less))) (λ most. inl most) (cases_lt n m)

-- a text, and then a part of another
part_behind : (first old new : Option (List ℕ)) (text more : List ℕ) → Appends first old text → AppendsPart old new more → AppendsPart first new (text ++ more)
part_behind first old new text more before here = record {
  count = length text + here.count;
  appends = subst (Appends first new) (sym (take-append-add text more here.count)) (Appends-trans first old new text (take here.count more) before here.appends);
}

-- all of the lines' text, or a part
up_to : (first now : Option (List ℕ)) (replies : List Reply) → WroteUpTo first now replies → AppendsPart first now (console_text 1 replies)
up_to first now replies w =
    subst (AppendsPart first now) (sym (ap (console_text 1) w.replies_are ∙ console_text-more 1 w.before w.last))
    (part_behind first w.told now (console_text 1 w.before) (text_of (1 + length w.before) w.last) w.whole w.part)

all_but : {St : Type 0} (withdraws : ℕ → St → St → Type 0) (first now : Option (List ℕ)) (replies : List Reply) (s t : St) → WroteBut withdraws first now replies s t → AppendsPart first now (console_text 1 replies)
all_but withdraws first now replies s t w =
    subst (AppendsPart first now) (sym (ap (console_text 1) w.replies_are ∙ console_text-more 1 w.before w.last))
    (part_longer first now (console_text 1 w.before) (text_of (1 + length w.before) w.last) (wrote_whole first now (console_text 1 w.before) w.whole))

more_part : (closing : Option Halt) (first told now : Option (List ℕ)) (text : List ℕ) (behind : List Reply) → Appends first told text → WroteMore closing told now behind → AppendsPart first now (text ++ console_text 0 behind)
more_part None first told now text behind before here =
    wrote_whole first now (text ++ console_text 0 behind) (Appends-trans first told now text (console_text 0 behind) before here)
more_part (Some SinkFault) first told now text behind before here = part_behind first told now text (console_text 0 behind) before here.0
more_part (Some NoMemory) first told now text behind before here = part_longer first now text (console_text 0 behind) (wrote_whole first now text (Appends-kept first told now text before here))

pub text_part : {St : Type 0} (withdraws : ℕ → St → St → Type 0) (ending : Ending) (closing : Option Halt) (first told now : Option (List ℕ)) (replies behind : List Reply) (s t : St) → Wrote withdraws ending first told replies s t → WroteBehind ending closing told now behind
    → AppendsPart first now (script_text replies behind)
text_part withdraws End closing first told now replies behind s t lines more = more_part closing first told now (console_text 1 replies) behind lines.whole more
text_part withdraws TooLong closing first told now replies behind s t lines more = more_part closing first told now (console_text 1 replies) behind lines.whole more
text_part withdraws SourceFault closing first told now replies behind s t lines more = more_part closing first told now (console_text 1 replies) behind lines.whole more
text_part withdraws (Halted SinkFault) closing first told now replies behind s t lines more =
    part_longer first now (console_text 1 replies) (console_text 0 behind) (part_kept first told now (console_text 1 replies) (up_to first told replies lines.0) more)
text_part withdraws (Halted NoMemory) closing first told now replies behind s t lines more =
    part_longer first now (console_text 1 replies) (console_text 0 behind) (part_kept first told now (console_text 1 replies)
    (⊎_elim (λ (all : WroteAll first told replies s t). wrote_whole first told (console_text 1 replies) all.whole) (λ (but : WroteBut withdraws first told replies s t). all_but withdraws first told replies s t but) lines) more)

-- where the sink did not fail and memory was not wanting it is all
more_whole : (ending : Ending) (closing : Option Halt) (first told now : Option (List ℕ)) (replies behind : List Reply) (s t u : ℕ) → ended_by ending closing ≢ Halted NoMemory → ¬ Rose s u
    → t ≡ s → SinkBehind closing t u → ((halt : Halt) → closing ≡ Some halt → halt ≡ NoMemory → ended_by ending closing ≡ Halted NoMemory) → Appends first told (console_text 1 replies) → WroteMore closing told now behind
    → Appends first now (script_text replies behind)
more_whole ending None first told now replies behind s t u memory calm lines_sink sink wanting lines more = Appends-trans first told now (console_text 1 replies) (console_text 0 behind) lines more
more_whole ending (Some SinkFault) first told now replies behind s t u memory calm lines_sink sink wanting lines more = absurd (calm (subst (λ (n : ℕ). Rose n u) lines_sink sink))
more_whole ending (Some NoMemory) first told now replies behind s t u memory calm lines_sink sink wanting lines more = absurd (memory (wanting NoMemory refl refl))

-- so the lines ended otherwise than by a fault of the sink or for want of memory
sink_behind : (closing : Option Halt) (s t u : ℕ) → MayFail (Halted SinkFault) closing → Rose s t → SinkBehind closing t u → Rose s u
sink_behind None s t u may rose here = subst (Rose s) (sym here) rose
sink_behind (Some NoMemory) s t u may rose here = subst (Rose s) (sym here) rose
sink_behind (Some SinkFault) s t u may rose here = absurd (cc)

memory_first : (closing : Option Halt) → ended_by (Halted NoMemory) closing ≡ Halted NoMemory
memory_first None = refl
memory_first (Some halt) = refl

wants : (ending : Ending) (closing : Option Halt) (halt : Halt) → ((h : Halt) → h ≡ NoMemory → ended_by ending (Some h) ≡ Halted NoMemory) → closing ≡ Some halt → halt ≡ NoMemory → ended_by ending closing ≡ Halted NoMemory
wants ending closing halt by is memory = ap (ended_by ending) is ∙ by halt memory

pub text_whole : {St : Type 0} (withdraws : ℕ → St → St → Type 0) (ending : Ending) (closing : Option Halt) (first told now : Option (List ℕ)) (replies behind : List Reply) (s t u : ℕ) (a b : St) → MayFail ending closing → ended_by ending closing ≢ Halted NoMemory
    → ¬ Rose s u → SinkByEnding ending s t → SinkBehind closing t u → Wrote withdraws ending first told replies a b → WroteBehind ending closing told now behind → Appends first now (script_text replies behind)
text_whole withdraws End closing first told now replies behind s t u a b may memory calm lines_sink sink lines more =
    more_whole End closing first told now replies behind s t u memory calm lines_sink sink (λ halt. wants End closing halt (λ h is. ap Halted is)) lines.whole more
text_whole withdraws TooLong closing first told now replies behind s t u a b may memory calm lines_sink sink lines more =
    more_whole TooLong closing first told now replies behind s t u memory calm lines_sink sink (λ halt. wants TooLong closing halt (λ h is. ap Halted is)) lines.whole more
text_whole withdraws SourceFault closing first told now replies behind s t u a b may memory calm lines_sink sink lines more =
    more_whole SourceFault closing first told now replies behind s t u memory calm lines_sink sink (λ halt. wants SourceFault closing halt (λ h is. rw is refl)) lines.whole more
text_whole withdraws (Halted NoMemory) closing first told now replies behind s t u a b may memory calm lines_sink sink lines more = absurd (memory (memory_first closing))
text_whole withdraws (Halted SinkFault) closing first told now replies behind s t u a b may memory calm lines_sink sink lines more = absurd (calm (sink_behind closing s t u may lines_sink sink))

-- The ways to close.

nothing_more : (closing : Option Halt) (told : Option (List ℕ)) → closing ≢ Some SinkFault → WroteMore closing told told []
nothing_more None told other = Appends-nil told
nothing_more (Some SinkFault) told other = absurd (other refl)
nothing_more (Some NoMemory) told other = keeps_same told

pub nothing_behind : (ending : Ending) (closing : Option Halt) (told : Option (List ℕ)) → closing ≢ Some SinkFault → WroteBehind ending closing told told []
nothing_behind End closing told other = nothing_more closing told other
nothing_behind TooLong closing told other = nothing_more closing told other
nothing_behind SourceFault closing told other = nothing_more closing told other
nothing_behind (Halted halt) closing told other = keeps_same told

-- nothing, as nothing more may be printed;
pub silent_behind : (ending : Ending) (told : Option (List ℕ)) (reply : Reply) → prints ending ≡ false → WroteBehind ending None told told (reply ∷ [])
silent_behind End told reply silent = absurd (cc)
silent_behind TooLong told reply silent = absurd (cc)
silent_behind SourceFault told reply silent = absurd (cc)
silent_behind (Halted halt) told reply silent = keeps_same told

-- its text, or what was written of it.
behind_by : (ending : Ending) (closing : Option Halt) (told_old told_new : Option (List ℕ)) (replies : List Reply) → prints ending ≡ true → WroteMore closing told_old told_new replies → WroteBehind ending closing told_old told_new replies
behind_by End closing told_old told_new replies printing more = more
behind_by TooLong closing told_old told_new replies printing more = more
behind_by SourceFault closing told_old told_new replies printing more = more
behind_by (Halted halt) closing told_old told_new replies printing more = absurd (cc)

pub printed_behind : (ending : Ending) (told_old told_new : Option (List ℕ)) (reply : Reply) → prints ending ≡ true → Appends told_old told_new (text_of 0 reply) → WroteBehind ending None told_old told_new (reply ∷ [])
printed_behind ending told_old told_new reply printing here =
    behind_by ending None told_old told_new (reply ∷ []) printing (subst (Appends told_old told_new) (sym (append-nil (text_of 0 reply))) here)

cut_more : (halt : Halt) (told_old told_new : Option (List ℕ)) (reply : Reply) → Prints told_old told_new (text_of 0 reply) (Err halt) → WroteMore (Some halt) told_old told_new (reply ∷ [])
cut_more NoMemory told_old told_new reply here = here
cut_more SinkFault told_old told_new reply here =
    let all : text_of 0 reply ≡ console_text 0 (reply ∷ []) = sym (append-nil (text_of 0 reply)) in
    (subst (AppendsPart told_old told_new) all here.0, subst (LeavesOver told_old told_new) all here.1)

pub cut_behind : (ending : Ending) (halt : Halt) (told_old told_new : Option (List ℕ)) (reply : Reply) → prints ending ≡ true → Prints told_old told_new (text_of 0 reply) (Err halt) → WroteBehind ending (Some halt) told_old told_new (reply ∷ [])
cut_behind ending halt told_old told_new reply printing here = behind_by ending (Some halt) told_old told_new (reply ∷ []) printing (cut_more halt told_old told_new reply here)

-- the sink alone fails where anything is printed
pub may_print : (ending : Ending) (halt : Halt) → prints ending ≡ true → MayFail ending (Some halt)
may_print ending NoMemory printing = tt
may_print ending SinkFault printing = printing

module _ {St : Type 0} (does : (number : ℕ) → Read Command → St → Reply → St → Type 0) (breaks : (number : ℕ) → Read Command → St → St → Type 0)
    (withdraws : ℕ → St → St → Type 0) (closes : St → Option Reply → St → Type 0) (gives_up : St → St → Type 0) where
  -- the lines were played, and behind them this was done and written
  pub finished : (first : St) (ending : Ending) (closing : Option Halt) (source left : SourceTold) (told_first told_old told_new : Option (List ℕ)) (old new : St) (refusals : Refusals) (behind : List Reply)
      → Played does breaks withdraws first ending source left told_first told_old old refusals → ClosesBy closes gives_up closing behind old new → WroteBehind ending closing told_old told_new behind
      → Finished does breaks withdraws closes gives_up first ending closing source left told_first told_new new refusals
  finished first ending closing source left told_first told_old told_new old new refusals behind played closed wrote = record {
    lines = played.lines;
    replies = played.replies;
    between = played.behind;
    plays = played.plays;
    told_lines = told_old;
    noted = played.noted;
    wrote_lines = played.wrote;
    cut = old;
    is_cut = played.cut;
    behind = behind;
    closed = closed;
    counts = played.counts;
    are_lines = played.are_lines;
    given = played.given;
    numbered = played.numbered;
    wrote_behind = wrote;
  }
