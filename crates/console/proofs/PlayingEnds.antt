-- How the lines of a script end.
use Rattle.std.proofs.Common.{◌≡◌, ℕ, ◌+◌, Bool, true, false, List, [], ◌∷◌, ◌++◌, Option, Some, None, length, refl, ap, sym, subst, ◌∙◌, arith, inl, inr, length-append}
use Rattle.std.specs.Prelude.{Result, Ok, Err, ◌⊎◌}
use Rattle.std.proofs.Math.Logic.{⊎_elim}
use Rattle.std.specs.Io.KnownBytes.{Appends, Keeps}
use Rattle.daq_io.specs.Streams.{AppendsPart, LeavesOver}
use Rattle.daq_io.specs.Told.{SourceTold}
use Rattle.daq_io.proofs.StreamsLaws.{Appends-kept}
use Rattle.odb_script.specs.declared.commands.Command.{Command}
use Rattle.odb_script.specs.Forms.{Read, command_of}
use Rattle.odb_script.specs.Lines.{SourceGives, Reading, kept, ReadsLine, ReadsLast, ReadsNone, ReadsTooMuch, ReadsPart}
use Rattle.odb_script.specs.ReadLines.{HasReadLines}
use Rattle.odb_script.proofs.ReadLines.{lines_at_fault, text_within_end, text_within_last}
use Rattle.odb_script.proofs.LinesSoFar.{SourceGives-trans}
use Rattle.odb_script.proofs.Knowing.{HasReadLines-knowing, ReadsLast-knowing, ReadsLine-knowing, ReadsNone-knowing, ReadsPart-knowing, ReadsTooMuch-knowing, knowing}
use Rattle.odb_script.proofs.KeptForms.{command_of-kept}
use Rattle.odb_script.specs.Exits.{GoOn, ends_script, is_exit}
use Rattle.odb_script.proofs.Exits.{ends_script-kept, stop_at_exit, lines_first, lines_first_line, lines_first_last, lines_at_exit, lines_until_end, lines_until_last, lines_until_limit}
use Rattle.console.specs.declared.going.Going.{Going}
use Rattle.console.specs.declared.going.Going.TheVariants as going
use Rattle.console.specs.declared.halts.Halt.{Halt}
use Rattle.console.specs.declared.halts.Halt.TheVariants.{NoMemory, SinkFault}
use Rattle.console.specs.declared.endings.Ending.{Ending}
use Rattle.console.specs.declared.endings.Ending.TheVariants.{End, TooLong, SourceFault, Halted}
use Rattle.console.specs.declared.replies.Reply.{Reply}
use Rattle.console.specs.declared.refusals.Refusals.{Refusals}
use Rattle.console.specs.Console.{text_of, console_text}
use Rattle.console.proofs.Refused.{counts_noted}
use Rattle.console.specs.Reading.{ReadsNext, ReadsLineOrEnd}
use Rattle.console.specs.Playing.{AreFirst, AreLines, AreOfGiven, CutBy, DoesLine, HasLine, IsBetween, IsNext, OpensAt, Played, PlaysFrom, Replied, Unanswered, Unprinted, Wrote}
use Rattle.console.proofs.PlayingLaws.{answered_more, between_more, keeps_same, wrote_more}

-- of a line as it is kept, whether the script ends with it
stops : (line : List ℕ) → is_exit (command_of (kept line)) ≡ true → ends_script line ≡ true
stops line exit = sym (ends_script-kept line) ∙ exit

-- the line that was read, as it is kept
pub shown_next : (last : Bool) (old new : Reading) (before after : SourceTold) (line : List ℕ) → ReadsNext last old new before after line → new.line ≡ kept line
shown_next true old new before after line reads = reads.keeps
shown_next false old new before after line reads = reads.keeps

-- a line more takes a byte at least
pub taken_next : (last : Bool) (old new : Reading) (before after : SourceTold) (line : List ℕ) → ReadsNext last old new before after line → (more : ℕ) × (new.taken ≡ old.taken + (more + 1))
taken_next true old new before after [] reads = absurd (omega (arith, reads.some))
taken_next true old new before after (b ∷ bs) reads = (length bs, omega (arith, reads.taken))
taken_next false old new before after line reads = (length reads.part, omega (arith, reads.taken))

-- The lines that were read, of a text that the source told.

-- no line was read, and the lines ended so
ended_lines : (ending : Ending) (last : Bool) (first now after : SourceTold) (old new : Reading) (lines : List (List ℕ)) → HasReadLines first now old lines → GoOn lines → ReadsLineOrEnd (Some ending) last old new now after
    → (text : List ℕ) → first.left ≡ Some text → AreLines ending text after.left lines
ended_lines End last first now after old new lines read on reads text told =
    record { lines_are = lines_until_end text first now after old new lines told read on reads; ends = inr (text_within_end text first now after old new lines told read reads) }
ended_lines TooLong last first now after old new lines read on reads text told =
    let limit = lines_until_limit text first now after old new lines told read on reads in
    record { lines_are = limit.0; go_on = on; longer = limit.1 }
ended_lines SourceFault last first now after old new lines read on reads text told = record { given = lines_at_fault text first now after old new lines told read reads; go_on = on }
ended_lines (Halted halt) last first now after old new lines read on reads text told = absurd reads

-- an `exit` or the last line was read
stop_lines : (last : Bool) (first now after : SourceTold) (old new : Reading) (lines : List (List ℕ)) (line : List ℕ) → HasReadLines first now old lines → GoOn lines → ReadsNext last old new now after line
    → (is_exit (command_of (kept line)) ≡ true) ⊎ (last ≡ true) → (text : List ℕ) → first.left ≡ Some text → AreLines End text after.left (lines ++ line ∷ [])
stop_lines true first now after old new lines line read on reads stop text told = record {
  lines_are = lines_until_last text first now after old new lines line told read on reads;
  ends = inr (text_within_last text first now after old new lines line told read reads);
}
stop_lines false first now after old new lines line read on reads stop text told =
    let exit : is_exit (command_of (kept line)) ≡ true = ⊎_elim (λ (e : is_exit (command_of (kept line)) ≡ true). e) (λ (clash : false ≡ true). absurd cc) stop in
    record {
      lines_are = lines_at_exit text first now after old new lines line told read on reads (stops line exit);
      ends = inl (stop_at_exit lines line on (stops line exit));
    }

-- the lines with the one that was just read are the first of the text
first_next : (last : Bool) (first now after : SourceTold) (old new : Reading) (lines : List (List ℕ)) (line : List ℕ) → HasReadLines first now old lines → GoOn lines → ReadsNext last old new now after line
    → (text : List ℕ) → first.left ≡ Some text → AreFirst text (lines ++ line ∷ [])
first_next true first now after old new lines line read on reads text told = lines_first_last text first now after old new lines line told read on reads
first_next false first now after old new lines line read on reads text told = lines_first_line text first now after old new lines line told read on reads

-- The same of the bytes that came, which the source gave.

-- what the last step took, with that step as of a source that told it
next_known : (last : Bool) (old new : Reading) (before after : SourceTold) (line : List ℕ) → ReadsNext last old new before after line
    → (more : List ℕ) × SourceGives before after more × ReadsNext last old new (knowing more before) (knowing [] after) line
next_known true old new before after line reads = (reads.takes.more, reads.takes.gives, ReadsLast-knowing old new before after line reads)
next_known false old new before after line reads = (reads.takes.more, reads.takes.gives, ReadsLine-knowing old new before after line reads)

end_known : (ending : Ending) (last : Bool) (old new : Reading) (before after : SourceTold) → ReadsLineOrEnd (Some ending) last old new before after
    → (more : List ℕ) × SourceGives before after more × ReadsLineOrEnd (Some ending) last old new (knowing more before) (knowing [] after)
end_known End last old new before after reads = (reads.takes.more, reads.takes.gives, ReadsNone-knowing old new before after reads)
end_known TooLong last old new before after reads = (reads.takes.more, reads.takes.gives, ReadsTooMuch-knowing old new before after reads)
end_known SourceFault last old new before after reads = (reads.takes.more, reads.takes.gives, ReadsPart-knowing old new before after reads)
end_known (Halted halt) last old new before after reads = absurd reads

-- all that came up to the last step
came_with : (first now : SourceTold) (reading : Reading) (lines : List (List ℕ)) → HasReadLines first now reading lines → (more : List ℕ) → List ℕ
came_with first now reading lines read more = (read.done ++ reading.pending) ++ more

gave_with : (first now after : SourceTold) (reading : Reading) (lines : List (List ℕ)) (read : HasReadLines first now reading lines) (more : List ℕ) → SourceGives now after more
    → after.gave ≡ first.gave ++ came_with first now reading lines read more
unfolding came_with
gave_with first now after reading lines read more gives = (SourceGives-trans first now after (read.done ++ reading.pending) more read.gives gives).gave

ended_given : (ending : Ending) (last : Bool) (first now after : SourceTold) (old new : Reading) (lines : List (List ℕ)) → HasReadLines first now old lines → GoOn lines → ReadsLineOrEnd (Some ending) last old new now after
    → AreOfGiven ending first after lines
unfolding came_with
ended_given ending last first now after old new lines read on reads =
    let known = end_known ending last old new now after reads in
    let came : List ℕ = came_with first now old lines read known.0 in
    record {
      came = came;
      gave = gave_with first now after old lines read known.0 known.1;
      are = ended_lines ending last (knowing came first) (knowing known.0 now) (knowing [] after) old new lines (HasReadLines-knowing first now old lines known.0 read) on known.2 came refl;
    }

stop_given : (last : Bool) (first now after : SourceTold) (old new : Reading) (lines : List (List ℕ)) (line : List ℕ) → HasReadLines first now old lines → GoOn lines → ReadsNext last old new now after line
    → (is_exit (command_of (kept line)) ≡ true) ⊎ (last ≡ true) → AreOfGiven End first after (lines ++ line ∷ [])
unfolding came_with
stop_given last first now after old new lines line read on reads stop =
    let known = next_known last old new now after line reads in
    let came : List ℕ = came_with first now old lines read known.0 in
    record {
      came = came;
      gave = gave_with first now after old lines read known.0 known.1;
      are = stop_lines last (knowing came first) (knowing known.0 now) (knowing [] after) old new lines line (HasReadLines-knowing first now old lines known.0 read) on known.2 stop came refl;
    }

halted_given : (halt : Halt) (last : Bool) (first now after : SourceTold) (old new : Reading) (lines : List (List ℕ)) (line : List ℕ) → HasReadLines first now old lines → GoOn lines → ReadsNext last old new now after line
    → AreOfGiven (Halted halt) first after (lines ++ line ∷ [])
unfolding came_with
halted_given halt last first now after old new lines line read on reads =
    let known = next_known last old new now after line reads in
    let came : List ℕ = came_with first now old lines read known.0 in
    record {
      came = came;
      gave = gave_with first now after old lines read known.0 known.1;
      are = first_next last (knowing came first) (knowing known.0 now) (knowing [] after) old new lines line (HasReadLines-knowing first now old lines known.0 read) on known.2 came refl;
    }

-- the line that was read is not one of those that were answered
cut_given : (halt : Halt) (last : Bool) (first now after : SourceTold) (old new : Reading) (lines : List (List ℕ)) (line : List ℕ) → HasReadLines first now old lines → GoOn lines → ReadsNext last old new now after line
    → AreOfGiven (Halted halt) first after lines
unfolding came_with
cut_given halt last first now after old new lines line read on reads =
    let known = next_known last old new now after line reads in
    let came : List ℕ = came_with first now old lines read known.0 in
    record {
      came = came;
      gave = gave_with first now after old lines read known.0 known.1;
      are = lines_first came (knowing came first) (knowing known.0 now) old lines refl (HasReadLines-knowing first now old lines known.0 read) on;
    }

is_next : (last : Bool) (first now after : SourceTold) (old new : Reading) (lines : List (List ℕ)) (line : List ℕ) → HasReadLines first now old lines → GoOn lines → ReadsNext last old new now after line → IsNext first after lines line
is_next last first now after old new lines line read on reads =
    let given : AreOfGiven (Halted NoMemory) first after (lines ++ line ∷ []) = halted_given NoMemory last first now after old new lines line read on reads in
    record { of_text = first_next last first now after old new lines line read on reads; came = given.came; gave = given.gave; of_came = given.are }

module _ {St : Type 0} (does : ℕ → Read Command → St → Reply → St → Type 0) (breaks : ℕ → Read Command → St → St → Type 0) (withdraws : ℕ → St → St → Type 0) where
  -- nothing was cut off
  cut_none : (ending : Ending) (source left : SourceTold) (lines : List (List ℕ)) (s : St) → CutBy does breaks ending source left lines s s
  cut_none End source left lines s = refl
  cut_none TooLong source left lines s = refl
  cut_none SourceFault source left lines s = refl
  cut_none (Halted NoMemory) source left lines s = inl refl
  cut_none (Halted SinkFault) source left lines s = refl

  -- the lines were answered, and nothing else was done
  between_played : (ending : Ending) (first : St) (source_first source_old left : SourceTold) (told_first told_now : Option (List ℕ)) (reading : Reading) (now : St) (refusals : Refusals) (number : ℕ)
      → (between : IsBetween does first source_first source_old told_first told_now reading now refusals number) → ((text : List ℕ) → source_first.left ≡ Some text → AreLines ending text left.left between.lines) → AreOfGiven ending source_first left between.lines → Wrote withdraws ending told_first told_now between.replies now now
      → Played does breaks withdraws first ending source_first left told_first told_now now refusals
  between_played ending first source_first source_old left told_first told_now reading now refusals number between are given wrote = record {
    lines = between.lines;
    replies = between.replies;
    behind = now;
    plays = between.plays;
    noted = now;
    wrote = wrote;
    cut = cut_none ending source_first left between.lines now;
    counts = between.counts;
    are_lines = are;
    given = given;
    numbered = between.numbered;
  }

  -- where they ended without a line more, all that the others print was written
  all_written : (ending : Ending) (last : Bool) (before after : SourceTold) (told_first told_now : Option (List ℕ)) (old new : Reading) (replies : List Reply) (s : St) → ReadsLineOrEnd (Some ending) last old new before after
      → Appends told_first told_now (console_text 1 replies) → Wrote withdraws ending told_first told_now replies s s
  all_written End last before after told_first told_now old new replies s reads wrote = record { whole = wrote; stays = refl }
  all_written TooLong last before after told_first told_now old new replies s reads wrote = record { whole = wrote; stays = refl }
  all_written SourceFault last before after told_first told_now old new replies s reads wrote = record { whole = wrote; stays = refl }
  all_written (Halted halt) last before after told_first told_now old new replies s reads wrote = absurd reads

  -- no line was read, and the lines ended so
  pub ended_played : (ending : Ending) (last : Bool) (first : St) (source_first source_old source_new : SourceTold) (told_first told_now : Option (List ℕ)) (old new : Reading) (now : St) (refusals : Refusals) (number : ℕ)
      → IsBetween does first source_first source_old told_first told_now old now refusals number → ReadsLineOrEnd (Some ending) last old new source_old source_new → Played does breaks withdraws first ending source_first source_new told_first told_now now refusals
  ended_played ending last first source_first source_old source_new told_first told_now old new now refusals number between reads =
      between_played ending first source_first source_old source_new told_first told_now old now refusals number between
      (ended_lines ending last source_first source_old source_new old new between.lines between.read between.go_on reads)
      (ended_given ending last source_first source_old source_new old new between.lines between.read between.go_on reads)
      (all_written ending last source_old source_new told_first told_now old new between.replies now reads between.wrote)

  -- one line more was answered, and it was the last that was played
  behind_played : (ending : Ending) (first : St) (source_first source_old left : SourceTold) (told_first told_old told_new : Option (List ℕ)) (reading : Reading) (old mid new : St) (was now : Refusals) (number place : ℕ) (line : List ℕ) (reply : Reply)
      → place ≡ number + 1 → (between : IsBetween does first source_first source_old told_first told_old reading old was number) → Replied does (kept line) place reply old mid was now
      → ((text : List ℕ) → source_first.left ≡ Some text → AreLines ending text left.left (between.lines ++ line ∷ [])) → AreOfGiven ending source_first left (between.lines ++ line ∷ []) → Wrote withdraws ending told_first told_new (between.replies ++ reply ∷ []) mid new
      → Played does breaks withdraws first ending source_first left told_first told_new new now
  behind_played ending first source_first source_old left told_first told_old told_new reading old mid new was now number place line reply is between replied are given wrote =
      let behind : place ≡ 1 + length between.replies = omega (arith, is, between.is_number, between.numbered) in
      record {
        lines = between.lines ++ line ∷ [];
        replies = between.replies ++ reply ∷ [];
        behind = mid;
        plays = answered_more does first source_first source_old told_first told_old reading old mid was now number place line reply is between replied;
        noted = new;
        wrote = wrote;
        cut = cut_none ending source_first left (between.lines ++ line ∷ []) new;
        counts = rw (replied.is_noted, behind) (counts_noted between.replies reply was between.counts);
        are_lines = are;
        given = given;
        numbered = omega (arith, between.numbered, length-append between.replies (reply ∷ []), length-append between.lines (line ∷ []));
      }

  -- an `exit` or the last line was answered
  pub stop_played : (last : Bool) (first : St) (source_first source_old source_new : SourceTold) (told_first told_old told_new : Option (List ℕ)) (reading_old reading_new : Reading) (old new : St) (was now : Refusals) (number place : ℕ) (line : List ℕ) (reply : Reply)
      → place ≡ number + 1 → IsBetween does first source_first source_old told_first told_old reading_old old was number → ReadsNext last reading_old reading_new source_old source_new line
      → Replied does (kept line) place reply old new was now → Appends told_old told_new (text_of place reply) → (is_exit (command_of (kept line)) ≡ true) ⊎ (last ≡ true)
      → Played does breaks withdraws first End source_first source_new told_first told_new new now
  stop_played last first source_first source_old source_new told_first told_old told_new reading_old reading_new old new was now number place line reply is between reads replied here stop =
      behind_played End first source_first source_old source_new told_first told_old told_new reading_old old new new was now number place line reply is between replied
      (stop_lines last source_first source_old source_new reading_old reading_new between.lines line between.read between.go_on reads stop)
      (stop_given last source_first source_old source_new reading_old reading_new between.lines line between.read between.go_on reads stop)
      (record {
        whole = wrote_more told_first told_old told_new between.replies reply place (omega (arith, is, between.is_number, between.numbered)) between.wrote here;
        stays = refl;
      })

  -- a line was not answered
  broken_played : (last : Bool) (first : St) (source_first source_old left : SourceTold) (told_first told_old told_new : Option (List ℕ)) (reading_old reading_new : Reading) (old new : St) (was now : Refusals) (number place : ℕ) (line : List ℕ)
      → place ≡ number + 1 → IsBetween does first source_first source_old told_first told_old reading_old old was number → ReadsNext last reading_old reading_new source_old left line
      → Unanswered does breaks (kept line) place old new told_old told_new was now → Played does breaks withdraws first (Halted NoMemory) source_first left told_first told_new new now
  broken_played last first source_first source_old left told_first told_old told_new reading_old reading_new old new was now number place line is between reads unanswered = record {
    lines = between.lines;
    replies = between.replies;
    behind = old;
    plays = between.plays;
    noted = old;
    wrote = inl (record {
      whole = Appends-kept told_first told_old told_new (console_text 1 between.replies) between.wrote unanswered.kept;
      stays = refl;
    });
    cut = inr (record {
      line = line;
      next = is_next last source_first source_old left reading_old reading_new between.lines line between.read between.go_on reads;
      broke = let at : place ≡ 1 + length between.lines = omega (arith, is, between.is_number) in
          subst (λ (n : ℕ). breaks n (command_of line) old new) at (subst (λ (c : Read Command). breaks place c old new) (command_of-kept line) unanswered.broke);
    });
    counts = rw unanswered.same between.counts;
    are_lines = λ text told. lines_first text source_first source_old reading_old between.lines told between.read between.go_on;
    given = cut_given NoMemory last source_first source_old left reading_old reading_new between.lines line between.read between.go_on reads;
    numbered = between.numbered;
  }

  -- the lines could not go on
  pub halted_played : (leaves : Read Command → Bool) (halt : Halt) (last : Bool) (first : St) (source_first source_old left : SourceTold) (told_first told_old told_new : Option (List ℕ)) (reading_old reading_new : Reading) (old new : St) (was now : Refusals) (number place : ℕ) (line : List ℕ)
      → place ≡ number + 1 → IsBetween does first source_first source_old told_first told_old reading_old old was number → ReadsNext last reading_old reading_new source_old left line
      → DoesLine does breaks withdraws leaves (kept line) place last old new told_old told_new was now (Err halt) → Played does breaks withdraws first (Halted halt) source_first left told_first told_new new now
  halted_played leaves SinkFault last first source_first source_old left told_first told_old told_new reading_old reading_new old new was now number place line is between reads line_does =
      behind_played (Halted SinkFault) first source_first source_old left told_first told_old told_new reading_old old new new was now number place line line_does.0 is between line_does.1
      (first_next last source_first source_old left reading_old reading_new between.lines line between.read between.go_on reads)
      (halted_given SinkFault last source_first source_old left reading_old reading_new between.lines line between.read between.go_on reads) (
        record {
          before = between.replies;
          last = line_does.0;
          replies_are = refl;
          told = told_old;
          whole = between.wrote;
          part = let behind : place ≡ 1 + length between.replies = omega (arith, is, between.is_number, between.numbered) in
              subst (λ (n : ℕ). AppendsPart told_old told_new (text_of n line_does.0)) behind line_does.2;
          short = let behind : place ≡ 1 + length between.replies = omega (arith, is, between.is_number, between.numbered) in
              subst (λ (n : ℕ). LeavesOver told_old told_new (text_of n line_does.0)) behind line_does.3;
        },
        refl,
      )
  halted_played leaves NoMemory last first source_first source_old left told_first told_old told_new reading_old reading_new old new was now number place line is between reads line_does = ⊎_elim
      (λ (unprinted : Unprinted does breaks withdraws (kept line) place old new told_old told_new was now). behind_played (Halted NoMemory) first source_first source_old left told_first told_old told_new reading_old old unprinted.answered new was now number place line unprinted.reply is between unprinted.replied
      (first_next last source_first source_old left reading_old reading_new between.lines line between.read between.go_on reads)
      (halted_given NoMemory last source_first source_old left reading_old reading_new between.lines line between.read between.go_on reads)
      (inr (record {
        before = between.replies;
        last = unprinted.reply;
        replies_are = refl;
        whole = Appends-kept told_first told_old told_new (console_text 1 between.replies) between.wrote unprinted.kept;
        withdrew = let behind : place ≡ 1 + length between.replies = omega (arith, is, between.is_number, between.numbered) in
            subst (λ (n : ℕ). withdraws n unprinted.answered new) behind unprinted.withdrew;
      })))
      (λ (unanswered : Unanswered does breaks (kept line) place old new told_old told_new was now). broken_played last first source_first source_old left told_first told_old told_new reading_old reading_new old new was now number place line is between reads unanswered)
      line_does

  -- The line that was read was handled: what it did as things stood it does as the lines before it left them.

  stood_replied : (first : St) (source_first left : SourceTold) (told_first told_old : Option (List ℕ)) (reading : Reading) (last : Bool) (old new : St) (was now : Refusals) (number : ℕ) (reply : Reply)
      → (has : HasLine does breaks first source_first left told_first told_old reading last old was number) → Replied does reading.line (number + 1) reply old new was now → Replied does (kept has.line) (number + 1) reply has.stood new was now
  stood_replied first source_first left told_first told_old reading last old new was now number reply has replied =
      let same : command_of reading.line ≡ command_of has.line =
      ap command_of (shown_next last has.reading_old reading has.source_old left has.line has.next) ∙ command_of-kept has.line in
      record {
        answers = subst (λ (c : Read Command). does (number + 1) c has.stood reply new) (sym (command_of-kept has.line))
            (has.answers_so reply new (subst (λ (c : Read Command). does (number + 1) c old reply new) same replied.answers));
        is_noted = replied.is_noted;
      }

  stood_unanswered : (first : St) (source_first left : SourceTold) (told_first told_old told_new : Option (List ℕ)) (reading : Reading) (last : Bool) (old new : St) (was now : Refusals) (number : ℕ)
      → (has : HasLine does breaks first source_first left told_first told_old reading last old was number) → Unanswered does breaks reading.line (number + 1) old new told_old told_new was now
      → Unanswered does breaks (kept has.line) (number + 1) has.stood new told_old told_new was now
  stood_unanswered first source_first left told_first told_old told_new reading last old new was now number has unanswered =
      let same : command_of reading.line ≡ command_of has.line =
      ap command_of (shown_next last has.reading_old reading has.source_old left has.line has.next) ∙ command_of-kept has.line in
      record {
        broke = subst (λ (c : Read Command). breaks (number + 1) c has.stood new) (sym (command_of-kept has.line))
            (has.breaks_so new (subst (λ (c : Read Command). breaks (number + 1) c old new) same unanswered.broke));
        same = unanswered.same;
        kept = unanswered.kept;
      }

  -- the command of the line as it is kept
  shown_command : (first : St) (source_first left : SourceTold) (told_first told_old : Option (List ℕ)) (reading : Reading) (last : Bool) (old : St) (was : Refusals) (number : ℕ)
      → (has : HasLine does breaks first source_first left told_first told_old reading last old was number) → command_of reading.line ≡ command_of (kept has.line)
  shown_command first source_first left told_first told_old reading last old was number has =
      ap command_of (shown_next last has.reading_old reading has.source_old left has.line has.next)

  pub halted_at : (leaves : Read Command → Bool) (halt : Halt) (last : Bool) (first : St) (source_first left : SourceTold) (told_first told_old told_new : Option (List ℕ)) (reading : Reading) (old new : St) (was now : Refusals) (number : ℕ)
      → HasLine does breaks first source_first left told_first told_old reading last old was number
      → DoesLine does breaks withdraws leaves reading.line (number + 1) last old new told_old told_new was now (Err halt) → Played does breaks withdraws first (Halted halt) source_first left told_first told_new new now
  halted_at leaves SinkFault last first source_first left told_first told_old told_new reading old new was now number has line_does =
      halted_played leaves SinkFault last first source_first has.source_old left told_first told_old told_new has.reading_old reading has.stood new was now number (number + 1) has.line refl has.between has.next
      (line_does.0, stood_replied first source_first left told_first told_old reading last old new was now number line_does.0 has line_does.1, line_does.2, line_does.3)
  halted_at leaves NoMemory last first source_first left told_first told_old told_new reading old new was now number has line_does =
      halted_played leaves NoMemory last first source_first has.source_old left told_first told_old told_new has.reading_old reading has.stood new was now number (number + 1) has.line refl has.between has.next
      (⊎_elim
      (λ (unprinted : Unprinted does breaks withdraws reading.line (number + 1) old new told_old told_new was now). inl (record {
        reply = unprinted.reply;
        answered = unprinted.answered;
        replied = stood_replied first source_first left told_first told_old reading last old unprinted.answered was now number unprinted.reply has unprinted.replied;
        withdrew = unprinted.withdrew;
        kept = unprinted.kept;
      }))
      (λ (unanswered : Unanswered does breaks reading.line (number + 1) old new told_old told_new was now). inr (stood_unanswered first source_first left told_first told_old told_new reading last old new was now number has unanswered))
      line_does)

  pub stopped_at : (leaves : Read Command → Bool) (last : Bool) (first : St) (source_first left : SourceTold) (told_first told_old told_new : Option (List ℕ)) (reading : Reading) (old new : St) (was now : Refusals) (number : ℕ)
      → HasLine does breaks first source_first left told_first told_old reading last old was number
      → DoesLine does breaks withdraws leaves reading.line (number + 1) last old new told_old told_new was now (Ok going.End) → Played does breaks withdraws first End source_first left told_first told_new new now
  stopped_at leaves last first source_first left told_first told_old told_new reading old new was now number has line_does =
      stop_played last first source_first has.source_old left told_first told_old told_new has.reading_old reading has.stood new was now number (number + 1) has.line line_does.0 refl has.between has.next
      (stood_replied first source_first left told_first told_old reading last old new was now number line_does.0 has line_does.1) line_does.2
      (subst (λ (c : Read Command). (is_exit c ≡ true) ⊎ (last ≡ true)) (shown_command first source_first left told_first told_old reading last old was number has) line_does.3)

  -- it goes on behind it
  pub goes_on_at : (leaves : Read Command → Bool) (last : Bool) (first : St) (source_first left : SourceTold) (told_first told_old told_new : Option (List ℕ)) (reading : Reading) (old new : St) (was now : Refusals) (number : ℕ)
      → HasLine does breaks first source_first left told_first told_old reading last old was number
      → DoesLine does breaks withdraws leaves reading.line (number + 1) last old new told_old told_new was now (Ok going.On) → IsBetween does first source_first left told_first told_new reading new now (number + 1)
  goes_on_at leaves last first source_first left told_first told_old told_new reading old new was now number has line_does =
      between_more does first source_first has.source_old left told_first told_old told_new has.reading_old reading has.stood new was now number (number + 1) has.line line_does.0 refl has.between
      (subst (λ (b : Bool). ReadsNext b has.reading_old reading has.source_old left has.line) line_does.3.1 has.next)
      (stood_replied first source_first left told_first told_old reading last old new was now number line_does.0 has line_does.1) line_does.2
      (ap is_exit (sym (shown_command first source_first left told_first told_old reading last old was number has)) ∙ line_does.3.0)

  -- it is left to another
  pub left_at : (leaves : Read Command → Bool) (last : Bool) (first : St) (source_first left : SourceTold) (told_first told_old told_new : Option (List ℕ)) (reading : Reading) (old new : St) (was now : Refusals) (number : ℕ)
      → HasLine does breaks first source_first left told_first told_old reading last old was number
      → DoesLine does breaks withdraws leaves reading.line (number + 1) last old new told_old told_new was now (Ok going.Opens) → OpensAt does breaks leaves first source_first left told_first told_new reading last new now number
  left_at leaves last first source_first left told_first told_old told_new reading old new was now number has line_does =
      let here : OpensAt does breaks leaves first source_first left told_first told_old reading last old was number = record {
        has = has;
        left = ap leaves (sym (command_of-kept has.line)) ∙ ap leaves (sym (shown_command first source_first left told_first told_old reading last old was number has)) ∙ line_does.left;
      } in rw (line_does.stage, line_does.told, line_does.same) here

  -- the next line was read behind those that were answered
  pub line_behind : (last : Bool) (first : St) (source_first source_old source_new : SourceTold) (told_first told_now : Option (List ℕ)) (old new : Reading) (now : St) (refusals : Refusals) (number : ℕ)
      → IsBetween does first source_first source_old told_first told_now old now refusals number → ReadsLineOrEnd None last old new source_old source_new → HasLine does breaks first source_first source_new told_first told_now new last now refusals number
  line_behind last first source_first source_old source_new told_first told_now old new now refusals number between reads =
      record {
        source_old = source_old;
        reading_old = old;
        stood = now;
        between = between;
        line = reads.0;
        next = reads.1;
        answers_so = λ reply later here. here;
        breaks_so = λ later here. here;
      }

  -- So of a desk, behind which the reader, the count of lines and the refusals are these.

  pub goes_next : (leaves : Read Command → Bool) (last last_new : Bool) (first : St) (source_first source_old source_new : SourceTold) (told_first told_old told_new : Option (List ℕ)) (reading_old reading_mid reading_new : Reading) (old new : St) (was mid now : Refusals) (number_old number_mid number_new : ℕ)
      → HasLine does breaks first source_first source_old told_first told_old reading_old last old was number_old
      → DoesLine does breaks withdraws leaves reading_old.line (number_old + 1) last old new told_old told_new was mid (Ok going.On) → reading_mid ≡ reading_old → number_mid ≡ number_old + 1
      → ReadsLineOrEnd None last_new reading_mid reading_new source_old source_new → number_new ≡ number_mid → now ≡ mid
      → HasLine does breaks first source_first source_new told_first told_new reading_new last_new new now number_new
  goes_next leaves last last_new first source_first source_old source_new told_first told_old told_new reading_old reading_mid reading_new old new was mid now number_old number_mid number_new has line_does same_reading is_mid reads is_number is_refusals =
      let between : IsBetween does first source_first source_old told_first told_new reading_old new mid (number_old + 1) =
      goes_on_at leaves last first source_first source_old told_first told_old told_new reading_old old new was mid number_old has line_does in
      let moved : IsBetween does first source_first source_old told_first told_new reading_mid new now number_new = rw (same_reading, is_refusals, is_number, is_mid) between in
      line_behind last_new first source_first source_old source_new told_first told_new reading_mid reading_new new now number_new moved reads

  pub ends_next : (leaves : Read Command → Bool) (ending : Ending) (last last_new : Bool) (first : St) (source_first source_old source_new : SourceTold) (told_first told_old told_new : Option (List ℕ)) (reading_old reading_mid reading_new : Reading) (old new : St) (was mid now : Refusals) (number_old : ℕ)
      → HasLine does breaks first source_first source_old told_first told_old reading_old last old was number_old
      → DoesLine does breaks withdraws leaves reading_old.line (number_old + 1) last old new told_old told_new was mid (Ok going.On) → reading_mid ≡ reading_old
      → ReadsLineOrEnd (Some ending) last_new reading_mid reading_new source_old source_new → now ≡ mid
      → Played does breaks withdraws first ending source_first source_new told_first told_new new now
  ends_next leaves ending last last_new first source_first source_old source_new told_first told_old told_new reading_old reading_mid reading_new old new was mid now number_old has line_does same_reading reads is_refusals =
      let between : IsBetween does first source_first source_old told_first told_new reading_old new mid (number_old + 1) =
      goes_on_at leaves last first source_first source_old told_first told_old told_new reading_old old new was mid number_old has line_does in
      let moved : IsBetween does first source_first source_old told_first told_new reading_mid new now (number_old + 1) = rw (same_reading, is_refusals) between in
      ended_played ending last_new first source_first source_old source_new told_first told_new reading_mid reading_new new now (number_old + 1) moved reads

  pub left_next : (leaves : Read Command → Bool) (last last_new : Bool) (first : St) (source_first left : SourceTold) (told_first told_old told_new : Option (List ℕ)) (reading reading_new : Reading) (old new : St) (was now : Refusals) (number number_new : ℕ)
      → HasLine does breaks first source_first left told_first told_old reading last old was number
      → DoesLine does breaks withdraws leaves reading.line (number + 1) last old new told_old told_new was now (Ok going.Opens) → reading_new ≡ reading → last_new ≡ last → number_new ≡ number
      → OpensAt does breaks leaves first source_first left told_first told_new reading_new last_new new now number_new
  left_next leaves last last_new first source_first left told_first told_old told_new reading reading_new old new was now number number_new has line_does same_reading same_last same_number =
      rw (same_reading, same_last, same_number) (left_at leaves last first source_first left told_first told_old told_new reading old new was now number has line_does)

  -- the line that was read found no memory, and nothing was written of it
  pub broken_at : (first now new : St) (source left : SourceTold) (told_first told : Option (List ℕ)) (reading : Reading) (last : Bool) (refusals : Refusals) (number : ℕ)
      → (has : HasLine does breaks first source left told_first told reading last now refusals number) → breaks (number + 1) (command_of has.line) now new
      → Played does breaks withdraws first (Halted NoMemory) source left told_first told new refusals
  broken_at first now new source left told_first told reading last refusals number has broke =
      broken_played last first source has.source_old left told_first told told has.reading_old reading has.stood new refusals refusals number (number + 1) has.line refl has.between has.next
      (record {
        broke = subst (λ (c : Read Command). breaks (number + 1) c has.stood new) (sym (command_of-kept has.line)) (has.breaks_so new broke);
        same = refl;
        kept = keeps_same told;
      })
