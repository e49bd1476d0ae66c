-- A script played line by line.
use Rattle.std.proofs.Common.{◌≡◌, ℕ, ◌+◌, Bool, true, false, List, [], ◌∷◌, ◌++◌, Option, Some, None, length, take, refl, ap, sym, subst, ◌∙◌, arith, length-append}
use Rattle.std.specs.Prelude.{Ok}
use Rattle.std.proofs.lemmas.List.{take_all}
use Rattle.std.specs.Io.KnownBytes.{Appends, Keeps}
use Rattle.daq_io.specs.Streams.{AppendsPart}
use Rattle.daq_io.specs.Told.{SourceTold}
use Rattle.daq_io.proofs.StreamsLaws.{Appends-nil, Appends-trans}
use Rattle.odb_script.specs.declared.commands.Command.{Command}
use Rattle.odb_script.specs.Forms.{Read, command_of}
use Rattle.odb_script.specs.Lines.{Reading, kept, no_line_read, ReadsLine}
use Rattle.odb_script.proofs.KeptForms.{command_of-kept}
use Rattle.odb_script.specs.Exits.{GoOn, ends_script, is_exit}
use Rattle.odb_script.proofs.Exits.{GoOn-none, GoOn-more, ends_script-kept}
use Rattle.odb_script.proofs.ReadLines.{has_read_none, has_read_line}
use Rattle.console.specs.declared.going.Going.{Going}
use Rattle.console.specs.declared.going.Going.TheVariants as going
use Rattle.console.specs.declared.replies.Reply.{Reply}
use Rattle.console.specs.declared.refusals.Refusals.{Refusals}
use Rattle.console.specs.Console.{text_of, console_text}
use Rattle.console.proofs.ConsoleLaws.{console_text-more}
use Rattle.console.proofs.Refused.{counts_noted}
use Rattle.console.specs.Playing.{DoesLine, GoesBehind, IsBetween, PlaysFrom, Replied, number_behind}

-- one line more
pub plays_more : {St : Type 0} (does : ℕ → Read Command → St → Reply → St → Type 0) (number place : ℕ) (lines : List (List ℕ)) (replies : List Reply) (line : List ℕ) (reply : Reply) (old between new : St) → place ≡ number + length lines
    → PlaysFrom does number lines replies old between → does place (command_of line) between reply new → PlaysFrom does number (lines ++ line ∷ []) (replies ++ reply ∷ []) old new
plays_more {St} does number place [] [] line reply old between new is same here =
    let first : place ≡ number = omega (arith, is) in
    (new, subst (λ (n : ℕ). does n (command_of line) old reply new) first (subst (λ (s : St). does place (command_of line) s reply new) same here), refl)
plays_more does number place [] (r ∷ replies) line reply old between new is plays here = absurd plays
plays_more does number place (l ∷ lines) [] line reply old between new is plays here = absurd plays
plays_more does number place (l ∷ lines) (r ∷ replies) line reply old between new is plays here =
    (plays.0, plays.1, plays_more does (number + 1) place lines replies line reply plays.0 between new (omega (arith, is)) plays.2 here)

-- before the first line
pub between_new : {St : Type 0} (does : ℕ → Read Command → St → Reply → St → Type 0) (first : St) (source : SourceTold) (told : Option (List ℕ)) (reading : Reading) (refusals : Refusals) (number : ℕ)
    → reading ≡ no_line_read → refusals ≡ record { count = 0; first = 0 } → number ≡ 0 → IsBetween does first source source told told reading first refusals number
between_new does first source told reading refusals number unread none zero = record {
  lines = [];
  replies = [];
  plays = refl;
  counts = rw none (record { count = refl; first = refl });
  read = rw unread (has_read_none source);
  go_on = GoOn-none;
  wrote = Appends-nil told;
  is_number = sym zero;
  numbered = refl;
}

-- the text of one reply more was written
pub wrote_more : (first old new : Option (List ℕ)) (replies : List Reply) (reply : Reply) (number : ℕ) → number ≡ 1 + length replies
    → Appends first old (console_text 1 replies) → Appends old new (text_of number reply) → Appends first new (console_text 1 (replies ++ reply ∷ []))
wrote_more first old new replies reply number place before here =
    subst (Appends first new) (ap (λ (n : ℕ). console_text 1 replies ++ text_of n reply) place ∙ sym (console_text-more 1 replies reply)) (Appends-trans first old new (console_text 1 replies) (text_of number reply) before here)

-- nothing was written
pub keeps_same : (told : Option (List ℕ)) → Keeps told told
keeps_same None = tt
keeps_same (Some bytes) = refl

-- what was written whole was written in part
pub wrote_whole : (first now : Option (List ℕ)) (text : List ℕ) → Appends first now text → AppendsPart first now text
wrote_whole first now text all = record { count = length text; appends = subst (Appends first now) (sym (take_all (length text) text (omega arith))) all }

-- what the lines did with one more that was answered
pub answered_more : {St : Type 0} (does : ℕ → Read Command → St → Reply → St → Type 0) (first : St) (source_first source_old : SourceTold) (told_first told_old : Option (List ℕ)) (reading : Reading) (old new : St) (was now : Refusals) (number place : ℕ) (line : List ℕ) (reply : Reply)
    → place ≡ number + 1 → (between : IsBetween does first source_first source_old told_first told_old reading old was number) → Replied does (kept line) place reply old new was now
    → PlaysFrom does 1 (between.lines ++ line ∷ []) (between.replies ++ reply ∷ []) first new
answered_more does first source_first source_old told_first told_old reading old new was now number place line reply is between replied =
    plays_more does 1 place between.lines between.replies line reply first old new (omega (arith, is, between.is_number)) between.plays
    (subst (λ (c : Read Command). does place c old reply new) (command_of-kept line) replied.answers)

-- one line more
pub between_more : {St : Type 0} (does : ℕ → Read Command → St → Reply → St → Type 0) (first : St) (source_first source_old source_new : SourceTold) (told_first told_old told_new : Option (List ℕ)) (reading_old reading_new : Reading) (old new : St) (was now : Refusals) (number place : ℕ) (line : List ℕ) (reply : Reply)
    → place ≡ number + 1 → IsBetween does first source_first source_old told_first told_old reading_old old was number → ReadsLine reading_old reading_new source_old source_new line
    → Replied does (kept line) place reply old new was now → Appends told_old told_new (text_of place reply) → is_exit (command_of (kept line)) ≡ false
    → IsBetween does first source_first source_new told_first told_new reading_new new now place
between_more does first source_first source_old source_new told_first told_old told_new reading_old reading_new old new was now number place line reply is between reads replied here on =
    let behind : place ≡ 1 + length between.replies = omega (arith, is, between.is_number, between.numbered) in
    record {
      lines = between.lines ++ line ∷ [];
      replies = between.replies ++ reply ∷ [];
      plays = answered_more does first source_first source_old told_first told_old reading_old old new was now number place line reply is between replied;
      counts = rw (replied.is_noted, behind) (counts_noted between.replies reply was between.counts);
      read = has_read_line source_first source_old source_new reading_old reading_new between.lines line between.read reads;
      go_on = GoOn-more between.lines line between.go_on (sym (ends_script-kept line) ∙ on);
      wrote = wrote_more told_first told_old told_new between.replies reply place behind between.wrote here;
      is_number = omega (arith, is, between.is_number, length-append between.lines (line ∷ []));
      numbered = omega (arith, between.numbered, length-append between.replies (reply ∷ []), length-append between.lines (line ∷ []));
    }

-- a line was answered, and its text was
pub goes_line : {St : Type 0} (does : ℕ → Read Command → St → Reply → St → Type 0) (breaks : ℕ → Read Command → St → St → Type 0) (withdraws : ℕ → St → St → Type 0) (leaves : Read Command → Bool) (line : List ℕ) (number : ℕ) (last : Bool) (old new : St) (told_old told_new : Option (List ℕ)) (was now : Refusals) (reply : Reply) (going : Going)
    → Replied does line number reply old new was now → Appends told_old told_new (text_of number reply) → GoesBehind going last (command_of line) → DoesLine does breaks withdraws leaves line number last old new told_old told_new was now (Ok going)
goes_line does breaks withdraws leaves line number last old new told_old told_new was now reply going.On replied here on = (reply, replied, here, on)
goes_line does breaks withdraws leaves line number last old new told_old told_new was now reply going.End replied here on = (reply, replied, here, on)
goes_line does breaks withdraws leaves line number last old new told_old told_new was now reply going.Opens replied here on = absurd on

-- and it counts among those that were answered
pub number_goes : (going : Going) (last : Bool) (command : Read Command) (number : ℕ) → GoesBehind going last command → number + 1 ≡ number_behind going number
number_goes going.On last command number on = refl
number_goes going.End last command number on = refl
number_goes going.Opens last command number on = absurd on
