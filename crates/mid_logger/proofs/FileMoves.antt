-- Which files and numbers change where an event is written, or a call on the files fails.
use Rattle.std.specs.Prelude.{◌≡◌, ◌≢◌, ◌⊎◌, ◌<◌, ◌≤◌, ◌+◌, ℕ, Bool, true, false, IsTrue, List, [], length, None, refl}
use Rattle.std.proofs.Common.{arith, ap, sym, subst, ◌∙◌, inl, inr}
use Rattle.daq_io.specs.declared.folder.FileState.{FileState}
use Rattle.daq_io.specs.Seen.{Seen, GoesOn, InUse, KeepsNumber, KeepsOthers, Touches, Same, Creates, LeavesFile}
use Rattle.daq_io.proofs.SeenLaws.{KeepsNumber-trans, Same-refl, Extends-name, Extends-writes, on_more, on_same, on_then}
use Rattle.sub_files.specs.declared.open_file.Fallen.{Fallen}
use Rattle.sub_files.specs.declared.open_file.OpenFile.{OpenFile}
use Rattle.sub_files.specs.declared.open_file.RunHead.{RunHead}
use Rattle.sub_files.specs.Cuts.{last_number}
use Rattle.sub_files.specs.Patterns.{piece_name_by}
use Rattle.sub_files.specs.Pieces.{Series, head_bytes, between}
use Rattle.sub_files.specs.RecordFiles.{IsGone, ClosesPart}
use Rattle.sub_files.specs.Rolls.{begins_next, counted_in, next_file, MovesOn, RollsOn, WritesNext, MakesNone, RollsNone, FailsMove, FailsNext}
use Rattle.sub_files.proofs.NextFacts.{begins_so}
use Rattle.mid_logger.specs.declared.channel_spec.ChannelSpec.{ChannelSpec}
use Rattle.mid_logger.specs.declared.stage.ChannelRun.{ChannelRun}
use Rattle.mid_logger.specs.Channels.{HasLastOpen}
use Rattle.mid_logger.specs.Pulls.{run_series}

-- Of these names the files of the first changed at most, so many as are made now. What was not made before had no file. Each number
-- that was in use for writing stays, but this one.
pub record Moved (names : ℕ → List ℕ) (first now file : ℕ) (a b : Seen) : Type 0 where
  pub told : b.names ≡ a.names
  pub on : GoesOn a b
  pub others : (name : List ℕ) → ((n : ℕ) → n < now → name ≢ names n) → b.at name ≡ a.at name
  pub fresh : (n : ℕ) → first ≤ n → n < now → IsGone a (names n)
  pub numbers : (number : ℕ) → IsTrue (a.writes number) → number ≢ file → KeepsNumber a b number

pub in_use : (s : Seen) (n : ℕ) → IsTrue (s.writes n) → InUse s n
in_use s n h = rw h refl

-- a number in use is none that was free
pub not_free : (seen : Seen) (used free : ℕ) → IsTrue (seen.writes used) → seen.writes free ≡ false → used ≢ free
not_free seen used free writes none same =
    let never : true ≡ false = sym writes ∙ (subst (λ (n : ℕ). seen.writes n ≡ false) (sym same) none) in cc (never)

pub same_moved : (names : ℕ → List ℕ) (first file : ℕ) (a b : Seen) → Same a b → Moved names first first file a b
same_moved names first file a b same = record {
  told = same.files.names;
  on = on_same same.files.done;
  others = λ name apart. same.files.at name;
  fresh = λ n least below. absurd (omega (arith, least, below));
  numbers = λ number used other. same.numbers number;
}

made_moved : (names : ℕ → List ℕ) (first now file made : ℕ) (a b : Seen) (bytes : List ℕ) → now ≡ first + 1 → Creates a b (names first) made bytes → Moved names first now file a b
made_moved names first now file made a b bytes is makes = record {
  told = makes.touches.names;
  on = on_same makes.done;
  others = λ name apart. makes.touches.others name (apart first (omega (arith, is)));
  fresh = λ n least below told. (let one : first ≡ n = omega (arith, is, least, below) in subst (λ (k : ℕ). a.at (names k) ≡ None) one (makes.fresh told));
  numbers = λ number used other. makes.others number (not_free a number made used makes.was_free.writes);
}

other_than : (a : Seen) (m file number : ℕ) → IsTrue (a.writes number) → number ≢ file → (m ≡ file) ⊎ (a.writes m ≡ false) → number ≢ m
other_than a m file number used other is_new = elim is_new as (λ w. number ≢ m) [
  | inl same ↦ λ is. other (is ∙ same)
  | inr free ↦ not_free a number m used free
]

-- one step more, on the file of this name and number
touched : (names : ℕ → List ℕ) (first now file k m : ℕ) (a b c : Seen) → Moved names first now file a b → k < now → Touches b c (names k) → GoesOn b c → KeepsOthers b c m → (m ≡ file) ⊎ (a.writes m ≡ false) → Moved names first now file a c
touched names first now file k m a b c moved below touches on others is_new = record {
  told = touches.names ∙ moved.told;
  on = on_then moved.on on;
  others = λ name apart. touches.others name (apart k below) ∙ moved.others name apart;
  fresh = moved.fresh;
  numbers = λ number used other. KeepsNumber-trans (moved.numbers number used other) (others number (other_than a m file number used other is_new));
}

-- the same by what a close tells
pub closed_moved : {state : FileState} (names : ℕ → List ℕ) (first now file k m : ℕ) (a b c : Seen) (bytes : List ℕ) → Moved names first now file a b → k < now → b.name_of m ≡ names k → LeavesFile b c m state bytes → (m ≡ file) ⊎ (a.writes m ≡ false) → Moved names first now file a c
closed_moved names first now file k m a b c bytes moved below named leaves is_new =
    touched names first now file k m a b c moved below (subst (λ (name : List ℕ). Touches b c name) named leaves.touches) (on_more _ leaves.done) leaves.others is_new

-- The file, which may be the next one, is in use under its name.
pub record ReadyAt (names : ℕ → List ℕ) (old ready : OpenFile) (a b : Seen) : Type 0 where
  pub moved : Moved names (old.sub + 1) (ready.sub + 1) old.file a b
  pub writes : IsTrue (b.writes ready.file)
  pub named : b.name_of ready.file ≡ names ready.sub
  pub is_new : (ready.file ≡ old.file) ⊎ (a.writes ready.file ≡ false)
  pub steps : (ready.sub ≡ old.sub) ⊎ ((ready.sub ≡ old.sub + 1) × (old.sub < last_number))

-- the next file was made
record BothOpen (names : ℕ → List ℕ) (old : OpenFile) (file : ℕ) (a made : Seen) : Type 0 where
  moved : Moved names (old.sub + 1) (old.sub + 2) old.file a made
  old_named : made.name_of old.file ≡ names old.sub
  apart : file ≢ old.file
  named : made.name_of file ≡ names (old.sub + 1)
  writes : IsTrue (made.writes file)
  is_new : a.writes file ≡ false

both_open : (names : ℕ → List ℕ) (old : OpenFile) (file : ℕ) (a made : Seen) (bytes : List ℕ) → IsTrue (a.writes old.file) → a.name_of old.file ≡ names old.sub → Creates a made (names (old.sub + 1)) file bytes → BothOpen names old file a made
both_open names old file a made bytes writes named makes =
    let apart : old.file ≢ file = not_free a old.file file writes makes.was_free.writes in
    record {
      moved = made_moved names (old.sub + 1) (old.sub + 2) old.file file a made bytes (omega arith) makes;
      old_named = (makes.others old.file apart).name (in_use a old.file writes) ∙ named;
      apart = λ same. apart (sym same);
      named = makes.named;
      writes = makes.writes;
      is_new = makes.was_free.writes;
    }

-- and the old one ended behind it
record OldEnded (names : ℕ → List ℕ) (old : OpenFile) (file : ℕ) (a ended : Seen) : Type 0 where
  moved : Moved names (old.sub + 1) (old.sub + 2) old.file a ended
  named : ended.name_of file ≡ names (old.sub + 1)
  writes : IsTrue (ended.writes file)
  is_new : a.writes file ≡ false

old_ended : {state : FileState} (names : ℕ → List ℕ) (old : OpenFile) (file : ℕ) (a made ended : Seen) (bytes : List ℕ) → BothOpen names old file a made → LeavesFile made ended old.file state bytes → OldEnded names old file a ended
old_ended names old file a made ended bytes both leaves = record {
  moved = closed_moved names (old.sub + 1) (old.sub + 2) old.file old.sub old.file a made ended bytes both.moved (omega arith) both.old_named leaves (inl refl);
  named = (leaves.others file both.apart).name (in_use made file both.writes) ∙ both.named;
  writes = (leaves.others file both.apart).writes ∙ both.writes;
  is_new = both.is_new;
}

rolled : (names : ℕ → List ℕ) (head : RunHead) (dump : List ℕ) (old ready : OpenFile) (a b : Seen) → IsTrue (a.writes old.file) → a.name_of old.file ≡ names old.sub → old.sub < last_number → RollsOn (names (old.sub + 1)) head dump old ready a b → ReadyAt names old ready a b
rolled names head dump old ready a b writes named left rolls =
    let both : BothOpen names old rolls.file a rolls.made = both_open names old rolls.file a rolls.made [] writes named rolls.makes in
    let ended : OldEnded names old rolls.file a rolls.rolls.ended = old_ended names old rolls.file a rolls.made rolls.rolls.ended (between head) both rolls.rolls.ends.leaves in
    let extends = rolls.rolls.begins in
    let moved : Moved names (old.sub + 1) (old.sub + 2) old.file a b =
    touched names (old.sub + 1) (old.sub + 2) old.file (old.sub + 1) rolls.file a rolls.rolls.ended b ended.moved (omega arith) (subst (λ (name : List ℕ). Touches rolls.rolls.ended b name) ended.named extends.wrote.touches) (on_same extends.wrote.done) extends.wrote.others (inr ended.is_new) in
    let two : old.sub + 2 ≡ (old.sub + 1) + 1 = omega arith in
    let now : ReadyAt names old (next_file dump old rolls.file) a b = record {
      moved = subst (λ (n : ℕ). Moved names (old.sub + 1) n old.file a b) two moved;
      writes = Extends-writes extends;
      named = Extends-name extends ∙ ended.named;
      is_new = inr ended.is_new;
      steps = inr (refl, left);
    } in
    rw rolls.rolls.ready_is now

-- the old file goes on
goes_on : (names : ℕ → List ℕ) (old : OpenFile) (taken : Bool) (a b : Seen) → IsTrue (a.writes old.file) → a.name_of old.file ≡ names old.sub → Same a b → ReadyAt names old (record old { taken = taken }) a b
goes_on names old taken a b writes named same = record {
  moved = same_moved names (old.sub + 1) old.file a b same;
  writes = (same.numbers old.file).writes ∙ writes;
  named = (same.numbers old.file).name (in_use a old.file writes) ∙ named;
  is_new = inl refl;
  steps = inl refl;
}

moves_on : (names : ℕ → List ℕ) (limit : ℕ) (head : RunHead) (dump : List ℕ) (old ready : OpenFile) (size : ℕ) (a b : Seen) (begins : Bool) → begins_next limit (head_bytes dump) old size ≡ begins → IsTrue (a.writes old.file) → a.name_of old.file ≡ names old.sub
    → MovesOn begins (names (old.sub + 1)) head dump old ready a b → ReadyAt names old ready a b
moves_on names limit head dump old ready size a b false is writes named moves = rw (moves.0, moves.1) (goes_on names old old.taken a a writes named (Same-refl a))
moves_on names limit head dump old ready size a b true is writes named moves = elim moves as (λ w. ReadyAt names old ready a b) [
  | inl taken ↦ rw taken.ready_is (goes_on names old true a b writes named taken.same)
  | inr rolls ↦ rolled names head dump old ready a b writes named (begins_so limit (head_bytes dump) old size is).number_left rolls
]

-- the event was appended
pub wrote_at : (spec : ChannelSpec) (opened : ChannelRun) (dump : List ℕ) (later : OpenFile) (event : List ℕ) (a b : Seen) → HasLastOpen a spec opened → WritesNext (run_series spec opened dump) opened.at later event a b → ReadyAt (piece_name_by spec.pattern opened.run) opened.at later a b
wrote_at spec opened dump later event a b file writes =
    let names : ℕ → List ℕ = piece_name_by spec.pattern opened.run in
    let s : Series = run_series spec opened dump in
    let at : ReadyAt names opened.at writes.ready a writes.middle =
    moves_on names spec.sub_bytes s.head dump opened.at writes.ready (length event) a writes.middle (begins_next spec.sub_bytes (head_bytes dump) opened.at (length event)) refl file.writes file.named writes.moves in
    let extends = writes.writes in
    let moved : Moved names (opened.at.sub + 1) (writes.ready.sub + 1) opened.at.file a b =
    touched names (opened.at.sub + 1) (writes.ready.sub + 1) opened.at.file writes.ready.sub writes.ready.file a writes.middle b at.moved (omega arith) (subst (λ (name : List ℕ). Touches writes.middle b name) at.named extends.wrote.touches) (on_same extends.wrote.done) extends.wrote.others at.is_new in
    let now : ReadyAt names opened.at (counted_in spec.sub_bytes writes.ready (length event)) a b = record {
      moved = moved;
      writes = Extends-writes extends;
      named = Extends-name extends ∙ at.named;
      is_new = at.is_new;
      steps = at.steps;
    } in
    rw writes.later_is now

-- A call failed: so many files were made.
pub record FellAt (names : ℕ → List ℕ) (old : OpenFile) (now : ℕ) (a b : Seen) : Type 0 where
  pub moved : Moved names (old.sub + 1) now old.file a b
  pub within : (now ≡ old.sub + 1) ⊎ ((now ≡ old.sub + 2) × (old.sub < last_number))

make_fell : (names : ℕ → List ℕ) (old : OpenFile) (fallen : Fallen) (a b : Seen) → IsTrue (a.writes old.file) → a.name_of old.file ≡ names old.sub → MakesNone old fallen a b → FellAt names old fallen.files a b
make_fell names old fallen a b writes named makes =
    let here : makes.made.name_of old.file ≡ names old.sub = (makes.same.numbers old.file).name (in_use a old.file writes) ∙ named in
    let now : FellAt names old (old.sub + 1) a b = record {
      moved = closed_moved names (old.sub + 1) (old.sub + 1) old.file old.sub old.file a makes.made b [] (same_moved names (old.sub + 1) old.file a makes.made makes.same) (omega arith) here makes.closes.closes.leaves (inl refl);
      within = inl refl;
    } in
    rw makes.fallen_is now

-- the new file is closed too
both_fell : {state : FileState} (names : ℕ → List ℕ) (old : OpenFile) (file : ℕ) (a ended b : Seen) (bytes : List ℕ) → OldEnded names old file a ended → LeavesFile ended b file state bytes → old.sub < last_number → FellAt names old (old.sub + 2) a b
both_fell names old file a ended b bytes at leaves left = record {
  moved = closed_moved names (old.sub + 1) (old.sub + 2) old.file (old.sub + 1) file a ended b bytes at.moved (omega arith) at.named leaves (inr at.is_new);
  within = inr (refl, left);
}

roll_fell : (names : ℕ → List ℕ) (head : RunHead) (dump : List ℕ) (old : OpenFile) (fallen : Fallen) (a b : Seen) → IsTrue (a.writes old.file) → a.name_of old.file ≡ names old.sub → old.sub < last_number → RollsNone (names (old.sub + 1)) head dump old fallen a b
    → FellAt names old fallen.files a b
roll_fell names head dump old fallen a b writes named left rolls =
    let both : BothOpen names old rolls.file a rolls.made = both_open names old rolls.file a rolls.made [] writes named rolls.makes in
    elim rolls.fails as (λ w. FellAt names old fallen.files a b) [
      | inl ends ↦ rw ends.fallen_is (both_fell names old rolls.file a ends.ended b _ (old_ended names old rolls.file a rolls.made ends.ended _ both ends.ends.leaves) ends.closes.closes.leaves left)
      | inr begins ↦ rw begins.fallen_is (both_fell names old rolls.file a begins.ended b _ (old_ended names old rolls.file a rolls.made begins.ended _ both begins.ends.leaves) begins.closes.leaves left)
    ]

move_fell : (names : ℕ → List ℕ) (head : RunHead) (dump : List ℕ) (old : OpenFile) (fallen : Fallen) (a b : Seen) → IsTrue (a.writes old.file) → a.name_of old.file ≡ names old.sub → old.sub < last_number → FailsMove (names (old.sub + 1)) head dump old fallen a b
    → FellAt names old fallen.files a b
move_fell names head dump old fallen a b writes named left fails = elim fails as (λ w. FellAt names old fallen.files a b) [
  | inl makes ↦ make_fell names old fallen a b writes named makes
  | inr rolls ↦ roll_fell names head dump old fallen a b writes named left rolls
]

ready_within : (old ready : OpenFile) → (ready.sub ≡ old.sub) ⊎ ((ready.sub ≡ old.sub + 1) × (old.sub < last_number)) → (ready.sub + 1 ≡ old.sub + 1) ⊎ ((ready.sub + 1 ≡ old.sub + 2) × (old.sub < last_number))
ready_within old ready steps = elim steps as (λ w. (ready.sub + 1 ≡ old.sub + 1) ⊎ ((ready.sub + 1 ≡ old.sub + 2) × (old.sub < last_number))) [
  | inl same ↦ inl (ap (λ (n : ℕ). n + 1) same)
  | inr more ↦ inr ((let one = more.0 in omega (arith, one)), more.1)
]

append_fell : (names : ℕ → List ℕ) (old ready : OpenFile) (a middle b : Seen) (event : List ℕ) → ReadyAt names old ready a middle → ClosesPart middle b ready.file event → FellAt names old (ready.sub + 1) a b
append_fell names old ready a middle b event at part = record {
  moved = closed_moved names (old.sub + 1) (ready.sub + 1) old.file ready.sub ready.file a middle b _ at.moved (omega arith) at.named part.leaves at.is_new;
  within = ready_within old ready at.steps;
}

pub fell_at : (spec : ChannelSpec) (opened : ChannelRun) (dump : List ℕ) (fallen : Fallen) (event : List ℕ) (a b : Seen) → HasLastOpen a spec opened → FailsNext (run_series spec opened dump) opened.at event fallen a b
    → FellAt (piece_name_by spec.pattern opened.run) opened.at fallen.files a b
fell_at spec opened dump fallen event a b file fails =
    let names : ℕ → List ℕ = piece_name_by spec.pattern opened.run in
    let s : Series = run_series spec opened dump in
    elim fails as (λ w. FellAt names opened.at fallen.files a b) [
      | inl moves ↦ move_fell names s.head dump opened.at fallen a b file.writes file.named (begins_so spec.sub_bytes (head_bytes dump) opened.at (length event) moves.0).number_left moves.1
      | inr none ↦
          let at : ReadyAt names opened.at none.ready a none.middle =
          moves_on names spec.sub_bytes s.head dump opened.at none.ready (length event) a none.middle (begins_next spec.sub_bytes (head_bytes dump) opened.at (length event)) refl file.writes file.named none.moves in
          rw none.appends.fallen_is (append_fell names opened.at none.ready a none.middle b event at none.appends.closes)
    ]
