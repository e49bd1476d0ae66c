-- The first start of a script, whose session is opened before it.
use Rattle.std.proofs.Common.{◌≡◌, ℕ, true, Option, None, Ok, refl, sym, subst, ◌∙◌, ap, inl, inr}
use Rattle.odb_script.specs.declared.commands.Command.TheVariants.{Run}
use Rattle.odb_script.specs.declared.commands.RunCommand.TheVariants.{Start}
use Rattle.odb_script.specs.Forms.{Read}
use Rattle.odb_script.specs.declared.commands.Command.{Command}
use Rattle.console.specs.declared.replies.Reply.{Reply}
use Rattle.session_runs.specs.KeptRuns.{RunsSeen}
use Rattle.session_commands.specs.Stages.{SessionStage}
use Rattle.session_commands.specs.RunLines.{BreaksStart, ClosesRun, CutsOpening, DoesStart, OpensSession}
use Rattle.session_commands.specs.ScriptLines.{BreaksScriptLine, ClosesScript, DoesScriptLine, opens_session}

-- only a start opens a session
pub opens_start : (line : Read Command) → opens_session line ≡ true → line ≡ Ok (Run Start)
opens_start (Ok (Run Start)) is = refl
opens_start _ is = absurd (cc is)

-- what the start does where its session is open it does from before its opening
pub start_so : (now ready : SessionStage) → OpensSession now ready → (reply : Reply) → (new : SessionStage) → DoesStart ready.runs ready reply new → DoesStart now.runs now reply new
start_so now ready opens reply new does =
    let there = opens.runs in
    let commanded = subst (λ (runs : Option RunsSeen). DoesStart runs ready reply new) there does in
    subst (λ (runs : Option RunsSeen). DoesStart runs now reply new) (sym opens.closed) (ready, _, there, opens, commanded)

pub start_breaks_so : (now ready : SessionStage) → OpensSession now ready → (new : SessionStage) → BreaksStart ready.runs ready new → BreaksStart now.runs now new
start_breaks_so now ready opens new broke =
    let cut = subst (λ (runs : Option RunsSeen). BreaksStart runs ready new) opens.runs broke in
    subst (λ (runs : Option RunsSeen). BreaksStart runs now new) (sym opens.closed) (inr (ready, _, opens.runs, opens, cut))

pub line_so : (number : ℕ) → (line : Read Command) → opens_session line ≡ true → (now ready : SessionStage) → OpensSession now ready → (reply : Reply) → (new : SessionStage) → DoesScriptLine number line ready reply new → DoesScriptLine number line now reply new
line_so number line is now ready opens reply new does =
    let at_start = opens_start line is in
    subst (λ (l : Read Command). DoesScriptLine number l now reply new) (sym at_start)
    (start_so now ready opens reply new (subst (λ (l : Read Command). DoesScriptLine number l ready reply new) at_start does))

pub line_breaks_so : (number : ℕ) → (line : Read Command) → opens_session line ≡ true → (now ready : SessionStage) → OpensSession now ready → (new : SessionStage) → BreaksScriptLine number line ready new → BreaksScriptLine number line now new
line_breaks_so number line is now ready opens new broke =
    let at_start = opens_start line is in
    subst (λ (l : Read Command). BreaksScriptLine number l now new) (sym at_start)
    (start_breaks_so now ready opens new (subst (λ (l : Read Command). BreaksScriptLine number l ready new) at_start broke))

-- an opening that was cut breaks the start
pub cut_breaks : (number : ℕ) → (line : Read Command) → opens_session line ≡ true → (now new : SessionStage) → CutsOpening now new → BreaksScriptLine number line now new
cut_breaks number line is now new cut =
    subst (λ (l : Read Command). BreaksScriptLine number l now new) (sym (opens_start line is))
    (subst (λ (runs : Option RunsSeen). BreaksStart runs now new) (sym cut.closed) (inl cut))

-- a session that is not open has nothing to be closed
pub closes_nothing : (now : SessionStage) → now.runs ≡ None → ClosesScript now None now
closes_nothing now closed = subst (λ (runs : Option RunsSeen). ClosesRun runs now None now) (sym closed) (refl, refl)

pub still_closed : (now new : SessionStage) → CutsOpening now new → new.runs ≡ None
still_closed now new cut = ap (λ (s : SessionStage). s.runs) cut.same ∙ cut.closed
