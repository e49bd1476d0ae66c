-- The quotas of the records of a session are those that the lines of its script asked for.
use Rattle.std.specs.Prelude.{◌≡◌, ◌⊎◌, ℕ, suc, List, [], ◌∷◌, ◌++◌, slice_get, Option, Some, None, Result, Ok, Err, refl}
use Rattle.std.proofs.Common.{ap, sym, subst, ◌∙◌, append_assoc, inl, inr}
use Rattle.std.proofs.lemmas.List.{append-nil}
use Rattle.std.proofs.Math.Logic.{⊎_elim}
use Rattle.daq_types.specs.declared.runs.StartOutcome.{StartOutcome}
use Rattle.daq_types.specs.declared.runs.Transition.{Transition}
use Rattle.daq_types.specs.declared.runs.Transition.TheVariants.{Start, Stop, Pause, Resume, StartAbort}
use Rattle.frontend_kit.specs.declared.generator.Generator.{Generator}
use Rattle.transitions.specs.declared.entry.EngineEntry.TheVariants.{Register, Begin, Poll, Answer, Check, Close}
use Rattle.transitions.specs.declared.replies.BeginRefusal.{BeginRefusal}
use Rattle.member_model.specs.RunEngines.{ClientTally, EngineEntry, Sheet}
use Rattle.session_runs.specs.declared.records.RunRecord.{RunRecord}
use Rattle.daq_members.specs.Members.{MemberTold}
use Rattle.session_runs.specs.MadeTransitions.{TransitionIn, done_check}
use Rattle.session_objects.specs.declared.record.SessionRecord.{SessionRecord}
use Rattle.session_runs.specs.KeptRuns.{RunsSeen}
use Rattle.session_runs.specs.RunsFit.{MainOwn, start_begun, start_of, starts_begun}
use Rattle.session_commands.specs.Stages.{SessionStage}
use Rattle.session_commands.specs.Quotas.{quota_begun, quotas_begun, quotas_so_far}
use Rattle.daq_session.specs.Sessions.{KeepsSession, KeptRunsAsked, RunsAsked, SessionKept}
use Rattle.daq_session.proofs.ToldRuns.{mapped}

-- the call begins a start, or none
record BeginsStart (e : EngineEntry) : Type 0 where
  sheet : Sheet
  start : ℕ
  is : e ≡ Begin Start sheet (Ok start)

abbrev BeginsNone : EngineEntry → Type 0
BeginsNone e = (start_begun e ≡ []) × (quota_begun e ≡ [])

begun_start : (sheet : Sheet) (reply : Result ℕ BeginRefusal) → BeginsNone (Begin Start sheet reply) ⊎ BeginsStart (Begin Start sheet reply)
begun_start sheet (Ok start) = inr (record { sheet = sheet; start = start; is = refl })
begun_start sheet (Err why) = inl (refl, refl)

begun_by : (t : Transition) (sheet : Sheet) (reply : Result ℕ BeginRefusal) → BeginsNone (Begin t sheet reply) ⊎ BeginsStart (Begin t sheet reply)
begun_by Start sheet reply = begun_start sheet reply
begun_by Stop sheet reply = inl (refl, refl)
begun_by Pause sheet reply = inl (refl, refl)
begun_by Resume sheet reply = inl (refl, refl)
begun_by StartAbort sheet reply = inl (refl, refl)

begins_or_not : (e : EngineEntry) → BeginsNone e ⊎ BeginsStart e
begins_or_not (Begin t sheet reply) = begun_by t sheet reply
begins_or_not (Register name sequences dump report reply) = inl (refl, refl)
begins_or_not (Poll client reply) = inl (refl, refl)
begins_or_not (Answer client answer reply) = inl (refl, refl)
begins_or_not (Check reply tallies) = inl (refl, refl)
begins_or_not (Close reply) = inl (refl, refl)

-- At one place among the starts that calls began stand this start number and this quota.
record BegunAt (own : List EngineEntry) (start quota : ℕ) : Type 0 where
  place : ℕ
  number : slice_get (starts_begun own) place ≡ Some start
  with_quota : slice_get (quotas_begun own) place ≡ Some quota

behind_one : (e : EngineEntry) (own : List EngineEntry) (start quota : ℕ) → BegunAt own start quota → BegunAt (e ∷ own) start quota
behind_one e own start quota at = ⊎_elim
    (λ (none : BeginsNone e). record {
      place = at.place;
      number = ap (λ (l : List ℕ). slice_get (l ++ starts_begun own) at.place) none.0 ∙ at.number;
      with_quota = ap (λ (l : List ℕ). slice_get (l ++ quotas_begun own) at.place) none.1 ∙ at.with_quota;
    })
    (λ (begins : BeginsStart e). record {
      place = suc at.place;
      number = ap (λ (x : EngineEntry). slice_get (start_begun x ++ starts_begun own) (suc at.place)) begins.is ∙ at.number;
      with_quota = ap (λ (x : EngineEntry). slice_get (quota_begun x ++ quotas_begun own) (suc at.place)) begins.is ∙ at.with_quota;
    })
    (begins_or_not e)

begun_at : (before after : List EngineEntry) (sheet : Sheet) (start : ℕ) → BegunAt (before ++ Begin Start sheet (Ok start) ∷ after) start sheet.quota
begun_at [] after sheet start = record { place = 0; number = refl; with_quota = refl }
begun_at (e ∷ before) after sheet start = behind_one e (before ++ Begin Start sheet (Ok start) ∷ after) start sheet.quota (begun_at before after sheet start)

-- a start that stands among the first of these calls
made_at : (own first more : List EngineEntry) (sheet : Sheet) (start : ℕ) (outcome : StartOutcome) (tallies : List ClientTally) → own ≡ first ++ more → TransitionIn first Start sheet start outcome tallies → BegunAt own start sheet.quota
made_at own first more sheet start outcome tallies is made =
    let rest : List EngineEntry = made.between ++ done_check outcome tallies ∷ made.after in
    let whole : own ≡ made.before ++ Begin Start sheet (Ok start) ∷ (rest ++ more) =
    is ∙ (ap (λ (l : List EngineEntry). l ++ more) made.whole ∙ append_assoc made.before (Begin Start sheet (Ok start) ∷ rest) more) in
    subst (λ (l : List EngineEntry). BegunAt l start sheet.quota) (sym whole) (begun_at made.before (rest ++ more) sheet start)

begun_are : (final : SessionStage) (asked : List ℕ) → quotas_so_far final.runs ≡ asked → (last : RunsSeen) → final.runs ≡ Some last → quotas_begun last.main.own ≡ asked
begun_are final asked so_far last is_open = ap quotas_so_far (sym is_open) ∙ so_far

module _ {D F : Type 0} {g : _} (told : MemberTold Generator F) (first_files : F) (final : SessionStage) (run_files : F) (asked : List ℕ) (so_far : quotas_so_far final.runs ≡ asked) where
  -- the quota of a start is at the place of its record
  at_record : (r : SessionRecord D g) (keeps : KeepsSession told first_files final run_files r) (number : ℕ) (run : RunRecord) (quota : ℕ) → slice_get r.runs number ≡ Some run → BegunAt keeps.last.main.own run.start quota → slice_get asked number ≡ Some quota
  at_record r keeps number run quota at begun =
      let other = mapped start_of r.runs begun.place run.start (subst (λ (l : List ℕ). slice_get l begun.place ≡ Some run.start) (sym keeps.tells.fit.each_start) begun.number) in
      let place : number ≡ begun.place = keeps.tells.differ number begun.place run other.0 at other.1 (sym other.2) in
      subst (λ (n : ℕ). slice_get asked n ≡ Some quota) (sym place)
      (subst (λ (l : List ℕ). slice_get l begun.place ≡ Some quota) (begun_are final asked so_far keeps.last keeps.is_open) begun.with_quota)

  runs_asked : (r : SessionRecord D g) (keeps : KeepsSession told first_files final run_files r) → RunsAsked told first_files final run_files asked r keeps
  runs_asked r keeps = record {
    completed = λ number run at whole.
        let so = (keeps.tells.runs number run at whole).so in
        let start = so.fits.start in
        at_record r keeps number run so.quota at
        (made_at keeps.last.main.own so.fits.early.engine so.fits.late.engine _ run.start _ start.tallies (ap (λ (o : MainOwn). o.engine) so.fits.calls) start.made);
    refused = λ number run at client why is.
        let so = keeps.tells.refusals number run at client why is in
        let start = so.fits.start in
        at_record r keeps number run so.quota at
        (made_at keeps.last.main.own keeps.last.main.own [] _ run.start run.outcome start.tallies (sym (append-nil keeps.last.main.own)) start.made);
  }

  pub kept_asked : (kept : Option (SessionRecord D g)) (keeps : SessionKept told first_files final run_files kept) → KeptRunsAsked told first_files final run_files asked kept keeps
  kept_asked None keeps = tt
  kept_asked (Some r) keeps = runs_asked r keeps
