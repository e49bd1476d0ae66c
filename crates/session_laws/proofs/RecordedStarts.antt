-- The starts and the runs of which records tell, among the main thread's calls on the engine.
use Rattle.std.specs.Prelude.{◌≡◌, ℕ, zero, suc, List, [], ◌∷◌, ◌++◌, map, slice_get, Contains, Some, Ok, refl}
use Rattle.std.specs.List.{AllByRecursion}
use Rattle.std.proofs.Common.{ap, sym, subst, ◌∙◌, arith, append_assoc, append-nil}
use Rattle.daq_types.specs.declared.runs.StartOutcome.{StartOutcome}
use Rattle.daq_types.specs.declared.runs.StartOutcome.TheVariants.{Completed, Refused}
use Rattle.daq_types.specs.declared.runs.Transition.{Transition}
use Rattle.daq_types.specs.declared.runs.Transition.TheVariants.{Start, Stop}
use Rattle.daq_types.specs.declared.runs.Why.{Why}
use Rattle.transitions.specs.declared.replies.Progress.TheVariants.{Done}
use Rattle.member_model.specs.RunEngines.{Sheet, ClientTally, EngineEntry}
use Rattle.transitions.specs.declared.entry.EngineEntry.TheVariants.{Begin, Check}
use Rattle.session_runs.specs.MadeTransitions.{TransitionIn}
use Rattle.session_runs.specs.declared.records.RunRecord.{RunRecord}
use Rattle.session_runs.specs.declared.on.CurrentRun.{CurrentRun}
use Rattle.session_runs.specs.RunEntries.{start_sheet, later_sheet, dump_saved}
use Rattle.session_runs.specs.RunsFit.{MainOwn, RunClients, FitsOutcome, FitsRefused, FitsRun, FitsStart, FitsWhole, RecordsFit, run_of, start_begun, start_of, starts_begun}
use Rattle.composition.specs.SessionRuns.{SessionRun}
use Rattle.session_laws.specs.MadeRuns.{RunIn}

-- A transition stands among calls with more before it or behind it.

made_then : (own more : List EngineEntry) (t : Transition) (sheet : Sheet) (start : ℕ) (outcome : StartOutcome) (tallies : List ClientTally) → TransitionIn own t sheet start outcome tallies → TransitionIn (own ++ more) t sheet start outcome tallies
made_then own more t sheet start outcome tallies m =
    let begin : EngineEntry = Begin t sheet (Ok start) in
    let done : EngineEntry = Check (Done outcome) tallies in
    record {
      before = m.before;
      between = m.between;
      after = m.after ++ more;
      whole = ap (λ (l : List EngineEntry). l ++ more) m.whole
          ∙ (append_assoc m.before (begin ∷ (m.between ++ done ∷ m.after)) more
          ∙ ap (λ (l : List EngineEntry). m.before ++ begin ∷ l) (append_assoc m.between (done ∷ m.after) more));
      on = m.on;
    }

made_behind : (first own : List EngineEntry) (t : Transition) (sheet : Sheet) (start : ℕ) (outcome : StartOutcome) (tallies : List ClientTally) → TransitionIn own t sheet start outcome tallies → TransitionIn (first ++ own) t sheet start outcome tallies
made_behind first own t sheet start outcome tallies m = record {
  before = first ++ m.before;
  between = m.between;
  after = m.after;
  whole = ap (λ (l : List EngineEntry). first ++ l) m.whole ∙ sym (append_assoc first m.before (Begin t sheet (Ok start) ∷ (m.between ++ Check (Done outcome) tallies ∷ m.after)));
  on = m.on;
}

pub starts_joined : (own more : List EngineEntry) → starts_begun (own ++ more) ≡ starts_begun own ++ starts_begun more
starts_joined [] more = refl
starts_joined (e ∷ own) more =
    ap (λ (l : List ℕ). start_begun e ++ l) (starts_joined own more) ∙ sym (append_assoc (start_begun e) (starts_begun own) (starts_begun more))

-- Lists.

pub all_at : {X : Type 0} (P : X → Type 0) (xs : List X) → AllByRecursion P xs → (n : ℕ) (x : X) → slice_get xs n ≡ Some x → P x
all_at P [] all n x at = absurd (cc (at))
all_at P (y ∷ xs) all zero x at = subst P (cc (at)) all.0
all_at P (y ∷ xs) all (suc n) x at = all_at P xs all.1 n x at

-- what stands in a list of images is the image of a member
mapped_at : {X Y : Type 0} (f : X → Y) (xs : List X) (y : Y) → Contains (map f xs) y → (place : ℕ) × (x : X) × (slice_get xs place ≡ Some x) × (f x ≡ y)
mapped_at f [] y has = absurd (omega (arith, has.1))
mapped_at f (x ∷ xs) y (zero, within, is) = (0, x, refl, is)
mapped_at f (x ∷ xs) y (suc k, within, is) = (let found = mapped_at f xs y (k, omega (arith, within), is) in (suc found.0, found.1, found.2, found.3))

-- Records that fit the main thread's own calls up to some point.
module _ (clients : RunClients) (own : MainOwn) where
  pub whole : (begun : CurrentRun) (r : RunRecord) (o : StartOutcome) → o ≡ Completed → FitsOutcome clients own begun r o → FitsWhole clients own begun r
  whole begun r Completed is fits = fits
  whole begun r (Refused client why) is fits = absurd (cc (is))

  pub was_refused : (begun : CurrentRun) (r : RunRecord) (client : ℕ) (why : Why) (o : StartOutcome) → o ≡ Refused client why → FitsOutcome clients own begun r o → FitsRefused clients own begun r
  was_refused begun r client why Completed is fits = absurd (cc (is))
  was_refused begun r client why (Refused c w) is fits = fits

  module _ (more calls : List EngineEntry) (same : calls ≡ own.engine ++ more) where
    -- a start that was refused stands among the calls
    pub refused_in : (r : RunRecord) (quota client : ℕ) (why : Why) → r.outcome ≡ Refused client why → (start : FitsStart clients.analyzers own (run_of r quota) r.outcome)
        → TransitionIn calls Start (start_sheet clients.analyzers r.run r.time0 quota start.dump) r.start (Refused client why) start.tallies
    refused_in r quota client why is start =
        let sheet : Sheet = start_sheet clients.analyzers r.run r.time0 quota start.dump in
        subst (λ (l : List EngineEntry). TransitionIn l Start sheet r.start (Refused client why) start.tallies) (sym same)
        (subst (λ (o : StartOutcome). TransitionIn (own.engine ++ more) Start sheet r.start o start.tallies) is (made_then own.engine more Start sheet r.start r.outcome start.tallies start.made))

    -- so does a run that came about
    abbrev pub run_recorded : (r : RunRecord) (quota : ℕ) → FitsWhole clients own (run_of r quota) r → SessionRun
    run_recorded r quota fits = record {
      start = r.start;
      first = start_sheet clients.analyzers r.run r.time0 quota fits.start.dump;
      last = later_sheet (run_of r quota) r.time1 (dump_saved fits.stop.saved);
      first_tallies = fits.start.tallies;
      last_tallies = fits.stop.tallies;
    }

    pub run_in : (r : RunRecord) (quota : ℕ) (fits : FitsWhole clients own (run_of r quota) r) → RunIn calls (run_recorded r quota fits)
    run_in r quota fits =
        let run : SessionRun = run_recorded r quota fits in
        let early : List EngineEntry = fits.early.engine in
        let late : List EngineEntry = fits.late.engine in
        subst (λ (l : List EngineEntry). RunIn l run) (sym (same ∙ ap (λ (o : MainOwn). o.engine ++ more) fits.calls)) (record {
          started = made_then (early ++ late) more Start run.first r.start Completed run.first_tallies (made_then early late Start run.first r.start Completed run.first_tallies fits.start.made);
          stopped = made_then (early ++ late) more Stop run.last r.start Completed run.last_tallies (made_behind early late Stop run.last r.start Completed run.last_tallies fits.stop.made);
        })

    -- the record of a start
    pub record RecordOf (runs : List RunRecord) (start : ℕ) : Type 0 where
      pub place : ℕ
      pub kept : RunRecord
      pub at : slice_get runs place ≡ Some kept
      pub is : kept.start ≡ start
      pub fit : FitsRun clients own kept

    pub record_of : (runs : List RunRecord) → starts_begun more ≡ [] → RecordsFit clients own runs → (start : ℕ) → Contains (starts_begun calls) start → RecordOf runs start
    record_of runs none fits start among =
        let starts : starts_begun calls ≡ map start_of runs =
        ap starts_begun same ∙ (starts_joined own.engine more ∙ (ap (λ (l : List ℕ). starts_begun own.engine ++ l) none ∙ (append-nil (starts_begun own.engine) ∙ sym fits.each_start))) in
        let found = mapped_at start_of runs start (subst (λ (l : List ℕ). Contains l start) starts among) in
        record { place = found.0; kept = found.1; at = found.2; is = found.3; fit = all_at (FitsRun clients own) runs fits.runs found.0 found.1 found.2 }
