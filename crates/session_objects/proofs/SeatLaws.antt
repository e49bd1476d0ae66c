-- Members as they take their seats.
use Rattle.std.proofs.Common.{◌≡◌, ◌∙◌, ℕ, ◌+◌, ◌≤◌, ◌++◌, ◌∷◌, List, [], length, length-append, ap, sym, refl, subst, arith}
use Rattle.std.specs.Prelude.{slice_get, Some, None, IsTrue}
use Rattle.std.proofs.lemmas.Grind.{common_steps}
use Rattle.buffer_core.specs.declared.entry.BufferEntry.{BufferEntry}
use Rattle.buffer_core.specs.Ports.{GotEvent}
use Rattle.odb_watch.specs.declared.entry.WatchEntry.{WatchEntry}
use Rattle.member_model.specs.RunEngines.{EngineEntry}
use Rattle.front_ends.specs.Fronts.{FrontState}
use Rattle.front_ends.specs.FrontKept.{FrontStands, KeepsMoments}
use Rattle.frontend_kit.specs.declared.generator.Generator.{Generator}
use Rattle.analyzers.specs.Analyzers.{AnalyzerState}
use Rattle.analyzers.specs.AnalyzerKept.{AnalyzerStands, AnalyzerTells}
use Rattle.daq_members.specs.AnalyzerTaken.{AnalyzerMemberStands}
use Rattle.daq_members.specs.SeatedAnalyzers.{AnalyzerSeen}
use Rattle.daq_members.specs.FrontSeats.{FrontSeen}
use Rattle.daq_members.specs.FrontTaken.{FrontMemberStands}
use Rattle.session_setup.specs.Setup.{is_buffer_size}
use Rattle.session_objects.specs.Members.{generator_takes, generator_makes, AreSeated}
use Rattle.session_objects.proofs.ChangeLaws.{each_pushed, get_before, get_last}

-- what is seen of a front-end is told by its parts
pub seen_same : (f g : FrontSeen Generator) → f.engine ≡ g.engine → f.client ≡ g.client → f.name ≡ g.name → f.equipment ≡ g.equipment →
    f.run ≡ g.run → f.calls ≡ g.calls → f.port ≡ g.port → f.moments ≡ g.moments → f.database ≡ g.database → f.stood ≡ g.stood → f ≡ g
seen_same f g engine client name equipment run calls port moments database stood = λ j. record {
  engine = engine j;
  client = client j;
  name = name j;
  equipment = equipment j;
  run = run j;
  calls = calls j;
  port = port j;
  moments = moments j;
  database = database j;
  stood = stood j;
}

-- a front-end that made no call keeps its contract, whatever its client number and its name
pub front_stands_yet : (client : ℕ) (name : List ℕ) (equipment : Generator) (front : FrontState Generator) (calls : List EngineEntry) (own : List BufferEntry)
    (sets : List WatchEntry) → front ≡ record { equipment = equipment; run = None } → calls ≡ [] → own ≡ [] → sets ≡ [] →
    FrontStands (generator_takes equipment) (generator_makes equipment) front.run [] [] → KeepsMoments [] [] [] →
    FrontMemberStands client name (generator_takes front.equipment) (generator_makes front.equipment) front.run calls own [] sets
front_stands_yet client name equipment front calls own sets is none_called none_own none_set stands kept =
    let A : List EngineEntry → Type 0 = λ cs. FrontMemberStands client name (generator_takes front.equipment) (generator_makes front.equipment) front.run cs own [] sets in
    let B : List BufferEntry → Type 0 = λ bs. FrontMemberStands client name (generator_takes front.equipment) (generator_makes front.equipment) front.run [] bs [] sets in
    let C : List WatchEntry → Type 0 = λ ws. FrontMemberStands client name (generator_takes front.equipment) (generator_makes front.equipment) front.run [] [] [] ws in
    let D : Generator → Type 0 = λ q. FrontMemberStands client name (generator_takes q) (generator_makes q) front.run [] [] [] [] in
    subst A (sym none_called) (subst B (sym none_own) (subst C (sym none_set)
    (subst D (sym (ap (λ (f : FrontState Generator). f.equipment) is)) (record { stands = stands; kept = kept; told = λ are. refl }))))

-- what is seen of an analyzer is told by its parts
pub analyzer_same : (a b : AnalyzerSeen) → a.engine ≡ b.engine → a.client ≡ b.client → a.analyzer ≡ b.analyzer → a.calls ≡ b.calls → a.port ≡ b.port → a.stood ≡ b.stood → a ≡ b
analyzer_same a b engine client analyzer calls port stood = λ j. record {
  engine = engine j;
  client = client j;
  analyzer = analyzer j;
  calls = calls j;
  port = port j;
  stood = stood j;
}

-- an analyzer that made no call keeps its contract, whatever its client number
pub analyzer_stands_yet : (client : ℕ) (analyzer : AnalyzerState) (calls : List EngineEntry) (own : List BufferEntry) (got : List GotEvent) →
    calls ≡ [] → own ≡ [] → got ≡ [] → AnalyzerStands analyzer.wanted analyzer.client analyzer.run [] [] [] → AnalyzerTells analyzer.run [] →
    AnalyzerMemberStands client analyzer calls own got
analyzer_stands_yet client analyzer calls own got none_called none_own none_got stands tells =
    let A : List EngineEntry → Type 0 = λ cs. AnalyzerMemberStands client analyzer cs own got in
    let B : List BufferEntry → Type 0 = λ bs. AnalyzerMemberStands client analyzer [] bs got in
    let C : List GotEvent → Type 0 = λ gs. AnalyzerMemberStands client analyzer [] [] gs in
    subst A (sym none_called) (subst B (sym none_own) (subst C (sym none_got) (record { stands = stands; tells = tells; blanks = λ t has. absurd has })))

-- an event of a generator fits into each buffer
pub wide_enough : (size : ℕ) → IsTrue (is_buffer_size size) → 104 ≤ size
wide_enough size sound = let l : 256 ≤ size = grind (arith, common_steps, sound) in omega arith

module _ {X : Type 0} (Holds : ℕ → X → Type 0) where
  -- no seat is taken yet
  pub none_seated : (seats : List X) → seats ≡ [] → AreSeated Holds 0 seats
  none_seated seats none = let P : List X → Type 0 = λ xs. AreSeated Holds 0 xs in
      subst P (sym none) (record { many = refl; each = λ place seat at. absurd (cc) })

  -- one more is taken
  pub one_seated : (count : ℕ) (before after : List X) (seat : X) → AreSeated Holds count before → after ≡ before ++ seat ∷ [] → Holds count seat →
      AreSeated Holds (count + 1) after
  one_seated count before after seat seated pushed holds =
      let At : List X → Type 0 = λ xs. (place : ℕ) → (x : X) → slice_get xs place ≡ Some x → Holds place x in
      let Last : ℕ → Type 0 = λ n. Holds n seat in record {
        many = ap length pushed ∙ length-append before (seat ∷ []) ∙ ap (λ (n : ℕ). n + 1) seated.many;
        each = subst At (sym pushed) (each_pushed Holds before seat seated.each (subst Last (sym seated.many) holds));
      }
