-- The members of a session stay the same ones, however many turns they have.
use Rattle.std.specs.Prelude.{◌≡◌, ℕ, zero, suc, List, [], ◌∷◌, slice_get, Some, All, refl}
use Rattle.std.proofs.Common.{ap, subst, ◌∙◌}
use Rattle.std.specs.List.{AllZip}
use Rattle.std.proofs.lemmas.List.Elements.{All-get_or}
use Rattle.std.proofs.lemmas.Option.{get_or_from_slice_get, slice_get_within}
use Rattle.buffer_core.specs.Ports.{Access}
use Rattle.loggers.specs.Moments.{IsSameAccess}
use Rattle.member_crew.specs.declared.turned.Turned.{Turned}
use Rattle.daq_members.specs.FrontSeats.{FrontSeen, IsSameFront}
use Rattle.daq_members.specs.LoggerSeats.{LoggerSeen, logger_taken}
use Rattle.daq_members.specs.SeatedAnalyzers.{AnalyzerSeen, IsSameAnalyzer}
use Rattle.daq_members.proofs.LoggerLaws.{same_ports, same_then}
use Rattle.daq_members.proofs.LoggerSeatLaws.{NotedLaws, notes_same, taken_noted}
use Rattle.member_crew.specs.Turns.{CameBack}
use Rattle.member_crew.proofs.TurnLaws.{all_keep}
use Rattle.daq_members.specs.Members.{MemberSeen, MemberTold, FrontEnd, Logger, Analyzer, TurnsMember, FrontTurn, LoggerTurn, AnalyzerTurn, StaysLogger, KeepsContract, IsSameMember, SameFront, SameLogger, SameAnalyzer}
use Rattle.daq_members.specs.Stay.{MembersStay}

-- Places of lists.

-- what stands there is one of all of these
each_of : {X : Type 0} (P : X → Type 0) (xs : List X) (n : ℕ) (x : X) → All P xs → slice_get xs n ≡ Some x → P x
each_of P xs n x all at = subst P (get_or_from_slice_get xs n x x at) (All-get_or P xs n x (slice_get_within xs n x at) all)

-- what stands beside it
pub zip_there : {X Y : Type 0} (R : X → Y → Type 0) (xs : List X) (ys : List Y) (n : ℕ) (x : X) → AllZip R xs ys → slice_get xs n ≡ Some x → (y : Y) × (slice_get ys n ≡ Some y) × R x y
zip_there R [] ys n x all at = absurd (cc (at))
zip_there R (z ∷ xs) [] n x all at = absurd all
zip_there R (z ∷ xs) (y ∷ ys) zero x all at = (y, refl, subst (λ w. R w y) (let same : z ≡ x = cc (at) in same) all.0)
zip_there R (z ∷ xs) (y ∷ ys) (suc n) x all at = zip_there R xs ys n x all.1 at

-- Accesses.

same_access : (a : Access) → IsSameAccess a a
same_access a = (refl, refl, refl)

access_then : (a b c : Access) → IsSameAccess a b → IsSameAccess b c → IsSameAccess a c
access_then a b c first then_ = (then_.0 ∙ first.0, then_.1 ∙ first.1, then_.2 ∙ first.2)

-- Of each kind: a member that had no turn, and one that had turns behind turns.

module _ {E F : Type 0} (told : MemberTold E F) where
  same_front : (a : FrontSeen E) → IsSameFront told.takes told.makes a a
  same_front a = record {
    engine = refl;
    client = refl;
    name = refl;
    takes_as = refl;
    makes_as = refl;
    port = same_access a.port;
    database = record { database = refl; caller = refl };
  }

  front_then : (a b c : FrontSeen E) → IsSameFront told.takes told.makes a b → IsSameFront told.takes told.makes b c → IsSameFront told.takes told.makes a c
  front_then a b c first then_ = record {
    engine = then_.engine ∙ first.engine;
    client = then_.client ∙ first.client;
    name = then_.name ∙ first.name;
    takes_as = then_.takes_as ∙ first.takes_as;
    makes_as = then_.makes_as ∙ first.makes_as;
    port = access_then a.port b.port c.port first.port then_.port;
    database = record {
      database = then_.database.database ∙ first.database.database;
      caller = then_.database.caller ∙ first.database.caller;
    };
  }

  same_logger : (a : LoggerSeen F) → StaysLogger told a a
  same_logger a = record {
    same = record { engine = refl; client = refl; ports = same_ports a.ports; specs = refl; first = refl };
    faults = notes_same a.slots (told.read a.files).faults;
  }

  logger_then : NotedLaws → (a b c : LoggerSeen F) → StaysLogger told a b → StaysLogger told b c → StaysLogger told a c
  logger_then laws a b c first then_ = record {
    same = record {
      engine = then_.same.engine ∙ first.same.engine;
      client = then_.same.client ∙ first.same.client;
      ports = same_then a.ports b.ports c.ports first.same.ports then_.same.ports;
      specs = then_.same.specs ∙ first.same.specs;
      first = then_.same.first ∙ first.same.first;
    };
    faults = laws.follow a.slots b.slots c.slots (told.read a.files).faults (told.read b.files).faults (told.read c.files).faults first.faults then_.faults;
  }

  same_analyzer : (a : AnalyzerSeen) → IsSameAnalyzer a a
  same_analyzer a = record { engine = refl; client = refl; wanted = refl; room = refl; port = same_access a.port }

  analyzer_then : (a b c : AnalyzerSeen) → IsSameAnalyzer a b → IsSameAnalyzer b c → IsSameAnalyzer a c
  analyzer_then a b c first then_ = record {
    engine = then_.engine ∙ first.engine;
    client = then_.client ∙ first.client;
    wanted = then_.wanted ∙ first.wanted;
    room = then_.room ∙ first.room;
    port = access_then a.port b.port c.port first.port then_.port;
  }

  -- Of all kinds.

  same_member : (m : MemberSeen E F) → IsSameMember told m m
  same_member (FrontEnd front) = SameFront (same_front front)
  same_member (Logger logger) = SameLogger (same_logger logger)
  same_member (Analyzer analyzer) = SameAnalyzer (same_analyzer analyzer)

  member_then : NotedLaws → {a b c : MemberSeen E F} → IsSameMember told a b → IsSameMember told b c → IsSameMember told a c
  member_then laws (SameFront {before = a} {after = b} first) (SameFront {after = c} then_) = SameFront (front_then a b c first then_)
  member_then laws (SameLogger {before = a} {after = b} first) (SameLogger {after = c} then_) = SameLogger (logger_then laws a b c first then_)
  member_then laws (SameAnalyzer {before = a} {after = b} first) (SameAnalyzer {after = c} then_) = SameAnalyzer (analyzer_then a b c first then_)

  one_turn : NotedLaws → {a b : MemberSeen E F} {turned : Turned} → TurnsMember told a b turned → IsSameMember told a b
  one_turn laws (FrontTurn takes same) = SameFront same
  one_turn laws (LoggerTurn {before = a} {after = b} {turned = turned} takes same) =
      SameLogger (record { same = same; faults = taken_noted laws (logger_taken told.read a b turned) takes })
  one_turn laws (AnalyzerTurn takes same) = SameAnalyzer same

  members_same : NotedLaws → (before after : List (MemberSeen E F)) → CameBack (TurnsMember told) before after → AllZip (IsSameMember told) before after
  members_same laws = all_keep (TurnsMember told) (IsSameMember told) same_member (λ a b c first then_. member_then laws first then_) (λ a b turned turn. one_turn laws turn)

  -- A logger stays one, at its place.

  still_logger : {logger : LoggerSeen F} {after : MemberSeen E F} → IsSameMember told (Logger logger) after → (later : LoggerSeen F) × (after ≡ Logger later) × StaysLogger told logger later
  still_logger (SameLogger {after = later} same) = (later, refl, same)

  logger_stays : (before after : List (MemberSeen E F)) → AllZip (IsSameMember told) before after → (client : ℕ) (logger : LoggerSeen F) → slice_get before client ≡ Some (Logger logger)
      → (later : LoggerSeen F) × (slice_get after client ≡ Some (Logger later)) × StaysLogger told logger later
  logger_stays before after same client logger at =
      let there = zip_there (IsSameMember told) before after client (Logger logger) same at in
      let later = still_logger there.2 in
      (later.0, there.1 ∙ ap Some later.1, later.2)

  pub members_stay_so : NotedLaws → MembersStay told
  members_stay_so laws before after back all =
      let same = members_same laws before after back in
      record {
        same = same;
        keep = λ client member at. each_of (KeepsContract told) after client member all at;
        logger = logger_stays before after same;
      }
