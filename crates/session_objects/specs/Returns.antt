-- What comes back from the members of a session.
use Rattle.std.specs.Prelude.{◌≡◌, ℕ, List, [], ◌∷◌, Option, Some, None}
use Rattle.buffer_core.specs.Slots.{some_slot}
use Rattle.daq_members.specs.LoggerSeats.{LoggerSeen}
use Rattle.daq_members.specs.Members.{MemberSeen, Logger}
use Rattle.frontend_kit.specs.declared.generator.Generator.{Generator}
use Rattle.member_model.specs.RunEngines.{EngineEntry}
use Rattle.odb_lock.specs.declared.shared.SharedOdb.{SharedOdb}
use Rattle.odb_watch.specs.declared.entry.WatchEntry.{WatchEntry}
use Rattle.session_setup.specs.declared.declared.DeclaredLists.{DeclaredLists}
use Rattle.session_objects.specs.declared.objects.SessionObjects.{SessionObjects}
use Rattle.session_objects.specs.declared.returning.LoggerEnd.{LoggerEnd}
use Rattle.session_objects.specs.declared.returning.Returned.{Returned}
use Rattle.session_objects.specs.Members.{HasLogger, session_calls}
use Rattle.session_objects.specs.Records.{HasCalls}

-- what a logger leaves
abbrev pub logger_end : {F : Type 0} → LoggerSeen F → LoggerEnd F
logger_end logger = record { files = logger.files; failed = some_slot (λ c. c.failed) logger.slots }

-- what this member leaves, if it leaves anything
abbrev pub end_of_member : {F : Type 0} → MemberSeen Generator F → Option (LoggerEnd F)
end_of_member (Logger logger) = Some (logger_end logger)
end_of_member member = None

-- what is left once this member is back, besides what was left by others
abbrev pub left_also : {F : Type 0} → (own left : Option (LoggerEnd F)) → Option (LoggerEnd F)
left_also None left = left
left_also (Some end) left = Some end

-- what is left by these members: the first of them that leaves anything
abbrev pub left_among : {F : Type 0} → List (MemberSeen Generator F) → Option (LoggerEnd F)
left_among [] = None
left_among (member ∷ members) = left_also (end_of_member member) (left_among members)

-- What came back of these members: all passes, which tell the calls of the main thread, these, and of the members; and what the
-- logger left.
pub record ComesBack {D F : Type 0} {g : _} (lists : DeclaredLists) (objects : SessionObjects) (shared : SharedOdb D)
    (engine : List EngineEntry) (database : List (ℕ × WatchEntry)) (members : List (MemberSeen Generator F)) (back : Returned D F g) : Type 0 where
  pub calls : HasCalls (session_calls lists engine database members) objects shared back.passes
  pub logger : (logger : LoggerSeen F) → HasLogger lists members logger → back.logger ≡ logger_end logger
