-- Members that were made one by one, by their client numbers, are those of the session.
use Rattle.std.proofs.Common.{◌≡◌, ◌≢◌, ◌∙◌, ℕ, zero, suc, ◌+◌, ◌≤◌, List, [], ◌∷◌, length, ap, sym, refl, subst, arith}
use Rattle.std.specs.Prelude.{slice_get, Contains, Option, Some, None}
use Rattle.std.proofs.lemmas.Bool.{lt-ltb, le-ltb}
use Rattle.std.proofs.lemmas.Option.{slice_get_past, slice_get_within}
use mathlib.Core.Logic.{dite}
use native.Mathlib.Decide.{dec_le}
use Rattle.daq_types.specs.Callers.{main_caller}
use Rattle.turn_lock.specs.declared.lock.Turns.{Turns}
use Rattle.turn_lock.specs.declared.roster.Passes.{Passes}
use Rattle.odb_watch.specs.declared.entry.WatchEntry.{WatchEntry}
use Rattle.frontend_kit.specs.declared.generator.Generator.{Generator}
use Rattle.odb_lock.specs.declared.shared.SharedOdb.{SharedOdb}
use Rattle.daq_members.specs.FrontSeats.{FrontSeen}
use Rattle.daq_members.specs.LoggerSeats.{LoggerSeen}
use Rattle.daq_members.specs.Members.{MemberSeen, Logger}
use Rattle.session_setup.specs.declared.declared.DeclaredLists.{DeclaredLists}
use Rattle.session_setup.specs.declared.member.MemberDeclared.{MemberDeclared}
use Rattle.session_setup.specs.declared.member.MemberDeclared.TheVariants.{Logger as WantedLogger}
use Rattle.session_objects.specs.declared.objects.SessionObjects.{SessionObjects}
use Rattle.session_objects.specs.declared.returning.LoggerEnd.{LoggerEnd}
use Rattle.session_objects.specs.Calls.{Account, SessionCalls, account_at, account_or_none, told_of_database}
use Rattle.session_setup.specs.DeclaredMembers.{declared_members, logger_number, member_count}
use Rattle.session_objects.specs.Members.{AreCalledAt, AreMembersOf, AreSeated, IsMemberOf, account_of, accounts_of, files_left, IsNewLogger, IsNewMember, NewFront, NewLogger, NewAnalyzer, IsNewMemberAt, HasNewMembers}
use Rattle.session_objects.specs.Returns.{left_among}
use Rattle.session_objects.specs.Rosters.{KeepsPasses, nothing_seen}
use Rattle.session_objects.proofs.ChangeLaws.{some_same, there_below}
use Rattle.session_objects.proofs.ListedLaws.{account_there, accounts_count, declared_logger, left_one, logger_declared, logger_there, none_left}
use Rattle.session_objects.proofs.RosterLaws.{at_first, tells_so}
use Rattle.session_objects.proofs.StayLaws.{new_member_is}

-- The run files are with the logger once it is made, and no other member has them.
module _ {F : Type 0} (logger n : ℕ) (files : F) where
  pub files_kept : n ≢ logger → files_left logger n files ≡ files_left logger (n + 1) files
  files_kept other = dite (dec_le n logger)
      (λ l. rw (le-ltb logger n l) (rw (le-ltb logger (n + 1) (omega arith)) refl))
      (λ no. rw (lt-ltb logger n (omega arith)) (rw (lt-ltb logger (n + 1) (omega arith)) refl))

  pub files_first : files_left logger 0 files ≡ Some files
  files_first = rw (le-ltb logger 0 (omega arith)) refl

  pub files_here : n ≡ logger → files_left logger n files ≡ Some files
  files_here is = rw (le-ltb logger n (omega (arith, is))) refl

  pub files_gone : n ≡ logger → files_left logger (n + 1) files ≡ None
  files_gone is = rw (lt-ltb logger (n + 1) (omega (arith, is))) refl

module _ {D F : Type 0} (objects : SessionObjects) (shared : SharedOdb D) (lists : DeclaredLists) (files : F) where
  module _ (client : ℕ) where
    -- A new member that is a logger has the run files, and stands at the logger's number; one that is none stands at another.
    new_logger : {d : MemberDeclared} {logger : LoggerSeen F} → IsNewMember objects shared lists.channels files client d (Logger logger) →
        (d ≡ WantedLogger) × IsNewLogger objects client lists.channels files logger
    new_logger (NewLogger is) = (refl, is)

    made_logger : {m : MemberSeen Generator F} → IsNewMember objects shared lists.channels files client WantedLogger m → (logger : LoggerSeen F) × (Logger logger ≡ m)
    made_logger (NewLogger {logger = logger} is) = (logger, refl)

    module _ (member : MemberSeen Generator F) (new : IsNewMemberAt lists objects shared files client member) where
      new_logger_at : (logger : LoggerSeen F) → Logger logger ≡ member → (client ≡ logger_number lists) × IsNewLogger objects client lists.channels files logger
      new_logger_at logger is =
          let so = new_logger (subst (λ (m : MemberSeen Generator F). IsNewMember objects shared lists.channels files client new.wanted m) (sym is) new.new) in
          (declared_logger lists client (new.has_wanted ∙ ap Some so.0), so.1)

    -- one that made no call has seen none of the database
    new_unseen : {d : MemberDeclared} {m : MemberSeen Generator F} → IsNewMember objects shared lists.channels files client d m → (account_of d m).database ≡ []
    new_unseen (NewFront new) = ap (λ (f : FrontSeen Generator). f.database.seen) new.is
    new_unseen (NewLogger new) = refl
    new_unseen (NewAnalyzer new) = refl

  -- The first so many of them.
  module _ (members : List (MemberSeen Generator F)) (seated : AreSeated (IsNewMemberAt lists objects shared files) (length members) members) where
    -- No more are made than were declared.
    pub made_few : length members ≤ member_count lists
    made_few = dite (dec_le (length members) (member_count lists)) (λ few. few)
        (λ more.
        let over = there_below members (member_count lists) (omega arith) in
        let l = slice_get_within (declared_members lists) (member_count lists) _ (seated.each (member_count lists) over.0 over.1).has_wanted in
        absurd (omega (arith, l)))

    -- Where the accounts are theirs, each has its own, and none has seen a call on the database.
    module _ (calls : SessionCalls) (told : calls.members ≡ accounts_of (declared_members lists) members) where
      account_is : (client : ℕ) (m : MemberSeen Generator F) (at : slice_get members client ≡ Some m) →
          slice_get calls.members client ≡ Some (account_of (seated.each client m at).wanted m)
      account_is client m at =
          let new = seated.each client m at in
          ap (λ accounts. slice_get accounts client) told ∙ account_there (declared_members lists) members client new.wanted m new.has_wanted at

      pub made_called : AreCalledAt lists objects shared calls members
      made_called client m at =
          let new = seated.each client m at in record {
            wanted = new.wanted;
            is = new_member_is objects shared lists.channels files client new.new;
            account = record { has_wanted = new.has_wanted; told = account_is client m at };
          }

      pub accounts_made : length calls.members ≡ length members
      accounts_made = ap length told ∙ accounts_count (declared_members lists) members made_few

      none_seen : (client : ℕ) → (account_at calls client).database ≡ []
      none_seen client = dite (dec_le (length members) client)
          (λ past. ap (λ (o : Option Account). (account_or_none o).database) (slice_get_past calls.members client (omega (arith, accounts_made))))
          (λ no.
          let m = there_below members client (omega arith) in
          let new = seated.each client m.0 m.1 in
          ap (λ (o : Option Account). (account_or_none o).database) (account_is client m.0 m.1) ∙ new_unseen client new.new)

      seen_none : (number : ℕ) → ¬ Contains (main_caller ∷ []) number → (seen : List (ℕ × WatchEntry)) → told_of_database calls number seen → nothing_seen number seen
      seen_none zero absent seen is = absurd (absent (at_first 0 [] 0 refl))
      seen_none (suc client) absent seen is = is ∙ none_seen client

      pub unseen_back : {M S : Type 0} {g : _} (lock : Turns M S WatchEntry) (passes : Passes M S WatchEntry g) →
          KeepsPasses (told_of_database calls) (main_caller ∷ []) lock passes → KeepsPasses nothing_seen (main_caller ∷ []) lock passes
      unseen_back lock passes k = tells_so (told_of_database calls) nothing_seen (main_caller ∷ []) lock passes seen_none k

    -- The run files are with what the logger leaves, where one of them leaves anything,
    pub files_left_with : (end : LoggerEnd F) → left_among members ≡ Some end → end.files ≡ files
    files_left_with end is =
        let one = left_one members end is in
        let new = new_logger_at one.0 (Logger one.1) (seated.each one.0 (Logger one.1) one.2) one.1 refl in
        ap (λ (e : LoggerEnd F). e.files) one.3 ∙ new.1.has_files

    -- and else they are here still.
    pub files_still : left_among members ≡ None → files_left (logger_number lists) (length members) files ≡ Some files
    files_still none = dite (dec_le (length members) (logger_number lists))
        (λ few. rw (le-ltb (logger_number lists) (length members) few) refl)
        (λ more.
        let m = there_below members (logger_number lists) (omega arith) in
        let new = seated.each (logger_number lists) m.0 m.1 in
        let P : MemberDeclared → Type 0 = λ d. IsNewMember objects shared lists.channels files (logger_number lists) d m.0 in
        let logger = made_logger (logger_number lists) (subst P (some_same new.wanted WantedLogger (sym new.has_wanted ∙ logger_declared lists)) new.new) in
        absurd (none_left members (logger_number lists) logger.0 (m.1 ∙ ap Some (sym logger.1)) none))

  -- So they are the members of the session.
  module _ (members : List (MemberSeen Generator F)) (seated : AreSeated (IsNewMemberAt lists objects shared files) (member_count lists) members) where
    made_are : AreMembersOf lists objects shared members
    made_are = record {
      many = seated.many;
      each = λ client wanted member at there. let new = seated.each client member there in
          subst (λ (d : MemberDeclared). IsMemberOf objects shared lists.channels client d member) (some_same new.wanted wanted (sym new.has_wanted ∙ at))
          (new_member_is objects shared lists.channels files client new.new);
    }

    pub made_members : HasNewMembers lists objects shared files members
    made_members =
        let there = logger_there lists objects shared members made_are in
        let new = new_logger_at (logger_number lists) (Logger there.0) (seated.each (logger_number lists) (Logger there.0) there.1) there.0 refl in record {
          new = seated;
          are = made_are;
          logger = there.0;
          has_logger = there.1;
          first = new.1.had_files;
          has_files = new.1.has_files;
          failed = new.1.failed;
        }
