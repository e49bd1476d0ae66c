-- The members of a session in one list, by their client numbers.
use Rattle.std.proofs.Common.{◌≡◌, ◌≢◌, ◌∙◌, ◌⊎◌, ℕ, zero, suc, ◌+◌, ◌<◌, ◌≤◌, ◌++◌, ◌∷◌, false, List, [], length, map, ap, sym, refl, subst, inl, inr, ⊎_elim, arith, eq-eqb, length-append}
use Rattle.std.specs.Prelude.{slice_get, Option, Some, None}
use Rattle.std.specs.Option.{option_map}
use Rattle.std.proofs.lemmas.List.{length-map}
use Rattle.std.proofs.lemmas.Option.{slice_get_within, slice_get-map}
use Rattle.frontend_kit.specs.declared.generator.Generator.{Generator}
use Rattle.mid_logger.specs.declared.channel_spec.ChannelSpec.{ChannelSpec}
use Rattle.odb_lock.specs.declared.shared.SharedOdb.{SharedOdb}
use Rattle.daq_members.specs.FrontSeats.{FrontSeen}
use Rattle.daq_members.specs.LoggerSeats.{LoggerSeen}
use Rattle.daq_members.specs.SeatedAnalyzers.{AnalyzerSeen}
use Rattle.daq_members.specs.Members.{MemberSeen, FrontEnd, Logger, Analyzer}
use Rattle.session_setup.specs.declared.declared.AnalyzerDeclared.{AnalyzerDeclared}
use Rattle.session_setup.specs.declared.declared.DeclaredLists.{DeclaredLists}
use Rattle.session_setup.specs.declared.declared.FrontDeclared.{FrontDeclared}
use Rattle.session_setup.specs.declared.member.MemberDeclared.{MemberDeclared}
use Rattle.session_setup.specs.declared.member.MemberDeclared.TheVariants.{FrontEnd as WantedFront, Logger as WantedLogger, Analyzer as WantedAnalyzer}
use Rattle.session_objects.specs.declared.objects.SessionObjects.{SessionObjects}
use Rattle.session_objects.specs.Calls.{Account, SessionCalls, account_or_none}
use Rattle.session_setup.specs.DeclaredMembers.{calls_buffer, calls_database, declared_members, logger_number, member_count}
use Rattle.session_objects.specs.Members.{AreMembersOf, HasAccount, HasLogger, CalledAt, AreCalledAt, IsMemberOf, FrontIs, LoggerIs, AnalyzerIs, IsFrontOf, IsLoggerOf, IsAnalyzerOf, IsOwnPort, account_of, accounts_of, front_account, logger_account, analyzer_account}
use Rattle.session_objects.specs.declared.returning.LoggerEnd.{LoggerEnd}
use Rattle.session_objects.specs.Returns.{left_also, left_among, end_of_member, logger_end}
use Rattle.session_objects.proofs.ChangeLaws.{some_same, there_below}

-- A list of those of one kind, one of another, and those of a third, in this order.
module _ {X Y Z : Type 0} (front : X → Z) (middle : Z) (last : Y → Z) where
  abbrev in_order : List X → List Y → List Z
  in_order xs ys = map front xs ++ (middle ∷ map last ys)

  pub order_length : (xs : List X) (ys : List Y) → length (in_order xs ys) ≡ length xs + 1 + length ys
  order_length xs ys =
      let all : length (in_order xs ys) ≡ length (map front xs) + length (middle ∷ map last ys) = length-append (map front xs) (middle ∷ map last ys) in
      let first : length (map front xs) ≡ length xs = length-map xs front in
      let behind : length (map last ys) ≡ length ys = length-map ys last in
      omega (arith, all, first, behind)

  pub at_front : (xs : List X) (ys : List Y) (n : ℕ) (x : X) → slice_get xs n ≡ Some x → slice_get (in_order xs ys) n ≡ Some (front x)
  at_front [] ys n x at = absurd (cc (at))
  at_front (a ∷ xs) ys zero x at = ap (option_map front) at
  at_front (a ∷ xs) ys (suc n) x at = at_front xs ys n x at

  pub at_middle : (xs : List X) (ys : List Y) (n : ℕ) → n ≡ length xs → slice_get (in_order xs ys) n ≡ Some middle
  at_middle [] ys zero e = refl
  at_middle [] ys (suc n) e = absurd (omega arith)
  at_middle (a ∷ xs) ys zero e = absurd (omega arith)
  at_middle (a ∷ xs) ys (suc n) e = at_middle xs ys n (omega arith)

  pub at_last : (xs : List X) (ys : List Y) (n k : ℕ) (y : Y) → n ≡ length xs + 1 + k → slice_get ys k ≡ Some y → slice_get (in_order xs ys) n ≡ Some (last y)
  at_last [] ys zero k y e at = absurd (omega arith)
  at_last [] ys (suc n) k y e at =
      let same : n ≡ k = omega arith in
      ap (λ (m : ℕ). slice_get (map last ys) m) same ∙ slice_get-map last ys k ∙ ap (option_map last) at
  at_last (a ∷ xs) ys zero k y e at = absurd (omega arith)
  at_last (a ∷ xs) ys (suc n) k y e at = at_last xs ys n k y (omega arith) at

  -- what stands at a place is one of these
  pub in_kinds : (xs : List X) (ys : List Y) (n : ℕ) (z : Z) → slice_get (in_order xs ys) n ≡ Some z →
      ((x : X) × (slice_get xs n ≡ Some x) × (front x ≡ z)) ⊎ (((n ≡ length xs) × (middle ≡ z))
      ⊎ ((k : ℕ) × (n ≡ length xs + 1 + k) × (y : Y) × (slice_get ys k ≡ Some y) × (last y ≡ z)))
  in_kinds [] ys zero z at = inr (inl (refl, some_same middle z at))
  in_kinds [] ys (suc n) z at = inr (inr (behind ys n z at))
    where
      behind : (ys : List Y) (n : ℕ) (z : Z) → slice_get (map last ys) n ≡ Some z → (k : ℕ) × (suc n ≡ 0 + 1 + k) × (y : Y) × (slice_get ys k ≡ Some y) × (last y ≡ z)
      behind [] n z at = absurd (cc (at))
      behind (y ∷ ys) zero z at = (0, refl, y, refl, some_same (last y) z at)
      behind (y ∷ ys) (suc n) z at = let more = behind ys n z at in let is : suc n ≡ 0 + 1 + more.0 = more.1 in (suc more.0, omega (arith, is), more.2, more.3, more.4)
  in_kinds (x ∷ xs) ys zero z at = inl (x, refl, some_same (front x) z at)
  in_kinds (x ∷ xs) ys (suc n) z at = ⊎_elim (λ h. inl h)
      (λ h. inr (⊎_elim (λ m. inl (ap suc m.0, m.1)) (λ l. let is : n ≡ length xs + 1 + l.0 = l.1 in inr (l.0, omega (arith, is), l.2, l.3, l.4)) h)) (in_kinds xs ys n z at)

-- What was declared with a client number.
module _ (lists : DeclaredLists) where
  pub declared_count : member_count lists ≡ length lists.fronts + 1 + length lists.analyzers
  declared_count = order_length WantedFront WantedLogger WantedAnalyzer lists.fronts lists.analyzers

  pub logger_declared : slice_get (declared_members lists) (logger_number lists) ≡ Some WantedLogger
  logger_declared = at_middle WantedFront WantedLogger WantedAnalyzer lists.fronts lists.analyzers (logger_number lists) refl

  module _ (n : ℕ) where
    pub declared_front : (d : FrontDeclared) → slice_get (declared_members lists) n ≡ Some (WantedFront d) → slice_get lists.fronts n ≡ Some d
    declared_front d at = ⊎_elim
        (λ h. h.1 ∙ ap Some (let same : h.0 ≡ d = cc (h.2) in same))
        (λ h. ⊎_elim (λ m. absurd (cc (m.1))) (λ l. absurd (cc (l.4))) h)
        (in_kinds WantedFront WantedLogger WantedAnalyzer lists.fronts lists.analyzers n (WantedFront d) at)

    pub declared_logger : slice_get (declared_members lists) n ≡ Some WantedLogger → n ≡ logger_number lists
    declared_logger at = ⊎_elim (λ h. absurd (cc (h.2))) (λ h. ⊎_elim (λ m. m.0) (λ l. absurd (cc (l.4))) h)
        (in_kinds WantedFront WantedLogger WantedAnalyzer lists.fronts lists.analyzers n WantedLogger at)

    pub declared_analyzer : (d : AnalyzerDeclared) → slice_get (declared_members lists) n ≡ Some (WantedAnalyzer d) → (place : ℕ) × (slice_get lists.analyzers place ≡ Some d)
    declared_analyzer d at = ⊎_elim (λ h. absurd (cc (h.2)))
        (λ h. ⊎_elim (λ m. absurd (cc (m.1))) (λ l. (l.0, l.3 ∙ ap Some (let same : l.2 ≡ d = cc (l.4) in same))) h)
        (in_kinds WantedFront WantedLogger WantedAnalyzer lists.fronts lists.analyzers n (WantedAnalyzer d) at)

    -- what is no logger does not stand at the logger's number
    pub declared_other : (d : MemberDeclared) → slice_get (declared_members lists) n ≡ Some d → d ≢ WantedLogger → n ≢ logger_number lists
    declared_other d at other is = other (some_same d WantedLogger (sym at ∙ ap (λ (k : ℕ). slice_get (declared_members lists) k) is ∙ logger_declared))

-- The account of a member stands at its client number.
pub account_there : {F : Type 0} (wanted : List MemberDeclared) (members : List (MemberSeen Generator F)) (n : ℕ) (d : MemberDeclared) (m : MemberSeen Generator F) →
    slice_get wanted n ≡ Some d → slice_get members n ≡ Some m → slice_get (accounts_of wanted members) n ≡ Some (account_of d m)
account_there [] members n d m at there = absurd (cc (at))
account_there (w ∷ ws) [] n d m at there = absurd (cc (there))
account_there {F} (w ∷ ws) (x ∷ xs) zero d m at there = ap (λ (v : MemberDeclared). Some (account_of v x)) (some_same w d at) ∙ ap (λ (y : MemberSeen Generator F). Some (account_of d y)) (some_same x m there)
account_there (w ∷ ws) (x ∷ xs) (suc n) d m at there = account_there ws xs n d m at there

pub no_account : {F : Type 0} (wanted : List MemberDeclared) (members : List (MemberSeen Generator F)) (n : ℕ) → slice_get wanted n ≡ None → slice_get (accounts_of wanted members) n ≡ None
no_account [] members n none = refl
no_account (w ∷ ws) [] n none = refl
no_account (w ∷ ws) (x ∷ xs) zero none = absurd (cc (none))
no_account (w ∷ ws) (x ∷ xs) (suc n) none = no_account ws xs n none

pub accounts_count : {F : Type 0} (wanted : List MemberDeclared) (members : List (MemberSeen Generator F)) → length members ≤ length wanted → length (accounts_of wanted members) ≡ length members
accounts_count [] members few = omega arith
accounts_count (w ∷ ws) [] few = refl
accounts_count (w ∷ ws) (x ∷ xs) few = ap suc (accounts_count ws xs (omega arith))

-- What is left by members is what the first logger among them leaves.
first_left : {F : Type 0} (members : List (MemberSeen Generator F)) (n : ℕ) (logger : LoggerSeen F) → slice_get members n ≡ Some (Logger logger) →
    ((k : ℕ) (m : MemberSeen Generator F) → k < n → slice_get members k ≡ Some m → end_of_member m ≡ None) → left_among members ≡ Some (logger_end logger)
first_left [] n logger at none = absurd (cc (at))
first_left {F} (m ∷ ms) zero logger at none = ap (λ (x : MemberSeen Generator F). left_also (end_of_member x) (left_among ms)) (some_same m (Logger logger) at)
first_left {F} (m ∷ ms) (suc n) logger at none =
    ap (λ (o : Option (LoggerEnd F)). left_also o (left_among ms)) (none 0 m (omega arith) refl) ∙ first_left ms n logger at (λ k x l there. none (suc k) x (omega arith) there)

-- What is left is left by a logger among them;
pub left_one : {F : Type 0} (members : List (MemberSeen Generator F)) (end : LoggerEnd F) → left_among members ≡ Some end →
    (n : ℕ) × (logger : LoggerSeen F) × (slice_get members n ≡ Some (Logger logger)) × (end ≡ logger_end logger)
left_one [] end is = absurd (cc is)
left_one (FrontEnd front ∷ ms) end is = let more = left_one ms end is in (suc more.0, more.1, more.2, more.3)
left_one (Logger logger ∷ ms) end is = (0, logger, refl, some_same end (logger_end logger) (sym is))
left_one (Analyzer analyzer ∷ ms) end is = let more = left_one ms end is in (suc more.0, more.1, more.2, more.3)

-- and where nothing is left none of them is a logger.
pub none_left : {F : Type 0} (members : List (MemberSeen Generator F)) (n : ℕ) (logger : LoggerSeen F) → slice_get members n ≡ Some (Logger logger) → left_among members ≡ None → ⊥
none_left [] n logger at none = cc at
none_left (FrontEnd front ∷ ms) zero logger at none = cc at
none_left (FrontEnd front ∷ ms) (suc n) logger at none = none_left ms n logger at none
none_left (Logger other ∷ ms) n logger at none = cc none
none_left (Analyzer analyzer ∷ ms) zero logger at none = cc at
none_left (Analyzer analyzer ∷ ms) (suc n) logger at none = none_left ms n logger at none

module _ {D F : Type 0} (lists : DeclaredLists) (objects : SessionObjects) (shared : SharedOdb D) (members : List (MemberSeen Generator F)) (are : AreMembersOf lists objects shared members) where
  -- One of them is the logger,
  logger_is : {m : MemberSeen Generator F} → IsMemberOf objects shared lists.channels (logger_number lists) WantedLogger m →
      (logger : LoggerSeen F) × (m ≡ Logger logger) × IsLoggerOf objects lists.channels (logger_number lists) logger
  logger_is (LoggerIs {logger = logger} is) = (logger, refl, is)

  pub logger_there : (logger : LoggerSeen F) × HasLogger lists members logger × IsLoggerOf objects lists.channels (logger_number lists) logger
  logger_there =
      let l = slice_get_within (declared_members lists) (logger_number lists) WantedLogger (logger_declared lists) in
      let m = there_below members (logger_number lists) (omega (arith, l, are.many)) in
      let so = logger_is (are.each (logger_number lists) WantedLogger m.0 (logger_declared lists) m.1) in
      (so.0, m.1 ∙ ap Some so.1, so.2)

  -- and those in front of it leave nothing,
  leaves_none : (client : ℕ) {d : MemberDeclared} {m : MemberSeen Generator F} → client < logger_number lists → slice_get (declared_members lists) client ≡ Some d →
      IsMemberOf objects shared lists.channels client d m → end_of_member m ≡ None
  leaves_none client l at (FrontIs is) = refl
  leaves_none client l at (LoggerIs is) = absurd (omega (arith, l, declared_logger lists client at))
  leaves_none client l at (AnalyzerIs is) = refl

  -- so what they leave is what the logger leaves.
  pub logger_left : (logger : LoggerSeen F) → HasLogger lists members logger → left_among members ≡ Some (logger_end logger)
  logger_left logger has = first_left members (logger_number lists) logger has (λ k m l at.
      let few = slice_get_within (declared_members lists) (logger_number lists) WantedLogger (logger_declared lists) in
      let d = there_below (declared_members lists) k (omega (arith, l, few)) in
      leaves_none k l d.1 (are.each k d.0 m d.1 at))

  -- Each of them made its own calls, where these have the accounts of all.
  pub all_called : (calls : SessionCalls) → calls.members ≡ accounts_of (declared_members lists) members → AreCalledAt lists objects shared calls members
  all_called calls told n x at =
      let l = slice_get_within members n x at in
      let d = there_below (declared_members lists) n (omega (arith, l, are.many)) in record {
        wanted = d.0;
        is = are.each n d.0 x d.1 at;
        account = record {
          has_wanted = d.1;
          told = ap (λ accounts. slice_get accounts n) told ∙ account_there (declared_members lists) members n d.0 x d.1 at;
        };
      }

-- What a member of a kind is, and called.
module _ {D F : Type 0} (lists : DeclaredLists) (objects : SessionObjects) (shared : SharedOdb D) (calls : SessionCalls) (client : ℕ) where
  front_so : {front : FrontSeen Generator} {wanted : MemberDeclared} → IsMemberOf {F = F} objects shared lists.channels client wanted (FrontEnd front) → HasAccount lists calls client wanted (account_of {F = F} wanted (FrontEnd front)) →
      (d : FrontDeclared) × IsFrontOf objects shared client d front × HasAccount lists calls client (WantedFront d) (front_account d front)
  front_so (FrontIs {wanted = d} is) account = (d, is, account)

  logger_so : {logger : LoggerSeen F} {wanted : MemberDeclared} → IsMemberOf objects shared lists.channels client wanted (Logger logger) → HasAccount lists calls client wanted (account_of wanted (Logger logger)) →
      IsLoggerOf objects lists.channels client logger × HasAccount lists calls client WantedLogger (logger_account logger)
  logger_so (LoggerIs is) account = (is, account)

  analyzer_so : {analyzer : AnalyzerSeen} {wanted : MemberDeclared} → IsMemberOf {F = F} objects shared lists.channels client wanted (Analyzer analyzer) → HasAccount lists calls client wanted (account_of {F = F} wanted (Analyzer analyzer)) →
      (d : AnalyzerDeclared) × IsAnalyzerOf objects client d analyzer × HasAccount lists calls client (WantedAnalyzer d) (analyzer_account d analyzer)
  analyzer_so (AnalyzerIs {wanted = d} is) account = (d, is, account)

  module _ (member : MemberSeen Generator F) (called : CalledAt lists objects shared calls client member) where
    abbrev At : MemberSeen Generator F → Type 0
    At x = CalledAt lists objects shared calls client x

    pub called_front : (front : FrontSeen Generator) → FrontEnd front ≡ member →
        (d : FrontDeclared) × IsFrontOf objects shared client d front × HasAccount lists calls client (WantedFront d) (front_account d front)
    called_front front is = let so : At (FrontEnd front) = subst At (sym is) called in front_so so.is so.account

    pub called_logger : (logger : LoggerSeen F) → Logger logger ≡ member → IsLoggerOf objects lists.channels client logger × HasAccount lists calls client WantedLogger (logger_account logger)
    called_logger logger is = let so : At (Logger logger) = subst At (sym is) called in logger_so so.is so.account

    pub called_analyzer : (analyzer : AnalyzerSeen) → Analyzer analyzer ≡ member →
        (d : AnalyzerDeclared) × IsAnalyzerOf objects client d analyzer × HasAccount lists calls client (WantedAnalyzer d) (analyzer_account d analyzer)
    called_analyzer analyzer is = let so : At (Analyzer analyzer) = subst At (sym is) called in analyzer_so so.is so.account

-- The port of one that calls one buffer alone.
module _ (lists : DeclaredLists) (objects : SessionObjects) (calls : SessionCalls) (client : ℕ) where
  pub front_port : {D : Type 0} (shared : SharedOdb D) (front : FrontSeen Generator) (d : FrontDeclared) → IsFrontOf objects shared client d front → HasAccount lists calls client (WantedFront d) (front_account d front) →
      IsOwnPort lists objects calls client front.port
  front_port shared front d is account = record {
    wanted = WantedFront d;
    has_wanted = account.has_wanted;
    number = d.buffer;
    has_number = refl;
    buffer = is.buffer;
    has_buffer = is.has_buffer;
    leads_to = is.port;
    caller = is.port_caller;
    told = ap (λ (o : Option Account). (account_or_none o).port d.buffer) account.told ∙ rw (eq-eqb d.buffer d.buffer refl) refl;
  }

  pub analyzer_port : (analyzer : AnalyzerSeen) (d : AnalyzerDeclared) → IsAnalyzerOf objects client d analyzer → HasAccount lists calls client (WantedAnalyzer d) (analyzer_account d analyzer) →
      IsOwnPort lists objects calls client analyzer.port
  analyzer_port analyzer d is account = record {
    wanted = WantedAnalyzer d;
    has_wanted = account.has_wanted;
    number = d.buffer;
    has_number = refl;
    buffer = is.buffer;
    has_buffer = is.has_buffer;
    leads_to = is.port;
    caller = is.port_caller;
    told = ap (λ (o : Option Account). (account_or_none o).port d.buffer) account.told ∙ rw (eq-eqb d.buffer d.buffer refl) refl;
  }

-- A member has an account of no object that those of its kind do not call.
module _ {D F : Type 0} (objects : SessionObjects) (shared : SharedOdb D) (channels : List ChannelSpec) (client : ℕ) where
  pub no_database : {wanted : MemberDeclared} {member : MemberSeen Generator F} → IsMemberOf objects shared channels client wanted member → calls_database (Some wanted) ≡ false →
      (account_of wanted member).database ≡ []
  no_database (FrontIs is) none = absurd (cc (none))
  no_database (LoggerIs is) none = refl
  no_database (AnalyzerIs is) none = refl

  pub no_port : (buffer : ℕ) {wanted : MemberDeclared} {member : MemberSeen Generator F} → IsMemberOf objects shared channels client wanted member → calls_buffer buffer (Some wanted) ≡ false →
      (account_of wanted member).port buffer ≡ None
  no_port buffer (FrontIs is) none = rw none refl
  no_port buffer (LoggerIs is) none = absurd (cc (none))
  no_port buffer (AnalyzerIs is) none = rw none refl
