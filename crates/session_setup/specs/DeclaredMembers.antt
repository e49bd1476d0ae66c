-- The members of a session as they were declared, by their client numbers: how each is registered, and which objects it calls.
use Rattle.std.specs.Prelude.{ℕ, suc, ◌==◌, ◌++◌, ◌∷◌, Bool, true, false, List, map, length, Option, Some, None}
use Rattle.transitions.specs.declared.sequences.Role.{Role}
use Rattle.transitions.specs.declared.sequences.Role.TheVariants as roles
use Rattle.mid_logger.specs.ChannelTurns.{logger_name}
use Rattle.session_setup.specs.declared.declared.AnalyzerDeclared.{AnalyzerDeclared}
use Rattle.session_setup.specs.declared.declared.DeclaredLists.{DeclaredLists}
use Rattle.session_setup.specs.declared.declared.FrontDeclared.{FrontDeclared}
use Rattle.session_setup.specs.declared.member.MemberDeclared.{MemberDeclared}
use Rattle.session_setup.specs.declared.member.MemberDeclared.TheVariants.{FrontEnd, Logger, Analyzer}

-- the front-ends, the logger, and the analyzers
abbrev pub declared_members : DeclaredLists → List MemberDeclared
declared_members lists = map FrontEnd lists.fronts ++ (Logger ∷ map Analyzer lists.analyzers)

-- how many they are
abbrev pub member_count : DeclaredLists → ℕ
member_count lists = length (declared_members lists)

-- the logger's client number
abbrev pub logger_number : DeclaredLists → ℕ
logger_number lists = length lists.fronts

-- how many callers each object of a session with these members has: the main thread, and each member
abbrev pub caller_count : DeclaredLists → ℕ
caller_count lists = suc (member_count lists)

-- As what a member is registered.

-- what it does
abbrev pub role_of_member : MemberDeclared → Role
role_of_member (FrontEnd front) = roles.FrontEnd
role_of_member Logger = roles.Logger
role_of_member (Analyzer analyzer) = roles.Analyzer

-- its name, which is declared but for the logger's
abbrev pub name_of_member : MemberDeclared → List ℕ
name_of_member (FrontEnd front) = front.name
name_of_member Logger = logger_name
name_of_member (Analyzer analyzer) = analyzer.name

-- Which objects a member calls, besides the engine, which each member asks.

-- the number of the one buffer that it calls, where it calls one alone
abbrev pub own_buffer : MemberDeclared → Option ℕ
own_buffer (FrontEnd front) = Some front.buffer
own_buffer Logger = None
own_buffer (Analyzer analyzer) = Some analyzer.buffer

-- it calls the buffer of this number
abbrev pub calls_buffer : (buffer : ℕ) → Option MemberDeclared → Bool
calls_buffer buffer None = false
calls_buffer buffer (Some (FrontEnd front)) = front.buffer == buffer
calls_buffer buffer (Some Logger) = true
calls_buffer buffer (Some (Analyzer analyzer)) = analyzer.buffer == buffer

-- it calls the database
abbrev pub calls_database : Option MemberDeclared → Bool
calls_database None = false
calls_database (Some (FrontEnd front)) = true
calls_database (Some Logger) = false
calls_database (Some (Analyzer analyzer)) = false
