-- A member by its kind, as it is seen.
use Rattle.daq_members.specs.declared.member.MemberKind.{MemberKind}
use Rattle.daq_members.specs.declared.member.MemberKind.TheVariants.{FrontEnd as FrontKind, Logger as LoggerKind, Analyzer as AnalyzerKind}
use Rattle.daq_members.specs.Members.{MemberSeen, FrontEnd, Logger, Analyzer}

-- what is seen of a member of this kind
abbrev pub member_seen : {E P D F : Type 0} → MemberKind E P D F → MemberSeen E F
member_seen (FrontKind front) = FrontEnd front
member_seen (LoggerKind logger) = Logger logger
member_seen (AnalyzerKind analyzer) = Analyzer analyzer
