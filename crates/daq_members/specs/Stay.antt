-- The members of a session behind turns of their own.
use Rattle.std.specs.Prelude.{◌≡◌, ℕ, List, slice_get, Some, All}
use Rattle.std.specs.List.{AllZip}
use Rattle.member_crew.specs.Turns.{CameBack}
use Rattle.daq_members.specs.LoggerSeats.{LoggerSeen}
use Rattle.daq_members.specs.Members.{MemberSeen, MemberTold, Logger, KeepsContract, TurnsMember, StaysLogger, IsSameMember}

module _ {E F : Type 0} (told : MemberTold E F) where
  -- Each of these members, which stand by their client numbers, keeps the contract of its kind.
  abbrev pub KeepContracts : List (MemberSeen E F) → Type 0
  KeepContracts members = (client : ℕ) → (member : MemberSeen E F) → slice_get members client ≡ Some member → KeepsContract told member

  -- The same members, each at its place, behind turns of their own, and each keeps its contract. A logger among them is the same
  -- one, and noted each fault of the run files meanwhile.
  pub record StayMembers (before after : List (MemberSeen E F)) : Type 0 where
    pub same : AllZip (IsSameMember told) before after
    pub keep : KeepContracts after
    pub logger : (client : ℕ) → (logger : LoggerSeen F) → slice_get before client ≡ Some (Logger logger) →
        (later : LoggerSeen F) × (slice_get after client ≡ Some (Logger later)) × StaysLogger told logger later

  -- Members that came back behind turns of their own, and each keep their contract, are the same ones.
  abbrev pub MembersStay : Type 0
  MembersStay = (before after : List (MemberSeen E F)) → CameBack (TurnsMember told) before after →
      All (KeepsContract told) after → StayMembers before after
