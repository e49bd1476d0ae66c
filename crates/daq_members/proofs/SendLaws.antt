-- A member may go to another thread.
use denote.RattleType.{RattleType}
use denote.Ref.{NamedLft}
use denote.Param.Send.{IsSend, view_send, recorded_send, struct_send, enum_send}
use denote.Struct.Declared.{shape}
use denote.Enum.Declared.{shape as enum_shape}
use Rattle.buffer_core.specs.declared.port.BufferPort as BufferPort
use Rattle.daq_io.specs.declared.folder.Files as Files
use Rattle.front_ends.specs.declared.equipment.Equipment as Equipment
use Rattle.odb_watch.specs.declared.port.DatabasePort as DatabasePort
use Rattle.daq_members.proofs.KindSends.{front_send, logger_send, analyzer_send}
use Rattle.daq_members.specs.contracts.member.MemberKind as kind
use Rattle.daq_members.specs.contracts.member.Member as member
use Rattle.daq_members.specs.contracts.member.Member.TheInside as inside

module _ (a : NamedLft) (E P D F : RattleType) (e : Equipment.Ghosts E.Denot) (p : BufferPort.Ghosts P.Denot) (d : DatabasePort.Ghosts D.Denot) (f : Files.Ghosts F.Denot) where
  kind_send : IsSend E → IsSend P → IsSend D → IsSend F → IsSend (kind.the_field a E P D F e p d f).row
  kind_send se sp sd sf = enum_send (enum_shape (kind.the_type a E P D F e p d f))
      ((front_send a E P D e p d se sp sd, tt), ((logger_send a P F p f sp sf, tt), ((analyzer_send a P p sp, tt), tt)))

  pub member_send : IsSend E → IsSend P → IsSend D → IsSend F → IsSend (member.the_row a E P D F e p d f)
  member_send se sp sd sf = view_send _ _ _ _ _ (recorded_send (inside.the_field a E P D F e p d f).row _ _ (inside.the_type a E P D F e p d f).to_one
      (struct_send (shape (inside.the_type a E P D F e p d f)) (kind_send se sp sd sf, tt)))
