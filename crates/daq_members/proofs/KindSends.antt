-- Each kind of member may go to another thread: a snapshot in it owns nothing.
use denote.RattleType.{RattleType}
use denote.Ref.{NamedLft}
use denote.Param.Send.{IsSend, sendable, view_send, recorded_send, struct_send}
use denote.Struct.Declared.{shape}
use Rattle.std.proofs.Crossing.{crosses}
use Rattle.buffer_core.specs.declared.port.BufferPort as BufferPort
use Rattle.daq_io.specs.declared.folder.Files as Files
use Rattle.front_ends.specs.declared.equipment.Equipment as Equipment
use Rattle.odb_watch.specs.declared.port.DatabasePort as DatabasePort
use Rattle.front_ends.proofs.front_end.FrontEnd.TheSendSync as front_end
use Rattle.analyzers.proofs.analyzer.Analyzer.TheSendSync as analyzer
use Rattle.daq_members.proofs.connected_logger.ConnectedLogger.TheSendSync as connected
use Rattle.daq_members.proofs.engine_client.EngineClient.TheSendSync as client
use Rattle.daq_members.proofs.sent_key.SentKey.TheSendSync as key
use Rattle.daq_members.specs.contracts.connected_logger.ConnectedLogger as connected_logger
use Rattle.daq_members.specs.contracts.engine_client.MemberClient as member_client
use Rattle.daq_members.specs.contracts.engine_client.MemberClient.TheInside as client_inside
use Rattle.daq_members.specs.contracts.front_member.FrontMember as front_member
use Rattle.daq_members.specs.contracts.front_member.FrontMember.TheInside as front_inside
use Rattle.daq_members.specs.contracts.logger_member.LoggerMember as logger_member
use Rattle.daq_members.specs.contracts.logger_member.LoggerMember.TheInside as logger_inside
use Rattle.daq_members.specs.contracts.analyzer_member.AnalyzerMember as analyzer_member
use Rattle.daq_members.specs.contracts.analyzer_member.AnalyzerMember.TheInside as analyzer_inside
use Rattle.daq_members.specs.contracts.traced_port.TracedPort as traced_port
use Rattle.daq_members.specs.contracts.traced_port.TracedPort.TheInside as traced_inside

client_send : (a : NamedLft) (X : RattleType) → IsSend (member_client.the_row a X)
client_send a X = view_send _ _ _ _ _ (recorded_send (client_inside.the_field a X).row _ _ (client_inside.the_type a X).to_one
    (struct_send (shape (client_inside.the_type a X)) (client.the_send a, (search (sendable, crosses), tt))))

traced_send : (P : RattleType) (p : BufferPort.Ghosts P.Denot) → IsSend P → IsSend (traced_port.the_row P p)
traced_send P p sp = view_send _ _ _ _ _ (recorded_send (traced_inside.the_field P p).row _ _ (traced_inside.the_type P p).to_one
    (struct_send (shape (traced_inside.the_type P p)) (sp, (search (sendable, crosses), (search (sendable, crosses), tt)))))

module _ (a : NamedLft) (E P D : RattleType) (e : Equipment.Ghosts E.Denot) (p : BufferPort.Ghosts P.Denot) (d : DatabasePort.Ghosts D.Denot) where
  pub front_send : IsSend E → IsSend P → IsSend D → IsSend (front_member.the_row a E P D e p d)
  front_send se sp sd = view_send _ _ _ _ _ (recorded_send (front_inside.the_field a E P D e p d).row _ _ (front_inside.the_type a E P D e p d).to_one
      (struct_send (shape (front_inside.the_type a E P D e p d)) (client_send a D, (key.the_field_send, (front_end.the_send E e se, (traced_send P p sp, (sd, tt)))))))

module _ (a : NamedLft) (P F : RattleType) (p : BufferPort.Ghosts P.Denot) (f : Files.Ghosts F.Denot) where
  pub logger_send : IsSend P → IsSend F → IsSend (logger_member.the_row a P F p f)
  logger_send sp sf = view_send _ _ _ _ _ (recorded_send (logger_inside.the_field a P F p f).row _ _ (logger_inside.the_type a P F p f).to_one
      (struct_send (shape (logger_inside.the_type a P F p f)) (client_send a (connected_logger.the_row P F p f), (connected.the_send P F p f sp sf, (search (sendable, crosses), tt)))))

module _ (a : NamedLft) (P : RattleType) (p : BufferPort.Ghosts P.Denot) where
  pub analyzer_send : IsSend P → IsSend (analyzer_member.the_row a P p)
  analyzer_send sp = view_send _ _ _ _ _ (recorded_send (analyzer_inside.the_field a P p).row _ _ (analyzer_inside.the_type a P p).to_one
      (struct_send (shape (analyzer_inside.the_type a P p)) (client_send a P, (analyzer.the_send, (sp, tt)))))
