-- So far the first members are made; their passes are out, and the run files with the logger, if it is among them.
use Rattle.std.proofs.Common.{◌≡◌}
use Rattle.session_setup.specs.DeclaredMembers.{logger_number}
use Rattle.session_objects.specs.Kept.{out_to, HasFreshBut}
use Rattle.session_objects.specs.Members.{AreSeated, IsNewMemberAt, files_left}
use Rattle.session_objects.proofs.membership.Membership.members.Given as goal

abbrev pub invariant-loop-client : goal.invariant-loop-client
invariant-loop-client g l = record {
  seated : AreSeated (IsNewMemberAt l.self.lists.now l.self.objects.now l.self.database.now l.fn.files) l.client l.members;
  files : l.run_files ≡ files_left (logger_number l.self.lists.now) l.client l.fn.files;
  out : HasFreshBut (out_to l.self.lists.now l.client) l.self.objects.now l.self.database.now l.passes;
}
