use Rattle.std.specs.Prelude.{ℕ, Some}
use Rattle.std.proofs.Common.{subst}
use Rattle.mid_logger.specs.Channels.{written_run}
use Rattle.mid_logger.specs.ChannelEnds.{NamesRun}
use Rattle.mid_logger.proofs.FirstFault.{drop_named, closing_named}
use Rattle.mid_logger.proofs.channel.Channel.drop_files.Goals as goal

pub returns-in-Err-clause-first : goal.returns-in-Err-clause-first
returns-in-Err-clause-first g c =
    subst (λ (n : ℕ). NamesRun c.args.self.now.spec (Some c.args.opened) (written_run c.args.self.now.stage) n (g.F.Files.told c.args.files.now).first (g.F.Files.told c.remove_files-removed.new.files).first) c.files_by-many.ensures
    (drop_named c.args.self.now.spec c.args.opened _ (written_run c.args.self.now.stage) _ _ _ _ _ _ c.close_written-closed.ensures.first
    (closing_named _ _ _ _ _ c.requires.file c.close_written-closed.ensures.some)
    c.remove_files-removed.ensures.quiet c.remove_files-removed.ensures.first)
