use Rattle.std.specs.Prelude.{ℕ, List}
use Rattle.std.proofs.Common.{ap, inr, refl, subst}
use Rattle.sub_files.specs.Rolls.{FailsNext}
use Rattle.mid_logger.specs.declared.channel.Channel.{Channel}
use Rattle.mid_logger.specs.Pulls.{run_series}
use Rattle.mid_logger.proofs.PullChanges.{moved_few}
use Rattle.mid_logger.proofs.channel.Channel.write.Goals as goal

pub returns-in-Err-clause-takes : goal.returns-in-Err-clause-takes
returns-in-Err-clause-takes g c = inr (record {
  fallen = c.in-Err.fallen;
  answer_is = refl;
  stage = ap (λ (x : Channel). x.stage) c.break_off.ensures.stage;
  port = c.break_off.ensures.cancelled;
  files = subst (λ (bytes : List ℕ). FailsNext (run_series c.args.self.now.spec c.args.run.opened c.args.dump.now) c.args.run.opened.at bytes c.in-Err.fallen (g.F.Files.told c.args.files.now).seen (g.F.Files.told c.write.new.files).seen)
      c.bytes-event.ensures c.in-Err.ensures.fails;
})

pub returns-in-Ok-clause-few : goal.returns-in-Ok-clause-few
returns-in-Ok-clause-few g c = λ few. rw c.keep_file.ensures (moved_few c.args.self.now.stage _ c.in-Ok.ensures.file.few few)
