use Rattle.std.proofs.Common.{◌++◌, ◌∷◌, [], ℕ, List, take, sym, subst, ◌∙◌}
use Rattle.odb_runinfo.specs.RunSets.{sent_key_made}
use Rattle.session_commands.specs.RunLines.{MakesKeys}
use Rattle.session_commands.proofs.KeyLaws.{calls_more, keys_more, take_next}
use Rattle.session_commands.proofs.keys.make_keys.Goals as goal

pub loop-front-preserved : goal.loop-front-preserved
loop-front-preserved g c =
    let so_far = c.loop-front.invariant in
    let asked = c.in_ok-open_front.ensures.asked in
    let same = c.open_front.ensures.same in
    let name = c.front-item.result in
    let fronts = c.args.fronts.now in
    let i = c.loop-front.front-index in
    let keys = so_far.made.0 ++ sent_key_made name asked.reply ∷ [] in
    record {
      made = (
        keys,
        subst (λ (names : List (List ℕ)). MakesKeys names keys) (sym (take_next fronts i name c.loop-front-test.true c.front-item.is))
            (keys_more (take i fronts) so_far.made.0 name asked.reply asked.settled so_far.made.1),
        calls_more so_far.made.0 _ _ _ _ so_far.made.2 asked.called,
      );
      main = same.caller ∙ so_far.main;
      same = record {
        database = same.database ∙ so_far.same.database;
        caller = same.caller ∙ so_far.same.caller;
      };
    }
