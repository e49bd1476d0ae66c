use Rattle.std.proofs.Common.{◌≡◌, List, ◌++◌, length, true, ap, sym, subst, ◌∙◌, arith}
use Rattle.std.specs.Prelude.{IsTrue, if◌then◌else◌}
use Rattle.daq_types.specs.declared.runs.RunState.{RunState}
use Rattle.transitions.specs.States.{is_allowed}
use Rattle.transitions.specs.declared.called.Called.{Called}
use Rattle.transitions.specs.declared.engine.Engine.TheInside.{Inside}
use Rattle.transitions.specs.Limits.{most_clients, most_tallies}
use Rattle.transitions.specs.EngineCalls.{state_with, is_due_off}
use Rattle.transitions.specs.EngineInside.{IsEngine, most_at}
use Rattle.transitions.proofs.Groups.{due_none}
use Rattle.transitions.proofs.EngineKept.{open_state, due_refused, due_not_off, refusal_in, most_in}
use Rattle.transitions.proofs.engine.Engine.settle.Goals as goal
use Rattle.transitions.proofs.engine.Engine.settle.Goals.{then-is_due, else-is_due}

pub invariant_of-self : goal.invariant_of-self
invariant_of-self g c =
    let kept = c.self.invariant in
    let i = c.self.inside in
    let stage = c.in-Some.stage in
    elim c.if-is_due.branch [
      | then-is_due w ↦
          let due : is_due_off stage.refusal i.polled.items stage.off ≡ true =
          sym (w.if-is_due.ensures ∙ ap (λ (ps : List Called). is_due_off stage.refusal ps stage.off) c.as_slice.ensures.value) in
          let nobody : length i.polled.items ≡ 0 = ap length (due_none stage.refusal i.polled.items stage.off due) in
          let before : most_at stage ≡ most_clients = ap (λ (off : _). if off then most_tallies else most_clients) (due_not_off stage.refusal i.polled.items stage.off due) in
          subst (λ (x : Inside _). IsEngine g.R.ClientReport.is_blank c.find_state-self-inside.result x.clients x.stage x.dump x.blanks x.called x.polled x.tallies) (sym w.self-inside-is) (record {
            clients_fit = kept.clients_fit;
            called_fit = w.call_clients.ensures.room;
            polled_fit = kept.polled_fit;
            open_fit = omega (arith, nobody, w.call_clients.ensures.room.counted, w.call_clients.ensures.room.fits);
            tallies_fit = λ now e.
                let at : most_tallies ≡ most_at now = ap most_in e in
                let told = kept.tallies_fit stage c.in-Some.is in
                omega (arith, nobody, before, at, told, w.call_clients.ensures.room.counted, w.call_clients.ensures.room.fits);
            allowed = λ now e none more. absurd (due_refused stage.refusal i.polled.items stage.off due (ap refusal_in e ∙ none));
            short = kept.short;
            blank = kept.blank;
          })
      | else-is_due w ↦
          subst (λ (x : Inside _). IsEngine g.R.ClientReport.is_blank c.find_state-self-inside.result x.clients x.stage x.dump x.blanks x.called x.polled x.tallies) (sym w.self-inside-is) (record {
            clients_fit = kept.clients_fit;
            called_fit = kept.called_fit;
            polled_fit = kept.polled_fit;
            open_fit = kept.open_fit;
            tallies_fit = kept.tallies_fit;
            allowed = λ now e none more.
                let state_is : c.find_state-self-inside.result ≡ i.state =
                c.find_state-self-inside.ensures
                ∙ (ap (λ (ps : List Called). state_with c.if-is_due.self-inside.state stage.transition stage.refusal (ps ++ c.as_slice-3.result.now)) c.as_slice-2.ensures.value
                ∙ (ap (λ (cs : List Called). state_with c.if-is_due.self-inside.state stage.transition stage.refusal (c.if-is_due.self-inside.polled.items ++ cs)) c.as_slice-3.ensures.value
                ∙ (ap (λ (x : Inside _). state_with x.state stage.transition stage.refusal (x.polled.items ++ x.called.items)) w.self-inside-is
                ∙ open_state i.state stage.transition stage.refusal i.polled.items i.called.items more))) in
                subst (λ (s : RunState). IsTrue (is_allowed s now.transition)) (sym state_is) (kept.allowed now e none more);
            short = kept.short;
            blank = kept.blank;
          })
    ]
