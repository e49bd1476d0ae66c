-- A turn of a member, by what the engine replied and what was owed.
use Rattle.std.specs.Prelude.{◌≡◌, ℕ, List, Option, Some, None}
use Rattle.std.proofs.Common.{sym, subst}
use Rattle.daq_types.specs.declared.runs.Order.{Order}
use Rattle.daq_types.specs.declared.runs.Transition.{Transition}
use Rattle.event_report.specs.Reports.{Totals}
use Rattle.transitions.specs.declared.replies.Polled.TheVariants.{Turn}
use Rattle.daq_members.specs.OwnTurns.{start_owed}
use Rattle.daq_members.specs.FrontTaken.{FrontTaken, TakesFrontTurn, FinishesFront, TakesFrontBy, TakesFront}
use Rattle.daq_members.specs.LoggerTaken.{LoggerTaken, TakesLoggerTurn, FinishesTurn, TakesLoggerBy, TakesLogger}

module _ (transition : Transition) (order : Order) (dump : Option (List ℕ)) (blank : Option Totals) where
  pub front_taken : (t : FrontTaken) → start_owed t.client t.calls ≡ None → TakesFrontTurn t transition order (Turn transition order dump blank) → TakesFront t
  front_taken t none turn = record {
    reply = Turn transition order dump blank;
    takes = subst (λ (o : Option ℕ). TakesFrontBy (Turn transition order dump blank) o t) (sym none) turn;
  }

  pub front_finished : (t : FrontTaken) (start : ℕ) → start_owed t.client t.calls ≡ Some start → FinishesFront t start (Turn transition order dump blank) → TakesFront t
  front_finished t start owed turn = record {
    reply = Turn transition order dump blank;
    takes = subst (λ (o : Option ℕ). TakesFrontBy (Turn transition order dump blank) o t) (sym owed) turn;
  }

  pub logger_taken : (t : LoggerTaken) → start_owed t.client t.calls ≡ None → TakesLoggerTurn t transition order dump (Turn transition order dump blank) → TakesLogger t
  logger_taken t none turn = record {
    reply = Turn transition order dump blank;
    takes = subst (λ (o : Option ℕ). TakesLoggerBy (Turn transition order dump blank) o t) (sym none) turn;
  }

  pub logger_finished : (t : LoggerTaken) (start : ℕ) → start_owed t.client t.calls ≡ Some start → FinishesTurn t (Turn transition order dump blank) → TakesLogger t
  logger_finished t start owed turn = record {
    reply = Turn transition order dump blank;
    takes = subst (λ (o : Option ℕ). TakesLoggerBy (Turn transition order dump blank) o t) (sym owed) turn;
  }
