-- A pull and the calling off of a run make no request, so what was made alone stays so.
use Rattle.std.specs.Prelude.{◌≡◌, nat_lt, ℕ, Bool, true, false, List, [], Option, Some, None}
use Rattle.std.proofs.Common.{sym, subst, inl, inr}
use Rattle.daq_types.specs.declared.events.Event.{Event}
use Rattle.buffer_core.specs.declared.entry.BufferEntry.{BufferEntry}
use Rattle.buffer_core.specs.declared.replies.Received.{Received}
use Rattle.buffer_core.specs.declared.replies.Received.TheVariants.{Got, Empty, NoClient, SmallBuf}
use Rattle.buffer_core.specs.Ports.{Access, GotEvent, PortCalled}
use Rattle.member_model.specs.OwnCalls.{calls_after}
use Rattle.member_model.specs.FairCalls.{AreLoneRequests}
use Rattle.member_model.proofs.FairLaws.{NoRequest, lone-push}
use Rattle.mid_logger.specs.declared.stage.BegunRun.{BegunRun}
use Rattle.mid_logger.specs.declared.stage.ChannelRun.{ChannelRun}
use Rattle.mid_logger.specs.Channels.{reading_run, is_behind_end}
use Rattle.mid_logger.specs.ChannelEnds.{CancelsStanding}
use Rattle.mid_logger.specs.Pulls.{PullOf, Pulls, PullsIn, TakesReply, TakesBy, FindsNone, drains_at_none}

-- all requests on the port were made alone
abbrev pub AreLone : Access → Type 0
AreLone a = AreLoneRequests (calls_after [] a.own)

lone_same : (a b : Access) → b ≡ a → AreLone a → AreLone b
lone_same a b same are = subst AreLone (sym same) are

lone_call : (a b : Access) (e : BufferEntry) (got : List GotEvent) → PortCalled a b e got → NoRequest e → AreLone a → AreLone b
lone_call a b e got called none are = subst (λ (l : List BufferEntry). AreLoneRequests (calls_after [] l)) (sym called.own) (lone-push a.own e (none (calls_after [] a.own)) are)

pub cancels_lone : (standing : Option ChannelRun) (a b : Access) → CancelsStanding standing a b → AreLone a → AreLone b
cancels_lone None a b cancels are = lone_same a b cancels are
cancels_lone (Some opened) a b cancels are = lone_call a b _ _ cancels.1 (λ before. tt) are

takes_lone : (p : PullOf) (run : BegunRun) (place : ℕ) (e : Event) (behind early : Bool) → TakesBy behind early p run place e → AreLone p.port → AreLone p.later_port
takes_lone p run place e true early takes are = lone_call p.port p.later_port _ _ takes.port.1 (λ before. tt) are
takes_lone p run place e false true takes are = lone_same p.port p.later_port takes.port are
takes_lone p run place e false false takes are = elim takes as (λ w. AreLone p.later_port) [
  | inl writes ↦ lone_same p.port p.later_port writes.port are
  | inr breaks ↦ lone_call p.port p.later_port _ _ breaks.port.1 (λ before. tt) are
]

none_lone : (p : PullOf) (run : BegunRun) (drains : Bool) → FindsNone drains p run → AreLone p.port → AreLone p.later_port
none_lone p run true found are = lone_call p.port p.later_port _ _ found.port.1 (λ before. tt) are
none_lone p run false found are = lone_same p.port p.later_port found.port are

reply_lone : (p : PullOf) (run : BegunRun) (reply : Received) (e : Event) → TakesReply p run reply e → AreLone p.port → AreLone p.later_port
reply_lone p run (Got place start) e taken are = takes_lone p run place e (is_behind_end run.ended place) (nat_lt place run.begun) taken are
reply_lone p run (Empty gate last) e taken are = none_lone p run (drains_at_none p.stage) taken are
reply_lone p run NoClient e taken are = lone_same p.port p.later_port taken.port are
reply_lone p run (SmallBuf need) e taken are = absurd taken

in_lone : (p : PullOf) (room : ℕ) (reads : Option BegunRun) → PullsIn reads p room → AreLone p.port → AreLone p.later_port
in_lone p room None pulls are = lone_same p.port p.later_port pulls.port are
in_lone p room (Some run) pulls are =
    reply_lone (record p { port = pulls.middle }) run pulls.reply pulls.event pulls.taken (lone_call p.port pulls.middle _ _ pulls.received (λ before. tt) are)

pub pull_lone : (p : PullOf) (room : ℕ) → Pulls p room → AreLone p.port → AreLone p.later_port
pull_lone p room pulls are = in_lone p room (reading_run p.stage) pulls are
