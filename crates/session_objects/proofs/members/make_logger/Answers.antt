use Rattle.std.proofs.Common.{◌≡◌, ◌∙◌, ℕ, List, [], length, ap, sym, subst}
use Rattle.std.specs.Prelude.{Option, slice_get}
use Rattle.std.proofs.lemmas.List.{length-map}
use Rattle.daq_io.specs.Seen.{Seen}
use Rattle.mid_logger.specs.declared.channel_spec.ChannelSpec.{ChannelSpec}
use Rattle.loggers.specs.declared.logged_run.LoggedRun.{LoggedRun}
use Rattle.loggers.specs.declared.logged_run.RunDumps.{RunDumps}
use Rattle.loggers.specs.Turning.{no_dumps}
use Rattle.loggers.specs.NewLoggers.{HasNewChannels, HaveRooms}
use Rattle.loggers.specs.LoggerStands.{LoggerStands}
use Rattle.session_objects.specs.Members.{event_rooms, event_room_of, new_ports}
use Rattle.session_objects.proofs.BareLaws.{have_ports, are_unused, have_rooms}
use Rattle.session_objects.proofs.members.make_logger.Goals as goal

pub new-requires-clause-rooms : goal.new-requires-clause-rooms
new-requires-clause-rooms c =
    ap length (c.deref.ensures.value ∙ c.in_ok-rooms.ensures ∙ ap (event_rooms c.args.buffers.now) c.as_slice.ensures)
    ∙ length-map c.args.channels (λ (channel : ChannelSpec). event_room_of (slice_get c.args.buffers.now channel.buffer))

pub returns : goal.returns
returns c =
    let e = c.in_ok-logger.ensures in
    let bs = c.args.buffers.now in
    let slots = c.in_ok-logger.logger.channels in
    let rooms : c.deref.result.now ≡ event_rooms bs c.args.channels = c.deref.ensures.value ∙ c.in_ok-rooms.ensures ∙ ap (event_rooms bs) c.as_slice.ensures in
    let Slots : List ℕ → Type 0 = λ rs. HasNewChannels c.args.channels rs slots in
    let Stands : ℕ → Seen → Option LoggedRun → RunDumps → Type 0 = λ caller seen run dumps. LoggerStands run dumps slots (new_ports bs caller) [] seen in record {
      run = e.run;
      dumps = e.dumps;
      slots = subst Slots rooms e.made;
      idle = e.idle;
      failed = e.failed;
      reasons = e.reasons;
      ready = λ caller seen. e.ready (new_ports bs caller) seen (have_ports bs caller c.args.channels c.requires.read);
      stands = λ caller seen.
          let P : Option LoggedRun → Type 0 = λ run. Stands caller seen run no_dumps in
          let Q : RunDumps → Type 0 = λ dumps. Stands caller seen c.in_ok-logger.logger.run dumps in
          subst P e.run (subst Q e.dumps (e.stands (new_ports bs caller) seen (have_ports bs caller c.args.channels c.requires.read) (are_unused bs caller)));
      room = λ caller number.
          let R : List ℕ → Type 0 = λ rs. HaveRooms c.args.channels rs (new_ports bs caller) in
          e.room (new_ports bs caller) (subst R (sym rooms) (have_rooms bs caller c.args.channels)) number;
    }
