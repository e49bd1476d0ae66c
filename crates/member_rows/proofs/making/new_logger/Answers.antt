use Rattle.member_rows.specs.LoggerRows.{AreRowRooms}
use Rattle.member_rows.proofs.RowSteps.{new_row}
use Rattle.member_rows.proofs.making.new_logger.Goals as goal

pub returns : goal.returns
returns c = λ ports seen are.
    let rooms : AreRowRooms c.args.channels c.args.buffers c.as_slice.result.now = rw c.as_slice.ensures.value c.in_ok-rooms.ensures in
    new_row c.in_ok-logger.logger c.in_ok-specs.specs c.as_slice.result.now c.args.channels c.args.buffers ports seen c.requires.some c.in_ok-specs.ensures rooms are c.in_ok-logger.ensures.made c.in_ok-logger.ensures.run c.in_ok-logger.ensures.small c.in_ok-logger.ensures.idle c.in_ok-logger.ensures.ready
