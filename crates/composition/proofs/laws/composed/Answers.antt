use Rattle.composition.proofs.laws.composed.Goals as goal

pub returns : goal.returns
returns c s keep = record {
  stops_complete = c.stops.ensures s keep;
  fronts_refuse = c.starts.ensures.refused s keep;
  fronts_take = c.starts.ensures.taken s keep;
  fronts_tell = c.fronts.ensures.tell s keep;
  fronts_sent = c.fronts.ensures.sent s keep;
  fronts_stand = c.fronts.ensures.stand s keep;
  only_fronts = c.fronts.ensures.only s keep;
  segments_made = c.fronts.ensures.made s keep;
  fronts_set = c.sets.ensures.set s keep;
  stops_set = c.sets.ensures.stop s keep;
  pauses_set = c.sets.ensures.pause s keep;
  channels_told = c.files.ensures.told s keep;
  ends_told = c.files.ensures.ends s keep;
  ends_so = c.files.ensures.so s keep;
  runs_ended = c.files.ensures.ended s keep;
  no_end_refused = c.files.ensures.unrefused s keep;
  files_hold = c.files.ensures.hold s keep;
  parts_hold = c.files.ensures.parts s keep;
  reports_told = c.reports.ensures.told s keep;
  reports_so = c.reports.ensures.so s keep;
  reports_whole = c.reports.ensures.whole s keep;
  asked_at_stops = λ a has. (keep.analyzers_keep a has).asked;
  got_whole = c.reports.ensures.got s keep;
}
