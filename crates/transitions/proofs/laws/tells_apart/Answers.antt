use Rattle.transitions.proofs.Sampled.{refused_is_legal, stop_is_legal, group_is_legal, twice_is_legal, never_second_group, never_late_turn, never_early_abort, never_second_named, never_second_told, never_answered_twice, never_unasked, never_call_off_turned, never_other_named, never_refusal_told, never_dump_withheld, never_pause_stopped, never_other_state, never_out_of_order, never_before_the_answer, never_after_the_refusal, never_dump_twice, never_blank_twice, never_completed, never_done_before_all, never_tallies_out_of_order, never_state_kept, never_number_twice, never_numbered_twice}
use Rattle.transitions.proofs.laws.tells_apart.Goals as goal

pub returns : goal.returns
returns c = record {
  refusal = refused_is_legal;
  stop = stop_is_legal;
  group = group_is_legal;
  twice = twice_is_legal;
  second_group = never_second_group;
  late_turn = never_late_turn;
  early_abort = never_early_abort;
  second_refuser = never_second_named;
  second_counted = never_second_told;
  answered = never_answered_twice;
  unasked = never_unasked;
  call_off = never_call_off_turned;
  withheld = never_dump_withheld;
  refuser = never_other_named;
  counted = never_refusal_told;
  allowed = never_pause_stopped;
  other = never_other_state;
  order = never_out_of_order;
  unanswered = never_before_the_answer;
  refused = never_after_the_refusal;
  dump = never_dump_twice;
  blank = never_blank_twice;
  outcome = never_completed;
  end = never_done_before_all;
  tallies = never_tallies_out_of_order;
  state = never_state_kept;
  number = never_number_twice;
  client = never_numbered_twice;
}
