use Rattle.std.proofs.Common.{◌≡◌, ◌-◌, length, take, drop, replicate}
use Rattle.daq_types.proofs.padding.padded.Given as goal

abbrev pub invariant-loop-place : goal.invariant-loop-place
invariant-loop-place g l = record {
  whole : length l.bytes ≡ g.row.N;
  head : take l.place l.bytes ≡ take l.place l.text;
  rest : drop l.place l.bytes ≡ replicate (g.row.N - l.place) 0;
}
