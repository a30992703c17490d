use Rattle.std.proofs.Common.{◌≡◌, ◌+◌, ◌-◌, ◌^◌, ◌≤◌, ◌++◌, true, drop, take, length, max}
use Rattle.volume_model.specs.Common.{every, last_lsn, place_of, is_change, issued_log, issued_writes}
use Rattle.wire.specs.Common.{listed, messages_of}
use Rattle.writer_core.specs.Log.{found_of, log_in, packets_in, room_in}
use Rattle.writer_core.specs.LastLsns.{AreLastsOf}
use Rattle.writer_core.specs.Groups.{groups_in}
use Rattle.writer_core.specs.Changes.{changes_of}
use Rattle.writer_core.proofs.issuing.append.Given as goal

abbrev pub invariant-loop-i : goal.invariant-loop-i
invariant-loop-i l = record {
  lasts : AreLastsOf l.last_lsns (packets_in l.log);
  spare : length l.changes - l.i ≤ room_in l.log;
  room : max (last_lsn (log_in l.log)) l.span.start + length (drop l.i l.changes) ≤ 2 ^ 62;
  good : every (is_change (length (groups_in l.group_states))) (changes_of (drop l.i l.changes)) ≡ true;
  logged : issued_log l.span.volume l.span.start (changes_of (drop l.i l.changes)) (log_in l.log) ≡ issued_log l.span.volume l.span.start (changes_of l.changes) (log_in l.initial.log);
  written : messages_of (listed l.messages) ++ issued_writes l.span.volume (place_of (groups_in l.group_states)) l.span.start (changes_of (drop l.i l.changes)) (log_in l.log)
      ≡ messages_of (listed l.initial.messages) ++ issued_writes l.span.volume (place_of (groups_in l.group_states)) l.span.start (changes_of l.changes) (log_in l.initial.log);
  front : take (length (packets_in l.initial.log)) (packets_in l.log) ≡ packets_in l.initial.log;
  found : found_of l.log ≡ found_of l.initial.log;
}
