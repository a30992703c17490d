-- The definitions that other crates cite, passed on from one place. Declares nothing.
pub use Rattle.redo_record.specs.Payload.{HasRoom, payload_bytes}
pub use Rattle.redo_record.specs.Record.{redo_of}
unfoldable pub use Rattle.redo_record.specs.SharedRecord.{shared_redo}
pub use Rattle.redo_record.specs.SharedList.{IsGroupChain, IsVolumeChain}
pub use Rattle.redo_record.specs.Run.{run_packets, run_records, runs_in}
pub use Rattle.redo_record.specs.Joined.{joined}
pub use Rattle.redo_record.specs.RunPlaces.{IsPlaceIn, index_of, record_before}
pub use Rattle.redo_record.specs.Records.{left_of, packets_left}
pub use Rattle.redo_record.specs.Ranges.{HasRanges}
pub use Rattle.redo_record.specs.Head.{head_in, is_allowed, redo_from}
unfoldable pub use Rattle.redo_record.specs.Spelling.{decoded, spelled}
pub use Rattle.redo_record.specs.Order.{ComesAfter, IsInOrder}
pub use Rattle.redo_record.specs.Places.{IsHeldIn, IsPlaceFor}
pub use Rattle.redo_record.specs.Union.{all_records}
pub use Rattle.redo_record.specs.RecordSet.{HasRoomAt, StandsAt, packets_of, records_of, runs_of}
