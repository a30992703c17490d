-- The definitions that other crates cite, passed on from one place. Declares nothing.
pub use Rattle.wire.specs.Contents.{contents_of, piece_in}
pub use Rattle.wire.specs.Message.{label_of, message_of, messages_of, place_of}
pub use Rattle.wire.specs.Listed.{listed}
