use Rattle.world.specs.Events.{event_of}
use Rattle.drivers.specs.Grammar.{most_blocks, read_in}
use Rattle.drivers.specs.Parts.{first_number, parts_left}
use Rattle.drivers.proofs.Turns.{handed, none_after, no_read, read_is}
use Rattle.drivers.proofs.numbers.read.Goals as goal

pub returns-in_err-block : goal.returns-in_err-block
returns-in_err-block c =
    let words = parts_left c.args.words in
    let second = parts_left c.take_block.new.self in
    let third = parts_left c.take_id.new.self in
    handed (λ number. (number, parts_left c.take_block-2.new.self)) (first_number most_blocks third) event_of (read_in words) c.in_err-block.field-0.0 c.from_residual-in_err-block.result
    (no_read c.in_ok-volume.volume c.in_ok-group.group words second third c.in_ok-volume.ensures.number c.in_ok-group.ensures.number) c.in_err-block.ensures.number c.from_residual-in_err-block.ensures.1

pub returns : goal.returns
returns c = read_is c.in_ok-volume.volume c.in_ok-group.group (parts_left c.args.words) (parts_left c.take_block.new.self) (parts_left c.take_id.new.self) c.in_ok-volume.ensures.number c.in_ok-group.ensures.number c.in_ok-block.block (parts_left c.take_block-2.new.self) c.in_ok-block.ensures.number (none_after (parts_left c.take_block-2.new.self) c.in_ok-end.field-0 c.in_ok-end.ensures)
