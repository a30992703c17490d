use Rattle.world.specs.Events.{event_of}
use Rattle.drivers.specs.Grammar.{most_numbers, offer_in}
use Rattle.drivers.specs.Parts.{first_number, parts_left}
use Rattle.drivers.proofs.Turns.{handed, none_after, no_offer, offer_is}
use Rattle.drivers.proofs.numbers.offer.Goals as goal

pub returns-in_err-lsn : goal.returns-in_err-lsn
returns-in_err-lsn c =
    let words = parts_left c.args.words in
    let second = parts_left c.take_id.new.self in
    let third = parts_left c.take_id-2.new.self in
    handed (λ number. (number, parts_left c.take_lsn.new.self)) (first_number most_numbers third) event_of (offer_in words) c.in_err-lsn.field-0.0 c.from_residual-in_err-lsn.result
    (no_offer c.in_ok-group.group c.in_ok-member.member words second third c.in_ok-group.ensures.number c.in_ok-member.ensures.number) c.in_err-lsn.ensures c.from_residual-in_err-lsn.ensures.1

pub returns : goal.returns
returns c = offer_is c.in_ok-group.group c.in_ok-member.member (parts_left c.args.words) (parts_left c.take_id.new.self) (parts_left c.take_id-2.new.self) c.in_ok-group.ensures.number c.in_ok-member.ensures.number c.in_ok-lsn.lsn (parts_left c.take_lsn.new.self) c.in_ok-lsn.ensures (none_after (parts_left c.take_lsn.new.self) c.in_ok-end.field-0 c.in_ok-end.ensures)
