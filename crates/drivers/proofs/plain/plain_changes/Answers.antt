use Rattle.std.proofs.Common.{◌≡◌, ◌∙◌, arith, sym, length, take, length-take-le}
use Rattle.drivers.specs.Grammar.{changes_in}
use Rattle.drivers.specs.Words.{words_in}
use Rattle.drivers.proofs.PlainChanges.{last_one, none_left, one_more}
use Rattle.drivers.proofs.plain.plain_changes.Goals as goal

pub new-requires : goal.new-requires
new-requires c =
    let room = c.in-Some-put_bytes.ensures.1 in
    let many : length (take c.in-Some-put_bytes.count c.put_bytes.new.bytes) ≡ c.in-Some-put_bytes.count = length-take-le c.in-Some-put_bytes.count c.put_bytes.new.bytes (omega (arith, c.put_bytes.array_long, room.not_more)) in
    record { room = record { not_empty = omega (arith, many, room.not_empty); not_more = omega (arith, many, room.not_more) } }

pub returns-then-is_empty : goal.returns-then-is_empty
returns-then-is_empty c =
    let l = c.loop-group in
    let place = c.in-Some in
    let put = c.in-Some-put_bytes in
    last_one l.rest.now place.group place.block place.offset place.digits.now (take put.count c.put_bytes.new.bytes) put.more.now place.ensures put.ensures.0
    (changes_in (words_in c.args.text.now)) l.changes.items c.push.new.self.items c.in_ok-new.field-0 l.invariant.before c.in_ok-new.ensures c.in_ok-push.ensures.items (none_left put.more.now (sym c.is_empty.ensures ∙ c.if-is_empty.true))

pub loop-group-preserved : goal.loop-group-preserved
loop-group-preserved c =
    let l = c.loop-group in
    let place = c.in-Some in
    let put = c.in-Some-put_bytes in
    record {
      before = one_more l.rest.now place.group place.block place.offset place.digits.now (take put.count c.put_bytes.new.bytes) put.more.now place.ensures put.ensures.0
          (changes_in (words_in c.args.text.now)) l.changes.items c.push.new.self.items c.in_ok-new.field-0 l.invariant.before c.in_ok-new.ensures c.in_ok-push.ensures.items c.in-Some-after.more.now c.in-Some-after.ensures;
      size = c.put_bytes.array_long;
    }
