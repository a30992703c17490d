use Rattle.std.proofs.Common.{◌≤◌, ℕ, length, is_ok, ap, arith, length-drop}
use Rattle.redo_record.specs.Head.{head_in}
use Rattle.redo_record.specs.Packet.{packet_redo}
use Rattle.redo_record.proofs.Spelled.{allowed_facts}
use Rattle.redo_record.proofs.Checked.{IsSpelling, spelling-of_ok, spelling-again}
use Rattle.redo_record.proofs.packet.Packet.from_bytes.Goals as goal
use Rattle.std.proofs.lemmas.Grind.{common_steps}
use Rattle.std.proofs.Common.{rules}

pub write-requires : goal.write-requires
write-requires c =
    let is : IsSpelling c.args.bytes.now = spelling-of_ok c.args.bytes.now (ap is_ok c.in_ok-_head.ensures.exact) in
    let few : (head_in c.args.bytes.now).length ≤ 64 = (allowed_facts (head_in c.args.bytes.now) is.allowed).not_more in
    omega (arith, few, is.whole, length-drop 45 c.args.bytes.now, ap (length {A = ℕ}) c.new-text.ensures)

pub invariant_of-result : goal.invariant_of-result
invariant_of-result c =
    let is : IsSpelling c.args.bytes.now = spelling-of_ok c.args.bytes.now (ap is_ok c.in_ok-_head.ensures.exact) in
    search (rules, c.in_ok-_head.ensures.exact, c.type_inv.bytes, is_ok, spelling-again)

pub returns : goal.returns
unfolding packet_redo
returns c = grind (arith, common_steps)
