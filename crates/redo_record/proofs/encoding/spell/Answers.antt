use mir.Val.{bool_byte}
use Rattle.std.proofs.Common.{Bool, true, false, ◌≡◌, refl, arith, if◌then◌else◌}
use Rattle.redo_record.proofs.Spelled.{text, text-same, text-written, spelled-text}
use Rattle.redo_record.proofs.encoding.spell.Goals as goal
use Rattle.std.proofs.lemmas.Grind.{common_steps}

-- a flag's byte
flag : (b : Bool) → bool_byte b ≡ (if b then 1 else 0)
flag true = refl
flag false = refl

pub returns-clause-spelled : goal.returns-clause-spelled
returns-clause-spelled c = grind (arith, common_steps, c.as_slice-written.ensures.value, c.new-text.ensures, c.write.ensures, c.write-2.ensures, c.write-3.ensures, c.write-4.ensures, c.write-5.ensures, c.write-6.ensures, c.write-7.ensures, c.write-8.ensures, c.write-9.ensures, c.write-10.ensures, c.to_be_bytes.ensures, c.to_be_bytes-2.ensures, c.to_be_bytes-3.ensures, c.to_be_bytes-4.ensures, c.to_be_bytes-5.ensures, c.to_be_bytes-6.ensures, c.to_be_bytes-7.ensures, c.from.ensures, text, text-written, text-same, flag, spelled-text)

pub returns-clause-spellable : goal.returns-clause-spellable
returns-clause-spellable c = grind (arith, common_steps)
