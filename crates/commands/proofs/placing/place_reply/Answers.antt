use Rattle.std.proofs.Common.{inl, inr, refl}
use Rattle.commands.specs.declared.reply.Stop.TheVariants.{NoMemory}
use Rattle.commands.proofs.Placed.{ends_in_by, refused_in}
use Rattle.commands.proofs.placing.place_reply.Goals as goal

pub returns-in-Ok-clause-ends : goal.returns-in-Ok-clause-ends
returns-in-Ok-clause-ends g c =
    record { answer = record { status = c.args.reply.status; out = c.args.reply.out.items; err = c.as_slice-in-Ok.result.now }; due = inl (rw c.as_slice-in-Ok.ensures.value refl); reaches = c.place_texts.ensures.reaches c.args.job.now.pretty c.args.reply.out.items (rw c.as_slice.ensures.value c.in-Ok.ensures) }

pub returns-clause-ends : goal.returns-clause-ends
returns-clause-ends g c = ends_in_by (refused_in {file = c.args.file.now} NoMemory c.refuse.ensures.ends) (λ a said. elim said [
  | inl e ↦ inr e
  | inr e ↦ inr e
])
