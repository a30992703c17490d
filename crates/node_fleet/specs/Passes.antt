-- A pass of a fleet as seen by contracts.
use Rattle.std.specs.Prelude.{◌≡◌, ℕ, List, [], Result}
use Rattle.volume_model.specs.declared.fault.Fault.{Fault}
use Rattle.volume_model.specs.Common.{Refusal, Event}
use Rattle.world.specs.Slots.{slot_of}
use Rattle.board.specs.declared.BoardStep.{BoardStep}
use Rattle.node_fleet.specs.declared.mailbox.MailStep.{MailStep}
use Rattle.node_fleet.specs.Mails.{steps_at, HasNoSteps}
use Rattle.journal.specs.declared.entry.Receipt.{Receipt}
use Rattle.journal.specs.declared.row.Site.{Ghosts as SiteGhosts}
use Rattle.journal.specs.Passes as journal
use Rattle.journal.specs.PassSteps.{Made}
use Rattle.node_fleet.specs.Calls.{RecordsCall}
use Rattle.node_fleet.specs.declared.site.FleetSite.{Ghosts as FleetGhosts}
use Rattle.node_fleet.specs.declared.pass.Pass.{Pass}

module _ {X : Type 0} {f : FleetGhosts X} {s : SiteGhosts X} where
  -- the steps of a pass
  abbrev pub steps_of : Pass X f s → List Made
  steps_of pass = journal.steps_of pass.entered

  -- the refusals of a pass
  abbrev pub notes_of : Pass X f s → List Refusal
  notes_of pass = journal.notes_of pass.entered

  -- what the pass raised and read on the board
  abbrev pub seat_of : Pass X f s → List BoardStep
  seat_of pass = journal.seat_of pass.entered

  -- what the pass posted and collected at the mailbox of a node
  abbrev pub mail_of : Pass X f s → ℕ → ℕ → List MailStep
  mail_of pass group member = steps_at pass.mail (slot_of group member)

  -- the pass has made no step, has no note, and has used neither the board nor a mailbox
  abbrev pub IsFresh : Pass X f s → Type 0
  IsFresh pass = (steps_of pass ≡ []) × (notes_of pass ≡ []) × (seat_of pass ≡ []) × HasNoSteps pass.mail

  -- the pass has posted and collected nothing more
  abbrev pub IsMailSame : Pass X f s → Pass X f s → Type 0
  IsMailSame before after = after.mail ≡ before.mail

  -- the pass has no more steps or notes, and hasn't used the board
  abbrev pub IsEntrySame : Pass X f s → Pass X f s → Type 0
  IsEntrySame before after = after.entered ≡ before.entered

  -- the pass has one more step, with this event and as the receipt says, or a note of the refusal
  abbrev pub Records : Event → Result Receipt Fault → Pass X f s → Pass X f s → Type 0
  Records event result before after =
      RecordsCall event result (steps_of before) (steps_of after) (notes_of before) (notes_of after)
