-- The base of a fleet as seen by contracts.
use Rattle.std.specs.Prelude.{◌≡◌, ℕ, List, Option, All, vec_len}
use Rattle.volume_model.specs.Common.{Plan}
use Rattle.atomic_table.specs.Seated.{TableId}
use Rattle.board.specs.Seats.{board_table}
use Rattle.node_fleet.specs.Seats.{MailboxId}
use Rattle.node_fleet.specs.Mails.{ids_of, AreNew, AreSeatsOf, HasNodes, HasNoSteps}
use Rattle.journal.specs.Fronts.{book_of}
use Rattle.node_fleet.specs.declared.base.Base.{Base}

-- the number of passes of the base
abbrev pub passes_of : Base → ℕ
passes_of base = vec_len base.seats

-- the identities of its mailboxes
abbrev pub mail_in : Base → List (Option MailboxId)
mail_in base = ids_of base.mail

-- it has a new mailbox for each node that the plan names, and unused seats for each of its passes
pub record HasMail (plan : Plan) (base : Base) : Type 0 where
  pub nodes : HasNodes plan base.mail
  pub fresh : AreNew (passes_of base) base.mail
  pub seats : All (λ s. AreSeatsOf base.mail s × HasNoSteps s) base.callers.items
  pub count : vec_len base.callers ≡ passes_of base

-- the base's board has this table, its mailboxes have these identities, and its history and ledger have these names
pub record IsBaseOf (plan : Plan) (board history : TableId) (mail : List (Option MailboxId)) (name parts : ℕ)
    (base : Base) : Type 0 where
  pub board_is : board_table base.board ≡ board
  pub history_is : book_of base.opened ≡ history
  pub mail_is : mail_in base ≡ mail
  pub has_mail : HasMail plan base
  pub name_is : base.blank.name ≡ name
  pub parts_are : passes_of base ≡ parts
