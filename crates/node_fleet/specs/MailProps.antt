-- Facts about seats and mailboxes have at most one proof, so that they can be ghost fields.
use Rattle.std.proofs.Props.{props}
use Rattle.std.proofs.Common.{ℕ, List, [], ◌∷◌, Option, Some, None}
use Rattle.node_fleet.specs.declared.mailbox.MailSeat.{MailSeat}
use Rattle.node_fleet.specs.declared.mailboxes.MailSeats.{MailSeats}
use Rattle.node_fleet.specs.Seats.{MailboxId}
use Rattle.node_fleet.specs.declared.mailbox.Mailbox.{Mailbox}
use Rattle.node_fleet.specs.Mails.{Fits, FitEach, AreSeatsIn, IsNew}

fits_prop : (m : Option MailboxId) (s : Option MailSeat) → IsProp (Fits m s)
fits_prop None None = hlevel props
fits_prop None (Some s) = hlevel props
fits_prop (Some m) None = hlevel props
fits_prop (Some m) (Some s) = hlevel props

fit_each_prop : (ms : List (Option MailboxId)) (ss : List (Option MailSeat)) → IsProp (FitEach ms ss)
fit_each_prop [] [] = hlevel props
fit_each_prop [] (s ∷ ss) = hlevel props
fit_each_prop (m ∷ ms) [] = hlevel props
fit_each_prop (m ∷ ms) (s ∷ ss) = hlevel (props, fits_prop m s, fit_each_prop ms ss)

pub seats_prop : (ids : List (Option MailboxId)) (seats : MailSeats) → IsProp (AreSeatsIn ids seats)
seats_prop ids seats = fit_each_prop ids seats.seats.items

pub new_prop : (count : ℕ) (m : Option Mailbox) → IsProp (IsNew count m)
new_prop count None = hlevel props
new_prop count (Some m) = hlevel props
