-- Mailboxes whose seats are taken back from passes.
use Rattle.std.specs.Prelude.{◌≡◌, ℕ, true, List, map}
use Rattle.volume_model.specs.Common.{Plan, is_named}
use Rattle.node_fleet.specs.declared.mailbox.Mailbox.{Mailbox}
use Rattle.node_fleet.specs.declared.mailboxes.Mailboxes.{Mailboxes}
use Rattle.node_fleet.specs.declared.mailboxes.MailSeats.{MailSeats}
use Rattle.node_fleet.specs.Mail.{AreKept}
use Rattle.node_fleet.specs.Mails.{back_at, steps_at, Has}
use Rattle.journal.specs.declared.row.Site.{Ghosts as SiteGhosts}
use Rattle.node_fleet.specs.declared.site.FleetSite.{Ghosts as FleetGhosts}
use Rattle.node_fleet.specs.declared.pass.Pass.{Pass}
use Rattle.node_fleet.specs.Passes.{mail_of}

-- at each mailbox exactly the seats of these passes were taken back
abbrev pub HasAll : {X : Type 0} {f : FleetGhosts X} {s : SiteGhosts X} → Mailboxes → List (Pass X f s) → MailSeats
    → Type 0
HasAll mailboxes passes all = (slot : ℕ) (m : Mailbox) → Has mailboxes slot m → back_at all slot ≡ map
    (λ p. steps_at p.mail slot) passes

-- at the mailbox of each node that the plan names, the steps of exactly these passes follow its rule
abbrev pub MailIsKept : {X : Type 0} {f : FleetGhosts X} {s : SiteGhosts X} → Plan → List (Pass X f s) → Type 0
MailIsKept plan passes = (group member : ℕ) → is_named plan group member ≡ true
    → AreKept (map (λ p. mail_of p group member) passes)
