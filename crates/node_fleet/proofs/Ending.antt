-- Seats of passes that are taken back, the last pass first.
use Rattle.std.proofs.Common.{◌≡◌, ℕ, zero, suc, List, [], ◌∷◌, ◌++◌, length, map, All, Some, refl, sym, ap, ◌∙◌, subst, append_assoc, arith, slice_get}
use Rattle.std.proofs.lemmas.List.{append-nil, length-map, map-append}
use Rattle.volume_model.specs.Common.{Plan}
use Rattle.world.specs.Slots.{slot_of}
use Rattle.node_fleet.specs.declared.mailbox.Mailbox.{Mailbox}
use Rattle.node_fleet.specs.declared.mailboxes.Mailboxes.{Mailboxes}
use Rattle.node_fleet.specs.declared.mailboxes.MailSeats.{MailSeats}
use Rattle.node_fleet.specs.Mail.{AreKept}
use Rattle.node_fleet.specs.Mails.{back_at, steps_at, AreAllKept, AreNew, AreSeatsOf, AreWhole, Has, HasNodes, IsNew}
use Rattle.node_fleet.proofs.Back.{back_first}
use Rattle.node_fleet.proofs.Mails.{box_at}
use Rattle.journal.specs.declared.row.Site.{Ghosts as SiteGhosts}
use Rattle.node_fleet.specs.declared.site.FleetSite.{Ghosts as FleetGhosts}
use Rattle.node_fleet.specs.declared.pass.Pass.{Pass}
use Rattle.node_fleet.specs.Returned.{HasAll, MailIsKept}

at_slot : {A : Type 0} (P : A → Type 0) (xs : List A) (k : ℕ) (x : A) → All P xs → slice_get xs k ≡ Some x → P x
at_slot P [] k x all e = absurd cc
at_slot P (y ∷ xs) zero x all e = let same : y ≡ x = cc in subst P same (all zero y (omega arith))
at_slot P (y ∷ xs) (suc k) x all e = at_slot P xs k x (λ n d lt. all (suc n) d (omega arith)) e

module _ {A B : Type 0} (f : A → B) (all rest : List A) (x : A) (split : all ≡ rest ++ x ∷ []) where
  -- the last one is taken
  pub one_back : (back : List B) → map f rest ++ f x ∷ back ≡ map f all ++ back
  one_back back = sym (append_assoc (map f rest) (f x ∷ []) back) ∙ ap (λ l. l ++ back) (sym (ap (map f) split ∙ map-append f rest (x ∷ [])))

  pub first_back : map f rest ++ f x ∷ [] ≡ map f all
  first_back = one_back [] ∙ append-nil (map f all)

-- the seats of the first pass, as those of all that were taken back
pub first_mail : (mailboxes : Mailboxes) (seats : MailSeats) → AreSeatsOf mailboxes seats → (slot : ℕ) (m : Mailbox) → Has mailboxes slot m → back_at seats slot ≡ steps_at seats slot ∷ []
first_mail mailboxes seats fit slot m has = back_first mailboxes.boxes.items seats.seats.items fit slot m has

module _ {X : Type 0} {f : FleetGhosts X} {s : SiteGhosts X} (mailboxes : Mailboxes) (passes : List (Pass X f s)) (all : MailSeats) (has_all : HasAll mailboxes passes all) where
  pub mail_whole : (count : ℕ) → AreNew count mailboxes → length passes ≡ count → AreWhole mailboxes all
  mail_whole count new many slot m has =
      let fresh : IsNew count (Some m) = at_slot (IsNew count) mailboxes.boxes.items slot (Some m) new has in
      ap length (has_all slot m has) ∙ length-map passes (λ (p : Pass X f s). steps_at p.mail slot) ∙ many ∙ sym fresh.0

  pub mail_kept : (plan : Plan) → HasNodes plan mailboxes → AreAllKept mailboxes all → MailIsKept plan passes
  mail_kept plan nodes kept group member named =
      let slot = slot_of group member in
      let there = box_at mailboxes.boxes.items group member slot refl (nodes group member ∙ named) in
      subst AreKept (has_all slot there.0 there.1) (kept slot there.0 there.1)
