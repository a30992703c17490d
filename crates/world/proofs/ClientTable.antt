-- One client changes, and no other.
use Rattle.std.proofs.Common.{◌≡◌, ℕ, ◌<◌, Bool, true, false, ◌==◌, if◌then◌else◌, List, [], Option, Some, None, length, get_or, set, refl, sym, ap, ◌∙◌, subst, inl, inr}
use Rattle.std.specs.Global.{Box}
use Rattle.std.proofs.lemmas.Bool.{cases_eq, eq-eqb, ne_eqb}
use Rattle.std.proofs.lemmas.List.{get_or_read}
use Rattle.volume_model.specs.Common.{put, Plan, unborn}
use Rattle.world.specs.declared.client.Client.{Client}
use Rattle.world.specs.Clients.{seen_client, client_or_unborn, client_in, clients_of, IsClientOf, IsSameClient, AreClients, HasSameClients, IsPut}
use Rattle.std.proofs.lemmas.Grind.{common_steps}
use Rattle.std.proofs.Common.{arith}

-- what is chosen, seen
seen_if : (b : Bool) (client : Box Client) (other : Option (Box Client)) → (if b then seen_client client.value else client_or_unborn other) ≡ client_or_unborn (if b then Some client else other)
seen_if true client other = refl
seen_if false client other = refl

module _ (old new : List (Option (Box Client))) (v : ℕ) (client : Box Client) (is : IsPut old v client new) where
  pub client_put : put (clients_of old) v (seen_client client.value) ≡ clients_of new
  client_put = λ j w. (seen_if (w == v) client (client_in old w) ∙ sym (ap client_or_unborn (is w))) j

  pub clients_on : (plan : Plan) → AreClients plan old → IsClientOf plan v client.value → AreClients plan new
  clients_on plan all one w other found =
      elim (cases_eq w v) [
        | inl e ↦ let same : Some client ≡ Some other = sym (is w ∙ ap (λ (b : Bool). if b then Some client else client_in old w) (eq-eqb w v e)) ∙ found in
            let this : client ≡ other = cc in
            subst (λ (n : ℕ). IsClientOf plan n other.value) (sym e) (subst (λ (b : Box Client). IsClientOf plan v b.value) this one)
        | inr ne ↦ all w other (sym (is w ∙ ap (λ (b : Bool). if b then Some client else client_in old w) (ne_eqb w v ne)) ∙ found)
      ]

-- a client that is set at its place is put there
pub set_put : (clients : List (Option (Box Client))) (v : ℕ) (client : Box Client) → v < length clients → IsPut clients v client (set clients v (Some client))
set_put clients v client within w = grind (arith, common_steps)

-- a client that acts stays the client of its volume epoch and its plan
pub same_client : (plan : Plan) (volume : ℕ) (old new : Client) → IsClientOf plan volume old → IsSameClient old new → IsClientOf plan volume new
same_client plan volume old new is same = record { plan_is = same.plan_is ∙ is.plan_is; volume_is = same.volume_is ∙ is.volume_is }

-- before any client was kept there is none
pub none_yet : (clients : List (Option (Box Client))) → clients ≡ [] → clients_of clients ≡ (λ volume. unborn)
none_yet clients e = ap clients_of e

pub none_kept : (clients : List (Option (Box Client))) → clients ≡ [] → (plan : Plan) → AreClients plan clients
none_kept clients e plan w client found = let h : None ≡ Some client = sym (ap (λ (cs : List (Option (Box Client))). client_in cs w) e) ∙ found in absurd cc

-- what was read at the place of a volume epoch
pub found_in : (clients : List (Option (Box Client))) (v : ℕ) (read found : Option (Box Client)) → v < length clients → read ≡ get_or clients v read → read ≡ found → client_in clients v ≡ found
found_in clients v read found within reads is = sym (get_or_read clients v read within reads None) ∙ is

-- clients that stay the same
pub same_clients : (plan : Plan) (old new : List (Option (Box Client))) → HasSameClients old new → AreClients plan old → AreClients plan new
same_clients plan old new same all w client found = all w client (sym (same w) ∙ found)

pub kept_clients : (old new : List (Option (Box Client))) → HasSameClients old new → clients_of new ≡ clients_of old
kept_clients old new same = λ j w. client_or_unborn (same w j)
