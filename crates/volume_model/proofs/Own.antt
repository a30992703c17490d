-- What each actor refuses on its own.
use Rattle.std.proofs.Common.{◌≡◌, ℕ, Bool, true, false, not, List, Option, Some, None, Result, Ok, Err}
use Rattle.volume_model.specs.declared.fault.Fault.{Fault}
use Rattle.volume_model.specs.declared.fault.Fault.TheVariants.{NoLogRecord}
use Rattle.volume_model.specs.Common.{◌>>=◌, refuse_if, Redo, record_at, Plan, Label, Message, View, StepTo, PageAsk, NodeStep, page_checks, page_answer, reaction, gathered, hydrated, offered, ClientStep, is_born, Change, issued, resent, write_of, page_asked, cut_client, opened, taken, Authority, AuthorityStep, assigned, advanced, refreshed, grown, Refuses, IsOwn, IsOwnOfClient}
use Rattle.volume_model.specs.Node.{Node}
use Rattle.volume_model.specs.Client.{Client}
use Rattle.std.proofs.lemmas.Grind.{common_steps}
use Rattle.std.proofs.Common.{arith}

module _ {A : Type 0} (P : Fault → Type 0) where
  -- one refusal before others
  pub refuses_if : (b : Bool) (fault : Fault) (rest : Result A Fault) → P fault → Refuses P rest → Refuses P (refuse_if b fault rest)
  refuses_if true fault rest here later = here
  refuses_if false fault rest here later = later

  -- one that can't come
  pub refuses_not : (b : Bool) (fault : Fault) (rest : Result A Fault) → b ≡ true → Refuses P rest → Refuses P (refuse_if (not b) fault rest)
  refuses_not true fault rest is later = later
  refuses_not false fault rest is later = absurd (cc)

  -- one answer after another
  pub refuses_then : {B : Type 0} (first : Result B Fault) (rest : B → Result A Fault) → Refuses P first → ((x : B) → Refuses P (rest x)) → Refuses P (first >>= rest)
  refuses_then (Ok x) rest here later = later x
  refuses_then (Err fault) rest here later = here

pub assigned_own : (plan : Plan) (a : Authority) → Refuses IsOwn (assigned plan a)
assigned_own plan a = search (refuses_if {A = AuthorityStep} IsOwn) depth 12

pub grown_own : (plan : Plan) (a : Authority) → Refuses IsOwn (grown plan a)
grown_own plan a = search (refuses_if {A = AuthorityStep} IsOwn) depth 12

pub advanced_own : (plan : Plan) (a : Authority) (g c : ℕ) → Refuses IsOwn (advanced plan a g c)
advanced_own plan a g c = search (refuses_if {A = AuthorityStep} IsOwn) depth 12

pub refreshed_own : (plan : Plan) (a : Authority) (v : ℕ) → Refuses IsOwn (refreshed plan a v)
refreshed_own plan a v = search (refuses_if {A = AuthorityStep} IsOwn) depth 12

page_own : (plan : Plan) (group member : ℕ) (node : Node) (label : Label) (block point : ℕ) → Refuses IsOwn (page_answer plan group member node label block point)
unfolding page_answer page_checks
page_own plan group member node label block point = search (refuses_if {A = NodeStep} IsOwn) depth 12

pub reaction_own : (plan : Plan) (group member : ℕ) (node : Node) (m : Message) → Refuses IsOwn (reaction plan group member node m)
reaction_own plan group member node (PageAsk to label block point) = let page = page_own plan group member node label block point in search (refuses_if {A = NodeStep} IsOwn, page) depth 12
reaction_own plan group member node m = search (refuses_if {A = NodeStep} IsOwn) depth 12

gathered_own : (plan : Plan) (group member : ℕ) (node : Node) → Refuses IsOwn (gathered plan group member node)
unfolding gathered
gathered_own plan group member node = grind (arith, common_steps)

pub hydrated_own : (plan : Plan) (group member : ℕ) (node : Node) → Refuses IsOwn (hydrated plan group member node)
hydrated_own plan group member node = grind (arith, common_steps, gathered_own, refuses_if, refuses_then)

pub offered_own : (group : ℕ) (node : Node) (lsn : ℕ) → Refuses IsOwn (offered group node lsn)
offered_own group node lsn = grind (arith, common_steps)

write_own : (P : Fault → Type 0) → P NoLogRecord → (volume : ℕ) (client : Client) (o : Option Redo) → Refuses P (write_of volume client o)
write_own P p volume client None = p
write_own P p volume client (Some r) = tt

pub issued_own : (plan : Plan) (volume : ℕ) (client : Client) (changes : List Change) → Refuses IsOwnOfClient (issued plan volume client changes)
issued_own plan volume client changes = search (refuses_if {A = ClientStep} IsOwnOfClient) depth 12

-- of a client that is born
pub issued_own_born : (plan : Plan) (volume : ℕ) (client : Client) (changes : List Change) → is_born client.stage ≡ true → Refuses IsOwn (issued plan volume client changes)
issued_own_born plan volume client changes born = search (refuses_if {A = ClientStep} IsOwn, refuses_not {A = ClientStep} IsOwn, born) depth 12

pub cut_own : (plan : Plan) (volume : ℕ) (client : Client) → Refuses IsOwnOfClient (cut_client plan volume client)
cut_own plan volume client = grind (arith, common_steps)

-- of a client that is born
pub cut_own_born : (plan : Plan) (volume : ℕ) (client : Client) → is_born client.stage ≡ true → Refuses IsOwn (cut_client plan volume client)
cut_own_born plan volume client born = grind (arith, common_steps)

pub opened_own : (plan : Plan) (client : Client) → Refuses IsOwnOfClient (opened plan client)
opened_own plan client = search (refuses_if {A = ClientStep} IsOwnOfClient) depth 12

-- of a client that is born
pub opened_own_born : (plan : Plan) (client : Client) → is_born client.stage ≡ true → Refuses IsOwn (opened plan client)
opened_own_born plan client born = search (refuses_if {A = ClientStep} IsOwn, refuses_not {A = ClientStep} IsOwn, born) depth 12

pub resent_own : (volume : ℕ) (client : Client) (lsn : ℕ) → Refuses IsOwnOfClient (resent volume client lsn)
resent_own volume client lsn = let found = write_own IsOwnOfClient tt volume client (record_at client.log lsn) in search (refuses_if {A = ClientStep} IsOwnOfClient, found) depth 12

-- of a client that is born
pub resent_own_born : (volume : ℕ) (client : Client) (lsn : ℕ) → is_born client.stage ≡ true → Refuses IsOwn (resent volume client lsn)
resent_own_born volume client lsn born = let found = write_own IsOwn tt volume client (record_at client.log lsn) in search (refuses_if {A = ClientStep} IsOwn, refuses_not {A = ClientStep} IsOwn, born, found) depth 12

pub page_asked_own : (volume : ℕ) (client : Client) (group block : ℕ) → Refuses IsOwnOfClient (page_asked volume client group block)
page_asked_own volume client group block = search (refuses_if {A = ClientStep} IsOwnOfClient) depth 12

-- of a client that is born
pub page_asked_own_born : (volume : ℕ) (client : Client) (group block : ℕ) → is_born client.stage ≡ true → Refuses IsOwn (page_asked volume client group block)
page_asked_own_born volume client group block born = search (refuses_if {A = ClientStep} IsOwn, refuses_not {A = ClientStep} IsOwn, born) depth 12

pub taken_own : (plan : Plan) (volume : ℕ) (client : Client) (m : Message) → Refuses IsOwnOfClient (taken plan volume client m)
taken_own plan volume client (StepTo group place) = tt
taken_own plan volume client m = search (refuses_if {A = ClientStep} IsOwnOfClient) depth 12

-- of a client that is born
pub taken_own_born : (plan : Plan) (volume : ℕ) (client : Client) (m : Message) → is_born client.stage ≡ true → Refuses IsOwn (taken plan volume client m)
taken_own_born plan volume client (View of places) born = search (refuses_if {A = ClientStep} IsOwn) depth 12
taken_own_born plan volume client m born = search (refuses_if {A = ClientStep} IsOwn, refuses_not {A = ClientStep} IsOwn, born) depth 12
