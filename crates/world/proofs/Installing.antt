-- What stays true from the cut of a recovery to its opening, while its log is installed.
use Rattle.std.proofs.Common.{◌≡◌, ℕ, ◌+◌, ◌<◌, ◌≤◌, Bool, true, false, ◌⊎◌, Some, List, length, sym, ap, ◌∙◌, subst, inl, inr, slice_index_or}
use Rattle.volume_model.specs.Common.{IsIn, added, put, put_at, Redo, last_of_group, Lineage, Pieces, in_pieces, Plan, IsCertified, epoch_of, has_member, Place, Message, StepTo, Install, CopyAsk, lineage_epoch, most_copies, ClientGroup, counts_of, place_of, Installing, reaching, to_install, World, Event, after}
use Rattle.volume_model.specs.Node.{Node}
use Rattle.volume_model.specs.Client.{Client}
use Rattle.volume_model.proofs.Basics.{put_at-all}
use Rattle.volume_model.proofs.ClientSteps.{put-same}
use Rattle.volume_model.proofs.Run.{event_kept}
use Rattle.volume_model.proofs.Invariant.{IsMade, label}
use Rattle.volume_model.proofs.Renewed.{IsKeptWorld}
use Rattle.world.proofs.Readable.{HasPlace, IsIn-kept}

-- The recovery's volume epoch, the configurations of the groups that have joined, its lineage and the log that it found.
module _ (plan : Plan) (v : ℕ) (now : List ℕ) (line : Lineage) (records : List Redo) where
  -- the configuration of a group
  abbrev pub at : ℕ → ℕ
  at g = slice_index_or now g 0

  abbrev pub epoch_at : ℕ → ℕ
  epoch_at g = epoch_of plan g (at g)

  abbrev pub place_at : ℕ → Place
  place_at g = record { configuration = at g; epoch = epoch_at g }

  -- a member of the group's configuration
  abbrev pub is_member : ℕ → ℕ → Bool
  is_member g x = has_member (plan.configuration g (at g)) x

  -- the recovery has cut and hasn't opened, and everything that it needs to install its log was made
  pub record IsRecovering (u : World) : Type 0 where
    pub in_run : IsKeptWorld plan u
    pub last : u.authority.last_volume ≤ v
    pub configurations : u.authority.configurations ≡ now
    pub stage : (u.clients v).stage ≡ Installing
    pub groups : length (u.clients v).groups ≡ length now
    pub places : (g : ℕ) → g < length now → place_of (u.clients v).groups g ≡ place_at g
    pub lineage : (u.clients v).lineage ≡ line
    pub found : (u.clients v).found ≡ records
    pub log : (u.clients v).log ≡ records
    pub pieces : (g : ℕ) → g < length now → (m : Message)
        → IsIn m (in_pieces (to_install line records g) (Install g (label v (epoch_at g)))) → IsMade u m
    pub step : (g : ℕ) → (at g ≡ 0) ⊎ IsMade u (StepTo g (place_at g))
    pub volume : (g x : ℕ) → (u.nodes g x).volume ≤ v
    pub placed_on : (g x : ℕ) → HasPlace g x (u.nodes g x)
    pub asked : (g x : ℕ) → (u.nodes g x).whole ≡ false → 1 ≤ (u.nodes g x).place.epoch
        → IsMade u (CopyAsk g (u.nodes g x).place.epoch)

  -- the node keeps no piece of the recovery's install
  abbrev pub IsUnstarted : Node → Type 0
  IsUnstarted node = (pieces : Pieces) → node.install ≡ Some pieces → pieces.series ≡ v → ⊥

  -- the same, and no node keeps a part of the install
  pub record IsInstalling (u : World) : Type 0 where
    pub recovering : IsRecovering u
    pub unstarted : (g x : ℕ) → IsUnstarted (u.nodes g x)

  -- the member is whole at the group's present place, and has the recovery's lineage: by the invariant it holds exactly
  -- what the recovery found of the group
  pub record IsInstalled (u : World) (g x : ℕ) : Type 0 where
    pub whole : (u.nodes g x).whole ≡ true
    pub lineage : lineage_epoch (u.nodes g x) ≡ v
    pub epoch : (u.nodes g x).place.epoch ≡ epoch_at g

  -- the recovery has counted the member's acknowledgement of all that it found of the group
  abbrev pub IsCounted : World → ℕ → ℕ → Type 0
  IsCounted u g x = reaching (counts_of (u.clients v).groups g) (last_of_group g records) x ≡ true

  -- both
  abbrev pub IsReady : World → ℕ → ℕ → Type 0
  IsReady u g x = IsInstalled u g x × IsCounted u g x

  -- what a later world keeps
  pub record KeepsReady (u later : World) : Type 0 where
    pub ready : (g x : ℕ) → IsReady u g x → IsReady later g x
    pub whole : (g x : ℕ) → (u.nodes g x).whole ≡ true → (later.nodes g x).whole ≡ true

-- ---- steps that leave all this

module _ (plan : Plan) (certified : IsCertified plan) (v : ℕ) (now : List ℕ) (line : Lineage) (records : List Redo) where
  -- an event that changes one node, and adds messages
  pub node_on : (u : World) → IsRecovering plan v now line records u → (event : Event) (g x : ℕ) (node : Node) (made : List Message)
      → after plan u event ≡ record u { nodes = put_at u.nodes g x node; messages = added made u.messages }
      → node.volume ≤ v → HasPlace g x node
      → (node.whole ≡ false → 1 ≤ node.place.epoch → IsIn (CopyAsk g node.place.epoch) (added made u.messages))
      → IsRecovering plan v now line records (after plan u event)
  node_on u r event g x node made e volume placed asked =
      let run_on : IsKeptWorld plan (after plan u event) = event_kept plan certified u r.in_run.kept event in
      subst (IsRecovering plan v now line records) (sym e) (record {
        in_run = subst (IsKeptWorld plan) e run_on;
        last = r.last;
        configurations = r.configurations;
        stage = r.stage;
        groups = r.groups;
        places = r.places;
        lineage = r.lineage;
        found = r.found;
        log = r.log;
        pieces = λ k h m i. IsIn-kept made u.messages m (r.pieces k h m i);
        step = λ k. elim (r.step k) [ inl root ↦ inl root | inr is ↦ inr (IsIn-kept made u.messages _ is) ];
        volume = put_at-all (λ k y n. n.volume ≤ v) u.nodes g x node volume r.volume;
        placed_on = put_at-all HasPlace u.nodes g x node placed r.placed_on;
        asked = put_at-all (λ k y (n : Node). n.whole ≡ false → 1 ≤ n.place.epoch → IsIn (CopyAsk k n.place.epoch) (added made u.messages)) u.nodes g x node asked
            (λ k y w h. IsIn-kept made u.messages _ (r.asked k y w h));
      })

  -- an event of the recovery that changes what it has counted of its groups
  pub client_on : (u : World) → IsRecovering plan v now line records u → (event : Event) (groups : List ClientGroup)
      → after plan u event ≡ record u { clients = put u.clients v (record (u.clients v) { groups = groups }); messages = u.messages }
      → length groups ≡ length (u.clients v).groups → ((k : ℕ) → place_of groups k ≡ place_of (u.clients v).groups k)
      → IsRecovering plan v now line records (after plan u event)
  client_on u r event groups e long same =
      let next : Client = record (u.clients v) { groups = groups } in
      let run_on : IsKeptWorld plan (after plan u event) = event_kept plan certified u r.in_run.kept event in
      let here : next ≡ put u.clients v next v = sym (put-same u.clients v next) in
      subst (IsRecovering plan v now line records) (sym e) (record {
        in_run = subst (IsKeptWorld plan) e run_on;
        last = r.last;
        configurations = r.configurations;
        stage = ap (λ (c : Client). c.stage) (sym here) ∙ r.stage;
        groups = ap (λ (c : Client). length c.groups) (sym here) ∙ long ∙ r.groups;
        places = λ k h. ap (λ (c : Client). place_of c.groups k) (sym here) ∙ same k ∙ r.places k h;
        lineage = ap (λ (c : Client). c.lineage) (sym here) ∙ r.lineage;
        found = ap (λ (c : Client). c.found) (sym here) ∙ r.found;
        log = ap (λ (c : Client). c.log) (sym here) ∙ r.log;
        pieces = r.pieces;
        step = r.step;
        volume = r.volume;
        placed_on = r.placed_on;
        asked = r.asked;
      })

-- each node can still make this many copies
abbrev pub CanCopy : World → ℕ → Type 0
CanCopy u n = (g x : ℕ) → (u.nodes g x).copied + n ≤ most_copies
