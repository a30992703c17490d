-- The invariant: facts of each actor and each message that, once true, stay true
use Rattle.std.proofs.Common.{◌≡◌, ℕ, ◌<◌, ◌≤◌, true, false, ◌⊎◌, Some, List, [], ◌∷◌, ◌++◌, length}
use Rattle.volume_model.specs.Common.{IsIn, Members, sat, Redo, scl, cut_of, log_found, birth, last_epoch, last_start, extended, Contents, Piece, Pieces, Copy, Plan, Label, Place, Message, place_in, View, StepTo, Fence, Report, Install, Write, Gossip, Ack, CopyAsk, CopyReport, PageAsk, Page, From, senders, page_of, Count, is_born, has_cut, is_open, group_of, place_of, reports_of, counts_of, group_point_of, to_install, all_reports, Authority, World, configuration_of, groups_joined, IsPieceOf}
use Rattle.volume_model.specs.Lineage.{found_in}
use Rattle.volume_model.specs.Node.{Node}
use Rattle.volume_model.specs.Client.{Client}
use Rattle.volume_model.proofs.Logs.{IsLink}
use Rattle.volume_model.proofs.Ordered.{IsOrdered}
use Rattle.volume_model.proofs.Pieces.{ArePieces}
use Rattle.volume_model.proofs.Invariant.{Held, epoch_now, path, config, log_of, found_of, lineage_of, HasCut, IsMade, label, WasAt, IsInViews, IsCopy, IsSource, IsSourced, IsHistory}

-- an epoch of the group that has been, with its configuration
pub record IsPlace (plan : Plan) (world : World) (group : ℕ) (place : Place) : Type 0 where
  pub positive : 1 ≤ place.epoch
  pub there : place.epoch ≤ epoch_now plan world group
  pub configuration : place.configuration ≡ path plan world group place.epoch

-- own records behind the log found, each linked to what was there before it
abbrev pub IsGrown : List Redo → List Redo → Type 0
IsGrown found [] = Unit {0}
IsGrown found (r ∷ own) = IsLink r (own ++ found) × IsGrown found own

-- what a segment of complete point s held of v's log is still there, unless a later client's lineage has come
pub record Retains (world : World) (group v s : ℕ) (q : Contents) : Type 0 where
  pub kept : List Redo
  pub complete : scl kept ≡ s
  pub cut : HasCut world v
  pub stands : (r : Redo) → IsIn r kept → IsIn r (log_of world v) × (r.group ≡ group)
  pub epoch : v ≤ last_epoch q.lineage
  pub records : last_epoch q.lineage ≡ v → (r : Redo) → IsIn r kept → IsIn r q.records

-- what a node has gone through it has gone through for good
pub record NodeGrows (old new : Node) : Type 0 where
  pub volume : old.volume ≤ new.volume
  pub epoch : old.place.epoch ≤ new.place.epoch
  pub whole : old.whole ≡ true → new.whole ≡ true
  pub contents : old.whole ≡ true → IsSource old.contents new.contents
  pub copied : old.copied ≤ new.copied

-- what is known of a whole node
pub record IsWhole (plan : Plan) (held : Held) (world : World) (group x : ℕ) (node : Node) : Type 0 where
  pub copy : IsCopy world group node.contents
  pub below : last_epoch node.contents.lineage ≤ node.volume
  pub sourced : IsSourced plan held world world.messages group x node.contents
  pub ordered : IsOrdered node.contents.records

-- a member sent this piece of its copy at an epoch
abbrev pub IsCopyOfPiece : World → ℕ → ℕ → ℕ → ℕ → Piece → Contents → Type 0
IsCopyOfPiece world group epoch sender series piece c = IsMade world (CopyReport group epoch sender series piece c)

-- a client of this volume epoch sent this piece of its install
abbrev pub IsInstallOfPiece : World → ℕ → ℕ → Piece → Contents → Type 0
IsInstallOfPiece world group volume piece c = (e : ℕ) × IsMade world (Install group (label volume e) piece c)

-- what is known of a node
pub record NodeKept (plan : Plan) (held : Held) (world : World) (group x : ℕ) (node : Node) : Type 0 where
  pub place : (node.place.epoch ≡ 0) ⊎ IsPlace plan world group node.place
  pub copies : (copy : Copy) → IsIn copy node.copies → ArePieces (IsCopyOfPiece world group node.place.epoch copy.sender) copy.pieces
  pub install : (pieces : Pieces) → node.install ≡ Some pieces → ArePieces (IsInstallOfPiece world group) pieces
  pub whole : node.whole ≡ true → IsWhole plan held world group x node

-- of a group, a client has read a read set of an epoch at which it was
pub record HasRead (plan : Plan) (world : World) (v : ℕ) (client : Client) (parent group : ℕ) : Type 0 where
  pub at : ℕ
  pub positive : 1 ≤ at
  pub there : at ≤ epoch_now plan world group
  pub was : WasAt plan world v group at
  pub reads : sat (config plan world group at).read (senders (reports_of client.groups group)) ≡ true
  pub kept : (from : From) → IsIn from (reports_of client.groups group) → IsMade world (Report group (label v at) from.sender from.contents) × (last_epoch from.contents.lineage ≤ parent)

-- what a cut made of the reports
abbrev pub reported_to : Plan → Client → List Contents
reported_to plan client = all_reports (reports_of client.groups) plan.groups

-- what a cut unites
abbrev pub records_of : Plan → World → Client → ℕ → List Redo
records_of plan world client parent = found_in (lineage_of world parent) (reported_to plan client)

-- a client that has cut, from the reports of an earlier one's log
pub record IsHeir (plan : Plan) (world : World) (v : ℕ) (client : Client) : Type 0 where
  pub parent : ℕ
  pub below : parent < v
  pub parent_cut : HasCut world parent
  pub lineage : client.lineage ≡ extended (lineage_of world parent) v (cut_of (records_of plan world client parent)) plan.lal
  pub found : client.found ≡ log_found (records_of plan world client parent)
  pub reads : (group : ℕ) → group < plan.groups → IsInViews world v group → HasRead plan world v client parent group
  pub event_result : (group : ℕ) → group < plan.groups → (from : From) → IsIn from (reports_of client.groups group) → (at : ℕ) × IsMade world (Report group (label v at) from.sender from.contents) × (last_epoch from.contents.lineage ≤ parent)

-- the first writer
pub record IsRoot (v : ℕ) (client : Client) : Type 0 where
  pub one : v ≡ 1
  pub lineage : client.lineage ≡ birth
  pub found : client.found ≡ []

-- a record of the client's own
pub record IsOwned (plan : Plan) (v : ℕ) (client : Client) (r : Redo) : Type 0 where
  pub volume : r.volume ≡ v
  pub above : last_start client.lineage < r.lsn
  pub group : r.group < plan.groups

-- what is known of a client that has cut
pub record IsCutClient (plan : Plan) (world : World) (v : ℕ) (client : Client) : Type 0 where
  pub own : List Redo
  pub log : own ++ client.found ≡ client.log
  pub grown : IsGrown client.found own
  pub owned : (r : Redo) → IsIn r own → IsOwned plan v client r
  pub origin : IsRoot v client ⊎ IsHeir plan world v client
  pub found_there : (r : Redo) → IsIn r client.found → r.group < length client.groups

-- the group point is acknowledged by a write set of an epoch at which the client was
pub record IsReached (plan : Plan) (world : World) (v group n : ℕ) : Type 0 where
  pub at : ℕ
  pub positive : 1 ≤ at
  pub there : at ≤ epoch_now plan world group
  pub was : WasAt plan world v group at
  pub writers : Members
  pub writes : sat (config plan world group at).write writers ≡ true
  pub acked : (x : ℕ) → writers x ≡ true → (a : ℕ) × (s : ℕ) × (a ≤ at) × (n ≤ s) × IsMade world (Ack group (label v a) x s)

-- the client has taken a View of no more groups
abbrev pub HasView : World → ℕ → Client → Type 0
HasView world v client = (q : List Place) × IsMade world (View v q) × (length q ≤ length client.groups)

-- no record that was found is of a group that hasn't joined
abbrev pub AreUnjoined : Client → Type 0
AreUnjoined client = (group : ℕ) → group < length client.groups → (group_of client.groups group).joined ≡ false → (r : Redo) → IsIn r client.found → r.group ≡ group → ⊥

-- what is known of a client that is born
pub record IsBorn (plan : Plan) (world : World) (v : ℕ) (client : Client) : Type 0 where
  pub positive : 1 ≤ v
  pub known : v ≤ world.authority.last_volume
  pub within : length client.groups ≤ plan.groups
  pub viewed : (has_cut client.stage ≡ true) ⊎ HasView world v client
  pub places : (group : ℕ) → group < length client.groups → IsPlace plan world group (place_of client.groups group) × WasAt plan world v group (place_of client.groups group).epoch

-- what is known of a client
pub record ClientKept (plan : Plan) (world : World) (v : ℕ) (client : Client) : Type 0 where
  pub born : is_born client.stage ≡ true → IsBorn plan world v client
  pub reading : has_cut client.stage ≡ false → (group : ℕ) → group < length client.groups → (from : From) → IsIn from (reports_of client.groups group) → IsMade world (Report group (label v (place_of client.groups group).epoch) from.sender from.contents) × (last_epoch from.contents.lineage < v)
  pub cut : has_cut client.stage ≡ true → IsCutClient plan world v client
  pub unjoined : is_open client.stage ≡ true → AreUnjoined client
  pub counts : (group : ℕ) → group < length client.groups → (count : Count) → IsIn count (counts_of client.groups group) → (a : ℕ) × (a ≤ (place_of client.groups group).epoch) × IsMade world (Ack group (label v a) count.sender count.reached)
  pub points : (group : ℕ) → group < length client.groups → (group_point_of client.groups group ≡ 0) ⊎ IsReached plan world v group (group_point_of client.groups group)

-- what is known of an acknowledgement
pub record IsAck (world : World) (group : ℕ) (l : Label) (x s : ℕ) : Type 0 where
  pub whole : (world.nodes group x).whole ≡ true
  pub volume : l.volume ≤ (world.nodes group x).volume
  pub member : l.member ≤ (world.nodes group x).place.epoch
  pub retains : Retains world group l.volume s (world.nodes group x).contents

-- what is known of a written record
pub record IsWrite (world : World) (group : ℕ) (l : Label) (r : Redo) : Type 0 where
  pub cut : HasCut world l.volume
  pub stands : IsIn r (log_of world l.volume)
  pub group_is : r.group ≡ group

-- made from records of the writer's log that reach the point
pub record IsPage (world : World) (group : ℕ) (l : Label) (block point : ℕ) (bytes : List ℕ) : Type 0 where
  pub cut : HasCut world l.volume
  pub kept : List Redo
  pub ordered : IsOrdered kept
  pub complete : point ≤ scl kept
  pub stands : (r : Redo) → IsIn r kept → IsIn r (log_of world l.volume) × (r.group ≡ group)
  pub page : page_of kept block point ≡ bytes

-- what is known of a View
pub record IsView (plan : Plan) (world : World) (v : ℕ) (places : List Place) : Type 0 where
  pub known : v ≤ world.authority.last_volume
  pub positive : 1 ≤ v
  pub born : plan.born ≤ length places
  pub joined : length places ≤ groups_joined world.authority
  pub standing : (group : ℕ) → group < length places → IsPlace plan world group (place_in places group)

-- what a client that has cut installs in a group
abbrev pub install_of : World → ℕ → ℕ → Contents
install_of world group v = to_install (lineage_of world v) (found_of world v) group

-- a piece of what a client that has cut installs
pub record IsInstall (world : World) (group : ℕ) (l : Label) (piece : Piece) (c : Contents) : Type 0 where
  pub cut : HasCut world l.volume
  pub copy : IsCopy world group (install_of world group l.volume)
  pub head : last_epoch (lineage_of world l.volume) ≡ l.volume
  pub is : IsPieceOf (install_of world group l.volume) piece c

-- a piece of what a member held when it made its copy of a number
pub record IsCopied (held : Held) (world : World) (group f x s : ℕ) (piece : Piece) (c : Contents) : Type 0 where
  pub copy : IsCopy world group (held group x s)
  pub is : IsPieceOf (held group x s) piece c
  pub epoch : f ≤ (world.nodes group x).place.epoch
  pub number : s ≤ (world.nodes group x).copied

-- what is known of a message
abbrev pub MessageKept : Plan → Held → World → Message → Type 0
MessageKept plan held world (View v places) = IsView plan world v places
MessageKept plan held world (StepTo group place) = IsPlace plan world group place
MessageKept plan held world (Fence group l) = Unit {0}
MessageKept plan held world (Report group l x q) = IsCopy world group q × (l.volume ≤ (world.nodes group x).volume)
MessageKept plan held world (Install group l p c) = IsInstall world group l p c
MessageKept plan held world (Write group l r) = IsWrite world group l r
MessageKept plan held world (Gossip group l r) = IsWrite world group l r
MessageKept plan held world (Ack group l x s) = IsAck world group l x s
MessageKept plan held world (CopyAsk group f) = Unit {0}
MessageKept plan held world (CopyReport group f x s p c) = IsCopied held world group f x s p c
MessageKept plan held world (PageAsk group l block point) = Unit {0}
MessageKept plan held world (Page group l x block point bytes) = IsPage world group l block point bytes

-- what is known of the authority
pub record AuthorityKept (plan : Plan) (authority : Authority) : Type 0 where
  pub positive : 1 ≤ authority.last_volume
  pub born : plan.born ≤ groups_joined authority
  pub within : groups_joined authority ≤ plan.groups
  pub there : (group : ℕ) → group < plan.groups → configuration_of authority group < plan.configurations group

-- the invariant
pub record IsKept (plan : Plan) (held : Held) (world : World) : Type 0 where
  pub authority : AuthorityKept plan world.authority
  pub nodes : (group x : ℕ) → group < plan.groups → NodeKept plan held world group x (world.nodes group x)
  pub clients : (v : ℕ) → ClientKept plan world v (world.clients v)
  pub messages : (m : Message) → IsMade world m → MessageKept plan held world m
  pub views_ordered : (u v : ℕ) (p q : List Place) → u < v → IsMade world (View u p) → IsMade world (View v q) → (group : ℕ) → group < plan.groups → (place_in p group).epoch ≤ (place_in q group).epoch
  pub acks_copies : (group v a x m f s : ℕ) (p : Piece) (c : Contents) → IsMade world (Ack group (label v a) x m) → IsMade world (CopyReport group f x s p c) → a < f → Retains world group v m (held group x s)
  pub acks_reports : (group v a x s : ℕ) (l : Label) (q : Contents) → IsMade world (Ack group (label v a) x s) → IsMade world (Report group l x q) → v < l.volume → Retains world group v s q
  pub history : IsHistory plan held world world.messages
