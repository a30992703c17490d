-- What holds of every world that a run leads to, as far as the headline needs it
use Rattle.std.proofs.Common.{◌≡◌, ℕ, ◌-◌, ◌<◌, ◌≤◌, true, ◌⊎◌, List, [], ◌∷◌, ◌++◌, length}
use Rattle.volume_model.specs.Common.{IsIn, Members, sat, Redo, last_lsn, up_to, Lineage, birth, last_epoch, last_start, Contents, Configuration, Plan, has_member, epoch_of, Piece, Label, Place, Message, place_in, View, Report, Ack, CopyReport, From, senders, has_cut, reports_of, group_point_of, World, configuration_of}
use Rattle.volume_model.proofs.Above.{ancestor}
use Rattle.volume_model.proofs.Line.{IsLine}
use Rattle.volume_model.proofs.Logs.{IsChain}

-- the group's epoch at the authority, and the configuration that the group had at an epoch
abbrev pub epoch_now : Plan → World → ℕ → ℕ
epoch_now plan world group = epoch_of plan group (configuration_of world.authority group)

-- the configuration that the group had at an epoch
abbrev pub path : Plan → World → ℕ → ℕ → ℕ
path plan world group e = ancestor plan group (epoch_now plan world group - e) (configuration_of world.authority group)

-- what the group was at an epoch
abbrev pub config : Plan → World → ℕ → ℕ → Configuration
config plan world group e = plan.configuration group (path plan world group e)

-- the log of a client
abbrev pub log_of : World → ℕ → List Redo
log_of world v = (world.clients v).log

-- the log that a client found
abbrev pub found_of : World → ℕ → List Redo
found_of world v = (world.clients v).found

-- the lineage of a client
abbrev pub lineage_of : World → ℕ → Lineage
lineage_of world v = (world.clients v).lineage

-- the client has cut
abbrev pub HasCut : World → ℕ → Type 0
HasCut world v = has_cut (world.clients v).stage ≡ true

-- the message was made
abbrev pub IsMade : World → Message → Type 0
IsMade world m = IsIn m world.messages

-- the label of both epochs
abbrev pub label : ℕ → ℕ → Label
label volume member = record { volume = volume; member = member }

-- the client has been at this epoch of the group
abbrev pub WasAt : Plan → World → ℕ → ℕ → ℕ → Type 0
WasAt plan world v group e = ((v ≡ 1) × (e ≡ 1) × (group < plan.born)) ⊎ ((places : List Place) × IsMade world (View v places) × ((place_in places group).epoch ≡ e))

-- every View of the client that was made names the group
abbrev pub IsInViews : World → ℕ → ℕ → Type 0
IsInViews world v group = (q : List Place) → IsMade world (View v q) → 1 ≤ (place_in q group).epoch

-- what a whole node says of itself: the lineage of a client that has cut, records of its log, and at least those that it found
pub record IsCopy (world : World) (group : ℕ) (q : Contents) : Type 0 where
  pub cut : HasCut world (last_epoch q.lineage)
  pub lineage : q.lineage ≡ lineage_of world (last_epoch q.lineage)
  pub records : (r : Redo) → IsIn r q.records → IsIn r (log_of world (last_epoch q.lineage)) × (r.group ≡ group)
  pub found : (r : Redo) → IsIn r (found_of world (last_epoch q.lineage)) → r.group ≡ group → IsIn r q.records

-- nothing of v's log up to m was lost on the way to q, unless a later client's lineage has come
pub record Covers (world : World) (group v m : ℕ) (q : Contents) : Type 0 where
  pub epoch : v ≤ last_epoch q.lineage
  pub records : last_epoch q.lineage ≡ v → (r : Redo) → IsIn r (log_of world v) → r.group ≡ group → r.lsn ≤ m → IsIn r q.records

-- what came into q
pub record IsSource (source q : Contents) : Type 0 where
  pub epoch : last_epoch source.lineage ≤ last_epoch q.lineage
  pub records : last_epoch source.lineage ≡ last_epoch q.lineage → (r : Redo) → IsIn r source.records → IsIn r q.records

-- what a member of a group held when it made its copy of a number
abbrev pub Held : Type 0
Held = ℕ → ℕ → ℕ → Contents

-- the node became whole as a member, from copies of a read set that were made before
pub record IsHydrated (plan : Plan) (held : Held) (world : World) (older : List Message) (group x : ℕ) (q : Contents) : Type 0 where
  pub at : ℕ
  pub positive : 1 ≤ at
  pub there : at ≤ epoch_now plan world group
  pub member : has_member (config plan world group at) x ≡ true
  pub readers : Members
  pub reads : sat (config plan world group at).read readers ≡ true
  pub source : (y : ℕ) → readers y ≡ true → (s : ℕ) × (p : Piece) × (c : Contents) × IsIn (CopyReport group at y s p c) older × IsSource (held group y s) q

-- the contents came from birth or from a hydration
abbrev pub IsSourced : Plan → Held → World → List Message → ℕ → ℕ → Contents → Type 0
IsSourced plan held world older group x q = (has_member (plan.configuration group 0) x ≡ true) ⊎ IsHydrated plan held world older group x q

-- what a message says that a node holds came from birth or from a hydration
abbrev pub MessageSourced : Plan → Held → World → List Message → Message → Type 0
MessageSourced plan held world older (Report group l x q) = IsSourced plan held world older group x q
MessageSourced plan held world older (CopyReport group f x s p c) = IsSourced plan held world older group x (held group x s)
MessageSourced plan held world older m = Unit {0}

-- each message was made from earlier ones
abbrev pub IsHistory : Plan → Held → World → List Message → Type 0
IsHistory plan held world [] = Unit {0}
IsHistory plan held world (m ∷ older) = MessageSourced plan held world older m × IsHistory plan held world older

-- a record that some kept report of the client has
abbrev pub IsReported : World → ℕ → Redo → Type 0
IsReported world v s = (from : From) × IsIn from (reports_of (world.clients v).groups s.group) × IsIn s from.contents.records

-- of a group, the client has read a read set of an epoch at which it was
pub record HasReadGroup (plan : Plan) (world : World) (v parent group : ℕ) : Type 0 where
  pub at : ℕ
  pub positive : 1 ≤ at
  pub was : WasAt plan world v group at
  pub reads : sat (config plan world group at).read (senders (reports_of (world.clients v).groups group)) ≡ true
  pub kept : (from : From) → IsIn from (reports_of (world.clients v).groups group) → IsMade world (Report group (label v at) from.sender from.contents) × (last_epoch from.contents.lineage ≤ parent)

-- a client that has cut goes on from an earlier one, whose log it found up to the cut
pub record HasParent (plan : Plan) (world : World) (v : ℕ) : Type 0 where
  pub parent : ℕ
  pub cut : ℕ
  pub start : ℕ
  pub below : parent < v
  pub parent_cut : HasCut world parent
  pub lineage : lineage_of world v ≡ record { volume = v; cut = cut; start = start } ∷ lineage_of world parent
  pub found : found_of world v ≡ up_to cut (log_of world parent)
  pub start_above : cut ≤ start
  pub cut_within : cut ≤ last_lsn (log_of world parent)
  pub reads : (group : ℕ) → group < plan.groups → IsInViews world v group → HasReadGroup plan world v parent group
  pub complete : (r : Redo) → IsIn r (log_of world parent) → r.point ≡ true → ((s : Redo) → IsIn s (log_of world parent) → s.lsn ≤ r.lsn → IsReported world v s) → r.lsn ≤ cut

-- the client is the first writer
pub record IsFirst (world : World) (v : ℕ) : Type 0 where
  pub one : v ≡ 1
  pub lineage : lineage_of world v ≡ birth
  pub found : found_of world v ≡ []

-- the log of a client is a chain of its own records behind those found
pub record IsLogged (plan : Plan) (world : World) (v : ℕ) : Type 0 where
  pub chain : IsChain (log_of world v)
  pub group_there : (r : Redo) → IsIn r (log_of world v) → r.group < plan.groups
  pub own : List Redo
  pub log : own ++ found_of world v ≡ log_of world v
  pub owned : (r : Redo) → IsIn r own → (r.volume ≡ v) × (last_start (lineage_of world v) < r.lsn)
  pub origin : IsFirst world v ⊎ HasParent plan world v

-- the group point is acknowledged by a write set of an epoch at which the client was
pub record IsWritten (plan : Plan) (world : World) (v group n : ℕ) : Type 0 where
  pub at : ℕ
  pub positive : 1 ≤ at
  pub was : WasAt plan world v group at
  pub writers : Members
  pub writes : sat (config plan world group at).write writers ≡ true
  pub acked : (x : ℕ) → writers x ≡ true → (a : ℕ) × (s : ℕ) × (a ≤ at) × (n ≤ s) × IsMade world (Ack group (label v a) x s)

-- what the headline rests on
pub record IsSound (plan : Plan) (held : Held) (world : World) : Type 0 where
  pub line : (group : ℕ) → group < plan.groups → IsLine plan group (path plan world group) (epoch_now plan world group)
  pub logged : (v : ℕ) → HasCut world v → IsLogged plan world v
  pub written : (v group : ℕ) → group < plan.groups → HasCut world v → (group_point_of (world.clients v).groups group ≡ 0) ⊎ IsWritten plan world v group (group_point_of (world.clients v).groups group)
  pub view_born : (v : ℕ) (places : List Place) → IsMade world (View v places) → plan.born ≤ length places
  pub view_epoch : (v : ℕ) (places : List Place) → IsMade world (View v places) → (group : ℕ) → group < length places → (1 ≤ (place_in places group).epoch) × ((place_in places group).epoch ≤ epoch_now plan world group)
  pub views_ordered : (u v : ℕ) (p q : List Place) → u < v → IsMade world (View u p) → IsMade world (View v q) → (group : ℕ) → group < plan.groups → (place_in p group).epoch ≤ (place_in q group).epoch
  pub copies : (group f x s : ℕ) (p : Piece) (c : Contents) → IsMade world (CopyReport group f x s p c) → IsCopy world group (held group x s)
  pub reports : (group : ℕ) (l : Label) (x : ℕ) (q : Contents) → IsMade world (Report group l x q) → IsCopy world group q
  pub acks_copies : (group v a x m f s : ℕ) (p : Piece) (c : Contents) → IsMade world (Ack group (label v a) x m) → IsMade world (CopyReport group f x s p c) → a < f → Covers world group v m (held group x s)
  pub acks_reports : (group v a x s : ℕ) (l : Label) (q : Contents) → IsMade world (Ack group (label v a) x s) → IsMade world (Report group l x q) → v < l.volume → Covers world group v s q
  pub history : IsHistory plan held world world.messages
