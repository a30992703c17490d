-- Decoding messages from left to right, up to the first fault.
use Rattle.std.specs.Prelude.{ℕ, zero, suc, List, [], ◌∷◌, ◌++◌, not, ◌==◌, nat_lt, length, Result, Ok, Err, if◌then◌else◌}
use Rattle.std.specs.Int.{w16, w32, w64}
use Rattle.volume_model.specs.Common.{◌>>=◌, refuse_if, Label, Place, Message, View, StepTo, Fence, Report, Install, Write, Gossip, Ack, CopyAsk, CopyReport, PageAsk, Page}
use Rattle.volume_model.specs.declared.fault.Fault.{Fault}
use Rattle.volume_model.specs.declared.fault.Fault.TheVariants.{BadField, Trailing}
use Rattle.message_bytes.specs.Numbers.{byte_at, number_at, image_at}
use Rattle.message_bytes.specs.Contents.{Read, redo_at, contents_at}

-- a volume epoch and a membership epoch
unfoldable pub label_at : List ℕ → Read Label
label_at bytes = do
  volume ← number_at w32 bytes
  member ← number_at w32 volume.1
  Ok (record { volume = volume.0; member = member.0 }, member.1)

-- a group and a label
unfoldable pub labelled_at : List ℕ → Read (ℕ × Label)
labelled_at bytes = do
  group ← byte_at bytes
  label ← label_at group.1
  Ok ((group.0, label.0), label.1)

-- a configuration and its membership epoch
unfoldable pub place_at : List ℕ → Read Place
place_at bytes = do
  configuration ← byte_at bytes
  epoch ← number_at w32 configuration.1
  Ok (record { configuration = configuration.0; epoch = epoch.0 }, epoch.1)

-- n places, appended to those that were decoded before
unfoldable pub places_at : ℕ → List Place → List ℕ → Read (List Place)
places_at zero kept bytes = Ok (kept, bytes)
places_at (suc n) kept bytes = do
  place ← place_at bytes
  places_at n (kept ++ place.0 ∷ []) place.1

-- a View's volume epoch, which is at least 1
unfoldable pub volume_at : List ℕ → Read ℕ
volume_at bytes = do
  volume ← number_at w32 bytes
  refuse_if (volume.0 == 0) BadField (Ok (volume.0, volume.1))

unfoldable pub view_at : List ℕ → Read Message
view_at bytes = do
  volume ← volume_at bytes
  n ← number_at w32 volume.1
  places ← places_at n.0 [] n.1
  Ok (View volume.0 places.0, places.1)

unfoldable pub step_at : List ℕ → Read Message
step_at bytes = do
  group ← byte_at bytes
  place ← place_at group.1
  Ok (StepTo group.0 place.0, place.1)

unfoldable pub fence_at : List ℕ → Read Message
fence_at bytes = do
  head ← labelled_at bytes
  Ok (Fence head.0.0 head.0.1, head.1)

unfoldable pub report_at : List ℕ → Read Message
report_at bytes = do
  head ← labelled_at bytes
  from ← byte_at head.1
  c ← contents_at from.1
  Ok (Report head.0.0 head.0.1 from.0 c.0, c.1)

unfoldable pub install_at : List ℕ → Read Message
install_at bytes = do
  head ← labelled_at bytes
  piece ← number_at w16 head.1
  of ← number_at w16 piece.1
  c ← contents_at of.1
  Ok (Install head.0.0 head.0.1 (record { number = piece.0; of = of.0 }) c.0, c.1)

unfoldable pub write_at : List ℕ → Read Message
write_at bytes = do
  head ← labelled_at bytes
  r ← redo_at head.1
  Ok (Write head.0.0 head.0.1 r.0, r.1)

unfoldable pub gossip_at : List ℕ → Read Message
gossip_at bytes = do
  head ← labelled_at bytes
  r ← redo_at head.1
  Ok (Gossip head.0.0 head.0.1 r.0, r.1)

unfoldable pub ack_at : List ℕ → Read Message
ack_at bytes = do
  head ← labelled_at bytes
  from ← byte_at head.1
  scl ← number_at w64 from.1
  Ok (Ack head.0.0 head.0.1 from.0 scl.0, scl.1)

unfoldable pub copy_ask_at : List ℕ → Read Message
copy_ask_at bytes = do
  group ← byte_at bytes
  epoch ← number_at w32 group.1
  Ok (CopyAsk group.0 epoch.0, epoch.1)

unfoldable pub copy_report_at : List ℕ → Read Message
copy_report_at bytes = do
  group ← byte_at bytes
  epoch ← number_at w32 group.1
  from ← byte_at epoch.1
  series ← number_at w64 from.1
  piece ← number_at w16 series.1
  of ← number_at w16 piece.1
  c ← contents_at of.1
  Ok (CopyReport group.0 epoch.0 from.0 series.0 (record { number = piece.0; of = of.0 }) c.0, c.1)

unfoldable pub page_ask_at : List ℕ → Read Message
page_ask_at bytes = do
  head ← labelled_at bytes
  block ← number_at w32 head.1
  point ← number_at w64 block.1
  Ok (PageAsk head.0.0 head.0.1 block.0 point.0, point.1)

unfoldable pub page_at : List ℕ → Read Message
page_at bytes = do
  head ← labelled_at bytes
  from ← byte_at head.1
  block ← number_at w32 from.1
  point ← number_at w64 block.1
  image ← image_at point.1
  Ok (Page head.0.0 head.0.1 from.0 block.0 point.0 image.0, image.1)

-- the fields of a message of this kind
unfoldable pub body_at : ℕ → List ℕ → Read Message
body_at kind bytes =
    if kind == 1 then view_at bytes
    else if kind == 2 then step_at bytes
    else if kind == 3 then fence_at bytes
    else if kind == 4 then report_at bytes
    else if kind == 5 then install_at bytes
    else if kind == 6 then write_at bytes
    else if kind == 7 then gossip_at bytes
    else if kind == 8 then ack_at bytes
    else if kind == 9 then copy_ask_at bytes
    else if kind == 10 then copy_report_at bytes
    else if kind == 11 then page_ask_at bytes
    else if kind == 12 then page_at bytes
    else Err BadField

-- the version, which is 1
unfoldable pub version_at : List ℕ → Read ℕ
version_at bytes = do
  version ← byte_at bytes
  refuse_if (not (version.0 == 1)) BadField (Ok (version.0, version.1))

-- refused if bytes are left
abbrev pub ended : {A : Type 0} → A × List ℕ → Result A Fault
ended x = refuse_if (nat_lt 0 (length x.1)) Trailing (Ok x.0)

-- the message that all these bytes encode, or the first fault: of the version, the kind, the fields from left to right,
-- or of bytes after them
unfoldable pub message_in : List ℕ → Result Message Fault
message_in bytes = do
  version ← version_at bytes
  kind ← byte_at version.1
  body ← body_at kind.0 kind.1
  ended body
