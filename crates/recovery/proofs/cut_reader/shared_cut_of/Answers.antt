use Rattle.std.proofs.Common.{◌≡◌, ◌∙◌, ◌<◌, List, [], ◌∷◌, Ok, sym, ap}
use Rattle.volume_model.specs.Common.{added, Redo, last_lsn, cut_of}
use Rattle.redo_record.specs.Common.{redo_of, left_of}
use Rattle.writer_core.specs.Logs.{log_of_set, is_growing}
use Rattle.recovery.proofs.Cuts.{below-next, next-above}
use Rattle.recovery.proofs.cut_reader.shared_cut_of.Goals as goal

pub loop-packet-init : goal.loop-packet-init
loop-packet-init c = ([], ap (λ (rs : List Redo). added rs []) c.records-left.ensures.records, c.new-reader.ensures)

pub read-requires : goal.read-requires
read-requires c =
    let older : List Redo = c.loop-packet.invariant.0 in
    let r : Redo = redo_of c.«record».result.now in
    let next : left_of c.loop-packet.left ≡ r ∷ left_of c.next.new.self = c.in-Some.ensures.records ∙ ap (λ s. s ∷ left_of c.next.new.self) (sym c.«record».ensures) in
    let above : last_lsn older < r.lsn = next-above r (left_of c.loop-packet.left) (left_of c.next.new.self) older next (ap is_growing c.loop-packet.invariant.1 ∙ c.requires) in
    below-next c.loop-packet.reader r older c.«record».result.now.prev_volume_before c.loop-packet.invariant.2 above

pub loop-packet-preserved : goal.loop-packet-preserved
loop-packet-preserved c =
    let older : List Redo = c.loop-packet.invariant.0 in
    let r : Redo = redo_of c.«record».result.now in
    let next : left_of c.loop-packet.left ≡ r ∷ left_of c.next.new.self = c.in-Some.ensures.records ∙ ap (λ s. s ∷ left_of c.next.new.self) (sym c.«record».ensures) in
    let above : last_lsn older < r.lsn = next-above r (left_of c.loop-packet.left) (left_of c.next.new.self) older next (ap is_growing c.loop-packet.invariant.1 ∙ c.requires) in
    (r ∷ older, ap (λ (rs : List Redo). added rs older) (sym next) ∙ c.loop-packet.invariant.1, c.in_ok-read.ensures older c.loop-packet.invariant.2 above)

pub returns : goal.returns
returns c =
    let older : List Redo = c.loop-packet.invariant.0 in
    let whole : older ≡ log_of_set c.args.set.now = ap (λ (rs : List Redo). added rs older) (sym c.in_default.ensures.records) ∙ c.loop-packet.invariant.1 in
    ap Ok (ap cut_of (sym whole) ∙ sym c.loop-packet.invariant.2.cut)
