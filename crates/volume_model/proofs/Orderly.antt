-- In every run the epochs of lineages grow, and the links of records fall
use Rattle.std.proofs.Common.{◌≡◌, ℕ, zero, suc, ◌+◌, ◌<◌, ◌≤◌, max, List, [], ◌∷◌, sym, ap, ◌∙◌, subst, inl, inr, arith}
use Rattle.std.proofs.lemmas.Bool.{cases_Bool, cases_lt}
use Rattle.volume_model.specs.Common.{IsIn, Redo, last_lsn, last_of_group, cut_of, Lineage, birth, last_epoch, last_start, Contents, Plan, IsCertified, Label, Report, Write, Gossip, has_cut, is_open, World, Event, EpochsGrow, LinksFall, Brings, IsOrderly, RunsAreOrderly, in_node, in_log, in_report, in_install, in_copy, in_write, in_gossip}
use Rattle.volume_model.specs.Lineage.{Entry}
use Rattle.volume_model.proofs.Logs.{IsChain, prev_below}
use Rattle.volume_model.proofs.Invariant.{log_of, lineage_of, HasCut, IsCopy}
use Rattle.volume_model.proofs.Kept.{IsWrite, install_of, IsInstall, IsCopied, MessageKept, IsKept, records_of}
use Rattle.volume_model.proofs.Sound.{facts, cut_client}
use Rattle.volume_model.proofs.Finds.{run_tidy}
use Rattle.volume_model.proofs.Lasting.{cut_from_open}
use Rattle.volume_model.proofs.Pieces.{part_of_piece}
use Rattle.volume_model.proofs.Carried.{IsBare, ends_bare, end, held, kept, IsKnown, carried_known}
use Rattle.std.proofs.lemmas.Grind.{common_steps}
use Rattle.std.proofs.Common.{rules}

-- ---- a chain's links fall

last_of_group-below : (group : ℕ) (log : List Redo) → IsChain log → last_of_group group log ≤ last_lsn log
last_of_group-below group [] c = omega arith
last_of_group-below group (s ∷ older) c = grind (arith, common_steps, cases_Bool, (last_of_group-below group older c.1))

prev_group_below : (log : List Redo) → IsChain log → (r : Redo) → IsIn r log → r.prev_group < r.lsn
prev_group_below [] c r i = absurd i
prev_group_below (s ∷ older) c r (inr i) = prev_group_below older c.1 r i
prev_group_below (s ∷ older) c r (inl p) = grind (arith, common_steps, last_of_group-below)

links_fall : (log : List Redo) → IsChain log → (r : Redo) → IsIn r log → LinksFall r
links_fall log c r i = record { in_group = prev_group_below log c r i; in_volume = prev_below log c r i }

-- ---- a client's epochs grow

-- the epochs grow, to this one at most
record GrowTo (lineage : Lineage) (v : ℕ) : Type 0 where
  grow : EpochsGrow lineage
  at_most : (e : Entry) → IsIn e lineage → e.volume ≤ v

birth_grows : (v : ℕ) → v ≡ 1 → GrowTo birth v
birth_grows v one = grind (arith, common_steps)

-- behind those of an earlier client stands the entry of a later one
entry_grows : (entry : Entry) (older : Lineage) (parent : ℕ) → GrowTo older parent → parent < entry.volume → GrowTo (entry ∷ older) entry.volume
entry_grows entry older parent h l = grind (arith, common_steps)

module _ (plan : Plan) (certified : IsCertified plan) (events : List Event) where
  -- the world of the run
  abbrev world : World
  world = end plan certified events

  is_kept : IsKept plan (held plan certified events) world
  is_kept = kept plan certified events

  client_grows : (bound v : ℕ) → v < bound → HasCut world v → GrowTo (lineage_of world v) v
  client_grows zero v l cut = absurd (omega arith)
  client_grows (suc bound) v l cut =
      elim (cut_client plan certified world is_kept v cut).origin [
        | inl root ↦ subst (λ z. GrowTo z v) (sym root.lineage) (birth_grows v root.one)
        | inr later ↦ (
            let below : later.parent < v = later.below in
            let before : GrowTo (lineage_of world later.parent) later.parent = client_grows bound later.parent (omega arith) later.parent_cut in
            let at : ℕ = cut_of (records_of plan world (world.clients v) later.parent) in
            subst (λ z. GrowTo z v) (sym later.lineage)
            (entry_grows (record { volume = v; cut = at; start = max at (last_start (lineage_of world later.parent)) + plan.lal }) (lineage_of world later.parent) later.parent before below))
      ]

  known_grows : (lineage : Lineage) → IsKnown plan certified events lineage → EpochsGrow lineage
  known_grows lineage (inl none) = subst EpochsGrow (sym none) tt
  known_grows lineage (inr known) = subst EpochsGrow (sym known.1) (client_grows (suc (last_epoch lineage)) (last_epoch lineage) (omega arith) known.0).grow

  log_falls : (v : ℕ) → HasCut world v → (r : Redo) → IsIn r (log_of world v) → LinksFall r
  log_falls v cut r i = links_fall (log_of world v) (facts plan certified world is_kept v cut).chain r i

  copy_falls : (group : ℕ) (q : Contents) → IsCopy world group q → (r : Redo) → IsIn r q.records → LinksFall r
  copy_falls group q copy r i = log_falls (last_epoch q.lineage) copy.cut r (copy.records r i).0

  write_falls : (group : ℕ) (l : Label) (r : Redo) → IsWrite world group l r → LinksFall r
  write_falls group l r write = log_falls l.volume write.cut r write.stands

  node_falls : (group x : ℕ) (r : Redo) → IsIn r (world.nodes group x).contents.records → LinksFall r
  node_falls group x r i =
      let bare : IsBare plan group (world.nodes group x) = ends_bare plan events group x in
      elim (cases_lt group plan.groups) [
        | inl there ↦ elim (cases_Bool (world.nodes group x).whole) [
          | inl whole ↦ copy_falls group (world.nodes group x).contents ((is_kept.nodes group x there).whole whole).copy r i
          | inr not_whole ↦ absurd (none_in (ap (λ z. z.records) (bare.holds_nothing not_whole there)))
        ]
        | inr outside ↦ grind (arith, common_steps)
      ]
    where
      none_in : (world.nodes group x).contents.records ≡ [] → ⊥
      none_in e = let j : IsIn r [] = subst (λ z. IsIn r z) e i in j

  client_falls : (v : ℕ) (r : Redo) → IsIn r (log_of world v) → LinksFall r
  client_falls v r i =
      elim (cases_Bool (has_cut (world.clients v).stage)) [
        | inl cut ↦ log_falls v cut r i
        | inr not_cut ↦ elim (cases_Bool (is_open (world.clients v).stage)) [
          | inl opened ↦ log_falls v (cut_from_open (world.clients v).stage opened) r i
          | inr closed ↦ (
              let none : log_of world v ≡ [] = (run_tidy plan events v).log_found closed ∙ (run_tidy plan events v).none_found not_cut in
              absurd (let j : IsIn r [] = subst (λ z. IsIn r z) none i in j))
        ]
      ]

  brought_falls : (r : Redo) → Brings world r → LinksFall r
  brought_falls r (in_node group x i) = node_falls group x r i
  brought_falls r (in_log v i) = client_falls v r i
  brought_falls r (in_report group l x q made i) = (let k : MessageKept plan (held plan certified events) world (Report group l x q) = is_kept.messages _ made in copy_falls group q k.0 r i)
  brought_falls r (in_install group l p q made i) =
      let k : IsInstall world group l p q = is_kept.messages _ made in
      copy_falls group (install_of world group l.volume) k.copy r (part_of_piece (install_of world group l.volume) p q k.is r i)
  brought_falls r (in_copy group f x s p q made i) =
      let k : IsCopied (held plan certified events) world group f x s p q = is_kept.messages _ made in
      copy_falls group (held plan certified events group x s) k.copy r (part_of_piece (held plan certified events group x s) p q k.is r i)
  brought_falls r (in_write group l made) = (let k : MessageKept plan (held plan certified events) world (Write group l r) = is_kept.messages _ made in write_falls group l r k)
  brought_falls r (in_gossip group l made) = (let k : MessageKept plan (held plan certified events) world (Gossip group l r) = is_kept.messages _ made in write_falls group l r k)

  orderly : IsOrderly world
  orderly = search (rules, known_grows, carried_known, brought_falls)

pub runs_are_orderly : RunsAreOrderly
runs_are_orderly plan certified events = orderly plan certified events
