-- The cut of a recovery makes all pieces of its install.
use Rattle.std.proofs.Common.{◌≡◌, ℕ, suc, ◌^◌, ◌<◌, ◌≤◌, true, false, List, [], ◌∷◌, Some, Ok, length, sym, ap, ◌∙◌, subst, inl, inr, arith, true≢false}
use Rattle.volume_model.specs.Common.{IsIn, added, each_below, joined, put, Redo, Lineage, last_epoch, last_start, Pieces, in_pieces, Plan, IsCertified, Label, Message, Place, Install, CopyAsk, ClientAnswer, ClientStep, has_cut, label_of, place_of, cut_client, cut_step, installs, to_install, World, after, after_step, of_client, Cut}
use Rattle.volume_model.specs.Node.{Node}
use Rattle.volume_model.specs.Client.{Client}
use Rattle.volume_model.proofs.Basics.{IsIn-append_left, IsIn-append_right}
use Rattle.volume_model.proofs.ClientSteps.{put-same}
use Rattle.volume_model.proofs.Invariant.{HasCut, IsMade, epoch_now, label}
use Rattle.volume_model.proofs.Renewed.{IsKeptWorld}
use Rattle.volume_model.proofs.Run.{event_kept}
use Rattle.world.proofs.Installing.{IsInstalling, IsRecovering}
use Rattle.world.proofs.Readable.{HasPlace, HasStep, IsIn-kept, IsIn-new, IsReading, each_has}
use Rattle.world.proofs.Started.{HasStarted, kept_from_cut}
use Rattle.world.proofs.Volumes.{VolumesKnown}
use Rattle.std.proofs.lemmas.Grind.{common_steps}

-- what a list of lists has
joined-has : {A : Type 0} (xss : List (List A)) (xs : List A) (x : A) → IsIn xs xss → IsIn x xs → IsIn x (joined xss)
joined-has [] xs x i j = absurd i
joined-has (ys ∷ rest) xs x (inl e) j = IsIn-append_left ys (joined rest) x (subst (λ (z : List _). IsIn x z) e j)
joined-has (ys ∷ rest) xs x (inr i) j = IsIn-append_right ys (joined rest) x (joined-has rest xs x i j)

-- the installs of all groups have the pieces of each
installs-has : (groups volume : ℕ) (places : ℕ → Place) (lineage : Lineage) (found : List Redo) (g : ℕ) → g < groups → (m : Message) → IsIn m (in_pieces (to_install lineage found g) (Install g (label_of volume places g)))
    → IsIn m (installs groups volume places lineage found (λ group. true))
installs-has groups volume places lineage found g l m i =
    joined-has (each_below groups (λ group. true) (λ group. in_pieces (to_install lineage found group) (Install group (label_of volume places group))))
    (in_pieces (to_install lineage found g) (Install g (label_of volume places g))) m
    (each_has groups (λ group. in_pieces (to_install lineage found group) (Install group (label_of volume places group))) g l) i

-- what a client that cuts found, and its lineage
record HasCutWith (plan : Plan) (v : ℕ) (client : Client) (step : ClientStep) : Type 0 where
  line : Lineage
  found : List Redo
  is : cut_step v client found line ≡ step
  head : last_epoch line ≡ v
  start : last_start line ≤ 2 ^ 62

-- a cut that isn't refused is the step with these
cut_with : (plan : Plan) (v : ℕ) (client : Client) (step : ClientStep) → ◌≡◌ {A = ClientAnswer} (cut_client plan v client) (Ok step) → HasCutWith plan v client step
cut_with plan v client step h = grind (arith, common_steps)

module _ (plan : Plan) (certified : IsCertified plan) (world : World) (known : IsKeptWorld plan world) (volumes : VolumesKnown world)
    (placed : (g x : ℕ) → HasPlace g x (world.nodes g x)) (steps : (g : ℕ) → HasStep plan world g) (left : world.authority.last_volume < 4294967295) where
  -- the recovery's volume epoch
  abbrev v : ℕ
  v = suc world.authority.last_volume

  -- A recovery that has read cuts, and all pieces of its install are made. It installs nothing yet.
  pub cut_installing : (u : World) → IsReading plan certified world known volumes placed steps left u
      → (step : ClientStep) → ◌≡◌ {A = ClientAnswer} (cut_client plan v (u.clients v)) (Ok step)
      → ((g x : ℕ) → (u.nodes g x).whole ≡ false → 1 ≤ (u.nodes g x).place.epoch → IsMade u (CopyAsk g (u.nodes g x).place.epoch))
      → ((g x : ℕ) → HasStarted plan g (u.nodes g x))
      → (line : Lineage) × (records : List Redo) × IsInstalling plan v world.authority.configurations line records (after plan u (Cut v))
      × (last_epoch line ≡ v) × (last_start line ≤ 2 ^ 62)
      × ((after plan u (Cut v)).nodes ≡ u.nodes) × ((after plan u (Cut v)).authority ≡ u.authority)
  cut_installing u r step h asked started =
      let client : Client = u.clients v in
      let own : HasCutWith plan v client step = cut_with plan v client step h in
      let made : List Message = installs (length client.groups) v (place_of client.groups) own.line own.found (λ group. true) in
      let next : Client = (cut_step v client own.found own.line).client in
      let e : after plan u (Cut v) ≡ record u { clients = put u.clients v next; messages = added made u.messages } = ap (λ (a : ClientAnswer). after_step u (of_client u v a)) (h ∙ ap (λ (s : ClientStep). Ok s) (sym own.is)) in
      let run_on : IsKeptWorld plan (after plan u (Cut v)) = event_kept plan certified u r.in_run.kept (Cut v) in
      let here : next ≡ put u.clients v next v = sym (put-same u.clients v next) in
      let piece_made : (g : ℕ) → g < length world.authority.configurations → (m : Message) → IsIn m (in_pieces (to_install own.line own.found g) (Install g (label v (epoch_now plan world g)))) → IsIn m (added made u.messages) = λ g l m i. (
      let at_is : label_of v (place_of client.groups) g ≡ label v (epoch_now plan world g) = ap (λ (p : Place). label v p.epoch) (r.places g l) in
      let inside : g < length client.groups = (let s : length client.groups ≡ length world.authority.configurations = r.groups in omega arith) in
      IsIn-new made u.messages m (installs-has (length client.groups) v (place_of client.groups) own.line own.found g inside m
      (subst (λ (lab : Label). IsIn m (in_pieces (to_install own.line own.found g) (Install g lab))) (sym at_is) i))) in
      let recovering : IsRecovering plan v world.authority.configurations own.line own.found (after plan u (Cut v)) = subst (IsRecovering plan v world.authority.configurations own.line own.found) (sym e) (record {
        in_run = subst (IsKeptWorld plan) e run_on;
        last = r.last;
        configurations = r.configurations;
        stage = ap (λ (c : Client). c.stage) (sym here);
        groups = ap (λ (c : Client). length c.groups) (sym here) ∙ r.groups;
        places = λ g l. ap (λ (c : Client). place_of c.groups g) (sym here) ∙ r.places g l;
        lineage = ap (λ (c : Client). c.lineage) (sym here);
        found = ap (λ (c : Client). c.found) (sym here);
        log = ap (λ (c : Client). c.log) (sym here);
        pieces = piece_made;
        step = λ g. elim (r.step g) [ inl root ↦ inl root | inr is ↦ inr (IsIn-kept made u.messages _ is) ];
        volume = r.volume;
        placed_on = r.placed_on;
        asked = λ g x w k. IsIn-kept made u.messages _ (asked g x w k);
      }) in
      let nodes_same : (after plan u (Cut v)).nodes ≡ u.nodes = ap (λ (z : World). z.nodes) e in
      let unstarted : (g x : ℕ) (pieces : Pieces) → (u.nodes g x).install ≡ Some pieces → pieces.series ≡ v → ⊥ = λ g x pieces is series. (
      let cut : HasCut u pieces.series = kept_from_cut plan certified u r.in_run g x (started g x) pieces is in
      let cut_here : has_cut client.stage ≡ true = subst (λ k. has_cut (u.clients k).stage ≡ true) series cut in
      true≢false (sym cut_here ∙ ap has_cut r.stage)) in (
        own.line,
        own.found,
        record { recovering = recovering; unstarted = λ g x pieces is series. unstarted g x pieces (sym (ap (λ (nodes : ℕ → ℕ → Node). (nodes g x).install) nodes_same) ∙ is) series },
        own.head,
        own.start,
        nodes_same,
        ap (λ (z : World). z.authority) e,
      )
