-- The fields of each kind are spelled by the bytes that they were read from.
use Rattle.std.proofs.Common.{◌≡◌, ℕ, ◌+◌, ◌^◌, List, [], ◌∷◌, ◌++◌, ◌==◌, length, Result, Ok, sym, ap, subst, ◌∙◌, append_assoc, arith, refl, append-nil, length-append}
use Rattle.std.specs.Int.{w16, w32, w64, to_be_bytes}
use Rattle.volume_model.specs.declared.fault.Fault.{Fault}
use Rattle.volume_model.specs.declared.fault.Fault.TheVariants.{BadField}
use Rattle.volume_model.specs.Common.{◌>>=◌, Label, Place, Message, View, StepTo, Fence, Report, Install, Write, Gossip, Ack, CopyAsk, CopyReport, PageAsk, Page}
use Rattle.message_bytes.specs.Numbers.{byte_at, number_at, image_at}
use Rattle.message_bytes.specs.Contents.{redo_at, contents_at}
use Rattle.message_bytes.specs.Reading.{label_at, labelled_at, place_at, places_at, volume_at, view_at, step_at, fence_at, report_at, install_at, write_at, gossip_at, ack_at, copy_ask_at, copy_report_at, page_ask_at, page_at}
use Rattle.message_bytes.specs.Spelling.{label_spelled, place_spelled, places_spelled, tagged_spelled}
use Rattle.message_bytes.proofs.Fields.{IsBytes, bind_ok, guard_ok, ok_is, Takes, Takes-then, wide16, wide32, wide64, byte_takes, number_takes, image_takes}
use Rattle.message_bytes.proofs.Found.{redo_takes, contents_takes, list_takes}
use Rattle.message_bytes.proofs.Loop.{places}
use Rattle.std.proofs.lemmas.Grind.{common_steps}
use Rattle.std.proofs.Common.{rules}

-- behind a kind
tagged : (k : ℕ) (bytes body rest : List ℕ) → Takes bytes body rest → Takes (k ∷ bytes) (k ∷ body) rest
tagged k bytes body rest t = record { parts = ap (λ (l : List ℕ). k ∷ l) t.parts; rest_fits = t.rest_fits }

pub label_takes : (bytes : List ℕ) (x : Label × List ℕ) → IsBytes bytes → label_at bytes ≡ Ok x → Takes bytes (label_spelled x.0) x.1
unfolding label_at
label_takes bytes x fits e =
    let a = bind_ok (number_at w32 bytes) (λ volume. number_at w32 volume.1 >>= λ member. Ok (record { volume = volume.0; member = member.0 }, member.1)) x e in
    let b = bind_ok (number_at w32 a.0.1) (λ member. Ok (record { volume = a.0.0; member = member.0 }, member.1)) x a.2 in
    let t0 = number_takes w32 (2 ^ 32) wide32 bytes a.0 fits a.1 in
    let t1 = number_takes w32 (2 ^ 32) wide32 a.0.1 b.0 t0.rest_fits b.1 in
    let made : Label × List ℕ = (record { volume = a.0.0; member = b.0.0 }, b.0.1) in
    subst (λ (y : Label × List ℕ). Takes bytes (label_spelled y.0) y.1) (ok_is made x b.2) (Takes-then bytes _ a.0.1 _ b.0.1 t0 t1)

pub labelled_takes : (bytes : List ℕ) (x : (ℕ × Label) × List ℕ) → IsBytes bytes → labelled_at bytes ≡ Ok x → Takes bytes (x.0.0 ∷ label_spelled x.0.1) x.1
unfolding labelled_at
labelled_takes bytes x fits e =
    let a = bind_ok (byte_at bytes) (λ group. label_at group.1 >>= λ label. Ok ((group.0, label.0), label.1)) x e in
    let b = bind_ok (label_at a.0.1) (λ label. Ok ((a.0.0, label.0), label.1)) x a.2 in
    let t0 = byte_takes bytes a.0 fits a.1 in
    let t1 = label_takes a.0.1 b.0 t0.rest_fits b.1 in
    let made : (ℕ × Label) × List ℕ = ((a.0.0, b.0.0), b.0.1) in
    subst (λ (y : (ℕ × Label) × List ℕ). Takes bytes (y.0.0 ∷ label_spelled y.0.1) y.1) (ok_is made x b.2) (Takes-then bytes _ a.0.1 _ b.0.1 t0 t1)

pub place_takes : (bytes : List ℕ) (x : Place × List ℕ) → IsBytes bytes → place_at bytes ≡ Ok x → Takes bytes (place_spelled x.0) x.1
unfolding place_at
place_takes bytes x fits e =
    let a = bind_ok (byte_at bytes) (λ configuration. number_at w32 configuration.1 >>= λ epoch. Ok (record { configuration = configuration.0; epoch = epoch.0 }, epoch.1)) x e in
    let b = bind_ok (number_at w32 a.0.1) (λ epoch. Ok (record { configuration = a.0.0; epoch = epoch.0 }, epoch.1)) x a.2 in
    let t0 = byte_takes bytes a.0 fits a.1 in
    let t1 = number_takes w32 (2 ^ 32) wide32 a.0.1 b.0 t0.rest_fits b.1 in
    let made : Place × List ℕ = (record { configuration = a.0.0; epoch = b.0.0 }, b.0.1) in
    subst (λ (y : Place × List ℕ). Takes bytes (place_spelled y.0) y.1) (ok_is made x b.2) (Takes-then bytes _ a.0.1 _ b.0.1 t0 t1)

pub places_spelled-append : (xs ys : List Place) → places_spelled (xs ++ ys) ≡ places_spelled xs ++ places_spelled ys
places_spelled-append [] ys = refl
places_spelled-append (x ∷ xs) ys = ap (λ (t : List ℕ). place_spelled x ++ t) (places_spelled-append xs ys) ∙ sym (append_assoc (place_spelled x) (places_spelled xs) (places_spelled ys))

place_joined : (kept own : List Place) (place : Place) → ◌≡◌ {A = Result (List Place) Fault} (Ok (kept ++ place ∷ [])) (Ok own) → (places_spelled own ≡ places_spelled kept ++ place_spelled place) × (length own ≡ length kept + 1)
place_joined kept own place e = grind (arith, common_steps, ok_is, places_spelled-append, append-nil, length-append)

pub volume_takes : (bytes : List ℕ) (x : ℕ × List ℕ) → IsBytes bytes → volume_at bytes ≡ Ok x → Takes bytes (to_be_bytes w32 x.0) x.1
unfolding volume_at
volume_takes bytes x fits e =
    let a = bind_ok (number_at w32 bytes) _ x e in
    let g = guard_ok (a.0.0 == 0) BadField (Ok (a.0.0, a.0.1)) x a.2 in
    let t = number_takes w32 (2 ^ 32) wide32 bytes a.0 fits a.1 in
    let made : ℕ × List ℕ = (a.0.0, a.0.1) in
    subst (λ (y : ℕ × List ℕ). Takes bytes (to_be_bytes w32 y.0) y.1) (ok_is made x g.1) t

pub view_takes : (bytes : List ℕ) (x : Message × List ℕ) → IsBytes bytes → view_at bytes ≡ Ok x → Takes (1 ∷ bytes) (tagged_spelled x.0) x.1
unfolding view_at
view_takes bytes x fits e =
    let a = bind_ok (volume_at bytes) (λ volume. number_at w32 volume.1 >>= λ n. places_at n.0 [] n.1 >>= λ places. Ok (View volume.0 places.0, places.1)) x e in
    let b = bind_ok (number_at w32 a.0.1) (λ n. places_at n.0 [] n.1 >>= λ places. Ok (View a.0.0 places.0, places.1)) x a.2 in
    let d = bind_ok (places_at b.0.0 [] b.0.1) (λ places. Ok (View a.0.0 places.0, places.1)) x b.2 in
    let t0 = volume_takes bytes a.0 fits a.1 in
    let t1 = number_takes w32 (2 ^ 32) wide32 a.0.1 b.0 t0.rest_fits b.1 in
    let t2 = list_takes places place_spelled places_spelled length place_takes place_joined b.0.0 [] b.0.1 d.0 t1.rest_fits d.1 in
    let listed : Takes a.0.1 (to_be_bytes w32 (length d.0.0) ++ places_spelled d.0.0) d.0.1 = grind (arith, common_steps) in
    let made : Message × List ℕ = (View a.0.0 d.0.0, d.0.1) in
    subst (λ (y : Message × List ℕ). Takes (1 ∷ bytes) (tagged_spelled y.0) y.1) (ok_is made x d.2) (tagged 1 bytes _ d.0.1 (Takes-then bytes _ a.0.1 _ d.0.1 t0 listed))

pub step_takes : (bytes : List ℕ) (x : Message × List ℕ) → IsBytes bytes → step_at bytes ≡ Ok x → Takes (2 ∷ bytes) (tagged_spelled x.0) x.1
unfolding step_at
step_takes bytes x fits e =
    let a = bind_ok (byte_at bytes) (λ group. place_at group.1 >>= λ place. Ok (StepTo group.0 place.0, place.1)) x e in
    let b = bind_ok (place_at a.0.1) (λ place. Ok (StepTo a.0.0 place.0, place.1)) x a.2 in
    let t0 = byte_takes bytes a.0 fits a.1 in
    let t1 = place_takes a.0.1 b.0 t0.rest_fits b.1 in
    let made : Message × List ℕ = (StepTo a.0.0 b.0.0, b.0.1) in
    subst (λ (y : Message × List ℕ). Takes (2 ∷ bytes) (tagged_spelled y.0) y.1) (ok_is made x b.2) (tagged 2 bytes _ b.0.1 (Takes-then bytes _ a.0.1 _ b.0.1 t0 t1))

pub fence_takes : (bytes : List ℕ) (x : Message × List ℕ) → IsBytes bytes → fence_at bytes ≡ Ok x → Takes (3 ∷ bytes) (tagged_spelled x.0) x.1
unfolding fence_at
fence_takes bytes x fits e =
    let a = bind_ok (labelled_at bytes) (λ head. Ok (Fence head.0.0 head.0.1, head.1)) x e in
    let t0 = labelled_takes bytes a.0 fits a.1 in
    let made : Message × List ℕ = (Fence a.0.0.0 a.0.0.1, a.0.1) in
    subst (λ (y : Message × List ℕ). Takes (3 ∷ bytes) (tagged_spelled y.0) y.1) (ok_is made x a.2) (tagged 3 bytes _ a.0.1 t0)

pub report_takes : (bytes : List ℕ) (x : Message × List ℕ) → IsBytes bytes → report_at bytes ≡ Ok x → Takes (4 ∷ bytes) (tagged_spelled x.0) x.1
unfolding report_at
report_takes bytes x fits e =
    let a = bind_ok (labelled_at bytes) (λ head. byte_at head.1 >>= λ from. contents_at from.1 >>= λ c. Ok (Report head.0.0 head.0.1 from.0 c.0, c.1)) x e in
    let b = bind_ok (byte_at a.0.1) (λ from. contents_at from.1 >>= λ c. Ok (Report a.0.0.0 a.0.0.1 from.0 c.0, c.1)) x a.2 in
    let d = bind_ok (contents_at b.0.1) (λ c. Ok (Report a.0.0.0 a.0.0.1 b.0.0 c.0, c.1)) x b.2 in
    let t0 = labelled_takes bytes a.0 fits a.1 in
    let t1 = byte_takes a.0.1 b.0 t0.rest_fits b.1 in
    let t2 = contents_takes b.0.1 d.0 t1.rest_fits d.1 in
    grind (arith, common_steps)

pub install_takes : (bytes : List ℕ) (x : Message × List ℕ) → IsBytes bytes → install_at bytes ≡ Ok x → Takes (5 ∷ bytes) (tagged_spelled x.0) x.1
unfolding install_at
install_takes bytes x fits e =
    let a = bind_ok (labelled_at bytes) (λ head. number_at w16 head.1 >>= λ piece. number_at w16 piece.1 >>= λ of. contents_at of.1 >>= λ c. Ok (Install head.0.0 head.0.1 (record { number = piece.0; of = of.0 }) c.0, c.1)) x e in
    let b = bind_ok (number_at w16 a.0.1) (λ piece. number_at w16 piece.1 >>= λ of. contents_at of.1 >>= λ c. Ok (Install a.0.0.0 a.0.0.1 (record { number = piece.0; of = of.0 }) c.0, c.1)) x a.2 in
    let d = bind_ok (number_at w16 b.0.1) (λ of. contents_at of.1 >>= λ c. Ok (Install a.0.0.0 a.0.0.1 (record { number = b.0.0; of = of.0 }) c.0, c.1)) x b.2 in
    let f = bind_ok (contents_at d.0.1) (λ c. Ok (Install a.0.0.0 a.0.0.1 (record { number = b.0.0; of = d.0.0 }) c.0, c.1)) x d.2 in
    let t0 = labelled_takes bytes a.0 fits a.1 in
    let t1 = number_takes w16 (2 ^ 16) wide16 a.0.1 b.0 t0.rest_fits b.1 in
    let t2 = number_takes w16 (2 ^ 16) wide16 b.0.1 d.0 t1.rest_fits d.1 in
    let t3 = contents_takes d.0.1 f.0 t2.rest_fits f.1 in
    grind (arith, common_steps)

pub write_takes : (bytes : List ℕ) (x : Message × List ℕ) → IsBytes bytes → write_at bytes ≡ Ok x → Takes (6 ∷ bytes) (tagged_spelled x.0) x.1
unfolding write_at
write_takes bytes x fits e =
    let a = bind_ok (labelled_at bytes) (λ head. redo_at head.1 >>= λ r. Ok (Write head.0.0 head.0.1 r.0, r.1)) x e in
    let b = bind_ok (redo_at a.0.1) (λ r. Ok (Write a.0.0.0 a.0.0.1 r.0, r.1)) x a.2 in
    let t0 = labelled_takes bytes a.0 fits a.1 in
    let t1 = redo_takes a.0.1 b.0 t0.rest_fits b.1 in
    let made : Message × List ℕ = (Write a.0.0.0 a.0.0.1 b.0.0, b.0.1) in
    subst (λ (y : Message × List ℕ). Takes (6 ∷ bytes) (tagged_spelled y.0) y.1) (ok_is made x b.2) (tagged 6 bytes _ b.0.1 (Takes-then bytes _ a.0.1 _ b.0.1 t0 t1))

pub gossip_takes : (bytes : List ℕ) (x : Message × List ℕ) → IsBytes bytes → gossip_at bytes ≡ Ok x → Takes (7 ∷ bytes) (tagged_spelled x.0) x.1
unfolding gossip_at
gossip_takes bytes x fits e =
    let a = bind_ok (labelled_at bytes) (λ head. redo_at head.1 >>= λ r. Ok (Gossip head.0.0 head.0.1 r.0, r.1)) x e in
    let b = bind_ok (redo_at a.0.1) (λ r. Ok (Gossip a.0.0.0 a.0.0.1 r.0, r.1)) x a.2 in
    let t0 = labelled_takes bytes a.0 fits a.1 in
    let t1 = redo_takes a.0.1 b.0 t0.rest_fits b.1 in
    let made : Message × List ℕ = (Gossip a.0.0.0 a.0.0.1 b.0.0, b.0.1) in
    subst (λ (y : Message × List ℕ). Takes (7 ∷ bytes) (tagged_spelled y.0) y.1) (ok_is made x b.2) (tagged 7 bytes _ b.0.1 (Takes-then bytes _ a.0.1 _ b.0.1 t0 t1))

pub ack_takes : (bytes : List ℕ) (x : Message × List ℕ) → IsBytes bytes → ack_at bytes ≡ Ok x → Takes (8 ∷ bytes) (tagged_spelled x.0) x.1
unfolding ack_at
ack_takes bytes x fits e =
    let a = bind_ok (labelled_at bytes) (λ head. byte_at head.1 >>= λ from. number_at w64 from.1 >>= λ scl. Ok (Ack head.0.0 head.0.1 from.0 scl.0, scl.1)) x e in
    let b = bind_ok (byte_at a.0.1) (λ from. number_at w64 from.1 >>= λ scl. Ok (Ack a.0.0.0 a.0.0.1 from.0 scl.0, scl.1)) x a.2 in
    let d = bind_ok (number_at w64 b.0.1) (λ scl. Ok (Ack a.0.0.0 a.0.0.1 b.0.0 scl.0, scl.1)) x b.2 in
    let t0 = labelled_takes bytes a.0 fits a.1 in
    let t1 = byte_takes a.0.1 b.0 t0.rest_fits b.1 in
    let t2 = number_takes w64 (2 ^ 64) wide64 b.0.1 d.0 t1.rest_fits d.1 in
    grind (arith, common_steps)

pub copy_ask_takes : (bytes : List ℕ) (x : Message × List ℕ) → IsBytes bytes → copy_ask_at bytes ≡ Ok x → Takes (9 ∷ bytes) (tagged_spelled x.0) x.1
unfolding copy_ask_at
copy_ask_takes bytes x fits e =
    let a = bind_ok (byte_at bytes) (λ group. number_at w32 group.1 >>= λ epoch. Ok (CopyAsk group.0 epoch.0, epoch.1)) x e in
    let b = bind_ok (number_at w32 a.0.1) (λ epoch. Ok (CopyAsk a.0.0 epoch.0, epoch.1)) x a.2 in
    let t0 = byte_takes bytes a.0 fits a.1 in
    let t1 = number_takes w32 (2 ^ 32) wide32 a.0.1 b.0 t0.rest_fits b.1 in
    let made : Message × List ℕ = (CopyAsk a.0.0 b.0.0, b.0.1) in
    subst (λ (y : Message × List ℕ). Takes (9 ∷ bytes) (tagged_spelled y.0) y.1) (ok_is made x b.2) (tagged 9 bytes _ b.0.1 (Takes-then bytes _ a.0.1 _ b.0.1 t0 t1))

pub copy_report_takes : (bytes : List ℕ) (x : Message × List ℕ) → IsBytes bytes → copy_report_at bytes ≡ Ok x → Takes (10 ∷ bytes) (tagged_spelled x.0) x.1
unfolding copy_report_at
copy_report_takes bytes x fits e =
    let a = bind_ok (byte_at bytes) (λ group. number_at w32 group.1 >>= λ epoch. byte_at epoch.1 >>= λ from. number_at w64 from.1 >>= λ series. number_at w16 series.1 >>= λ piece. number_at w16 piece.1 >>= λ of. contents_at of.1
    >>= λ c. Ok (CopyReport group.0 epoch.0 from.0 series.0 (record { number = piece.0; of = of.0 }) c.0, c.1)) x e in
    let b = bind_ok (number_at w32 a.0.1) (λ epoch. byte_at epoch.1 >>= λ from. number_at w64 from.1 >>= λ series. number_at w16 series.1 >>= λ piece. number_at w16 piece.1 >>= λ of. contents_at of.1
    >>= λ c. Ok (CopyReport a.0.0 epoch.0 from.0 series.0 (record { number = piece.0; of = of.0 }) c.0, c.1)) x a.2 in
    let d = bind_ok (byte_at b.0.1) (λ from. number_at w64 from.1 >>= λ series. number_at w16 series.1 >>= λ piece. number_at w16 piece.1 >>= λ of. contents_at of.1
    >>= λ c. Ok (CopyReport a.0.0 b.0.0 from.0 series.0 (record { number = piece.0; of = of.0 }) c.0, c.1)) x b.2 in
    let f = bind_ok (number_at w64 d.0.1) (λ series. number_at w16 series.1 >>= λ piece. number_at w16 piece.1 >>= λ of. contents_at of.1
    >>= λ c. Ok (CopyReport a.0.0 b.0.0 d.0.0 series.0 (record { number = piece.0; of = of.0 }) c.0, c.1)) x d.2 in
    let g = bind_ok (number_at w16 f.0.1) (λ piece. number_at w16 piece.1 >>= λ of. contents_at of.1 >>= λ c. Ok (CopyReport a.0.0 b.0.0 d.0.0 f.0.0 (record { number = piece.0; of = of.0 }) c.0, c.1)) x f.2 in
    let h = bind_ok (number_at w16 g.0.1) (λ of. contents_at of.1 >>= λ c. Ok (CopyReport a.0.0 b.0.0 d.0.0 f.0.0 (record { number = g.0.0; of = of.0 }) c.0, c.1)) x g.2 in
    let i = bind_ok (contents_at h.0.1) (λ c. Ok (CopyReport a.0.0 b.0.0 d.0.0 f.0.0 (record { number = g.0.0; of = h.0.0 }) c.0, c.1)) x h.2 in
    let t0 = byte_takes bytes a.0 fits a.1 in
    let t1 = number_takes w32 (2 ^ 32) wide32 a.0.1 b.0 t0.rest_fits b.1 in
    let t2 = byte_takes b.0.1 d.0 t1.rest_fits d.1 in
    let t3 = number_takes w64 (2 ^ 64) wide64 d.0.1 f.0 t2.rest_fits f.1 in
    let t4 = number_takes w16 (2 ^ 16) wide16 f.0.1 g.0 t3.rest_fits g.1 in
    let t5 = number_takes w16 (2 ^ 16) wide16 g.0.1 h.0 t4.rest_fits h.1 in
    let t6 = contents_takes h.0.1 i.0 t5.rest_fits i.1 in
    let made : Message × List ℕ = (CopyReport a.0.0 b.0.0 d.0.0 f.0.0 (record { number = g.0.0; of = h.0.0 }) i.0.0, i.0.1) in
    subst (λ (y : Message × List ℕ). Takes (10 ∷ bytes) (tagged_spelled y.0) y.1) (ok_is made x i.2)
    (tagged 10 bytes _ i.0.1 (Takes-then bytes _ b.0.1 _ i.0.1 (Takes-then bytes _ a.0.1 _ b.0.1 t0 t1)
    (Takes-then b.0.1 _ f.0.1 _ i.0.1 (Takes-then b.0.1 _ d.0.1 _ f.0.1 t2 t3) (Takes-then f.0.1 _ h.0.1 _ i.0.1 (Takes-then f.0.1 _ g.0.1 _ h.0.1 t4 t5) t6))))

pub page_ask_takes : (bytes : List ℕ) (x : Message × List ℕ) → IsBytes bytes → page_ask_at bytes ≡ Ok x → Takes (11 ∷ bytes) (tagged_spelled x.0) x.1
unfolding page_ask_at
page_ask_takes bytes x fits e =
    let a = bind_ok (labelled_at bytes) (λ head. number_at w32 head.1 >>= λ block. number_at w64 block.1 >>= λ point. Ok (PageAsk head.0.0 head.0.1 block.0 point.0, point.1)) x e in
    let b = bind_ok (number_at w32 a.0.1) (λ block. number_at w64 block.1 >>= λ point. Ok (PageAsk a.0.0.0 a.0.0.1 block.0 point.0, point.1)) x a.2 in
    let d = bind_ok (number_at w64 b.0.1) (λ point. Ok (PageAsk a.0.0.0 a.0.0.1 b.0.0 point.0, point.1)) x b.2 in
    let t0 = labelled_takes bytes a.0 fits a.1 in
    let t1 = number_takes w32 (2 ^ 32) wide32 a.0.1 b.0 t0.rest_fits b.1 in
    let t2 = number_takes w64 (2 ^ 64) wide64 b.0.1 d.0 t1.rest_fits d.1 in
    grind (arith, common_steps)

pub page_takes : (bytes : List ℕ) (x : Message × List ℕ) → IsBytes bytes → page_at bytes ≡ Ok x → Takes (12 ∷ bytes) (tagged_spelled x.0) x.1
unfolding page_at
page_takes bytes x fits e =
    let a = bind_ok (labelled_at bytes) (λ head. byte_at head.1 >>= λ from. number_at w32 from.1 >>= λ block. number_at w64 block.1 >>= λ point. image_at point.1 >>= λ image. Ok (Page head.0.0 head.0.1 from.0 block.0 point.0 image.0, image.1)) x e in
    let b = bind_ok (byte_at a.0.1) (λ from. number_at w32 from.1 >>= λ block. number_at w64 block.1 >>= λ point. image_at point.1 >>= λ image. Ok (Page a.0.0.0 a.0.0.1 from.0 block.0 point.0 image.0, image.1)) x a.2 in
    let d = bind_ok (number_at w32 b.0.1) (λ block. number_at w64 block.1 >>= λ point. image_at point.1 >>= λ image. Ok (Page a.0.0.0 a.0.0.1 b.0.0 block.0 point.0 image.0, image.1)) x b.2 in
    let f = bind_ok (number_at w64 d.0.1) (λ point. image_at point.1 >>= λ image. Ok (Page a.0.0.0 a.0.0.1 b.0.0 d.0.0 point.0 image.0, image.1)) x d.2 in
    let g = bind_ok (image_at f.0.1) (λ image. Ok (Page a.0.0.0 a.0.0.1 b.0.0 d.0.0 f.0.0 image.0, image.1)) x f.2 in
    let t0 = labelled_takes bytes a.0 fits a.1 in
    let t1 = byte_takes a.0.1 b.0 t0.rest_fits b.1 in
    let t2 = number_takes w32 (2 ^ 32) wide32 b.0.1 d.0 t1.rest_fits d.1 in
    let t3 = number_takes w64 (2 ^ 64) wide64 d.0.1 f.0 t2.rest_fits f.1 in
    let t4 = image_takes f.0.1 g.0 t3.rest_fits g.1 in
    search (rules, Takes, ok_is, tagged, Takes-then)
