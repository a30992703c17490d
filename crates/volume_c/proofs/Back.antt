-- Snapshots are read back.
use Rattle.std.proofs.Common.{◌≡◌, ℕ, ◌^◌, ◌<◌, Bool, true, false, List, [], ◌∷◌, ◌++◌, Ok, refl, sym, ap, ◌∙◌, None, append-nil}
use Rattle.std.specs.Int.{w32, w64, to_be_bytes}
use Rattle.volume_model.specs.Common.{Contents, Place}
use Rattle.message_bytes.specs.Contents.{contents_at}
use Rattle.message_bytes.specs.Spelling.{place_spelled, contents_spelled}
use Rattle.message_bytes.proofs.Fields.{wide32, wide64, number_again}
use Rattle.message_bytes.proofs.Back.{AreBack, place_again}
use Rattle.volume_c.specs.Saved.{head_at, flag_at, flag_spelled, segment_in, segment_spelled, authority_in, authority_spelled}

flag-again : (flag : Bool) (rest : List ℕ) → flag_at (flag_spelled flag ∷ rest) ≡ Ok (flag, rest)
unfolding flag_at
flag-again true rest = refl
flag-again false rest = refl

head-again : (kind : ℕ) (rest : List ℕ) → kind ≡ 129 → head_at 129 (1 ∷ 129 ∷ rest) ≡ Ok (129, rest)
unfolding head_at
head-again kind rest is = refl

authority-head : (rest : List ℕ) → head_at 130 (1 ∷ 130 ∷ rest) ≡ Ok (130, rest)
unfolding head_at
authority-head rest = refl

pub authority-back : (volume : ℕ) (configurations : List ℕ) → volume < 2 ^ 32
    → authority_in (authority_spelled (record { last_volume = volume; configurations = configurations }))
    ≡ Ok (record { last_volume = volume; configurations = configurations })
unfolding authority_in
authority-back volume configurations fits =
    rw (authority-head (to_be_bytes w32 volume ++ configurations), number_again w32 (2 ^ 32) wide32 volume configurations fits) refl

contents-last : (c : Contents) → AreBack c → contents_at (contents_spelled c) ≡ Ok (c, [])
contents-last c back = ap contents_at (sym (append-nil (contents_spelled c))) ∙ back []

pub segment-back : (volume : ℕ) (place : Place) (whole : Bool) (copied : ℕ) (c : Contents) → volume < 2 ^ 32 → place.epoch < 2 ^ 32 → copied < 2 ^ 64 → AreBack c
    → segment_in (segment_spelled (record { volume = volume; place = place; whole = whole; contents = c; copies = []; install = None; copied = copied }))
    ≡ Ok (record { volume = volume; place = place; whole = whole; contents = c; copies = []; install = None; copied = copied })
unfolding segment_in
segment-back volume place whole copied c fits epoch few back =
    let t = contents_spelled c in
    let n = to_be_bytes w64 copied in
    rw (
      head-again 129 (to_be_bytes w32 volume ++ (place_spelled place ++ (flag_spelled whole ∷ (n ++ t)))) refl,
      number_again w32 (2 ^ 32) wide32 volume (place_spelled place ++ (flag_spelled whole ∷ (n ++ t))) fits,
      place_again place (flag_spelled whole ∷ (n ++ t)) epoch,
      flag-again whole (n ++ t),
      number_again w64 (2 ^ 64) wide64 copied t few,
      contents-last c back,
    ) refl
