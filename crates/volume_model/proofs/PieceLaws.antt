-- Pieces make up what they were cut from, and those that a node keeps are of one whole
use Rattle.std.proofs.Common.{◌≡◌, ℕ, zero, suc, ◌+◌, ◌*◌, ◌<◌, ◌≤◌, min, Bool, true, false, ◌||◌, ◌==◌, if◌then◌else◌, List, [], ◌∷◌, ◌++◌, length, take, drop, take_all, map, flat_map, length-take, append-nil, Some, refl, sym, ◌∙◌, subst, inl, inr, arith}
use Rattle.std.proofs.lemmas.Bool.{cases_Bool, cases_eq, true≢false, eqb-false, eq-eqb, ne_eqb}
use Rattle.std.proofs.Math.Seq.{take-add}
use Rattle.volume_model.specs.Common.{IsIn, any, every_below, each_below, Redo, Lineage, Contents, KeptPiece, Pieces, Copy, most_in_piece, pieces_of, piece_records, piece_in, contents_in, united, brought_by, brought, Plan, IsCertified, World, Event, IsNumberOfPieces, ArePiecesOf, AreOnce, CountTells, united_copy, PiecesMakeUp, PiecesUnite, KeepsPiecesOfOne, PiecesAreOfOne}
use Rattle.volume_model.specs.Lineage.{found_in}
use Rattle.volume_model.proofs.Basics.{any_fails, IsIn-flat_map, flat_map-has, IsIn-map, map-has}
use Rattle.volume_model.proofs.Records.{found_in-from, found_in-has}
use Rattle.volume_model.proofs.Ordered.{same_set, found_in-ordered}
use Rattle.volume_model.proofs.Pieces.{enough_pieces, AreOf, part_of_contents, all_contents, united-from, united-has, united-ordered}
use Rattle.volume_model.proofs.Invariant.{label}
use Rattle.volume_model.proofs.Kept.{install_of, IsInstall, IsCopied, IsKept}
use Rattle.volume_model.proofs.Carried.{end, held, kept}
use Rattle.std.proofs.lemmas.Grind.{common_steps}

number_of_pieces : (records : ℕ) → IsNumberOfPieces records (pieces_of records)
number_of_pieces records = grind (arith, common_steps)

small_piece : (records : List Redo) (number : ℕ) → length (piece_records records number) ≤ most_in_piece
small_piece records number = grind (arith, common_steps, (min most_in_piece (length (drop (number * most_in_piece) records))), (length-take most_in_piece (drop (number * most_in_piece) records)))

-- so many pieces, one behind the other, have so many records
joined_below : (records : List Redo) (n : ℕ) → flat_map (piece_records records) (each_below n (λ number. true) (λ number. number)) ≡ take (n * most_in_piece) records
joined_below records zero = refl
joined_below records (suc n) = grind (arith, common_steps, (joined_below records n), (List ℕ), (append-nil (piece_records records n)), (take-add (n * most_in_piece) most_in_piece records))

joined_pieces : (records : List Redo) → flat_map (piece_records records) (each_below (pieces_of (length records)) (λ number. true) (λ number. number)) ≡ records
joined_pieces records = joined_below records (pieces_of (length records)) ∙ take_all (pieces_of (length records) * most_in_piece) records (enough_pieces (length records))

-- ---- how many pieces are kept

-- how many numbers below the bound pass the test
abbrev passing : ℕ → (ℕ → Bool) → ℕ
passing zero test = 0
passing (suc n) test = passing n test + (if test n then 1 else 0)

passing-most : (n : ℕ) (test : ℕ → Bool) → passing n test ≤ n
passing-most zero test = omega arith
passing-most (suc n) test = grind (arith, common_steps, passing, cases_Bool, (passing-most n test))

-- all pass where as many pass as there are
every-counted : (n : ℕ) (test : ℕ → Bool) → every_below n test ≡ (passing n test == n)
every-counted zero test = refl
every-counted (suc n) test = grind (arith, common_steps, passing, passing-most, cases_Bool, cases_eq, eq-eqb, ne_eqb, (every-counted n test))

-- a number that isn't below the bound makes none more
passing-same : (n m : ℕ) (test : ℕ → Bool) → n ≤ m → passing n (λ k. m == k || test k) ≡ passing n test
passing-same zero m test h = refl
passing-same (suc n) m test h = grind (arith, common_steps, passing, ne_eqb, (passing-same n m test (omega arith)))

-- one that is below it, and doesn't pass, makes one more
passing-more : (n m : ℕ) (test : ℕ → Bool) → m < n → test m ≡ false → passing n (λ k. m == k || test k) ≡ suc (passing n test)
passing-more zero m test h out = absurd (omega arith)
passing-more (suc n) m test h out =
    elim (cases_eq m n) [
      | inl e ↦ grind (arith, common_steps, passing, passing-same, eq-eqb)
      | inr differ ↦ grind (arith, common_steps, passing, ne_eqb, (passing-more n m test (omega (arith, differ)) out))
    ]

passing-none : (n : ℕ) → passing n (λ k. false) ≡ 0
passing-none zero = refl
passing-none (suc n) = let none : passing n (λ k. false) ≡ 0 = passing-none n in omega arith

-- as many numbers are there as pieces
kept-counted : (of : ℕ) (kept : List KeptPiece) → AreOnce of kept → passing of (λ n. any (λ piece. piece.number == n) kept) ≡ length kept
kept-counted of [] once = passing-none of
kept-counted of (piece ∷ rest) once =
    let more : passing of (λ n. piece.number == n || any (λ other. other.number == n) rest) ≡ suc (passing of (λ n. any (λ other. other.number == n) rest)) = passing-more of piece.number (λ n. any (λ other. other.number == n) rest) once.0 once.1 in
    grind (arith, common_steps, passing, (kept-counted of rest once.2))

-- a piece of another number joins them
once-push : (of : ℕ) (kept : List KeptPiece) (new : KeptPiece) → AreOnce of kept → new.number < of → any (λ other. other.number == new.number) kept ≡ false → AreOnce of (kept ++ new ∷ [])
once-push of [] new once below out = (below, refl, tt)
once-push of (piece ∷ rest) new once below out =
    let out' : any (λ other. other.number == new.number) rest ≡ false = rest_fails (piece.number == new.number) (any (λ other. other.number == new.number) rest) out in
    (once.0, pushed rest once.1, once-push of rest new once.2 below out')
  where
    rest_fails : (a b : Bool) → (a || b) ≡ false → b ≡ false
    rest_fails true b h = absurd (true≢false h)
    rest_fails false b h = h

    apart : new.number ≡ piece.number → ⊥
    apart e = eqb-false piece.number new.number (any_fails (λ other. other.number == new.number) (piece ∷ rest) out piece (inl refl)) (sym e)

    pushed : (kept : List KeptPiece) → any (λ other. other.number == piece.number) kept ≡ false → any (λ other. other.number == piece.number) (kept ++ new ∷ []) ≡ false
    pushed [] h = rw (ne_eqb new.number piece.number apart) refl
    pushed (k ∷ ks) h = grind (arith, common_steps)

count_tells : CountTells
count_tells = grind (arith, common_steps, every-counted, kept-counted, kept, cases_Bool, once-push)

are_of : (q : Contents) (pieces : Pieces) → 0 < pieces.of → ArePiecesOf q pieces → AreOf q pieces
are_of q pieces some are = record { some = some; each = are }

pub pieces_make_up : PiecesMakeUp
pieces_make_up = record {
  number = number_of_pieces;
  small = small_piece;
  joined = joined_pieces;
  kept = λ q pieces some are complete r. (
    (λ i. (let (c, j, k) = united-from (contents_in pieces) r i in (part_of_contents q pieces (are_of q pieces some are) c j).1 r k)),
    (λ i. (let (c, j, k) = all_contents q pieces (are_of q pieces some are) complete r i in united-has (contents_in pieces) c r j k)),
  );
  counted = count_tells;
}

-- ---- what pieces hold together

united-within : (parts others : List Contents) → ((c : Contents) → IsIn c parts → IsIn c others) → (r : Redo) → IsIn r (united parts) → IsIn r (united others)
united-within parts others within r i = let (c, j, k) = united-from parts r i in united-has others c r (within c j) k

found-united : (lineage : Lineage) (copies : List Copy) (r : Redo) → IsIn r (found_in lineage (brought copies)) → IsIn r (found_in lineage (map (united_copy lineage) copies))
found-united lineage copies r i = grind (arith, common_steps, found_in-from, IsIn-flat_map, found_in-has, map-has, united-has)

found-brought : (lineage : Lineage) (copies : List Copy) (r : Redo) → IsIn r (found_in lineage (map (united_copy lineage) copies)) → IsIn r (found_in lineage (brought copies))
found-brought lineage copies r i =
    let (c, j, k, live) = found_in-from lineage (map (united_copy lineage) copies) r i in
    let (copy, l, e) = IsIn-map (united_copy lineage) copies c j in
    let (part, m, n) = united-from (brought_by copy) r (subst (λ z. IsIn r z.records) e k) in
    found_in-has lineage (brought copies) part r (flat_map-has brought_by copies copy part l m) n live

pub pieces_unite : PiecesUnite
pieces_unite = record {
  any_order = λ parts others same. same_set (united parts) (united others) (united-ordered parts) (united-ordered others) (united-within parts others (λ c i. (same c).0 i)) (united-within others parts (λ c i. (same c).1 i));
  copies = λ lineage copies. same_set (found_in lineage (brought copies)) (found_in lineage (map (united_copy lineage) copies)) (found_in-ordered lineage (brought copies)) (found_in-ordered lineage (map (united_copy lineage) copies)) (found-united lineage copies) (found-brought lineage copies);
}

module _ (plan : Plan) (certified : IsCertified plan) (events : List Event) where
  -- the world of the run
  abbrev world : World
  world = end plan certified events

  is_kept : IsKept plan (held plan certified events) world
  is_kept = kept plan certified events

  of_copy : (group x : ℕ) → group < plan.groups → (copy : Copy) → IsIn copy (world.nodes group x).copies → ArePiecesOf (held plan certified events group copy.sender copy.pieces.series) copy.pieces
  of_copy group x there copy i k j =
      let event_result : IsCopied (held plan certified events) world group (world.nodes group x).place.epoch copy.sender copy.pieces.series (piece_in copy.pieces k) k.contents = is_kept.messages _ (((is_kept.nodes group x there).copies copy i).each k j) in
      event_result.is

  of_install : (group x : ℕ) → group < plan.groups → (pieces : Pieces) → (world.nodes group x).install ≡ Some pieces → ArePiecesOf (install_of world group pieces.series) pieces
  of_install group x there pieces is k j =
      let (e, made) = ((is_kept.nodes group x there).install pieces is).each k j in
      let event_result : IsInstall world group (label pieces.series e) (piece_in pieces k) k.contents = is_kept.messages _ made in
      event_result.is

  of_one : KeepsPiecesOfOne plan world
  of_one = record {
    copies = λ group x there copy i. (held plan certified events group copy.sender copy.pieces.series, of_copy group x there copy i);
    installs = of_install;
  }

pub pieces_are_of_one : PiecesAreOfOne
pieces_are_of_one plan certified events = of_one plan certified events
