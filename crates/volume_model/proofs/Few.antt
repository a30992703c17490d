-- How many messages the step of a client makes at most.
use Rattle.std.proofs.Common.{◌≡◌, ℕ, zero, suc, ◌+◌, ◌/◌, ◌<◌, ◌≤◌, ◌==◌, nat_le, Bool, true, false, List, [], ◌∷◌, ◌++◌, Option, Some, None, Result, Ok, Err, length, if◌then◌else◌, option_map, length-append, ap, refl, inl, inr, arith, le_trans, not}
use Rattle.std.proofs.lemmas.Bool.{cases_Bool, cases_eq, ne_eqb, leb-true, le-leb, lt-leb, and_parts}
use Rattle.volume_model.proofs.Basics.{joined-append}
use Rattle.volume_model.specs.declared.fault.Fault.{Fault}
use Rattle.volume_model.specs.Common.{IsIn, each_below, joined, refuse_if, Redo, with_record, of_group, record_at, follow, chain_from, chain_or_none, Lineage, Contents, with_live, Piece, most_in_piece, pieces_of, piece_of, in_pieces, ◌>>=◌, Plan, Place, Message, place_in, View, Report, Install, Ack, Page, ClientAnswer, Stage, label_of, place_of, Change, issued, issued_writes, page_asked, record_of, resent, write_of, is_last, to_install, installs, live_reported, log_reported, cut_client, later_group, later_in, taken, viewed, with_places, Unborn, Reading, Installing, Writing, VolumeLinksFall, Few, most_installs, records_in, records_said}
use Rattle.volume_model.specs.Lineage.{found_in}
use Rattle.volume_model.specs.Client.{Client}
use Rattle.volume_model.proofs.Chains.{record_at-some}
use Rattle.std.proofs.lemmas.Grind.{common_steps}

-- what follows an answer
few_then : {A : Type 0} (most : ℕ) (first : Result A Fault) (rest : A → ClientAnswer) → ((x : A) → Few most (rest x)) → Few most (first >>= rest)
few_then most (Ok x) rest few = few x
few_then most (Err fault) rest few = tt

-- the rest of a refusal
few_if : (most : ℕ) (b : Bool) (fault : Fault) (rest : ClientAnswer) → Few most rest → Few most (refuse_if b fault rest)
few_if most true fault rest few = tt
few_if most false fault rest few = few

one_at_most : {A : Type 0} (b : Bool) (x : A) → length (if b then x ∷ [] else []) ≤ 1
one_at_most true x = omega arith
one_at_most false x = omega arith

few_below : {A : Type 0} (n : ℕ) (test : ℕ → Bool) (f : ℕ → A) → length (each_below n test f) ≤ n
few_below zero test f = omega arith
few_below (suc n) test f =
    let rest = few_below n test f in
    let one = one_at_most (test n) (f n) in
    let whole = length-append (each_below n test f) (if test n then f n ∷ [] else []) in
    omega arith

written_many : (volume : ℕ) (places : ℕ → Place) (start : ℕ) (changes : List Change) (log : List Redo) → length (issued_writes volume places start changes log) ≡ length changes
written_many volume places start [] log = refl
written_many volume places start (change ∷ more) log = ap suc (written_many volume places start more (record_of volume start log change (is_last more) ∷ log))

-- ---- how many pieces a log makes

-- the records of all groups below a number, group by group
abbrev all_groups : ℕ → List Redo → ℕ
all_groups zero found = 0
all_groups (suc n) found = all_groups n found + length (of_group n found)

with_record-length : (r : Redo) (records : List Redo) → length (with_record r records) ≤ suc (length records)
with_record-length r [] = omega arith
with_record-length r (s ∷ rest) = grind (arith, common_steps, cases_Bool, (with_record-length r rest))

-- a record of another group isn't among those of this one
of_group-other : (group : ℕ) (r : Redo) (older : List Redo) → (r.group ≡ group → ⊥) → length (of_group group (r ∷ older)) ≡ length (of_group group older)
of_group-other group r older other = rw (ne_eqb r.group group other) refl

of_group-own : (group : ℕ) (r : Redo) (older : List Redo) → length (of_group group (r ∷ older)) ≤ suc (length (of_group group older))
of_group-own group r older = grind (arith, common_steps, cases_Bool, with_record-length)

all_groups-other : (n : ℕ) (r : Redo) (older : List Redo) → n ≤ r.group → all_groups n (r ∷ older) ≡ all_groups n older
all_groups-other zero r older h = refl
all_groups-other (suc n) r older h = grind (arith, common_steps, all_groups, of_group-other, (all_groups-other n r older (omega arith)))

all_groups-more : (n : ℕ) (r : Redo) (older : List Redo) → all_groups n (r ∷ older) ≤ suc (all_groups n older)
all_groups-more zero r older = omega arith
all_groups-more (suc n) r older = grind (arith, common_steps, cases_eq, all_groups, all_groups-other, of_group-own, of_group-other, (all_groups-more n r older))

all_groups-none : (n : ℕ) → all_groups n [] ≡ 0
all_groups-none zero = refl
all_groups-none (suc n) = let none : all_groups n [] ≡ 0 = all_groups-none n in omega arith

-- each record is one of one group
all_groups-within : (n : ℕ) (found : List Redo) → all_groups n found ≤ length found
all_groups-within n [] = let none : all_groups n [] ≡ 0 = all_groups-none n in omega arith
all_groups-within n (r ∷ older) = grind (arith, common_steps, all_groups, all_groups-more, (all_groups-within n older))

few_pieces : {A : Type 0} (q : Contents) (say : Piece → Contents → A) → length (in_pieces q say) ≤ 1 + length q.records / most_in_piece
few_pieces q say =
    let of : ℕ = pieces_of (length q.records) in
    let most : length (in_pieces q say) ≤ of = few_below of (λ number. true) (λ number. say (record { number = number; of = of }) (piece_of q number)) in
    omega arith

module _ (lineage : Lineage) (found : List Redo) (chosen : ℕ → Bool) (say : ℕ → Piece → Contents → Message) where
  -- the pieces of a group
  abbrev of_one : ℕ → List Message
  of_one group = in_pieces (to_install lineage found group) (say group)

  one_if : (b : Bool) (group : ℕ) → length (joined (if b then of_one group ∷ [] else [])) ≤ 1 + length (of_group group found) / most_in_piece
  one_if true group = grind (arith, common_steps, (of_one group), (of_one group ++ []), (few_pieces (to_install lineage found group) (say group)), (length-append (of_one group) []))
  one_if false group = omega arith

  pieces_below : (n : ℕ) → length (joined (each_below n chosen of_one)) ≤ n + all_groups n found / most_in_piece
  pieces_below zero = omega arith
  pieces_below (suc n) =
      let before : List (List Message) = each_below n chosen of_one in
      let last : List (List Message) = if chosen n then of_one n ∷ [] else [] in
      let rest : length (joined before) ≤ n + all_groups n found / most_in_piece = pieces_below n in
      let one : length (joined last) ≤ 1 + length (of_group n found) / most_in_piece = one_if (chosen n) n in
      let whole : length (joined (each_below (suc n) chosen of_one)) ≡ length (joined before ++ joined last) = ap length (joined-append before last) in
      let sum : length (joined before ++ joined last) ≡ length (joined before) + length (joined last) = length-append (joined before) (joined last) in
      omega arith

few_installs : (groups volume : ℕ) (places : ℕ → Place) (lineage : Lineage) (found : List Redo) (chosen : ℕ → Bool) → length (installs groups volume places lineage found chosen) ≤ most_installs groups found
few_installs groups volume places lineage found chosen =
    let few : length (installs groups volume places lineage found chosen) ≤ groups + all_groups groups found / most_in_piece = pieces_below lineage found chosen (λ group. Install group (label_of volume places group)) groups in
    let within : all_groups groups found ≤ length found = all_groups-within groups found in
    omega arith

few_fences : {A : Type 0} (groups : ℕ) (found : List Redo) (test : ℕ → Bool) (f : ℕ → A) → length (each_below groups test f) ≤ most_installs groups found
few_fences groups found test f = let few : length (each_below groups test f) ≤ groups = few_below groups test f in omega arith

few_viewed : (plan : Plan) (volume : ℕ) (client : Client) (places : List Place) (stage : Stage) → length (viewed plan volume client places stage).made ≤ most_installs (length places) client.found
few_viewed plan volume client places Unborn = few_fences (length places) client.found _ _
few_viewed plan volume client places Reading = few_fences (length places) client.found _ _
few_viewed plan volume client places Installing = few_installs (length places) volume (place_of (with_places later_group client.groups places)) client.lineage client.found (later_in (place_of client.groups) (place_in places))
few_viewed plan volume client places Writing = grind (arith, common_steps, few_installs)

pub few_taken : (plan : Plan) (volume : ℕ) (client : Client) (m : Message) → Few (most_installs plan.groups client.found) (taken plan volume client m)
few_taken plan volume client (View of places) = grind (arith, common_steps, not, Bool, Ok, few_viewed, leb-true, and_parts)
few_taken plan volume client (Report group label sender contents) = let few : 0 ≤ most_installs plan.groups client.found = omega arith in search (few_if (most_installs plan.groups client.found), few) depth 8
few_taken plan volume client (Ack group label sender reached) = let few : 0 ≤ most_installs plan.groups client.found = omega arith in search (few_if (most_installs plan.groups client.found), few) depth 8
few_taken plan volume client (Page group label sender block point bytes) = let few : 0 ≤ most_installs plan.groups client.found = omega arith in search (few_if (most_installs plan.groups client.found), few) depth 8
few_taken plan volume client m = tt

pub few_issued : (plan : Plan) (volume : ℕ) (client : Client) (changes : List Change) → Few (length changes) (issued plan volume client changes)
few_issued plan volume client changes = grind (arith, common_steps, written_many, few_if)

pub few_cut : (plan : Plan) (volume : ℕ) (client : Client) → Few (most_installs (length client.groups) (log_reported client)) (cut_client plan volume client)
few_cut plan volume client = grind (arith, common_steps, Ok, few_installs, few_then, few_if)

few_write : (volume : ℕ) (client : Client) (found : Option Redo) → Few 1 (write_of volume client found)
few_write volume client None = tt
few_write volume client (Some r) = omega arith

pub few_resent : (volume : ℕ) (client : Client) (lsn : ℕ) → Few 1 (resent volume client lsn)
few_resent volume client lsn = let few = few_write volume client (record_at client.log lsn) in search (few_if 1, few) depth 12

pub few_asked : (volume : ℕ) (client : Client) (group block : ℕ) → Few 1 (page_asked volume client group block)
few_asked volume client group block = grind (arith, common_steps)

-- ---- how many records are found

with_live-length : (lineage : Lineage) (records kept : List Redo) → length (with_live lineage records kept) ≤ length records + length kept
with_live-length lineage [] kept = omega arith
with_live-length lineage (r ∷ rest) kept = grind (arith, common_steps, with_record-length, cases_Bool, (with_live-length lineage rest kept))

found-length : (lineage : Lineage) (reports : List Contents) → length (found_in lineage reports) ≤ records_in reports
found-length lineage [] = omega arith
found-length lineage (c ∷ rest) = grind (arith, common_steps, le_trans, with_live-length, (found-length lineage rest))

-- how many records have a number of at most n
abbrev at_most : ℕ → List Redo → ℕ
at_most n [] = 0
at_most n (r ∷ rest) = (if nat_le r.lsn n then 1 else 0) + at_most n rest

one_or_none : (b : Bool) → (if b then 1 else 0) ≤ 1
one_or_none true = omega arith
one_or_none false = omega arith

at_most-length : (n : ℕ) (records : List Redo) → at_most n records ≤ length records
at_most-length n [] = omega arith
at_most-length n (r ∷ rest) = grind (arith, common_steps, at_most, one_or_none, (at_most-length n rest))

at_most-rises : (m n : ℕ) (records : List Redo) → m ≤ n → at_most m records ≤ at_most n records
at_most-rises m n [] h = omega arith
at_most-rises m n (r ∷ rest) h = grind (arith, common_steps, at_most, cases_Bool, leb-true, le-leb, (at_most-rises m n rest h))

-- a record that is above the one bound and within the other
at_most-more : (m : ℕ) (records : List Redo) (r : Redo) → IsIn r records → m < r.lsn → suc (at_most m records) ≤ at_most r.lsn records
at_most-more m [] r i h = absurd i
at_most-more m (s ∷ rest) r (inl e) h = grind (arith, common_steps, at_most, at_most-rises, lt-leb, le-leb)
at_most-more m (s ∷ rest) r (inr i) h = grind (arith, common_steps, at_most, cases_Bool, leb-true, le-leb, (at_most-more m rest r i h))

module _ (records : List Redo) (fall : VolumeLinksFall records) where
  -- a chain of so many steps has no more records than have at most the number that it begins with
  abbrev IsShort : ℕ → Type 0
  IsShort steps = (n : ℕ) → length (chain_or_none (chain_from steps records n)) ≤ at_most n records

  led : (steps : ℕ) → IsShort steps → (r : Redo) → IsIn r records → (older : Option (List Redo)) → chain_from steps records r.prev_volume ≡ older → length (chain_or_none (option_map (λ log. r ∷ log) older)) ≤ at_most r.lsn records
  led steps short r i None is = omega arith
  led steps short r i (Some older) is = grind (arith, common_steps, at_most, at_most-more)

  by_record : (steps : ℕ) → IsShort steps → (n : ℕ) (found : Option Redo) → record_at records n ≡ found → length (chain_or_none (follow found (λ r. chain_from steps records r.prev_volume))) ≤ at_most n records
  by_record steps short n None is = omega arith
  by_record steps short n (Some r) is = grind (arith, common_steps, record_at-some, option_map, at_most, led)

  chain_short : (steps : ℕ) → IsShort steps
  chain_short zero n = elim (cases_Bool (n == 0)) [ inl e ↦ rw e (omega arith) | inr e ↦ rw e (omega arith) ]
  chain_short (suc steps) n =
      let short : IsShort steps = chain_short steps in
      grind (arith, common_steps, (cases_Bool (n == 0)), (by_record steps short n (record_at records n) refl))

pub few_found : (client : Client) → VolumeLinksFall (live_reported client) → length (log_reported client) ≤ records_said client
few_found client fall = grind (arith, common_steps, at_most, chain_short, at_most-length, found-length)
